-- Functions' names and atoms, with and without annotation brackets: each way out.
use Rattle.std.proofs.Common.{◌≡◌, List, [], ◌∷◌, ◌++◌, Bool, true, false, None, Some, refl, sym, ap, ◌∙◌, subst}
use Rattle.type_kinds.specs.declared.place.Place.{Place}
use Rattle.core_scan.specs.declared.token.Token.{Token}
use Rattle.core_scan.specs.declared.sort.Sort.{Sort}
use Rattle.core_scan.specs.declared.sort.Sort.TheVariants as s
use Rattle.core_scan.specs.Sorts.{fits}
use Rattle.core_ast.specs.declared.syntax.FunName.{FunName}
use Rattle.core_ast.specs.declared.syntax.Note.{Note}
use Rattle.core_parse_grammar.specs.declared.fault.PartFault.{PartFault}
use Rattle.core_parse_grammar.specs.declared.fault.PartFault.TheVariants.{Syntax}
use Rattle.core_parse_grammar.specs.Build.{fun_name, Noted, NameAt, export_names, export_places}
use Rattle.core_parse_grammar.specs.Grammar.{a, the, A, many, noted_, function_name}
use Rattle.core_parse_grammar.specs.Track.{Goes, itself, Stops}
use Rattle.core_parse_grammar.specs.Faults.{Refuses, Starts, Takes, Misses, RanOut}
use Rattle.core_parse_grammar.specs.Readings.{ReadsAnnotation, ReadsFunctionName, ReadsExport, ReadsExports}
use Rattle.core_parse_grammar.proofs.Moves.{◌>>◌, expand}
use Rattle.core_parse_grammar.proofs.Places.{taken, lacking, ran_out, take_class}
use Rattle.core_parse_grammar.proofs.LeafExits.{take_it, take_not}
use Rattle.core_parse_grammar.proofs.Lists.{Closes, Before, list_nothing, list_none, list_before, item_bad, item_end, item_close, item_comma, item_other}
use Rattle.core_parse_grammar.proofs.NotedExits.{Encloses, bare_passes, noted_passes}

-- a name
module _ (ts : List Token) where
  name_0 : Goes function_name (itself function_name) (record { parts = a s.Atom ∷ a s.Slash ∷ a s.Small ∷ []; build = λ x _ n. record { place = x.place; name = fun_name x n } } ∷ []) ts ts
  name_0 = expand function_name function_name [] (λ x. x) [] ts

  pub name_end : (f : PartFault) → RanOut ts f → Refuses function_name ts f
  name_end f z = ran_out function_name _ ts ts f name_0 tt refl z

  module _ (us : List Token) (t : Token) (q : Sort) (place : Place) (b : Starts ts t q place us) where
    pub name_other : (x : Bool) → x ≡ fits s.Atom q → x ≡ false → Stops function_name (itself function_name) ts place
    name_other x e h = lacking _ s.Atom (a s.Slash ∷ a s.Small ∷ []) (λ x _ n. record { place = x.place; name = fun_name x n }) ts ts (Syntax place) name_0 (take_not s.Atom ts us t q place b x e h)

    module _ (x : Bool) (e : x ≡ fits s.Atom q) (h : x ≡ true) where
      name_1 : Goes function_name (itself function_name) (record { parts = a s.Slash ∷ a s.Small ∷ []; build = λ _ n. record { place = t.place; name = fun_name t n } } ∷ []) ts us
      name_1 = name_0 >> take_class _ s.Atom (a s.Slash ∷ a s.Small ∷ []) (λ x _ n. record { place = x.place; name = fun_name x n }) ts us (take_it s.Atom ts us t q place b x e h)

      pub name_slash : (f : PartFault) → Misses s.Slash us f → Refuses function_name ts f
      name_slash f z = lacking _ s.Slash (a s.Small ∷ []) (λ _ n. record { place = t.place; name = fun_name t n }) ts us f name_1 z

      module _ (vs : List Token) (z : Takes s.Slash us vs) where
        name_2 : Goes function_name (itself function_name) (record { parts = a s.Small ∷ []; build = λ n. record { place = t.place; name = fun_name t n } } ∷ []) ts vs
        name_2 = name_1 >> take_class _ s.Slash (a s.Small ∷ []) (λ _ n. record { place = t.place; name = fun_name t n }) us vs z

        pub name_number : (f : PartFault) → RanOut vs f → Refuses function_name ts f
        name_number f y = ran_out function_name _ ts vs f name_2 tt refl y

        module _ (ws : List Token) (u : Token) (r : Sort) (there : Place) (c : Starts vs u r there ws) where
          pub name_large : (y : Bool) → y ≡ fits s.Small r → y ≡ false → Stops function_name (itself function_name) ts there
          name_large y i g = lacking _ s.Small [] (λ n. record { place = t.place; name = fun_name t n }) ts vs (Syntax there) name_2 (take_not s.Small vs ws u r there c y i g)

          pub name_read : (y : Bool) → y ≡ fits s.Small r → y ≡ true → ReadsFunctionName ts place (fun_name t u) ws
          name_read y i g = record {
            says = record { place = t.place; name = fun_name t u };
            passes = name_2 >> take_class _ s.Small [] (λ n. record { place = t.place; name = fun_name t n }) vs ws (take_it s.Small vs ws u r there c y i g);
            name_is = refl;
            place_is = sym b.place_is;
          }

-- a name with or without annotation brackets
pub name_encloses : Encloses function_name
name_encloses = record {
  opens = λ ts us t e h. taken (noted_ (the function_name)) (itself (noted_ (the function_name))) ts us t s.OpenRound e h refl (tt, tt);
  bare = ((λ t x. refl), (λ t x. refl), tt);
  noted = ((λ t x. refl), (λ t x. refl), tt);
}

module _ (ts us : List Token) (t : Token) (q : Sort) (at_ : Place) (b : Starts ts t q at_ us) (x : Bool) (e : x ≡ fits s.OpenRound q) where
  pub bare_name : x ≡ false → (vs : List Token) (place : Place) (name : FunName) → ReadsFunctionName ts place name vs → ReadsExport ts place name vs
  bare_name h vs place name z = record {
    says = record { value = z.says; note = None };
    passes = bare_passes function_name name_encloses ts us t q at_ b x e h vs z.says z.passes;
    name_is = z.name_is;
    place_is = z.place_is;
  }

  pub noted_name : x ≡ true → (vs : List Token) (place : Place) (name : FunName) → ReadsFunctionName us place name vs → (ws : List Token) (n : Note) → ReadsAnnotation vs n ws → ReadsExport ts place name ws
  noted_name h vs place name z ws n y = record {
    says = record { value = z.says; note = Some y.says };
    passes = noted_passes function_name name_encloses ts us t q at_ b x e h vs z.says z.passes ws y.says y.passes;
    name_is = z.name_is;
    place_is = z.place_is;
  }

-- exports
pub exports_close : Closes s.CloseSquare (noted_ (the function_name))
exports_close = record {
  empty = λ ts left t e h. taken _ (itself _) ts left t s.CloseSquare e h refl (tt, tt);
  guarded = λ b. ((λ t x. refl), (λ t x. refl), tt);
  exact = λ z. absurd cc;
  own = refl;
  no_comma = λ z. absurd cc;
}

-- exports so far, in front of another
pub record ExportsBefore (ts from : List Token) (names : List FunName) (places : List Place) : Type 0 where
  pub raw : List (Noted NameAt)
  pub before : Before s.CloseSquare (noted_ (the function_name)) ts from raw
  pub names_are : export_names raw ≡ names
  pub places_are : export_places raw ≡ places

names_append : (xs ys : List (Noted NameAt)) → export_names (xs ++ ys) ≡ export_names xs ++ export_names ys
names_append [] ys = refl
names_append (x ∷ xs) ys = ap (λ z. x.value.name ∷ z) (names_append xs ys)

places_append : (xs ys : List (Noted NameAt)) → export_places (xs ++ ys) ≡ export_places xs ++ export_places ys
places_append [] ys = refl
places_append (x ∷ xs) ys = ap (λ z. x.value.place ∷ z) (places_append xs ys)

pub exports_end : (ts : List Token) (f : PartFault) → RanOut ts f → Refuses (many s.CloseSquare (A (the function_name))) ts f
exports_end ts f z = list_nothing s.CloseSquare (noted_ (the function_name)) exports_close ts f z

module _ (ts us : List Token) (t : Token) (q : Sort) (place : Place) (b : Starts ts t q place us) (x : Bool) (e : x ≡ fits s.CloseSquare q) where
  pub exports_none : x ≡ true → (names : List FunName) (places : List Place) → names ≡ [] → places ≡ [] → ReadsExports ts names places us
  exports_none h names places i j = record {
    says = [];
    passes = list_none s.CloseSquare (noted_ (the function_name)) exports_close ts us t b.are (ap (fits s.CloseSquare) (sym b.sort_is) ∙ sym e ∙ h);
    names_are = sym i;
    places_are = sym j;
  }

  pub exports_some : x ≡ false → (names : List FunName) (places : List Place) → names ≡ [] → places ≡ [] → ExportsBefore ts ts names places
  exports_some h names places i j = record {
    raw = [];
    before = list_before s.CloseSquare (noted_ (the function_name)) exports_close ts us t b.are (ap (fits s.CloseSquare) (sym b.sort_is) ∙ sym e ∙ h);
    names_are = sym i;
    places_are = sym j;
  }

module _ (ts from : List Token) (names : List FunName) (places : List Place) (u : ExportsBefore ts from names places) where
  pub export_bad : (f : PartFault) → Refuses (noted_ (the function_name)) from f → Refuses (many s.CloseSquare (A (the function_name))) ts f
  export_bad f z = item_bad s.CloseSquare (noted_ (the function_name)) exports_close ts from u.raw u.before f z

  module _ (us : List Token) (at_ : Place) (name : FunName) (r : ReadsExport from at_ name us) where
    pub export_end : (f : PartFault) → RanOut us f → Refuses (many s.CloseSquare (A (the function_name))) ts f
    export_end f z = item_end s.CloseSquare (noted_ (the function_name)) exports_close ts from u.raw u.before us r.says r.passes f z

    module _ (names_ : List FunName) (places_ : List Place) (i : names_ ≡ names ++ name ∷ []) (j : places_ ≡ places ++ at_ ∷ []) where
      more_names : export_names (u.raw ++ r.says ∷ []) ≡ names_
      more_names = names_append u.raw (r.says ∷ []) ∙ ap (λ z. z ++ r.says.value.name ∷ []) u.names_are ∙ ap (λ z. names ++ z ∷ []) r.name_is ∙ sym i

      more_places : export_places (u.raw ++ r.says ∷ []) ≡ places_
      more_places = places_append u.raw (r.says ∷ []) ∙ ap (λ z. z ++ r.says.value.place ∷ []) u.places_are ∙ ap (λ z. places ++ z ∷ []) r.place_is ∙ sym j

      module _ (vs : List Token) (t : Token) (q : Sort) (place : Place) (b : Starts us t q place vs) (x : Bool) (e : x ≡ fits s.CloseSquare q) where
        pub export_close : x ≡ true → ReadsExports ts names_ places_ vs
        export_close h = record {
          says = u.raw ++ r.says ∷ [];
          passes = item_close s.CloseSquare (noted_ (the function_name)) exports_close ts from u.raw u.before us r.says r.passes vs t b.are (ap (fits s.CloseSquare) (sym b.sort_is) ∙ sym e ∙ h);
          names_are = more_names;
          places_are = more_places;
        }

        module _ (h : x ≡ false) (y : Bool) (g : y ≡ fits s.Comma q) where
          pub export_other : y ≡ false → Stops (many s.CloseSquare (A (the function_name))) (itself (many s.CloseSquare (A (the function_name)))) ts place
          export_other k = subst (Stops (many s.CloseSquare (A (the function_name))) (itself (many s.CloseSquare (A (the function_name)))) ts) (sym b.place_is)
              (item_other s.CloseSquare (noted_ (the function_name)) exports_close ts from u.raw u.before us r.says r.passes vs t b.are (ap (fits s.CloseSquare) (sym b.sort_is) ∙ sym e ∙ h)
              (ap (fits s.Comma) (sym b.sort_is) ∙ sym g ∙ k))

          pub export_comma : y ≡ true → ExportsBefore ts vs names_ places_
          export_comma k = record {
            raw = u.raw ++ r.says ∷ [];
            before = item_comma s.CloseSquare (noted_ (the function_name)) exports_close ts from u.raw u.before us r.says r.passes vs t b.are (ap (fits s.Comma) (sym b.sort_is) ∙ sym g ∙ k);
            names_are = more_names;
            places_are = more_places;
          }
