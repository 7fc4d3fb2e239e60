-- The module, its attributes and what stands before its definitions: each way out.
use Rattle.std.proofs.Common.{◌≡◌, ℕ, List, [], ◌∷◌, ◌++◌, Bool, true, false, None, Some, refl, sym, ap, ◌∙◌, subst}
use Rattle.type_kinds.specs.declared.place.Place.{Place}
use Rattle.core_scan.specs.declared.token.Token.{Token}
use Rattle.core_scan.specs.declared.sort.Sort.{Sort}
use Rattle.core_scan.specs.declared.sort.Sort.TheVariants as s
use Rattle.core_scan.specs.Sorts.{fits}
use Rattle.core_ast.specs.declared.syntax.FunName.{FunName}
use Rattle.core_ast.specs.declared.syntax.Note.{Note}
use Rattle.core_ast.specs.declared.syntax.Expr.{Expr}
use Rattle.core_ast.specs.declared.syntax.FunDefOf.{FunDefOf}
use Rattle.core_ast.specs.Model as m
use Rattle.core_ast.specs.Tree as t
use Rattle.core_parse_grammar.specs.declared.fault.PartFault.{PartFault}
use Rattle.core_parse_grammar.specs.declared.notes.Constant.{Constant}
use Rattle.core_parse_grammar.specs.Build.{text, no_note, export_names, export_places, note_module, with_note, module_of}
use Rattle.core_parse_grammar.specs.Labels.{numbered}
use Rattle.core_parse_grammar.specs.Grammar.{a, the, A, many, noted_, annotation, annotated_module, «module», attribute, function_name, definitions, constant}
use Rattle.core_parse_grammar.specs.Track.{Goes, itself, Stops}
use Rattle.core_parse_grammar.specs.Faults.{Refuses, Starts, Takes, Misses, RanOut}
use Rattle.core_parse_grammar.specs.Readings.{ReadsAnnotatedAtom, ReadsAnnotatedConstant, ReadsAnnotation, ReadsAttribute, ReadsAttributes, ReadsBareModule, ReadsConstant, ReadsDefinitions, ReadsExports, ReadsHeader, ReadsModule}
use Rattle.core_parse_grammar.proofs.Moves.{◌>>◌, stay, expand}
use Rattle.core_parse_grammar.proofs.Places.{taken, through, refused, lacking, ran_out, take_class, drop_second}
use Rattle.core_parse_grammar.proofs.Lists.{fits_only, Closes, Before, list_nothing, list_none, list_before, item_bad, item_end, item_close, item_comma, item_other}
use Rattle.core_parse_grammar.proofs.NotedExits.{Encloses, bare_passes, noted_passes}

-- a constant with or without annotation brackets
pub constant_encloses : Encloses (constant 1)
constant_encloses = record {
  opens = λ ts us t e h. taken (noted_ (the (constant 1))) (itself (noted_ (the (constant 1)))) ts us t s.OpenRound e h refl (tt, tt);
  bare = ((λ t x. refl), (λ t x. refl), tt);
  noted = ((λ t x. refl), (λ t x. refl), tt);
}

module _ (ts us : List Token) (t : Token) (q : Sort) (place : Place) (b : Starts ts t q place us) (x : Bool) (e : x ≡ fits s.OpenRound q) where
  pub bare_constant : x ≡ false → (vs : List Token) (v : Constant) → ReadsConstant 1 ts v vs → ReadsAnnotatedConstant ts vs
  bare_constant h vs v z = record { says = record { value = z.says; note = None }; passes = bare_passes (constant 1) constant_encloses ts us t q place b x e h vs z.says z.passes }

  pub noted_constant : x ≡ true → (vs : List Token) (v : Constant) → ReadsConstant 1 us v vs → (ws : List Token) (n : Note) → ReadsAnnotation vs n ws → ReadsAnnotatedConstant ts ws
  noted_constant h vs v z ws n y = record { says = record { value = z.says; note = Some y.says }; passes = noted_passes (constant 1) constant_encloses ts us t q place b x e h vs z.says z.passes ws y.says y.passes }

-- an attribute
module _ (ts : List Token) where
  attribute_0 : Goes attribute (itself attribute) (record { parts = the (noted_ (a s.Atom)) ∷ a s.Equals ∷ the (noted_ (the (constant 1))) ∷ []; build = λ _ _ _. tt } ∷ []) ts ts
  attribute_0 = expand attribute attribute [] (λ x. x) [] ts

  pub attribute_0_bad : (f : PartFault) → Refuses (noted_ (a s.Atom)) ts f → Refuses attribute ts f
  attribute_0_bad f z = refused _ _ (a s.Equals ∷ the (noted_ (the (constant 1))) ∷ []) (λ _ _ _. tt) ts ts f attribute_0 ((λ t x. refl), (λ t x. refl), tt) z

  module _ (us0 : List Token) (o0 : Token) (y0 : ReadsAnnotatedAtom ts o0 us0) where
    attribute_1 : Goes attribute (itself attribute) (record { parts = a s.Equals ∷ the (noted_ (the (constant 1))) ∷ []; build = λ _ _. tt } ∷ []) ts us0
    attribute_1 = attribute_0 >> through _ _ (a s.Equals ∷ the (noted_ (the (constant 1))) ∷ []) (λ _ _ _. tt) ts us0 y0.says y0.passes ((λ t x. refl), (λ t x. refl), tt)

    pub attribute_1_bad : (f : PartFault) → Misses s.Equals us0 f → Refuses attribute ts f
    attribute_1_bad f z = lacking _ s.Equals (the (noted_ (the (constant 1))) ∷ []) (λ _ _. tt) ts us0 f attribute_1 z

    module _ (us1 : List Token) (y1 : Takes s.Equals us0 us1) where
      attribute_2 : Goes attribute (itself attribute) (record { parts = the (noted_ (the (constant 1))) ∷ []; build = λ _. tt } ∷ []) ts us1
      attribute_2 = attribute_1 >> take_class _ s.Equals (the (noted_ (the (constant 1))) ∷ []) (λ _ _. tt) us0 us1 y1

      pub attribute_2_bad : (f : PartFault) → Refuses (noted_ (the (constant 1))) us1 f → Refuses attribute ts f
      attribute_2_bad f z = refused _ _ [] (λ _. tt) ts us1 f attribute_2 ((λ t x. refl), (λ t x. refl), tt) z

      pub attribute_ok : (us2 : List Token) → ReadsAnnotatedConstant us1 us2 → ReadsAttribute ts us2
      attribute_ok us2 y2 = record { passes = attribute_2 >> through _ _ [] (λ _. tt) us1 us2 y2.says y2.passes ((λ t x. refl), (λ t x. refl), tt) }

-- attributes with commas
pub attributes_closed : Closes s.CloseSquare attribute
attributes_closed = record { empty = λ ts left t e h. taken _ (itself _) ts left t s.CloseSquare e h refl (tt, tt); guarded = λ b. ((λ t x. refl), (λ t x. refl), tt); exact = λ z. absurd cc; own = refl; no_comma = λ z. absurd cc }

pub record AttributesBefore (ts from : List Token) : Type 0 where
  pub raw : List (Unit {0})
  pub before : Before s.CloseSquare attribute ts from raw

pub attributes_end : (ts : List Token) (f : PartFault) → RanOut ts f → Refuses (many s.CloseSquare (the attribute)) ts f
attributes_end ts f h = list_nothing s.CloseSquare attribute attributes_closed ts f h

module _ (ts us : List Token) (t : Token) (q : Sort) (place : Place) (b : Starts ts t q place us) (x : Bool) (e : x ≡ fits s.CloseSquare q) where
  pub attributes_none : x ≡ true → ReadsAttributes ts us
  attributes_none h = record { says = []; passes = list_none s.CloseSquare attribute attributes_closed ts us t b.are (ap (fits s.CloseSquare) (sym b.sort_is) ∙ sym e ∙ h) }

  pub attributes_some : x ≡ false → AttributesBefore ts ts
  attributes_some h = record { raw = []; before = list_before s.CloseSquare attribute attributes_closed ts us t b.are (ap (fits s.CloseSquare) (sym b.sort_is) ∙ sym e ∙ h) }

module _ (ts from : List Token) (u : AttributesBefore ts from) where
  pub attributes_bad : (f : PartFault) → Refuses attribute from f → Refuses (many s.CloseSquare (the attribute)) ts f
  attributes_bad f z = item_bad s.CloseSquare attribute attributes_closed ts from u.raw u.before f z

  module _ (us : List Token) (r : ReadsAttribute from us) where
    pub attributes_ended : (f : PartFault) → RanOut us f → Refuses (many s.CloseSquare (the attribute)) ts f
    attributes_ended f z = item_end s.CloseSquare attribute attributes_closed ts from u.raw u.before us tt r.passes f z

    module _ (vs : List Token) (t : Token) (q : Sort) (place : Place) (b : Starts us t q place vs) (x : Bool) (e : x ≡ fits s.CloseSquare q) where
      pub attributes_close : x ≡ true → ReadsAttributes ts vs
      attributes_close h = record { says = u.raw ++ tt ∷ []; passes = item_close s.CloseSquare attribute attributes_closed ts from u.raw u.before us tt r.passes vs t b.are (ap (fits s.CloseSquare) (sym b.sort_is) ∙ sym e ∙ h) }

      module _ (h : x ≡ false) (y : Bool) (g : y ≡ fits s.Comma q) where
        pub attributes_other : y ≡ false → Stops (many s.CloseSquare (the attribute)) (itself (many s.CloseSquare (the attribute))) ts place
        attributes_other l = subst (Stops (many s.CloseSquare (the attribute)) (itself (many s.CloseSquare (the attribute))) ts) (sym b.place_is)
            (item_other s.CloseSquare attribute attributes_closed ts from u.raw u.before us tt r.passes vs t b.are (ap (fits s.CloseSquare) (sym b.sort_is) ∙ sym e ∙ h) (ap (fits s.Comma) (sym b.sort_is) ∙ sym g ∙ l))

        pub attributes_comma : y ≡ true → AttributesBefore ts vs
        attributes_comma l = record { raw = u.raw ++ tt ∷ []; before = item_comma s.CloseSquare attribute attributes_closed ts from u.raw u.before us tt r.passes vs t b.are (ap (fits s.Comma) (sym b.sort_is) ∙ sym g ∙ l) }

-- what stands before the definitions
module _ (ts : List Token) where
  header_0 : Goes «module» (itself «module») (record {
    parts = a s.Module ∷ the (noted_ (a s.Atom)) ∷ a s.OpenSquare ∷ the (many s.CloseSquare (the (noted_ (the function_name)))) ∷ a s.Attributes ∷ a s.OpenSquare
        ∷ the (many s.CloseSquare (the attribute)) ∷ the (definitions s.End 1) ∷ [];
    build = λ _ x _ es _ _ _ ds. module_of x.value es (t.defs ds);
  } ∷ []) ts ts
  header_0 = expand «module» «module» [] (λ x. x) [] ts

  pub header_0_bad : (f : PartFault) → Misses s.Module ts f → Refuses «module» ts f
  header_0_bad f z = lacking _ s.Module _ _ ts ts f header_0 z

  module _ (us0 : List Token) (y0 : Takes s.Module ts us0) where
    header_1 : Goes «module» (itself «module») (record {
      parts = the (noted_ (a s.Atom)) ∷ a s.OpenSquare ∷ the (many s.CloseSquare (the (noted_ (the function_name)))) ∷ a s.Attributes ∷ a s.OpenSquare
          ∷ the (many s.CloseSquare (the attribute)) ∷ the (definitions s.End 1) ∷ [];
      build = λ x _ es _ _ _ ds. module_of x.value es (t.defs ds);
    } ∷ []) ts us0
    header_1 = header_0 >> take_class _ s.Module (the (noted_ (a s.Atom)) ∷ a s.OpenSquare ∷ the (many s.CloseSquare (the (noted_ (the function_name)))) ∷ a s.Attributes ∷ a s.OpenSquare ∷ the (many s.CloseSquare (the attribute))
        ∷ the (definitions s.End 1) ∷ []) (λ _ x _ es _ _ _ ds. module_of x.value es (t.defs ds)) ts us0 y0

    pub header_1_bad : (f : PartFault) → Refuses (noted_ (a s.Atom)) us0 f → Refuses «module» ts f
    header_1_bad f z = refused _ _ (a s.OpenSquare ∷ the (many s.CloseSquare (the (noted_ (the function_name)))) ∷ a s.Attributes ∷ a s.OpenSquare ∷ the (many s.CloseSquare (the attribute)) ∷ the (definitions s.End 1) ∷ [])
        (λ x _ es _ _ _ ds. module_of x.value es (t.defs ds)) ts us0 f header_1 ((λ t x. refl), (λ t x. refl), tt) z

    module _ (us1 : List Token) (o1 : Token) (y1 : ReadsAnnotatedAtom us0 o1 us1) where
      header_2 : Goes «module» (itself «module») (record {
        parts = a s.OpenSquare ∷ the (many s.CloseSquare (the (noted_ (the function_name)))) ∷ a s.Attributes ∷ a s.OpenSquare ∷ the (many s.CloseSquare (the attribute))
            ∷ the (definitions s.End 1) ∷ [];
        build = λ _ es _ _ _ ds. module_of y1.says.value es (t.defs ds);
      } ∷ []) ts us1
      header_2 = header_1 >> through _ _ (a s.OpenSquare ∷ the (many s.CloseSquare (the (noted_ (the function_name)))) ∷ a s.Attributes ∷ a s.OpenSquare ∷ the (many s.CloseSquare (the attribute)) ∷ the (definitions s.End 1)
          ∷ []) (λ x _ es _ _ _ ds. module_of x.value es (t.defs ds)) us0 us1 y1.says y1.passes ((λ t x. refl), (λ t x. refl), tt)

      pub header_2_bad : (f : PartFault) → Misses s.OpenSquare us1 f → Refuses «module» ts f
      header_2_bad f z = lacking _ s.OpenSquare (the (many s.CloseSquare (the (noted_ (the function_name)))) ∷ a s.Attributes ∷ a s.OpenSquare ∷ the (many s.CloseSquare (the attribute)) ∷ the (definitions s.End 1) ∷ [])
          (λ _ es _ _ _ ds. module_of y1.says.value es (t.defs ds)) ts us1 f header_2 z

      module _ (us2 : List Token) (y2 : Takes s.OpenSquare us1 us2) where
        header_3 : Goes «module» (itself «module») (record {
          parts = the (many s.CloseSquare (the (noted_ (the function_name)))) ∷ a s.Attributes ∷ a s.OpenSquare ∷ the (many s.CloseSquare (the attribute))
              ∷ the (definitions s.End 1) ∷ [];
          build = λ es _ _ _ ds. module_of y1.says.value es (t.defs ds);
        } ∷ []) ts us2
        header_3 = header_2 >> take_class _ s.OpenSquare (the (many s.CloseSquare (the (noted_ (the function_name)))) ∷ a s.Attributes ∷ a s.OpenSquare ∷ the (many s.CloseSquare (the attribute)) ∷ the (definitions s.End 1) ∷ [])
            (λ _ es _ _ _ ds. module_of y1.says.value es (t.defs ds)) us1 us2 y2

        pub header_3_bad : (f : PartFault) → Refuses (many s.CloseSquare (A (the function_name))) us2 f → Refuses «module» ts f
        header_3_bad f z = refused _ _ (a s.Attributes ∷ a s.OpenSquare ∷ the (many s.CloseSquare (the attribute)) ∷ the (definitions s.End 1) ∷ []) (λ es _ _ _ ds. module_of y1.says.value es (t.defs ds)) ts us2 f header_3
            ((λ t x. refl), (λ t x. refl), tt) z

        module _ (us3 : List Token) (names : List FunName) (places : List Place) (y3 : ReadsExports us2 names places us3) where
          header_4 : Goes «module» (itself «module») (record {
            parts = a s.Attributes ∷ a s.OpenSquare ∷ the (many s.CloseSquare (the attribute)) ∷ the (definitions s.End 1) ∷ [];
            build = λ _ _ _ ds. module_of y1.says.value y3.says (t.defs ds);
          } ∷ []) ts us3
          header_4 = header_3 >> through _ _ (a s.Attributes ∷ a s.OpenSquare ∷ the (many s.CloseSquare (the attribute)) ∷ the (definitions s.End 1) ∷ [])
              (λ es _ _ _ ds. module_of y1.says.value es (t.defs ds)) us2 us3 y3.says y3.passes ((λ t x. refl), (λ t x. refl), tt)

          pub header_4_bad : (f : PartFault) → Misses s.Attributes us3 f → Refuses «module» ts f
          header_4_bad f z = lacking _ s.Attributes (a s.OpenSquare ∷ the (many s.CloseSquare (the attribute)) ∷ the (definitions s.End 1) ∷ []) (λ _ _ _ ds. module_of y1.says.value y3.says (t.defs ds)) ts us3 f header_4 z

          module _ (us4 : List Token) (y4 : Takes s.Attributes us3 us4) where
            header_5 : Goes «module» (itself «module») (record { parts = a s.OpenSquare ∷ the (many s.CloseSquare (the attribute)) ∷ the (definitions s.End 1) ∷ []; build = λ _ _ ds. module_of y1.says.value y3.says (t.defs ds) }
                ∷ []) ts us4
            header_5 = header_4 >> take_class _ s.Attributes (a s.OpenSquare ∷ the (many s.CloseSquare (the attribute)) ∷ the (definitions s.End 1) ∷ []) (λ _ _ _ ds. module_of y1.says.value y3.says (t.defs ds)) us3 us4 y4

            pub header_5_bad : (f : PartFault) → Misses s.OpenSquare us4 f → Refuses «module» ts f
            header_5_bad f z = lacking _ s.OpenSquare (the (many s.CloseSquare (the attribute)) ∷ the (definitions s.End 1) ∷ []) (λ _ _ ds. module_of y1.says.value y3.says (t.defs ds)) ts us4 f header_5 z

            module _ (us5 : List Token) (y5 : Takes s.OpenSquare us4 us5) where
              header_6 : Goes «module» (itself «module») (record { parts = the (many s.CloseSquare (the attribute)) ∷ the (definitions s.End 1) ∷ []; build = λ _ ds. module_of y1.says.value y3.says (t.defs ds) } ∷ []) ts us5
              header_6 = header_5 >> take_class _ s.OpenSquare (the (many s.CloseSquare (the attribute)) ∷ the (definitions s.End 1) ∷ []) (λ _ _ ds. module_of y1.says.value y3.says (t.defs ds)) us4 us5 y5

              pub header_6_bad : (f : PartFault) → Refuses (many s.CloseSquare (the attribute)) us5 f → Refuses «module» ts f
              header_6_bad f z = refused _ _ (the (definitions s.End 1) ∷ []) (λ _ ds. module_of y1.says.value y3.says (t.defs ds)) ts us5 f header_6 ((λ t x. refl), (λ t x. refl), tt) z

              pub header_ok : (us6 : List Token) → ReadsAttributes us5 us6 → ReadsHeader ts o1 names places us6
              header_ok us6 y6 = record {
                exports = y3.says;
                goes = subst (λ k. Goes «module» (itself «module») (record { parts = the (definitions s.End 1) ∷ []; build = λ ds. module_of k y3.says (t.defs ds) } ∷ []) ts us6) y1.agrees
                    (header_6 >> through _ _ (the (definitions s.End 1) ∷ []) (λ _ ds. module_of y1.says.value y3.says (t.defs ds)) us5 us6 y6.says y6.passes ((λ t x. refl), (λ t x. refl), tt));
                names_are = y3.names_are;
                places_are = y3.places_are;
              }

abbrev module_at : List ℕ → List FunName → List Place → m.Defs → Note → m.Module
module_at name names places defs note = record { name = name; exports = names; export_places = places; defs = defs; note = note }

-- the definitions
module _ (ts : List Token) (name : Token) (names : List FunName) (places : List Place) (us : List Token) (y : ReadsHeader ts name names places us) where
  pub definitions_bad : (f : PartFault) → Refuses (definitions s.End 1) us f → Refuses «module» ts f
  definitions_bad f z = refused _ _ [] (λ ds. module_of name y.exports (t.defs ds)) ts us f y.goes ((λ t x. refl), (λ t x. refl), tt) z

  pub module_ok : (vs : List Token) (functions : List (FunDefOf Expr)) (p : ℕ) → ReadsDefinitions s.End 1 0 us (t.all_defs functions) vs p
      → (name_ : List ℕ) → name_ ≡ text name → (defs : List (FunDefOf Expr)) → defs ≡ functions → (n : Note) → n ≡ no_note
      → ReadsBareModule ts (record { name = name_; exports = names; export_places = places; defs = t.all_defs defs; note = n }) vs
  module_ok vs functions p z name_ g defs h n i = record {
    says = module_of name y.exports (t.defs z.says);
    passes = y.goes >> through _ _ [] (λ ds. module_of name y.exports (t.defs ds)) us vs z.says z.passes ((λ t x. refl), (λ t x. refl), tt);
    agrees = ap (λ (r : m.Defs × ℕ). module_at (text name) (export_names y.exports) (export_places y.exports) r.0 no_note) z.agrees
        ∙ ap (λ es. module_at (text name) es (export_places y.exports) (t.all_defs functions) no_note) y.names_are
        ∙ ap (λ ps. module_at (text name) names ps (t.all_defs functions) no_note) y.places_are
        ∙ ap (λ k. module_at k names places (t.all_defs functions) no_note) (sym g)
        ∙ ap (λ ds. module_at name_ names places (t.all_defs ds) no_note) (sym h)
        ∙ ap (λ k. module_at name_ names places (t.all_defs defs) k) (sym i);
  }

-- with or without annotation brackets
pub module_end : (ts : List Token) (f : PartFault) → RanOut ts f → Refuses annotated_module ts f
module_end ts f z = ran_out annotated_module (itself annotated_module) ts ts f (stay annotated_module (itself annotated_module) ts) tt refl z

module _ (ts us : List Token) (t : Token) (q : Sort) (place : Place) (b : Starts ts t q place us) (x : Bool) (e : x ≡ fits s.OpenRound q) where
  module _ (h : x ≡ false) where
    plain_0 : Goes annotated_module (itself annotated_module) (record { parts = the «module» ∷ []; build = λ x. x } ∷ []) ts ts
    plain_0 = expand annotated_module annotated_module [] (λ x. x) [] ts
        >> expand annotated_module (noted_ (the «module»)) [] (λ x. with_note note_module x) [] ts
        >> drop_second _ _ _ _ ts us t b.are (ap (fits s.OpenRound) (sym b.sort_is) ∙ sym e ∙ h)

    pub plain_bad : (f : PartFault) → Refuses «module» ts f → Refuses annotated_module ts f
    plain_bad f z = refused _ _ [] (λ x. x) ts ts f plain_0 ((λ t x. refl), (λ t x. refl), tt) z

    pub plain_ok : (vs : List Token) (made : m.Module) → ReadsBareModule ts made vs → ReadsModule ts made vs
    plain_ok vs made z = record { says = z.says; passes = plain_0 >> through _ _ [] (λ x. x) ts vs z.says z.passes ((λ t x. refl), (λ t x. refl), tt); agrees = z.agrees }

  module _ (h : x ≡ true) where
    round_0 : Goes annotated_module (itself annotated_module) (record { parts = the «module» ∷ the annotation ∷ []; build = λ x n. note_module n x } ∷ []) ts us
    round_0 = taken annotated_module (itself annotated_module) ts us t s.OpenRound b.are (sym b.sort_is ∙ fits_only s.OpenRound q (λ z. absurd cc) (sym e ∙ h)) refl (tt, tt)

    pub round_bad : (f : PartFault) → Refuses «module» us f → Refuses annotated_module ts f
    round_bad f z = refused _ _ (the annotation ∷ []) (λ x n. note_module n x) ts us f round_0 ((λ t x. refl), (λ t x. refl), tt) z

    module _ (vs : List Token) (inner : m.Module) (z : ReadsBareModule us inner vs) where
      round_1 : Goes annotated_module (itself annotated_module) (record { parts = the annotation ∷ []; build = λ n. note_module n z.says } ∷ []) ts vs
      round_1 = round_0 >> through _ _ (the annotation ∷ []) (λ x n. note_module n x) us vs z.says z.passes ((λ t x. refl), (λ t x. refl), tt)

      pub round_note_bad : (f : PartFault) → Refuses annotation vs f → Refuses annotated_module ts f
      round_note_bad f y = refused _ _ [] (λ n. note_module n z.says) ts vs f round_1 ((λ t x. refl), (λ t x. refl), tt) y

      pub round_ok : (ws : List Token) (n : Note) → ReadsAnnotation vs n ws → (made : m.Module) → made ≡ note_module n inner → ReadsModule ts made ws
      round_ok ws n y made g = record {
        says = note_module y.says z.says;
        passes = round_1 >> through _ _ [] (λ n. note_module n z.says) vs ws y.says y.passes ((λ t x. refl), (λ t x. refl), tt);
        agrees = ap (λ k. note_module k (numbered z.says)) y.agrees ∙ ap (λ k. note_module n k) z.agrees ∙ sym g;
      }
