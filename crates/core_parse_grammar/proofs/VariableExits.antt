-- Variables, and lists of them: each way out.
use Rattle.std.proofs.Common.{◌≡◌, List, [], ◌∷◌, ◌++◌, Bool, true, false, refl, sym, ap, ◌∙◌, subst}
use Rattle.type_kinds.specs.declared.place.Place.{Place}
use Rattle.core_scan.specs.declared.token.Token.{Token}
use Rattle.core_scan.specs.declared.sort.Sort.{Sort}
use Rattle.core_scan.specs.declared.sort.Sort.TheVariants as s
use Rattle.core_scan.specs.Sorts.{sort, fits}
use Rattle.core_ast.specs.declared.syntax.Note.{Note}
use Rattle.core_ast.specs.declared.syntax.VarName.{VarName}
use Rattle.core_parse_grammar.specs.declared.fault.PartFault.{PartFault}
use Rattle.core_parse_grammar.specs.declared.fault.PartFault.TheVariants.{Syntax}
use Rattle.core_parse_grammar.specs.Build.{text, no_note, variable_name}
use Rattle.core_parse_grammar.specs.Grammar.{a, the, many, annotation, variable, variables}
use Rattle.core_parse_grammar.specs.Track.{Goes, itself, Stops}
use Rattle.core_parse_grammar.specs.Faults.{Refuses, Starts, RanOut, closing}
use Rattle.core_parse_grammar.specs.Readings.{ReadsAnnotation, ReadsVariable, ReadsVariables, ReadsVariablesTo}
use Rattle.core_parse_grammar.proofs.Moves.{◌>>◌, stay, expand}
use Rattle.core_parse_grammar.proofs.Places.{taken, halted, Shut, through, refused, lacking, ran_out, drop_second}
use Rattle.core_parse_grammar.proofs.LeafExits.{take_not}
use Rattle.core_parse_grammar.proofs.Lists.{fits_only, Closes, Before, list_nothing, list_none, list_before, item_bad, item_end, item_close, item_comma, item_other}

-- the variable of a token at a place
abbrev name_at : Place → Token → Note → VarName
name_at place t n = record { name = text t; place = place; note = n }

pub variable_end : (ts : List Token) (f : PartFault) → RanOut ts f → Refuses variable ts f
variable_end ts f h = ran_out variable (itself variable) ts ts f (stay variable (itself variable) ts) tt refl h

module _ (ts us : List Token) (t : Token) (q : Sort) (place : Place) (b : Starts ts t q place us) (x : Bool) (e : x ≡ fits s.Variable q) where
  pub variable_bare : x ≡ true → (v : VarName) (n : Note) → v ≡ name_at place t n → n ≡ no_note → ReadsVariable ts v us
  variable_bare h v n g i = record {
    says = name_at t.place t no_note;
    passes = taken variable (itself variable) ts us t s.Variable b.are (sym b.sort_is ∙ fits_only s.Variable q (λ z. absurd cc) (sym e ∙ h)) refl (tt, tt);
    agrees = ap (λ p. name_at p t no_note) (sym b.place_is) ∙ ap (name_at place t) (sym i) ∙ sym g;
  }

  module _ (h : x ≡ false) (y : Bool) (i : y ≡ fits s.OpenRound q) where
    pub variable_other : y ≡ false → Stops variable (itself variable) ts place
    variable_other j = subst (Stops variable (itself variable) ts) (sym b.place_is)
        (halted variable _ _ ts ts us t (stay variable (itself variable) ts) b.are tt (go (sort t) (ap (fits s.Variable) (sym b.sort_is) ∙ sym e ∙ h) (ap (fits s.OpenRound) (sym b.sort_is) ∙ sym i ∙ j)))
      where
        go : (q : Sort) → fits s.Variable q ≡ false → fits s.OpenRound q ≡ false → Shut variable t q (itself variable)
        go s.Variable x y = absurd cc
        go s.OpenRound x y = absurd cc
        go _ x y = (refl, refl)

    module _ (j : y ≡ true) where
      round : Goes variable (itself variable) (record { parts = a s.Variable ∷ the annotation ∷ []; build = λ u n. variable_name u.place u n } ∷ []) ts us
      round = taken variable (itself variable) ts us t s.OpenRound b.are (sym b.sort_is ∙ fits_only s.OpenRound q (λ z. absurd cc) (sym i ∙ j)) refl (tt, tt)

      pub round_end : (f : PartFault) → RanOut us f → Refuses variable ts f
      round_end f z = ran_out variable _ ts us f round tt refl z

      module _ (vs : List Token) (u : Token) (r : Sort) (there : Place) (c : Starts us u r there vs) (o : Bool) (k : o ≡ fits s.Variable r) where
        pub round_other : o ≡ false → Stops variable (itself variable) ts there
        round_other l = lacking _ s.Variable (the annotation ∷ []) (λ u n. variable_name u.place u n) ts us (Syntax there) round (take_not s.Variable us vs u r there c o k l)

        module _ (l : o ≡ true) where
          inner : Goes variable (itself variable) (record { parts = the annotation ∷ []; build = λ n. variable_name u.place u n } ∷ []) ts vs
          inner = round >> taken variable _ us vs u s.Variable c.are (sym c.sort_is ∙ fits_only s.Variable r (λ z. absurd cc) (sym k ∙ l)) refl (tt, tt)

          pub round_bad : (f : PartFault) → Refuses annotation vs f → Refuses variable ts f
          round_bad f z = refused _ _ [] (λ n. variable_name u.place u n) ts vs f inner ((λ t x. refl), (λ t x. refl), tt) z

          pub round_ok : (ws : List Token) (n : Note) (v : VarName) → ReadsAnnotation vs n ws → v ≡ name_at there u n → ReadsVariable ts v ws
          round_ok ws n v z g = record {
            says = variable_name u.place u z.says;
            passes = inner >> through _ _ [] (λ n. variable_name u.place u n) vs ws z.says z.passes ((λ t x. refl), (λ t x. refl), tt);
            agrees = ap (λ p. name_at p u z.says) (sym c.place_is) ∙ ap (name_at there u) z.agrees ∙ sym g;
          }

-- variables with commas
pub variables_closed : (c : Sort) → closing c ≡ true → Closes c variable
variables_closed s.CloseRound k = record {
  empty = λ ts left t e h. taken _ (itself _) ts left t s.CloseRound e h refl (tt, tt);
  guarded = λ b. ((λ t x. refl), (λ t x. refl), tt);
  exact = λ z. absurd cc;
  own = refl;
  no_comma = λ z. absurd cc;
}
variables_closed s.CloseCurly k = record {
  empty = λ ts left t e h. taken _ (itself _) ts left t s.CloseCurly e h refl (tt, tt);
  guarded = λ b. ((λ t x. refl), (λ t x. refl), tt);
  exact = λ z. absurd cc;
  own = refl;
  no_comma = λ z. absurd cc;
}
variables_closed s.CloseSquare k = record {
  empty = λ ts left t e h. taken _ (itself _) ts left t s.CloseSquare e h refl (tt, tt);
  guarded = λ b. ((λ t x. refl), (λ t x. refl), tt);
  exact = λ z. absurd cc;
  own = refl;
  no_comma = λ z. absurd cc;
}
variables_closed s.Greater k = record {
  empty = λ ts left t e h. taken _ (itself _) ts left t s.Greater e h refl (tt, tt);
  guarded = λ b. ((λ t x. refl), (λ t x. refl), tt);
  exact = λ z. absurd cc;
  own = refl;
  no_comma = λ z. absurd cc;
}
variables_closed s.CloseBinary k = record {
  empty = λ ts left t e h. taken _ (itself _) ts left t s.CloseBinary e h refl (tt, tt);
  guarded = λ b. ((λ t x. refl), (λ t x. refl), tt);
  exact = λ z. absurd cc;
  own = refl;
  no_comma = λ z. absurd cc;
}
variables_closed s.CloseMap k = record {
  empty = λ ts left t e h. taken _ (itself _) ts left t s.CloseMap e h refl (tt, tt);
  guarded = λ b. ((λ t x. refl), (λ t x. refl), tt);
  exact = λ z. absurd cc;
  own = refl;
  no_comma = λ z. absurd cc;
}
variables_closed _ k = absurd cc

module _ (c : Sort) (k : closing c ≡ true) where
  pub to_end : (ts : List Token) (f : PartFault) → RanOut ts f → Refuses (many c (the variable)) ts f
  to_end ts f h = list_nothing c variable (variables_closed c k) ts f h

  module _ (ts us : List Token) (t : Token) (q : Sort) (place : Place) (b : Starts ts t q place us) (x : Bool) (e : x ≡ fits c q) where
    pub to_none : x ≡ true → (items : List VarName) → items ≡ [] → ReadsVariablesTo c ts items us
    to_none h items i = record { says = []; passes = list_none c variable (variables_closed c k) ts us t b.are (ap (fits c) (sym b.sort_is) ∙ sym e ∙ h); agrees = sym i }

    pub to_some : x ≡ false → (items : List VarName) → items ≡ [] → Before c variable ts ts items
    to_some h items i = subst (λ z. Before c variable ts ts z) (sym i) (list_before c variable (variables_closed c k) ts us t b.are (ap (fits c) (sym b.sort_is) ∙ sym e ∙ h))

  module _ (ts from : List Token) (items : List VarName) (u : Before c variable ts from items) where
    pub to_bad : (f : PartFault) → Refuses variable from f → Refuses (many c (the variable)) ts f
    to_bad f z = item_bad c variable (variables_closed c k) ts from items u f z

    module _ (us : List Token) (x : VarName) (r : ReadsVariable from x us) where
      pub to_ended : (f : PartFault) → RanOut us f → Refuses (many c (the variable)) ts f
      to_ended f z = item_end c variable (variables_closed c k) ts from items u us r.says r.passes f z

      module _ (more : List VarName) (i : more ≡ items ++ x ∷ []) where
        more_is : items ++ r.says ∷ [] ≡ more
        more_is = ap (λ z. items ++ z ∷ []) r.agrees ∙ sym i

        module _ (vs : List Token) (t : Token) (q : Sort) (place : Place) (b : Starts us t q place vs) (x_ : Bool) (e : x_ ≡ fits c q) where
          pub to_close : x_ ≡ true → ReadsVariablesTo c ts more vs
          to_close h = record { says = items ++ r.says ∷ []; passes = item_close c variable (variables_closed c k) ts from items u us r.says r.passes vs t b.are (ap (fits c) (sym b.sort_is) ∙ sym e ∙ h); agrees = more_is }

          module _ (h : x_ ≡ false) (y : Bool) (g : y ≡ fits s.Comma q) where
            pub to_other : y ≡ false → Stops (many c (the variable)) (itself (many c (the variable))) ts place
            to_other l = subst (Stops (many c (the variable)) (itself (many c (the variable))) ts) (sym b.place_is)
                (item_other c variable (variables_closed c k) ts from items u us r.says r.passes vs t b.are (ap (fits c) (sym b.sort_is) ∙ sym e ∙ h) (ap (fits s.Comma) (sym b.sort_is) ∙ sym g ∙ l))

            pub to_comma : y ≡ true → Before c variable ts vs more
            to_comma l = subst (λ z. Before c variable ts vs z) more_is (item_comma c variable (variables_closed c k) ts from items u us r.says r.passes vs t b.are (ap (fits s.Comma) (sym b.sort_is) ∙ sym g ∙ l))

-- one variable, or variables in angle brackets
pub variables_end : (ts : List Token) (f : PartFault) → RanOut ts f → Refuses variables ts f
variables_end ts f h = ran_out variables (itself variables) ts ts f (stay variables (itself variables) ts) tt refl h

module _ (ts us : List Token) (t : Token) (q : Sort) (place : Place) (b : Starts ts t q place us) (x : Bool) (e : x ≡ fits s.Less q) where
  module _ (h : x ≡ true) where
    angle : Goes variables (itself variables) (record { parts = the (many s.Greater (the variable)) ∷ []; build = λ xs. xs } ∷ []) ts us
    angle = taken variables (itself variables) ts us t s.Less b.are (sym b.sort_is ∙ fits_only s.Less q (λ z. absurd cc) (sym e ∙ h)) refl (tt, tt)

    pub angle_bad : (f : PartFault) → Refuses (many s.Greater (the variable)) us f → Refuses variables ts f
    angle_bad f z = refused _ _ [] (λ xs. xs) ts us f angle ((λ t x. refl), (λ t x. refl), tt) z

    pub angle_ok : (vs : List Token) (xs : List VarName) → ReadsVariablesTo s.Greater us xs vs → ReadsVariables ts xs vs
    angle_ok vs xs z = record { says = z.says; passes = angle >> through _ _ [] (λ xs. xs) us vs z.says z.passes ((λ t x. refl), (λ t x. refl), tt); agrees = z.agrees }

  module _ (h : x ≡ false) where
    alone : Goes variables (itself variables) (record { parts = the variable ∷ []; build = λ x. x ∷ [] } ∷ []) ts ts
    alone = expand variables variables [] (λ x. x) [] ts >> drop_second _ _ _ _ ts us t b.are (ap (fits s.Less) (sym b.sort_is) ∙ sym e ∙ h)

    pub alone_bad : (f : PartFault) → Refuses variable ts f → Refuses variables ts f
    alone_bad f z = refused _ _ [] (λ x. x ∷ []) ts ts f alone ((λ t x. refl), (λ t x. refl), tt) z

    pub alone_ok : (vs : List Token) (v : VarName) → ReadsVariable ts v vs → (none more : List VarName) → none ≡ [] → more ≡ none ++ v ∷ [] → ReadsVariables ts more vs
    alone_ok vs v z none more i g = record {
      says = z.says ∷ [];
      passes = alone >> through _ _ [] (λ x. x ∷ []) ts vs z.says z.passes ((λ t x. refl), (λ t x. refl), tt);
      agrees = ap (λ y. y ∷ []) z.agrees ∙ ap (λ y. y ++ v ∷ []) (sym i) ∙ sym g;
    }
