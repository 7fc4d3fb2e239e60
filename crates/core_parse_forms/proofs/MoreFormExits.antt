-- Funs, functions of a module by name, binaries and `case`: each way out.
use Rattle.std.proofs.Common.{◌≡◌, ℕ, ◌+◌, ◌≤◌, List, [], ◌∷◌, ◌++◌, false, refl, sym, ap, ◌∙◌}
use Rattle.type_kinds.specs.declared.place.Place.{Place}
use Rattle.core_scan.specs.declared.token.Token.{Token}
use Rattle.core_scan.specs.declared.sort.Sort.{Sort}
use Rattle.core_scan.specs.declared.sort.Sort.TheVariants as s
use Rattle.core_scan.specs.Sorts.{sort}
use Rattle.core_ast.specs.declared.syntax.Mark.{Mark}
use Rattle.core_ast.specs.declared.syntax.VarName.{VarName}
use Rattle.core_ast.specs.declared.syntax.Clause.{Clause}
use Rattle.core_ast.specs.declared.syntax.FunName.{FunName}
use Rattle.core_ast.specs.Model as m
use Rattle.core_ast.specs.Tree as lists
use Rattle.core_parse_grammar.specs.declared.fault.PartFault.{PartFault}
use Rattle.core_parse_grammar.specs.Begins.{depth_limit}
use Rattle.core_parse_grammar.specs.Build.{at, text}
use Rattle.core_parse_grammar.specs.Grammar.{a, the, many, function_name, variable, clause, clauses_to, segment, expression, other_expression}
use Rattle.core_parse_grammar.specs.Labels.{labelled, number_clauses}
use Rattle.core_parse_grammar.specs.Track.{Goes, itself}
use Rattle.core_parse_grammar.specs.Faults.{Refuses, Starts, Takes, Misses, MissesOrMemory, RanOut}
use Rattle.core_parse_grammar.specs.Starters.{opens_with}
use Rattle.core_parse_forms.specs.steps.Clauses.{joined, ReadsMoreClauses}
use Rattle.core_parse_grammar.specs.Readings.{mark, ReadsAtom, ReadsFunctionName, ReadsVariablesTo, ReadsExpression, ReadsOtherExpression, ReadsSegments, ReadsClause}
use Rattle.core_parse_grammar.proofs.Moves.{◌>>◌}
use Rattle.core_parse_grammar.proofs.Places.{taken, through, refused, lacking, ran_out, take_class}
use Rattle.core_parse_forms.proofs.FormExits.{made, made_with, atom_taken, atom_lacking}
use Rattle.core_parse_grammar.proofs.Lists.{fits_only}
use Rattle.core_parse_forms.proofs.Branches.{drop_unless}

-- a clause before others
two_clauses : (n p q : ℕ) (x y : lists.ClauseParts) (xs : List lists.ClauseParts) (zs : m.Clauses) → number_clauses n (lists.clauses (x ∷ [])) ≡ (lists.clauses (y ∷ []), p) → number_clauses p (lists.clauses xs) ≡ (zs, q)
    → number_clauses n (lists.clauses (x ∷ xs)) ≡ (joined (lists.clauses (y ∷ [])) zs, q)
two_clauses n p q x y xs zs e h =
    ap (λ (r : m.Clauses × ℕ). let z : m.Clauses × ℕ = (joined r.0 (number_clauses r.1 (lists.clauses xs)).0, (number_clauses r.1 (lists.clauses xs)).1) in z) e
    ∙ ap (λ (r : m.Clauses × ℕ). let z : m.Clauses × ℕ = (joined (lists.clauses (y ∷ [])) r.0, r.1) in z) h

-- a clause put behind none
pub one_clause : (old items : List Clause) (x : Clause) → old ≡ [] → items ≡ old ++ x ∷ [] → lists.all_clauses items ≡ lists.clauses (lists.clause_parts x ∷ [])
one_clause old items x e h = ap lists.all_clauses (h ∙ ap (λ z. z ++ x ∷ []) e)

module _ (d n : ℕ) (ts us : List Token) (t : Token) (q : Sort) (place : Place) (b : Starts ts t q place us) (w : d ≤ depth_limit) where
  module _ (h : q ≡ s.Fun) where
    fun_0 : Goes (other_expression d) (itself (other_expression d)) (record {
      parts = a s.OpenRound ∷ the (many s.CloseRound (the variable)) ∷ a s.Arrow ∷ the (expression (d + 1)) ∷ [];
      build = λ _ xs _ e. m.function (at t.place) xs e;
    }
        ∷ record { parts = a s.Atom ∷ a s.Colon ∷ the function_name ∷ []; build = λ x _ f. m.external (at t.place) (text x) f.name } ∷ []) ts us
    fun_0 = taken (other_expression d) (itself (other_expression d)) ts us t s.Fun b.are (sym b.sort_is ∙ h) refl ((w, (w, tt)), tt)

    pub fun_end : (f : PartFault) → RanOut us f → Refuses (other_expression d) ts f
    fun_end f z = ran_out (other_expression d) _ ts us f fun_0 tt refl z

    -- a fun
    module _ (vs : List Token) (y : Takes s.OpenRound us vs) where
      fun_1 : Goes (other_expression d) (itself (other_expression d)) (record { parts = the (many s.CloseRound (the variable)) ∷ a s.Arrow ∷ the (expression (d + 1)) ∷ []; build = λ xs _ e. m.function (at t.place) xs e } ∷ []) ts
          vs
      fun_1 = fun_0 >> taken (other_expression d) _ us vs y.first s.OpenRound y.are (fits_only s.OpenRound (sort y.first) (λ z. absurd cc) y.fits_it) refl (tt, (tt, tt))

      pub fun_1_bad : (f : PartFault) → Refuses (many s.CloseRound (the variable)) vs f → Refuses (other_expression d) ts f
      fun_1_bad f z = refused _ _ (a s.Arrow ∷ the (expression (d + 1)) ∷ []) (λ xs _ e. m.function (at t.place) xs e) ts vs f fun_1 ((λ t x. refl), (λ t x. refl), tt) z

      module _ (us0 : List Token) (o0 : List VarName) (y0 : ReadsVariablesTo s.CloseRound vs o0 us0) where
        fun_2 : Goes (other_expression d) (itself (other_expression d)) (record { parts = a s.Arrow ∷ the (expression (d + 1)) ∷ []; build = λ _ e. m.function (at t.place) y0.says e } ∷ []) ts us0
        fun_2 = fun_1 >> through _ _ (a s.Arrow ∷ the (expression (d + 1)) ∷ []) (λ xs _ e. m.function (at t.place) xs e) vs us0 y0.says y0.passes ((λ t x. refl), (λ t x. refl), tt)

        pub fun_2_bad : (f : PartFault) → Misses s.Arrow us0 f → Refuses (other_expression d) ts f
        fun_2_bad f z = lacking _ s.Arrow (the (expression (d + 1)) ∷ []) (λ _ e. m.function (at t.place) y0.says e) ts us0 f fun_2 z

        module _ (us1 : List Token) (y1 : Takes s.Arrow us0 us1) where
          fun_3 : Goes (other_expression d) (itself (other_expression d)) (record { parts = the (expression (d + 1)) ∷ []; build = λ e. m.function (at t.place) y0.says e } ∷ []) ts us1
          fun_3 = fun_2 >> take_class _ s.Arrow (the (expression (d + 1)) ∷ []) (λ _ e. m.function (at t.place) y0.says e) us0 us1 y1

          pub fun_3_bad : (f : PartFault) → Refuses (expression (d + 1)) us1 f → Refuses (other_expression d) ts f
          fun_3_bad f z = refused _ _ [] (λ e. m.function (at t.place) y0.says e) ts us1 f fun_3 ((λ t x. refl), (λ t x. refl), tt) z

          pub fun_ok : (us2 : List Token) (o2 : m.Tree) (p : ℕ) → ReadsExpression (d + 1) (n + 1) us1 o2 us2 p → (k : Mark) → k ≡ mark n place → (e : m.Tree) → e ≡ m.function k o0 o2 → ReadsOtherExpression d n ts e us2 p
          fun_ok us2 o2 p y2 k i e g = record {
            says = m.function (at t.place) y0.says y2.says;
            passes = fun_3 >> through _ _ [] (λ e. m.function (at t.place) y0.says e) us1 us2 y2.says y2.passes ((λ t x. refl), (λ t x. refl), tt);
            agrees = ap (λ (r : m.Tree × ℕ). let z : m.Tree × ℕ = (m.function (labelled n (at t.place)) y0.says r.0, r.1) in z) y2.agrees
                ∙ ap (λ xs. let z : m.Tree × ℕ = (m.function (mark n t.place) xs o2, p) in z) y0.agrees
                ∙ made_with p (λ k. m.function k o0 o2) n place t.place b.place_is k i e g;
            single = λ _. refl;
          }

    -- a function of a module
    module _ (once : opens_with s.OpenRound us ≡ false) where
      external_1 : Goes (other_expression d) (itself (other_expression d)) (record { parts = a s.Atom ∷ a s.Colon ∷ the function_name ∷ []; build = λ x _ f. m.external (at t.place) (text x) f.name } ∷ []) ts us
      external_1 = fun_0 >> drop_unless (other_expression d) s.OpenRound _ _ _ us once

      pub external_1_bad : (f : PartFault) → MissesOrMemory s.Atom us f → Refuses (other_expression d) ts f
      external_1_bad f z = atom_lacking _ (a s.Colon ∷ the function_name ∷ []) (λ x _ f. m.external (at t.place) (text x) f.name) ts us f external_1 z

      module _ (us0 : List Token) (o0 : List ℕ) (at0 : Place) (y0 : ReadsAtom us o0 at0 us0) where
        external_2 : Goes (other_expression d) (itself (other_expression d)) (record { parts = a s.Colon ∷ the function_name ∷ []; build = λ _ f. m.external (at t.place) (text y0.first) f.name } ∷ []) ts us0
        external_2 = external_1 >> take_class _ s.Atom (a s.Colon ∷ the function_name ∷ []) (λ x _ f. m.external (at t.place) (text x) f.name) us us0 (atom_taken us us0 o0 at0 y0)

        pub external_2_bad : (f : PartFault) → Misses s.Colon us0 f → Refuses (other_expression d) ts f
        external_2_bad f z = lacking _ s.Colon (the function_name ∷ []) (λ _ f. m.external (at t.place) (text y0.first) f.name) ts us0 f external_2 z

        module _ (us1 : List Token) (y1 : Takes s.Colon us0 us1) where
          external_3 : Goes (other_expression d) (itself (other_expression d)) (record { parts = the function_name ∷ []; build = λ f. m.external (at t.place) (text y0.first) f.name } ∷ []) ts us1
          external_3 = external_2 >> take_class _ s.Colon (the function_name ∷ []) (λ _ f. m.external (at t.place) (text y0.first) f.name) us0 us1 y1

          pub external_3_bad : (f : PartFault) → Refuses function_name us1 f → Refuses (other_expression d) ts f
          external_3_bad f z = refused _ _ [] (λ f. m.external (at t.place) (text y0.first) f.name) ts us1 f external_3 ((λ t x. refl), (λ t x. refl), tt) z

          pub external_ok : (us2 : List Token) (at2 : Place) (o2 : FunName) → ReadsFunctionName us1 at2 o2 us2 → (k : Mark) → k ≡ mark n place → (e : m.Tree) → e ≡ m.external k o0 o2
              → ReadsOtherExpression d n ts e us2 (n + 1)
          external_ok us2 at2 o2 y2 k i e g = record {
            says = m.external (at t.place) (text y0.first) y2.says.name;
            passes = external_3 >> through _ _ [] (λ f. m.external (at t.place) (text y0.first) f.name) us1 us2 y2.says y2.passes ((λ t x. refl), (λ t x. refl), tt);
            agrees = ap (λ x. let z : m.Tree × ℕ = (m.external (mark n t.place) x y2.says.name, n + 1) in z) y0.agrees
                ∙ ap (λ x. let z : m.Tree × ℕ = (m.external (mark n t.place) o0 x, n + 1) in z) y2.name_is
                ∙ made_with (n + 1) (λ k. m.external k o0 o2) n place t.place b.place_is k i e g;
            single = λ _. refl;
          }

  -- a binary
  module _ (h : q ≡ s.OpenBinary) where
    binary_0 : Goes (other_expression d) (itself (other_expression d)) (record { parts = the (many s.CloseBinary (the (segment (d + 1)))) ∷ []; build = λ xs. m.binary (at t.place) (lists.segments xs) } ∷ []) ts us
    binary_0 = taken (other_expression d) (itself (other_expression d)) ts us t s.OpenBinary b.are (sym b.sort_is ∙ h) refl ((w, tt), tt)

    pub binary_bad : (f : PartFault) → Refuses (many s.CloseBinary (the (segment (d + 1)))) us f → Refuses (other_expression d) ts f
    binary_bad f z = refused _ _ [] (λ xs. m.binary (at t.place) (lists.segments xs)) ts us f binary_0 ((λ t x. refl), (λ t x. refl), tt) z

    pub binary_ok : (vs : List Token) (o0 : m.Segments) (p : ℕ) → ReadsSegments (d + 1) (n + 1) us o0 vs p → (e : m.Tree) → e ≡ m.binary (mark n place) o0 → ReadsOtherExpression d n ts e vs p
    binary_ok vs o0 p y e g = record {
      says = m.binary (at t.place) (lists.segments y.says);
      passes = binary_0 >> through _ _ [] (λ xs. m.binary (at t.place) (lists.segments xs)) us vs y.says y.passes ((λ t x. refl), (λ t x. refl), tt);
      agrees = ap (λ (r : m.Segments × ℕ). let z : m.Tree × ℕ = (m.binary (labelled n (at t.place)) r.0, r.1) in z) y.agrees ∙ made p (λ k. m.binary k o0) n place t.place b.place_is e g;
      single = λ _. refl;
    }

  -- a `case`
  module _ (h : q ≡ s.Case) where
    case_0 : Goes (other_expression d) (itself (other_expression d)) (record {
      parts = the (expression (d + 1)) ∷ a s.Of ∷ the (clause (d + 1)) ∷ the (clauses_to s.End (d + 1)) ∷ [];
      build = λ e _ c cs. m.case (at t.place) e (lists.clauses (c ∷ cs));
    } ∷ []) ts us
    case_0 = taken (other_expression d) (itself (other_expression d)) ts us t s.Case b.are (sym b.sort_is ∙ h) refl ((w, tt), tt)

    pub case_0_bad : (f : PartFault) → Refuses (expression (d + 1)) us f → Refuses (other_expression d) ts f
    case_0_bad f z = refused _ _ (a s.Of ∷ the (clause (d + 1)) ∷ the (clauses_to s.End (d + 1)) ∷ []) (λ e _ c cs. m.case (at t.place) e (lists.clauses (c ∷ cs))) ts us f case_0 ((λ t x. refl), (λ t x. refl), tt) z

    module _ (us0 : List Token) (o0 : m.Tree) (p0 : ℕ) (y0 : ReadsExpression (d + 1) (n + 1) us o0 us0 p0) where
      case_1 : Goes (other_expression d) (itself (other_expression d)) (record { parts = a s.Of ∷ the (clause (d + 1)) ∷ the (clauses_to s.End (d + 1)) ∷ []; build = λ _ c cs. m.case (at t.place) y0.says (lists.clauses (c ∷ cs)) }
          ∷ []) ts us0
      case_1 = case_0 >> through _ _ (a s.Of ∷ the (clause (d + 1)) ∷ the (clauses_to s.End (d + 1)) ∷ []) (λ e _ c cs. m.case (at t.place) e (lists.clauses (c ∷ cs))) us us0 y0.says y0.passes ((λ t x. refl), (λ t x. refl), tt)

      pub case_1_bad : (f : PartFault) → Misses s.Of us0 f → Refuses (other_expression d) ts f
      case_1_bad f z = lacking _ s.Of (the (clause (d + 1)) ∷ the (clauses_to s.End (d + 1)) ∷ []) (λ _ c cs. m.case (at t.place) y0.says (lists.clauses (c ∷ cs))) ts us0 f case_1 z

      module _ (us1 : List Token) (y1 : Takes s.Of us0 us1) where
        case_2 : Goes (other_expression d) (itself (other_expression d)) (record { parts = the (clause (d + 1)) ∷ the (clauses_to s.End (d + 1)) ∷ []; build = λ c cs. m.case (at t.place) y0.says (lists.clauses (c ∷ cs)) } ∷ []) ts
            us1
        case_2 = case_1 >> take_class _ s.Of (the (clause (d + 1)) ∷ the (clauses_to s.End (d + 1)) ∷ []) (λ _ c cs. m.case (at t.place) y0.says (lists.clauses (c ∷ cs))) us0 us1 y1

        pub case_2_bad : (f : PartFault) → Refuses (clause (d + 1)) us1 f → Refuses (other_expression d) ts f
        case_2_bad f z = refused _ _ (the (clauses_to s.End (d + 1)) ∷ []) (λ c cs. m.case (at t.place) y0.says (lists.clauses (c ∷ cs))) ts us1 f case_2 ((λ t x. refl), (λ t x. refl), tt) z

        module _ (us2 : List Token) (o2 : lists.ClauseParts) (p2 : ℕ) (y2 : ReadsClause (d + 1) p0 us1 o2 us2 p2) where
          case_3 : Goes (other_expression d) (itself (other_expression d)) (record { parts = the (clauses_to s.End (d + 1)) ∷ []; build = λ cs. m.case (at t.place) y0.says (lists.clauses (y2.says ∷ cs)) } ∷ []) ts us2
          case_3 = case_2 >> through _ _ (the (clauses_to s.End (d + 1)) ∷ []) (λ c cs. m.case (at t.place) y0.says (lists.clauses (c ∷ cs))) us1 us2 y2.says y2.passes ((λ t x. refl), (λ t x. refl), tt)

          pub case_3_bad : (f : PartFault) → Refuses (clauses_to s.End (d + 1)) us2 f → Refuses (other_expression d) ts f
          case_3_bad f z = refused _ _ [] (λ cs. m.case (at t.place) y0.says (lists.clauses (y2.says ∷ cs))) ts us2 f case_3 ((λ t x. refl), (λ t x. refl), tt) z

          pub case_ok : (us3 : List Token) (before o3 : m.Clauses) (p3 : ℕ) → before ≡ lists.clauses (o2 ∷ []) → ReadsMoreClauses s.End (d + 1) p2 before us2 o3 us3 p3 → (k : Mark) → k ≡ mark n place → (e : m.Tree)
              → e ≡ m.case k o0 o3 → ReadsOtherExpression d n ts e us3 p3
          case_ok us3 before o3 p3 l y3 k i e g = record {
            says = m.case (at t.place) y0.says (lists.clauses (y2.says ∷ y3.says));
            passes = case_3 >> through _ _ [] (λ cs. m.case (at t.place) y0.says (lists.clauses (y2.says ∷ cs))) us2 us3 y3.says y3.passes ((λ t x. refl), (λ t x. refl), tt);
            agrees = ap (λ (r : m.Tree × ℕ). let z : m.Tree × ℕ = (m.case (labelled n (at t.place)) r.0 (number_clauses r.1 (lists.clauses (y2.says ∷ y3.says))).0, (number_clauses r.1 (lists.clauses (y2.says ∷ y3.says))).1) in z)
                y0.agrees
                ∙ ap (λ (r : m.Clauses × ℕ). let z : m.Tree × ℕ = (m.case (mark n t.place) o0 r.0, r.1) in z)
                (two_clauses p0 p2 p3 y2.says o2 y3.says y3.more y2.agrees y3.agrees ∙ ap (λ x. let z : m.Clauses × ℕ = (x, p3) in z) (sym (y3.made_is ∙ ap (λ x. joined x y3.more) l)))
                ∙ made_with p3 (λ k. m.case k o0 o3) n place t.place b.place_is k i e g;
            single = λ _. refl;
          }
