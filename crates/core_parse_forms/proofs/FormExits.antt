-- The expressions whose parts stand in a row: each way out, in the order of the parts. The part that
-- goes wrong is counted from 0, behind the first token.
use Rattle.std.proofs.Common.{◌≡◌, ℕ, ◌+◌, ◌≤◌, List, [], ◌∷◌, refl, sym, ap, ◌∙◌}
use Rattle.type_kinds.specs.declared.place.Place.{Place}
use Rattle.core_scan.specs.declared.token.Token.{Token}
use Rattle.core_scan.specs.declared.sort.Sort.{Sort}
use Rattle.core_scan.specs.declared.sort.Sort.TheVariants as s
use Rattle.core_ast.specs.declared.syntax.Mark.{Mark}
use Rattle.core_ast.specs.declared.syntax.VarName.{VarName}
use Rattle.core_ast.specs.declared.syntax.Clause.{Clause}
use Rattle.core_ast.specs.Model as m
use Rattle.core_ast.specs.Tree as lists
use Rattle.core_parse_grammar.specs.declared.fault.PartFault.{PartFault}
use Rattle.core_parse_grammar.specs.declared.fault.PartFault.TheVariants as fault
use Rattle.core_parse_grammar.specs.Begins.{depth_limit}
use Rattle.core_parse_grammar.specs.Build.{at, text}
use Rattle.core_parse_grammar.specs.Grammar.{Part, Nonterminal, Action, Said, a, the, many, definitions, variables, clauses_to, expression, other_expression}
use Rattle.core_parse_grammar.specs.Labels.{labelled, number, number_all}
use Rattle.core_parse_grammar.specs.Track.{Goes, itself}
use Rattle.core_parse_grammar.specs.Faults.{Refuses, Starts, Takes, Misses, MissesOrMemory}
use Rattle.core_parse_forms.specs.steps.Clauses.{joined, ReadsMoreClauses}
use Rattle.core_parse_grammar.specs.Readings.{mark, ReadsAtom, ReadsVariables, ReadsExpression, ReadsOtherExpression, ReadsExpressions, ReadsClauses, ReadsDefinitions}
use Rattle.core_parse_grammar.proofs.Moves.{◌>>◌}
use Rattle.core_parse_grammar.proofs.Places.{taken, through, refused, lacking, take_class}

-- the code's mark has the token's place
pub made : (r : ℕ) (f : Mark → m.Tree) (n : ℕ) (p q : Place) → p ≡ q → (e : m.Tree) → e ≡ f (mark n p) → (let z : m.Tree × ℕ = (f (mark n q), r) in z) ≡ (e, r)
made r f n p q h e g = ap (λ x. let z : m.Tree × ℕ = (x, r) in z) (ap (λ x. f (mark n x)) (sym h) ∙ sym g)

-- the same where the mark is known by an equation
pub made_with : (r : ℕ) (f : Mark → m.Tree) (n : ℕ) (p q : Place) → p ≡ q → (k : Mark) → k ≡ mark n p → (e : m.Tree) → e ≡ f k → (let z : m.Tree × ℕ = (f (mark n q), r) in z) ≡ (e, r)
made_with r f n p q h k i e g = made r f n p q h e (g ∙ ap f i)

-- an atom, of a reader that allocates
abbrev pub atom_taken : (us vs : List Token) (o : List ℕ) (place : Place) → ReadsAtom us o place vs → Takes s.Atom us vs
atom_taken us vs o place y = record { first = y.first; are = y.are; fits_it = y.fits_it }

pub atom_lacking : (n : Nonterminal) (ps : List Part) (f : Token → Action ps (Said n)) (ts us : List Token) (e : PartFault) → Goes n (itself n) (record { parts = a s.Atom ∷ ps; build = f } ∷ []) ts us → MissesOrMemory s.Atom us e
    → Refuses n ts e
atom_lacking n ps f ts us (fault.Syntax x) g z = lacking n s.Atom ps f ts us (fault.Syntax x) g z
atom_lacking n ps f ts us fault.End g z = lacking n s.Atom ps f ts us fault.End g z
atom_lacking n ps f ts us (fault.TooDeep x) g z = absurd z
atom_lacking n ps f ts us fault.Memory g z = tt

-- clauses behind none
pub clauses_alone : (c : Sort) (d n : ℕ) (before : List Clause) (ts : List Token) (made : m.Clauses) (left : List Token) (p : ℕ) → before ≡ [] → ReadsMoreClauses c d n (lists.all_clauses before) ts made left p
    → ReadsClauses c d n ts made left p
clauses_alone c d n before ts made left p h y = record {
  says = y.says;
  passes = y.passes;
  agrees = y.agrees ∙ ap (λ x. let z : m.Clauses × ℕ = (x, p) in z) (sym (y.made_is ∙ ap (λ x. joined (lists.all_clauses x) y.more) h));
}

module _ (d n : ℕ) (ts us : List Token) (t : Token) (q : Sort) (place : Place) (b : Starts ts t q place us) (w : d ≤ depth_limit) where
  -- tuple
  module _ (h : q ≡ s.OpenCurly) where
    tuple_0 : Goes (other_expression d) (itself (other_expression d)) (record { parts = the (many s.CloseCurly (the (expression (d + 1)))) ∷ []; build = λ x0. m.tuple (at t.place) (lists.trees x0) } ∷ []) ts us
    tuple_0 = taken (other_expression d) (itself (other_expression d)) ts us t s.OpenCurly b.are (sym b.sort_is ∙ h) refl ((w, tt), tt)

    pub tuple_0_bad : (f : PartFault) → Refuses (many s.CloseCurly (the (expression (d + 1)))) us f → Refuses (other_expression d) ts f
    tuple_0_bad f z = refused _ _ ([]) (λ x0. m.tuple (at t.place) (lists.trees x0)) ts us f tuple_0 ((λ t x. refl), (λ t x. refl), tt) z

    module _ (us0 : List Token) (o0 : m.Trees) (p0 : ℕ) (y0 : ReadsExpressions s.CloseCurly (d + 1) (n + 1) us o0 us0 p0) where
      tuple_1 : Goes (other_expression d) (itself (other_expression d)) (record { parts = []; build = m.tuple (at t.place) (lists.trees y0.says) } ∷ []) ts us0
      tuple_1 = tuple_0 >> through _ _ ([]) (λ x0. m.tuple (at t.place) (lists.trees x0)) us us0 y0.says y0.passes ((λ t x. refl), (λ t x. refl), tt)

      pub tuple_ok : (k : Mark) → k ≡ mark n place → (e : m.Tree) → e ≡ m.tuple k o0 → ReadsOtherExpression d n ts e us0 p0
      tuple_ok k i e g = record {
        says = m.tuple (at t.place) (lists.trees y0.says);
        passes = tuple_1;
        agrees = ap (λ (r : m.Trees × ℕ). let z : m.Tree × ℕ = (m.tuple (labelled n (at t.place)) r.0, r.1) in z) y0.agrees ∙ made_with p0 (λ k. m.tuple k o0) n place t.place b.place_is k i e g;
        single = λ _. refl;
      }

  -- values
  module _ (h : q ≡ s.Less) where
    values_0 : Goes (other_expression d) (itself (other_expression d)) (record { parts = the (many s.Greater (the (expression (d + 1)))) ∷ []; build = λ x0. m.values (at t.place) (lists.trees x0) } ∷ []) ts us
    values_0 = taken (other_expression d) (itself (other_expression d)) ts us t s.Less b.are (sym b.sort_is ∙ h) refl ((w, tt), tt)

    pub values_0_bad : (f : PartFault) → Refuses (many s.Greater (the (expression (d + 1)))) us f → Refuses (other_expression d) ts f
    values_0_bad f z = refused _ _ ([]) (λ x0. m.values (at t.place) (lists.trees x0)) ts us f values_0 ((λ t x. refl), (λ t x. refl), tt) z

    module _ (us0 : List Token) (o0 : m.Trees) (p0 : ℕ) (y0 : ReadsExpressions s.Greater (d + 1) (n + 1) us o0 us0 p0) where
      values_1 : Goes (other_expression d) (itself (other_expression d)) (record { parts = []; build = m.values (at t.place) (lists.trees y0.says) } ∷ []) ts us0
      values_1 = values_0 >> through _ _ ([]) (λ x0. m.values (at t.place) (lists.trees x0)) us us0 y0.says y0.passes ((λ t x. refl), (λ t x. refl), tt)

      pub values_ok : (k : Mark) → k ≡ mark n place → (e : m.Tree) → e ≡ m.values k o0 → ReadsOtherExpression d n ts e us0 p0
      values_ok k i e g = record {
        says = m.values (at t.place) (lists.trees y0.says);
        passes = values_1;
        agrees = ap (λ (r : m.Trees × ℕ). let z : m.Tree × ℕ = (m.values (labelled n (at t.place)) r.0, r.1) in z) y0.agrees ∙ made_with p0 (λ k. m.values k o0) n place t.place b.place_is k i e g;
        single = λ _. refl;
      }

  -- apply
  module _ (h : q ≡ s.Apply) where
    apply_0 : Goes (other_expression d) (itself (other_expression d)) (record {
      parts = the (expression (d + 1)) ∷ a s.OpenRound ∷ the (many s.CloseRound (the (expression (d + 1)))) ∷ [];
      build = λ x0 _ x2. m.apply (at t.place) x0 (lists.trees x2);
    } ∷ []) ts us
    apply_0 = taken (other_expression d) (itself (other_expression d)) ts us t s.Apply b.are (sym b.sort_is ∙ h) refl ((w, tt), tt)

    pub apply_0_bad : (f : PartFault) → Refuses (expression (d + 1)) us f → Refuses (other_expression d) ts f
    apply_0_bad f z = refused _ _ (a s.OpenRound ∷ the (many s.CloseRound (the (expression (d + 1)))) ∷ []) (λ x0 _ x2. m.apply (at t.place) x0 (lists.trees x2)) ts us f apply_0 ((λ t x. refl), (λ t x. refl), tt) z

    module _ (us0 : List Token) (o0 : m.Tree) (p0 : ℕ) (y0 : ReadsExpression (d + 1) (n + 1) us o0 us0 p0) where
      apply_1 : Goes (other_expression d) (itself (other_expression d)) (record { parts = a s.OpenRound ∷ the (many s.CloseRound (the (expression (d + 1)))) ∷ []; build = λ _ x2. m.apply (at t.place) y0.says (lists.trees x2) } ∷ [])
          ts us0
      apply_1 = apply_0 >> through _ _ (a s.OpenRound ∷ the (many s.CloseRound (the (expression (d + 1)))) ∷ []) (λ x0 _ x2. m.apply (at t.place) x0 (lists.trees x2)) us us0 y0.says y0.passes ((λ t x. refl), (λ t x. refl), tt)

      pub apply_1_bad : (f : PartFault) → Misses s.OpenRound us0 f → Refuses (other_expression d) ts f
      apply_1_bad f z = lacking _ s.OpenRound (the (many s.CloseRound (the (expression (d + 1)))) ∷ []) (λ _ x2. m.apply (at t.place) y0.says (lists.trees x2)) ts us0 f apply_1 z

      module _ (us1 : List Token) (y1 : Takes s.OpenRound us0 us1) where
        apply_2 : Goes (other_expression d) (itself (other_expression d)) (record { parts = the (many s.CloseRound (the (expression (d + 1)))) ∷ []; build = λ x2. m.apply (at t.place) y0.says (lists.trees x2) } ∷ []) ts us1
        apply_2 = apply_1 >> take_class _ s.OpenRound (the (many s.CloseRound (the (expression (d + 1)))) ∷ []) (λ _ x2. m.apply (at t.place) y0.says (lists.trees x2)) us0 us1 y1

        pub apply_2_bad : (f : PartFault) → Refuses (many s.CloseRound (the (expression (d + 1)))) us1 f → Refuses (other_expression d) ts f
        apply_2_bad f z = refused _ _ ([]) (λ x2. m.apply (at t.place) y0.says (lists.trees x2)) ts us1 f apply_2 ((λ t x. refl), (λ t x. refl), tt) z

        module _ (us2 : List Token) (o2 : m.Trees) (p2 : ℕ) (y2 : ReadsExpressions s.CloseRound (d + 1) p0 us1 o2 us2 p2) where
          apply_3 : Goes (other_expression d) (itself (other_expression d)) (record { parts = []; build = m.apply (at t.place) y0.says (lists.trees y2.says) } ∷ []) ts us2
          apply_3 = apply_2 >> through _ _ ([]) (λ x2. m.apply (at t.place) y0.says (lists.trees x2)) us1 us2 y2.says y2.passes ((λ t x. refl), (λ t x. refl), tt)

          pub apply_ok : (k : Mark) → k ≡ mark n place → (e : m.Tree) → e ≡ m.apply k o0 o2 → ReadsOtherExpression d n ts e us2 p2
          apply_ok k i e g = record {
            says = m.apply (at t.place) y0.says (lists.trees y2.says);
            passes = apply_3;
            agrees = ap (λ (r : m.Tree × ℕ). let z : m.Tree × ℕ = (m.apply (labelled n (at t.place)) r.0 (number_all r.1 (lists.trees y2.says)).0, (number_all r.1 (lists.trees y2.says)).1) in z) y0.agrees
                ∙ ap (λ (r : m.Trees × ℕ). let z : m.Tree × ℕ = (m.apply (labelled n (at t.place)) o0 r.0, r.1) in z) y2.agrees ∙ made_with p2 (λ k. m.apply k o0 o2) n place t.place b.place_is k i e g;
            single = λ _. refl;
          }

  -- call
  module _ (h : q ≡ s.Call) where
    call_0 : Goes (other_expression d) (itself (other_expression d)) (record {
      parts = the (expression (d + 1)) ∷ a s.Colon ∷ the (expression (d + 1)) ∷ a s.OpenRound ∷ the (many s.CloseRound (the (expression (d + 1)))) ∷ [];
      build = λ x0 _ x2 _ x4. m.call (at t.place) x0 x2 (lists.trees x4);
    } ∷ []) ts us
    call_0 = taken (other_expression d) (itself (other_expression d)) ts us t s.Call b.are (sym b.sort_is ∙ h) refl ((w, tt), tt)

    pub call_0_bad : (f : PartFault) → Refuses (expression (d + 1)) us f → Refuses (other_expression d) ts f
    call_0_bad f z = refused _ _ (a s.Colon ∷ the (expression (d + 1)) ∷ a s.OpenRound ∷ the (many s.CloseRound (the (expression (d + 1)))) ∷ []) (λ x0 _ x2 _ x4. m.call (at t.place) x0 x2 (lists.trees x4)) ts us f call_0
        ((λ t x. refl), (λ t x. refl), tt) z

    module _ (us0 : List Token) (o0 : m.Tree) (p0 : ℕ) (y0 : ReadsExpression (d + 1) (n + 1) us o0 us0 p0) where
      call_1 : Goes (other_expression d) (itself (other_expression d)) (record {
        parts = a s.Colon ∷ the (expression (d + 1)) ∷ a s.OpenRound ∷ the (many s.CloseRound (the (expression (d + 1)))) ∷ [];
        build = λ _ x2 _ x4. m.call (at t.place) y0.says x2 (lists.trees x4);
      } ∷ []) ts us0
      call_1 = call_0 >> through _ _ (a s.Colon ∷ the (expression (d + 1)) ∷ a s.OpenRound ∷ the (many s.CloseRound (the (expression (d + 1)))) ∷ [])
          (λ x0 _ x2 _ x4. m.call (at t.place) x0 x2 (lists.trees x4)) us us0 y0.says y0.passes ((λ t x. refl), (λ t x. refl), tt)

      pub call_1_bad : (f : PartFault) → Misses s.Colon us0 f → Refuses (other_expression d) ts f
      call_1_bad f z = lacking _ s.Colon (the (expression (d + 1)) ∷ a s.OpenRound ∷ the (many s.CloseRound (the (expression (d + 1)))) ∷ []) (λ _ x2 _ x4. m.call (at t.place) y0.says x2 (lists.trees x4)) ts us0 f call_1 z

      module _ (us1 : List Token) (y1 : Takes s.Colon us0 us1) where
        call_2 : Goes (other_expression d) (itself (other_expression d)) (record {
          parts = the (expression (d + 1)) ∷ a s.OpenRound ∷ the (many s.CloseRound (the (expression (d + 1)))) ∷ [];
          build = λ x2 _ x4. m.call (at t.place) y0.says x2 (lists.trees x4);
        } ∷ []) ts us1
        call_2 = call_1 >> take_class _ s.Colon (the (expression (d + 1)) ∷ a s.OpenRound ∷ the (many s.CloseRound (the (expression (d + 1)))) ∷ []) (λ _ x2 _ x4. m.call (at t.place) y0.says x2 (lists.trees x4)) us0 us1 y1

        pub call_2_bad : (f : PartFault) → Refuses (expression (d + 1)) us1 f → Refuses (other_expression d) ts f
        call_2_bad f z = refused _ _ (a s.OpenRound ∷ the (many s.CloseRound (the (expression (d + 1)))) ∷ []) (λ x2 _ x4. m.call (at t.place) y0.says x2 (lists.trees x4)) ts us1 f call_2 ((λ t x. refl), (λ t x. refl), tt) z

        module _ (us2 : List Token) (o2 : m.Tree) (p2 : ℕ) (y2 : ReadsExpression (d + 1) p0 us1 o2 us2 p2) where
          call_3 : Goes (other_expression d) (itself (other_expression d)) (record {
            parts = a s.OpenRound ∷ the (many s.CloseRound (the (expression (d + 1)))) ∷ [];
            build = λ _ x4. m.call (at t.place) y0.says y2.says (lists.trees x4);
          } ∷ []) ts us2
          call_3 = call_2 >> through _ _ (a s.OpenRound ∷ the (many s.CloseRound (the (expression (d + 1)))) ∷ []) (λ x2 _ x4. m.call (at t.place) y0.says x2 (lists.trees x4)) us1 us2 y2.says y2.passes (
            (λ t x. refl),
            (λ t x. refl),
            tt,
          )

          pub call_3_bad : (f : PartFault) → Misses s.OpenRound us2 f → Refuses (other_expression d) ts f
          call_3_bad f z = lacking _ s.OpenRound (the (many s.CloseRound (the (expression (d + 1)))) ∷ []) (λ _ x4. m.call (at t.place) y0.says y2.says (lists.trees x4)) ts us2 f call_3 z

          module _ (us3 : List Token) (y3 : Takes s.OpenRound us2 us3) where
            call_4 : Goes (other_expression d) (itself (other_expression d)) (record { parts = the (many s.CloseRound (the (expression (d + 1)))) ∷ []; build = λ x4. m.call (at t.place) y0.says y2.says (lists.trees x4) } ∷ []) ts us3
            call_4 = call_3 >> take_class _ s.OpenRound (the (many s.CloseRound (the (expression (d + 1)))) ∷ []) (λ _ x4. m.call (at t.place) y0.says y2.says (lists.trees x4)) us2 us3 y3

            pub call_4_bad : (f : PartFault) → Refuses (many s.CloseRound (the (expression (d + 1)))) us3 f → Refuses (other_expression d) ts f
            call_4_bad f z = refused _ _ ([]) (λ x4. m.call (at t.place) y0.says y2.says (lists.trees x4)) ts us3 f call_4 ((λ t x. refl), (λ t x. refl), tt) z

            module _ (us4 : List Token) (o4 : m.Trees) (p4 : ℕ) (y4 : ReadsExpressions s.CloseRound (d + 1) p2 us3 o4 us4 p4) where
              call_5 : Goes (other_expression d) (itself (other_expression d)) (record { parts = []; build = m.call (at t.place) y0.says y2.says (lists.trees y4.says) } ∷ []) ts us4
              call_5 = call_4 >> through _ _ ([]) (λ x4. m.call (at t.place) y0.says y2.says (lists.trees x4)) us3 us4 y4.says y4.passes ((λ t x. refl), (λ t x. refl), tt)

              pub call_ok : (k : Mark) → k ≡ mark n place → (e : m.Tree) → e ≡ m.call k o0 o2 o4 → ReadsOtherExpression d n ts e us4 p4
              call_ok k i e g = record {
                says = m.call (at t.place) y0.says y2.says (lists.trees y4.says);
                passes = call_5;
                agrees = ap (λ (r : m.Tree × ℕ). let z : m.Tree × ℕ = (
                  m.call (labelled n (at t.place)) r.0 (number r.1 (y2.says)).0 (number_all ((number r.1 (y2.says)).1) (lists.trees y4.says)).0,
                  (number_all ((number r.1 (y2.says)).1) (lists.trees y4.says)).1,
                ) in z) y0.agrees
                    ∙ ap (λ (r : m.Tree × ℕ). let z : m.Tree × ℕ = (m.call (labelled n (at t.place)) o0 r.0 (number_all r.1 (lists.trees y4.says)).0, (number_all r.1 (lists.trees y4.says)).1) in z) y2.agrees
                    ∙ ap (λ (r : m.Trees × ℕ). let z : m.Tree × ℕ = (m.call (labelled n (at t.place)) o0 o2 r.0, r.1) in z) y4.agrees ∙ made_with p4 (λ k. m.call k o0 o2 o4) n place t.place b.place_is k i e g;
                single =
                    λ _. refl;
              }

  -- primop
  module _ (h : q ≡ s.Primop) where
    primop_0 : Goes (other_expression d) (itself (other_expression d)) (record {
      parts = a s.Atom ∷ a s.OpenRound ∷ the (many s.CloseRound (the (expression (d + 1)))) ∷ [];
      build = λ x0 _ x2. m.primop (at t.place) (text x0) (lists.trees x2);
    } ∷ []) ts us
    primop_0 = taken (other_expression d) (itself (other_expression d)) ts us t s.Primop b.are (sym b.sort_is ∙ h) refl ((w, tt), tt)

    pub primop_0_bad : (f : PartFault) → MissesOrMemory s.Atom us f → Refuses (other_expression d) ts f
    primop_0_bad f z = atom_lacking _ (a s.OpenRound ∷ the (many s.CloseRound (the (expression (d + 1)))) ∷ []) (λ x0 _ x2. m.primop (at t.place) (text x0) (lists.trees x2)) ts us f primop_0 z

    module _ (us0 : List Token) (o0 : List ℕ) (at0 : Place) (y0 : ReadsAtom us o0 at0 us0) where
      primop_1 : Goes (other_expression d) (itself (other_expression d)) (record {
        parts = a s.OpenRound ∷ the (many s.CloseRound (the (expression (d + 1)))) ∷ [];
        build = λ _ x2. m.primop (at t.place) (text y0.first) (lists.trees x2);
      } ∷ []) ts us0
      primop_1 = primop_0 >> take_class _ s.Atom (a s.OpenRound ∷ the (many s.CloseRound (the (expression (d + 1)))) ∷ []) (λ x0 _ x2. m.primop (at t.place) (text x0) (lists.trees x2)) us us0 (atom_taken us us0 o0 at0 y0)

      pub primop_1_bad : (f : PartFault) → Misses s.OpenRound us0 f → Refuses (other_expression d) ts f
      primop_1_bad f z = lacking _ s.OpenRound (the (many s.CloseRound (the (expression (d + 1)))) ∷ []) (λ _ x2. m.primop (at t.place) (text y0.first) (lists.trees x2)) ts us0 f primop_1 z

      module _ (us1 : List Token) (y1 : Takes s.OpenRound us0 us1) where
        primop_2 : Goes (other_expression d) (itself (other_expression d)) (record { parts = the (many s.CloseRound (the (expression (d + 1)))) ∷ []; build = λ x2. m.primop (at t.place) (text y0.first) (lists.trees x2) } ∷ []) ts us1
        primop_2 = primop_1 >> take_class _ s.OpenRound (the (many s.CloseRound (the (expression (d + 1)))) ∷ []) (λ _ x2. m.primop (at t.place) (text y0.first) (lists.trees x2)) us0 us1 y1

        pub primop_2_bad : (f : PartFault) → Refuses (many s.CloseRound (the (expression (d + 1)))) us1 f → Refuses (other_expression d) ts f
        primop_2_bad f z = refused _ _ ([]) (λ x2. m.primop (at t.place) (text y0.first) (lists.trees x2)) ts us1 f primop_2 ((λ t x. refl), (λ t x. refl), tt) z

        module _ (us2 : List Token) (o2 : m.Trees) (p2 : ℕ) (y2 : ReadsExpressions s.CloseRound (d + 1) (n + 1) us1 o2 us2 p2) where
          primop_3 : Goes (other_expression d) (itself (other_expression d)) (record { parts = []; build = m.primop (at t.place) (text y0.first) (lists.trees y2.says) } ∷ []) ts us2
          primop_3 = primop_2 >> through _ _ ([]) (λ x2. m.primop (at t.place) (text y0.first) (lists.trees x2)) us1 us2 y2.says y2.passes ((λ t x. refl), (λ t x. refl), tt)

          pub primop_ok : (k : Mark) → k ≡ mark n place → (e : m.Tree) → e ≡ m.primop k o0 o2 → ReadsOtherExpression d n ts e us2 p2
          primop_ok k i e g = record {
            says = m.primop (at t.place) (text y0.first) (lists.trees y2.says);
            passes = primop_3;
            agrees = ap (λ (r : m.Trees × ℕ). let z : m.Tree × ℕ = (m.primop (labelled n (at t.place)) (text y0.first) r.0, r.1) in z) y2.agrees
                ∙ ap (λ x. let z : m.Tree × ℕ = (m.primop (labelled n (at t.place)) x o2, p2) in z) y0.agrees ∙ made_with p2 (λ k. m.primop k o0 o2) n place t.place b.place_is k i e g;
            single = λ _. refl;
          }

  -- catch
  module _ (h : q ≡ s.Catch) where
    catch_0 : Goes (other_expression d) (itself (other_expression d)) (record { parts = the (expression (d + 1)) ∷ []; build = λ x0. m.catch (at t.place) x0 } ∷ []) ts us
    catch_0 = taken (other_expression d) (itself (other_expression d)) ts us t s.Catch b.are (sym b.sort_is ∙ h) refl ((w, tt), tt)

    pub catch_0_bad : (f : PartFault) → Refuses (expression (d + 1)) us f → Refuses (other_expression d) ts f
    catch_0_bad f z = refused _ _ ([]) (λ x0. m.catch (at t.place) x0) ts us f catch_0 ((λ t x. refl), (λ t x. refl), tt) z

    module _ (us0 : List Token) (o0 : m.Tree) (p0 : ℕ) (y0 : ReadsExpression (d + 1) (n + 1) us o0 us0 p0) where
      catch_1 : Goes (other_expression d) (itself (other_expression d)) (record { parts = []; build = m.catch (at t.place) y0.says } ∷ []) ts us0
      catch_1 = catch_0 >> through _ _ ([]) (λ x0. m.catch (at t.place) x0) us us0 y0.says y0.passes ((λ t x. refl), (λ t x. refl), tt)

      pub catch_ok : (k : Mark) → k ≡ mark n place → (e : m.Tree) → e ≡ m.catch k o0 → ReadsOtherExpression d n ts e us0 p0
      catch_ok k i e g = record {
        says = m.catch (at t.place) y0.says;
        passes = catch_1;
        agrees = ap (λ (r : m.Tree × ℕ). let z : m.Tree × ℕ = (m.catch (labelled n (at t.place)) r.0, r.1) in z) y0.agrees ∙ made_with p0 (λ k. m.catch k o0) n place t.place b.place_is k i e g;
        single = λ _. refl;
      }

  -- letrec
  module _ (h : q ≡ s.Letrec) where
    letrec_0 : Goes (other_expression d) (itself (other_expression d)) (record { parts = the (definitions s.In (d + 1)) ∷ the (expression (d + 1)) ∷ []; build = λ x0 x1. m.letrec (at t.place) (lists.defs x0) x1 } ∷ []) ts us
    letrec_0 = taken (other_expression d) (itself (other_expression d)) ts us t s.Letrec b.are (sym b.sort_is ∙ h) refl ((w, tt), tt)

    pub letrec_0_bad : (f : PartFault) → Refuses (definitions s.In (d + 1)) us f → Refuses (other_expression d) ts f
    letrec_0_bad f z = refused _ _ (the (expression (d + 1)) ∷ []) (λ x0 x1. m.letrec (at t.place) (lists.defs x0) x1) ts us f letrec_0 ((λ t x. refl), (λ t x. refl), tt) z

    module _ (us0 : List Token) (o0 : m.Defs) (p0 : ℕ) (y0 : ReadsDefinitions s.In (d + 1) (n + 1) us o0 us0 p0) where
      letrec_1 : Goes (other_expression d) (itself (other_expression d)) (record { parts = the (expression (d + 1)) ∷ []; build = λ x1. m.letrec (at t.place) (lists.defs y0.says) x1 } ∷ []) ts us0
      letrec_1 = letrec_0 >> through _ _ (the (expression (d + 1)) ∷ []) (λ x0 x1. m.letrec (at t.place) (lists.defs x0) x1) us us0 y0.says y0.passes ((λ t x. refl), (λ t x. refl), tt)

      pub letrec_1_bad : (f : PartFault) → Refuses (expression (d + 1)) us0 f → Refuses (other_expression d) ts f
      letrec_1_bad f z = refused _ _ ([]) (λ x1. m.letrec (at t.place) (lists.defs y0.says) x1) ts us0 f letrec_1 ((λ t x. refl), (λ t x. refl), tt) z

      module _ (us1 : List Token) (o1 : m.Tree) (p1 : ℕ) (y1 : ReadsExpression (d + 1) p0 us0 o1 us1 p1) where
        letrec_2 : Goes (other_expression d) (itself (other_expression d)) (record { parts = []; build = m.letrec (at t.place) (lists.defs y0.says) y1.says } ∷ []) ts us1
        letrec_2 = letrec_1 >> through _ _ ([]) (λ x1. m.letrec (at t.place) (lists.defs y0.says) x1) us0 us1 y1.says y1.passes ((λ t x. refl), (λ t x. refl), tt)

        pub letrec_ok : (k : Mark) → k ≡ mark n place → (e : m.Tree) → e ≡ m.letrec k o0 o1 → ReadsOtherExpression d n ts e us1 p1
        letrec_ok k i e g = record {
          says = m.letrec (at t.place) (lists.defs y0.says) y1.says;
          passes = letrec_2;
          agrees = ap (λ (r : m.Defs × ℕ). let z : m.Tree × ℕ = (m.letrec (labelled n (at t.place)) r.0 (number r.1 (y1.says)).0, (number r.1 (y1.says)).1) in z) y0.agrees
              ∙ ap (λ (r : m.Tree × ℕ). let z : m.Tree × ℕ = (m.letrec (labelled n (at t.place)) o0 r.0, r.1) in z) y1.agrees ∙ made_with p1 (λ k. m.letrec k o0 o1) n place t.place b.place_is k i e g;
          single = λ _. refl;
        }

  -- try
  module _ (h : q ≡ s.Try) where
    try_0 : Goes (other_expression d) (itself (other_expression d))
        (record {
          parts = the (expression (d + 1)) ∷ a s.Of ∷ the variables ∷ a s.Arrow ∷ the (expression (d + 1)) ∷ a s.Catch ∷ the variables ∷ a s.Arrow ∷ the (expression (d + 1)) ∷ [];
          build = λ x0 _ x2 _ x4 _ x6 _ x8. m.try (at t.place) x0 x2 x4 x6 x8;
        } ∷ []) ts us
    try_0 = taken (other_expression d) (itself (other_expression d)) ts us t s.Try b.are (sym b.sort_is ∙ h) refl ((w, tt), tt)

    pub try_0_bad : (f : PartFault) → Refuses (expression (d + 1)) us f → Refuses (other_expression d) ts f
    try_0_bad f z = refused _ _ (a s.Of ∷ the variables ∷ a s.Arrow ∷ the (expression (d + 1)) ∷ a s.Catch ∷ the variables ∷ a s.Arrow ∷ the (expression (d + 1)) ∷ [])
        (λ x0 _ x2 _ x4 _ x6 _ x8. m.try (at t.place) x0 x2 x4 x6 x8) ts us f try_0 ((λ t x. refl), (λ t x. refl), tt) z

    module _ (us0 : List Token) (o0 : m.Tree) (p0 : ℕ) (y0 : ReadsExpression (d + 1) (n + 1) us o0 us0 p0) where
      try_1 : Goes (other_expression d) (itself (other_expression d)) (record {
        parts = a s.Of ∷ the variables ∷ a s.Arrow ∷ the (expression (d + 1)) ∷ a s.Catch ∷ the variables ∷ a s.Arrow ∷ the (expression (d + 1)) ∷ [];
        build = λ _ x2 _ x4 _ x6 _ x8. m.try (at t.place) y0.says x2 x4 x6 x8;
      } ∷ []) ts us0
      try_1 = try_0 >> through _ _ (a s.Of ∷ the variables ∷ a s.Arrow ∷ the (expression (d + 1)) ∷ a s.Catch ∷ the variables ∷ a s.Arrow ∷ the (expression (d + 1)) ∷ [])
          (λ x0 _ x2 _ x4 _ x6 _ x8. m.try (at t.place) x0 x2 x4 x6 x8) us us0 y0.says y0.passes ((λ t x. refl), (λ t x. refl), tt)

      pub try_1_bad : (f : PartFault) → Misses s.Of us0 f → Refuses (other_expression d) ts f
      try_1_bad f z = lacking _ s.Of (the variables ∷ a s.Arrow ∷ the (expression (d + 1)) ∷ a s.Catch ∷ the variables ∷ a s.Arrow ∷ the (expression (d + 1)) ∷ [])
          (λ _ x2 _ x4 _ x6 _ x8. m.try (at t.place) y0.says x2 x4 x6 x8) ts us0 f try_1 z

      module _ (us1 : List Token) (y1 : Takes s.Of us0 us1) where
        try_2 : Goes (other_expression d) (itself (other_expression d)) (record {
          parts = the variables ∷ a s.Arrow ∷ the (expression (d + 1)) ∷ a s.Catch ∷ the variables ∷ a s.Arrow ∷ the (expression (d + 1)) ∷ [];
          build = λ x2 _ x4 _ x6 _ x8. m.try (at t.place) y0.says x2 x4 x6 x8;
        } ∷ []) ts us1
        try_2 = try_1 >> take_class _ s.Of (the variables ∷ a s.Arrow ∷ the (expression (d + 1)) ∷ a s.Catch ∷ the variables ∷ a s.Arrow ∷ the (expression (d + 1)) ∷ [])
            (λ _ x2 _ x4 _ x6 _ x8. m.try (at t.place) y0.says x2 x4 x6 x8) us0 us1 y1

        pub try_2_bad : (f : PartFault) → Refuses variables us1 f → Refuses (other_expression d) ts f
        try_2_bad f z = refused _ _ (a s.Arrow ∷ the (expression (d + 1)) ∷ a s.Catch ∷ the variables ∷ a s.Arrow ∷ the (expression (d + 1)) ∷ []) (λ x2 _ x4 _ x6 _ x8. m.try (at t.place) y0.says x2 x4 x6 x8) ts us1 f try_2
            ((λ t x. refl), (λ t x. refl), tt) z

        module _ (us2 : List Token) (o2 : List VarName) (y2 : ReadsVariables us1 o2 us2) where
          try_3 : Goes (other_expression d) (itself (other_expression d)) (record {
            parts = a s.Arrow ∷ the (expression (d + 1)) ∷ a s.Catch ∷ the variables ∷ a s.Arrow ∷ the (expression (d + 1)) ∷ [];
            build = λ _ x4 _ x6 _ x8. m.try (at t.place) y0.says y2.says x4 x6 x8;
          } ∷ []) ts us2
          try_3 = try_2 >> through _ _ (a s.Arrow ∷ the (expression (d + 1)) ∷ a s.Catch ∷ the variables ∷ a s.Arrow ∷ the (expression (d + 1)) ∷ [])
              (λ x2 _ x4 _ x6 _ x8. m.try (at t.place) y0.says x2 x4 x6 x8) us1 us2 y2.says y2.passes ((λ t x. refl), (λ t x. refl), tt)

          pub try_3_bad : (f : PartFault) → Misses s.Arrow us2 f → Refuses (other_expression d) ts f
          try_3_bad f z = lacking _ s.Arrow (the (expression (d + 1)) ∷ a s.Catch ∷ the variables ∷ a s.Arrow ∷ the (expression (d + 1)) ∷ []) (λ _ x4 _ x6 _ x8. m.try (at t.place) y0.says y2.says x4 x6 x8) ts us2 f try_3 z

          module _ (us3 : List Token) (y3 : Takes s.Arrow us2 us3) where
            try_4 : Goes (other_expression d) (itself (other_expression d)) (record {
              parts = the (expression (d + 1)) ∷ a s.Catch ∷ the variables ∷ a s.Arrow ∷ the (expression (d + 1)) ∷ [];
              build = λ x4 _ x6 _ x8. m.try (at t.place) y0.says y2.says x4 x6 x8;
            } ∷ []) ts us3
            try_4 = try_3 >> take_class _ s.Arrow (the (expression (d + 1)) ∷ a s.Catch ∷ the variables ∷ a s.Arrow ∷ the (expression (d + 1)) ∷ []) (λ _ x4 _ x6 _ x8. m.try (at t.place) y0.says y2.says x4 x6 x8) us2 us3 y3

            pub try_4_bad : (f : PartFault) → Refuses (expression (d + 1)) us3 f → Refuses (other_expression d) ts f
            try_4_bad f z = refused _ _ (a s.Catch ∷ the variables ∷ a s.Arrow ∷ the (expression (d + 1)) ∷ []) (λ x4 _ x6 _ x8. m.try (at t.place) y0.says y2.says x4 x6 x8) ts us3 f try_4 ((λ t x. refl), (λ t x. refl), tt) z

            module _ (us4 : List Token) (o4 : m.Tree) (p4 : ℕ) (y4 : ReadsExpression (d + 1) p0 us3 o4 us4 p4) where
              try_5 : Goes (other_expression d) (itself (other_expression d)) (record {
                parts = a s.Catch ∷ the variables ∷ a s.Arrow ∷ the (expression (d + 1)) ∷ [];
                build = λ _ x6 _ x8. m.try (at t.place) y0.says y2.says y4.says x6 x8;
              } ∷ []) ts us4
              try_5 = try_4 >> through _ _ (a s.Catch ∷ the variables ∷ a s.Arrow ∷ the (expression (d + 1)) ∷ []) (λ x4 _ x6 _ x8. m.try (at t.place) y0.says y2.says x4 x6 x8) us3 us4 y4.says y4.passes (
                (λ t x. refl),
                (λ t x. refl),
                tt,
              )

              pub try_5_bad : (f : PartFault) → Misses s.Catch us4 f → Refuses (other_expression d) ts f
              try_5_bad f z = lacking _ s.Catch (the variables ∷ a s.Arrow ∷ the (expression (d + 1)) ∷ []) (λ _ x6 _ x8. m.try (at t.place) y0.says y2.says y4.says x6 x8) ts us4 f try_5 z

              module _ (us5 : List Token) (y5 : Takes s.Catch us4 us5) where
                try_6 : Goes (other_expression d) (itself (other_expression d)) (record { parts = the variables ∷ a s.Arrow ∷ the (expression (d + 1)) ∷ []; build = λ x6 _ x8. m.try (at t.place) y0.says y2.says y4.says x6 x8 }
                    ∷ []) ts us5
                try_6 = try_5 >> take_class _ s.Catch (the variables ∷ a s.Arrow ∷ the (expression (d + 1)) ∷ []) (λ _ x6 _ x8. m.try (at t.place) y0.says y2.says y4.says x6 x8) us4 us5 y5

                pub try_6_bad : (f : PartFault) → Refuses variables us5 f → Refuses (other_expression d) ts f
                try_6_bad f z = refused _ _ (a s.Arrow ∷ the (expression (d + 1)) ∷ []) (λ x6 _ x8. m.try (at t.place) y0.says y2.says y4.says x6 x8) ts us5 f try_6 ((λ t x. refl), (λ t x. refl), tt) z

                module _ (us6 : List Token) (o6 : List VarName) (y6 : ReadsVariables us5 o6 us6) where
                  try_7 : Goes (other_expression d) (itself (other_expression d)) (record { parts = a s.Arrow ∷ the (expression (d + 1)) ∷ []; build = λ _ x8. m.try (at t.place) y0.says y2.says y4.says y6.says x8 } ∷ []) ts us6
                  try_7 = try_6 >> through _ _ (a s.Arrow ∷ the (expression (d + 1)) ∷ []) (λ x6 _ x8. m.try (at t.place) y0.says y2.says y4.says x6 x8) us5 us6 y6.says y6.passes ((λ t x. refl), (λ t x. refl), tt)

                  pub try_7_bad : (f : PartFault) → Misses s.Arrow us6 f → Refuses (other_expression d) ts f
                  try_7_bad f z = lacking _ s.Arrow (the (expression (d + 1)) ∷ []) (λ _ x8. m.try (at t.place) y0.says y2.says y4.says y6.says x8) ts us6 f try_7 z

                  module _ (us7 : List Token) (y7 : Takes s.Arrow us6 us7) where
                    try_8 : Goes (other_expression d) (itself (other_expression d)) (record { parts = the (expression (d + 1)) ∷ []; build = λ x8. m.try (at t.place) y0.says y2.says y4.says y6.says x8 } ∷ []) ts us7
                    try_8 = try_7 >> take_class _ s.Arrow (the (expression (d + 1)) ∷ []) (λ _ x8. m.try (at t.place) y0.says y2.says y4.says y6.says x8) us6 us7 y7

                    pub try_8_bad : (f : PartFault) → Refuses (expression (d + 1)) us7 f → Refuses (other_expression d) ts f
                    try_8_bad f z = refused _ _ ([]) (λ x8. m.try (at t.place) y0.says y2.says y4.says y6.says x8) ts us7 f try_8 ((λ t x. refl), (λ t x. refl), tt) z

                    module _ (us8 : List Token) (o8 : m.Tree) (p8 : ℕ) (y8 : ReadsExpression (d + 1) p4 us7 o8 us8 p8) where
                      try_9 : Goes (other_expression d) (itself (other_expression d)) (record { parts = []; build = m.try (at t.place) y0.says y2.says y4.says y6.says y8.says } ∷ []) ts us8
                      try_9 = try_8 >> through _ _ ([]) (λ x8. m.try (at t.place) y0.says y2.says y4.says y6.says x8) us7 us8 y8.says y8.passes ((λ t x. refl), (λ t x. refl), tt)

                      pub try_ok : (k : Mark) → k ≡ mark n place → (e : m.Tree) → e ≡ m.try k o0 o2 o4 o6 o8 → ReadsOtherExpression d n ts e us8 p8
                      try_ok k i e g = record {
                        says = m.try (at t.place) y0.says y2.says y4.says y6.says y8.says;
                        passes = try_9;
                        agrees = ap (λ (r : m.Tree × ℕ). let z : m.Tree × ℕ = (
                          m.try (labelled n (at t.place)) r.0 y2.says (number r.1 (y4.says)).0 y6.says (number ((number r.1 (y4.says)).1) (y8.says)).0,
                          (number ((number r.1 (y4.says)).1) (y8.says)).1,
                        ) in z) y0.agrees
                            ∙ ap (λ (r : m.Tree × ℕ). let z : m.Tree × ℕ = (m.try (labelled n (at t.place)) o0 y2.says r.0 y6.says (number r.1 (y8.says)).0, (number r.1 (y8.says)).1) in z) y4.agrees
                            ∙ ap (λ (r : m.Tree × ℕ). let z : m.Tree × ℕ = (m.try (labelled n (at t.place)) o0 y2.says o4 y6.says r.0, r.1) in z) y8.agrees
                            ∙ ap (λ x. let z : m.Tree × ℕ = (m.try (labelled n (at t.place)) o0 x o4 y6.says o8, p8) in z) y2.agrees
                            ∙ ap (λ x. let z : m.Tree × ℕ = (m.try (labelled n (at t.place)) o0 o2 o4 x o8, p8) in z) y6.agrees ∙ made_with p8 (λ k. m.try k o0 o2 o4 o6 o8) n place t.place b.place_is k i e g;
                        single = λ _. refl;
                      }

  -- receive
  module _ (h : q ≡ s.Receive) where
    receive_0 : Goes (other_expression d) (itself (other_expression d)) (record {
      parts = the (clauses_to s.After (d + 1)) ∷ the (expression (d + 1)) ∷ a s.Arrow ∷ the (expression (d + 1)) ∷ [];
      build = λ x0 x1 _ x3. m.receive (at t.place) (lists.clauses x0) x1 x3;
    } ∷ []) ts us
    receive_0 = taken (other_expression d) (itself (other_expression d)) ts us t s.Receive b.are (sym b.sort_is ∙ h) refl ((w, tt), tt)

    pub receive_0_bad : (f : PartFault) → Refuses (clauses_to s.After (d + 1)) us f → Refuses (other_expression d) ts f
    receive_0_bad f z = refused _ _ (the (expression (d + 1)) ∷ a s.Arrow ∷ the (expression (d + 1)) ∷ []) (λ x0 x1 _ x3. m.receive (at t.place) (lists.clauses x0) x1 x3) ts us f receive_0 ((λ t x. refl), (λ t x. refl), tt) z

    module _ (us0 : List Token) (o0 : m.Clauses) (p0 : ℕ) (y0 : ReadsClauses s.After (d + 1) (n + 1) us o0 us0 p0) where
      receive_1 : Goes (other_expression d) (itself (other_expression d)) (record {
        parts = the (expression (d + 1)) ∷ a s.Arrow ∷ the (expression (d + 1)) ∷ [];
        build = λ x1 _ x3. m.receive (at t.place) (lists.clauses y0.says) x1 x3;
      } ∷ []) ts us0
      receive_1 = receive_0 >> through _ _ (the (expression (d + 1)) ∷ a s.Arrow ∷ the (expression (d + 1)) ∷ []) (λ x0 x1 _ x3. m.receive (at t.place) (lists.clauses x0) x1 x3) us us0 y0.says y0.passes (
        (λ t x. refl),
        (λ t x. refl),
        tt,
      )

      pub receive_1_bad : (f : PartFault) → Refuses (expression (d + 1)) us0 f → Refuses (other_expression d) ts f
      receive_1_bad f z = refused _ _ (a s.Arrow ∷ the (expression (d + 1)) ∷ []) (λ x1 _ x3. m.receive (at t.place) (lists.clauses y0.says) x1 x3) ts us0 f receive_1 ((λ t x. refl), (λ t x. refl), tt) z

      module _ (us1 : List Token) (o1 : m.Tree) (p1 : ℕ) (y1 : ReadsExpression (d + 1) p0 us0 o1 us1 p1) where
        receive_2 : Goes (other_expression d) (itself (other_expression d)) (record { parts = a s.Arrow ∷ the (expression (d + 1)) ∷ []; build = λ _ x3. m.receive (at t.place) (lists.clauses y0.says) y1.says x3 } ∷ []) ts us1
        receive_2 = receive_1 >> through _ _ (a s.Arrow ∷ the (expression (d + 1)) ∷ []) (λ x1 _ x3. m.receive (at t.place) (lists.clauses y0.says) x1 x3) us0 us1 y1.says y1.passes ((λ t x. refl), (λ t x. refl), tt)

        pub receive_2_bad : (f : PartFault) → Misses s.Arrow us1 f → Refuses (other_expression d) ts f
        receive_2_bad f z = lacking _ s.Arrow (the (expression (d + 1)) ∷ []) (λ _ x3. m.receive (at t.place) (lists.clauses y0.says) y1.says x3) ts us1 f receive_2 z

        module _ (us2 : List Token) (y2 : Takes s.Arrow us1 us2) where
          receive_3 : Goes (other_expression d) (itself (other_expression d)) (record { parts = the (expression (d + 1)) ∷ []; build = λ x3. m.receive (at t.place) (lists.clauses y0.says) y1.says x3 } ∷ []) ts us2
          receive_3 = receive_2 >> take_class _ s.Arrow (the (expression (d + 1)) ∷ []) (λ _ x3. m.receive (at t.place) (lists.clauses y0.says) y1.says x3) us1 us2 y2

          pub receive_3_bad : (f : PartFault) → Refuses (expression (d + 1)) us2 f → Refuses (other_expression d) ts f
          receive_3_bad f z = refused _ _ ([]) (λ x3. m.receive (at t.place) (lists.clauses y0.says) y1.says x3) ts us2 f receive_3 ((λ t x. refl), (λ t x. refl), tt) z

          module _ (us3 : List Token) (o3 : m.Tree) (p3 : ℕ) (y3 : ReadsExpression (d + 1) p1 us2 o3 us3 p3) where
            receive_4 : Goes (other_expression d) (itself (other_expression d)) (record { parts = []; build = m.receive (at t.place) (lists.clauses y0.says) y1.says y3.says } ∷ []) ts us3
            receive_4 = receive_3 >> through _ _ ([]) (λ x3. m.receive (at t.place) (lists.clauses y0.says) y1.says x3) us2 us3 y3.says y3.passes ((λ t x. refl), (λ t x. refl), tt)

            pub receive_ok : (k : Mark) → k ≡ mark n place → (e : m.Tree) → e ≡ m.receive k o0 o1 o3 → ReadsOtherExpression d n ts e us3 p3
            receive_ok k i e g = record {
              says = m.receive (at t.place) (lists.clauses y0.says) y1.says y3.says;
              passes = receive_4;
              agrees = ap (λ (r : m.Clauses × ℕ). let z : m.Tree × ℕ = (
                m.receive (labelled n (at t.place)) r.0 (number r.1 (y1.says)).0 (number ((number r.1 (y1.says)).1) (y3.says)).0,
                (number ((number r.1 (y1.says)).1) (y3.says)).1,
              ) in z) y0.agrees
                  ∙ ap (λ (r : m.Tree × ℕ). let z : m.Tree × ℕ = (m.receive (labelled n (at t.place)) o0 r.0 (number r.1 (y3.says)).0, (number r.1 (y3.says)).1) in z) y1.agrees
                  ∙ ap (λ (r : m.Tree × ℕ). let z : m.Tree × ℕ = (m.receive (labelled n (at t.place)) o0 o1 r.0, r.1) in z) y3.agrees ∙ made_with p3 (λ k. m.receive k o0 o1 o3) n place t.place b.place_is k i e g;
              single =
                  λ _. refl;
            }
