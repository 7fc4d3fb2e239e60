-- What component by component is solved is closed at each function: by all that is known it gives no more than its summary says.
use Rattle.std.proofs.Common.{◌≡◌, ℕ, Bool, true, false, cond, List, [], ◌∷◌, length, map, Contains, inl, inr, Some, refl, sym, ap, ap₂, ◌∙◌, subst}
use Rattle.std.proofs.lemmas.Bool.{and_parts, or_left, or_right}
use Rattle.type_kinds.proofs.Lists.{contains_none, contains_cases}
use Rattle.type_kinds.specs.declared.atom.Atom.{Atom}
use Rattle.core_ast.specs.declared.syntax.FunName.{FunName}
use Rattle.core_ast.specs.Model as m
use Rattle.cons_tree.specs.Constraints.{Cons}
use Rattle.cons_tree.specs.Environments.{Types}
use Rattle.cons_tree.specs.Facts.{TypeFacts}
use Rattle.cons_tree.specs.Signatures.{has_none}
use Rattle.cons_tree.specs.declared.parts.Callee.{Callee}
use Rattle.cons_tree.specs.declared.parts.Callee.TheVariants.{Known, Local, Undefined, Unknown}
use Rattle.cons_tree.specs.declared.parts.Part.{Part}
use Rattle.cons_tree.specs.declared.parts.Sig.{Sig}
use Rattle.cons_tree.specs.declared.parts.Summary.{Summary}
use Rattle.cons_gen_rows.specs.Passes.{Knowledge, by_name, by_names}
use Rattle.cons_gen_frame.specs.Frame.{knowing}
use Rattle.cons_gen_frame.proofs.Choices.{first_way}
use Rattle.cons_solve.specs.Environments.{solution}
use Rattle.comp_rounds.specs.Rounds.{Callees, Function, is_named, is_member, callee_of, with_function, of_one, with_signatures, strict_pass, lenient_pass, inferred, paired, given, strict_signatures}
use Rattle.comp_rounds.specs.Signatures.{is_below, all_below}
use Rattle.sound_laws.specs.Knowledge.{summary_of}
use Rattle.sound_laws.specs.Summaries.{IsWithin}
use Rattle.sound_laws_rounds.specs.Whole.{AreKnown}
use Rattle.sound_laws_rounds.proofs.Callees.{summary_is}
use Rattle.sound_laws_rounds.proofs.Inferred.{inferred_within, same_below}
use Rattle.sound_laws_whole.proofs.Named.{named_is}
use Rattle.analysis_summaries.specs.Functions.{all_functions}
use Rattle.sound_laws_outside.specs.Over.{IsKnownOver}
use Rattle.sound_laws_outside.proofs.One.{one_number}
use Rattle.table_verify_laws.specs.Closed.{IsComponent, IsClosedAt}
use Rattle.table_verify_laws.proofs.Passes.{SameCalls, solved_same}

-- ---- a pass by strict signatures, and one by what is known

-- A relation holds between what is known where members have these strict signatures and what is known of all, where it holds between a
-- callee and itself, and between those of a member.
signed : (R : Callee → Callee → Type 0) (K around : Callees) (gs : List Function) (ss ls : List Sig) (h : Atom) (f : FunName) → R (around h f) (K h f) → AreKnown K gs (paired ss ls)
    → ((g : Function) (s l : Sig) → is_member gs h f ≡ true → R (callee_of g (of_one s)) (callee_of g (record { strict = s; lenient = l }))) → R (with_signatures around gs ss h f) (K h f)
signed R K around [] ss ls h f r are each = r
signed R K around (g ∷ gs) [] ls h f r are each = r
signed R K around (g ∷ gs) (s ∷ ss) [] h f r are each = absurd are
signed R K around (g ∷ gs) (s ∷ ss) (l ∷ ls) h f r are each =
    signed R K (with_function around g (of_one s)) gs ss ls h f (by (is_named g h f) refl) are.1
    (λ k t u later. each k t u (or_right (is_named g h f) (is_member gs h f) later))
  where
    by : (b : Bool) → is_named g h f ≡ b → R (cond b (callee_of g (of_one s)) (around h f)) (K h f)
    by true is =
        let names = named_is g h f is in
        subst (R (callee_of g (of_one s))) (sym (ap₂ K names.0 names.1 ∙ are.0)) (each g s l (or_left (is_named g h f) (is_member gs h f) is))
    by false is = r

-- two callees of which two passes make the same rows
record AreTaken (P Q : Knowledge) (h : Atom) (f : FunName) (x y : Callee) : Type 0 where
  called : (s : ℕ) (ss : List ℕ) → by_names P h f x s ss ≡ by_names Q h f y s ss
  applied : (s : ℕ) (ss : List ℕ) → by_name P h f x s ss ≡ by_name Q h f y s ss

taken_itself : (lenient : Bool) (own : Atom → FunName → Bool) (c d : Callees) (h : Atom) (f : FunName) (x : Callee) → AreTaken (knowing lenient own c) (knowing lenient own d) h f x x
taken_itself lenient own c d h f (Known t) = record { called = λ s ss. refl; applied = λ s ss. refl }
taken_itself lenient own c d h f (Local t) = record { called = λ s ss. refl; applied = λ s ss. refl }
taken_itself lenient own c d h f Undefined = record { called = λ s ss. refl; applied = λ s ss. refl }
taken_itself lenient own c d h f Unknown = record { called = λ s ss. refl; applied = λ s ss. refl }

-- strictly the same signature is taken
strictly_taken : (c d : Callees) (h : Atom) (f : FunName) (g : Function) (s l : Sig)
    → AreTaken (strict_pass c) (strict_pass d) h f (callee_of g (of_one s)) (callee_of g (record { strict = s; lenient = l }))
strictly_taken c d h f g s l = by g.exported
  where
    by : (b : Bool) → AreTaken (strict_pass c) (strict_pass d) h f (cond b (Known (of_one s)) (Local (of_one s)))
        (cond b (Known (record { strict = s; lenient = l })) (Local (record { strict = s; lenient = l })))
    by true = record { called = λ s ss. refl; applied = λ s ss. refl }
    by false = record { called = λ s ss. refl; applied = λ s ss. refl }

-- leniently nothing is taken of the own members
own_taken : (gs : List Function) (c d : Callees) (h : Atom) (f : FunName) (g : Function) (x y : Summary) → is_member gs h f ≡ true
    → AreTaken (lenient_pass gs c) (lenient_pass gs d) h f (callee_of g x) (callee_of g y)
own_taken gs c d h f g x y is = by g.exported
  where
    by : (b : Bool) → AreTaken (lenient_pass gs c) (lenient_pass gs d) h f (cond b (Known x) (Local x)) (cond b (Known y) (Local y))
    by true = record { called = λ s ss. first_way (is_member gs h f) [] _ [] _ is refl; applied = λ s ss. first_way (is_member gs h f) [] _ [] _ is refl }
    by false = record { called = λ s ss. refl; applied = λ s ss. first_way (is_member gs h f) [] _ [] _ is refl }

module _ (T : TypeFacts) (alive : (c : Cons Part) (xs ys : Types) → has_none xs ≡ false → solution c xs ≡ Some ys → has_none ys ≡ false)
    (settles : (around : Callees) (gs : List Function) → all_below (given around gs (strict_signatures around gs)) (strict_signatures around gs) ≡ true)
    (xs : List m.Module) (outside K : Callees) (is : IsKnownOver outside xs K) where
  abbrev fs : List Function
  fs = all_functions xs

  -- ---- the member of a component

  record IsFound (P L : Knowledge) (g : Function) : Type 0 where
    strict : Sig
    lenient : Sig
    known : K g.home g.name ≡ callee_of g (record { strict = strict; lenient = lenient })
    below : is_below (inferred P g) strict ≡ true
    is_inferred : lenient ≡ inferred L g

  find : (P L : Knowledge) (gs : List Function) (ss : List Sig) (g : Function) → Contains gs g → AreKnown K gs (paired ss (map (inferred L) gs)) → all_below (map (inferred P) gs) ss ≡ true → IsFound P L g
  find P L [] ss g has are low = absurd (contains_none g has)
  find P L (k ∷ gs) [] g has are low = absurd are
  find P L (k ∷ gs) (s ∷ ss) g has are low =
      let both = and_parts (is_below (inferred P k) s) (all_below (map (inferred P) gs) ss) low in
      elim (contains_cases k g gs has) [
        | inl same ↦ subst (IsFound P L) same (record { strict = s; lenient = inferred L k; known = are.0; below = both.0; is_inferred = refl })
        | inr more ↦ find P L gs ss g more are.1 both.1
      ]

  module _ (g : Function) (there : Contains fs g) where
    abbrev gs : List Function
    gs = is.component (is.number g.home g.name)

    abbrev signatures : Callees
    signatures = with_signatures K gs (strict_signatures K gs)

    strict_same : SameCalls false (λ h f. false) signatures K
    strict_same = record { called = λ h f. (taken h f).called; applied = λ h f. (taken h f).applied }
      where
        taken : (h : Atom) (f : FunName) → AreTaken (strict_pass signatures) (strict_pass K) h f (signatures h f) (K h f)
        taken h f =
            signed (AreTaken (strict_pass signatures) (strict_pass K) h f) K K gs (strict_signatures K gs) (map (inferred (lenient_pass gs signatures)) gs) h f
            (taken_itself false (λ h f. false) signatures K h f (K h f)) (is.known_so (is.number g.home g.name)) (λ k s l member. strictly_taken signatures K h f k s l)

    lenient_same : SameCalls true (is_member gs) signatures K
    lenient_same = record { called = λ h f. (taken h f).called; applied = λ h f. (taken h f).applied }
      where
        taken : (h : Atom) (f : FunName) → AreTaken (lenient_pass gs signatures) (lenient_pass gs K) h f (signatures h f) (K h f)
        taken h f =
            signed (AreTaken (lenient_pass gs signatures) (lenient_pass gs K) h f) K K gs (strict_signatures K gs) (map (inferred (lenient_pass gs signatures)) gs) h f
            (taken_itself true (is_member gs) signatures K h f (K h f)) (is.known_so (is.number g.home g.name))
            (λ k s l member. own_taken gs signatures K h f k (of_one s) (record { strict = s; lenient = l }) member)

    found : IsFound (strict_pass signatures) (lenient_pass gs signatures) g
    found = find (strict_pass signatures) (lenient_pass gs signatures) gs (strict_signatures K gs) g (is.all g there) (is.known_so (is.number g.home g.name)) (settles K gs)

    component_is : IsComponent fs g gs
    component_is = record {
      within = is.within (is.number g.home g.name);
      together = λ k k_there. (
        λ has. is.together g k there k_there (sym (is.numbered (is.number g.home g.name) k has)),
        λ together. subst (λ n. Contains (is.component n) k) (sym (one_number xs outside K is g k together)) (is.all k k_there),
      );
    }

    pub closed_at : IsClosedAt fs K g
    closed_at =
        let it = found in
        let summary : Summary = record { strict = it.strict; lenient = it.lenient } in
        record {
          summary = summary;
          known_so = ap summary_of it.known ∙ summary_is g summary;
          keeps = record {
            strict = subst (λ r. IsWithin (length g.parameters) r it.strict) (solved_same false (λ h f. false) signatures K strict_same g.home g.parameters g.body)
                (inferred_within T alive (strict_pass signatures) g it.strict it.below);
            component = gs;
            is = component_is;
            lenient = subst (λ r. IsWithin (length g.parameters) r it.lenient) (solved_same true (is_member gs) signatures K lenient_same g.home g.parameters g.body)
                (inferred_within T alive (lenient_pass gs signatures) g it.lenient
                (subst (λ s. is_below (inferred (lenient_pass gs signatures) g) s ≡ true) (sym it.is_inferred) (same_below T alive (inferred (lenient_pass gs signatures) g))));
          };
        }
