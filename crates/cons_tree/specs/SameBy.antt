-- Whether two values of data are the same, for every type that has a code.
use Rattle.std.specs.Prelude.{◌≡◌, ◌↔◌, Bool, true, IsTrue, refl}
use Rattle.std.proofs.Common.{sym, ap, subst, true≢false}
use Rattle.std.specs.Cmp.{IsEquivalence, IsPartialEquivalence, both_ways, decided, partial_equiv_from_equiv}
use Rattle.std.specs.Coded.{Coded}
use Rattle.std.proofs.lemmas.Bool.{and_from}
use Rattle.type_kinds.proofs.Truths.{first, second}
use borrow.Author.Tests.{eqb-true, eq-eqb}
use base.Stored.{Gv, gnil, gnum, gcons}
use Rattle.type_lattice.specs.Inclusion.{is_same_code}

one_code : (g h : Gv) → is_same_code g h ≡ true → g ≡ h
unfolding is_same_code
one_code gnil gnil e = refl
one_code gnil (gnum n) e = absurd (true≢false (sym e))
one_code gnil (gcons c d) e = absurd (true≢false (sym e))
one_code (gnum m) gnil e = absurd (true≢false (sym e))
one_code (gnum m) (gnum n) e = ap gnum (eqb-true m n e)
one_code (gnum m) (gcons c d) e = absurd (true≢false (sym e))
one_code (gcons a b) gnil e = absurd (true≢false (sym e))
one_code (gcons a b) (gnum n) e = absurd (true≢false (sym e))
one_code (gcons a b) (gcons c d) e =
    let x = one_code a c (first (is_same_code a c) (is_same_code b d) e) in
    let y = one_code b d (second (is_same_code a c) (is_same_code b d) e) in
    λ i. gcons (x i) (y i)

code_itself : (g : Gv) → is_same_code g g ≡ true
unfolding is_same_code
code_itself gnil = refl
code_itself (gnum n) = eq-eqb n n refl
code_itself (gcons a b) = and_from (is_same_code a a) (is_same_code b b) (code_itself a) (code_itself b)

module _ {A : Type 0} (c : Coded A) where
  -- whether two values are the same: no two values have one code
  unfoldable pub same_by : A → A → Bool
  same_by a b = is_same_code (c.code a) (c.code b)

  pub same_by_equal : (a b : A) → IsTrue (same_by a b) ↔ (a ≡ b)
  unfolding same_by
  same_by_equal a b =
      (λ e. c.inj a b (one_code (c.code a) (c.code b) e), λ e. subst (λ x. is_same_code (c.code a) (c.code x) ≡ true) e (code_itself (c.code a)))

  -- what a test of sameness answers
  pub same_by_told : (a b : A) (told : Bool) → (IsTrue told ↔ (a ≡ b)) → told ≡ same_by a b
  same_by_told a b told is =
      both_ways told (same_by a b) (λ e. (same_by_equal a b).1 (is.0 e)) (λ e. is.1 ((same_by_equal a b).0 e))

  pub same_by_equivalence : IsEquivalence same_by
  same_by_equivalence = decided same_by same_by_equal

  pub same_by_laws : IsPartialEquivalence same_by
  same_by_laws = partial_equiv_from_equiv same_by_equivalence
