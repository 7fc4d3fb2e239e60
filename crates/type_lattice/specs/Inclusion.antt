-- Whether two types are one, and whether one is a part of another, as functions.
use Rattle.std.specs.Prelude.{◌≡◌, ◌↔◌, Bool, true, false, ◌&&◌, ◌==◌, IsTrue, refl}
use Rattle.std.proofs.Common.{sym, ap, subst, true≢false}
use Rattle.std.specs.Cmp.{IsEquivalence, decided}
use Rattle.std.proofs.lemmas.Bool.{and_from}
use Rattle.type_kinds.proofs.Truths.{first, second}
use borrow.Author.Tests.{eqb-true, eq-eqb}
use base.Stored.{Gv, gnil, gnum, gcons}
use Rattle.type_lattice.specs.Types.{Type4, meet, type_code}

-- whether two codes are one
unfoldable pub is_same_code : Gv → Gv → Bool
is_same_code gnil gnil = true
is_same_code gnil (gnum n) = false
is_same_code gnil (gcons c d) = false
is_same_code (gnum m) gnil = false
is_same_code (gnum m) (gnum n) = m == n
is_same_code (gnum m) (gcons c d) = false
is_same_code (gcons a b) gnil = false
is_same_code (gcons a b) (gnum n) = false
is_same_code (gcons a b) (gcons c d) = is_same_code a c && is_same_code b d

-- whether two types are one: no two types have one code
unfoldable pub is_same : Type4 → Type4 → Bool
is_same s t = is_same_code (type_code.code s) (type_code.code t)

-- whether each value of the first type is one of the second: then the first is the meet of both
unfoldable pub leq : Type4 → Type4 → Bool
leq s t = is_same (meet s t) s

-- ---- why types are one where they are told to be

one_code : (g h : Gv) → is_same_code g h ≡ true → g ≡ h
unfolding is_same_code
one_code gnil gnil e = refl
one_code gnil (gnum n) e = absurd (true≢false (sym e))
one_code gnil (gcons c d) e = absurd (true≢false (sym e))
one_code (gnum m) gnil e = absurd (true≢false (sym e))
one_code (gnum m) (gnum n) e = ap gnum (eqb-true m n e)
one_code (gnum m) (gcons c d) e = absurd (true≢false (sym e))
one_code (gcons a b) gnil e = absurd (true≢false (sym e))
one_code (gcons a b) (gnum n) e = absurd (true≢false (sym e))
one_code (gcons a b) (gcons c d) e =
    let x = one_code a c (first (is_same_code a c) (is_same_code b d) e) in
    let y = one_code b d (second (is_same_code a c) (is_same_code b d) e) in
    λ i. gcons (x i) (y i)

code_itself : (g : Gv) → is_same_code g g ≡ true
unfolding is_same_code
code_itself gnil = refl
code_itself (gnum n) = eq-eqb n n refl
code_itself (gcons a b) = and_from (is_same_code a a) (is_same_code b b) (code_itself a) (code_itself b)

-- two types are the same just where they are equal
pub same-equal : (s t : Type4) → IsTrue (is_same s t) ↔ (s ≡ t)
unfolding is_same
same-equal s t =
    (λ e. type_code.inj s t (one_code (type_code.code s) (type_code.code t) e), λ e. subst (λ x. is_same_code (type_code.code s) (type_code.code x) ≡ true) e (code_itself (type_code.code s)))

pub same_equivalence : IsEquivalence is_same
same_equivalence = decided is_same same-equal
