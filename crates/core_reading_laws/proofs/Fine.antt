-- The ways of each nonterminal that the grammar reaches are fine: pairwise apart, and nothing barred follows one of their parts.
use Rattle.std.proofs.Common.{◌≡◌, ◌⊎◌, inl, inr, ℕ, zero, suc, ◌+◌, ◌<◌, ◌≤◌, Bool, true, false, ◌&&◌, ◌||◌, List, [], ◌∷◌, refl, sym, subst, arith, true≢false}
use Rattle.std.proofs.lemmas.Bool.{and_parts, cases_eq}
use Rattle.std.proofs.lemmas.Bool.Decides.{nat_tests}
use Rattle.components.proofs.Bounded.{is_low}
use Rattle.core_reading_laws.proofs.Symbols.{opening, Head, simple, annotated, listed, rest_of, defined_to, closed_to, same_head, same_head_is}
use Rattle.core_reading_laws.proofs.Apart.{is_fine, compounds, is_among, is_known}

abbrev fine_from : ℕ → ℕ → Bool
fine_from zero k = true
fine_from (suc n) k = is_fine (simple k) && fine_from n (suc k)

abbrev all_fine : List Head → Bool
all_fine [] = true
all_fine (h ∷ hs) = is_fine h && all_fine hs

constants_fine : fine_from 17 0 ≡ true
constants_fine = refl

expressions_fine : fine_from 11 17 ≡ true
expressions_fine = refl

patterns_fine : fine_from 13 28 ≡ true
patterns_fine = refl

compounds_fine : all_fine compounds ≡ true
compounds_fine = refl

fine_at : (n k : ℕ) → fine_from n k ≡ true → (j : ℕ) → k ≤ j → j < k + n → is_fine (simple j) ≡ true
fine_at zero k e j low high = absurd (omega (arith, low, high))
fine_at (suc n) k e j low high =
    let parts = and_parts (is_fine (simple k)) (fine_from n (suc k)) e in
    elim (cases_eq j k) [
      | inl h ↦ subst (λ x. is_fine (simple x) ≡ true) (sym h) parts.0
      | inr h ↦ fine_at n (suc k) parts.1 j (omega (arith, low, h)) (omega (arith, high))
    ]

one_of : (x y : Bool) → (x || y) ≡ true → (x ≡ true) ⊎ (y ≡ true)
one_of true y e = inl refl
one_of false y e = inr e

fine_among : (h : Head) (hs : List Head) → is_among h hs ≡ true → all_fine hs ≡ true → is_fine h ≡ true
fine_among h [] e f = absurd (true≢false (sym e))
fine_among h (k ∷ ks) e f =
    let parts = and_parts (is_fine k) (all_fine ks) f in
    elim (one_of (same_head h k) (is_among h ks) e) [
      | inl x ↦ subst (λ x. is_fine x ≡ true) (sym (same_head_is h k x)) parts.0
      | inr x ↦ fine_among h ks x parts.1
    ]

simple_fine : (k : ℕ) → k < 41 → is_fine (simple k) ≡ true
simple_fine k low = elim (is_low k 17) [
  | inl h ↦ fine_at 17 0 constants_fine k (omega arith) (omega (arith, h))
  | inr h ↦ elim (is_low k 28) [
    | inl j ↦ fine_at 11 17 expressions_fine k (omega (arith, h)) (omega (arith, j))
    | inr j ↦ fine_at 13 28 patterns_fine k (omega (arith, j)) (omega (arith, low))
  ]
]

pub known_fine : (h : Head) → is_known (opening h) ≡ true → is_fine h ≡ true
known_fine (simple k) e = simple_fine k (grind (arith, nat_tests))
known_fine (annotated p) e = fine_among (annotated p) compounds e compounds_fine
known_fine (listed c p) e = fine_among (listed c p) compounds e compounds_fine
known_fine (rest_of c p) e = fine_among (rest_of c p) compounds e compounds_fine
known_fine (defined_to c) e = fine_among (defined_to c) compounds e compounds_fine
known_fine (closed_to c) e = fine_among (closed_to c) compounds e compounds_fine
