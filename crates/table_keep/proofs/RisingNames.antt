-- Names that rise, by their places; and names at places that ascend.
use Rattle.std.proofs.Common.{◌≡◌, ℕ, zero, suc, ◌<◌, inl, inr, true, ◌||◌, List, [], ◌∷◌, map, Some, Contains, slice_get, refl, sym, ap, ◌∙◌, subst, true≢false, arith}
use Rattle.std.specs.Cmp.Lexicographic.{bytes_decides}
use Rattle.std.proofs.lemmas.Bool.{cases_lt, and_from, or_right, or_cases}
use Rattle.type_kinds.specs.declared.atom.Atom.{Atom}
use Rattle.type_kinds.proofs.Lists.{contains_none, contains_first, contains_later, contains_cases, same_head, same_tail}
use Rattle.type_kinds.proofs.Truths.{first, second}
use Rattle.type_kinds_sets.proofs.AscendingLaws as ascending
use Rattle.type_kinds_sets.proofs.NameLaws.{name_total, name_same}
use Rattle.components.specs.Lists.{Ascending}
use Rattle.components.proofs.AscendingLists.{above_first, rest_ascending}
use Rattle.core_scope.specs.Names.{same_atom}
use Rattle.table_file.specs.Order.{rises, rises_from, is_name_before}
use Rattle.table_keep.specs.Groups.{has}

pub some_is : {X : Type 0} (x y : X) → Some x ≡ Some y → x ≡ y
some_is x y e = cc

before_before : (a b c : Atom) → is_name_before a b ≡ true → is_name_before b c ≡ true → is_name_before a c ≡ true
before_before a b c e f = ascending.below-below name_total name_same a b c e f

pub not_itself : (a : Atom) → is_name_before a a ≡ true → ⊥
not_itself a e = ascending.below-not_itself name_total name_same a e

-- ---- places of names that rise

pub rest_rises : (x : Atom) (xs : List Atom) → rises is_name_before (x ∷ xs) ≡ true → rises is_name_before xs ≡ true
rest_rises x [] up = refl
rest_rises x (y ∷ ys) up = second (is_name_before x y) (rises_from is_name_before y ys) up

pub first_before : (x : Atom) (xs : List Atom) → rises is_name_before (x ∷ xs) ≡ true → (j : ℕ) (b : Atom) → slice_get xs j ≡ Some b → is_name_before x b ≡ true
first_before x [] up j b at = absurd cc
first_before x (y ∷ ys) up zero b at = subst (λ z. is_name_before x z ≡ true) (some_is y b at) (first (is_name_before x y) (rises_from is_name_before y ys) up)
first_before x (y ∷ ys) up (suc j) b at =
    before_before x y b (first (is_name_before x y) (rises_from is_name_before y ys) up) (first_before y ys (rest_rises x (y ∷ ys) up) j b at)

pub earlier_before : (names : List Atom) → rises is_name_before names ≡ true → (i j : ℕ) (a b : Atom) → i < j → slice_get names i ≡ Some a → slice_get names j ≡ Some b → is_name_before a b ≡ true
earlier_before [] up i j a b lt at_i at_j = absurd cc
earlier_before (x ∷ xs) up i zero a b lt at_i at_j = absurd (omega (arith, lt))
earlier_before (x ∷ xs) up zero (suc j) a b lt at_i at_j = subst (λ z. is_name_before z b ≡ true) (some_is x a at_i) (first_before x xs up j b at_j)
earlier_before (x ∷ xs) up (suc i) (suc j) a b lt at_i at_j = earlier_before xs (rest_rises x xs up) i j a b (omega (arith, lt)) at_i at_j

pub never_before : (names : List Atom) → rises is_name_before names ≡ true → (n : ℕ) (a : Atom) → slice_get names n ≡ Some a → (k : ℕ) → k < n → slice_get names k ≡ Some a → ⊥
never_before names up n a at k lt before = not_itself a (earlier_before names up k n a a lt before at)

pub stands_once : (names : List Atom) → rises is_name_before names ≡ true → (i j : ℕ) (a : Atom) → slice_get names i ≡ Some a → slice_get names j ≡ Some a → i ≡ j
stands_once names up i j a at_i at_j = elim (cases_lt i j) [
  | inl below ↦ absurd (not_itself a (earlier_before names up i j a a below at_i at_j))
  | inr above ↦ elim (cases_lt j i) [
    | inl below ↦ absurd (not_itself a (earlier_before names up j i a a below at_j at_i))
    | inr same ↦ omega (arith, above, same)
  ]
]

-- ---- names at places

pub has_at : (names : List Atom) (i : ℕ) (a : Atom) → slice_get names i ≡ Some a → has names a ≡ true
has_at [] i a e = absurd cc
has_at (x ∷ xs) zero a e = ap (λ b. b || has xs a) ((bytes_decides a x).1 (sym (some_is x a e)))
has_at (x ∷ xs) (suc i) a e = or_right (same_atom a x) (has xs a) (has_at xs i a e)

-- the names xs are those of some names at these places
abbrev pub AreAt : (names : List Atom) → List ℕ → List Atom → Type 0
AreAt names places xs = map Some xs ≡ map (slice_get names) places

module _ (names : List Atom) where
  head_at : (i : ℕ) (is : List ℕ) (x : Atom) (xs : List Atom) → AreAt names (i ∷ is) (x ∷ xs) → slice_get names i ≡ Some x
  head_at i is x xs e = sym (same_head (Some x) (slice_get names i) (map Some xs) (map (slice_get names) is) e)

  tail_at : (i : ℕ) (is : List ℕ) (x : Atom) (xs : List Atom) → AreAt names (i ∷ is) (x ∷ xs) → AreAt names is xs
  tail_at i is x xs e = same_tail (Some x) (slice_get names i) (map Some xs) (map (slice_get names) is) e

  pub place_of_has : (places : List ℕ) (xs : List Atom) → AreAt names places xs → (a : Atom) → has xs a ≡ true → (i : ℕ) × Contains places i × (slice_get names i ≡ Some a)
  place_of_has places [] e a h = absurd (true≢false (sym h))
  place_of_has [] (x ∷ xs) e a h = absurd cc
  place_of_has (i ∷ is) (x ∷ xs) e a h = elim (or_cases (same_atom a x) (has xs a) h) [
    | inl same ↦ (i, contains_first i is, head_at i is x xs e ∙ ap Some (sym ((bytes_decides a x).0 same)))
    | inr later ↦ (let r = place_of_has is xs (tail_at i is x xs e) a later in (r.0, contains_later i r.0 is r.1, r.2))
  ]

  pub has_of_place : (places : List ℕ) (xs : List Atom) → AreAt names places xs → (a : Atom) (i : ℕ) → Contains places i → slice_get names i ≡ Some a → has xs a ≡ true
  has_of_place [] xs e a i h at = absurd (contains_none i h)
  has_of_place (j ∷ js) [] e a i h at = absurd cc
  has_of_place (j ∷ js) (x ∷ xs) e a i h at = elim (contains_cases j i js h) [
    | inl same ↦ ap (λ b. b || has xs a) ((bytes_decides a x).1 (some_is a x (sym at ∙ ap (slice_get names) (sym same) ∙ head_at j js x xs e)))
    | inr later ↦ or_right (same_atom a x) (has xs a) (has_of_place js xs (tail_at j js x xs e) a i later at)
  ]

  module _ (up : rises is_name_before names ≡ true) where
    rises_behind : (i : ℕ) (x : Atom) → slice_get names i ≡ Some x → (places : List ℕ) (xs : List Atom) → Ascending (i ∷ places) → AreAt names places xs → rises_from is_name_before x xs ≡ true
    rises_behind i x at places [] a e = refl
    rises_behind i x at [] (y ∷ ys) a e = absurd cc
    rises_behind i x at (j ∷ js) (y ∷ ys) a e =
        let at_j = head_at j js y ys e in
        and_from (is_name_before x y) (rises_from is_name_before y ys) (earlier_before names up i j x y (above_first i j (j ∷ js) a (contains_first j js)) at at_j)
        (rises_behind j y at_j js ys (rest_ascending i (j ∷ js) a) (tail_at j js y ys e))

    pub rises_at_places : (places : List ℕ) (xs : List Atom) → Ascending places → AreAt names places xs → rises is_name_before xs ≡ true
    rises_at_places places [] a e = refl
    rises_at_places [] (x ∷ xs) a e = absurd cc
    rises_at_places (i ∷ is) (x ∷ xs) a e = rises_behind i x (head_at i is x xs e) is xs a (tail_at i is x xs e)
