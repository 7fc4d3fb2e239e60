-- What an ascending list has, and how many items a part of it has.
use Rattle.std.proofs.Common.{◌≡◌, ℕ, zero, suc, ◌+◌, ◌≤◌, ◌<◌, Bool, true, false, ◌&&◌, ◌||◌, ◌⊎◌, inl, inr, List, []}
use Rattle.std.proofs.Common.{◌∷◌, ◌++◌, length, filter, take, drop, get_or, refl, sym, ap, ◌∙◌, arith, true≢false, Less}
use Rattle.std.specs.declared.cmp.Ordering.{Ordering}
use Rattle.std.specs.Ordering.{is_lt, is_eq, eq_by_cmp}
use Rattle.std.specs.Cmp.{IsTotalOrder, Equal-is, tied_itself}
use Rattle.std.specs.FinSet.{IsAntisymmetric}
use Rattle.std.specs.List.{list_all}
use Rattle.std.proofs.lemmas.List.{take_more, take-append-drop}
use Rattle.std.proofs.lemmas.Bool.{false_from_ne_true, or_right, or_left, or_cases}
use Rattle.type_kinds.proofs.Truths.{first, second}
use Rattle.type_kinds_sets.specs.Ascending.{is_below_all, is_ascending, has_item, placed, merged}

pub merged-append : {K : Type 0} (R : K → K → Ordering) (xs ys zs : List K) → merged R xs (ys ++ zs) ≡ merged R (merged R xs ys) zs
merged-append R xs [] zs = refl
merged-append R xs (y ∷ ys) zs = merged-append R (placed R y xs) ys zs

-- one item more of the second list
pub merged-more : {K : Type 0} (R : K → K → Ordering) (xs ys : List K) (i : ℕ) (d : K) → i < length ys → merged R xs (take (i + 1) ys) ≡ placed R (get_or ys i d) (merged R xs (take i ys))
merged-more R xs ys i d h = ap (merged R xs) (take_more ys i d h) ∙ merged-append R xs (take i ys) (get_or ys i d ∷ [])

module _ {K : Type 0} {R : K → K → Ordering} (o : IsTotalOrder R) (same : IsAntisymmetric R) where
  pub is_it : (q x : K) → eq_by_cmp R q x ≡ true → q ≡ x
  is_it q x h = same q x ((Equal-is (R q x)).0 h)

  pub itself : (x : K) → eq_by_cmp R x x ≡ true
  itself x = ap is_eq (tied_itself o x)

  less-is : (r : Ordering) → is_lt r ≡ true → r ≡ Less
  less-is r h = grind arith

  pub below-not_itself : (x : K) → is_lt (R x x) ≡ true → ⊥
  below-not_itself x h = true≢false (sym h ∙ ap is_lt (tied_itself o x))

  pub below-both_ways : (x y : K) → is_lt (R x y) ≡ true → is_lt (R y x) ≡ true → ⊥
  below-both_ways x y h k = grind (arith, below-not_itself, o.trans, less-is)

  pub below-below : (x y z : K) → is_lt (R x y) ≡ true → is_lt (R y z) ≡ true → is_lt (R x z) ≡ true
  below-below x y z h k = ap is_lt (o.trans x y z (less-is (R x y) h) (less-is (R y z) k))

  -- what each item of the list passes
  pub all-item : (p : K → Bool) (ys : List K) (q : K) → list_all p ys ≡ true → has_item R ys q ≡ true → p q ≡ true
  all-item p [] q h k = absurd (true≢false (sym k))
  all-item p (y ∷ ys) q h k = grind (arith, is_it q y, all-item p ys q)

  pub all-from_items : (p : K → Bool) (ys : List K) → ((q : K) → has_item R ys q ≡ true → p q ≡ true) → list_all p ys ≡ true
  all-from_items p [] h = refl
  all-from_items p (y ∷ ys) h = grind (arith, h y, itself y, all-from_items p ys (λ q m. h q (or_right (eq_by_cmp R q y) (has_item R ys q) m)))

  -- an item of the list is above what is below them all
  pub below_all-item : (x q : K) (ys : List K) → is_below_all R x ys ≡ true → has_item R ys q ≡ true → is_lt (R x q) ≡ true
  below_all-item x q ys h k = all-item (λ y. is_lt (R x y)) ys q h k

  pub below_all-from_items : (x : K) (ys : List K) → ((q : K) → has_item R ys q ≡ true → is_lt (R x q) ≡ true) → is_below_all R x ys ≡ true
  below_all-from_items x ys h = all-from_items (λ y. is_lt (R x y)) ys h

  -- the items that a filter keeps
  pub has-filter : (p : K → Bool) (xs : List K) (q : K) → has_item R (filter p xs) q ≡ (has_item R xs q && p q)
  has-filter p [] q = refl
  has-filter p (x ∷ xs) q = grind (arith, is_it q x, has-filter p xs q)

  pub all-filter : (p q : K → Bool) (xs : List K) → list_all p xs ≡ true → list_all p (filter q xs) ≡ true
  all-filter p q [] h = refl
  all-filter p q (x ∷ xs) h = grind (arith, all-filter p q xs)

  pub ascending-filter : (p : K → Bool) (xs : List K) → is_ascending R xs ≡ true → is_ascending R (filter p xs) ≡ true
  ascending-filter p [] h = refl
  ascending-filter p (x ∷ xs) h = grind (arith, ascending-filter p xs, all-filter (λ y. is_lt (R x y)) p xs)

  -- where both lists have the same first item, what is behind it in the one is behind it in the other
  later-part : (x y : K) (xs ys : List K) → is_ascending R (x ∷ xs) ≡ true → eq_by_cmp R x y ≡ true → ((q : K) → has_item R (x ∷ xs) q ≡ true → has_item R (y ∷ ys) q ≡ true) → (q : K) → has_item R xs q ≡ true
      → has_item R ys q ≡ true
  later-part x y xs ys a e f q m = grind (arith, f q, is_it q y, is_it x y, below_all-item x q xs, below-not_itself x)

  -- where x isn't first in the other list, all of the one list is behind what is first there
  whole-part : (x y : K) (xs ys : List K) → is_ascending R (x ∷ xs) ≡ true → is_ascending R (y ∷ ys) ≡ true → has_item R ys x ≡ true → ((q : K) → has_item R (x ∷ xs) q ≡ true → has_item R (y ∷ ys) q ≡ true)
      → (q : K) → has_item R (x ∷ xs) q ≡ true → has_item R ys q ≡ true
  whole-part x y xs ys a b t f q m = grind (arith, f q, is_it q y, is_it q x, below_all-item y x ys, below_all-item x q xs, below-not_itself x, below-both_ways x y)

  -- a part of an ascending list is shorter, or it is all of it
  shorter-or_whole : (ys xs : List K) → is_ascending R xs ≡ true → is_ascending R ys ≡ true → ((q : K) → has_item R xs q ≡ true → has_item R ys q ≡ true) → (length xs < length ys) ⊎ (xs ≡ ys)
  shorter-or_whole [] [] a b f = inr refl
  shorter-or_whole (y ∷ ys) [] a b f = inl (omega arith)
  shorter-or_whole [] (x ∷ xs) a b f = grind (arith, f x, itself x)
  shorter-or_whole (y ∷ ys) (x ∷ xs) a b f =
      let rest = second (is_below_all R y ys) (is_ascending R ys) b in
      elim (or_cases (eq_by_cmp R x y) (has_item R ys x) (f x (or_left (eq_by_cmp R x x) (has_item R xs x) (itself x)))) [
        | inl e ↦ grind (arith, is_it x y e, shorter-or_whole ys xs (second (is_below_all R x xs) (is_ascending R xs) a) rest (later-part x y xs ys a e f))
        | inr t ↦ grind (arith, shorter-or_whole ys (x ∷ xs) a rest (whole-part x y xs ys a b t f))
      ]

  pub length-part : (ys xs : List K) → is_ascending R xs ≡ true → is_ascending R ys ≡ true → ((q : K) → has_item R xs q ≡ true → has_item R ys q ≡ true) → length xs ≤ length ys
  length-part ys xs a b f = elim (shorter-or_whole ys xs a b f) [ inl less ↦ omega (arith, less) | inr same ↦ omega (arith, ap length same) ]

  -- a part of an ascending list that isn't all of it is shorter
  pub shorter-part : (ys xs : List K) → is_ascending R xs ≡ true → is_ascending R ys ≡ true → ((q : K) → has_item R xs q ≡ true → has_item R ys q ≡ true) → (xs ≡ ys → ⊥) → length xs < length ys
  shorter-part ys xs a b f other = elim (shorter-or_whole ys xs a b f) [ inl less ↦ less | inr same ↦ absurd (other same) ]

  -- ascending lists of the same items are equal
  pub same-items : (xs ys : List K) → is_ascending R xs ≡ true → is_ascending R ys ≡ true → ((q : K) → has_item R xs q ≡ true → has_item R ys q ≡ true)
      → ((q : K) → has_item R ys q ≡ true → has_item R xs q ≡ true) → xs ≡ ys
  same-items xs ys a b f g = elim (shorter-or_whole ys xs a b f) [ inl less ↦ absurd (omega (arith, less, length-part xs ys b a g)) | inr same ↦ same ]

  -- what an ascending list has once an item is placed there
  pub has-placed : (x : K) (xs : List K) (q : K) → has_item R (placed R x xs) q ≡ (eq_by_cmp R q x || has_item R xs q)
  has-placed x [] q = refl
  has-placed x (y ∷ ys) q = grind (arith, has-placed x ys q, is_it x y)

  below_all-below : (x y : K) (ys : List K) → is_lt (R x y) ≡ true → is_below_all R y ys ≡ true → is_below_all R x ys ≡ true
  below_all-below x y ys h k = below_all-from_items x ys (λ q m. below-below x y q h (below_all-item y q ys k m))

  pub all-placed : (p : K → Bool) (x : K) (xs : List K) → list_all p (placed R x xs) ≡ (p x && list_all p xs)
  all-placed p x [] = refl
  all-placed p x (y ∷ ys) = grind (arith, is_it x y, all-placed p x ys)

  pub ascending-placed : (x : K) (xs : List K) → is_ascending R xs ≡ true → is_ascending R (placed R x xs) ≡ true
  ascending-placed x [] a = refl
  ascending-placed x (y ∷ ys) a = grind (arith, below_all-below x y ys, all-placed (λ z. is_lt (R y z)) x ys, o.antisymm y x, ascending-placed x ys)

  pub length-placed : (x : K) (xs : List K) → length xs ≤ length (placed R x xs)
  length-placed x [] = omega arith
  length-placed x (y ∷ ys) = grind (arith, length-placed x ys)

  pub has-merged : (xs ys : List K) (q : K) → has_item R (merged R xs ys) q ≡ (has_item R xs q || has_item R ys q)
  has-merged xs [] q = grind arith
  has-merged xs (y ∷ ys) q = grind (arith, has-merged (placed R y xs) ys q, has-placed y xs q)

  pub all-merged : (p : K → Bool) (xs ys : List K) → list_all p (merged R xs ys) ≡ (list_all p xs && list_all p ys)
  all-merged p xs [] = grind arith
  all-merged p xs (y ∷ ys) = grind (arith, all-merged p (placed R y xs) ys, all-placed p y xs)

  -- what has the items of two lists has those of both together
  pub merged-part : (xs ys : List K) (u : K → Bool) → ((q : K) → has_item R xs q ≡ true → u q ≡ true) → ((q : K) → has_item R ys q ≡ true → u q ≡ true) → (q : K) → has_item R (merged R xs ys) q ≡ true
      → u q ≡ true
  merged-part xs ys u f g q h = grind (arith, or_cases, has-merged)

  pub ascending-merged : (xs ys : List K) → is_ascending R xs ≡ true → is_ascending R (merged R xs ys) ≡ true
  ascending-merged xs [] a = a
  ascending-merged xs (y ∷ ys) a = ascending-merged (placed R y xs) ys (ascending-placed y xs a)

  pub length-merged : (xs ys : List K) → length xs ≤ length (merged R xs ys)
  length-merged xs [] = omega arith
  length-merged xs (y ∷ ys) = grind (arith, length-placed, length-merged (placed R y xs) ys)

  pub length-filter_le : (p : K → Bool) (xs : List K) → length (filter p xs) ≤ length xs
  length-filter_le p [] = omega arith
  length-filter_le p (x ∷ xs) = grind (arith, length-filter_le p xs)

  -- a list ascends where each item is below the next
  linked : (x y : K) (ys : List K) → is_ascending R (x ∷ y ∷ ys) ≡ (is_lt (R x y) && is_ascending R (y ∷ ys))
  linked x y ys = grind (arith, below_all-below x y ys)

  ascending-next : (xs : List K) (i : ℕ) (d f : K) → suc i < length xs → is_ascending R (take (suc i) xs) ≡ true → is_lt (R (get_or xs i d) (get_or xs (suc i) f)) ≡ true → is_ascending R (take (suc (suc i)) xs) ≡ true
  ascending-next [] i d f h a up = grind arith
  ascending-next (x ∷ []) i d f h a up = grind arith
  ascending-next (x ∷ y ∷ ys) zero d f h a up = grind arith
  ascending-next (x ∷ y ∷ ys) (suc i) d f h a up = grind (arith, linked x y (take i ys), linked x y (take (suc i) ys), ascending-next (y ∷ ys) i d f)

  -- what ascends so far ascends one item further, where that item is above the one before it
  pub ascending-more : (xs : List K) (i j k : ℕ) (d f : K) → j ≡ i + 1 → k ≡ j + 1 → j < length xs → is_ascending R (take j xs) ≡ true → is_lt (R (get_or xs i d) (get_or xs j f)) ≡ true
      → is_ascending R (take k xs) ≡ true
  ascending-more xs i j k d f j-is k-is h a up =
      let e : j ≡ suc i = omega arith in
      let g : k ≡ suc (suc i) = omega arith in
      rw g (ascending-next xs i d f (rw e at h) (rw e at a) (rw e at up))

  -- neighbours in an ascending list ascend
  pub ascending-at : (xs : List K) (i j : ℕ) (d f : K) → j ≡ i + 1 → j < length xs → is_ascending R xs ≡ true → is_lt (R (get_or xs i d) (get_or xs j f)) ≡ true
  ascending-at [] i j d f e h a = grind arith
  ascending-at (x ∷ []) i j d f e h a = grind arith
  ascending-at (x ∷ y ∷ ys) i j d f e h a = grind (arith, first, ascending-at (y ∷ ys), second)

  -- one pair of neighbours that don't ascend is enough
  pub not_ascending : (xs : List K) (i j : ℕ) (d f : K) → j ≡ i + 1 → j < length xs → is_lt (R (get_or xs i d) (get_or xs j f)) ≡ false → is_ascending R xs ≡ false
  not_ascending xs i j d f e h falls = false_from_ne_true (is_ascending R xs) (λ a. true≢false (sym (ascending-at xs i j d f e h a) ∙ falls))

  -- a merge is no longer than one that goes on
  pub merged-longer : (xs ys : List K) (i : ℕ) → length (merged R xs (take i ys)) ≤ length (merged R xs ys)
  merged-longer xs ys i = grind (arith, length-merged (merged R xs (take i ys)) (drop i ys), merged-append R xs (take i ys) (drop i ys), take-append-drop i ys)
