-- Lists that are made by adding items that rise.
use Rattle.std.proofs.Common.{◌≡◌, ℕ, zero, suc, ◌+◌, ◌<◌, Bool, true, false, not, ◌&&◌, ◌||◌, List, [], ◌∷◌, ◌++◌, Contains}
use Rattle.std.proofs.Common.{length, take, get_or, slice_get, Some, ◌-◌, refl, sym, ap, ◌∙◌, subst, arith, true≢false, inl, inr}
use Rattle.std.specs.declared.cmp.Ordering.{Ordering}
use Rattle.std.specs.declared.cmp.Ordering.TheVariants.{Less, Equal, Greater}
use Rattle.std.specs.Ordering.{is_lt, is_eq, eq_by_cmp}
use Rattle.std.specs.Cmp.{IsTotalOrder}
use Rattle.std.specs.FinSet.{IsAntisymmetric}
use Rattle.std.specs.List.{list_all}
use Rattle.std.specs.List.Sorted.{IsPermutation, IsSortedBy}
use Rattle.std.proofs.lemmas.List.Sorted.{sorted_far, ranks_by, Contains-permutation, IsPermutation-sym}
use Rattle.std.proofs.lemmas.Bool.{false_from_ne_true, or_right, or_left, or_cases}
use Rattle.type_kinds.proofs.Lists.{contains_none, contains_first, contains_later, contains_cases}
use Rattle.type_kinds_sets.specs.Ascending.{is_ascending, has_item, placed, merged}
use Rattle.type_kinds_sets.proofs.AscendingLaws.{is_it, itself, same-items, ascending-merged, has-merged, below_all-item, all-merged}

-- a list with a last item has it behind the others
last_split : {X : Type 0} (zs : List X) (n : ℕ) (l : X) → n + 1 ≡ length zs → slice_get zs n ≡ Some l → (front : List X) × (zs ≡ front ++ l ∷ [])
last_split [] n l e h = absurd cc
last_split (z ∷ []) zero l e h = ([], ap (λ y. y ∷ []) (let same : z ≡ l = cc in same))
last_split (z ∷ []) (suc n) l e h = absurd (omega (arith, e))
last_split (z ∷ y ∷ ys) zero l e h = absurd (omega (arith, e))
last_split (z ∷ y ∷ ys) (suc n) l e h = let r = last_split (y ∷ ys) n l (omega (arith, e)) h in (z ∷ r.0, ap (λ us. z ∷ us) r.1)

last_of : {X : Type 0} (zs : List X) (l : X) → slice_get zs (length zs - 1) ≡ Some l → (front : List X) × (zs ≡ front ++ l ∷ [])
last_of [] l h = absurd cc
last_of (z ∷ zs) l h = last_split (z ∷ zs) (length (z ∷ zs) - 1) l (omega arith) h

-- none of these is above the item
abbrev pub none_above : {K : Type 0} → (K → K → Ordering) → K → List K → Bool
none_above R x zs = list_all (λ z. not (is_lt (R x z))) zs

module _ {K : Type 0} {R : K → K → Ordering} (o : IsTotalOrder R) (same : IsAntisymmetric R) where
  -- what is there already stays where it is
  placed_again : (x : K) (zs : List K) → none_above R x zs ≡ true → has_item R zs x ≡ true → placed R x zs ≡ zs
  placed_again x [] n h = absurd (true≢false (sym h))
  placed_again x (z ∷ zs) n h = grind (arith, placed_again x zs)

  -- what is above all goes last
  placed_last : (x : K) (zs : List K) → none_above R x zs ≡ true → has_item R zs x ≡ false → placed R x zs ≡ zs ++ x ∷ []
  placed_last x [] n h = refl
  placed_last x (z ∷ zs) n h = grind (arith, placed_last x zs)

  has_last : (x l : K) (zs : List K) → has_item R (zs ++ l ∷ []) x ≡ (has_item R zs x || eq_by_cmp R x l)
  has_last x l [] = grind arith
  has_last x l (z ∷ zs) = grind (arith, has_last x l zs)

  none_last : (x l : K) (zs : List K) → none_above R x (zs ++ l ∷ []) ≡ (none_above R x zs && not (is_lt (R x l)))
  none_last x l [] = grind arith
  none_last x l (z ∷ zs) = grind (arith, none_last x l zs)

  below_last : (x l : K) (zs : List K) → is_ascending R (zs ++ l ∷ []) ≡ true → has_item R zs x ≡ true → is_lt (R x l) ≡ true
  below_last x l [] a h = absurd (true≢false (sym h))
  below_last x l (z ∷ zs) a h = grind (arith, below_last x l zs, is_it o same x z, below_all-item o same z l (zs ++ l ∷ []), has_last l l zs, itself o same l)

  tie : (y : K) → R y y ≡ Equal
  tie y = by (R y y) (itself o same y)
    where
      by : (r : Ordering) → is_eq r ≡ true → r ≡ Equal
      by Less h = absurd (true≢false (sym h))
      by Equal h = refl
      by Greater h = absurd (true≢false (sym h))

  tie_behind : (x l : K) (zs : List K) → none_above R x (zs ++ l ∷ []) ≡ true → R l x ≡ Equal → placed R x (zs ++ l ∷ []) ≡ zs ++ l ∷ []
  tie_behind x l zs n e =
      placed_again x (zs ++ l ∷ []) n (has_last x l zs ∙ or_right (has_item R zs x) (eq_by_cmp R x l) (ap (λ y. eq_by_cmp R x y) (same l x e) ∙ itself o same x))

  higher_behind : (x l : K) (zs : List K) → is_ascending R (zs ++ l ∷ []) ≡ true → none_above R x (zs ++ l ∷ []) ≡ true → (R l x ≡ Equal → ⊥)
      → placed R x (zs ++ l ∷ []) ≡ (zs ++ l ∷ []) ++ x ∷ []
  higher_behind x l zs a n other = placed_last x (zs ++ l ∷ []) n (false_from_ne_true (has_item R (zs ++ l ∷ []) x) (λ h.
      elim (or_cases (has_item R zs x) (eq_by_cmp R x l) (sym (has_last x l zs) ∙ h)) [
        | inl early ↦ let up : is_lt (R x l) ≡ true = below_last x l zs a early in let m = none_last x l zs in grind (arith, up, m, n)
        | inr late ↦ other (let e = is_it o same x l late in ap (λ y. R l y) e ∙ tie l)
      ]))

  -- the last of the list is the item
  pub placed_tie : (x l : K) (zs : List K) → none_above R x zs ≡ true → slice_get zs (length zs - 1) ≡ Some l → R l x ≡ Equal → placed R x zs ≡ zs
  placed_tie x l zs n h e =
      let last = last_of zs l h in
      subst (λ ys. placed R x ys ≡ ys) (sym last.1) (tie_behind x l last.0 (ap (none_above R x) (sym last.1) ∙ n) e)

  -- the last of the list is another
  pub placed_higher : (x l : K) (zs : List K) → is_ascending R zs ≡ true → none_above R x zs ≡ true → slice_get zs (length zs - 1) ≡ Some l → (R l x ≡ Equal → ⊥) → placed R x zs ≡ zs ++ x ∷ []
  placed_higher x l zs a n h other =
      let last = last_of zs l h in
      subst (λ ys. placed R x ys ≡ ys ++ x ∷ []) (sym last.1) (higher_behind x l last.0 (ap (is_ascending R) (sym last.1) ∙ a) (ap (none_above R x) (sym last.1) ∙ n) other)

  -- ---- lists with the same items

  pub contained_item : (x : K) (zs : List K) → Contains zs x → has_item R zs x ≡ true
  contained_item x [] h = absurd (contains_none x h)
  contained_item x (z ∷ zs) h = elim (contains_cases z x zs h) [
    | inl e ↦ or_left (eq_by_cmp R x z) (has_item R zs x) (ap (eq_by_cmp R x) e ∙ itself o same x)
    | inr c ↦ or_right (eq_by_cmp R x z) (has_item R zs x) (contained_item x zs c)
  ]

  pub item_contained : (x : K) (zs : List K) → has_item R zs x ≡ true → Contains zs x
  item_contained x [] h = absurd (true≢false (sym h))
  item_contained x (z ∷ zs) h = elim (or_cases (eq_by_cmp R x z) (has_item R zs x) h) [
    | inl e ↦ subst (Contains (z ∷ zs)) (sym (is_it o same x z e)) (contains_first z zs)
    | inr c ↦ contains_later z x zs (item_contained x zs c)
  ]

  -- a list that rises is the merge of any that contains the same
  pub rising_is_merged : (xs ys : List K) → is_ascending R ys ≡ true → ((x : K) → Contains ys x → Contains xs x) → ((x : K) → Contains xs x → Contains ys x) → ys ≡ merged R [] xs
  rising_is_merged xs ys a f g = same-items o same ys (merged R [] xs) a (ascending-merged o same [] xs refl)
      (λ q h. has-merged o same [] xs q ∙ contained_item q xs (f q (item_contained q ys h)))
      (λ q h. contained_item q ys (g q (item_contained q xs (sym (has-merged o same [] xs q) ∙ h))))

  pub in_merged : (xs : List K) (x : K) → Contains xs x → Contains (merged R [] xs) x
  in_merged xs x h = item_contained x (merged R [] xs) (has-merged o same [] xs x ∙ contained_item x xs h)

  pub merged_in : (xs : List K) (x : K) → Contains (merged R [] xs) x → Contains xs x
  merged_in xs x h = item_contained x xs (sym (has-merged o same [] xs x) ∙ contained_item x (merged R [] xs) h)

  -- the order doesn't matter
  pub merged_permutation : (xs ys : List K) → IsPermutation xs ys → merged R [] ys ≡ merged R [] xs
  merged_permutation xs ys p = rising_is_merged xs (merged R [] ys) (ascending-merged o same [] ys refl)
      (λ x h. Contains-permutation ys xs x (IsPermutation-sym xs ys p) (merged_in ys x h))
      (λ x h. in_merged ys x (Contains-permutation xs ys x p h))

  -- in a sorted list none before a place is above the item there
  pub sorted_none_above : (xs : List K) (i : ℕ) (x : K) → IsSortedBy (λ a b. is_lt (R a b)) xs → i < length xs → x ≡ get_or xs i x → none_above R x (take i xs) ≡ true
  sorted_none_above xs i x up within is = by xs i within (λ k h. ap (λ y. is_lt (R y (get_or xs k x))) is ∙ sorted_far (λ a b. is_lt (R a b)) (ranks_by o (λ y. y)) xs up k i x (omega arith) within)
    where
      by : (ys : List K) (j : ℕ) → j < length ys → ((k : ℕ) → k < j → is_lt (R x (get_or ys k x)) ≡ false) → none_above R x (take j ys) ≡ true
      by [] j w f = absurd (omega arith)
      by (y ∷ ys) zero w f = refl
      by (y ∷ ys) (suc j) w f = let here : is_lt (R x y) ≡ false = f 0 (omega arith) in let rest = by ys j (omega arith) (λ k h. f (suc k) (omega arith)) in grind (arith, here, rest)

  -- so none of those that were added by then
  pub merged_none_above : (xs : List K) (i : ℕ) (x : K) → IsSortedBy (λ a b. is_lt (R a b)) xs → i < length xs → x ≡ get_or xs i x → none_above R x (merged R [] (take i xs)) ≡ true
  merged_none_above xs i x up within is = all-merged o same (λ z. not (is_lt (R x z))) [] (take i xs) ∙ sorted_none_above xs i x up within is
