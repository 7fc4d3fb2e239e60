-- Lists that ascend strictly: one for each set of items.
use Rattle.std.proofs.Common.{◌≡◌, List, [], ◌∷◌, ◌⊎◌, inl, inr, refl, sym, ◌∙◌, subst, Less, Equal}
use Rattle.std.specs.Prelude.{Contains}
use Rattle.std.specs.declared.cmp.Ordering.{Ordering}
use Rattle.std.specs.Cmp.{IsTotalOrder, tied_itself}
use Rattle.std.specs.List.Sorted.{IsStrictlySortedBy}
use Rattle.std.proofs.lemmas.List.Elements.{All-contains}
use Rattle.std.proofs.lemmas.Map.Keys.{sorted_tail}
use Rattle.std.proofs.lemmas.Map.Views.{All-after_first}
use Rattle.type_kinds.proofs.Lists.{contains_none, contains_first, contains_later, contains_cases}

module _ {K : Type 0} {R : K → K → Ordering} (o : IsTotalOrder R) where
  -- an item behind the first is above it
  above_first : (x z : K) (xs : List K) → IsStrictlySortedBy R (x ∷ xs) → Contains xs z → R x z ≡ Less
  above_first x z xs s m = All-contains (λ q. R x q ≡ Less) xs z (All-after_first R x xs s) m

  not_below_itself : (x : K) → R x x ≡ Less → ⊥
  not_below_itself x e = let f : R x x ≡ Equal = tied_itself o x in absurd cc

  same_first : (x y : K) (xs ys : List K) → IsStrictlySortedBy R (x ∷ xs) → IsStrictlySortedBy R (y ∷ ys) → Contains (y ∷ ys) x → Contains (x ∷ xs) y → x ≡ y
  same_first x y xs ys s t f g = by (contains_cases y x ys f) (contains_cases x y xs g)
    where
      by : (y ≡ x) ⊎ Contains ys x → (x ≡ y) ⊎ Contains xs y → x ≡ y
      by (inl e) h = sym e
      by (inr m) (inl e) = e
      by (inr m) (inr n) = absurd (not_below_itself x (o.trans x y x (above_first x y xs s n) (above_first y x ys t m)))

  -- what is behind the first in one list is behind it in the other
  behind_first : (x y : K) (xs ys : List K) → x ≡ y → IsStrictlySortedBy R (x ∷ xs) → ((z : K) → Contains (x ∷ xs) z → Contains (y ∷ ys) z) → (z : K) → Contains xs z → Contains ys z
  behind_first x y xs ys e s f z m = by (contains_cases y z ys (f z (contains_later x z xs m)))
    where
      by : (y ≡ z) ⊎ Contains ys z → Contains ys z
      by (inl h) = absurd (not_below_itself z (subst (λ w. R w z ≡ Less) (e ∙ h) (above_first x z xs s m)))
      by (inr n) = n

  pub same_sorted : (xs ys : List K) → IsStrictlySortedBy R xs → IsStrictlySortedBy R ys → ((z : K) → Contains xs z → Contains ys z) → ((z : K) → Contains ys z → Contains xs z) → xs ≡ ys
  same_sorted [] [] s t f g = refl
  same_sorted [] (y ∷ ys) s t f g = absurd (contains_none y (g y (contains_first y ys)))
  same_sorted (x ∷ xs) [] s t f g = absurd (contains_none x (f x (contains_first x xs)))
  same_sorted (x ∷ xs) (y ∷ ys) s t f g =
      let e : x ≡ y = same_first x y xs ys s t (f x (contains_first x xs)) (g y (contains_first y ys)) in
      let rest : xs ≡ ys = same_sorted xs ys (sorted_tail R x xs s) (sorted_tail R y ys t) (behind_first x y xs ys e s f) (behind_first y x ys xs (sym e) t g) in
      λ i. e i ∷ rest i
