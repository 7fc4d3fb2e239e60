-- A stable sort has an outcome: one element after another is placed before the first that isn't less.
use Rattle.std.proofs.Common.{◌≡◌, ℕ, zero, suc, ◌+◌, ◌<◌, Bool, true, false, cond, not, List, [], ◌∷◌, length, refl, sym, ap, ◌∙◌, subst, true≢false, slice_index_or, arith}
use Rattle.std.specs.List.{filter}
use Rattle.std.specs.Cmp.{IsStrictWeakOrder}
use Rattle.std.specs.List.Sorted.{IsPermutation, IsSortedBy, ties, IsStableBy}
use Rattle.std.proofs.lemmas.Bool.{and_parts, not-true}
use Rattle.std.proofs.lemmas.List.Sorted.{IsPermutation-refl, IsPermutation-sym, IsPermutation-cons, IsPermutation-trans, IsPermutation-middle}
use Rattle.warn_list.proofs.OneOrder.{passed, left_out}

module _ {X : Type 0} (lt : X → X → Bool) (order : IsStrictWeakOrder lt) where
  abbrev placed : X → List X → List X
  placed x [] = x ∷ []
  placed x (y ∷ ys) = cond (lt y x) (y ∷ placed x ys) (x ∷ y ∷ ys)

  -- no element is less than the one before it
  abbrev Rises : List X → Type 0
  Rises [] = Unit {0}
  Rises (x ∷ []) = Unit {0}
  Rises (x ∷ y ∷ ys) = (lt y x ≡ false) × Rises (y ∷ ys)

  rises_behind : (y x : X) (ys : List X) → lt y x ≡ true → Rises (y ∷ ys) → Rises (y ∷ placed x ys)
  rises_behind y x [] less r = (order.one_way y x less, tt)
  rises_behind y x (z ∷ zs) less r = by (lt z x) refl (λ e. rises_behind z x zs e r.1)
    where
      by : (b : Bool) → lt z x ≡ b → (lt z x ≡ true → Rises (z ∷ placed x zs)) → Rises (y ∷ cond b (z ∷ placed x zs) (x ∷ z ∷ zs))
      by true e rest = (r.0, rest e)
      by false e rest = (order.one_way y x less, (e, r.1))

  placed_rises : (x : X) (ys : List X) → Rises ys → Rises (placed x ys)
  placed_rises x [] r = tt
  placed_rises x (y ∷ ys) r = by (lt y x) refl
    where
      by : (b : Bool) → lt y x ≡ b → Rises (cond b (y ∷ placed x ys) (x ∷ y ∷ ys))
      by true e = rises_behind y x ys e r
      by false e = (e, r)

  placed_moved : (x : X) (ys : List X) → IsPermutation (x ∷ ys) (placed x ys)
  placed_moved x [] = IsPermutation-refl (x ∷ [])
  placed_moved x (y ∷ ys) = by (lt y x) (placed_moved x ys)
    where
      by : (b : Bool) → IsPermutation (x ∷ ys) (placed x ys) → IsPermutation (x ∷ y ∷ ys) (cond b (y ∷ placed x ys) (x ∷ y ∷ ys))
      by true rest =
          IsPermutation-trans (x ∷ y ∷ ys) (y ∷ x ∷ ys) (y ∷ placed x ys) (IsPermutation-sym (y ∷ x ∷ ys) (x ∷ y ∷ ys) (IsPermutation-middle (y ∷ []) x ys))
          (IsPermutation-cons y (x ∷ ys) (placed x ys) rest)
      by false rest = IsPermutation-refl (x ∷ y ∷ ys)

  -- of two of which one is less, a third ties with one at most
  tie_apart : (z x y : X) → lt y x ≡ true → ties lt z y ≡ true → ties lt z x ≡ true → ⊥
  tie_apart z x y less a b =
      let back = not-true (lt y z) (and_parts (not (lt z y)) (not (lt y z)) a).1 in
      let there = not-true (lt z x) (and_parts (not (lt z x)) (not (lt x z)) b).0 in
      true≢false (sym less ∙ order.chain y z x back there)

  placed_ties : (z x : X) (ys : List X) → filter (ties lt z) (placed x ys) ≡ filter (ties lt z) (x ∷ ys)
  placed_ties z x [] = refl
  placed_ties z x (y ∷ ys) = by (lt y x) refl (ties lt z y) refl (ties lt z x) refl (placed_ties z x ys)
    where
      by : (b : Bool) → lt y x ≡ b → (c : Bool) → ties lt z y ≡ c → (d : Bool) → ties lt z x ≡ d → filter (ties lt z) (placed x ys) ≡ filter (ties lt z) (x ∷ ys)
          → filter (ties lt z) (cond b (y ∷ placed x ys) (x ∷ y ∷ ys)) ≡ filter (ties lt z) (x ∷ y ∷ ys)
      by false e c p d q rest = refl
      by true e true p true q rest = absurd (tie_apart z x y e p q)
      by true e true p false q rest =
          passed (ties lt z) y (placed x ys) p ∙ ap (λ w. y ∷ w) (rest ∙ left_out (ties lt z) x ys q)
          ∙ sym (left_out (ties lt z) x (y ∷ ys) q ∙ passed (ties lt z) y ys p)
      by true e false p true q rest =
          left_out (ties lt z) y (placed x ys) p ∙ rest ∙ passed (ties lt z) x ys q
          ∙ sym (passed (ties lt z) x (y ∷ ys) q ∙ ap (λ w. x ∷ w) (left_out (ties lt z) y ys p))
      by true e false p false q rest =
          left_out (ties lt z) y (placed x ys) p ∙ rest ∙ left_out (ties lt z) x ys q
          ∙ sym (left_out (ties lt z) x (y ∷ ys) q ∙ left_out (ties lt z) y ys p)

  sorted_so : (ys : List X) → Rises ys → IsSortedBy lt ys
  sorted_so [] r = λ k d low high. absurd (omega arith)
  sorted_so (x ∷ []) r = λ k d low high. absurd (omega arith)
  sorted_so (x ∷ y ∷ ys) r = λ k d low high. at k d (omega arith) (sorted_so (y ∷ ys) r.1)
    where
      at : (k : ℕ) (d : X) → k + 1 < length (x ∷ y ∷ ys) → IsSortedBy lt (y ∷ ys) → lt (slice_index_or (x ∷ y ∷ ys) (k + 1) d) (slice_index_or (x ∷ y ∷ ys) k d) ≡ false
      at zero d high rest = r.0
      at (suc k) d high rest =
          subst (λ n. lt (slice_index_or (x ∷ y ∷ ys) n d) (slice_index_or (y ∷ ys) k d) ≡ false) {x = suc (k + 1)} {y = suc k + 1} (omega arith) (rest k d (omega arith) (omega arith))

  pub stable_sort : (xs : List X) → (ys : List X) × IsPermutation xs ys × IsSortedBy lt ys × IsStableBy lt xs ys
  stable_sort xs = let s = sorting xs in (s.0, s.1, sorted_so s.0 s.2, s.3)
    where
      sorting : (xs : List X) → (ys : List X) × IsPermutation xs ys × Rises ys × IsStableBy lt xs ys
      sorting [] = ([], IsPermutation-refl [], tt, λ z. refl)
      sorting (x ∷ xs) =
          let s = sorting xs in (
            placed x s.0,
            IsPermutation-trans (x ∷ xs) (x ∷ s.0) (placed x s.0) (IsPermutation-cons x xs s.0 s.1) (placed_moved x s.0),
            placed_rises x s.0 s.2,
            λ z. placed_ties z x s.0 ∙ ap (λ w. cond (ties lt z x) (x ∷ w) w) (s.3 z),
          )
