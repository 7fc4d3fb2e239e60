-- What a stable sort by a key ensures of references, said of what they refer to.
use Rattle.std.proofs.Common.{◌≡◌, ℕ, ◌+◌, ◌<◌, ◌≤◌, Bool, not, ◌&&◌, ◌||◌, nat_eq, nat_lt, List, [], ◌∷◌, ◌++◌, take}
use Rattle.std.proofs.Common.{suc, inl, inr, length, map, refl, sym, ap, ◌∙◌, subst, arith, slice_index_or, Bor}
use Rattle.std.specs.List.{filter}
use Rattle.std.specs.List.Sorted.{IsPermutation, IsSortedBy, ties, IsStableBy}
use Rattle.std.specs.Ordering.{is_lt, nat_cmp, ordering_then}
use Rattle.std.proofs.lemmas.List.{get_or-map, length-map, map-append, take_all}
use Rattle.std.proofs.Math.Seq.{take-suc}
use Rattle.std.proofs.lemmas.List.Sorted.{IsPermutation-map}
use Rattle.std.proofs.lemmas.Bool.{cases_Bool}
use Rattle.std.proofs.lemmas.List.Elements.{filter_agree}
use Rattle.warn_list.specs.declared.finding.Finding.{Finding}
use Rattle.warn_list.specs.Order.{AreInOrder, kind_number, stands_before}

-- any value, behind some reference
behind : {X : Type 0} → X → Bor X
behind z = record { ref_ptr = (0, 0); now = z }

-- two numbers, by the first and then by the second
pub lexicographic : (a b c d : ℕ) → is_lt (ordering_then (nat_cmp a c) (nat_cmp b d)) ≡ nat_lt a c || (nat_eq a c && nat_lt b d)
lexicographic a b c d = grind arith

filter_image : {X Y : Type 0} (p : Y → Bool) (f : X → Y) (xs : List X) → filter p (map f xs) ≡ map f (filter (λ x. p (f x)) xs)
filter_image p f [] = refl
filter_image p f (x ∷ xs) = elim (cases_Bool (p (f x))) as (λ c. filter p (map f (x ∷ xs)) ≡ map f (filter (λ y. p (f y)) (x ∷ xs))) [
  | inl so ↦ grind (arith, so, filter_image p f xs)
  | inr not_so ↦ grind (arith, not_so, filter_image p f xs)
]

module _ {X : Type 0} (lt : X → X → Bool) (key : Bor X → Bor X → Bool) (same : (f g : Bor X) → key f g ≡ lt f.now g.now) where
  pub sorted_now : (fs : List (Bor X)) → IsSortedBy key fs → IsSortedBy lt (map (λ f. f.now) fs)
  sorted_now fs up = λ k d low high.
      let within : k + 1 < length fs = subst (λ n. k + 1 < n) (length-map fs (λ (f : Bor X). f.now)) high in
      ap (λ z. lt z (slice_index_or (map (λ f. f.now) fs) k d)) (get_or-map (λ (f : Bor X). f.now) fs (k + 1) (behind d) d within)
      ∙ ap (λ z. lt (slice_index_or fs (k + 1) (behind d)).now z) (get_or-map (λ (f : Bor X). f.now) fs k (behind d) d (omega (arith, within)))
      ∙ sym (same (slice_index_or fs (k + 1) (behind d)) (slice_index_or fs k (behind d)))
      ∙ up k (behind d) low within

  tied : (z : X) (f : Bor X) → ties lt z f.now ≡ ties key (behind z) f
  unfolding behind
  tied z f = ap (λ b. not b && not (lt f.now z)) (sym (same (behind z) f)) ∙ ap (λ b. not (key (behind z) f) && not b) (sym (same f (behind z)))

  tied_now : (z : X) (fs : List (Bor X)) → filter (ties lt z) (map (λ f. f.now) fs) ≡ map (λ f. f.now) (filter (ties key (behind z)) fs)
  tied_now z fs = filter_image (ties lt z) (λ (f : Bor X). f.now) fs
      ∙ ap (λ gs. map (λ (f : Bor X). f.now) gs) (filter_agree (λ f. ties lt z f.now) (ties key (behind z)) (tied z) fs)

  pub stable_now : (fs gs : List (Bor X)) → IsStableBy key fs gs → IsStableBy lt (map (λ f. f.now) fs) (map (λ f. f.now) gs)
  stable_now fs gs h = λ z. tied_now z gs ∙ ap (λ hs. map (λ (f : Bor X). f.now) hs) (h (behind z)) ∙ sym (tied_now z fs)

abbrev pub key_test : Bor Finding → Bor Finding → Bool
key_test f g = is_lt (ordering_then (nat_cmp f.now.label g.now.label) (nat_cmp (kind_number f.now.kind) (kind_number g.now.kind)))

same_test : (f g : Bor Finding) → key_test f g ≡ stands_before f.now g.now
same_test f g = lexicographic f.now.label (kind_number f.now.kind) g.now.label (kind_number g.now.kind)

pub in_order_of : (findings : List Finding) (refs sorted : List (Bor Finding)) → map (λ f. f.now) refs ≡ findings → IsPermutation refs sorted → IsSortedBy key_test sorted → IsStableBy key_test refs sorted
    → AreInOrder findings (map (λ f. f.now) sorted)
in_order_of findings refs sorted is moved up ties = record {
  same = subst (λ fs. IsPermutation fs (map (λ (f : Bor Finding). f.now) sorted)) is (IsPermutation-map (λ (f : Bor Finding). f.now) refs sorted moved);
  sorted = sorted_now stands_before key_test same_test sorted up;
  stable = subst (λ fs. IsStableBy stands_before fs (map (λ (f : Bor Finding). f.now) sorted)) is (stable_now stands_before key_test same_test refs sorted ties);
}

-- what a loop that pushes references has pushed
pub pushed_now : {X : Type 0} (fs : List X) (refs more : List (Bor X)) (f : Bor X) (i : ℕ) → map (λ r. r.now) refs ≡ take i fs → more ≡ refs ++ f ∷ [] → f.now ≡ slice_index_or fs i f.now → i < length fs
    → map (λ r. r.now) more ≡ take (i + 1) fs
pushed_now {X} fs refs more f i so_far pushed item within =
    ap (λ rs. map (λ (r : Bor X). r.now) rs) pushed ∙ map-append (λ (r : Bor X). r.now) refs (f ∷ [])
    ∙ ap (λ xs. xs ++ f.now ∷ []) so_far ∙ ap (λ x. take i fs ++ x ∷ []) item ∙ sym (take-suc fs i f.now within)
    ∙ ap (λ n. take n fs) {x = suc i} {y = i + 1} (omega arith)

pub all_now : {X : Type 0} (fs : List X) (refs : List (Bor X)) (i : ℕ) → map (λ r. r.now) refs ≡ take i fs → length fs ≤ i → map (λ r. r.now) refs ≡ fs
all_now fs refs i so_far ends = so_far ∙ take_all i fs ends
