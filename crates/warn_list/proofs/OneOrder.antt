-- A stable sort has one outcome: two lists that ascend, and have the same elements that tie with each
-- element, in the same order, are one list.
use Rattle.std.proofs.Common.{◌≡◌, suc, ◌+◌, Bool, true, false, cond, List, [], ◌∷◌, inl, inr, refl, sym, ap, ◌∙◌, subst, arith, slice_index_or, All}
use Rattle.std.specs.List.{filter}
use Rattle.std.specs.Cmp.{IsStrictWeakOrder}
use Rattle.std.specs.List.Sorted.{IsSortedBy, ties, IsStableBy}
use Rattle.std.proofs.lemmas.List.Elements.{All-from_get_or, All-tail, All-head}
use Rattle.std.proofs.lemmas.List.Sorted.{sorted_far}
use Rattle.std.proofs.lemmas.Bool.{cases_Bool}

pub passed : {X : Type 0} (p : X → Bool) (x : X) (xs : List X) → p x ≡ true → filter p (x ∷ xs) ≡ x ∷ filter p xs
passed p x xs h = ap (λ b. cond b (x ∷ filter p xs) (filter p xs)) h

pub left_out : {X : Type 0} (p : X → Bool) (x : X) (xs : List X) → p x ≡ false → filter p (x ∷ xs) ≡ filter p xs
left_out p x xs h = ap (λ b. cond b (x ∷ filter p xs) (filter p xs)) h

-- what passes the test first has what all have
first_passed : {X : Type 0} (p : X → Bool) (Q : X → Type 0) (xs : List X) (z : X) (r : List X) → filter p xs ≡ z ∷ r → All Q xs → Q z
first_passed p Q [] z r h all = grind (arith, h)
first_passed p Q (x ∷ xs) z r h all = elim (cases_Bool (p x)) as (λ c. Q z) [
  | inl so ↦ let same : x ≡ z = grind (arith, passed p x xs so, h) in subst Q same (All-head Q x xs all)
  | inr not_so ↦ first_passed p Q xs z r (sym (left_out p x xs not_so) ∙ h) (All-tail Q x xs all)
]

module _ {X : Type 0} (lt : X → X → Bool) (order : IsStrictWeakOrder lt) where
  -- no element is less than one before it
  abbrev pub Ascends : List X → Type 0
  Ascends [] = Unit {0}
  Ascends (x ∷ xs) = All (λ y. lt y x ≡ false) xs × Ascends xs

  irreflexive : (x : X) → lt x x ≡ false
  irreflexive x = elim (cases_Bool (lt x x)) as (λ c. lt x x ≡ false) [
    | inl so ↦ order.one_way x x so
    | inr not_so ↦ not_so
  ]

  tie : (x y : X) → lt x y ≡ false → lt y x ≡ false → ties lt x y ≡ true
  tie x y h g = grind (arith, h, g)

  ties_itself : (x : X) → ties lt x x ≡ true
  ties_itself x = tie x x (irreflexive x) (irreflexive x)

  ties_back : (x y : X) → ties lt x y ≡ false → ties lt y x ≡ false
  ties_back x y h = elim (cases_Bool (lt x y)) as (λ c. ties lt y x ≡ false) [
    | inl so ↦ grind (arith, so)
    | inr not_so ↦ elim (cases_Bool (lt y x)) as (λ c. ties lt y x ≡ false) [
      | inl so ↦ grind (arith, so)
      | inr nor ↦ grind (arith, h, tie x y not_so nor)
    ]
  ]

  same_tails : (x y : X) (ys zs : List X) → filter (ties lt x) (y ∷ ys) ≡ filter (ties lt x) (y ∷ zs) → filter (ties lt x) ys ≡ filter (ties lt x) zs
  same_tails x y ys zs h = elim (cases_Bool (ties lt x y)) as (λ c. filter (ties lt x) ys ≡ filter (ties lt x) zs) [
    | inl so ↦ grind (arith, passed (ties lt x) y ys so, passed (ties lt x) y zs so, h)
    | inr not_so ↦ sym (left_out (ties lt x) y ys not_so) ∙ h ∙ left_out (ties lt x) y zs not_so
  ]

  -- where the heads don't tie, the second isn't less than the first
  not_less : (y z : X) (ys zs : List X) → Ascends (y ∷ ys) → filter (ties lt z) (y ∷ ys) ≡ filter (ties lt z) (z ∷ zs) → ties lt z y ≡ false → lt z y ≡ false
  not_less y z ys zs up h apart = first_passed (ties lt z) (λ w. lt w y ≡ false) ys z (filter (ties lt z) zs)
      (sym (left_out (ties lt z) y ys apart) ∙ h ∙ passed (ties lt z) z zs (ties_itself z)) up.0

  pub one_order : (ys zs : List X) → Ascends ys → Ascends zs → ((x : X) → filter (ties lt x) ys ≡ filter (ties lt x) zs) → ys ≡ zs
  one_order [] [] up along h = refl
  one_order [] (z ∷ zs) up along h = grind (arith, h z, passed (ties lt z) z zs (ties_itself z))
  one_order (y ∷ ys) [] up along h = grind (arith, h y, passed (ties lt y) y ys (ties_itself y))
  one_order (y ∷ ys) (z ∷ zs) up along h = elim (cases_Bool (ties lt y z)) as (λ c. y ∷ ys ≡ z ∷ zs) [
    | inl so ↦
        let same : y ≡ z = grind (arith, h y, passed (ties lt y) y ys (ties_itself y), passed (ties lt y) z zs so) in
        let rest : ys ≡ zs = one_order ys zs up.1 along.1 (λ x. same_tails x y ys zs (h x ∙ ap (λ w. filter (ties lt x) (w ∷ zs)) (sym same))) in
        ap (λ w. w ∷ ys) same ∙ ap (λ ws. z ∷ ws) rest
    | inr not_so ↦ grind (arith, tie y z (not_less z y zs ys along (sym (h y)) not_so) (not_less y z ys zs up (h z) (ties_back y z not_so)), not_so)
  ]

  -- what a sort ensures, element by element
  sorted_tail : (x : X) (xs : List X) → IsSortedBy lt (x ∷ xs) → IsSortedBy lt xs
  sorted_tail x xs up = λ k d low high. subst (λ n. lt (slice_index_or (x ∷ xs) n d) (slice_index_or xs k d) ≡ false) {x = suc k + 1} {y = suc (k + 1)} (omega arith) (up (suc k) d (omega arith) (omega arith))

  pub ascends : (xs : List X) → IsSortedBy lt xs → Ascends xs
  ascends [] up = tt
  ascends (x ∷ xs) up = (All-from_get_or (λ y. lt y x ≡ false) xs x (λ i h. sorted_far lt order (x ∷ xs) up 0 (suc i) x (omega arith) (omega arith)), ascends xs (sorted_tail x xs up))

pub one_stable_sort : {X : Type 0} (lt : X → X → Bool) → IsStrictWeakOrder lt → (xs ys zs : List X) → IsSortedBy lt ys → IsSortedBy lt zs → IsStableBy lt xs ys → IsStableBy lt xs zs → ys ≡ zs
one_stable_sort lt order xs ys zs up along one other = one_order lt order ys zs (ascends lt order ys up) (ascends lt order zs along) (λ x. one x ∙ sym (other x))
