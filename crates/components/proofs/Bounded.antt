-- What can be decided of numbers below a bound: the least that has something, how many have it, and lists that are made by it.
use Rattle.std.proofs.Common.{◌≡◌, ℕ, zero, suc, ◌+◌, ◌<◌, ◌≤◌, ◌⊎◌, ◌↔◌, inl, inr, List, [], ◌∷◌, ◌++◌, length, refl, sym, ◌∙◌, ap, subst, arith}
use Rattle.std.specs.Prelude.{Contains, slice_index_or}
use Rattle.std.proofs.lemmas.List.{length_push, get_or_past}
use Rattle.std.proofs.lemmas.List.Elements.{Contains-append_left, Contains-push, Contains-push_cases, Contains-get_or}
use Rattle.std.proofs.lemmas.List.Quantifiers.{all_pairs_push}
use Rattle.std.proofs.lemmas.Bool.{cases_lt, cases_eq}
use Rattle.type_kinds.proofs.Lists.{contains_none, contains_first, contains_later, contains_cases}
use Rattle.components.specs.Graph.{Leads}
use Rattle.components.specs.Lists.{Ascending}
use Rattle.components.proofs.Appended.{push_cases}

-- it holds, or it doesn't
abbrev pub Decided : Type 0 → Type 0
Decided P = P ⊎ (P → ⊥)

pub both : {P Q : Type 0} → Decided P → Decided Q → Decided (P × Q)
both (inl p) (inl q) = inl (p, q)
both (inl p) (inr n) = inr (λ h. n h.1)
both (inr n) d = inr (λ h. n h.0)

pub either : {P Q : Type 0} → Decided P → Decided Q → Decided (P ⊎ Q)
either (inl p) d = inl (inl p)
either (inr n) (inl q) = inl (inr q)
either (inr n) (inr m) = inr (elim [ inl p ↦ n p | inr q ↦ m q ])

pub otherwise : {P : Type 0} → Decided P → Decided (P → ⊥)
otherwise (inl p) = inr (λ n. n p)
otherwise (inr n) = inl n

pub is_low : (m n : ℕ) → Decided (m < n)
is_low m n =
    elim (cases_lt m n) [
      | inl less ↦ inl less
      | inr high ↦ inr (λ less. absurd (omega arith))
    ]

pub is_in : (xs : List ℕ) (y : ℕ) → Decided (Contains xs y)
is_in [] y = inr (contains_none y)
is_in (x ∷ xs) y = by (cases_eq x y) (is_in xs y)
  where
    by : Decided (x ≡ y) → Decided (Contains xs y) → Decided (Contains (x ∷ xs) y)
    by (inl e) d = inl (subst (λ v. Contains (x ∷ xs) v) e (contains_first x xs))
    by (inr ne) (inl has) = inl (contains_later x y xs has)
    by (inr ne) (inr none) = inr (λ h. elim (contains_cases x y xs h) [ inl e ↦ ne e | inr has ↦ none has ])

-- ---- the least number below the bound that has something

abbrev pub IsLeast : (P : ℕ → Type 0) (n x : ℕ) → Type 0
IsLeast P n x = (x < n) × P x × ((y : ℕ) → y < x → P y → ⊥)

pub least : (P : ℕ → Type 0) (decide : (x : ℕ) → Decided (P x)) (n : ℕ) → ((x : ℕ) × IsLeast P n x) ⊎ ((x : ℕ) → x < n → P x → ⊥)
least P decide zero = inr (λ x low h. absurd (omega arith))
least P decide (suc n) = by (least P decide n) (decide n)
  where
    by : ((x : ℕ) × IsLeast P n x) ⊎ ((x : ℕ) → x < n → P x → ⊥) → Decided (P n) → ((x : ℕ) × IsLeast P (suc n) x) ⊎ ((x : ℕ) → x < suc n → P x → ⊥)
    by (inl found) d = inl (found.0, (omega (arith, found.1.0), found.1.1, found.1.2))
    by (inr none) (inl has) = inl (n, (omega arith, has, none))
    by (inr none) (inr lacks) =
        inr (λ x low h. elim (cases_lt x n) [
          | inl less ↦ none x less h
          | inr high ↦ let same : x ≡ n = omega arith in lacks (subst P same h)
        ])

-- ---- how many have it

abbrev pub one_if : {P : Type 0} → Decided P → ℕ
one_if (inl p) = 1
one_if (inr n) = 0

abbrev pub how_many : (P : ℕ → Type 0) → ((x : ℕ) → Decided (P x)) → ℕ → ℕ
how_many P decide zero = 0
how_many P decide (suc n) = one_if (decide n) + how_many P decide n

one_more : {P Q : Type 0} (p : Decided P) (q : Decided Q) → (P → Q) → one_if p ≤ one_if q
one_more (inl p) (inl q) f = omega arith
one_more (inl p) (inr n) f = absurd (n (f p))
one_more (inr n) q f = omega arith

one_new : {P Q : Type 0} (p : Decided P) (q : Decided Q) → Q → (P → ⊥) → one_if p < one_if q
one_new (inl p) q h lacks = absurd (lacks p)
one_new (inr n) (inl q) h lacks = omega arith
one_new (inr n) (inr m) h lacks = absurd (m h)

module _ (P Q : ℕ → Type 0) (p : (x : ℕ) → Decided (P x)) (q : (x : ℕ) → Decided (Q x)) where
  no_fewer : (n : ℕ) → ((x : ℕ) → x < n → P x → Q x) → how_many P p n ≤ how_many Q q n
  no_fewer zero f = omega arith
  no_fewer (suc n) f =
      let here = one_more (p n) (q n) (f n (omega arith)) in
      let rest = no_fewer n (λ x low. f x (omega arith)) in
      omega arith

  -- where all that have the one have the other, and this number has the other alone, more have the other
  pub fewer : (n : ℕ) → ((x : ℕ) → x < n → P x → Q x) → (x : ℕ) → x < n → Q x → (P x → ⊥) → how_many P p n < how_many Q q n
  fewer zero f x low has lacks = absurd (omega arith)
  fewer (suc n) f x low has lacks =
      elim (cases_lt x n) [
        | inl less ↦
            let here = one_more (p n) (q n) (f n (omega arith)) in
            let rest = fewer n (λ y under. f y (omega arith)) x less has lacks in
            omega arith
        | inr high ↦
            let same : x ≡ n = omega arith in
            let here = one_new (p n) (q n) (subst Q same has) (λ h. lacks (subst P (sym same) h)) in
            let rest = no_fewer n (λ y under. f y (omega arith)) in
            omega arith
      ]

-- where one has it, some do
pub some_have : (P : ℕ → Type 0) (p : (x : ℕ) → Decided (P x)) (n x : ℕ) → x < n → P x → 0 < how_many P p n
some_have P p n x low has =
    let more = fewer (λ y. ⊥) P (λ y. inr (λ h. h)) p n (λ y under h. absurd h) x low has (λ h. h) in
    omega arith

-- ---- lists

-- the numbers below the bound that have it, ascending
pub picked : (P : ℕ → Type 0) → ((x : ℕ) → Decided (P x)) → (n : ℕ) → (xs : List ℕ) × Ascending xs × ((y : ℕ) → Contains xs y ↔ ((y < n) × P y))
picked P decide zero = ([], (λ i j d before under. absurd (omega arith)), λ y. (λ has. absurd (contains_none y has), λ h. absurd (omega (arith, h.0))))
picked P decide (suc n) = by (picked P decide n) (decide n)
  where
    by : (xs : List ℕ) × Ascending xs × ((y : ℕ) → Contains xs y ↔ ((y < n) × P y)) → Decided (P n) → (xs : List ℕ) × Ascending xs × ((y : ℕ) → Contains xs y ↔ ((y < suc n) × P y))
    by (xs, sorted, exact) (inl has) = (
      xs ++ n ∷ [],
      all_pairs_push (λ a b. a < b) xs n sorted (λ k d low. ((exact (slice_index_or xs k d)).0 (Contains-get_or xs k d low)).0),
      λ y. (
        (λ h. elim (Contains-push_cases xs n y h) [
          | inl old ↦ let was = (exact y).0 old in (omega (arith, was.0), was.1)
          | inr is ↦ (omega (arith, is), subst P is has)
        ]),
        (λ h. elim (cases_lt y n) [
          | inl less ↦ Contains-append_left xs (n ∷ []) y ((exact y).1 (less, h.1))
          | inr high ↦ let same : n ≡ y = omega (arith, h.0) in subst (λ v. Contains (xs ++ n ∷ []) v) same (Contains-push xs n)
        ]),
      ),
    )
    by (xs, sorted, exact) (inr lacks) = (
      xs,
      sorted,
      λ y. (
        (λ h. let was = (exact y).0 h in (omega (arith, was.0), was.1)),
        (λ h. elim (cases_lt y n) [
          | inl less ↦ (exact y).1 (less, h.1)
          | inr high ↦ let same : y ≡ n = omega (arith, h.0) in absurd (lacks (subst P same h.1))
        ]),
      ),
    )

-- a list with the item of each number below the bound
pub listed : {X : Type 0} (f : ℕ → X) (n : ℕ) → (xs : List X) × (length xs ≡ n) × ((k : ℕ) (d : X) → k < n → slice_index_or xs k d ≡ f k)
listed f zero = ([], refl, λ k d low. absurd (omega arith))
listed {X} f (suc n) = by (listed f n)
  where
    by : (xs : List X) × (length xs ≡ n) × ((k : ℕ) (d : X) → k < n → slice_index_or xs k d ≡ f k) → (xs : List X) × (length xs ≡ suc n) × ((k : ℕ) (d : X) → k < suc n → slice_index_or xs k d ≡ f k)
    by (xs, size, items) = (
      xs ++ f n ∷ [],
      omega (arith, length_push xs (f n), size),
      λ k d low. elim (push_cases xs (f n) d k (omega (arith, length_push xs (f n), size))) [
        | inl old ↦ old.1 ∙ items k d (omega (arith, old.0, size))
        | inr end ↦ end.1 ∙ ap f (sym (end.0 ∙ size))
      ],
    )

-- the graph of so many nodes whose pairs are those of a relation between them that is decided
pub graph_of : (R : ℕ → ℕ → Type 0) → ((i j : ℕ) → Decided (R i j)) → (n : ℕ) → ((i j : ℕ) → R i j → (i < n) × (j < n))
    → (graph : List (List ℕ)) × (length graph ≡ n) × ((i j : ℕ) → Leads graph i j ↔ R i j)
graph_of R decide n low = by (listed (λ i. (picked (R i) (decide i) n).0) n)
  where
    by : (graph : List (List ℕ)) × (length graph ≡ n) × ((i : ℕ) (d : List ℕ) → i < n → slice_index_or graph i d ≡ (picked (R i) (decide i) n).0)
        → (graph : List (List ℕ)) × (length graph ≡ n) × ((i j : ℕ) → Leads graph i j ↔ R i j)
    by (graph, size, targets) = (
      graph,
      size,
      λ i j. elim (cases_lt i n) [
        | inl under ↦
            let is = targets i [] under in
            let exact = (picked (R i) (decide i) n).2 j in
            (λ h. (exact.0 (subst (λ ys. Contains ys j) is h)).1, λ h. subst (λ ys. Contains ys j) (sym is) (exact.1 ((low i j h).1, h)))
        | inr over ↦
            let none = get_or_past graph i [] (omega (arith, size)) in
            (λ h. absurd (contains_none j (subst (λ ys. Contains ys j) none h)), λ h. absurd (omega (arith, (low i j h).0)))
      ],
    )
