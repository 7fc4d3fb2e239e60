-- Steps of loops that go over two lists at once.
use Rattle.std.proofs.Common.{◌≡◌, ℕ, ◌<◌, ◌≤◌, ◌⊎◌, inl, inr, min, List, [], ◌++◌, length, drop, sym, ap, ◌∙◌, append-nil, drop_of_length-le, arith}
use Rattle.std.proofs.lemmas.Bool.{cases_lt}

shorter : (m n i : ℕ) → min m n ≤ i → (m ≤ i) ⊎ (n ≤ i)
shorter m n i h = by (cases_lt i m)
  where
    by : (i < m) ⊎ (m ≤ i) → (m ≤ i) ⊎ (n ≤ i)
    by (inl a) = inr (omega arith)
    by (inr a) = inl a

-- nothing is left of one of the lists
pub none_left : {A B R : Type 0} (F : List A → List B → R) (r : R) → ((ys : List B) → F [] ys ≡ r) → ((xs : List A) → F xs [] ≡ r) → (xs : List A) (ys : List B) (i : ℕ) → min (length xs) (length ys) ≤ i
    → F (drop i xs) (drop i ys) ≡ r
none_left F r left right xs ys i h = by (shorter (length xs) (length ys) i h)
  where
    by : (length xs ≤ i) ⊎ (length ys ≤ i) → F (drop i xs) (drop i ys) ≡ r
    by (inl a) = ap (λ zs. F zs (drop i ys)) (drop_of_length-le xs a) ∙ left (drop i ys)
    by (inr a) = ap (F (drop i xs)) (drop_of_length-le ys a) ∙ right (drop i xs)

-- all was made
pub made_all : {A B C : Type 0} (F : List A → List B → List C) → ((ys : List B) → F [] ys ≡ []) → ((xs : List A) → F xs [] ≡ []) → (xs : List A) (ys : List B) (i : ℕ) → min (length xs) (length ys) ≤ i
    → (out all : List C) → out ++ F (drop i xs) (drop i ys) ≡ all → out ≡ all
made_all F left right xs ys i h out all is =
    sym (append-nil out) ∙ ap (λ zs. out ++ zs) (sym (none_left F [] left right xs ys i h)) ∙ is
