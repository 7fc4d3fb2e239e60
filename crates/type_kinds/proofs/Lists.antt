-- What stands in a list and at its places, beside what std has of it.
use Rattle.std.proofs.Common.{◌≡◌, ℕ, zero, suc, ◌+◌, ◌<◌, ◌⊎◌, inl, inr, List, [], ◌∷◌, ◌++◌, length, get_or, slice_get, take, drop, map, Contains}
use Rattle.std.proofs.Common.{Option, Some, None, option_copied, Bor, sym, refl, ap, ◌∙◌, add-one, drop-cons, take-suc, append_assoc, arith}
use Rattle.std.proofs.lemmas.List.{map-append, get_or_past}
use Rattle.std.proofs.lemmas.Option.{slice_get-get_or, slice_get_within, get_or_from_slice_get}

-- ---- what a list contains

pub contains_none : {X : Type 0} (y : X) → Contains [] y → ⊥
contains_none y h = absurd (omega (arith, h.1))

pub contains_first : {X : Type 0} (x : X) (xs : List X) → Contains (x ∷ xs) x
contains_first x xs = (0, omega arith, refl)

pub contains_later : {X : Type 0} (x y : X) (xs : List X) → Contains xs y → Contains (x ∷ xs) y
contains_later x y xs h = (suc h.0, omega (arith, h.1), h.2)

pub contains_cases : {X : Type 0} (x y : X) (xs : List X) → Contains (x ∷ xs) y → (x ≡ y) ⊎ Contains xs y
contains_cases x y xs (zero, within, is) = inl is
contains_cases x y xs (suc k, within, is) = inr (k, omega arith, is)

-- what a list contains stands at a place, and what stands at a place it contains
pub position_of : {X : Type 0} (xs : List X) (x : X) → Contains xs x → (k : ℕ) × (k < length xs) × (slice_get xs k ≡ Some x)
position_of xs x h = (h.0, h.1, slice_get-get_or xs h.0 x h.1 ∙ ap Some h.2)

pub contains_at : {X : Type 0} (xs : List X) (i : ℕ) (x : X) → slice_get xs i ≡ Some x → Contains xs x
contains_at xs i x e = (i, slice_get_within xs i x e, get_or_from_slice_get xs i x x e)

-- ---- places

pub item_at : {X : Type 0} (xs : List X) (i : ℕ) → i < length xs → (x : X) × (slice_get xs i ≡ Some x)
item_at [] i h = absurd (omega (arith, h))
item_at (x ∷ xs) zero h = (x, refl)
item_at (x ∷ xs) (suc i) h = item_at xs i (omega (arith, h))

pub get_last : {X : Type 0} (xs : List X) (x : X) → slice_get (xs ++ x ∷ []) (length xs) ≡ Some x
get_last [] x = refl
get_last (y ∷ ys) x = get_last ys x

-- what the code reads past the end of a list of numbers
pub nothing_there : (xs : List ℕ) (i : ℕ) (got : Option (Bor ℕ)) → got ≡ None → option_copied got ≡ slice_get xs i → 0 ≡ get_or xs i 0
nothing_there xs i got none is = sym (past xs i (sym is ∙ ap option_copied none))
  where
    past : (ys : List ℕ) (j : ℕ) → slice_get ys j ≡ None → get_or ys j 0 ≡ 0
    past [] j e = get_or_past [] j 0 (omega arith)
    past (y ∷ ys) zero e = absurd cc
    past (y ∷ ys) (suc j) e = past ys j e

-- ---- the step of a loop over a list

-- what is left begins with the item that is looked at
pub drop_next : {X : Type 0} (xs : List X) (i : ℕ) (x : X) → i < length xs → x ≡ get_or xs i x → drop i xs ≡ x ∷ drop (i + 1) xs
drop_next xs i x within is = drop-cons xs i x within ∙ ap (λ y. y ∷ drop (suc i) xs) (sym is) ∙ ap (λ n. x ∷ drop n xs) (sym (add-one i))

-- what is made of those that were looked at ends with what is made of the item
pub map_next : {X Y : Type 0} (f : X → Y) (xs : List X) (i : ℕ) (x : X) → i < length xs → x ≡ get_or xs i x
    → map f (take (i + 1) xs) ≡ map f (take i xs) ++ f x ∷ []
map_next f xs i x within is =
    ap (λ n. map f (take n xs)) (add-one i)
    ∙ ap (map f) (take-suc xs i x within ∙ ap (λ y. take i xs ++ y ∷ []) (sym is))
    ∙ map-append f (take i xs) (x ∷ [])

-- ---- lists that are the same

pub same_head : {X : Type 0} (x y : X) (xs ys : List X) → x ∷ xs ≡ y ∷ ys → x ≡ y
same_head x y xs ys e = cc

pub same_tail : {X : Type 0} (x y : X) (xs ys : List X) → x ∷ xs ≡ y ∷ ys → xs ≡ ys
same_tail x y xs ys e = cc

-- ---- what is appended part by part

pub two_parts : {X : Type 0} (o p q a b : List X) → p ≡ o ++ a → q ≡ p ++ b → q ≡ o ++ (a ++ b)
two_parts o p q a b first second = second ∙ ap (λ z. z ++ b) first ∙ append_assoc o a b

pub three_parts : {X : Type 0} (o p q r a b c : List X) → p ≡ o ++ a → q ≡ p ++ b → r ≡ q ++ c → r ≡ o ++ (a ++ b ++ c)
three_parts o p q r a b c first second third = two_parts o q r (a ++ b) c (two_parts o p q a b first second) third
