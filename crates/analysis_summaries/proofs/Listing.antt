-- Loops that make a list, part by part.
use Rattle.std.proofs.Common.{◌≡◌, ℕ, ◌+◌, ◌<◌, ◌≤◌, List, [], ◌∷◌, ◌++◌, length, drop, get_or, sym, ap, ◌∙◌, append_assoc, append-nil, drop_of_length-le}
use Rattle.type_kinds.proofs.Lists.{drop_next}

-- what was made and what is still made are all, as the part of the next item is made
pub made_more : {A C : Type 0} (F : List A → List C) (f : A → List C) → ((x : A) (xs : List A) → F (x ∷ xs) ≡ f x ++ F xs)
    → (xs : List A) (i : ℕ) (x : A) → i < length xs → x ≡ get_or xs i x → (out all : List C) → out ++ F (drop i xs) ≡ all
    → (out ++ f x) ++ F (drop (i + 1) xs) ≡ all
made_more F f opens xs i x h e out all is =
    append_assoc out (f x) (F (drop (i + 1) xs))
    ∙ ap (λ zs. out ++ zs) (sym (opens x (drop (i + 1) xs)) ∙ ap F (sym (drop_next xs i x h e)))
    ∙ is

-- all was made
pub made_all : {A C : Type 0} (F : List A → List C) → F [] ≡ [] → (xs : List A) (i : ℕ) → length xs ≤ i → (out all : List C)
    → out ++ F (drop i xs) ≡ all → out ≡ all
made_all F none xs i h out all is =
    sym (append-nil out) ∙ ap (λ zs. out ++ zs) (sym (ap F (drop_of_length-le xs h) ∙ none)) ∙ is
