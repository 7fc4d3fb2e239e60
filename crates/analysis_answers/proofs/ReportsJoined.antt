-- Reports one after the other.
use Rattle.std.proofs.Common.{◌≡◌, ℕ, ◌+◌, ◌<◌, ◌≤◌, List, ◌∷◌, ◌++◌, length, drop, get_or, sym, ap, ap₂, ◌∙◌, append_assoc, append-nil, add-one, drop-cons, drop_of_length-le}
use Rattle.std.specs.List.{concat}

next_report : (rs : List (List ℕ)) (i : ℕ) (r : List ℕ) → i < length rs → r ≡ get_or rs i r → drop i rs ≡ r ∷ drop (i + 1) rs
next_report rs i r h e = drop-cons rs i r h ∙ ap₂ (λ y ys. y ∷ ys) (sym e) (ap (λ n. drop n rs) (sym (add-one i)))

pub joined_round : (rs : List (List ℕ)) (i : ℕ) (r bytes out more : List ℕ) → i < length rs → r ≡ get_or rs i r → bytes ≡ r → more ≡ out ++ bytes
    → out ++ concat (drop i rs) ≡ concat rs → more ++ concat (drop (i + 1) rs) ≡ concat rs
joined_round rs i r bytes out more h e same added before =
    let rest = concat (drop (i + 1) rs) in
    ap (λ o. o ++ rest) (added ∙ ap (λ b. out ++ b) same) ∙ append_assoc out r rest ∙ sym (ap (λ xs. out ++ concat xs) (next_report rs i r h e)) ∙ before

pub joined_end : (rs : List (List ℕ)) (i : ℕ) (out : List ℕ) → length rs ≤ i → out ++ concat (drop i rs) ≡ concat rs → out ≡ concat rs
joined_end rs i out h before = sym (append-nil out) ∙ ap (λ xs. out ++ concat xs) (sym (drop_of_length-le rs h)) ∙ before
