-- What stood in a list of bytes before something was added.
use Rattle.std.proofs.Common.{◌≡◌, ℕ, List, ◌++◌, length, take, drop, sym, ap, ◌∙◌, subst, append_assoc}
use Rattle.std.proofs.lemmas.List.{take-append-drop}
use Rattle.std.proofs.Math.Seq.{take-append_seam}

-- it stays as long as the whole does
pub still_front : (o p q w : List ℕ) → p ≡ o ++ w → take (length p) q ≡ p → take (length o) q ≡ o
still_front o p q w e h =
    let r : List ℕ = drop (length p) q in
    let whole : o ++ (w ++ r) ≡ q = sym (append_assoc o w r) ∙ ap (λ t. t ++ r) (sym (h ∙ e)) ∙ take-append-drop (length p) q in
    subst (λ x. take (length o) x ≡ o) whole (take-append_seam o (w ++ r))
