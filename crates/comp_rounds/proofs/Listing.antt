-- What is known with one more list, and with one more function of a list.
use Rattle.std.proofs.Common.{◌≡◌, ℕ, zero, suc, ◌+◌, ◌<◌, List, [], ◌∷◌, drop, length, get_or, slice_get, refl, sym, ap, ◌∙◌, add-one}
use Rattle.type_kinds.proofs.Lists.{drop_next}
use Rattle.cons_tree.specs.declared.parts.Callee.{Callee}
use Rattle.cons_tree.specs.declared.parts.Summary.{Summary}
use Rattle.comp_rounds.specs.Parts.{Listed, listed_callee, with_listed}
use Rattle.comp_rounds.specs.Rounds.{Callees, with_callee}

-- the next function of a list, by the summary at its position
pub next_listed : (c : Callees) (x : Listed) (xs : List Listed) (ss : List Summary) (i : ℕ) → with_listed c (x ∷ xs) (drop i ss) ≡ with_listed (with_callee c x.0 x.1 (listed_callee x (slice_get ss i))) xs (drop (suc i) ss)
next_listed c x xs [] zero = refl
next_listed c x xs [] (suc i) = refl
next_listed c x xs (s ∷ ss) zero = refl
next_listed c x xs (s ∷ ss) (suc i) = next_listed c x xs ss i

-- one more function of a list is known
pub listed_more : (xs : List Listed) (ss : List Summary) (i : ℕ) (x : Listed) (old new all : Callees) (callee : Callee) → i < length xs → x ≡ get_or xs i x → new ≡ with_callee old x.0 x.1 callee
    → callee ≡ listed_callee x (slice_get ss i) → with_listed old (drop i xs) (drop i ss) ≡ all → with_listed new (drop (i + 1) xs) (drop (i + 1) ss) ≡ all
listed_more xs ss i x old new all callee within item set is so =
    ap (λ c. with_listed c (drop (i + 1) xs) (drop (i + 1) ss)) (set ∙ ap (with_callee old x.0 x.1) is)
    ∙ ap (λ n. with_listed (with_callee old x.0 x.1 (listed_callee x (slice_get ss i))) (drop (i + 1) xs) (drop n ss)) (add-one i)
    ∙ sym (next_listed old x (drop (i + 1) xs) ss i)
    ∙ ap (λ ys. with_listed old ys (drop i ss)) (sym (drop_next xs i x within item))
    ∙ so
