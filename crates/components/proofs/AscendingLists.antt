-- Lists of numbers that ascend: their rest, and what stands behind the first.
use Rattle.std.proofs.Common.{ℕ, zero, suc, ◌<◌, List, ◌∷◌, Contains, slice_index_or, subst, arith}
use Rattle.components.specs.Lists.{Ascending}

pub rest_ascending : (x : ℕ) (xs : List ℕ) → Ascending (x ∷ xs) → Ascending xs
rest_ascending x xs h i j d before under = h (suc i) (suc j) d (omega arith) (omega arith)

pub above_first : (x z : ℕ) (xs : List ℕ) → Ascending (x ∷ xs) → Contains xs z → x < z
above_first x z xs h has =
    let k : x < slice_index_or xs has.0 z = h zero (suc has.0) z (omega arith) (omega (arith, has.1)) in
    subst (λ y. x < y) has.2 k
