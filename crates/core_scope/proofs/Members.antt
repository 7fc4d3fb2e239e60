-- What stands in a list: its first, or one of those behind it.
use Rattle.std.proofs.Common.{◌≡◌, List, ◌∷◌, Contains, arith}

pub first_in : {X : Type 0} (x y : X) (xs : List X) → x ≡ y → Contains (x ∷ xs) y
first_in x y xs e = (0, omega arith, e)
