-- The items of a shared list.
use Rattle.std.specs.Prelude.{List, [], Option, Some, None}

abbrev pub items_of : {A : Type 0} → Option (List A) → List A
items_of None = []
items_of (Some xs) = xs
