use Rattle.std.proofs.Common.{◌≡◌, ◌++◌, take, drop}
use Rattle.std.specs.Ordering.{int_cmp}
use Rattle.type_kinds_sets.specs.Ascending.{placed}
use Rattle.type_kinds_sets.proofs.int_set.position_of.Given as goal

-- the number goes behind those so far
abbrev pub invariant-loop-at : goal.invariant-loop-at
invariant-loop-at l = placed int_cmp l.n l.numbers ≡ take l.at l.numbers ++ placed int_cmp l.n (drop l.at l.numbers)
