use Rattle.std.proofs.Common.{◌≡◌, take}
use Rattle.type_kinds_sets.specs.Numbers.{lowest}
use Rattle.type_kinds_sets.proofs.int_set.lowest.Given as goal

-- the end under the numbers so far
abbrev pub invariant-loop-n : goal.invariant-loop-n
invariant-loop-n l = l.low ≡ lowest (take l.n-index l.numbers)
