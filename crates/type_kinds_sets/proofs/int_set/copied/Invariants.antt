use Rattle.std.proofs.Common.{◌≡◌, take}
use Rattle.type_kinds_sets.proofs.int_set.copied.Given as goal

-- the numbers so far
abbrev pub invariant-loop-n : goal.invariant-loop-n
invariant-loop-n l = l.out.items ≡ take l.n-index l.numbers
