use Rattle.std.proofs.Common.{◌≡◌, take}
use Rattle.type_kinds_sets.specs.Numbers.{highest}
use Rattle.type_kinds_sets.proofs.int_set.highest.Given as goal

-- the end over the numbers so far
abbrev pub invariant-loop-n : goal.invariant-loop-n
invariant-loop-n l = l.high ≡ highest (take l.n-index l.numbers)
