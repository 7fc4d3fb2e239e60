use Rattle.std.proofs.Common.{◌≡◌, ◌≤◌, take, filter, length}
use Rattle.type_kinds_sets.specs.Numbers.{has}
use Rattle.type_kinds_sets.proofs.int_set.kept.Given as goal

-- what is kept of the numbers so far
abbrev pub invariant-loop-n : goal.invariant-loop-n
invariant-loop-n l = record { kept : l.out.items ≡ filter (has l.set) (take l.n-index l.numbers); few : length l.out.items ≤ l.n-index }
