use Rattle.std.proofs.Common.{◌≡◌, ◌≤◌, take, length}
use Rattle.std.specs.Ordering.{int_cmp}
use Rattle.type_kinds_sets.specs.declared.limits.TheConstants.{MAX_MEMBERS}
use Rattle.type_kinds_sets.specs.Ascending.{merged}
use Rattle.type_kinds_sets.proofs.int_set.both.Given as goal

-- the first list with the numbers so far of the second
abbrev pub invariant-loop-n : goal.invariant-loop-n
invariant-loop-n l = record { merged : l.out.items ≡ merged int_cmp l.numbers (take l.n-index l.others); few : length l.out.items ≤ MAX_MEMBERS }
