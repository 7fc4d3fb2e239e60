use Rattle.std.proofs.Common.{◌≡◌, true, take}
use Rattle.std.specs.List.{list_all}
use Rattle.type_kinds_sets.specs.Numbers.{has}
use Rattle.type_kinds_sets.proofs.int_set.all_in.Given as goal

-- the numbers so far are in the set
abbrev pub invariant-loop-n : goal.invariant-loop-n
invariant-loop-n l = list_all (has l.set) (take l.n-index l.numbers) ≡ true
