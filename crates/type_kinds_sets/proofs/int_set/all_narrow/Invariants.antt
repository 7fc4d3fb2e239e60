use Rattle.std.proofs.Common.{◌≡◌, true, take}
use Rattle.std.specs.List.{list_all}
use Rattle.type_kinds_sets.specs.Numbers.{is_narrow}
use Rattle.type_kinds_sets.proofs.int_set.all_narrow.Given as goal

-- the numbers so far are narrow
abbrev pub invariant-loop-n : goal.invariant-loop-n
invariant-loop-n l = list_all is_narrow (take l.n-index l.numbers) ≡ true
