use Rattle.std.proofs.Common.{◌≡◌, true, take}
use Rattle.std.specs.List.{list_all}
use Rattle.table_file.specs.Rules.{is_outside}
use Rattle.table_file.proofs.checks.used_outside.Given as goal

abbrev pub invariant-loop-one : goal.invariant-loop-one
invariant-loop-one l = list_all (is_outside l.group l.calls) (take l.one-index l.used) ≡ true
