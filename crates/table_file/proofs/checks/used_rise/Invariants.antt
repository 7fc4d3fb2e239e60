use Rattle.std.proofs.Common.{◌≡◌, drop}
use Rattle.table_file.specs.Order.{rises, rises_from}
use Rattle.table_file.specs.Rules.{is_used_before}
use Rattle.table_file.proofs.checks.used_rise.Given as goal

abbrev pub invariant-loop-one : goal.invariant-loop-one
invariant-loop-one l = rises_from is_used_before l.last (drop l.one-index l.later) ≡ rises is_used_before l.fn.used
