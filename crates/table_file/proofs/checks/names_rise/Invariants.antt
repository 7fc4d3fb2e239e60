use Rattle.std.proofs.Common.{◌≡◌, drop}
use Rattle.table_file.specs.Order.{rises, rises_from, is_name_before}
use Rattle.table_file.proofs.checks.names_rise.Given as goal

abbrev pub invariant-loop-name : goal.invariant-loop-name
invariant-loop-name l = rises_from is_name_before l.last (drop l.name-index l.later) ≡ rises is_name_before l.fn.names
