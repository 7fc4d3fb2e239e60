use Rattle.std.proofs.Common.{◌≡◌, drop}
use Rattle.table_file.specs.Order.{rises, rises_from}
use Rattle.table_file.specs.Rules.{is_export_before}
use Rattle.table_file.proofs.checks.exports_rise.Given as goal

abbrev pub invariant-loop-export : goal.invariant-loop-export
invariant-loop-export l =
    rises_from is_export_before l.last (drop l.export-index l.later) ≡ rises is_export_before l.fn.exports
