use Rattle.std.specs.Prelude.{All}
use Rattle.cons_tree.specs.Callees.{found}
use Rattle.table_keep.specs.Model.{sources_so}
use Rattle.analysis.specs.steps.Reporting.{IsMade}
use Rattle.analysis.proofs.reporting.work_off.Given as goal

abbrev pub invariant-loop : goal.invariant-loop
invariant-loop l = All (IsMade (found l.known) (sources_so l.sources)) l.list
