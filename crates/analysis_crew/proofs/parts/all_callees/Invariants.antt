use Rattle.std.proofs.Common.{◌≡◌}
use Rattle.components.specs.Numbering.{callees_of}
use Rattle.summary_board.specs.Calls.{each_below}
use Rattle.analysis_crew.proofs.parts.all_callees.Given as goal

abbrev pub invariant-loop-component : goal.invariant-loop-component
invariant-loop-component l = l.callees ≡ each_below l.component (callees_of l.comps)
