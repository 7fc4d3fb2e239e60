use Rattle.std.proofs.Common.{drop}
use Rattle.summary_board.specs.steps.Agenda.{LoweredTo}
use Rattle.summary_board.proofs.agenda.lower_all.Given as goal

abbrev pub invariant-loop-caller : goal.invariant-loop-caller
invariant-loop-caller l = LoweredTo l.callers (drop l.caller-index l.callers) l.fn.counts l.counts l.fn.ready l.ready
