use Rattle.std.proofs.Common.{drop}
use Rattle.summary_board.specs.steps.Agenda.{AddedTo}
use Rattle.summary_board.proofs.agenda.add_caller.Given as goal

abbrev pub invariant-loop-d : goal.invariant-loop-d
invariant-loop-d l = AddedTo l.fn.callers l.callers l.c l.numbers (drop l.d-index l.numbers)
