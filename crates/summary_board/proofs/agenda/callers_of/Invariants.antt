use Rattle.summary_board.specs.steps.Agenda.{CallersTo}
use Rattle.summary_board.proofs.agenda.callers_of.Given as goal

abbrev pub invariant-loop-c : goal.invariant-loop-c
invariant-loop-c l = CallersTo l.callees l.callers l.c
