use Rattle.cons_solve.proofs.IndexLaws.{Covering}
use Rattle.cons_solve.proofs.index.namings_of.Given as goal

abbrev pub invariant-loop-at : goal.invariant-loop-at
invariant-loop-at l = Covering l.members l.namings l.at
