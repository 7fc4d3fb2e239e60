use Rattle.cons_tree.proofs.SameEntries.{SameBelow}
use Rattle.cons_tree.proofs.summaries.equality.same_summaries.Given as goal

abbrev pub invariant-loop-at : goal.invariant-loop-at
invariant-loop-at l = SameBelow l.a l.b l.at
