use Rattle.cons_tree.proofs.SameEntries.{SameBelow}
use Rattle.cons_tree.proofs.summaries.equality.same_table.Given as goal

abbrev pub invariant-loop-at : goal.invariant-loop-at
invariant-loop-at l = SameBelow l.a.0 l.b.0 l.at
