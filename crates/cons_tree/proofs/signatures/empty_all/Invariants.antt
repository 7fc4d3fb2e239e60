use Rattle.std.proofs.Common.{◌≡◌}
use Rattle.cons_tree.proofs.LoopLaws.{emptied}
use Rattle.cons_tree.proofs.signatures.empty_all.Given as goal

abbrev pub invariant-loop-at : goal.invariant-loop-at
invariant-loop-at l = l.types ≡ emptied l.at l.initial.types
