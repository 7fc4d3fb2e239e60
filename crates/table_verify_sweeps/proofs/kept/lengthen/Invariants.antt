use Rattle.cons_tree.specs.Constraints.{ConsList}
use Rattle.cons_tree.specs.Environments.{Types}
use Rattle.cons_tree.specs.declared.parts.Part.{Part}
use Rattle.table_verify_sweeps.specs.steps.Memos.{memos, AreRight}
use Rattle.table_verify_sweeps.proofs.kept.lengthen.Given as goal

abbrev pub invariant-loop-at : goal.invariant-loop-at
invariant-loop-at l = (cs : ConsList Part) (xs : Types) → AreRight cs (memos l.initial.kept) xs → AreRight cs (memos l.kept) xs
