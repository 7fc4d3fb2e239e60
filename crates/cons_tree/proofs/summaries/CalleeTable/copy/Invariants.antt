use Rattle.std.proofs.Common.{◌≡◌, ◌≤◌, drop, length}
use Rattle.core_ast.specs.declared.syntax.FunName.{FunName}
use Rattle.cons_tree.specs.Callees.{callee_in}
use Rattle.cons_tree.proofs.summaries.CalleeTable.copy.Given as goal

-- what the entries from this position on say
abbrev pub invariant-loop-at : goal.invariant-loop-at
invariant-loop-at l = record { within : l.at ≤ length l.self.0; says : (f : FunName) → callee_in l.copy f ≡ callee_in (drop l.at l.self.0, l.self.1) f }

abbrev pub decreases-loop-at : goal.decreases-loop-at
decreases-loop-at l = l.at
