use Rattle.std.proofs.Common.{◌≡◌, ◌≤◌, drop, length}
use Rattle.type_kinds.specs.declared.atom.Atom.{Atom}
use Rattle.core_ast.specs.declared.syntax.FunName.{FunName}
use Rattle.cons_tree.specs.Callees.{found}
use Rattle.cons_tree.proofs.summaries.Summaries.copy.Given as goal

-- what the modules from this position on say
abbrev pub invariant-loop-at : goal.invariant-loop-at
invariant-loop-at l = record { within : l.at ≤ length l.self; says : (h : Atom) (f : FunName) → found l.copy h f ≡ found (drop l.at l.self) h f }

abbrev pub decreases-loop-at : goal.decreases-loop-at
decreases-loop-at l = l.at
