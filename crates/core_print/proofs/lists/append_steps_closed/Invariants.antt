use Rattle.std.proofs.Common.{length}
use Rattle.core_ast.specs.Tree.{all_steps}
use Rattle.core_print.specs.steps.Parts.{ends}
use Rattle.core_print.proofs.Adding.{Still}
use Rattle.core_print.proofs.lists.append_steps_closed.Given as goal

abbrev pub invariant-loop-last : goal.invariant-loop-last
invariant-loop-last l = Still (ends (all_steps l.left)) (ends (all_steps l.steps)) l.fn.out l.out

abbrev pub decreases-loop-last : goal.decreases-loop-last
decreases-loop-last l = length l.left
