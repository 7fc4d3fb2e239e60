use Rattle.std.proofs.Common.{arith}
use Rattle.std.proofs.lemmas.Grind.{common_steps}
use Rattle.std.proofs.lemmas.Result.{IfOk-weaker}
use Rattle.type_lattice_trees.proofs.JoinLaws.{tag_names}
use Rattle.type_lattice_trees.proofs.joins.tag_atoms.Goals as goal

pub returns-then-can_list : goal.returns-then-can_list
returns-then-can_list c = IfOk-weaker c.listed.result _ _ (λ r e d. grind (arith, common_steps, tag_names, e, c.loop-tag.invariant d)) c.listed.ensures.value

pub returns-else-can_list : goal.returns-else-can_list
returns-else-can_list c = λ d. grind (arith, common_steps, tag_names, c.loop-tag.invariant d)
