use Rattle.components.specs.steps.ComponentLists.{MembersTo}
use Rattle.components.proofs.component_lists.members_of.Given as goal

abbrev pub invariant-loop-node : goal.invariant-loop-node
invariant-loop-node l = MembersTo l.component_of l.lists l.count l.node
