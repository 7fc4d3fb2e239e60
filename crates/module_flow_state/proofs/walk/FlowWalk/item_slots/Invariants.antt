use Rattle.std.proofs.Common.{◌≡◌, ◌+◌, ◌++◌, drop}
use Rattle.core_ast.specs.Tree.{all_trees}
use Rattle.module_flow_state.specs.Scopes.{argument_slots, variable_names}
use Rattle.module_flow_state.proofs.walk.FlowWalk.item_slots.Given as goal

abbrev pub invariant-loop-position : goal.invariant-loop-position
invariant-loop-position l =
    l.slots ++ argument_slots l.self.scope.variables (l.next + l.position) (variable_names (all_trees (drop l.position l.items))) ≡ argument_slots l.self.scope.variables l.next (variable_names (all_trees l.items))
