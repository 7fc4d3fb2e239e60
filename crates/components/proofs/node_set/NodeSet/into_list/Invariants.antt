use Rattle.std.proofs.Common.{◌≡◌, ◌++◌, length}
use Rattle.components.proofs.node_set.NodeSet.into_list.Given as goal

abbrev pub invariant-loop-least : goal.invariant-loop-least
invariant-loop-least l = l.list ++ l.nodes.keys ≡ l.initial.nodes.keys

abbrev pub decreases-loop-least : goal.decreases-loop-least
decreases-loop-least l = length l.nodes.keys
