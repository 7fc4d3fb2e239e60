use Rattle.std.proofs.Common.{ℕ, ◌↔◌}
use Rattle.std.specs.Prelude.{Contains}
use Rattle.components.specs.steps.ComponentLists.{CalledFrom}
use Rattle.components.proofs.component_lists.component_callees.Given as goal

abbrev pub invariant-loop-node : goal.invariant-loop-node
invariant-loop-node l = (m : ℕ) → Contains l.found m ↔ CalledFrom l.graph l.component_of l.own l.nodes l.node-index m
