use Rattle.std.proofs.Common.{◌≡◌, ℕ, ◌⊎◌, ◌↔◌, length, subst, arith}
use Rattle.std.specs.Prelude.{Contains}
use Rattle.components.specs.steps.ComponentLists.{ComponentAmong}
use Rattle.components.proofs.ComponentLists.{component_more}
use Rattle.components.proofs.component_lists.add_components.Goals as goal

pub loop-node-preserved : goal.loop-node-preserved
loop-node-preserved c = component_more c.args.component_of.now c.args.own c.args.nodes.now c.loop-node.node-index _ _ _ c.loop-node.invariant c.in_ok-add_component.ensures

pub returns : goal.returns
returns c =
    let is : c.loop-node.node-index ≡ length c.args.nodes.now = omega arith in
    subst (λ n. (m : ℕ) → Contains c.loop-node.found m ↔ (Contains c.args.found.now m ⊎ ComponentAmong c.args.component_of.now c.args.own c.args.nodes.now n m)) is c.loop-node.invariant
