use Rattle.std.proofs.Common.{◌≡◌, ℕ, ◌↔◌, length, subst, arith}
use Rattle.std.specs.Prelude.{Contains}
use Rattle.components.specs.steps.ComponentLists.{CalledFrom}
use Rattle.components.proofs.ComponentLists.{called_more, found_is}
use Rattle.components.proofs.Orders.{callee_low}
use Rattle.components.proofs.component_lists.component_callees.Goals as goal

pub add_components-requires : goal.add_components-requires
add_components-requires c = λ k under. omega (arith, c.requires.sizes, callee_low c.args.graph.now _ _ k c.requires.graph.inside c.targets.ensures under)

pub loop-node-preserved : goal.loop-node-preserved
loop-node-preserved c = called_more c.args.graph.now c.args.component_of.now c.args.own c.args.nodes.now c.loop-node.node-index _ _ _ c.loop-node.invariant c.targets.ensures c.in_ok-add_components.ensures

pub returns-clause-exact : goal.returns-clause-exact
returns-clause-exact c =
    let is : c.loop-node.node-index ≡ length c.args.nodes.now = omega arith in
    found_is c.into_list.result c.loop-node.found (λ found. (m : ℕ) → Contains found m ↔ CalledFrom c.args.graph.now c.args.component_of.now c.args.own c.args.nodes.now (length c.args.nodes.now) m)
    (subst (λ n. (m : ℕ) → Contains c.loop-node.found m ↔ CalledFrom c.args.graph.now c.args.component_of.now c.args.own c.args.nodes.now n m) is c.loop-node.invariant)
    c.into_list.ensures.items
