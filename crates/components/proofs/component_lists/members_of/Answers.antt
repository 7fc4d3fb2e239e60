use Rattle.std.proofs.Common.{◌≡◌, length, subst, arith}
use Rattle.components.specs.steps.ComponentLists.{MembersTo}
use Rattle.components.proofs.ComponentLists.{members_more}
use Rattle.components.proofs.component_lists.members_of.Goals as goal

pub loop-node-preserved : goal.loop-node-preserved
loop-node-preserved c = members_more _ _ _ _ _ c.loop-node.invariant (c.requires.below c.loop-node.node c.loop-node-test.true) c.in_ok-add_at.ensures.ok

pub returns : goal.returns
returns c =
    let is : c.loop-node.node ≡ length c.args.component_of.now = omega arith in
    subst (λ n. MembersTo c.args.component_of.now c.loop-node.lists c.args.count n) is c.loop-node.invariant
