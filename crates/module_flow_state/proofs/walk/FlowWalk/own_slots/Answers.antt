use Rattle.std.proofs.Common.{◌≡◌, ◌+◌, arith}
use Rattle.std.proofs.lemmas.Grind.{common_steps}
use Rattle.module_flow_state.proofs.WalkSteps.{own_round}
use Rattle.module_flow_state.proofs.walk.FlowWalk.own_slots.Goals as goal

pub loop-position-preserved : goal.loop-position-preserved
loop-position-preserved c =
    let at : c.in-Some.own ≡ c.args.next + c.loop-position.position = grind (arith, common_steps, c.in-Some.ensures) in
    own_round c.args.self.now.scope.variables c.args.count c.loop-position.position c.args.next c.in-Some.own c.loop-position.slots c.add.new.self _ c.loop-position-test.true at c.in_ok-add.ensures.ok c.loop-position.invariant
