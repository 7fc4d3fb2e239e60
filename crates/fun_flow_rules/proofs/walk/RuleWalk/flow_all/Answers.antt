use Rattle.std.proofs.Common.{arith}
use Rattle.std.proofs.lemmas.List.{get_or_default}
use Rattle.fun_flow_rules.proofs.Rounds.{into_ends, into_round}
use Rattle.fun_flow_rules.proofs.Steps.{going_begins}
use Rattle.fun_flow_rules.proofs.walk.RuleWalk.flow_all.Goals as goal

pub loop-place-init : goal.loop-place-init
loop-place-init c = going_begins c.args.self.now _

pub loop-place-preserved : goal.loop-place-preserved
loop-place-preserved c = into_round c.args.self.now c.loop-place.self c.flow.new.self c.args.from.now c.loop-place.place-index _ c.args.to _ c.loop-place-test.true
    (get_or_default c.args.from.now c.loop-place.place-index _ _ c.loop-place-test.true) c.in_ok-flow.ensures c.loop-place.invariant

pub returns : goal.returns
returns c = into_ends c.args.self.now c.loop-place.self c.args.from.now c.loop-place.place-index c.args.to _ (let t = c.loop-place-test.false in omega arith) c.loop-place.invariant
