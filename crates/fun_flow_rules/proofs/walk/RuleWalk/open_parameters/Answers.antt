use Rattle.std.proofs.Common.{arith}
use Rattle.fun_flow_rules.proofs.Rounds.{opens_begin, opens_end, opens_round}
use Rattle.fun_flow_rules.proofs.walk.RuleWalk.open_parameters.Goals as goal

pub loop-number-init : goal.loop-number-init
loop-number-init c = opens_begin c.args.self.now c.args.count c.args.label

pub loop-number-preserved : goal.loop-number-preserved
loop-number-preserved c = opens_round c.args.self.now c.loop-number.self c.hold.new.self c.args.count c.loop-number.number c.args.label _ (omega (arith, c.loop-number-test.true)) c.in_ok-hold.ensures c.loop-number.invariant

pub returns : goal.returns
returns c = opens_end c.args.self.now c.loop-number.self c.args.count c.loop-number.number c.args.label _ (let t = c.loop-number-test.false in omega arith) c.loop-number.invariant
