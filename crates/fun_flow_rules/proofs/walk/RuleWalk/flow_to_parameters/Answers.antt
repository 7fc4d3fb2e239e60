use Rattle.std.proofs.Common.{arith}
use Rattle.std.proofs.lemmas.List.{get_or_default}
use Rattle.fun_flow_rules.proofs.Rounds.{parameters_end, parameters_round}
use Rattle.fun_flow_rules.proofs.Steps.{going_begins}
use Rattle.fun_flow_rules.proofs.walk.RuleWalk.flow_to_parameters.Goals as goal

pub loop-number-init : goal.loop-number-init
loop-number-init c = going_begins c.args.self.now _

pub loop-number-preserved : goal.loop-number-preserved
loop-number-preserved c = parameters_round c.args.self.now c.loop-number.self c.flow.new.self c.args.from.now c.loop-number.number c.args.label _ _ (omega (arith, c.loop-number-test.true))
    (get_or_default c.args.from.now c.loop-number.number _ _ (omega (arith, c.loop-number-test.true))) c.in_ok-flow.ensures c.loop-number.invariant

pub returns : goal.returns
returns c = parameters_end c.args.self.now c.loop-number.self c.args.from.now c.loop-number.number c.args.label _ (let t = c.loop-number-test.false in omega arith) c.loop-number.invariant
