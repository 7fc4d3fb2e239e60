use Rattle.std.proofs.Common.{arith}
use Rattle.fun_flow_sets.specs.Rules.{kept}
use Rattle.fun_flow_rules.proofs.Rounds.{parts_begin, parts_end, parts_round}
use Rattle.fun_flow_rules.proofs.walk.RuleWalk.pass_on.Goals as goal

pub loop-number-init : goal.loop-number-init
loop-number-init c = parts_begin c.args.self.now c.args.from.now (kept c.args.ask) c.args.label

pub loop-number-preserved : goal.loop-number-preserved
loop-number-preserved c = parts_round c.args.self.now c.loop-number.self c.flow.new.self c.args.from.now (kept c.args.ask) c.loop-number.number c.args.label c.place_at.result _
    (let t = c.loop-number-test.true in let e = c.kept-number-end.ensures in omega (arith, t, e)) c.place_at.ensures c.in_ok-flow.ensures c.loop-number.invariant

pub returns : goal.returns
returns c = parts_end c.args.self.now c.loop-number.self c.args.from.now (kept c.args.ask) c.loop-number.number c.args.label _
    (let t = c.loop-number-test.false in let e = c.kept-number-end.ensures in omega (arith, t, e)) c.loop-number.invariant
