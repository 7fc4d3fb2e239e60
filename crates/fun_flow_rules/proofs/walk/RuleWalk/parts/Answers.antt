use Rattle.std.proofs.Common.{arith}
use Rattle.fun_flow_sets.specs.Rules.{kept}
use Rattle.fun_flow_rules.proofs.Rounds.{given_begins, given_end, given_round}
use Rattle.fun_flow_rules.proofs.walk.RuleWalk.parts.Goals as goal

pub loop-number-init : goal.loop-number-init
loop-number-init c = λ U home sc h. given_begins U home c.args.label (kept c.args.ask) c.new-places.result c.new-places.ensures

pub loop-number-preserved : goal.loop-number-preserved
loop-number-preserved c = given_round c.args.self.now (kept c.args.ask) c.loop-number.number c.args.label c.loop-number.places c.add.new.self
    (let t = c.loop-number-test.true in let e = c.kept-number-end.ensures in omega (arith, t, e)) c.in_ok-add.ensures.ok c.loop-number.invariant

pub returns : goal.returns
returns c = given_end c.args.self.now (kept c.args.ask) c.loop-number.number c.args.label c.loop-number.places (let t = c.loop-number-test.false in let e = c.kept-number-end.ensures in omega (arith, t, e)) c.loop-number.invariant
