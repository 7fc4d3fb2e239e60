use Rattle.std.proofs.Common.{arith, subst, sym}
use Rattle.fun_flow_rules.proofs.Rounds.{function_begins, function_ends, function_round}
use Rattle.fun_flow_places.specs.Naming.{place_named}
use Rattle.fun_flow_places.specs.declared.places.FlowPlace.TheVariants.{Parameter}
use Rattle.fun_flow_rules.specs.steps.Walking.{Binds, no_rules}
use Rattle.fun_flow_sets.specs.Scopes.{with_place}
use Rattle.fun_flow_rules.proofs.walk.RuleWalk.bind_parameters.Goals as goal

pub loop-number-init : goal.loop-number-init
loop-number-init c = function_begins c.args.self.now c.args.vars.now c.args.label

pub loop-number-preserved : goal.loop-number-preserved
loop-number-preserved c = function_round c.args.self.now c.loop-number.self c.bind.new.self c.args.vars.now c.loop-number.number c.args.label c.index-vars-number.result _ (omega (arith, c.loop-number-test.true)) c.index-vars-number.is
    (subst (λ v. Binds c.loop-number.self c.bind.new.self no_rules (λ U home sc. with_place v.name (place_named U (Parameter c.loop-number.self.home c.args.label c.loop-number.number)) sc))
    (sym c.index-vars-number.is) c.in_ok-bind.ensures) c.loop-number.invariant

pub returns : goal.returns
returns c = function_ends c.args.self.now c.loop-number.self c.args.vars.now c.loop-number.number c.args.label _ (let t = c.loop-number-test.false in omega arith) c.loop-number.invariant
