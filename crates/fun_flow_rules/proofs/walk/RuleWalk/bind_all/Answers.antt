use Rattle.std.proofs.Common.{arith, subst, sym}
use Rattle.fun_flow_rules.proofs.Rounds.{places_end, places_round}
use Rattle.fun_flow_places.specs.Naming.{place_named}
use Rattle.fun_flow_rules.specs.steps.Walking.{Binds, no_rules}
use Rattle.fun_flow_sets.specs.Scopes.{with_place}
use Rattle.fun_flow_rules.proofs.Steps.{entering_begins}
use Rattle.fun_flow_rules.proofs.walk.RuleWalk.bind_all.Goals as goal

pub loop-position-init : goal.loop-position-init
loop-position-init c = entering_begins c.args.self.now no_rules _

pub loop-position-preserved : goal.loop-position-preserved
loop-position-preserved c = places_round c.args.self.now c.loop-position.self c.bind.new.self c.args.vars.now c.args.places.now c.loop-position.position c.index-vars-position.result c.place_at.result _
    (omega (arith, c.loop-position-test.true)) c.index-vars-position.is c.place_at.ensures (subst (λ v. Binds c.loop-position.self c.bind.new.self no_rules (λ U home sc. with_place v.name (place_named U c.place_at.result) sc))
    (sym c.index-vars-position.is) c.in_ok-bind.ensures) c.loop-position.invariant

pub returns : goal.returns
returns c = places_end c.args.self.now c.loop-position.self c.args.vars.now c.args.places.now c.loop-position.position _ (let t = c.loop-position-test.false in omega arith) c.loop-position.invariant
