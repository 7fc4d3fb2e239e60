use Rattle.std.proofs.Common.{◌∙◌, ◌++◌, ◌∷◌, [], ap, refl}
use Rattle.core_ast.specs.Model as m
use Rattle.core_scope.specs.Asks.{one_value}
use Rattle.fun_flow_places.specs.declared.places.Item.TheVariants.{External}
use Rattle.fun_flow_places.specs.declared.places.FlowRule.TheVariants.{Holds}
use Rattle.fun_flow_rules.specs.steps.Walking.{with_rules}
use Rattle.fun_flow_rules.proofs.Forms.{external_makes, one_exit, part_named}
use Rattle.fun_flow_sets.specs.Items as s
use Rattle.fun_flow_rules.proofs.expressions.walk_external.Goals as goal

pub returns : goal.returns
returns c =
    one_exit c.one.result c.args.walk.now c.hold.new.self one_value (m.external c.args.mark c.args.home.now c.args.name.now) c.part-place.result (λ U home sc. s.part home c.args.mark.label 0)
    (external_makes c.args.walk.now c.hold.new.self c.args.mark c.args.home.now c.args.name.now c.part-place.result c.part-place.ensures
    (c.in_ok-hold.ensures ∙ ap (λ x. with_rules c.args.walk.now (c.args.walk.now.rules ++ Holds c.part-place.result (External x c.in_ok-name.name) ∷ [])) c.in_ok-home.ensures
    ∙ ap (λ x. with_rules c.args.walk.now (c.args.walk.now.rules ++ Holds c.part-place.result (External c.args.home.now x) ∷ [])) c.in_ok-name.ensures))
    (part_named c.args.walk.now c.args.mark.label c.part-place.result c.part-place.ensures) (λ U home sc h. refl) c.one.ensures
