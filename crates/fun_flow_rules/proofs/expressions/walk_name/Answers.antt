use Rattle.std.proofs.Common.{◌∙◌, refl}
use Rattle.core_ast.specs.Model as m
use Rattle.core_scope.specs.Asks.{one_value}
use Rattle.fun_flow_rules.proofs.Forms.{name_some, one_exit, part_named}
use Rattle.fun_flow_sets.specs.Items as s
use Rattle.fun_flow_rules.proofs.expressions.walk_name.Goals as goal

pub returns : goal.returns
returns c =
    one_exit c.one-2.result c.args.walk.now c.open_parameters.new.self one_value (m.local c.args.mark c.args.name.now) c.part-place.result (λ U home sc. s.part home c.args.mark.label 0)
    (name_some c.args.walk.now c.hold.new.self c.open_parameters.new.self c.args.mark c.args.name.now c.in-Some.label c.args.name.now.arity c.part-place.result c.part-place.ensures refl
    (λ U home sc h. c.in-Some.ensures ∙ h.functions c.args.name.now) c.in_ok-hold.ensures c.in_ok-open_parameters.ensures)
    (part_named c.args.walk.now c.args.mark.label c.part-place.result c.part-place.ensures) (λ U home sc h. refl) c.one-2.ensures
