use Rattle.std.proofs.Common.{◌∙◌, sym}
use Rattle.fun_flow_rules.proofs.Calls.{handed_on}
use Rattle.fun_flow_rules.proofs.applications.walk_found.Goals as goal

pub returns-then-hands_on : goal.returns-then-hands_on
returns-then-hands_on c =
    handed_on c.args.walk.now c.args.label c.args.home.now c.args.name.now c.args.args.now c.flow_all.new.self c.part-place.result (sym c.hands_on.ensures ∙ c.if-hands_on.true)
    (λ U home sc h. c.in-BuiltIn.ensures U h.apart h.table) c.part-place.ensures c.in_ok-flow_all-in-BuiltIn.ensures
