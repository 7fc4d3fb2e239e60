use Rattle.std.proofs.Common.{◌∙◌, ap, arith, subst}
use Rattle.core_ast.specs.Tree.{tree}
use Rattle.fun_flow_rules.specs.steps.Walking.{Makes, body_rules}
use Rattle.fun_flow_rules.proofs.ControlForms.{definition_told, definitions_end, definitions_round}
use Rattle.fun_flow_rules.proofs.Steps.{going_begins}
use Rattle.fun_flow_rules.proofs.program.walk_definitions.Goals as goal

pub loop-def-init : goal.loop-def-init
loop-def-init c = going_begins c.args.walk.now _

pub loop-def-preserved : goal.loop-def-preserved
loop-def-preserved c =
    definitions_round c.args.walk.now c.loop-def.walk c.walk_body.new.walk c.args.defs.now c.loop-def.def-index c.def-item.result _ c.loop-def-test.true c.def-item.is
    (definition_told c.loop-def.walk c.walk_body.new.walk c.def-item.result c.as_slice.result.now c.get.result.now (c.as_slice.ensures ∙ ap (λ d. d.fun.params) c.get-def.ensures)
    (c.get.ensures ∙ ap (λ d. d.fun.body) c.get-def.ensures)
    (subst (λ d. Makes c.loop-def.walk c.walk_body.new.walk (λ U home sc. body_rules U home sc d.mark.label c.as_slice.result.now (tree c.get.result.now))) c.get-def.ensures c.in_ok-walk_body.ensures)) c.loop-def.invariant

pub returns : goal.returns
returns c = definitions_end c.args.walk.now c.loop-def.walk c.args.defs.now c.loop-def.def-index _ (let t = c.loop-def-test.false in omega arith) c.loop-def.invariant
