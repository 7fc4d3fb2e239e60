use Rattle.std.proofs.Common.{refl, arith, subst}
use Rattle.core_ast.specs.Tree.{all_defs, def_tree}
use Rattle.core_print.specs.Canonical.{definitions}
use Rattle.core_print.specs.steps.Writes.{Writes}
use Rattle.core_print.specs.steps.Parts.{definition_words}
use Rattle.core_print.proofs.Adding.{begins, next_row, all_rows}
use Rattle.core_print.proofs.modules.append_definitions.Goals as goal

pub loop-definition-init : goal.loop-definition-init
loop-definition-init c = begins (definitions (all_defs c.args.shared.now)) c.args.out.now

pub loop-definition-preserved : goal.loop-definition-preserved
loop-definition-preserved c =
    next_row (λ ds. definitions (all_defs ds)) (λ d. definition_words (def_tree d))
    (definitions (all_defs c.args.shared.now)) c.args.shared.now c.loop-definition.definition-index c.definition-item.result c.args.out.now c.loop-definition.out c.append_definition.new.out (λ x xs rest. refl)
    c.loop-definition-test.true c.definition-item.is c.loop-definition.invariant
    (subst (λ d. Writes (definition_words (def_tree d)) c.loop-definition.out c.append_definition.new.out) c.get.ensures c.in_ok-append_definition.ensures)

pub returns : goal.returns
returns c = all_rows (λ ds. definitions (all_defs ds)) (definitions (all_defs c.args.shared.now)) c.args.shared.now c.loop-definition.definition-index c.args.out.now c.loop-definition.out (λ rest. refl)
    (omega arith) c.loop-definition.invariant
