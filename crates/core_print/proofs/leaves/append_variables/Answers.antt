use Rattle.std.proofs.Common.{true, refl, arith}
use Rattle.core_print.specs.Canonical.{variable_in_list, variables}
use Rattle.core_print.proofs.Adding.{begins, next_item, all_items}
use Rattle.core_print.proofs.leaves.append_variables.Goals as goal

pub loop-variable-init : goal.loop-variable-init
loop-variable-init c = begins (variables true c.args.list.now) c.args.out.now

pub loop-variable-preserved : goal.loop-variable-preserved
loop-variable-preserved c =
    next_item variables variable_in_list (variables true c.args.list.now) c.args.list.now c.loop-variable.variable-index c.variable-item.result c.loop-variable.first c.args.out.now c.loop-variable.out c.append_comma.new.out
    c.append_listed_variable.new.out (λ first x xs rest. refl)
    c.loop-variable-test.true c.variable-item.is c.loop-variable.invariant c.in_ok-append_comma.ensures c.in_ok-append_listed_variable.ensures

pub returns : goal.returns
returns c = all_items variables (variables true c.args.list.now) c.args.list.now c.loop-variable.variable-index c.loop-variable.first c.args.out.now c.loop-variable.out (λ first rest. refl) (omega arith) c.loop-variable.invariant
