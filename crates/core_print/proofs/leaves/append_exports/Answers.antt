use Rattle.std.proofs.Common.{true, refl, arith}
use Rattle.core_print.specs.Canonical.{function_name, exports}
use Rattle.core_print.proofs.Adding.{begins, next_item, all_items}
use Rattle.core_print.proofs.leaves.append_exports.Goals as goal

pub loop-name-init : goal.loop-name-init
loop-name-init c = begins (exports true c.args.names.now) c.args.out.now

pub loop-name-preserved : goal.loop-name-preserved
loop-name-preserved c =
    next_item exports function_name (exports true c.args.names.now) c.args.names.now c.loop-name.name-index c.name-item.result c.loop-name.first c.args.out.now c.loop-name.out c.append_comma.new.out c.append_name.new.out
    (λ first x xs rest. refl)
    c.loop-name-test.true c.name-item.is c.loop-name.invariant c.in_ok-append_comma.ensures c.in_ok-append_name.ensures

pub returns : goal.returns
returns c = all_items exports (exports true c.args.names.now) c.args.names.now c.loop-name.name-index c.loop-name.first c.args.out.now c.loop-name.out (λ first rest. refl) (omega arith) c.loop-name.invariant
