use Rattle.std.proofs.Common.{rules}
use Rattle.std.proofs.lemmas.List.Sorted.{answers_always}
use Rattle.std.specs.List.Sorted.{IsSortedBy, IsStableBy}
use Rattle.warn_list.specs.Order.{kind_number}
use Rattle.warn_list.proofs.Sorting.{key_test, pushed_now, all_now, in_order_of}
use Rattle.warn_list.proofs.printing.in_order.Goals as goal

-- src/printing.rt:28:5
pub loop-finding-init : goal.loop-finding-init
loop-finding-init c = search rules

-- src/printing.rt:28:5
pub loop-finding-preserved : goal.loop-finding-preserved
loop-finding-preserved c = pushed_now c.args.findings.now c.loop-finding.ordered.items c.push.new.self.items _ c.loop-finding.finding-index c.loop-finding.invariant c.in-Ok.ensures.items c.finding-item.is c.loop-finding-test.true

-- src/printing.rt:26:1
pub returns-in-Ok-sort_by_key : goal.returns-in-Ok-sort_by_key
returns-in-Ok-sort_by_key c =
    let up : IsSortedBy key_test c.sort_by_key.new.self.items = c.in-Ok-sort_by_key.ensures.sorted (λ f. (f.now.label, kind_number f.now.kind)) (answers_always _ _ _ (λ a r g k h. search rules)) in
    let stable : IsStableBy key_test c.loop-finding.ordered.items c.sort_by_key.new.self.items = c.in-Ok-sort_by_key.ensures.stable (λ f. (f.now.label, kind_number f.now.kind)) (answers_always _ _ _ (λ a r g k h. search rules)) in
    in_order_of c.args.findings.now c.loop-finding.ordered.items c.sort_by_key.new.self.items
    (all_now c.args.findings.now c.loop-finding.ordered.items c.loop-finding.finding-index c.loop-finding.invariant c.loop-finding-test.false) c.in-Ok-sort_by_key.ensures.permutation up stable
