use Rattle.std.proofs.Common.{◌≡◌, [], length, replicate, subst, sym, arith}
use Rattle.std.specs.Prelude.{None}
use Rattle.std.proofs.lemmas.Grind.{common_steps}
use Rattle.components.specs.steps.Order.{Ordered}
use Rattle.components.proofs.Orders.{fresh_order}
use Rattle.components.proofs.ready.Order.new.Goals as goal

pub returns : goal.returns
returns c =
    let ranks : c.resize.new.self.items ≡ replicate (length c.args.callees.now) None = grind (arith, common_steps) in
    let ready : c.new.result ≡ [] = c.new.ensures in
    let watchers : c.in_ok-empty_lists.field-0 ≡ replicate (length c.args.callees.now) [] = grind (arith, common_steps) in
    subst (λ xs. Ordered c.args.callees.now xs c.new.result c.in_ok-empty_lists.field-0 c.in_ok-first_watchers.field-0 0) (sym ranks)
    (subst (λ xs. Ordered c.args.callees.now (replicate (length c.args.callees.now) None) xs c.in_ok-empty_lists.field-0 c.in_ok-first_watchers.field-0 0) (sym ready)
    (subst (λ xs. Ordered c.args.callees.now (replicate (length c.args.callees.now) None) [] xs c.in_ok-first_watchers.field-0 0) (sym watchers)
    (fresh_order c.args.callees.now c.in_ok-first_watchers.field-0 c.in_ok-first_watchers.ensures)))
