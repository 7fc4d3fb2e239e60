use Rattle.std.proofs.Common.{◌≡◌, []}
use Rattle.std.specs.Prelude.{sum_by}
use Rattle.components.specs.steps.Order.{IsOrdered, unranked}
use Rattle.components.proofs.ready.ready_order.Given as goal

abbrev pub invariant-loop-component : goal.invariant-loop-component
invariant-loop-component l = IsOrdered l.callees l.order × (l.order.again ≡ [])

abbrev pub decreases-loop-component : goal.decreases-loop-component
decreases-loop-component l = sum_by unranked l.order.ranks.items
