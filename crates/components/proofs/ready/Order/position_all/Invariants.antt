use Rattle.std.proofs.Common.{◌≡◌, length}
use Rattle.components.specs.steps.Order.{IsOrdered}
use Rattle.components.proofs.ready.Order.position_all.Given as goal

abbrev pub invariant-loop-looking : goal.invariant-loop-looking
invariant-loop-looking l = IsOrdered l.callees l.self × (l.self.ranks.items ≡ l.initial.self.ranks.items)

abbrev pub decreases-loop-looking : goal.decreases-loop-looking
decreases-loop-looking l = length l.self.again
