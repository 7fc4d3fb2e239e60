use Rattle.std.proofs.Common.{◌≡◌, length}
use Rattle.components.specs.steps.Order.{IsOrdered}
use Rattle.components.proofs.ready.Order.take_ready.Given as goal

abbrev pub invariant-loop-component : goal.invariant-loop-component
invariant-loop-component l = IsOrdered l.callees l.self × (l.self.ranks.items ≡ l.initial.self.ranks.items) × (l.self.again ≡ l.initial.self.again)

abbrev pub decreases-loop-component : goal.decreases-loop-component
decreases-loop-component l = length l.self.ready
