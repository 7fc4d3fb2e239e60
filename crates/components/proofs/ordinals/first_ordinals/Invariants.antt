use Rattle.std.proofs.Common.{◌≡◌, length}
use Rattle.components.specs.steps.Ordinals.{Labelling}
use Rattle.components.proofs.ordinals.first_ordinals.Given as goal

abbrev pub invariant-loop-component : goal.invariant-loop-component
invariant-loop-component l = Labelling l.component_of l.table.items l.ordinals l.given × (length l.ordinals ≡ l.component-index) × (length l.table.items ≡ l.count)
