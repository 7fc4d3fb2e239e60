use Rattle.components.specs.steps.Order.{FirstWatchers}
use Rattle.components.proofs.ready.first_watchers.Given as goal

abbrev pub invariant-loop-component : goal.invariant-loop-component
invariant-loop-component l = FirstWatchers l.watchers l.component
