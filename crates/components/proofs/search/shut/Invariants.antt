use Rattle.components.specs.steps.Search.{Closes}
use Rattle.components.proofs.search.shut.Given as goal

abbrev pub invariant-loop-position : goal.invariant-loop-position
invariant-loop-position l = Closes l.fn.states.items l.states.items l.path l.first l.position l.number
