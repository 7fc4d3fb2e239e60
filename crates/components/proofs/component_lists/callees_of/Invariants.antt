use Rattle.components.specs.steps.ComponentLists.{CalleesTo}
use Rattle.components.proofs.component_lists.callees_of.Given as goal

abbrev pub invariant-loop-own : goal.invariant-loop-own
invariant-loop-own l = CalleesTo l.graph l.component_of l.lists l.own
