use Rattle.std.proofs.Common.{◌≡◌, length}
use Rattle.module_flow_calls.specs.TypeLists.{list_type}
use Rattle.module_flow_calls.proofs.types.list_type.Given as goal

abbrev pub invariant-loop-last : goal.invariant-loop-last
invariant-loop-last l = list_type l.rest l.list ≡ list_type l.elements l.initial.list

abbrev pub decreases-loop-last : goal.decreases-loop-last
decreases-loop-last l = length l.rest
