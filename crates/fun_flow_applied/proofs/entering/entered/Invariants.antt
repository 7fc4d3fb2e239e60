use Rattle.std.proofs.Common.{◌≡◌, Some, take}
use Rattle.std.specs.List.{All, filter_map}
use Rattle.fun_flow_numbers.specs.Held.{item_at}
use Rattle.fun_flow_places.specs.declared.places.Item.TheVariants.{Anything}
use Rattle.fun_flow_applied.proofs.Entered.{number_in}
use Rattle.fun_flow_applied.proofs.entering.entered.Given as goal

abbrev pub invariant-loop-number : goal.invariant-loop-number
invariant-loop-number l =
    (l.found.items ≡ filter_map (number_in l.texts l.sets l.arity) (take l.number-index l.held)) × All (λ x. item_at l.sets x ≡ Some Anything → ⊥) (take l.number-index l.held)
