use Rattle.std.proofs.Common.{◌≡◌, map, drop}
use Rattle.std.specs.List.{list_any}
use Rattle.cons_tree.specs.Environments.{type_at}
use Rattle.cons_tree.specs.Named.{has_float}
use Rattle.cons_tree.proofs.slots.Slots.any_float.Given as goal

abbrev pub invariant-loop-at : goal.invariant-loop-at
invariant-loop-at l = list_any has_float (map (type_at l.self.types) (drop l.at l.slots)) ≡ list_any has_float (map (type_at l.self.types) l.slots)
