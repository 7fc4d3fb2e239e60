use Rattle.std.proofs.Common.{◌≡◌, map, drop}
use Rattle.std.specs.List.{list_all}
use Rattle.cons_tree.specs.Environments.{type_at}
use Rattle.cons_tree.specs.Named.{has_integer}
use Rattle.cons_tree.proofs.slots.Slots.all_integers.Given as goal

abbrev pub invariant-loop-at : goal.invariant-loop-at
invariant-loop-at l = list_all has_integer (map (type_at l.self.types) (drop l.at l.slots)) ≡ list_all has_integer (map (type_at l.self.types) l.slots)
