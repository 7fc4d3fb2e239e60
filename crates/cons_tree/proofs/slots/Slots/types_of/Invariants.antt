use Rattle.std.proofs.Common.{◌≡◌, map, take}
use Rattle.cons_tree.specs.Environments.{type_at}
use Rattle.cons_tree.proofs.slots.Slots.types_of.Given as goal

abbrev pub invariant-loop-slot : goal.invariant-loop-slot
invariant-loop-slot l = l.types ≡ map (type_at l.self.types) (take l.slot-index l.slots)
