use Rattle.std.proofs.Common.{◌≡◌, ◌+◌, length, drop}
use Rattle.cons_tree.specs.Narrowing.{each_projected}
use Rattle.cons_tree.specs.Trails.{Trailed}
use Rattle.cons_tree.proofs.slots.Slots.lower_elements.Given as goal

abbrev pub invariant-loop-at : goal.invariant-loop-at
invariant-loop-at l = record {
  rest : each_projected l.tuple (length l.slots) (l.at + 1) (drop l.at l.slots) l.self.types ≡ each_projected l.tuple (length l.slots) 1 l.slots l.initial.self.types;
  trailed : Trailed l.initial.self l.self;
}
