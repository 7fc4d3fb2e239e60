use Rattle.std.proofs.Common.{◌≡◌, drop}
use Rattle.cons_tree.specs.Narrowing.{each_typed}
use Rattle.cons_tree.specs.Trails.{Trailed}
use Rattle.cons_tree.proofs.slots.Slots.lower_each.Given as goal

abbrev pub invariant-loop-at : goal.invariant-loop-at
invariant-loop-at l = record {
  rest : each_typed (drop l.at l.slots) (drop l.at l.types) l.self.types ≡ each_typed l.slots l.types l.initial.self.types;
  trailed : Trailed l.initial.self l.self;
}
