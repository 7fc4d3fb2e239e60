use Rattle.std.proofs.Common.{◌≡◌, ◌++◌, replicate}
use Rattle.cons_tree.proofs.slots.add_each.Given as goal

abbrev pub invariant-loop : goal.invariant-loop
invariant-loop l = l.types ≡ l.initial.types ++ replicate l.counter l.ty
