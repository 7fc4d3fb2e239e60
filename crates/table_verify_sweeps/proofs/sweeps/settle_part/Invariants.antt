use Rattle.std.proofs.Common.{◌≡◌}
use Rattle.cons_tree.specs.Constraints.{only}
use Rattle.cons_tree.specs.Trails.{Trailed}
use Rattle.cons_solve.specs.Environments.{ranks, solution}
use Rattle.table_verify_sweeps.proofs.sweeps.settle_part.Given as goal

abbrev pub invariant-turns : goal.invariant-turns
invariant-turns l = record {
  same : solution (only l.part) l.slots.types ≡ solution (only l.part) l.initial.slots.types;
  trailed : Trailed l.initial.slots l.slots;
}

abbrev pub decreases-turns : goal.decreases-turns
decreases-turns l = ranks l.slots.types
