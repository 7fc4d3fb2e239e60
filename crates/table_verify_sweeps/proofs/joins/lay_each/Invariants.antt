use Rattle.std.proofs.Common.{length}
use Rattle.cons_tree.specs.Trails.{laid, Trailed}
use Rattle.cons_solve.proofs.LowLaws.{Applying}
use Rattle.table_verify_sweeps.proofs.joins.lay_each.Given as goal

abbrev pub invariant-loop-low : goal.invariant-loop-low
invariant-loop-low l = record {
  applying : Applying l.lows l.slots.types (laid l.initial.lows l.initial.slots.types);
  trailed : Trailed l.initial.slots l.slots;
}

abbrev pub decreases-loop-low : goal.decreases-loop-low
decreases-loop-low l = length l.lows
