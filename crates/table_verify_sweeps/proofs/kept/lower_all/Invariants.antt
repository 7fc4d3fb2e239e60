use Rattle.std.proofs.Common.{◌≡◌, length}
use Rattle.cons_tree.specs.Trails.{Trailed, Within}
use Rattle.cons_solve.specs.steps.Plans.{fallen}
use Rattle.table_verify_sweeps.proofs.kept.lower_all.Given as goal

abbrev pub invariant-loop-low : goal.invariant-loop-low
invariant-loop-low l = record {
  within : Within (length l.slots.types) l.lows;
  rest : fallen l.lows l.slots.types ≡ fallen l.initial.lows l.initial.slots.types;
  trailed : Trailed l.initial.slots l.slots;
}

abbrev pub decreases-loop-low : goal.decreases-loop-low
decreases-loop-low l = length l.lows
