use Rattle.std.proofs.Common.{◌≡◌, take, map}
use Rattle.cons_solve.specs.steps.Alternatives.{raised_by}
use Rattle.table_verify_sweeps.proofs.joins.raised.Given as goal

abbrev pub invariant-loop-low : goal.invariant-loop-low
invariant-loop-low l = l.higher ≡ map (raised_by l.slots.types) (take l.low-index l.best)
