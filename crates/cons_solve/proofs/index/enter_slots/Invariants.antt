use Rattle.std.proofs.Common.{◌∷◌, drop}
use Rattle.cons_tree.specs.Frames.{IsNone}
use Rattle.cons_solve.specs.steps.Positions.{Grown}
use Rattle.cons_solve.proofs.index.enter_slots.Given as goal

abbrev pub invariant-loop-slot : goal.invariant-loop-slot
invariant-loop-slot l = Grown (λ s. IsNone s (drop l.slot-index l.others) → IsNone s (l.first ∷ l.others)) l.member l.fn.namings l.namings
