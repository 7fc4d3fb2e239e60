use Rattle.std.proofs.Common.{◌≡◌, take, length}
use Rattle.comp_rounds.proofs.constraints.same_types.Given as goal

abbrev pub invariant-loop-at : goal.invariant-loop-at
invariant-loop-at l = (take l.at l.a ≡ take l.at l.b) × (length l.a ≡ length l.b)
