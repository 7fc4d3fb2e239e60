use Rattle.std.proofs.Common.{◌≡◌, take, length}
use Rattle.comp_rounds.proofs.constraints.+same.Given as goal

abbrev pub invariant-all_same-loop-at : goal.invariant-all_same-loop-at
invariant-all_same-loop-at l = (take l.at l.a ≡ take l.at l.b) × (length l.a ≡ length l.b)
