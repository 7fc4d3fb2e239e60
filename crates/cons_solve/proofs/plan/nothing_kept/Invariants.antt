use Rattle.std.proofs.Common.{◌≡◌, ℕ, [], Some, length, get_or}
use Rattle.cons_solve.proofs.plan.nothing_kept.Given as goal

abbrev pub invariant-loop-at : goal.invariant-loop-at
invariant-loop-at l = record {
  long : length l.kept ≡ l._at;
  empty : (i : ℕ) → get_or l.kept i (Some []) ≡ Some [];
}
