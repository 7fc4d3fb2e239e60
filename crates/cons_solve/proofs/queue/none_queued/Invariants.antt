use Rattle.std.proofs.Common.{◌≡◌, ℕ, false, length, get_or}
use Rattle.cons_solve.proofs.queue.none_queued.Given as goal

abbrev pub invariant-loop-at : goal.invariant-loop-at
invariant-loop-at l = record {
  long : length l.flags ≡ l._at;
  calm : (j : ℕ) → get_or l.flags j false ≡ false;
}
