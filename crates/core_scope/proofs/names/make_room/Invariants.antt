use Rattle.std.proofs.Common.{◌≡◌, ℕ, ◌+◌, ◌-◌, ◌≤◌, ◌<◌, length, slice_index_or}
use Rattle.core_scope.proofs.names.make_room.Given as goal

abbrev pub invariant-loop-last : goal.invariant-loop-last
invariant-loop-last l = record {
  same : (i : ℕ) → slice_index_or l.last i 0 ≡ slice_index_or l.fn.last i 0;
  longer : length l.fn.last ≤ length l.last;
  short : (n : ℕ) → length l.fn.last ≤ n → l.number < n → length l.last ≤ n;
}

abbrev pub decreases-loop-last : goal.decreases-loop-last
decreases-loop-last l = (l.number + 1) - length l.last
