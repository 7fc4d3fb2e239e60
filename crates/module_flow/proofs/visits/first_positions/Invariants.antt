use Rattle.std.proofs.Common.{◌≡◌, ◌<◌, ℕ, length, slice_index}
use Rattle.module_flow.proofs.visits.first_positions.Given as goal

abbrev pub invariant-loop-position : goal.invariant-loop-position
invariant-loop-position l = record {
  many : length l.positions ≡ l.position;
  each : (q : ℕ) → q < l.position → slice_index l.positions q ≡ q;
}
