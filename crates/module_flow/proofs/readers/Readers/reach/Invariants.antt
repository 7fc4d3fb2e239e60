use Rattle.std.proofs.Common.{◌≡◌, ◌+◌, ℕ, length}
use Rattle.module_flow.specs.steps.Readers.{readers}
use Rattle.module_flow.proofs.readers.Readers.reach.Given as goal

abbrev pub invariant-loop-at : goal.invariant-loop-at
invariant-loop-at l = record {
  same : (k : ℕ) → readers l.self.table k ≡ readers l.fn.self.table k;
  long : length l.self.table ≡ length l.fn.self.table + l._at;
}
