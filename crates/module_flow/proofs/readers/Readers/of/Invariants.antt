use Rattle.std.proofs.Common.{ℕ, take}
use Rattle.std.specs.List.{Contains}
use Rattle.module_flow.specs.steps.Readers.{readers}
use Rattle.module_flow.proofs.readers.Readers.of.Given as goal

abbrev pub invariant-loop-label : goal.invariant-loop-label
invariant-loop-label l =
    (k q : ℕ) → Contains (take l.label-index l.labels) k → Contains (readers l.self.table k) q → Contains l.positions q
