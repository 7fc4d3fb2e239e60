use Rattle.std.proofs.Common.{◌≡◌, ℕ, ◌-◌, ◌<◌, ◌≤◌, map, slice_get}
use Rattle.core_scope.specs.Checked.{module_of}
use Rattle.core_scope.proofs.sets.first_of_name.Given as goal

abbrev pub invariant-loop-at : goal.invariant-loop-at
invariant-loop-at g l = record {
  within : l.at ≤ l.second;
  apart : (i : ℕ) → i < l.at → slice_get (map (λ s. (module_of (g.S.AsChecked.stands_for s)).name) l.sources) i ≡ slice_get (map (λ s. (module_of (g.S.AsChecked.stands_for s)).name) l.sources) l.second → ⊥;
}

abbrev pub decreases-loop-at : goal.decreases-loop-at
decreases-loop-at g l = l.second - l.at
