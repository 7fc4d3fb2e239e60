use Rattle.std.proofs.Common.{ℕ, ◌-◌, ◌<◌, ◌≤◌, length, map}
use Rattle.core_scope.specs.Checked.{module_of}
use Rattle.core_scope.specs.Sets.{StandsEarlier}
use Rattle.core_scope.proofs.sets.check_set.Given as goal

abbrev pub invariant-loop-second : goal.invariant-loop-second
invariant-loop-second g l = record {
  within : l.second ≤ length l.sources;
  none : (j : ℕ) → j < l.second → StandsEarlier (map (λ s. (module_of (g.S.AsChecked.stands_for s)).name) l.sources) j → ⊥;
}

abbrev pub decreases-loop-second : goal.decreases-loop-second
decreases-loop-second g l = length l.sources - l.second
