-- Values that are applied in runs.
use Rattle.std.specs.Prelude.{ℕ}
use Rattle.type_lattice_model.specs.Values.{Value, Values}
use Rattle.core_meaning.specs.Meaning.{Apply, Outcome, Trace}
use Rattle.core_meaning.specs.Programs.{Program}
use Rattle.core_meaning.specs.Runs.{Eval, IsOutside}

-- a value is applied to some arguments, at a stage and with some fuel
abbrev pub ApplyAt : Program → (stage fuel : ℕ) → Value → Values → Outcome → Trace → Type 0
ApplyAt U k n = Apply U (λ v. IsOutside U k v) (Eval U k n)
