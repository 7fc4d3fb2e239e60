use Rattle.std.proofs.Common.{ℕ, ◌<◌, Contains}
use Rattle.comp_rounds.proofs.calls.all_numbers.Given as goal

abbrev pub invariant-loop-number : goal.invariant-loop-number
invariant-loop-number l = record {
  all : (i : ℕ) → i < l.number → Contains l.list i;
  within : (i : ℕ) → Contains l.list i → i < l.number;
}
