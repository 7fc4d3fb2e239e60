use Rattle.std.proofs.Common.{ℕ, ◌<◌, Contains, length, take}
use Rattle.components.specs.Graph.{Leads}
use Rattle.comp_rounds.proofs.calls.callers_of.Given as goal

abbrev pub invariant-loop-function : goal.invariant-loop-function
invariant-loop-function l = record {
  all : (i j : ℕ) → Contains (take l.function-index l.functions) j → Leads l.callers j i → Contains l.found.keys i;
  within : (i : ℕ) → Contains l.found.keys i → i < length l.callers;
}
