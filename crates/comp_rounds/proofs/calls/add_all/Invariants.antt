use Rattle.std.proofs.Common.{◌↔◌, ℕ, ◌⊎◌, Contains, take}
use Rattle.comp_rounds.proofs.calls.add_all.Given as goal

abbrev pub invariant-loop-number : goal.invariant-loop-number
invariant-loop-number l = (i : ℕ) → Contains l.numbers.keys i ↔ (Contains l.fn.numbers.keys i ⊎ Contains (take l.number-index l.more) i)
