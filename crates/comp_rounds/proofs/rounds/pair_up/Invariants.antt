use Rattle.std.proofs.Common.{◌≡◌, ◌++◌, drop}
use Rattle.comp_rounds.specs.Rounds.{paired}
use Rattle.comp_rounds.proofs.rounds.pair_up.Given as goal

abbrev pub invariant-loop-at : goal.invariant-loop-at
invariant-loop-at l = l.list ++ paired (drop l.at l.strict) (drop l.at l.lenient) ≡ paired l.strict l.lenient
