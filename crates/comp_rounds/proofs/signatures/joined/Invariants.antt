use Rattle.std.proofs.Common.{◌≡◌, ◌++◌, drop}
use Rattle.comp_rounds.specs.Signatures.{joins}
use Rattle.comp_rounds.proofs.signatures.joined.Given as goal

abbrev pub invariant-loop-at : goal.invariant-loop-at
invariant-loop-at l = l.types ++ joins (drop l.at l.left) (drop l.at l.right) ≡ joins l.left l.right
