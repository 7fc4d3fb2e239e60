use Rattle.std.proofs.Common.{◌≡◌, drop}
use Rattle.comp_rounds.specs.Signatures.{are_below}
use Rattle.comp_rounds.proofs.signatures.types_below.Given as goal

abbrev pub invariant-loop-at : goal.invariant-loop-at
invariant-loop-at l = are_below (drop l.at l.left) (drop l.at l.right) ≡ are_below l.left l.right
