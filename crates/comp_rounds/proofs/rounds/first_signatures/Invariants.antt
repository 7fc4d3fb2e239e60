use Rattle.std.proofs.Common.{◌≡◌, map, take}
use Rattle.comp_rounds.specs.Members.{function_of}
use Rattle.comp_rounds.specs.Rounds.{arity}
use Rattle.comp_rounds.specs.Signatures.{nothing}
use Rattle.comp_rounds.proofs.rounds.first_signatures.Given as goal

abbrev pub invariant-loop-member : goal.invariant-loop-member
invariant-loop-member l = l.signatures ≡ map (λ g. nothing (arity g)) (map function_of (take l.member-index l.members))
