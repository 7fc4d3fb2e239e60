use Rattle.std.proofs.Common.{◌≡◌, length, map}
use Rattle.cons_tree.specs.Callees.{found}
use Rattle.comp_rounds.specs.Members.{function_of}
use Rattle.comp_rounds.specs.Rounds.{after_rounds, with_signatures}
use Rattle.comp_rounds.specs.Turns.{AllWithin, AreSettled}
use Rattle.comp_rounds.proofs.rounds.settle.Given as goal

-- the signatures are those after `round` rounds, by which the members are known, and settled but for those that are due
abbrev pub invariant-loop-round : goal.invariant-loop-round
invariant-loop-round l = record {
  rounds : l.signatures ≡ after_rounds (found l.fn.known) (map function_of l.members) l.round;
  known : found l.known ≡ with_signatures (found l.fn.known) (map function_of l.members) l.signatures;
  settled : AreSettled (found l.known) (map function_of l.members) l.signatures l.due;
  within : AllWithin l.due (length l.members);
}
