use Rattle.std.proofs.Common.{length, map, take}
use Rattle.cons_tree.specs.Callees.{found}
use Rattle.comp_rounds.specs.Members.{function_of}
use Rattle.comp_rounds.specs.Rounds.{strict_pass}
use Rattle.comp_rounds.specs.Turns.{AllWithin, AreTurned, DifferAt}
use Rattle.comp_rounds.proofs.rounds.one_round.Given as goal

abbrev pub invariant-loop-number : goal.invariant-loop-number
invariant-loop-number l = record {
  turned : AreTurned (strict_pass (found l.known)) l.round (map function_of l.members) l.fn.signatures l.signatures (take l.number-index l.due);
  changed : DifferAt l.changed l.fn.signatures l.signatures;
  within : AllWithin l.changed (length l.members);
}
