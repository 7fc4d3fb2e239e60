use Rattle.std.proofs.Common.{◌≡◌, drop, map}
use Rattle.cons_tree.specs.Callees.{found}
use Rattle.comp_rounds.specs.Members.{function_of}
use Rattle.comp_rounds.specs.Rounds.{with_summaries}
use Rattle.comp_rounds.specs.Takes.{AllTake}
use Rattle.comp_rounds.proofs.entering.enter_summaries.Given as goal

abbrev pub invariant-loop-at : goal.invariant-loop-at
invariant-loop-at l = record {
  known : with_summaries (found l.known) (map function_of (drop l.at l.members)) (drop l.at l.summaries) ≡ with_summaries (found l.fn.known) (map function_of l.members) l.summaries;
  take : AllTake (map function_of (drop l.at l.members)) (drop l.at l.summaries);
}
