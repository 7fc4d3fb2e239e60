use Rattle.std.proofs.Common.{◌≡◌, drop}
use Rattle.cons_tree.specs.Callees.{found}
use Rattle.comp_rounds.specs.Parts.{with_listed}
use Rattle.comp_rounds.proofs.component.enter_listed.Given as goal

abbrev pub invariant-loop-at : goal.invariant-loop-at
invariant-loop-at l = with_listed (found l.known) (drop l.at l.listed) (drop l.at l.summaries) ≡ with_listed (found l.fn.known) l.listed l.summaries
