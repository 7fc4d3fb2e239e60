use Rattle.std.proofs.Common.{◌≡◌, drop}
use Rattle.cons_tree.specs.Callees.{found}
use Rattle.comp_rounds.specs.Parts.{with_inputs}
use Rattle.comp_rounds.proofs.component.enter_inputs.Given as goal

abbrev pub invariant-loop-at : goal.invariant-loop-at
invariant-loop-at l = with_inputs (found l.known) (drop l.at l.callees) (drop l.at l.inputs) ≡ with_inputs (found l.fn.known) l.callees l.inputs
