use Rattle.std.proofs.Common.{sym, ap, ◌∙◌}
use Rattle.cons_tree.specs.Environments.{lowered}
use Rattle.cons_tree.specs.Narrowing.{transferred}
use Rattle.cons_tree.proofs.RowLaws.{of_row}
use Rattle.cons_tree.proofs.slots.Slots.transfer.Goals as goal

pub returns-in-Plain-clause-value : goal.returns-in-Plain-clause-value
unfolding transferred
returns-in-Plain-clause-value c =
    let xs = c.args.self.now.types in
    of_row c.lower_shared.result (lowered xs c.args.value c.in-Plain.ty) (transferred c.args.transfer.now c.args.value c.args.args.now xs) c.lower_shared.new.self.types
    (ap (λ f. transferred f c.args.value c.args.args.now xs) c.in-Plain.is) c.lower_shared.ensures.value

pub returns-in-Never-clause-value : goal.returns-in-Never-clause-value
unfolding transferred
returns-in-Never-clause-value c =
    let xs = c.args.self.now.types in
    of_row c.lower_to.result (lowered xs c.args.value c.none.result) (transferred c.args.transfer.now c.args.value c.args.args.now xs) c.lower_to.new.self.types
    (ap (λ f. transferred f c.args.value c.args.args.now xs) c.in-Never.is ∙ ap (lowered xs c.args.value) (sym c.none.ensures.value)) c.lower_to.ensures.value
