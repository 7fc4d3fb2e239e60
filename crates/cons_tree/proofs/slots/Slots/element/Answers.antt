use Rattle.std.proofs.Common.{sym, ap, ◌∙◌}
use Rattle.cons_tree.specs.declared.parts.Transfer.TheVariants.{Element}
use Rattle.cons_tree.specs.Environments.{lowered}
use Rattle.cons_tree.specs.Named.{selected}
use Rattle.cons_tree.specs.Narrowing.{transferred}
use Rattle.cons_tree.proofs.RowLaws.{of_row, element_short, element_row}
use Rattle.cons_tree.proofs.slots.Slots.element.Goals as goal

pub returns-in_default-clause-value : goal.returns-in_default-clause-value
returns-in_default-clause-value c = element_short c.args.value c.args.args.now c.args.self.now.types c.in_default.len_below

pub returns-clause-value : goal.returns-clause-value
returns-clause-value c =
    let xs = c.args.self.now.types in
    of_row c.lower_to.result (lowered xs c.args.value c.in_ok-gives.gives) (transferred Element c.args.value c.args.args.now xs) c.lower_to.new.self.types
    (element_row c.args.value c.args.args.now xs c.in-len2-up.len_at_least ∙ ap (lowered xs c.args.value) (sym (c.in_ok-gives.ensures ∙ (λ i. selected (c.at.ensures i) (c.at-2.ensures i)))))
    c.lower_to.ensures.value
