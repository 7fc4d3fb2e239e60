use Rattle.std.proofs.Common.{sym, ap, ◌∙◌}
use Rattle.cons_tree.specs.declared.parts.Transfer.TheVariants.{Abs}
use Rattle.cons_tree.specs.Environments.{lowered}
use Rattle.cons_tree.specs.Named.{absolute}
use Rattle.cons_tree.specs.Narrowing.{transferred}
use Rattle.cons_tree.proofs.RowLaws.{of_row, abs_short, abs_row}
use Rattle.cons_tree.proofs.slots.Slots.abs.Goals as goal

pub returns-in_default-clause-value : goal.returns-in_default-clause-value
returns-in_default-clause-value c = abs_short c.args.value c.args.args.now c.args.self.now.types c.in_default.len_below

pub returns-clause-value : goal.returns-clause-value
returns-clause-value c =
    let xs = c.args.self.now.types in
    of_row c.lower_to.result (lowered xs c.args.value c.in_ok-gives.gives) (transferred Abs c.args.value c.args.args.now xs) c.lower_to.new.self.types
    (abs_row c.args.value c.args.args.now xs c.in-len1-up.len_at_least ∙ ap (lowered xs c.args.value) (sym (c.in_ok-gives.ensures ∙ ap absolute c.at.ensures)))
    c.lower_to.ensures.value
