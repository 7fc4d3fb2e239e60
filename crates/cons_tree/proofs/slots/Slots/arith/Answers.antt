use Rattle.cons_tree.specs.declared.parts.Transfer.TheVariants.{Arith}
use Rattle.cons_tree.specs.Environments.{lowered}
use Rattle.cons_tree.specs.Narrowing.{transferred}
use Rattle.cons_tree.proofs.RowLaws.{of_row, arith_row}
use Rattle.cons_tree.proofs.slots.Slots.arith.Goals as goal

pub returns-clause-value : goal.returns-clause-value
returns-clause-value c =
    let xs = c.args.self.now.types in
    of_row c.lower_to.result (lowered xs c.args.value c.in_ok-gives.gives) (transferred Arith c.args.value c.args.args.now xs) c.lower_to.new.self.types
    (arith_row c.args.value c.args.args.now xs c.all_integers-integers.result c.in_ok-some_float.some_float c.integer_type.result c.in_ok-gives.gives c.all_integers-integers.ensures c.in_ok-some_float.ensures c.integer_type.ensures
    c.in_ok-gives.ensures)
    c.lower_to.ensures.value
