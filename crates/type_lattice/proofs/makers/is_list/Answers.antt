use Rattle.std.proofs.Common.{arith}
use Rattle.type_lattice_trees.proofs.Views.{no_sizes}
use Rattle.type_lattice.proofs.TypeModels.{any_tree, parts_tree}
use Rattle.type_lattice.proofs.makers.is_list.Goals as goal
use Rattle.type_lattice.proofs.makers.is_list.Goals.{in-Some+else-not-cell, in_default-cell}

pub returns-in_default : goal.returns-in_default
returns-in_default c = rw (c.in_default.is, any_tree) (grind arith)

pub returns-in_default-tuples : goal.returns-in_default-tuples
returns-in_default-tuples c = rw (c.in-Of.is, parts_tree, c.in_default-tuples.is) (grind arith)

pub returns-then-not-is_empty : goal.returns-then-not-is_empty
returns-then-not-is_empty c =
    let empty = no_sizes 3 c.in-Sizes.sizes c.is_empty.result c.is_empty.ensures in
    rw (c.in-Of.is, parts_tree, c.in-Sizes.is, ← empty, c.if-not-is_empty.true) (grind arith)

pub returns-then-not-cell : goal.returns-then-not-cell
returns-then-not-cell c = rw (c.in-Of.is, parts_tree, c.in-Some.is, c.if-not-cell.true) (grind arith)

pub returns : goal.returns
returns c =
    let empty = no_sizes 3 c.in-Sizes.sizes c.is_empty.result c.is_empty.ensures in
    rw (c.is_nil_at_most.ensures, c.in-Of.is, parts_tree, c.in-Sizes.is) (elim c.match-parts-2.branch [
      | in-Some+else-not-cell w ↦ rw (w.in-Some.is, w.if-not-cell.false, ← empty, c.if-not-is_empty.false) (grind arith)
      | in_default-cell w ↦ rw (w.in_default-cell.is, ← empty, c.if-not-is_empty.false) (grind arith)
    ])
