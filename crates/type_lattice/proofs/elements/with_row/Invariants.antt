use Rattle.std.proofs.Common.{◌≡◌, suc, drop}
use Rattle.type_lattice_model.specs.Elements.{at_positions, with_elements}
use Rattle.type_lattice_trees.specs.View.{view, row_view, Fits}
use Rattle.type_lattice.proofs.elements.with_row.Given as goal

abbrev pub invariant-loop-at : goal.invariant-loop-at
invariant-loop-at l = record {
  fits : Fits 4 l.joined;
  value : with_elements 3 (view 4 l.joined) (at_positions l.positions (suc l.at) (row_view 3 (drop l.at l.row))) ≡ with_elements 3 (view 4 l.fn.t) (at_positions l.positions 1 (row_view 3 l.row));
}
