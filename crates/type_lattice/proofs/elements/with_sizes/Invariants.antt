use Rattle.std.proofs.Common.{◌≡◌, drop}
use Rattle.type_lattice_model.specs.Elements.{sizes_at, with_elements}
use Rattle.type_lattice_model.specs.Operations.{ops}
use Rattle.type_lattice_trees.specs.View.{view, sizes_view, Fits}
use Rattle.type_lattice.proofs.elements.with_sizes.Given as goal

abbrev pub invariant-loop-size : goal.invariant-loop-size
invariant-loop-size l = record {
  fits : Fits 4 l.t;
  value : with_elements 3 (view 4 l.t) (sizes_at (ops 3) l.positions (sizes_view 3 (drop l.size-index l.sizes))) ≡ with_elements 3 (ops 4).none (sizes_at (ops 3) l.positions (sizes_view 3 l.sizes));
}
