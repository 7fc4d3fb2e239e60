use Rattle.std.proofs.Common.{◌≡◌, ℕ, drop}
use Rattle.std.specs.Ordering.{nat_cmp}
use Rattle.type_lattice_model.specs.Tables.{find}
use Rattle.type_lattice_trees.specs.View.{sizes_view}
use Rattle.type_lattice_trees.proofs.node.find_size.Given as goal

abbrev pub invariant-loop-other : goal.invariant-loop-other
invariant-loop-other l = (d : ℕ) → find nat_cmp (sizes_view d l.sizes) l.size ≡ find nat_cmp (sizes_view d (drop l.other-index l.sizes)) l.size
