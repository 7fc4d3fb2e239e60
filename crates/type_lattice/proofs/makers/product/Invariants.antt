use Rattle.std.proofs.Common.{◌≡◌, map, take}
use Rattle.type_lattice_trees.specs.View.{Fits, row_view, EachNode}
use Rattle.type_lattice.proofs.makers.product.Given as goal

abbrev pub invariant-loop-t : goal.invariant-loop-t
invariant-loop-t l = record { rows : row_view 4 l.row ≡ map (λ t. t.ty) (take l.t-index l.types); each : EachNode (Fits 4) l.row }
