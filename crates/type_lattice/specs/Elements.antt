-- The integers of a type, and the elements of its tuples.
use Rattle.type_kinds_sets.specs.Numbers.{Numbers}
use Rattle.type_lattice_model.specs.Elements as levels
use Rattle.type_lattice_model.proofs.ElementLaws.{elements-normal}
use Rattle.type_lattice.specs.Types.{Type4}

unfoldable pub ints_of : Type4 → Numbers
ints_of t = t.ty.plain.ints

-- the join of the elements at the positions in a set, the first at 1, over all sizes; any for all tuples
unfoldable pub elements_at : Type4 → Numbers → Type4
elements_at t s = record { ty = levels.elements_at 3 t.ty s; normal = elements-normal 3 t.ty t.normal s }
