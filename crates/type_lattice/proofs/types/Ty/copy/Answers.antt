use Rattle.type_lattice.specs.Types.{same_type}
use Rattle.type_lattice.proofs.types.Ty.copy.Goals as goal

pub returns : goal.returns
returns c = same_type _ _ (rw (← c.self.view_is, ← c.in_ok-copy.ensures) c.of_node.ensures)
