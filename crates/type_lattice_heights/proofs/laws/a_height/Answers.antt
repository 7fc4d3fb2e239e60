use Rattle.type_lattice_heights.proofs.Chains.{height_is}
use Rattle.type_lattice_heights.specs.Heights.{height}
use Rattle.type_lattice_heights.proofs.laws.a_height.Goals as goal

pub returns-clause-is : goal.returns-clause-is
returns-clause-is c = height_is

pub returns-clause-some : goal.returns-clause-some
returns-clause-some c = λ t. (height t, height_is t)
