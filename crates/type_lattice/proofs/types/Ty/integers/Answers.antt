use Rattle.std.proofs.Common.{arith}
use Rattle.type_kinds_sets.specs.Numbers as numbers
use Rattle.type_lattice.specs.Types.{HasType}
use Rattle.type_lattice.specs.Elements.{ints_of}
use Rattle.type_lattice.proofs.TypeModels.{any_tree, parts_tree}
use Rattle.type_lattice.proofs.types.Ty.integers.Goals as goal

pub returns-in-Any : goal.returns-in-Any
unfolding HasType ints_of numbers.range
returns-in-Any c = grind (arith, any_tree)

pub returns-in-Of : goal.returns-in-Of
unfolding HasType ints_of
returns-in-Of c = grind (arith, parts_tree)
