-- Heights that were worked out by hand.
use Rattle.std.proofs.Common.{◌≡◌, [], ◌∷◌, None, ◌+◌, ◌*◌, refl}
use Rattle.type_kinds_sets.specs.Names as names
use Rattle.type_kinds_sets.specs.Numbers as numbers
use Rattle.type_kinds_sets.specs.declared.bits.Bits.TheVariants.{No}
use Rattle.type_lattice_model.specs.Shapes.{no_function, product, sizes, Parts, TypeAt}
use Rattle.type_lattice_model.specs.Operations.{ops, no_flags, plain_none}
use Rattle.type_lattice_heights.specs.Heights.{tags_at, height_at}

-- Plain parts: 14 for atoms, 18 for integers, 2 for bits, 6 flags, 2 for functions. Lists: any element, and free ends. Tuples: all of
-- them, and one step for each of eight sizes, since their elements are any or nothing.
any_of_level_1 : height_at 1 (ops 1).any ≡ (14 + 18 + 2 + 6 + 2) + (1 + 1) + (1 + 8)
unfolding ops height_at tags_at
any_of_level_1 = refl

none_of_level_4 : height_at 4 (ops 4).none ≡ 0
unfolding ops height_at tags_at
none_of_level_4 = refl

-- two atoms
abbrev either_atom : names.Names
either_atom = names.some ((97 ∷ []) ∷ (98 ∷ []) ∷ []) refl

abbrev atoms : (d : names.Names) → Parts (TypeAt 0)
atoms s = record { plain = record { atoms = s; ints = numbers.none; bits = No; flags = no_flags; functions = no_function }; cell = None; tuples = sizes [] }

two_atoms : height_at 1 (atoms either_atom) ≡ 2
unfolding height_at tags_at
two_atoms = refl

-- Pairs of all atoms, in a type of level 2: after one step thirteen tags are left, each with the atoms of the second element, which go
-- one by one, and then the tag goes.
abbrev pairs : Parts (TypeAt 1)
pairs = record { plain = plain_none; cell = None; tuples = sizes ((2, product (atoms names.every ∷ atoms either_atom ∷ [])) ∷ []) }

pairs_of_atoms : height_at 2 pairs ≡ 1 + 13 * 2
unfolding height_at tags_at
pairs_of_atoms = refl
