use Rattle.std.proofs.Common.{◌≡◌, ◌++◌, take, drop}
use Rattle.type_kinds_sets.specs.Ascending.{placed}
use Rattle.type_kinds_sets.specs.Names.{name_cmp}
use Rattle.type_kinds_sets.proofs.atom_set.position_of.Given as goal

-- the atom goes behind those so far
abbrev pub invariant-loop-at : goal.invariant-loop-at
invariant-loop-at l = placed name_cmp l.atom l.atoms ≡ take l.at l.atoms ++ placed name_cmp l.atom (drop l.at l.atoms)
