use Rattle.std.proofs.Common.{◌≡◌, take, filter}
use Rattle.type_kinds_sets.specs.Names.{has}
use Rattle.type_kinds_sets.proofs.atom_set.kept.Given as goal

-- what is kept of the atoms so far
abbrev pub invariant-loop-atom : goal.invariant-loop-atom
invariant-loop-atom l = l.out ≡ filter (has l.set) (take l.atom-index l.atoms)
