use Rattle.std.proofs.Common.{◌≡◌, take}
use Rattle.type_kinds_sets.proofs.atom_set.copied.Given as goal

-- the atoms so far
abbrev pub invariant-loop-atom : goal.invariant-loop-atom
invariant-loop-atom l = l.out ≡ take l.atom-index l.atoms
