use Rattle.std.proofs.Common.{◌≡◌, true, take}
use Rattle.std.specs.List.{list_all}
use Rattle.type_kinds_sets.specs.Names.{has}
use Rattle.type_kinds_sets.proofs.atom_set.all_in.Given as goal

-- the atoms so far are in the set
abbrev pub invariant-loop-atom : goal.invariant-loop-atom
invariant-loop-atom l = list_all (has l.set) (take l.atom-index l.atoms) ≡ true
