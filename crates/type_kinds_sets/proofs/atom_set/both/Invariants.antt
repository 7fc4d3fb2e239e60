use Rattle.std.proofs.Common.{◌≡◌, ◌≤◌, take, length}
use Rattle.type_kinds_sets.specs.declared.limits.TheConstants.{MAX_MEMBERS}
use Rattle.type_kinds_sets.specs.Ascending.{merged}
use Rattle.type_kinds_sets.specs.Names.{name_cmp}
use Rattle.type_kinds_sets.proofs.atom_set.both.Given as goal

-- the first list with the atoms so far of the second
abbrev pub invariant-loop-atom : goal.invariant-loop-atom
invariant-loop-atom l = record { merged : l.out ≡ merged name_cmp l.atoms (take l.atom-index l.others); few : length l.out ≤ MAX_MEMBERS }
