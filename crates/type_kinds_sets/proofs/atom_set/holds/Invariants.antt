use Rattle.std.proofs.Common.{◌≡◌, false, take}
use Rattle.type_kinds_sets.specs.Ascending.{has_item}
use Rattle.type_kinds_sets.specs.Names.{name_cmp}
use Rattle.type_kinds_sets.proofs.atom_set.holds.Given as goal

-- none of the atoms so far is it
abbrev pub invariant-loop-other : goal.invariant-loop-other
invariant-loop-other l = has_item name_cmp (take l.other-index l.atoms) l.atom ≡ false
