use Rattle.std.proofs.Common.{◌≡◌, true, take}
use Rattle.type_kinds_sets.specs.Ascending.{is_ascending}
use Rattle.type_kinds_sets.specs.Names.{name_cmp}
use Rattle.type_kinds_sets.proofs.atom_set.ascend.Given as goal

-- those so far ascend
abbrev pub invariant-loop-at : goal.invariant-loop-at
invariant-loop-at l = is_ascending name_cmp (take l.at l.atoms) ≡ true
