use Rattle.std.proofs.Common.{◌≡◌, true, map, take}
use Rattle.type_kinds_sets.specs.Ascending.{is_ascending}
use Rattle.type_kinds_sets.specs.Names.{name_cmp}
use Rattle.type_bytes.proofs.reading.tags_ascend.Given as goal

-- the atoms so far ascend
abbrev pub invariant-loop-at : goal.invariant-loop-at
invariant-loop-at l = is_ascending name_cmp (take l.at (map (λ t. t.atom) l.list)) ≡ true
