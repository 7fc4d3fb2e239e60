use Rattle.std.proofs.Common.{◌≡◌, true, map, take}
use Rattle.std.specs.Ordering.{nat_cmp}
use Rattle.type_kinds_sets.specs.Ascending.{is_ascending}
use Rattle.type_bytes.proofs.reading.sizes_ascend.Given as goal

-- the sizes so far ascend
abbrev pub invariant-loop-at : goal.invariant-loop-at
invariant-loop-at l = is_ascending nat_cmp (take l.at (map (λ s. s.size) l.list)) ≡ true
