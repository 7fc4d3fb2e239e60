use Rattle.std.proofs.Common.{◌≡◌, drop, map}
use Rattle.cons_tree.specs.Callees.{as_called, found}
use Rattle.table_keep.specs.Kept.{all_stand}
use Rattle.table_keep.specs.Model.{used_so}
use Rattle.table_keep.proofs.unchanged_groups.all_used_stand.Given as goal

abbrev pub invariant-loop-one : goal.invariant-loop-one
invariant-loop-one l = all_stand (λ h f. as_called (found l.known h f)) (map used_so l.used) ≡ all_stand (λ h f. as_called (found l.known h f)) (map used_so (drop l.one-index l.used))
