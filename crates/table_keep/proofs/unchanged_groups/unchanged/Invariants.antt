use Rattle.std.proofs.Common.{◌≡◌, drop}
use Rattle.cons_tree.specs.Callees.{as_called, found}
use Rattle.table_keep.specs.Kept.{all_unchanged}
use Rattle.table_keep.specs.Lists.{member_names}
use Rattle.table_keep.specs.Model.{entries_so, sources_so}
use Rattle.table_keep.proofs.unchanged_groups.unchanged.Given as goal

abbrev pub invariant-loop-member : goal.invariant-loop-member
invariant-loop-member l =
    all_unchanged (entries_so l.table) (sources_so l.sources) (member_names l.members) (λ h f. as_called (found l.known h f)) (member_names l.members)
    ≡ all_unchanged (entries_so l.table) (sources_so l.sources) (member_names l.members) (λ h f. as_called (found l.known h f)) (member_names (drop l.member-index l.members))
