use Rattle.std.proofs.Common.{◌≡◌, drop}
use Rattle.cons_tree.specs.Callees.{found}
use Rattle.table_keep.specs.Lists.{member_names}
use Rattle.table_keep.specs.Model.{entries_so}
use Rattle.analysis.specs.steps.Entering.{with_entries_of}
use Rattle.analysis.proofs.entering.enter_group.Given as goal

abbrev pub invariant-loop-member : goal.invariant-loop-member
invariant-loop-member l =
    with_entries_of (entries_so l.table) (member_names l.members) (found l.fn.known)
    ≡ with_entries_of (entries_so l.table) (member_names (drop l.member-index l.members)) (found l.known)
