use Rattle.std.proofs.Common.{take}
use Rattle.cons_tree.specs.Callees.{found}
use Rattle.table_keep.specs.Lists.{member_names}
use Rattle.table_keep.specs.Model.{entries_so, sources_so}
use Rattle.analysis.specs.steps.Adding.{Adds}
use Rattle.analysis.specs.steps.Keyed.{entry_at}
use Rattle.analysis.proofs.new_table.add_group.Given as goal

abbrev pub invariant-loop-member : goal.invariant-loop-member
invariant-loop-member l =
    Adds (entries_so l.kept) (sources_so l.sources) (found l.decided.known) l.decided.lines (member_names l.members) (member_names (take l.member-index l.members)) (entry_at l.fn.entries.by_name) (entry_at l.entries.by_name)
