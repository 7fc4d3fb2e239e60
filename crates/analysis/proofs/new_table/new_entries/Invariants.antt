use Rattle.cons_tree.specs.Callees.{found}
use Rattle.table_keep.specs.Groups.{groups_in}
use Rattle.table_keep.specs.Lists.{lists_of}
use Rattle.table_keep.specs.Model.{entries_so, sources_so}
use Rattle.analysis.specs.steps.Adding.{AreAdded}
use Rattle.analysis.specs.steps.Keyed.{entry_at}
use Rattle.analysis.proofs.new_table.new_entries.Given as goal

abbrev pub invariant-loop-group : goal.invariant-loop-group
invariant-loop-group l =
    AreAdded (entries_so l.kept) (sources_so l.sources) (found l.decided.known) l.decided.lines (groups_in (lists_of l.list)) l.group (entry_at l.entries.by_name)
