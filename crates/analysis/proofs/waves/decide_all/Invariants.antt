use Rattle.std.proofs.Common.{◌≡◌, ◌-◌, length}
use Rattle.cons_tree.specs.Callees.{found}
use Rattle.table_keep.specs.Groups.{groups_in}
use Rattle.table_keep.specs.Lists.{lists_of}
use Rattle.table_keep.specs.Model.{entries_so, sources_so}
use Rattle.analysis.specs.Keeping.{AreKeptOf}
use Rattle.analysis.specs.steps.Deciding.{IsDecided}
use Rattle.analysis.proofs.waves.decide_all.Given as goal

abbrev pub decreases-loop-next : goal.decreases-loop-next
decreases-loop-next g l = length (lists_of l.list) - l.next

abbrev pub invariant-loop-next : goal.invariant-loop-next
invariant-loop-next g l = record {
  places : length l.kept ≡ length l.fn.kept;
  kept : AreKeptOf (sources_so l.sources) l.kept;
  decided : IsDecided (entries_so l.table) (sources_so l.sources) (groups_in (lists_of l.list)) l.next (found l.decided.known) l.decided.changed l.decided.lines;
}
