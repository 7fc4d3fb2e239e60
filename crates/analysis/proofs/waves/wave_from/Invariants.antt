use Rattle.cons_tree.specs.Callees.{found}
use Rattle.table_keep.specs.Groups.{groups_in}
use Rattle.table_keep.specs.Lists.{lists_of}
use Rattle.table_keep.specs.Model.{entries_so, sources_so}
use Rattle.analysis.proofs.Waving.{InWave}
use Rattle.analysis.proofs.waves.wave_from.Given as goal

abbrev pub invariant-loop-group : goal.invariant-loop-group
invariant-loop-group l =
    InWave (entries_so l.table) (sources_so l.sources) (groups_in (lists_of l.list)) l.first (found l.fn.known) l.fn.changed l.group (found l.known) l.todo l.changed
