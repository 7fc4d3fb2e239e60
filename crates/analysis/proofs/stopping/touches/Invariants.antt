use Rattle.std.proofs.Common.{◌≡◌, drop}
use Rattle.table_keep.specs.Lists.{member_names}
use Rattle.table_keep.specs.Model.{entries_so, sources_so}
use Rattle.sound_laws_kept.specs.Waves.{touches}
use Rattle.analysis.proofs.stopping.touches.Given as goal

abbrev pub invariant-loop-member : goal.invariant-loop-member
invariant-loop-member l =
    touches (entries_so l.table) (sources_so l.sources) l.todo (member_names l.members)
    ≡ touches (entries_so l.table) (sources_so l.sources) l.todo (member_names (drop l.member-index l.members))
