use Rattle.std.proofs.Common.{◌≡◌, drop}
use Rattle.table_keep.specs.Lists.{member_names}
use Rattle.table_keep.specs.Model.{entries_so, sources_so}
use Rattle.sound_laws_kept.specs.Waves.{all_may_stand}
use Rattle.analysis.proofs.stopping.all_may_stand.Given as goal

abbrev pub invariant-loop-member : goal.invariant-loop-member
invariant-loop-member l =
    all_may_stand (entries_so l.table) (sources_so l.sources) (member_names l.members) (member_names l.members)
    ≡ all_may_stand (entries_so l.table) (sources_so l.sources) (member_names l.members) (member_names (drop l.member-index l.members))
