use Rattle.std.proofs.Common.{◌≡◌, ◌++◌, drop}
use Rattle.table_keep.specs.Lists.{member_names}
use Rattle.analysis.proofs.waves.push_names.Given as goal

abbrev pub invariant-loop-member : goal.invariant-loop-member
invariant-loop-member l = l.names ++ member_names (drop l.member-index l.members) ≡ l.fn.names ++ member_names l.members
