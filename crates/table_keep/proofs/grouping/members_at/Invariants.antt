use Rattle.std.proofs.Common.{take}
use Rattle.table_keep.specs.steps.Members.{AreMembers}
use Rattle.table_keep.proofs.grouping.members_at.Given as goal

abbrev pub invariant-loop-place : goal.invariant-loop-place
invariant-loop-place l = AreMembers l.found.entries (take l.place-index l.places) l.members
