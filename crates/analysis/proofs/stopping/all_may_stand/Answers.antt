use Rattle.std.proofs.Common.{sym}
use Rattle.analysis.proofs.stopping.all_may_stand.Goals as goal

pub may_stand-requires : goal.may_stand-requires
may_stand-requires c = c.requires c.member-item.result (c.loop-member.member-index, c.loop-member-test.true, sym c.member-item.is)
