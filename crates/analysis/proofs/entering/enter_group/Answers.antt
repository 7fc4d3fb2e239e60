use Rattle.std.proofs.Common.{sym}
use Rattle.analysis.proofs.entering.enter_group.Goals as goal

pub enter_member-requires : goal.enter_member-requires
enter_member-requires c = c.requires c.member-item.result (c.loop-member.member-index, c.loop-member-test.true, sym c.member-item.is)
