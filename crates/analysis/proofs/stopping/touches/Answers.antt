use Rattle.std.proofs.Common.{sym}
use Rattle.analysis.proofs.stopping.touches.Goals as goal

pub calls_any-requires : goal.calls_any-requires
calls_any-requires c = c.requires c.member-item.result (c.loop-member.member-index, c.loop-member-test.true, sym c.member-item.is)

pub uses_any-requires : goal.uses_any-requires
uses_any-requires c =
    let m = c.requires c.member-item.result (c.loop-member.member-index, c.loop-member-test.true, sym c.member-item.is) in
    record { within = m.entry_within; is = m.entry_is }
