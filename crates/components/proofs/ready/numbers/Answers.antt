use Rattle.components.proofs.ready.numbers.Goals as goal

pub unreachable-requires : goal.unreachable-requires
unreachable-requires c =
    let ranked = c.requires c.loop-rank.rank-index c.loop-rank-test.true in
    c.in_default.not-Some ranked.0 ranked.1
