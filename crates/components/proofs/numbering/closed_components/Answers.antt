use Rattle.components.proofs.numbering.closed_components.Goals as goal

pub unreachable-requires : goal.unreachable-requires
unreachable-requires c =
    let closed = c.requires c.loop-state.state-index c.loop-state-test.true in
    c.in_default.not-Closed closed.0 closed.1
