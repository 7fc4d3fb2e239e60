use Rattle.std.proofs.Common.{arith}
use Rattle.components.proofs.Steps.{open_step}
use Rattle.components.proofs.search.Search.open.Goals as goal

pub returns-clause-sound : goal.returns-clause-sound
returns-clause-sound c =
    open_step c.args.graph.now c.args.self.now.states.items c.args.self.now.path _ c.args.self.now.pending.items _ c.targets.result.now c.args.self.now.blocks _ _ _ c.args.node c.len.result c.len-2.result
    c.requires.sound c.requires.node.low c.requires.node.unseen c.requires.node.reached (omega arith) (omega arith) c.in_ok-add.ensures.ok c.in_ok-add-2.ensures.ok c.in-Ok.ensures.items c.targets.ensures
