use Rattle.std.proofs.Common.{sym, ◌∙◌}
use Rattle.module_flow_state.proofs.Positions.{placed_there, placed_more}
use Rattle.module_flow_state.proofs.states.FlowStates.add.Goals as goal

pub invariant_of-self-then-contains_key : goal.invariant_of-self-then-contains_key
invariant_of-self-then-contains_key c =
    placed_there c.self.inside.functions c.add.new.self c.args.function c.self.inside.positions.entries c.self.invariant (sym c.if-contains_key.true ∙ c.contains_key.ensures) c.in_ok-add.ensures.ok

pub invariant_of-self-in-Ok : goal.invariant_of-self-in-Ok
invariant_of-self-in-Ok c =
    placed_more c.self.inside.functions c.add.new.self c.args.function c.len-position.result c.self.inside.positions.entries c.insert.new.self.entries c.self.invariant
    (sym c.if-contains_key.false ∙ c.contains_key.ensures) c.len-position.ensures c.in-Ok.ensures.updates.0 c.in_ok-add.ensures.ok
