use Rattle.std.proofs.Common.{ap, ◌∙◌}
use Rattle.module_flow_state.specs.steps.Placing.{position_of}
use Rattle.module_flow_state.proofs.Positions.{position_fits}
use Rattle.module_flow_state.proofs.states.FlowStates.position.Goals as goal

pub returns-clause-within : goal.returns-clause-within
returns-clause-within c =
    position_fits c.args.self.now c.args.label c.copied.result (c.copied.ensures ∙ c.get.ensures.value ∙ c.self.invariant c.args.label ∙ ap (λ fs. position_of fs c.args.label) c.self.view_is)
