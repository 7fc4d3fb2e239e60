use Rattle.std.proofs.Common.{sym, ◌∙◌}
use Rattle.module_flow_state.proofs.Positions.{parameters_none, parameters_told, within_kept}
use Rattle.module_flow_state.proofs.states.FlowStates.parameters.Goals as goal

pub at-requires : goal.at-requires
at-requires c = within_kept c.self.inside.functions c.args.self.now c.in-Some.position c.self.view_is c.in-Some.ensures.within

pub returns-in-Some : goal.returns-in-Some
returns-in-Some c =
    parameters_told c.self.inside.functions c.args.self.now c.args.label c.in-Some.position c.at.result.now c.as_ref.result c.self.view_is c.in-Some.ensures.there c.at.ensures c.as_ref.ensures.value

pub returns-in-None : goal.returns-in-None
returns-in-None c = parameters_none c.args.self.now c.args.label (sym c.position.ensures.there ∙ c.in-None.is)
