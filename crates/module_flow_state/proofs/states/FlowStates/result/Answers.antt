use Rattle.std.proofs.Common.{sym, ◌∙◌}
use Rattle.module_flow_state.proofs.Positions.{result_none, result_told, within_kept}
use Rattle.module_flow_state.proofs.states.FlowStates.result.Goals as goal

pub at-requires : goal.at-requires
at-requires c = within_kept c.self.inside.functions c.args.self.now c.in-Some.position c.self.view_is c.in-Some.ensures.within

pub returns-in-Some : goal.returns-in-Some
returns-in-Some c =
    result_told c.self.inside.functions c.args.self.now c.args.label c.in-Some.position c.at.result.now c.copy.result c.self.view_is c.in-Some.ensures.there c.at.ensures c.copy.ensures

pub returns-in-None : goal.returns-in-None
returns-in-None c = c.none.ensures.value ∙ sym (result_none c.args.self.now c.args.label (sym c.position.ensures.there ∙ c.in-None.is))
