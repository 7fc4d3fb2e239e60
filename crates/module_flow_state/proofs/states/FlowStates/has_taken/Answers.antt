use Rattle.std.proofs.Common.{sym, ap, ◌∙◌}
use Rattle.module_flow_state.proofs.Positions.{within_kept}
use Rattle.module_flow_state.proofs.TakenBefore.{kept_nowhere, kept_there}
use Rattle.module_flow_state.specs.steps.Placing.{position_of}
use Rattle.module_flow_state.proofs.states.FlowStates.has_taken.Goals as goal

pub at-requires : goal.at-requires
at-requires c = within_kept c.self.inside.functions c.args.self.now c.in-Some.position c.self.view_is c.in-Some.ensures.within

pub returns-in-Some : goal.returns-in-Some
returns-in-Some c = λ told k.
    kept_there k c.self.inside.functions c.args.self.now c.args.contribution.now c.in-Some.position c.at.result.now c.self.view_is
    (c.in-Some.ensures.there ∙ ap (position_of c.args.self.now) c.label.ensures) c.at.ensures (c.has_taken.ensures told)

pub returns-in-None : goal.returns-in-None
returns-in-None c = λ told k. kept_nowhere k c.args.self.now c.args.contribution.now (ap (position_of c.args.self.now) (sym c.label.ensures) ∙ sym c.position.ensures.there ∙ c.in-None.is)
