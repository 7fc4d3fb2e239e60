use Rattle.std.proofs.Common.{inl, inr, is_some, length, refl, ap, ◌∙◌}
use Rattle.core_scope.specs.Asks.{function_name}
use Rattle.warn_list.specs.declared.finding.FindingKind.TheVariants.{DeadCall}
use Rattle.warn_list.specs.declared.finding.CallText.TheVariants.{Remote}
use Rattle.module_flow_calls.specs.Calls.{called}
use Rattle.module_flow_state.specs.World.{lenient}
use Rattle.module_flow_state.specs.steps.Walking.{world_of}
use Rattle.module_flow_state.proofs.WalkSteps.{dead_not_reported, dead_returns, remote_reported}
use Rattle.module_flow_state.proofs.walk.FlowWalk.report_dead_call.Goals as goal
use Rattle.module_flow_state.proofs.walk.FlowWalk.report_dead_call.Goals.{then-not-self-via-then-not-self, then-not-self-via-else-not-self+then-around}

pub returns-then-not-self : goal.returns-then-not-self
returns-then-not-self c =
    dead_not_reported c.args.self.now c.args.around c.args.mark.now (DeadCall (Remote c.args.home.now (function_name c.args.name.now (length c.args.types.now))))
    (called (lenient (world_of c.args.context.now)) c.args.home.now c.args.name.now c.args.types.now)
    (elim c.then-not-self.branch [ then-not-self-via-then-not-self w ↦ inl w.if-not-self.true | then-not-self-via-else-not-self+then-around w ↦ inr w.if-around.true ])

pub returns-then-is_some : goal.returns-then-is_some
returns-then-is_some c =
    dead_returns c.args.self.now c.is_some.result (called (lenient (world_of c.args.context.now)) c.args.home.now c.args.name.now c.args.types.now) _
    (c.is_some.ensures ∙ ap (λ g. is_some g) (c.in_ok-given.ensures (lenient (world_of c.args.context.now)) refl refl)) c.if-is_some.true

pub returns : goal.returns
returns c =
    remote_reported c.report.result c.args.self.now c.report.new.self c.args.around c.args.mark.now c.args.home.now c.args.name.now c.in_ok-home.home (length c.args.types.now) c.in_ok-function.function c.is_some.result
    (called (lenient (world_of c.args.context.now)) c.args.home.now c.args.name.now c.args.types.now)
    c.in_ok-home.ensures c.in_ok-function.ensures (c.is_some.ensures ∙ ap (λ g. is_some g) (c.in_ok-given.ensures (lenient (world_of c.args.context.now)) refl refl)) c.if-is_some.false c.report.ensures
