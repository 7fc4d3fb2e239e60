use Rattle.std.proofs.Common.{sym, ap, ◌∙◌}
use Rattle.module_flow_state.specs.States.{returning}
use Rattle.module_flow_state.proofs.Positions.{changed_none, changed_told, placed_change, unchanged_told, within_kept}
use Rattle.module_flow_state.proofs.states.FlowStates.give.Goals as goal

pub returns-in_default-clause-after : goal.returns-in_default-clause-after
returns-in_default-clause-after c = sym (changed_none c.args.self.now c.args.label (λ f. returning f c.args.ty.now) (sym c.position.ensures.there ∙ c.in_default.is))

pub at-function-requires : goal.at-function-requires
at-function-requires c = within_kept c.self.inside.functions c.args.self.now c.in-Some.position c.self.view_is c.in-Some.ensures.within

pub returns-then-is_same-clause-after : goal.returns-then-is_same-clause-after
returns-then-is_same-clause-after c =
    unchanged_told c.self.inside.functions c.args.self.now c.args.label c.in-Some.position
    (λ f. returning f c.args.ty.now) c.at-function.result.now c.in_ok-returning.returning c.is_same.result c.self.view_is c.in-Some.ensures.there c.at-function.ensures c.in_ok-returning.ensures c.is_same.ensures c.if-is_same.true

pub replace-requires : goal.replace-requires
replace-requires c = within_kept c.self.inside.functions c.args.self.now c.in-Some.position c.self.view_is c.in-Some.ensures.within

pub invariant_of-self : goal.invariant_of-self
invariant_of-self c =
    placed_change c.self.inside.functions c.replace.new.self c.in-Some.position c.at-function.result.now c.in_ok-returning.returning c.self.inside.positions.entries c.self.invariant c.at-function.ensures
    (ap (λ f. f.label) c.in_ok-returning.ensures) c.replace.ensures.after

pub returns-clause-after : goal.returns-clause-after
returns-clause-after c =
    changed_told c.self.inside.functions c.args.self.now c.replace.new.self c.args.label c.in-Some.position
    (λ f. returning f c.args.ty.now) c.at-function.result.now c.in_ok-returning.returning c.self.view_is c.in-Some.ensures.there c.at-function.ensures c.in_ok-returning.ensures c.replace.ensures.after
