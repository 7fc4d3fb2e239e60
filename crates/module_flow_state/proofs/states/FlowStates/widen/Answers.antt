use Rattle.std.proofs.Common.{sym, ap, ◌∙◌}
use Rattle.module_flow_state.specs.States.{widened_one}
use Rattle.module_flow_state.proofs.Positions.{changed_none, changed_told, label_told, placed_change, within_kept}
use Rattle.module_flow_state.proofs.states.FlowStates.widen.Goals as goal

pub returns-in_default : goal.returns-in_default
returns-in_default c = sym (changed_none c.args.self.now c.args.old.now.label (λ n. widened_one c.args.old.now n) (sym c.position.ensures.there ∙ c.in_default.is))

pub at-requires : goal.at-requires
at-requires c = within_kept c.self.inside.functions c.args.self.now c.in-Some.position c.self.view_is c.in-Some.ensures.within

pub replace-requires : goal.replace-requires
replace-requires c = within_kept c.self.inside.functions c.args.self.now c.in-Some.position c.self.view_is c.in-Some.ensures.within

pub invariant_of-self : goal.invariant_of-self
invariant_of-self c =
    placed_change c.self.inside.functions c.replace.new.self c.in-Some.position c.at.result.now c.in_ok-wide.wide c.self.inside.positions.entries c.self.invariant c.at.ensures
    (ap (λ f. f.label) c.in_ok-wide.ensures ∙ sym (label_told c.self.inside.functions c.args.self.now c.args.old.now.label c.in-Some.position c.at.result.now c.self.view_is c.in-Some.ensures.there c.at.ensures))
    c.replace.ensures.after

pub returns : goal.returns
returns c =
    changed_told c.self.inside.functions c.args.self.now c.replace.new.self c.args.old.now.label c.in-Some.position
    (λ n. widened_one c.args.old.now n) c.at.result.now c.in_ok-wide.wide c.self.view_is c.in-Some.ensures.there c.at.ensures c.in_ok-wide.ensures c.replace.ensures.after
