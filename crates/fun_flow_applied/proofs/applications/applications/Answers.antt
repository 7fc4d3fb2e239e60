use Rattle.std.proofs.Common.{◌∙◌, ap, arith, rules}
use Rattle.std.proofs.lemmas.Fn.{dedup_same}
use Rattle.std.proofs.lemmas.List.{take_all}
use Rattle.std.proofs.lemmas.List.Sorted.{answers_always}
use Rattle.std.specs.List.{filter_map}
use Rattle.std.specs.List.Sorted.{IsSorted}
use Rattle.fun_flow_applied.specs.declared.applications.AppliedValue.{AppliedValue}
use Rattle.fun_flow_applied.specs.steps.Applications.{application_cmp, application_in}
use Rattle.fun_flow_applied.proofs.ApplicationOrder.{in_order, same_place}
use Rattle.fun_flow_applied.proofs.Filtered.{kept_round}
use Rattle.fun_flow_applied.proofs.applications.applications.Goals as goal

pub loop-rule-preserved : goal.loop-rule-preserved
loop-rule-preserved c =
    kept_round (application_in c.args.modules) c.args.rules.now c.loop-rule.rule-index c.rule-item.result c.loop-rule.found.items c.add_application.new.found.items c.loop-rule-test.true
    c.rule-item.is c.loop-rule.invariant c.in_ok-add_application.ensures

pub returns : goal.returns
returns c =
    let all = c.loop-rule.invariant ∙ ap (filter_map (application_in c.args.modules)) (take_all c.loop-rule.rule-index c.args.rules.now (let t = c.loop-rule-test.false in omega arith)) in
    let up : IsSorted application_cmp c.sort_unstable_by_key.new.self.items = c.sort_unstable_by_key.ensures.sorted (λ (a : AppliedValue). (a.«module», a.label)) (answers_always _ _ _ (λ a r g k h. search rules)) in
    in_order c.args.modules c.args.rules.now c.loop-rule.found.items c.sort_unstable_by_key.new.self.items c.dedup_by_key.new.self.items all c.sort_unstable_by_key.ensures.permutation up
    (dedup_same _ same_place _ (λ x y b f' x' y' k. search rules) _ _ c.dedup_by_key.ensures.filtered)
