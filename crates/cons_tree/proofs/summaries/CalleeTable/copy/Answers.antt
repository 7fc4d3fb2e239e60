use Rattle.std.proofs.Common.{◌≡◌, ◌-◌, ◌<◌, ◌≤◌, suc, length, ap, ◌∙◌, arith}
use Rattle.cons_tree.proofs.CopyLaws.{none_in, one_in, all_in}
use Rattle.cons_tree.proofs.summaries.CalleeTable.copy.Goals as goal

pub loop-at-init : goal.loop-at-init
loop-at-init c =
    let es = c.args.self.now in
    let len : c.len-at.result ≡ length es.0 = c.len-at.ensures.len ∙ ap (λ t. length t.0) c.self.view_is in
    let within : length es.0 ≤ c.len-at.result = omega arith in
    record { within = omega arith; says = none_in es c.of_rest-copy.result c.len-at.result within (λ f. c.of_rest-copy.ensures f ∙ c.in_ok-rest.ensures ∙ ap (λ t. t.1) c.self.view_is) }

pub loop-at-preserved : goal.loop-at-preserved
loop-at-preserved c =
    let es = c.args.self.now in
    let i = c.loop-at.at - 1 in
    let after : c.loop-at.at ≡ suc i = omega arith in
    let within : i < length es.0 = omega arith in
    record {
      within = omega arith;
      says = one_in es c.loop-at.copy c.set_entry.new.self i c.loop-at.at after within c.in-Ok.ensures c.loop-at.invariant.says;
    }

pub returns : goal.returns
returns c =
    let none : c.loop-at.at ≡ 0 = omega arith in all_in c.args.self.now c.loop-at.copy c.loop-at.at none c.loop-at.invariant.says
