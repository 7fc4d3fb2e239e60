use Rattle.std.proofs.Common.{◌∷◌, ◌++◌, [], take, refl, sym, ap, ◌∙◌, subst, arith}
use Rattle.std.proofs.lemmas.List.{take_all, take_more}
use Rattle.fun_flow_numbers.specs.steps.Numbering.{IsNumbering, first_rule}
use Rattle.fun_flow_numbers.proofs.Bounds.{below}
use Rattle.fun_flow_numbers.proofs.Simulation.{are_sets}
use Rattle.fun_flow_numbers.proofs.sets.function_sets.Goals as goal

pub loop-rule-init : goal.loop-rule-init
loop-rule-init c = c.in_ok-numbering.ensures c.args.table.now

pub loop-rule-preserved : goal.loop-rule-preserved
loop-rule-preserved c =
    subst (λ l. IsNumbering c.args.table.now (first_rule ∷ l) c.add.new.self)
    (sym (take_more c.args.rules.now c.loop-rule.rule-index c.rule-item.result c.loop-rule-test.true ∙ ap (λ x. take c.loop-rule.rule-index c.args.rules.now ++ x ∷ []) (sym c.rule-item.is)))
    (c.in_ok-add.ensures (first_rule ∷ take c.loop-rule.rule-index c.args.rules.now) c.loop-rule.invariant)

pub solve-requires-clause-below : goal.solve-requires-clause-below
solve-requires-clause-below c =
    below c.args.table.now (first_rule ∷ take c.loop-rule.rule-index c.args.rules.now) c.loop-rule.numbering c.in-Ok.count
    (omega (arith, c.len.ensures.count, c.max.ensures, c.max-most.ensures, c.in-Ok.ensures)) (omega (arith, c.len-2.ensures.count, c.max.ensures, c.max-most.ensures, c.in-Ok.ensures)) c.loop-rule.invariant

pub returns : goal.returns
returns c = λ U apart of all.
    are_sets U apart c.args.table.now of c.args.rules.now all c.loop-rule.numbering
    (subst (λ l. IsNumbering c.args.table.now (first_rule ∷ l) c.loop-rule.numbering) (take_all c.loop-rule.rule-index c.args.rules.now (let t = c.loop-rule-test.false in omega arith)) c.loop-rule.invariant)
    c.len.ensures.once c.len-2.ensures.once (record { places = c.loop-rule.numbering.places; items = c.loop-rule.numbering.items; sets = c.in_ok-sets.sets }) refl refl c.in_ok-sets.ensures
