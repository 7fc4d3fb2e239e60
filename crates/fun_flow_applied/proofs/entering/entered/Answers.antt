use Rattle.std.proofs.Common.{◌≡◌, ◌∙◌, ◌++◌, Some, [], ap, arith, subst}
use Rattle.std.specs.List.{All, cons_option, filter_map}
use Rattle.std.proofs.lemmas.List.{get_or_default, take_all}
use Rattle.fun_flow_numbers.specs.Held.{item_at}
use Rattle.fun_flow_places.specs.declared.places.Item.TheVariants.{Anything}
use Rattle.fun_flow_applied.specs.steps.Entering.{item_in}
use Rattle.fun_flow_applied.proofs.Entered.{entered_anything, entered_only, is_none, number_in, passed_round}
use Rattle.fun_flow_applied.proofs.Filtered.{kept_round}
use Rattle.fun_flow_applied.proofs.entering.entered.Goals as goal

pub returns-then-anything : goal.returns-then-anything
returns-then-anything c =
    let xs = c.held-held.result.now in
    let i = c.loop-number.number-index in
    entered_anything c.args.texts.now c.args.sets.now c.args.operator.now c.args.arity xs i _ c.item.result c.in_ok-anything.anything c.held-held.ensures c.loop-number-test.true
    (get_or_default xs i _ _ c.loop-number-test.true) c.item.ensures
    c.in_ok-anything.ensures.anything c.if-anything.true

pub loop-number-preserved : goal.loop-number-preserved
loop-number-preserved c =
    let xs = c.held-held.result.now in
    let i = c.loop-number.number-index in (
      kept_round (number_in c.args.texts.now c.args.sets.now c.args.arity) xs i _ c.loop-number.found.items c.add_item.new.found.items c.loop-number-test.true (get_or_default xs i _ _ c.loop-number-test.true) c.loop-number.invariant.0
          (c.in_ok-anything.ensures.adds ∙ ap (λ o. c.loop-number.found.items ++ cons_option (item_in c.args.texts.now c.args.arity o) []) c.item.ensures),
      passed_round (λ x. item_at c.args.sets.now x ≡ Some Anything → ⊥) xs i _ c.loop-number-test.true (get_or_default xs i _ _ c.loop-number-test.true) c.loop-number.invariant.1
          (is_none c.args.sets.now _ c.item.result c.in_ok-anything.anything c.item.ensures c.in_ok-anything.ensures.anything c.if-anything.false),
    )

pub returns : goal.returns
returns c =
    let whole = take_all c.loop-number.number-index c.held-held.result.now (let t = c.loop-number-test.false in omega arith) in
    entered_only c.args.texts.now c.args.sets.now c.args.operator.now c.args.arity c.held-held.result.now c.held-held.ensures c.loop-number.found.items c.ascending.result
    (c.loop-number.invariant.0 ∙ ap (filter_map (number_in c.args.texts.now c.args.sets.now c.args.arity)) whole) (subst (All (λ x. item_at c.args.sets.now x ≡ Some Anything → ⊥)) whole c.loop-number.invariant.1)
    c.ascending.ensures.ascending c.ascending.ensures.same
