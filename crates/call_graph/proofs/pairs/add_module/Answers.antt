use Rattle.std.proofs.Common.{◌≡◌, ◌↔◌, ◌+◌, ◌++◌, Contains, length, drop, map, ap, ◌∙◌, subst, arith}
use Rattle.std.proofs.lemmas.List.{drop_all}
use Rattle.type_kinds.proofs.Truths.{both_ways}
use Rattle.core_ast.specs.Tree.{all_defs, module_tree, tree}
use Rattle.call_graph.specs.Targets.{targets}
use Rattle.call_graph.specs.Calls.{functions_in, module_functions}
use Rattle.call_graph.specs.steps.Walking.{callees, missed_in}
use Rattle.call_graph.proofs.GraphRounds.{WithPairs, all_added, body_callees, body_missed, function_at, left_longer, module_round, next_function, none_left, one_more}
use Rattle.call_graph.proofs.pairs.add_module.Goals as goal

pub add_pairs-requires-clause-from : goal.add_pairs-requires-clause-from
add_pairs-requires-clause-from c =
    let source = c.args.source.now in
    let long = left_longer source.name source.exports c.as_slice-defs.result.now c.loop-def.def-index c.def-item.result c.loop-def-test.true c.def-item.is in
    let whole : length (functions_in source.name source.exports (all_defs c.as_slice-defs.result.now)) ≡ length (module_functions (module_tree source)) =
    ap (λ ds. length (functions_in source.name source.exports (all_defs ds))) c.as_slice-defs.ensures in
    let k = c.loop-def.invariant.caller in
    let s = c.loop-def.invariant.size in
    let r = c.requires.room in
    omega (arith, long, whole, k, s, r)

pub add_pairs-requires-clause-within : goal.add_pairs-requires-clause-within
add_pairs-requires-clause-within c = λ j has.
    let w = c.loop-def.walk in
    let ts = targets w.locals (tree c.get.result.now) in
    let found : c.as_slice.result.now ≡ callees c.args.walk.now.table w.home ts = c.as_slice.ensures ∙ ap (λ v. v.callees) c.in_ok-walk_body.ensures ∙ ap (λ t. callees t w.home ts) c.loop-def.invariant.table in
    let low = c.requires.within w.home ts j (subst (λ l. Contains l j) found has) in
    let s = c.loop-def.invariant.size in
    omega (arith, low, s)

pub overflow_add-caller : goal.overflow_add-caller
overflow_add-caller c =
    let source = c.args.source.now in
    let long = left_longer source.name source.exports c.as_slice-defs.result.now c.loop-def.def-index c.def-item.result c.loop-def-test.true c.def-item.is in
    let whole : length (functions_in source.name source.exports (all_defs c.as_slice-defs.result.now)) ≡ length (module_functions (module_tree source)) =
    ap (λ ds. length (functions_in source.name source.exports (all_defs ds))) c.as_slice-defs.ensures in
    let k = c.loop-def.invariant.caller in
    let r = c.requires.room in
    let f = c.requires.few in
    omega (arith, long, whole, k, r, f)

pub loop-def-preserved : goal.loop-def-preserved
loop-def-preserved c =
    let source = c.args.source.now in
    let w = c.loop-def.walk in
    let kept = c.loop-def.invariant in
    let found = body_callees w c.walk_body.new.walk c.args.walk.now.table source.name source.exports c.def-item.result c.get-def.result.now c.get.result.now c.as_slice.result.now kept.table kept.home kept.locals c.get-def.ensures
    c.get.ensures c.in_ok-walk_body.ensures c.as_slice.ensures in
    let missed = body_missed w c.walk_body.new.walk c.args.walk.now.table source.name source.exports c.def-item.result c.get-def.result.now c.get.result.now c.take_outside.result kept.table kept.locals c.get-def.ensures c.get.ensures
    c.in_ok-walk_body.ensures c.take_outside.ensures.result in
    let long = left_longer source.name source.exports c.as_slice-defs.result.now c.loop-def.def-index c.def-item.result c.loop-def-test.true c.def-item.is in
    record {
      pairs =
          module_round c.loop-def.calls.graph c.add_pairs.new.graph c.args.calls.now.graph c.args.walk.now.table c.loop-def.caller c.args.first source.name source.exports c.as_slice-defs.result.now c.loop-def.def-index c.def-item.result
          c.as_slice.result.now c.loop-def-test.true c.def-item.is found
          c.in_ok-add_pairs.ensures.pairs kept.pairs;
      size = c.in_ok-add_pairs.ensures.size ∙ kept.size;
      caller = let k = kept.caller in omega (arith, long, k);
      table = ap (λ v. v.table) c.take_outside.ensures.rest ∙ ap (λ v. v.table) c.in_ok-walk_body.ensures ∙ kept.table;
      home = ap (λ v. v.home) c.take_outside.ensures.rest ∙ ap (λ v. v.home) c.in_ok-walk_body.ensures ∙ kept.home;
      outside =
          one_more (missed_in c.args.walk.now.table) c.loop-def.calls.outside c.add.new.self (c.args.calls.now.outside ++ map (missed_in c.args.walk.now.table) (functions_in source.name source.exports (all_defs c.as_slice-defs.result.now)))
          (functions_in source.name source.exports (all_defs (drop c.loop-def.def-index c.as_slice-defs.result.now))) (functions_in source.name source.exports (all_defs (drop (c.loop-def.def-index + 1) c.as_slice-defs.result.now)))
          (function_at source.name source.exports c.def-item.result) c.take_outside.result
          (next_function source.name source.exports c.as_slice-defs.result.now c.loop-def.def-index c.def-item.result c.loop-def-test.true c.def-item.is) missed c.in_ok-add.ensures.ok kept.outside;
      locals = ap (λ v. v.locals) c.take_outside.ensures.rest ∙ ap (λ v. v.locals) c.in_ok-walk_body.ensures ∙ kept.locals;
    }

pub returns-clause-next : goal.returns-clause-next
returns-clause-next c =
    let source = c.args.source.now in
    let none : length (functions_in source.name source.exports (all_defs (drop c.loop-def.def-index c.as_slice-defs.result.now))) ≡ 0 =
    ap (λ ds. length (functions_in source.name source.exports (all_defs ds))) (drop_all c.loop-def.def-index c.as_slice-defs.result.now (let t = c.loop-def-test.false in omega arith)) in
    let whole : length (functions_in source.name source.exports (all_defs c.as_slice-defs.result.now)) ≡ length (module_functions (module_tree source)) =
    ap (λ ds. length (functions_in source.name source.exports (all_defs ds))) c.as_slice-defs.ensures in
    let k = c.loop-def.invariant.caller in
    omega (arith, none, whole, k)

pub returns-clause-pairs : goal.returns-clause-pairs
returns-clause-pairs c =
    let source = c.args.source.now in
    let table = c.args.walk.now.table in
    let defs = c.as_slice-defs.result.now in
    let left = functions_in source.name source.exports (all_defs (drop c.loop-def.def-index defs)) in
    λ i j.
    both_ways
    (none_left c.loop-def.calls.graph table c.loop-def.caller left i j (ap (λ ds. functions_in source.name source.exports (all_defs ds)) (drop_all c.loop-def.def-index defs (let t = c.loop-def-test.false in omega arith))))
    (subst (λ ds. WithPairs c.loop-def.calls.graph table c.loop-def.caller left i j ↔ WithPairs c.args.calls.now.graph table c.args.first (functions_in source.name source.exports (all_defs ds)) i j) c.as_slice-defs.ensures
    (c.loop-def.invariant.pairs i j))

pub returns-clause-outside : goal.returns-clause-outside
returns-clause-outside c =
    let source = c.args.source.now in
    let table = c.args.walk.now.table in
    let defs = c.as_slice-defs.result.now in
    all_added (missed_in table) c.loop-def.calls.outside (c.args.calls.now.outside ++ map (missed_in table) (functions_in source.name source.exports (all_defs defs)))
    (functions_in source.name source.exports (all_defs (drop c.loop-def.def-index defs)))
    (ap (λ ds. functions_in source.name source.exports (all_defs ds)) (drop_all c.loop-def.def-index defs (let t = c.loop-def-test.false in omega arith))) c.loop-def.invariant.outside
    ∙ ap (λ ds. c.args.calls.now.outside ++ map (missed_in table) (functions_in source.name source.exports (all_defs ds))) c.as_slice-defs.ensures
