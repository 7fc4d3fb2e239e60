use Rattle.std.proofs.Common.{◌+◌, ◌++◌, drop, map, ap, sym, ◌∙◌, subst, arith}
use Rattle.std.proofs.lemmas.List.{drop_all}
use Rattle.core_ast.specs.Tree.{module_tree}
use Rattle.core_scope.specs.Checked.{module_of}
use Rattle.call_graph.specs.Calls.{functions_of, module_functions}
use Rattle.call_graph.specs.Outside.{outside_of}
use Rattle.call_graph.specs.Tables.{IsTableOf}
use Rattle.call_graph.proofs.CalledFunctions.{callees_within}
use Rattle.call_graph.proofs.DistinctKeys.{modules}
use Rattle.call_graph.proofs.GraphRounds.{pairs_begin, graph_round, next_module, left_split, graph_exit, some_more, all_added}
use Rattle.call_graph.proofs.OutsideCalls.{missed_are_outside}
use Rattle.call_graph.proofs.pairs.all_calls.Goals as goal

pub loop-source-init : goal.loop-source-init
loop-source-init g c = record {
  pairs = pairs_begin c.in_ok-graph.graph c.new-walk.result.table 0 (functions_of (modules g.S.AsChecked.stands_for c.args.mods.now)) c.in_ok-graph.ensures.none;
  size = c.in_ok-graph.ensures.count ∙ c.count.ensures ∙ c.in_ok-table.ensures.count;
  next = omega arith;
  table = subst (IsTableOf (modules g.S.AsChecked.stands_for c.args.mods.now)) (sym c.new-walk.ensures.table) c.in_ok-table.ensures;
  outside = ap (λ l. l ++ map (outside_of (modules g.S.AsChecked.stands_for c.args.mods.now)) (functions_of (modules g.S.AsChecked.stands_for c.args.mods.now))) c.new-outside.ensures;
  locals = c.new-walk.ensures.locals;
}

pub add_module-requires-clause-room : goal.add_module-requires-clause-room
add_module-requires-clause-room g c =
    let is = ap module_tree (c.module.ensures ∙ ap module_of c.checked.ensures) in
    let long = left_split g.S.AsChecked.stands_for c.args.mods.now c.loop-source.source-index c.source-item.result (module_tree c.module.result.now) c.loop-source-test.true c.source-item.is is in
    let n = c.loop-source.invariant.next in
    let s = c.loop-source.invariant.size in
    omega (arith, long, n, s)

pub add_module-requires-clause-within : goal.add_module-requires-clause-within
add_module-requires-clause-within g c = λ home ts j has.
    let low = callees_within (modules g.S.AsChecked.stands_for c.args.mods.now) c.loop-source.walk.table c.loop-source.invariant.table home ts j has in
    let s = c.loop-source.invariant.size in
    omega (arith, low, s)

pub loop-source-preserved : goal.loop-source-preserved
loop-source-preserved g c =
    let is = ap module_tree (c.module.ensures ∙ ap module_of c.checked.ensures) in
    let kept = c.loop-source.invariant in
    let xs = modules g.S.AsChecked.stands_for c.args.mods.now in
    let fs = module_functions (module_tree c.module.result.now) in
    let long = left_split g.S.AsChecked.stands_for c.args.mods.now c.loop-source.source-index c.source-item.result (module_tree c.module.result.now) c.loop-source-test.true c.source-item.is is in
    record {
      pairs =
          graph_round g.S.AsChecked.stands_for c.loop-source.calls.graph c.add_module.new.calls.graph c.loop-source.walk.table c.add_module.new.walk.table c.loop-source.next c.in_ok-next.next c.args.mods.now c.loop-source.source-index
          c.source-item.result (module_tree c.module.result.now) c.loop-source-test.true
          c.source-item.is is c.in_ok-next.ensures.table c.in_ok-next.ensures.next c.in_ok-next.ensures.pairs kept.pairs;
      size = c.in_ok-next.ensures.size ∙ kept.size;
      next = let n = c.in_ok-next.ensures.next in let k = kept.next in omega (arith, long, n, k);
      table = subst (IsTableOf (modules g.S.AsChecked.stands_for c.args.mods.now)) (sym c.in_ok-next.ensures.table) kept.table;
      outside =
          some_more (outside_of xs) c.loop-source.calls.outside c.add_module.new.calls.outside (map (outside_of xs) (functions_of xs)) (functions_of (modules g.S.AsChecked.stands_for (drop c.loop-source.source-index c.args.mods.now))) fs
          (functions_of (modules g.S.AsChecked.stands_for (drop (c.loop-source.source-index + 1) c.args.mods.now)))
          (next_module g.S.AsChecked.stands_for c.args.mods.now c.loop-source.source-index c.source-item.result (module_tree c.module.result.now) c.loop-source-test.true c.source-item.is is)
          (c.in_ok-next.ensures.outside ∙ ap (λ l. c.loop-source.calls.outside ++ l) (missed_are_outside xs c.loop-source.walk.table kept.table fs)) kept.outside;
      locals = c.in_ok-next.ensures.locals;
    }

pub returns-clause-pairs : goal.returns-clause-pairs
returns-clause-pairs g c =
    graph_exit g.S.AsChecked.stands_for c.loop-source.calls.graph c.loop-source.walk.table c.loop-source.next c.args.mods.now c.loop-source.source-index
    (let t = c.loop-source-test.false in omega arith) c.loop-source.invariant.table c.loop-source.invariant.pairs

pub returns-clause-outside : goal.returns-clause-outside
returns-clause-outside g c =
    let xs = modules g.S.AsChecked.stands_for c.args.mods.now in
    let left = drop c.loop-source.source-index c.args.mods.now in
    all_added (outside_of xs) c.loop-source.calls.outside (map (outside_of xs) (functions_of xs)) (functions_of (modules g.S.AsChecked.stands_for left))
    (ap (λ l. functions_of (modules g.S.AsChecked.stands_for l)) (drop_all c.loop-source.source-index c.args.mods.now (let t = c.loop-source-test.false in omega arith))) c.loop-source.invariant.outside
