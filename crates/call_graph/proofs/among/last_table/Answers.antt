use Rattle.std.proofs.Common.{◌+◌, map, take, ap, arith}
use Rattle.call_graph.proofs.Lasts.{finds_all, finds_none, finds_step, placed_more}
use Rattle.call_graph.proofs.among.last_table.Goals as goal

pub loop-function-init : goal.loop-function-init
loop-function-init g c = finds_none c.new-table.result c.new-table.ensures.modules c.new-table.ensures.functions c.new-table.ensures.count

pub loop-function-preserved : goal.loop-function-preserved
loop-function-preserved g c =
    let v = g.S.AsFunction.stands_for in
    let xs = c.args.functions.now in
    let i = c.loop-function.function-index in
    finds_step c.loop-function.table c.add_exported.new.self (map v (take i xs)) (map v (take (i + 1) xs)) (v c.function-item.result) c.module_name.result.now c.definition.result.now.name
    (placed_more v xs i c.function-item.result c.loop-function-test.true c.function-item.is) c.module_name.ensures (ap (λ d. d.name) c.definition.ensures)
    c.in_ok-add_exported.ensures.functions c.in_ok-add_exported.ensures.count c.in_ok-add_exported.ensures.modules c.loop-function.invariant

pub returns : goal.returns
returns g c =
    finds_all g.S.AsFunction.stands_for c.loop-function.table c.args.functions.now c.loop-function.function-index (let t = c.loop-function-test.false in omega arith) c.loop-function.invariant
