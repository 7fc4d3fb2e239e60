use Rattle.call_graph.proofs.Built.{functions_round}
use Rattle.call_graph.proofs.table.FunctionTable.add_functions.Goals as goal

pub loop-def-preserved : goal.loop-def-preserved
loop-def-preserved c =
    functions_round c.loop-def.self c.add.new.self c.args.self.now c.args.home.now c.args.exports.now c.args.defs.now c.loop-def.def-index c.def-item.result c.get.result.now c.has-exported.result c.loop-def-test.true c.def-item.is
    c.get.ensures c.has-exported.ensures c.in_ok-add.ensures.functions
    c.in_ok-add.ensures.count c.in_ok-add.ensures.modules c.loop-def.invariant
