use Rattle.std.proofs.Common.{ap, ◌∙◌, arith}
use Rattle.core_ast.specs.Tree.{module_tree}
use Rattle.core_scope.specs.Checked.{module_of}
use Rattle.call_graph.proofs.Built.{sources_round, sources_exit}
use Rattle.call_graph.proofs.table.function_table.Goals as goal

pub loop-source-preserved : goal.loop-source-preserved
loop-source-preserved g c =
    sources_round g.S.AsChecked.stands_for c.loop-source.table c.add_module.new.self c.args.mods.now c.loop-source.source-index c.source-item.result (module_tree c.module.result.now) c.loop-source-test.true c.source-item.is
    (ap module_tree (c.module.ensures ∙ ap module_of c.checked.ensures)) c.in_ok-add_module.ensures.functions c.in_ok-add_module.ensures.modules c.loop-source.invariant

pub returns : goal.returns
returns g c = sources_exit g.S.AsChecked.stands_for c.loop-source.table c.args.mods.now c.loop-source.source-index (let t = c.loop-source-test.false in omega arith) c.requires.distinct c.loop-source.invariant
