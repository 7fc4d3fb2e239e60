use Rattle.std.proofs.Common.{drop, ap, arith}
use Rattle.std.proofs.lemmas.List.{drop_all}
use Rattle.core_ast.specs.Tree.{all_defs}
use Rattle.cons_tree.specs.Callees.{found}
use Rattle.module_flow_calls.specs.Unknown.{def_namings}
use Rattle.module_flow_calls.proofs.FirstCalls.{ended}
use Rattle.module_flow_calls.proofs.CalledRounds.{defs_round}
use Rattle.module_flow_calls.proofs.unknown.note_module.Goals as goal

pub loop-def-preserved : goal.loop-def-preserved
loop-def-preserved c =
    defs_round (found c.args.known.now) c.args.around c.loop-def.walk c.note_calls.new.walk c.args.walk.now _ c.under.result c.args.defs.now c.loop-def.def-index c.def-item.result c.get-def.result.now c.get.result.now c.loop-def-test.true
    c.def-item.is c.get-def.ensures c.under.ensures c.get.ensures c.in_ok-note_calls.ensures c.loop-def.invariant

pub returns : goal.returns
returns c =
    ended (found c.args.known.now) c.loop-def.walk c.args.walk.now (def_namings c.args.around (all_defs (drop c.loop-def.def-index c.args.defs.now))) _
    (ap (λ l. def_namings c.args.around (all_defs l)) (drop_all c.loop-def.def-index c.args.defs.now (let h = c.loop-def-test.false in omega arith))) c.loop-def.invariant
