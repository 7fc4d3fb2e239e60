use Rattle.std.proofs.Common.{◌∙◌, ◌++◌, [], map, ap, arith}
use Rattle.core_ast.specs.Tree.{all_defs}
use Rattle.core_meaning.specs.Programs.{function_named, locals_of}
use Rattle.fun_flow_places.specs.Tables.{frame, label_of}
use Rattle.fun_flow_places.proofs.TableLaws.{exported_round, listed_all}
use Rattle.fun_flow_places.proofs.table.exports_of.Goals as goal

pub loop-name-preserved : goal.loop-name-preserved
loop-name-preserved c =
    exported_round _ (all_defs c.args.source.now.defs) c.loop-name.exports c.push.new.self _ c.as_slice-names.result.now c.loop-name.name-index c.name-item.result c.get-label.result
    (c.in_ok-define_module.ensures ∙ ap (λ l. l ++ frame (locals_of (all_defs c.as_slice.result.now))) c.new-functions.ensures
    ∙ ap (λ ds. [] ++ frame (locals_of (all_defs ds))) c.as_slice.ensures) c.loop-name-test.true c.name-item.is c.get-label.ensures c.in_ok-push.ensures.bound c.loop-name.invariant

pub returns : goal.returns
returns c =
    listed_all (λ f. (f, label_of (function_named (locals_of (all_defs c.args.source.now.defs)) f))) c.loop-name.exports _ c.as_slice-names.result.now c.loop-name.name-index
    (let t = c.loop-name-test.false in omega arith) c.loop-name.invariant
    ∙ ap (map (λ f. (f, label_of (function_named (locals_of (all_defs c.args.source.now.defs)) f)))) c.as_slice-names.ensures
