use Rattle.std.proofs.Common.{sym, ap, subst, arith}
use Rattle.core_ast.specs.Tree.{module_tree}
use Rattle.core_scope.specs.Checked.{tree_of}
use Rattle.analysis_sources.specs.steps.Refusing.{Refuses}
use Rattle.analysis_sources.proofs.SourceExits.{scan_exit, light, few_functions}
use Rattle.analysis_sources.proofs.source.accepted.Goals as goal

pub returns-in-Err-clause-fault : goal.returns-in-Err-clause-fault
returns-in-Err-clause-fault c =
    subst (Refuses c.args.most c.args.bytes.now) (sym c.of_scan.ensures) (scan_exit c.args.most c.args.bytes.now c.in-Err.fault (omega arith) c.in-Err.ensures.fault)

pub parse-requires : goal.parse-requires
parse-requires c =
    light c.args.most c.args.bytes.now c.in-Ok.tokens c.as_slice.result.now c.requires (omega arith) c.in-Ok.ensures.tokens c.lexed_weight.ensures c.as_slice.ensures

pub returns-in-Ok-check-clause-few : goal.returns-in-Ok-check-clause-few
returns-in-Ok-check-clause-few c =
    few_functions c.args.bytes.now c.in-Ok.tokens c.as_slice.result.now (module_tree c.in-Ok-parse.module) (tree_of c.in-Ok-check.checked) c.in-Ok.ensures.few c.as_slice.ensures c.in-Ok-parse.ensures.ok
    (ap module_tree c.in-Ok-check.ensures.same) c.spelled_laws.ensures.few
