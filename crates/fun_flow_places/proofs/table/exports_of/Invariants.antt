use Rattle.std.proofs.Common.{◌≡◌, ◌++◌, map, drop}
use Rattle.core_ast.specs.Tree.{all_defs}
use Rattle.core_meaning.specs.Programs.{function_named, locals_of}
use Rattle.fun_flow_places.specs.Tables.{label_of}
use Rattle.fun_flow_places.proofs.table.exports_of.Given as goal

abbrev pub invariant-loop-name : goal.invariant-loop-name
invariant-loop-name l = l.exports ++ map (λ f. (f, label_of (function_named (locals_of (all_defs l.source.defs)) f))) (drop l.name-index l.names) ≡ map (λ f. (f, label_of (function_named (locals_of (all_defs l.source.defs)) f))) l.names
