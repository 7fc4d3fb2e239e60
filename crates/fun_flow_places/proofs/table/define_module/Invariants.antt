use Rattle.std.proofs.Common.{◌≡◌, ◌++◌, ◌-◌, length, drop}
use Rattle.core_ast.specs.Tree.{all_defs}
use Rattle.core_meaning.specs.Programs.{locals_of}
use Rattle.fun_flow_places.specs.Tables.{frame}
use Rattle.fun_flow_places.proofs.table.define_module.Given as goal

abbrev pub invariant-loop-passed : goal.invariant-loop-passed
invariant-loop-passed l = l.functions ≡ l.fn.functions ++ frame (locals_of (all_defs (drop (length l.defs - l.passed) l.defs)))
