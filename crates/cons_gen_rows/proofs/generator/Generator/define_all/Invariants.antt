use Rattle.std.proofs.Common.{◌≡◌, ◌++◌, drop}
use Rattle.core_ast.specs.Tree.{all_defs}
use Rattle.core_scope.specs.Names.{defined_names}
use Rattle.cons_gen_rows.specs.Walking.{rows_of}
use Rattle.cons_gen_rows.proofs.generator.Generator.define_all.Given as goal

abbrev pub invariant-loop-def : goal.invariant-loop-def
invariant-loop-def l = record {
  next : l.self.next ≡ l.fn.self.next;
  added : rows_of l.self ≡ rows_of l.fn.self;
  variables : l.self.variables ≡ l.fn.self.variables;
  functions : l.self.functions ++ defined_names (all_defs (drop l.def-index l.defs)) ≡ l.fn.self.functions ++ defined_names (all_defs l.defs);
}
