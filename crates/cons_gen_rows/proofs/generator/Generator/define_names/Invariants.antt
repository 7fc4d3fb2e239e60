use Rattle.std.proofs.Common.{◌≡◌, ◌++◌, drop}
use Rattle.cons_gen_rows.specs.Walking.{rows_of}
use Rattle.cons_gen_rows.proofs.generator.Generator.define_names.Given as goal

abbrev pub invariant-loop-name : goal.invariant-loop-name
invariant-loop-name l = record {
  next : l.self.next ≡ l.fn.self.next;
  added : rows_of l.self ≡ rows_of l.fn.self;
  variables : l.self.variables ≡ l.fn.self.variables;
  functions : l.self.functions ++ drop l.name-index l.names ≡ l.fn.self.functions ++ l.names;
}
