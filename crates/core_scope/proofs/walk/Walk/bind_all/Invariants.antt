use Rattle.std.proofs.Common.{◌≡◌, ◌≤◌, [], length, drop}
use Rattle.core_scope.specs.Names.{bound_by}
use Rattle.core_scope.specs.Breaks.{new_variables}
use Rattle.core_scope.specs.steps.State.{binding}
use Rattle.core_scope.proofs.walk.Walk.bind_all.Given as goal

abbrev pub invariant-loop-var : goal.invariant-loop-var
invariant-loop-var l = record {
  so_far : binding l.self (bound_by (drop l.var-index l.vars)) (new_variables (drop l.from l.self.variables) (drop l.var-index l.vars)) ≡ binding l.fn.self (bound_by l.vars) (new_variables [] l.vars);
  within : l.from ≤ length l.self.variables;
}
