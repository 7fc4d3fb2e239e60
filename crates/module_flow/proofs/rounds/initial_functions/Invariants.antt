use Rattle.std.proofs.Common.{◌≡◌, ◌++◌, drop, map}
use Rattle.module_flow.specs.steps.Beginning.{initial_function}
use Rattle.module_flow.proofs.rounds.initial_functions.Given as goal

abbrev pub invariant-loop-function : goal.invariant-loop-function
invariant-loop-function l = l.state ++ map (initial_function l.escaping_labels) (drop l.function-index l.functions) ≡ map (initial_function l.escaping_labels) l.functions
