use Rattle.std.proofs.Common.{◌≤◌, length}
use Rattle.core_parse_grammar.specs.Grammar.{variable}
use Rattle.core_parse_grammar.specs.Weights.{weight}
use Rattle.core_parse_grammar.proofs.Lists.{Before}
use Rattle.core_parse_grammar.proofs.variables.variables_to.Given as goal

abbrev pub invariant-loop-read : goal.invariant-loop-read
invariant-loop-read l = record {
  so_far : Before l.close variable l.fn.tokens l.from l.variables;
  shorter : length l.from ≤ length l.fn.tokens;
  lighter : weight l.from ≤ weight l.fn.tokens;
}

abbrev pub decreases-loop-read : goal.decreases-loop-read
decreases-loop-read l = length l.from
