use Rattle.std.proofs.Common.{◌≤◌, length}
use Rattle.core_parse_grammar.specs.Weights.{weight}
use Rattle.core_parse.proofs.ModuleExits.{AttributesBefore}
use Rattle.core_parse.proofs.modules.attributes.Given as goal

abbrev pub invariant-loop-rest : goal.invariant-loop-rest
invariant-loop-rest l = record {
  so_far : AttributesBefore l.fn.tokens l.from;
  lighter : weight l.from ≤ weight l.fn.tokens;
}

abbrev pub decreases-loop-rest : goal.decreases-loop-rest
decreases-loop-rest l = length l.from
