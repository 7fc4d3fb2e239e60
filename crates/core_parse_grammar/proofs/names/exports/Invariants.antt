use Rattle.std.proofs.Common.{◌≤◌, length}
use Rattle.core_parse_grammar.specs.Weights.{weight}
use Rattle.core_parse_grammar.proofs.NameExits.{ExportsBefore}
use Rattle.core_parse_grammar.proofs.names.exports.Given as goal

abbrev pub invariant-loop-read : goal.invariant-loop-read
invariant-loop-read l = record {
  so_far : ExportsBefore l.fn.tokens l.from l.names l.places;
  shorter : length l.from ≤ length l.fn.tokens;
  lighter : weight l.from ≤ weight l.fn.tokens;
}

abbrev pub decreases-loop-read : goal.decreases-loop-read
decreases-loop-read l = length l.from
