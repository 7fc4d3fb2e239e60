use Rattle.std.proofs.Common.{arith, ap}
use Rattle.core_parse_grammar.specs.Weights.{weight}
use Rattle.core_cases.proofs.reading.module_of.Goals as goal

pub parse-requires : goal.parse-requires
parse-requires c = let a = c.lexed_weight.ensures _ _ _ c.in_ok-tokens.ensures.tokens in omega (arith, a, c.if-text-gt10000.false, ap (λ x. weight x) c.as_slice.ensures)
