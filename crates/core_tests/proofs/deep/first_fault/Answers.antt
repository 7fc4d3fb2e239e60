use Rattle.std.proofs.Common.{ap, arith}
use Rattle.core_parse_grammar.specs.Weights.{weight}
use Rattle.core_tests.proofs.deep.first_fault.Goals as goal

pub parse-requires : goal.parse-requires
parse-requires g c = let a = c.lexed_weight.ensures _ _ _ c.in-Ok.ensures.tokens in omega (arith, a, c.if-text-ge100000.false, ap (λ x. weight x) c.as_slice.ensures)
