use Rattle.std.proofs.Common.{arith, ap}
use Rattle.core_parse_grammar.specs.Weights.{weight}
use Rattle.core_scope.proofs.SpelledLaws.{parsed_is_spelled}
use Rattle.core_cases.proofs.reading.checked_of.Goals as goal

pub parse-requires : goal.parse-requires
parse-requires c = let a = c.lexed_weight.ensures _ _ _ c.in_ok-tokens.ensures.tokens in omega (arith, a, c.if-text-gt10000.false, ap (λ x. weight x) c.as_slice.ensures)

pub check-requires : goal.check-requires
check-requires c = record { spelled = parsed_is_spelled _ c.args.text.now c.in_ok-tokens.tokens c.as_slice.result.now c.in_ok-tokens.ensures.tokens c.as_slice.ensures c.in-Ok.ensures.ok }
