use Rattle.std.proofs.Common.{arith}
use Rattle.core_parse_forms.proofs.ExpressionListExits.{string_ok}
use Rattle.core_parse_forms.proofs.expression_lists.string.Goals as goal

pub returns-in-Ok-listed-clause-ok : goal.returns-in-Ok-listed-clause-ok
returns-in-Ok-listed-clause-ok c = string_ok _ _ _ _ _ _ _ c.requires.starts c.requires.sort
    (omega (arith, c.requires.shallow)) _ _ _ _ _ _ c.new-items.ensures c.in-Ok.ensures.added c.in-Ok.ensures.next c.in-Ok-nil.ensures c.mark.ensures c.in-Ok-listed.ensures
