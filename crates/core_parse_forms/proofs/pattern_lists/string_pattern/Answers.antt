use Rattle.std.proofs.Common.{arith}
use Rattle.core_parse_forms.proofs.PatternListExits.{pattern_string}
use Rattle.core_parse_forms.proofs.pattern_lists.string_pattern.Goals as goal

pub returns-in-Ok-listed-clause-ok : goal.returns-in-Ok-listed-clause-ok
returns-in-Ok-listed-clause-ok c = pattern_string _ _ _ _ _ _ _ c.requires.starts c.requires.sort
    (omega (arith, c.requires.shallow)) _ _ _ _ _ _ c.new-items.ensures c.in-Ok.ensures.added c.in-Ok.ensures.next c.in-Ok-nil.ensures c.mark.ensures c.in-Ok-listed.ensures
