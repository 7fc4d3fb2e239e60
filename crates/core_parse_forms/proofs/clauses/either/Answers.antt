use Rattle.core_parse_forms.proofs.ClauseResults.{no_when_after_note}
use Rattle.core_parse_forms.proofs.clauses.either.Goals as goal

pub returns-in-Ok-annotated_pattern-clause-err : goal.returns-in-Ok-annotated_pattern-clause-err
returns-in-Ok-annotated_pattern-clause-err c = no_when_after_note _ _ _ c.in-Ok-annotated_pattern.ensures.ok.1 _ c.single-in-Ok-annotated_pattern.ensures.err
