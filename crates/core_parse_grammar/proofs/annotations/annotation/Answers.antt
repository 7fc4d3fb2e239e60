use Rattle.std.proofs.Common.{arith}
use Rattle.core_parse_grammar.proofs.AnnotationExits.{goes_lighter, note_0_bad, note_1_bad, note_2_bad, note_3_bad, note_ok}
use Rattle.core_parse_grammar.proofs.annotations.annotation.Goals as goal

pub returns-in-Err-clause-err : goal.returns-in-Err-clause-err
returns-in-Err-clause-err c = note_0_bad _ _ c.in-Err.ensures.err

pub returns-in-Err-take-clause-err : goal.returns-in-Err-take-clause-err
returns-in-Err-take-clause-err c = note_1_bad _ _ c.in-Ok.ensures.ok _ c.in-Err-take.ensures.err

pub returns-in-Err-constants-clause-err : goal.returns-in-Err-constants-clause-err
returns-in-Err-constants-clause-err c = note_2_bad _ _ c.in-Ok.ensures.ok _ c.in-Ok-take.ensures.ok _ c.in-Err-constants.ensures.err

pub returns-clause-err : goal.returns-clause-err
returns-clause-err c = note_3_bad _ _ c.in-Ok.ensures.ok _ c.in-Ok-take.ensures.ok _ _ c.in-Ok-constants.ensures.ok _ c.in-Err-take-2.ensures.err

pub returns-in-Ok-take-2-clause-ok : goal.returns-in-Ok-take-2-clause-ok
returns-in-Ok-take-2-clause-ok c = note_ok _ _ c.in-Ok.ensures.ok _ c.in-Ok-take.ensures.ok _ _ c.in-Ok-constants.ensures.ok _ c.in-Ok-take-2.ensures.ok _ _ c.note_of.ensures c.as_slice.ensures

pub returns-in-Ok-take-2-clause-lighter : goal.returns-in-Ok-take-2-clause-lighter
returns-in-Ok-take-2-clause-lighter c = omega (arith, c.in-Ok.ensures.lighter, c.in-Ok-take.ensures.lighter, goes_lighter c.in-Ok-constants.ensures.ok.passes, c.in-Ok-take-2.ensures.lighter)
