use Rattle.core_parse_grammar.specs.Grammar.{function_name}
use Rattle.core_parse_grammar.proofs.NameExits.{name_encloses, bare_name, noted_name}
use Rattle.core_parse_grammar.proofs.NotedExits.{noted_end, bare_bad, noted_bad, note_bad}
use Rattle.core_parse_grammar.proofs.names.annotated_function_name.Goals as goal

pub returns-in-Err-clause-err : goal.returns-in-Err-clause-err
returns-in-Err-clause-err c = noted_end function_name name_encloses _ _ c.in-Err.ensures.err

pub returns-in-Ok-function_name-clause-ok : goal.returns-in-Ok-function_name-clause-ok
returns-in-Ok-function_name-clause-ok c = bare_name _ _ _ _ _ c.in-Ok.ensures.ok _ c.fits.ensures c.if-not-fits.true _ _ _ c.in-Ok-function_name.ensures.ok

pub returns-in-Err-function_name-clause-err : goal.returns-in-Err-function_name-clause-err
returns-in-Err-function_name-clause-err c = bare_bad function_name name_encloses _ _ _ _ _ c.in-Ok.ensures.ok _ c.fits.ensures c.if-not-fits.true _ c.in-Err-function_name.ensures.err

pub returns-in-Err-function_name-2-clause-err : goal.returns-in-Err-function_name-2-clause-err
returns-in-Err-function_name-2-clause-err c = noted_bad function_name name_encloses _ _ _ _ _ c.in-Ok.ensures.ok _ c.fits.ensures c.if-not-fits.false _ c.in-Err-function_name-2.ensures.err

pub returns-in-Ok-annotation-clause-ok : goal.returns-in-Ok-annotation-clause-ok
returns-in-Ok-annotation-clause-ok c = noted_name _ _ _ _ _ c.in-Ok.ensures.ok _ c.fits.ensures c.if-not-fits.false _ _ _ c.in-Ok-function_name-2.ensures.ok _ _ c.in-Ok-annotation.ensures.ok

pub returns-in-Err-annotation-clause-err : goal.returns-in-Err-annotation-clause-err
returns-in-Err-annotation-clause-err c = note_bad function_name name_encloses _ _ _ _ _ c.in-Ok.ensures.ok _ c.fits.ensures c.if-not-fits.false _ _ c.in-Ok-function_name-2.ensures.ok.passes _ c.in-Err-annotation.ensures.err
