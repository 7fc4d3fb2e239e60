use Rattle.core_parse_grammar.proofs.VariableExits.{variable_end, variable_bare, variable_other, round_end, round_other, round_bad, round_ok}
use Rattle.core_parse_grammar.proofs.variables.variable.Goals as goal

pub returns-in-Err-clause-err : goal.returns-in-Err-clause-err
returns-in-Err-clause-err c = variable_end _ _ c.in-Err.ensures.err

pub returns-in-Ok-named-clause-ok : goal.returns-in-Ok-named-clause-ok
returns-in-Ok-named-clause-ok c = variable_bare _ _ _ _ _ c.in-Ok.ensures.ok _ c.fits.ensures c.if-fits.true _ _ c.in-Ok-named.ensures c.no_note.ensures

pub returns-then-not-fits-clause-err : goal.returns-then-not-fits-clause-err
returns-then-not-fits-clause-err c = variable_other _ _ _ _ _ c.in-Ok.ensures.ok _ c.fits.ensures c.if-fits.false _ c.fits-2.ensures c.if-not-fits.true

pub returns-in-Err-next-clause-err : goal.returns-in-Err-next-clause-err
returns-in-Err-next-clause-err c = round_end _ _ _ _ _ c.in-Ok.ensures.ok _ c.fits.ensures c.if-fits.false _ c.fits-2.ensures c.if-not-fits.false _ c.in-Err-next.ensures.err

pub returns-then-not-fits-2-clause-err : goal.returns-then-not-fits-2-clause-err
returns-then-not-fits-2-clause-err c = round_other _ _ _ _ _ c.in-Ok.ensures.ok _ c.fits.ensures c.if-fits.false _ c.fits-2.ensures c.if-not-fits.false _ _ _ _ c.in-Ok-next.ensures.ok _ c.fits-3.ensures c.if-not-fits-2.true

pub returns-in-Ok-named-2-clause-ok : goal.returns-in-Ok-named-2-clause-ok
returns-in-Ok-named-2-clause-ok c = round_ok _ _ _ _ _ c.in-Ok.ensures.ok _ c.fits.ensures c.if-fits.false _ c.fits-2.ensures c.if-not-fits.false _ _ _ _ c.in-Ok-next.ensures.ok _ c.fits-3.ensures c.if-not-fits-2.false _ _ _
    c.in-Ok-annotation.ensures.ok c.in-Ok-named-2.ensures

pub returns-in-Err-annotation-clause-err : goal.returns-in-Err-annotation-clause-err
returns-in-Err-annotation-clause-err c = round_bad _ _ _ _ _ c.in-Ok.ensures.ok _ c.fits.ensures c.if-fits.false _ c.fits-2.ensures c.if-not-fits.false _ _ _ _ c.in-Ok-next.ensures.ok _ c.fits-3.ensures c.if-not-fits-2.false _
    c.in-Err-annotation.ensures.err
