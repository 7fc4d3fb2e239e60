use Rattle.core_parse_grammar.proofs.NameExits.{name_end, name_other, name_slash, name_number, name_large, name_read}
use Rattle.core_parse_grammar.proofs.names.name_tokens.Goals as goal

pub returns-in-Err-clause-err : goal.returns-in-Err-clause-err
returns-in-Err-clause-err c = name_end _ _ c.in-Err.ensures.err

pub returns-then-not-fits-clause-err : goal.returns-then-not-fits-clause-err
returns-then-not-fits-clause-err c = name_other _ _ _ _ _ c.in-Ok.ensures.ok _ c.fits.ensures c.if-not-fits.true

pub returns-in-Err-take-clause-err : goal.returns-in-Err-take-clause-err
returns-in-Err-take-clause-err c = name_slash _ _ _ _ _ c.in-Ok.ensures.ok _ c.fits.ensures c.if-not-fits.false _ c.in-Err-take.ensures.err

pub returns-in-Err-next-clause-err : goal.returns-in-Err-next-clause-err
returns-in-Err-next-clause-err c = name_number _ _ _ _ _ c.in-Ok.ensures.ok _ c.fits.ensures c.if-not-fits.false _ c.in-Ok-take.ensures.ok _ c.in-Err-next.ensures.err

pub returns-then-not-fits-2-clause-err : goal.returns-then-not-fits-2-clause-err
returns-then-not-fits-2-clause-err c = name_large _ _ _ _ _ c.in-Ok.ensures.ok _ c.fits.ensures c.if-not-fits.false _ c.in-Ok-take.ensures.ok _ _ _ _ c.in-Ok-next.ensures.ok _ c.fits-2.ensures c.if-not-fits-2.true

pub returns-clause-ok : goal.returns-clause-ok
returns-clause-ok c = name_read _ _ _ _ _ c.in-Ok.ensures.ok _ c.fits.ensures c.if-not-fits.false _ c.in-Ok-take.ensures.ok _ _ _ _ c.in-Ok-next.ensures.ok _ c.fits-2.ensures c.if-not-fits-2.false
