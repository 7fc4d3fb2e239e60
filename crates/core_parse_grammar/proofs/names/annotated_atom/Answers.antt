use Rattle.core_parse_grammar.proofs.NotedExits.{atom_end, atom_bare, atom_other, atom_round_end, atom_round_other, atom_round_bad, atom_round_ok}
use Rattle.core_parse_grammar.proofs.names.annotated_atom.Goals as goal

pub returns-in-Err-clause-err : goal.returns-in-Err-clause-err
returns-in-Err-clause-err c = atom_end _ _ c.in-Err.ensures.err

pub returns-then-fits-clause-ok : goal.returns-then-fits-clause-ok
returns-then-fits-clause-ok c = atom_bare _ _ _ _ _ c.in-Ok.ensures.ok _ c.fits.ensures c.if-fits.true

pub returns-then-not-fits-clause-err : goal.returns-then-not-fits-clause-err
returns-then-not-fits-clause-err c = atom_other _ _ _ _ _ c.in-Ok.ensures.ok _ c.fits.ensures c.if-fits.false _ c.fits-2.ensures c.if-not-fits.true

pub returns-in-Err-next-clause-err : goal.returns-in-Err-next-clause-err
returns-in-Err-next-clause-err c = atom_round_end _ _ _ _ _ c.in-Ok.ensures.ok _ c.fits.ensures c.if-fits.false _ c.fits-2.ensures c.if-not-fits.false _ c.in-Err-next.ensures.err

pub returns-then-not-fits-2-clause-err : goal.returns-then-not-fits-2-clause-err
returns-then-not-fits-2-clause-err c = atom_round_other _ _ _ _ _ c.in-Ok.ensures.ok _ c.fits.ensures c.if-fits.false _ c.fits-2.ensures c.if-not-fits.false _ _ _ _ c.in-Ok-next.ensures.ok _ c.fits-3.ensures c.if-not-fits-2.true

pub returns-in-Ok-annotation-clause-ok : goal.returns-in-Ok-annotation-clause-ok
returns-in-Ok-annotation-clause-ok c = atom_round_ok _ _ _ _ _ c.in-Ok.ensures.ok _ c.fits.ensures c.if-fits.false _ c.fits-2.ensures c.if-not-fits.false _ _ _ _ c.in-Ok-next.ensures.ok _ c.fits-3.ensures c.if-not-fits-2.false _ _
    c.in-Ok-annotation.ensures.ok

pub returns-in-Err-annotation-clause-err : goal.returns-in-Err-annotation-clause-err
returns-in-Err-annotation-clause-err c = atom_round_bad _ _ _ _ _ c.in-Ok.ensures.ok _ c.fits.ensures c.if-fits.false _ c.fits-2.ensures c.if-not-fits.false _ _ _ _ c.in-Ok-next.ensures.ok _ c.fits-3.ensures c.if-not-fits-2.false _
    c.in-Err-annotation.ensures.err
