use Rattle.std.proofs.Common.{refl}
use Rattle.core_parse.proofs.ModuleExits.{module_end, plain_bad, plain_ok, round_bad, round_note_bad, round_ok}
use Rattle.core_parse.proofs.modules.annotated_module.Goals as goal

pub returns-in-Err-clause-err : goal.returns-in-Err-clause-err
returns-in-Err-clause-err c = module_end _ _ c.in-Err.ensures.err

pub returns-in-Ok-bare_module-clause-ok : goal.returns-in-Ok-bare_module-clause-ok
returns-in-Ok-bare_module-clause-ok c = plain_ok _ _ _ _ _ c.in-Ok.ensures.ok _ c.fits.ensures c.if-not-fits.true _ _ c.in-Ok-bare_module.ensures.ok

pub returns-in-Err-bare_module-clause-err : goal.returns-in-Err-bare_module-clause-err
returns-in-Err-bare_module-clause-err c = plain_bad _ _ _ _ _ c.in-Ok.ensures.ok _ c.fits.ensures c.if-not-fits.true _ c.in-Err-bare_module.ensures.err

pub returns-in-Err-bare_module-2-clause-err : goal.returns-in-Err-bare_module-2-clause-err
returns-in-Err-bare_module-2-clause-err c = round_bad _ _ _ _ _ c.in-Ok.ensures.ok _ c.fits.ensures c.if-not-fits.false _ c.in-Err-bare_module-2.ensures.err

pub returns-in-Ok-annotation-clause-ok : goal.returns-in-Ok-annotation-clause-ok
returns-in-Ok-annotation-clause-ok c = round_ok _ _ _ _ _ c.in-Ok.ensures.ok _ c.fits.ensures c.if-not-fits.false _ _ c.in-Ok-bare_module-2.ensures.ok _ _ c.in-Ok-annotation.ensures.ok _ refl

pub returns-in-Err-annotation-clause-err : goal.returns-in-Err-annotation-clause-err
returns-in-Err-annotation-clause-err c = round_note_bad _ _ _ _ _ c.in-Ok.ensures.ok _ c.fits.ensures c.if-not-fits.false _ _ c.in-Ok-bare_module-2.ensures.ok _ c.in-Err-annotation.ensures.err
