use Rattle.core_parse_grammar.proofs.VariableExits.{variables_end, angle_bad, angle_ok, alone_bad, alone_ok}
use Rattle.core_parse_grammar.proofs.variables.variables.Goals as goal

pub returns-in-Err-clause-err : goal.returns-in-Err-clause-err
returns-in-Err-clause-err c = variables_end _ _ c.in-Err.ensures.err

pub returns-in-Ok-variables_to-clause-ok : goal.returns-in-Ok-variables_to-clause-ok
returns-in-Ok-variables_to-clause-ok c = angle_ok _ _ _ _ _ c.in-Ok.ensures.ok _ c.fits.ensures c.if-fits.true _ _ c.in-Ok-variables_to.ensures.ok

pub returns-in-Err-variables_to-clause-err : goal.returns-in-Err-variables_to-clause-err
returns-in-Err-variables_to-clause-err c = angle_bad _ _ _ _ _ c.in-Ok.ensures.ok _ c.fits.ensures c.if-fits.true _ c.in-Err-variables_to.ensures.err

pub returns-in-Err-variable-clause-err : goal.returns-in-Err-variable-clause-err
returns-in-Err-variable-clause-err c = alone_bad _ _ _ _ _ c.in-Ok.ensures.ok _ c.fits.ensures c.if-fits.false _ c.in-Err-variable.ensures.err

pub returns-in-Ok-add-clause-ok : goal.returns-in-Ok-add-clause-ok
returns-in-Ok-add-clause-ok c = alone_ok _ _ _ _ _ c.in-Ok.ensures.ok _ c.fits.ensures c.if-fits.false _ _ c.in-Ok-variable.ensures.ok _ _ c.new-variables.ensures c.in-Ok-add.ensures.ok
