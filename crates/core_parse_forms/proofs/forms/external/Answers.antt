use Rattle.core_parse_forms.proofs.MoreFormExits.{external_1_bad, external_2_bad, external_3_bad, external_ok}
use Rattle.core_parse_forms.proofs.forms.external.Goals as goal

pub returns-in-Err-clause-err : goal.returns-in-Err-clause-err
returns-in-Err-clause-err c = external_1_bad _ c.args.label _ _ _ _ _ c.requires.starts c.requires.shallow c.requires.sort c.requires.once _ c.in-Err.ensures.err

pub returns-in-Err-take-clause-err : goal.returns-in-Err-take-clause-err
returns-in-Err-take-clause-err c = external_2_bad _ c.args.label _ _ _ _ _ c.requires.starts c.requires.shallow c.requires.sort c.requires.once _ _ _ c.in-Ok.ensures.ok _ c.in-Err-take.ensures.err

pub returns-clause-err : goal.returns-clause-err
returns-clause-err c = external_3_bad _ c.args.label _ _ _ _ _ c.requires.starts c.requires.shallow c.requires.sort c.requires.once _ _ _ c.in-Ok.ensures.ok _ c.in-Ok-take.ensures.ok _ c.in-Err-function_name.ensures.err

pub returns-in-Ok-external-clause-ok : goal.returns-in-Ok-external-clause-ok
returns-in-Ok-external-clause-ok c = external_ok _ c.args.label _ _ _ _ _ c.requires.starts c.requires.shallow c.requires.sort c.requires.once _ _ _ c.in-Ok.ensures.ok _ c.in-Ok-take.ensures.ok _ _ _ c.in-Ok-function_name.ensures.ok _
    c.mark-mark.ensures _ c.in-Ok-external.ensures
