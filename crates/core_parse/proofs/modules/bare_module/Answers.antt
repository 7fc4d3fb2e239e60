use Rattle.core_parse.proofs.ModuleExits.{definitions_bad, module_ok}
use Rattle.core_parse.proofs.modules.bare_module.Goals as goal

pub returns-in-Err-definitions-clause-err : goal.returns-in-Err-definitions-clause-err
returns-in-Err-definitions-clause-err c = definitions_bad _ _ _ _ _ c.in-Ok.ensures.ok _ c.in-Err-definitions.ensures.err

pub returns-in-Ok-shared-clause-ok : goal.returns-in-Ok-shared-clause-ok
returns-in-Ok-shared-clause-ok c = module_ok _ _ _ _ _ c.in-Ok.ensures.ok _ _ _ c.in-Ok-definitions.ensures.ok _ c.in-Ok-text_of.ensures _ c.in-Ok-shared.ensures _ c.no_note.ensures
