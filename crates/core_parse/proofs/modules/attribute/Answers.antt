use Rattle.core_parse.proofs.ModuleExits.{attribute_0_bad, attribute_1_bad, attribute_2_bad, attribute_ok}
use Rattle.core_parse.proofs.modules.attribute.Goals as goal

pub returns-in-Err-clause-err : goal.returns-in-Err-clause-err
returns-in-Err-clause-err c = attribute_0_bad _ _ c.in-Err.ensures.err

pub returns-in-Err-take-clause-err : goal.returns-in-Err-take-clause-err
returns-in-Err-take-clause-err c = attribute_1_bad _ _ _ c.in-Ok.ensures.ok _ c.in-Err-take.ensures.err

pub returns-in-Err-annotated_constant-clause-err : goal.returns-in-Err-annotated_constant-clause-err
returns-in-Err-annotated_constant-clause-err c = attribute_2_bad _ _ _ c.in-Ok.ensures.ok _ c.in-Ok-take.ensures.ok _ c.in-Err-annotated_constant.ensures.err

pub returns-in-Ok-annotated_constant-clause-ok : goal.returns-in-Ok-annotated_constant-clause-ok
returns-in-Ok-annotated_constant-clause-ok c = attribute_ok _ _ _ c.in-Ok.ensures.ok _ c.in-Ok-take.ensures.ok _ c.in-Ok-annotated_constant.ensures.ok
