use Rattle.core_parse.proofs.ModuleExits.{header_0_bad, header_1_bad, header_2_bad, header_3_bad, header_4_bad, header_5_bad, header_6_bad, header_ok}
use Rattle.core_parse.proofs.modules.header.Goals as goal

pub returns-in-Err-clause-err : goal.returns-in-Err-clause-err
returns-in-Err-clause-err c = header_0_bad _ _ c.in-Err.ensures.err

pub returns-in-Err-annotated_atom-clause-err : goal.returns-in-Err-annotated_atom-clause-err
returns-in-Err-annotated_atom-clause-err c = header_1_bad _ _ c.in-Ok.ensures.ok _ c.in-Err-annotated_atom.ensures.err

pub returns-in-Err-take-clause-err : goal.returns-in-Err-take-clause-err
returns-in-Err-take-clause-err c = header_2_bad _ _ c.in-Ok.ensures.ok _ _ c.in-Ok-annotated_atom.ensures.ok _ c.in-Err-take.ensures.err

pub returns-in-Err-exports-clause-err : goal.returns-in-Err-exports-clause-err
returns-in-Err-exports-clause-err c = header_3_bad _ _ c.in-Ok.ensures.ok _ _ c.in-Ok-annotated_atom.ensures.ok _ c.in-Ok-take.ensures.ok _ c.in-Err-exports.ensures.err

pub returns-in-Err-take-2-clause-err : goal.returns-in-Err-take-2-clause-err
returns-in-Err-take-2-clause-err c = header_4_bad _ _ c.in-Ok.ensures.ok _ _ c.in-Ok-annotated_atom.ensures.ok _ c.in-Ok-take.ensures.ok _ _ _ c.in-Ok-exports.ensures.ok _ c.in-Err-take-2.ensures.err

pub returns-in-Err-take-3-clause-err : goal.returns-in-Err-take-3-clause-err
returns-in-Err-take-3-clause-err c = header_5_bad _ _ c.in-Ok.ensures.ok _ _ c.in-Ok-annotated_atom.ensures.ok _ c.in-Ok-take.ensures.ok _ _ _ c.in-Ok-exports.ensures.ok _ c.in-Ok-take-2.ensures.ok _ c.in-Err-take-3.ensures.err

pub returns-clause-err : goal.returns-clause-err
returns-clause-err c = header_6_bad _ _ c.in-Ok.ensures.ok _ _ c.in-Ok-annotated_atom.ensures.ok _ c.in-Ok-take.ensures.ok _ _ _ c.in-Ok-exports.ensures.ok _ c.in-Ok-take-2.ensures.ok _ c.in-Ok-take-3.ensures.ok _
    c.in-Err-attributes.ensures.err

pub returns-in-Ok-attributes-clause-ok : goal.returns-in-Ok-attributes-clause-ok
returns-in-Ok-attributes-clause-ok c = header_ok _ _ c.in-Ok.ensures.ok _ _ c.in-Ok-annotated_atom.ensures.ok _ c.in-Ok-take.ensures.ok _ _ _ c.in-Ok-exports.ensures.ok _ c.in-Ok-take-2.ensures.ok _ c.in-Ok-take-3.ensures.ok _
    c.in-Ok-attributes.ensures.ok
