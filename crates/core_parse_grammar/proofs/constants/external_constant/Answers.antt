use Rattle.core_parse_grammar.proofs.ConstantExits.{fun_atom_bad, fun_colon_bad, fun_name_bad, fun_ok}
use Rattle.core_parse_grammar.proofs.constants.external_constant.Goals as goal

pub returns-in-Err-clause-err : goal.returns-in-Err-clause-err
returns-in-Err-clause-err c = fun_atom_bad _ _ _ _ _ _ c.requires.starts c.requires.shallow c.requires.sort _ c.in-Err.ensures.err

pub returns-in-Err-take-clause-err : goal.returns-in-Err-take-clause-err
returns-in-Err-take-clause-err c = fun_colon_bad _ _ _ _ _ _ c.requires.starts c.requires.shallow c.requires.sort _ c.in-Ok.ensures.ok _ c.in-Err-take.ensures.err

pub returns-in-Err-name_tokens-clause-err : goal.returns-in-Err-name_tokens-clause-err
returns-in-Err-name_tokens-clause-err c = fun_name_bad _ _ _ _ _ _ c.requires.starts c.requires.shallow c.requires.sort _ c.in-Ok.ensures.ok _ c.in-Ok-take.ensures.ok _ c.in-Err-name_tokens.ensures.err

pub returns-in-Ok-name_tokens-clause-ok : goal.returns-in-Ok-name_tokens-clause-ok
returns-in-Ok-name_tokens-clause-ok c = fun_ok _ _ _ _ _ _ c.requires.starts c.requires.shallow c.requires.sort _ c.in-Ok.ensures.ok _ c.in-Ok-take.ensures.ok _ _ _ _ c.in-Ok-name_tokens.ensures.ok c.another.ensures.constant _
    c.another.ensures.rest
