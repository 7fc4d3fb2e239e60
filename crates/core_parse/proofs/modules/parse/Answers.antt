use Rattle.core_parse.proofs.Prefixes.{read_whole, read_past, refusal}
use Rattle.core_parse.proofs.modules.parse.Goals as goal

pub returns-in-Err-clause-err : goal.returns-in-Err-clause-err
returns-in-Err-clause-err c = refusal _ _ _ _ c.in-Err.ensures.err c.in_text.ensures

pub returns-in-Ok-next-clause-err : goal.returns-in-Ok-next-clause-err
returns-in-Ok-next-clause-err c = read_past _ _ _ _ _ _ _ _ c.in-Ok.ensures.ok c.in-Ok-next.ensures.ok

pub returns-in-Err-next-clause-ok : goal.returns-in-Err-next-clause-ok
returns-in-Err-next-clause-ok c = read_whole _ _ _ _ c.in-Ok.ensures.ok c.in-Err-next.ensures.err
