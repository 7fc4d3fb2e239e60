use Rattle.type_bytes.proofs.ShapeLaws.{not_short, broken_not_short_front, is_short_front}
use Rattle.type_bytes.proofs.taking.why_none.Goals as goal

pub returns-in-Err-Short-clause-short : goal.returns-in-Err-Short-clause-short
returns-in-Err-Short-clause-short c = λ e. is_short_front c.args.bytes.now (rw c.in-Err-Short.field-0-is at c.in-Err-Short.ensures)

pub returns-in-Err-Broken-clause-whole : goal.returns-in-Err-Broken-clause-whole
returns-in-Err-Broken-clause-whole c = λ e. broken_not_short_front c.args.bytes.now (rw c.in-Err-Broken.field-0-is at c.in-Err-Broken.ensures)

pub returns-in-Ok-clause-whole : goal.returns-in-Ok-clause-whole
returns-in-Ok-clause-whole c = λ e. not_short c.args.bytes.now _ c.in-Ok.ensures
