use Rattle.dialyze_command.proofs.BeginExits.{bytes_read}
use Rattle.std.proofs.Common.{Err, ap, subst}
use Rattle.da_shelf.specs.Reads.{gave_none}
use Rattle.dialyze_command.proofs.ToldExits.{bytes_told, lacking_told, failing_told}
use Rattle.dialyze_command.proofs.begin.named_table.Goals as goal

pub returns-in-Ok-clause-read : goal.returns-in-Ok-clause-read
returns-in-Ok-clause-read g c =
    bytes_read (g.F.Shelf.held c.args.shelf.now) c.args.word c.args.name.now c.in-Ok.bytes.items c.as_slice.result.now (g.F.Shelf.read_faults c.args.shelf.now) (g.F.Shelf.read_faults c.read.new.self)
    c.table_of.result c.as_slice.ensures.value c.in-Ok.ensures.read c.table_of.ensures

pub returns-in-Ok-clause-told : goal.returns-in-Ok-clause-told
returns-in-Ok-clause-told g c =
    bytes_told g.F.Shelf.told c.args.shelf.now c.read.new.self c.args.word c.args.name.now c.in-Ok.bytes.items c.as_slice.result.now (g.F.Shelf.read_faults c.args.shelf.now) (g.F.Shelf.read_faults c.read.new.self)
    c.table_of.result c.in-Ok.ensures.told c.as_slice.ensures.value c.table_of.ensures

pub returns-in_ok-answer-in-Err-Missing-clause-told : goal.returns-in_ok-answer-in-Err-Missing-clause-told
returns-in_ok-answer-in-Err-Missing-clause-told g c =
    lacking_told g.F.Shelf.told c.args.shelf.now c.read.new.self c.args.word c.args.name.now (g.F.Shelf.read_faults c.args.shelf.now) (g.F.Shelf.read_faults c.read.new.self) c.in_ok-answer-in-Err-Missing.answer
    (subst (λ f. g.F.Shelf.told c.args.shelf.now c.read.new.self (gave_none c.args.name.now f)) c.in-Err-Missing.field-0-is c.in-Err-Missing.ensures.told_fault)
    c.in_ok-answer-in-Err-Missing.ensures.status c.in_ok-answer-in-Err-Missing.ensures.output

pub returns-in_ok-answer-in-Err-Failed-clause-told : goal.returns-in_ok-answer-in-Err-Failed-clause-told
returns-in_ok-answer-in-Err-Failed-clause-told g c =
    failing_told g.F.Shelf.told c.args.shelf.now c.read.new.self c.args.word c.args.name.now (g.F.Shelf.read_faults c.args.shelf.now) (g.F.Shelf.read_faults c.read.new.self) c.in_ok-answer-in-Err-Failed.answer
    (subst (λ f. g.F.Shelf.told c.args.shelf.now c.read.new.self (gave_none c.args.name.now f)) c.in-Err-Failed.field-0-is c.in-Err-Failed.ensures.told_fault)
    c.in_ok-answer-in-Err-Failed.ensures.status c.in_ok-answer-in-Err-Failed.ensures.output (c.in-Err-Failed.ensures.failed (ap Err c.in-Err-Failed.field-0-is))
