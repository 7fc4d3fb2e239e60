use Rattle.std.proofs.Common.{drop}
use Rattle.analysis_sources.specs.Words.{texts}
use Rattle.dialyze_command.proofs.PlanExits.{plt_word, plt_few, reads_plan, begun_table, says_plan}
use Rattle.dialyze_command.proofs.ToldExits.{reads_told, says_told}
use Rattle.dialyze_command.proofs.plan.planned.Goals as goal

pub table_to_begin-requires-clause-within : goal.table_to_begin-requires-clause-within
table_to_begin-requires-clause-within g c = plt_word c.args.words.now c.args.command c.requires.checks

pub table_to_begin-requires-clause-few : goal.table_to_begin-requires-clause-few
table_to_begin-requires-clause-few g c = plt_few c.args.words.now c.args.command c.requires.checks

pub with_table-requires-clause-begun : goal.with_table-requires-clause-begun
with_table-requires-clause-begun g c κs within =
    begun_table (texts c.args.words.now) (g.F.Shelf.held c.args.shelf.now) (g.F.Shelf.held c.table_to_begin.new.shelf) c.args.command.plt (g.F.Shelf.read_faults c.args.shelf.now) (g.F.Shelf.read_faults c.table_to_begin.new.shelf)
    _ c.in-Ok-Reads.table c.in-Ok-Reads.ensures.held c.in-Ok-Reads.field-0-is c.in-Ok-Reads.ensures.begun

pub returns-in-Ok-Reads-clause-plan : goal.returns-in-Ok-Reads-clause-plan
returns-in-Ok-Reads-clause-plan g c =
    reads_plan (texts c.args.words.now) (g.F.Shelf.held c.args.shelf.now) (g.F.Shelf.held c.table_to_begin.new.shelf) (g.F.Shelf.read_faults c.args.shelf.now) (g.F.Shelf.read_faults c.table_to_begin.new.shelf)
    (g.F.Shelf.read_faults c.with_table.new.shelf) c.with_table.result c.in-Ok-Reads.ensures.held c.in-Ok-Reads.ensures.counted c.with_table.ensures.plan

pub returns-in-Ok-Says-clause-plan : goal.returns-in-Ok-Says-clause-plan
returns-in-Ok-Says-clause-plan g c =
    says_plan (texts c.args.words.now) (g.F.Shelf.held c.args.shelf.now) (g.F.Shelf.read_faults c.args.shelf.now) (g.F.Shelf.read_faults c.table_to_begin.new.shelf) c.args.command
    (drop c.args.command.start (texts c.args.words.now)) _ c.in-Ok-Says.answer c.requires.checks c.in-Ok-Says.field-0-is c.in-Ok-Says.ensures.begun

pub returns-in-Ok-Reads-clause-told : goal.returns-in-Ok-Reads-clause-told
returns-in-Ok-Reads-clause-told g c =
    reads_told g.F.Shelf.told c.args.shelf.now c.table_to_begin.new.shelf c.with_table.new.shelf (texts c.args.words.now) c.args.command (drop c.args.command.start (texts c.args.words.now))
    (g.F.Shelf.read_faults c.args.shelf.now) (g.F.Shelf.read_faults c.table_to_begin.new.shelf) (g.F.Shelf.read_faults c.with_table.new.shelf) _ c.in-Ok-Reads.table c.with_table.result c.requires.checks
    c.in-Ok-Reads.ensures.counted c.in-Ok-Reads.field-0-is c.in-Ok-Reads.ensures.told c.with_table.ensures.told

pub returns-in-Ok-Says-clause-told : goal.returns-in-Ok-Says-clause-told
returns-in-Ok-Says-clause-told g c =
    says_told g.F.Shelf.told c.args.shelf.now c.table_to_begin.new.shelf (texts c.args.words.now) c.args.command (drop c.args.command.start (texts c.args.words.now))
    (g.F.Shelf.read_faults c.args.shelf.now) (g.F.Shelf.read_faults c.table_to_begin.new.shelf) _ c.in-Ok-Says.answer c.requires.checks c.in-Ok-Says.field-0-is c.in-Ok-Says.ensures.told
