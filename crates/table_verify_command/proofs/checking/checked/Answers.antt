use Rattle.analysis_sources.specs.Words.{texts}
use Rattle.table_verify_command.proofs.StepExits.{after_reading, table_is_read, table_says}
use Rattle.table_verify_command.proofs.checking.checked.Goals as goal

pub checked_with-requires : goal.checked_with-requires
checked_with-requires g c = (
  c.requires.0,
  c.requires.1,
  c.requires.2,
  table_is_read c.args.words.now (g.F.Shelf.held c.args.shelf.now) (g.F.Shelf.held c.named_table.new.shelf) (g.F.Shelf.read_faults c.args.shelf.now) (g.F.Shelf.read_faults c.named_table.new.shelf) c.requires.0 c.requires.1 c.requires.2
      _ _ c.in-Ok-Reads.table c.in-Ok-Reads.field-0-is c.in-Ok-Reads.ensures.held c.in-Ok-Reads.ensures.read,
)

pub returns-in-Ok-Reads-clause-intended : goal.returns-in-Ok-Reads-clause-intended
returns-in-Ok-Reads-clause-intended g c =
    after_reading (texts c.args.words.now) (g.F.Shelf.held c.args.shelf.now) (g.F.Shelf.held c.named_table.new.shelf) (g.F.Shelf.held c.checked_with.new.shelf) (g.F.Shelf.read_faults c.args.shelf.now)
    (g.F.Shelf.read_faults c.named_table.new.shelf) (g.F.Shelf.read_faults c.checked_with.new.shelf) (g.F.Shelf.replace_faults c.args.shelf.now)
    (g.F.Shelf.replace_faults c.named_table.new.shelf) (g.F.Shelf.replace_faults c.checked_with.new.shelf)
    c.checked_with.result c.in-Ok-Reads.ensures.held c.in-Ok-Reads.ensures.counted c.in-Ok-Reads.ensures.replaces c.checked_with.ensures.intended

pub returns-in-Ok-Says-clause-intended : goal.returns-in-Ok-Says-clause-intended
returns-in-Ok-Says-clause-intended g c =
    table_says c.args.words.now (g.F.Shelf.held c.args.shelf.now) (g.F.Shelf.held c.named_table.new.shelf) (g.F.Shelf.read_faults c.args.shelf.now) (g.F.Shelf.read_faults c.named_table.new.shelf) c.requires.0 c.requires.1 c.requires.2
    (g.F.Shelf.replace_faults c.args.shelf.now) (g.F.Shelf.replace_faults c.named_table.new.shelf) _ _ c.in-Ok-Says.answer c.in-Ok-Says.field-0-is c.in-Ok-Says.ensures.held c.in-Ok-Says.ensures.replaces c.in-Ok-Says.ensures.read
