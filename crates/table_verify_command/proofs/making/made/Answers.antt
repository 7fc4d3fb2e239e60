use Rattle.table_verify_command.proofs.StepExits.{make_says, make_whole, stored_answer}
use Rattle.table_verify_command.proofs.making.made.Goals as goal

pub plan_of-requires-clause-whole : goal.plan_of-requires-clause-whole
plan_of-requires-clause-whole g c κs within =
    make_whole c.args.words.now (g.F.Shelf.held c.args.shelf.now) (g.F.Shelf.read_faults c.args.shelf.now) (g.F.Shelf.read_faults c.named_files.new.shelf) c.requires.1 _
    c.in-Ok-Reads.sources c.in-Ok-Reads.field-0-is c.in-Ok-Reads.ensures.read

pub returns-in_ok-plan-in-Ok-Reads-clause-intended : goal.returns-in_ok-plan-in-Ok-Reads-clause-intended
returns-in_ok-plan-in-Ok-Reads-clause-intended g c =
    stored_answer c.args.words.now (g.F.Shelf.held c.args.shelf.now) (g.F.Shelf.held c.named_files.new.shelf) (g.F.Shelf.read_faults c.args.shelf.now) (g.F.Shelf.read_faults c.named_files.new.shelf) c.requires.0 c.requires.1
    _ (g.F.Shelf.held c.stored.new.shelf) (g.F.Shelf.replace_faults c.args.shelf.now) (g.F.Shelf.replace_faults c.named_files.new.shelf) (g.F.Shelf.replace_faults c.stored.new.shelf) (g.F.Shelf.read_faults c.stored.new.shelf)
    _ c.in-Ok-Reads.sources c.in_ok-plan-in-Ok-Reads.plan c.stored.result c.in-Ok-Reads.field-0-is c.in-Ok-Reads.ensures.held c.in-Ok-Reads.ensures.replaces c.stored.ensures.reads c.in-Ok-Reads.ensures.read
    c.in_ok-plan-in-Ok-Reads.ensures c.stored.ensures.stored

pub returns-in-Ok-Says-clause-intended : goal.returns-in-Ok-Says-clause-intended
returns-in-Ok-Says-clause-intended g c =
    make_says c.args.words.now (g.F.Shelf.held c.args.shelf.now) (g.F.Shelf.held c.named_files.new.shelf) (g.F.Shelf.read_faults c.args.shelf.now) (g.F.Shelf.read_faults c.named_files.new.shelf) c.requires.0 c.requires.1
    (g.F.Shelf.replace_faults c.args.shelf.now) (g.F.Shelf.replace_faults c.named_files.new.shelf) _ c.in-Ok-Says.answer c.in-Ok-Says.field-0-is c.in-Ok-Says.ensures.held c.in-Ok-Says.ensures.read
