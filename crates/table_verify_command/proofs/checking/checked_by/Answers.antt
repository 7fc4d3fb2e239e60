use Rattle.table_verify_command.proofs.StepExits.{check_whole, files_say, judged_answer}
use Rattle.table_verify_command.proofs.checking.checked_by.Goals as goal

pub judge-requires-clause-whole : goal.judge-requires-clause-whole
judge-requires-clause-whole g c =
    check_whole c.args.words.now (g.F.Shelf.held c.args.shelf.now) (g.F.Shelf.read_faults c.args.shelf.now) (g.F.Shelf.read_faults c.named_files.new.shelf) c.requires.2 _
    c.in-Ok-Reads.sources c.in-Ok-Reads.field-0-is c.in-Ok-Reads.ensures.read

pub returns-in-Ok-Reads-clause-intended : goal.returns-in-Ok-Reads-clause-intended
returns-in-Ok-Reads-clause-intended g c =
    judged_answer c.args.words.now (g.F.Shelf.held c.args.shelf.now) (g.F.Shelf.held c.named_files.new.shelf) (g.F.Shelf.read_faults c.args.shelf.now) (g.F.Shelf.read_faults c.named_files.new.shelf) c.requires.0 c.requires.1 c.requires.2
    c.args.table.now c.requires.3 c.args.cert.now c.requires.4 (g.F.Shelf.replace_faults c.args.shelf.now) (g.F.Shelf.replace_faults c.named_files.new.shelf) _ c.in-Ok-Reads.sources c.judge.result c.in-Ok-Reads.field-0-is
    c.in-Ok-Reads.ensures.held c.in-Ok-Reads.ensures.read c.judge.ensures

pub returns-in-Ok-Says-clause-intended : goal.returns-in-Ok-Says-clause-intended
returns-in-Ok-Says-clause-intended g c =
    files_say c.args.words.now (g.F.Shelf.held c.args.shelf.now) (g.F.Shelf.held c.named_files.new.shelf) (g.F.Shelf.read_faults c.args.shelf.now) (g.F.Shelf.read_faults c.named_files.new.shelf) c.requires.0 c.requires.1 c.requires.2
    c.args.table.now c.requires.3 c.args.cert.now c.requires.4 (g.F.Shelf.replace_faults c.args.shelf.now) (g.F.Shelf.replace_faults c.named_files.new.shelf) _ c.in-Ok-Says.answer
    c.in-Ok-Says.field-0-is c.in-Ok-Says.ensures.held c.in-Ok-Says.ensures.read
