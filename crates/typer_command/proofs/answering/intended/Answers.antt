use Rattle.std.proofs.Common.{refl}
use Rattle.analysis_sources.specs.Words.{texts}
use Rattle.table_keep.specs.Model.{sources_so}
use Rattle.typer_command.specs.Listed.{Lists, usage_line}
use Rattle.analysis_answers.proofs.AnswerExits.{as_many, intended_so, reads_so, says_so}
use Rattle.typer_command.proofs.answering.intended.Goals as goal

pub listed-requires-clause-whole : goal.listed-requires-clause-whole
listed-requires-clause-whole g c κs within =
    as_many (g.F.Shelf.held c.args.shelf.now) c.args.words.now c.in-Ok-Reads.sources
    (reads_so usage_line (texts c.args.words.now) (g.F.Shelf.held c.args.shelf.now) (g.F.Shelf.read_faults c.args.shelf.now) (g.F.Shelf.read_faults c.read_files.new.shelf) _
    c.in-Ok-Reads.sources c.in-Ok-Reads.field-0-is c.in-Ok-Reads.ensures.read).1

pub returns-in-Ok-Reads-clause-intended : goal.returns-in-Ok-Reads-clause-intended
returns-in-Ok-Reads-clause-intended g c =
    let read = reads_so usage_line (texts c.args.words.now) (g.F.Shelf.held c.args.shelf.now) (g.F.Shelf.read_faults c.args.shelf.now) (g.F.Shelf.read_faults c.read_files.new.shelf) _
    c.in-Ok-Reads.sources c.in-Ok-Reads.field-0-is c.in-Ok-Reads.ensures.read in
    intended_so Lists usage_line (g.F.Shelf.held c.args.shelf.now) (g.F.Shelf.read_faults c.args.shelf.now) (g.F.Shelf.read_faults c.read_files.new.shelf) (texts c.args.words.now)
    (sources_so c.in-Ok-Reads.sources) c.listed.result read.0 read.1 c.listed.ensures

pub returns-in-Ok-Says-clause-intended : goal.returns-in-Ok-Says-clause-intended
returns-in-Ok-Says-clause-intended g c =
    says_so Lists usage_line usage_line (texts c.args.words.now) (g.F.Shelf.held c.args.shelf.now) (g.F.Shelf.read_faults c.args.shelf.now) (g.F.Shelf.read_faults c.read_files.new.shelf) _
    c.in-Ok-Says.answer refl c.in-Ok-Says.field-0-is c.in-Ok-Says.ensures.read
