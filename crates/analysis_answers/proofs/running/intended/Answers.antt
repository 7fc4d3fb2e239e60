use Rattle.analysis_sources.specs.Refusals.{line}
use Rattle.analysis_sources.specs.Words.{texts}
use Rattle.table_keep.specs.Model.{sources_so}
use Rattle.analysis_answers.proofs.AnswerExits.{as_many, intended_so, reads_so, says_so}
use Rattle.analysis_answers.proofs.running.intended.Goals as goal

pub answered-requires-clause-named : goal.answered-requires-clause-named
answered-requires-clause-named g c =
    (reads_so (line c.usage-usage.result.now) (texts c.args.words.now) (g.F.Shelf.held c.args.shelf.now) (g.F.Shelf.read_faults c.args.shelf.now) (g.F.Shelf.read_faults c.read_files.new.shelf) _
    c.in-Ok-Reads.sources c.in-Ok-Reads.field-0-is c.in-Ok-Reads.ensures.read).0

pub answered-requires-clause-whole : goal.answered-requires-clause-whole
answered-requires-clause-whole g c =
    as_many (g.F.Shelf.held c.args.shelf.now) c.args.words.now c.in-Ok-Reads.sources
    (reads_so (line c.usage-usage.result.now) (texts c.args.words.now) (g.F.Shelf.held c.args.shelf.now) (g.F.Shelf.read_faults c.args.shelf.now) (g.F.Shelf.read_faults c.read_files.new.shelf) _
    c.in-Ok-Reads.sources c.in-Ok-Reads.field-0-is c.in-Ok-Reads.ensures.read).1

pub returns-in-Ok-Reads-clause-intended : goal.returns-in-Ok-Reads-clause-intended
returns-in-Ok-Reads-clause-intended g c =
    let read = reads_so (line c.usage-usage.result.now) (texts c.args.words.now) (g.F.Shelf.held c.args.shelf.now) (g.F.Shelf.read_faults c.args.shelf.now)
    (g.F.Shelf.read_faults c.read_files.new.shelf) _ c.in-Ok-Reads.sources c.in-Ok-Reads.field-0-is c.in-Ok-Reads.ensures.read in
    intended_so g.P.FileProgram.gives g.P.FileProgram.usage_line (g.F.Shelf.held c.args.shelf.now) (g.F.Shelf.read_faults c.args.shelf.now) (g.F.Shelf.read_faults c.read_files.new.shelf)
    (texts c.args.words.now) (sources_so c.in-Ok-Reads.sources) c.answered.result read.0 read.1 c.answered.ensures

pub returns-in-Ok-Says-clause-intended : goal.returns-in-Ok-Says-clause-intended
returns-in-Ok-Says-clause-intended g c =
    says_so g.P.FileProgram.gives (line c.usage-usage.result.now) g.P.FileProgram.usage_line (texts c.args.words.now) (g.F.Shelf.held c.args.shelf.now) (g.F.Shelf.read_faults c.args.shelf.now)
    (g.F.Shelf.read_faults c.read_files.new.shelf) _ c.in-Ok-Says.answer c.usage-usage.ensures c.in-Ok-Says.field-0-is c.in-Ok-Says.ensures.read
