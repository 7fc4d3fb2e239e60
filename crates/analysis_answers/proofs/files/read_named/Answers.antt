use Rattle.std.proofs.Common.{subst}
use Rattle.analysis_sources.specs.Reading.{Fails}
use Rattle.analysis_sources.specs.Words.{texts}
use Rattle.analysis_answers.proofs.FileExits.{refused_stop, failed_stop}
use Rattle.analysis_answers.proofs.files.read_named.Goals as goal

pub returns-in_ok-answer-in-Err-Refused-clause-read : goal.returns-in_ok-answer-in-Err-Refused-clause-read
returns-in_ok-answer-in-Err-Refused-clause-read g c = λ usage_line.
    refused_stop c.args.words.now (g.F.Shelf.held c.args.shelf.now) (g.F.Shelf.read_faults c.args.shelf.now) (g.F.Shelf.read_faults c.read_sources.new.shelf) usage_line c.requires.named
    _ c.in-Err-Refused.word _ c.in-Err-Refused.fault _ _ _
    (subst (Fails (g.F.Shelf.held c.args.shelf.now) (texts c.args.words.now) 0 (g.F.Shelf.read_faults c.args.shelf.now) (g.F.Shelf.read_faults c.read_sources.new.shelf)) c.in-Err-Refused.field-0-is c.in-Err-Refused.ensures.fault)
    c.in-Err-Refused.word-is c.in-Err-Refused.fault-is c.in_ok-answer-in-Err-Refused.ensures.status c.in_ok-answer-in-Err-Refused.ensures.output

pub returns-in_ok-answer-in-Err-Failed-clause-read : goal.returns-in_ok-answer-in-Err-Failed-clause-read
returns-in_ok-answer-in-Err-Failed-clause-read g c = λ usage_line.
    failed_stop c.args.words.now (g.F.Shelf.held c.args.shelf.now) (g.F.Shelf.read_faults c.args.shelf.now) (g.F.Shelf.read_faults c.read_sources.new.shelf) usage_line c.requires.named
    _ c.in-Err-Failed.word _ _ _
    (subst (Fails (g.F.Shelf.held c.args.shelf.now) (texts c.args.words.now) 0 (g.F.Shelf.read_faults c.args.shelf.now) (g.F.Shelf.read_faults c.read_sources.new.shelf)) c.in-Err-Failed.field-0-is c.in-Err-Failed.ensures.fault)
    c.in-Err-Failed.word-is c.in_ok-answer-in-Err-Failed.ensures.status c.in_ok-answer-in-Err-Failed.ensures.output
