use Rattle.std.proofs.Common.{ℕ, ◌<◌, drop, length, sym, subst}
use Rattle.analysis_sources.specs.Reading.{Fails}
use Rattle.analysis_sources.specs.Words.{texts}
use Rattle.analysis_answers.proofs.FileWords.{failed_within, refused_within}
use Rattle.table_verify_command.proofs.ReadExits.{failed_file, refused_file}
use Rattle.table_verify_command.proofs.reading.named_files.Goals as goal

pub bounds-words-word : goal.bounds-words-word
bounds-words-word g c =
    subst (λ (w : ℕ). w < length c.args.words.now) (sym c.in-Err-Refused.word-is)
    (refused_within c.args.words.now c.args.start (g.F.Shelf.held c.args.shelf.now) (g.F.Shelf.read_faults c.args.shelf.now) (g.F.Shelf.read_faults c.read_sources.new.shelf) c.in-Err-Refused.word c.in-Err-Refused.fault
    (subst (Fails (g.F.Shelf.held c.args.shelf.now) (drop c.args.start (texts c.args.words.now)) c.args.start (g.F.Shelf.read_faults c.args.shelf.now)
    (g.F.Shelf.read_faults c.read_sources.new.shelf)) c.in-Err-Refused.field-0-is c.in-Err-Refused.ensures.fault))

pub bounds-words-word-in-Err-Failed : goal.bounds-words-word-in-Err-Failed
bounds-words-word-in-Err-Failed g c =
    subst (λ (w : ℕ). w < length c.args.words.now) (sym c.in-Err-Failed.word-is)
    (failed_within c.args.words.now c.args.start (g.F.Shelf.held c.args.shelf.now) (g.F.Shelf.read_faults c.args.shelf.now) (g.F.Shelf.read_faults c.read_sources.new.shelf) c.in-Err-Failed.word
    (subst (Fails (g.F.Shelf.held c.args.shelf.now) (drop c.args.start (texts c.args.words.now)) c.args.start (g.F.Shelf.read_faults c.args.shelf.now)
    (g.F.Shelf.read_faults c.read_sources.new.shelf)) c.in-Err-Failed.field-0-is c.in-Err-Failed.ensures.fault))

pub returns-in-Ok-clause-read : goal.returns-in-Ok-clause-read
returns-in-Ok-clause-read g c = record { after = c.in-Ok.ensures.sources.0; read = c.in-Ok.ensures.sources.1 }

pub returns-in_ok-answer-in-Err-Refused-clause-read : goal.returns-in_ok-answer-in-Err-Refused-clause-read
returns-in_ok-answer-in-Err-Refused-clause-read g c =
    refused_file c.args.words.now c.args.start (g.F.Shelf.held c.args.shelf.now) (g.F.Shelf.read_faults c.args.shelf.now) (g.F.Shelf.read_faults c.read_sources.new.shelf) c.in-Err-Refused.word _ c.in-Err-Refused.fault _ _
    c.in_ok-answer-in-Err-Refused.answer.status c.in_ok-answer-in-Err-Refused.answer.output
    (subst (Fails (g.F.Shelf.held c.args.shelf.now) (drop c.args.start (texts c.args.words.now)) c.args.start (g.F.Shelf.read_faults c.args.shelf.now)
    (g.F.Shelf.read_faults c.read_sources.new.shelf)) c.in-Err-Refused.field-0-is c.in-Err-Refused.ensures.fault)
    c.in-Err-Refused.word-is c.in-Err-Refused.fault-is c.in_ok-answer-in-Err-Refused.ensures.status c.in_ok-answer-in-Err-Refused.ensures.output

pub returns-in_ok-answer-in-Err-Failed-clause-read : goal.returns-in_ok-answer-in-Err-Failed-clause-read
returns-in_ok-answer-in-Err-Failed-clause-read g c =
    failed_file c.args.words.now c.args.start (g.F.Shelf.held c.args.shelf.now) (g.F.Shelf.read_faults c.args.shelf.now) (g.F.Shelf.read_faults c.read_sources.new.shelf) c.in-Err-Failed.word _ _
    c.in_ok-answer-in-Err-Failed.answer.status c.in_ok-answer-in-Err-Failed.answer.output
    (subst (Fails (g.F.Shelf.held c.args.shelf.now) (drop c.args.start (texts c.args.words.now)) c.args.start (g.F.Shelf.read_faults c.args.shelf.now)
    (g.F.Shelf.read_faults c.read_sources.new.shelf)) c.in-Err-Failed.field-0-is c.in-Err-Failed.ensures.fault)
    c.in-Err-Failed.word-is c.in_ok-answer-in-Err-Failed.ensures.status c.in_ok-answer-in-Err-Failed.ensures.output
