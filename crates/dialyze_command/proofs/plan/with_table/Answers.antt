use Rattle.std.proofs.Common.{ℕ, List, ◌<◌, drop, length, sym, subst, arith}
use Rattle.analysis_sources.specs.Reading.{AreUpTo, Fails}
use Rattle.analysis_sources.specs.Words.{texts}
use Rattle.analysis_answers.proofs.FileWords.{failed_within, refused_within}
use Rattle.dialyze_command.proofs.Places.{start_small}
use Rattle.dialyze_command.proofs.PlanExits.{few_words, whole_words, judged_words, refused_words, unread_words}
use Rattle.dialyze_command.proofs.ToldExits.{judged_told, refused_told, unread_told}
use Rattle.da_shelf.specs.Reads.{IsTold}
use Rattle.dialyze_command.proofs.plan.with_table.Goals as goal

pub overflow_cast-command : goal.overflow_cast-command
overflow_cast-command g c = omega (arith, start_small c.requires.checks.check)

pub read_sources-requires-clause-few : goal.read_sources-requires-clause-few
read_sources-requires-clause-few g c = few_words c.args.words.now c.args.command c.requires.checks

pub judge-requires-clause-whole : goal.judge-requires-clause-whole
judge-requires-clause-whole g c κs within = whole_words c.args.words.now c.args.command c.requires.checks (g.F.Shelf.held c.args.shelf.now) c.in-Ok.sources c.in-Ok.ensures.sources

pub bounds-words-word : goal.bounds-words-word
bounds-words-word g c =
    subst (λ (w : ℕ). w < length c.args.words.now) (sym c.in-Err-Refused.word-is)
    (refused_within c.args.words.now c.args.command.start (g.F.Shelf.held c.args.shelf.now) (g.F.Shelf.read_faults c.args.shelf.now) (g.F.Shelf.read_faults c.read_sources.new.shelf) c.in-Err-Refused.word c.in-Err-Refused.fault
    (subst (Fails (g.F.Shelf.held c.args.shelf.now) (drop c.args.command.start (texts c.args.words.now)) c.args.command.start (g.F.Shelf.read_faults c.args.shelf.now)
    (g.F.Shelf.read_faults c.read_sources.new.shelf)) c.in-Err-Refused.field-0-is c.in-Err-Refused.ensures.fault))

pub bounds-words-word-in-Err-Failed : goal.bounds-words-word-in-Err-Failed
bounds-words-word-in-Err-Failed g c =
    subst (λ (w : ℕ). w < length c.args.words.now) (sym c.in-Err-Failed.word-is)
    (failed_within c.args.words.now c.args.command.start (g.F.Shelf.held c.args.shelf.now) (g.F.Shelf.read_faults c.args.shelf.now) (g.F.Shelf.read_faults c.read_sources.new.shelf) c.in-Err-Failed.word
    (subst (Fails (g.F.Shelf.held c.args.shelf.now) (drop c.args.command.start (texts c.args.words.now)) c.args.command.start (g.F.Shelf.read_faults c.args.shelf.now)
    (g.F.Shelf.read_faults c.read_sources.new.shelf)) c.in-Err-Failed.field-0-is c.in-Err-Failed.ensures.fault))

pub returns-in-Ok-clause-plan : goal.returns-in-Ok-clause-plan
returns-in-Ok-clause-plan g c =
    judged_words c.args.words.now c.args.command c.requires.checks (g.F.Shelf.held c.args.shelf.now) (g.F.Shelf.read_faults c.args.shelf.now) (g.F.Shelf.read_faults c.read_sources.new.shelf)
    c.args.table.now c.requires.begun c.in-Ok.sources c.judge.result c.in-Ok.ensures.sources c.judge.ensures.judged

pub returns-in_ok-answer-in-Err-Refused-clause-plan : goal.returns-in_ok-answer-in-Err-Refused-clause-plan
returns-in_ok-answer-in-Err-Refused-clause-plan g c =
    refused_words c.args.words.now c.args.command c.requires.checks (g.F.Shelf.held c.args.shelf.now) (g.F.Shelf.read_faults c.args.shelf.now)
    (g.F.Shelf.read_faults c.read_sources.new.shelf) c.args.table.now c.requires.begun c.in-Err-Refused.word c.in-Err-Refused.fault _ _ _
    c.in_ok-answer-in-Err-Refused.answer.status c.in_ok-answer-in-Err-Refused.answer.output
    (subst (Fails (g.F.Shelf.held c.args.shelf.now) (drop c.args.command.start (texts c.args.words.now)) c.args.command.start (g.F.Shelf.read_faults c.args.shelf.now)
    (g.F.Shelf.read_faults c.read_sources.new.shelf)) c.in-Err-Refused.field-0-is c.in-Err-Refused.ensures.fault)
    c.in-Err-Refused.word-is c.in-Err-Refused.fault-is c.in_ok-answer-in-Err-Refused.ensures.status c.in_ok-answer-in-Err-Refused.ensures.output

pub returns-in_ok-answer-in-Err-Failed-clause-plan : goal.returns-in_ok-answer-in-Err-Failed-clause-plan
returns-in_ok-answer-in-Err-Failed-clause-plan g c =
    unread_words c.args.words.now c.args.command c.requires.checks (g.F.Shelf.held c.args.shelf.now) (g.F.Shelf.read_faults c.args.shelf.now) (g.F.Shelf.read_faults c.read_sources.new.shelf)
    c.args.table.now c.requires.begun c.in-Err-Failed.word _ _
    c.in_ok-answer-in-Err-Failed.answer.status c.in_ok-answer-in-Err-Failed.answer.output
    (subst (Fails (g.F.Shelf.held c.args.shelf.now) (drop c.args.command.start (texts c.args.words.now)) c.args.command.start (g.F.Shelf.read_faults c.args.shelf.now)
    (g.F.Shelf.read_faults c.read_sources.new.shelf)) c.in-Err-Failed.field-0-is c.in-Err-Failed.ensures.fault)
    c.in-Err-Failed.word-is c.in_ok-answer-in-Err-Failed.ensures.status c.in_ok-answer-in-Err-Failed.ensures.output

pub returns-in-Ok-clause-told : goal.returns-in-Ok-clause-told
returns-in-Ok-clause-told g c =
    judged_told g.F.Shelf.told c.args.shelf.now c.read_sources.new.shelf c.args.words.now c.args.command c.requires.checks c.args.table.now (g.F.Shelf.read_faults c.args.shelf.now) (g.F.Shelf.read_faults c.read_sources.new.shelf)
    c.in-Ok.sources c.judge.result c.in-Ok.ensures.told c.judge.ensures.judged

pub returns-in_ok-answer-in-Err-Refused-clause-told : goal.returns-in_ok-answer-in-Err-Refused-clause-told
returns-in_ok-answer-in-Err-Refused-clause-told g c =
    let files = drop c.args.command.start (texts c.args.words.now) in
    refused_told g.F.Shelf.told c.args.shelf.now c.read_sources.new.shelf c.args.words.now c.args.command c.requires.checks c.args.table.now (g.F.Shelf.read_faults c.args.shelf.now) (g.F.Shelf.read_faults c.read_sources.new.shelf)
    c.in-Err-Refused.word c.in-Err-Refused.fault _ _ _ c.in_ok-answer-in-Err-Refused.answer.status c.in_ok-answer-in-Err-Refused.answer.output
    (subst (λ f. (names : List (List ℕ)) × AreUpTo c.args.command.start files names f × IsTold g.F.Shelf.told c.args.shelf.now c.read_sources.new.shelf names
    (λ held. Fails held files c.args.command.start (g.F.Shelf.read_faults c.args.shelf.now) (g.F.Shelf.read_faults c.read_sources.new.shelf) f)) c.in-Err-Refused.field-0-is c.in-Err-Refused.ensures.told_fault)
    c.in-Err-Refused.word-is c.in-Err-Refused.fault-is c.in_ok-answer-in-Err-Refused.ensures.status c.in_ok-answer-in-Err-Refused.ensures.output

pub returns-in_ok-answer-in-Err-Failed-clause-told : goal.returns-in_ok-answer-in-Err-Failed-clause-told
returns-in_ok-answer-in-Err-Failed-clause-told g c =
    let files = drop c.args.command.start (texts c.args.words.now) in
    unread_told g.F.Shelf.told c.args.shelf.now c.read_sources.new.shelf c.args.words.now c.args.command c.requires.checks c.args.table.now (g.F.Shelf.read_faults c.args.shelf.now) (g.F.Shelf.read_faults c.read_sources.new.shelf)
    c.in-Err-Failed.word _ _ c.in_ok-answer-in-Err-Failed.answer.status c.in_ok-answer-in-Err-Failed.answer.output
    (subst (λ f. (names : List (List ℕ)) × AreUpTo c.args.command.start files names f × IsTold g.F.Shelf.told c.args.shelf.now c.read_sources.new.shelf names
    (λ held. Fails held files c.args.command.start (g.F.Shelf.read_faults c.args.shelf.now) (g.F.Shelf.read_faults c.read_sources.new.shelf) f)) c.in-Err-Failed.field-0-is c.in-Err-Failed.ensures.told_fault)
    c.in-Err-Failed.word-is c.in_ok-answer-in-Err-Failed.ensures.status c.in_ok-answer-in-Err-Failed.ensures.output
