use Rattle.std.proofs.Common.{refl}
use Rattle.table_keep.specs.Model.{entries_so, sources_so}
use Rattle.analysis_sources.specs.Words.{texts}
use Rattle.table_verify_command.proofs.JudgeExits.{any_words, twice_judged}
use Rattle.table_verify_command.proofs.checking.judged.Goals as goal

pub returns-in-Ok : goal.returns-in-Ok
returns-in-Ok c = any_words (texts c.args.words.now) (entries_so c.args.table.now) (entries_so c.args.cert.now) (sources_so c.args.sources.now) c.verdict.result c.verdict.ensures

pub returns-in-Err-DuplicateModule : goal.returns-in-Err-DuplicateModule
returns-in-Err-DuplicateModule c =
    twice_judged c.args.words.now (entries_so c.args.table.now) (entries_so c.args.cert.now) c.args.sources.now c.in-Err-DuplicateModule.field-0 _ _ c.refuse_second.result c.requires.whole
    c.in-Err-DuplicateModule.ensures.duplicate (λ i j e. (rw e refl, rw e refl)) c.refuse_second.ensures.status c.refuse_second.ensures.output
