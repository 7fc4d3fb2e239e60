use Rattle.std.proofs.Common.{map, refl, subst}
use Rattle.core_scope.specs.Checked.{module_of}
use Rattle.table_keep.specs.declared.source.Source.{Source as HandedIn}
use Rattle.analysis_sources.specs.Words.{texts}
use Rattle.analysis_answers.specs.Programs.{IsOutputFault}
use Rattle.analysis_answers.proofs.AnswerExits.{gives_so, twins_so}
use Rattle.analysis_answers.proofs.running.answer_of.Goals as goal

pub returns-in-Ok : goal.returns-in-Ok
returns-in-Ok g c = gives_so g.P.FileProgram.gives (texts c.args.words.now) c.args.sources.now c.in-Ok.output c.in-Ok.ensures.distinct c.in-Ok.ensures.gives

pub returns-in-Err-Set-DuplicateModule : goal.returns-in-Err-Set-DuplicateModule
returns-in-Err-Set-DuplicateModule g c =
    twins_so g.P.FileProgram.gives c.args.words.now c.args.sources.now c.in-Err-Set-DuplicateModule.field-0-0 _ _ c.refuse_second.result c.requires.whole
    (subst (IsOutputFault (map (λ (s : HandedIn). (module_of s.checked).name) c.args.sources.now)) c.in-Err-Set-DuplicateModule.field-0-is c.in-Err-Set-DuplicateModule.ensures.set)
    c.refuse_second.ensures.status c.refuse_second.ensures.output (λ i j e. (rw e refl, rw e refl))
