use Rattle.std.proofs.Common.{map, refl, subst}
use Rattle.core_scope.specs.Checked.{module_of}
use Rattle.table_keep.specs.declared.source.Source.{Source as HandedIn}
use Rattle.analysis.specs.Reports.{IsSetFault}
use Rattle.table_verify_command.proofs.JudgeExits.{certified_plan, twice_plan}
use Rattle.table_verify_command.proofs.StepExits.{called_so}
use Rattle.table_verify_command.proofs.making.planned.Goals as goal

pub returns-in-Ok : goal.returns-in-Ok
returns-in-Ok g c =
    certified_plan c.args.words.now _ c.args.sources.now c.in-Ok.cert c.in-Ok.cert c.spelled.result c.requires.some c.in-Ok.ensures.distinct c.in-Ok.ensures.certificate refl
    (λ name there. called_so c.args.words.now 1 _ name c.requires.some there) c.spelled.ensures

pub returns-in_ok-answer-in-Err-Set-DuplicateModule : goal.returns-in_ok-answer-in-Err-Set-DuplicateModule
returns-in_ok-answer-in-Err-Set-DuplicateModule g c =
    twice_plan c.args.words.now c.args.sources.now c.in-Err-Set-DuplicateModule.field-0-0 _ _ c.in_ok-answer-in-Err-Set-DuplicateModule.answer c.requires.whole
    (subst (IsSetFault (map (λ (s : HandedIn). (module_of s.checked).name) c.args.sources.now)) c.in-Err-Set-DuplicateModule.field-0-is c.in-Err-Set-DuplicateModule.ensures.set)
    (λ i j e. (rw e refl, rw e refl)) c.in_ok-answer-in-Err-Set-DuplicateModule.ensures.status c.in_ok-answer-in-Err-Set-DuplicateModule.ensures.output
