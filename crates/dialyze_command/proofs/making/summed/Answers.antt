use Rattle.std.proofs.Common.{◌≤◌, length, sym, subst, arith}
use Rattle.std.specs.Prelude.{IfOk}
use Rattle.table_keep.specs.Model.{sources_so, trees}
use Rattle.analysis_sources.specs.declared.reading.ReadFault.TheVariants as read
use Rattle.analysis_sources.specs.Reading.{TextFails}
use Rattle.analysis_answers.specs.ReadFiles.{HaveOwnNames}
use Rattle.dialyze_command.specs.Words.{most_modules}
use Rattle.dialyze_command.specs.steps.Puts.{IsCounted}
use Rattle.dialyze_command.proofs.GeneratedTexts.{none_refused, own_names}
use Rattle.dialyze_command.proofs.MakeExits.{all_read, as_many, fails_there, summed_it}
use Rattle.dialyze_command.proofs.MakeFiles.{texts_many}
use Rattle.dialyze_command.proofs.making.summed.Goals as goal

pub sources_of-requires : goal.sources_of-requires
sources_of-requires g c = record { few = omega (arith, texts_many c.args.count c.args.texts.now c.requires.texts, c.requires.most) }

pub judge-answer-requires-clause-few : goal.judge-answer-requires-clause-few
judge-answer-requires-clause-few g c κs within =
    subst (λ ss. length ss ≤ most_modules) (sym c.as_slice.ensures)
    (omega (arith, c.requires.most, as_many c.args.count (omega (arith, c.requires.most)) c.args.texts.now c.requires.texts c.in-Ok.sources c.in-Ok.ensures.sources))

pub judge-answer-requires-clause-names : goal.judge-answer-requires-clause-names
judge-answer-requires-clause-names g c κs within =
    let read = all_read c.args.count (omega (arith, c.requires.most)) c.args.texts.now c.requires.texts c.in-Ok.sources c.in-Ok.ensures.sources in
    subst (λ ss. HaveOwnNames (trees (sources_so ss))) (sym c.as_slice.ensures)
    (own_names c.generated_is_accepted.ensures.accepted c.generated_is_accepted.ensures.short c.spelled_module_is_read.ensures.no_other c.spelled_module_is_read.ensures.no_fault c.args.count
    c.requires.most read.0 (sources_so c.in-Ok.sources) read.1)

pub unreachable-requires : goal.unreachable-requires
unreachable-requires g c =
    none_refused c.generated_is_accepted.ensures.accepted c.generated_is_accepted.ensures.short c.spelled_module_is_read.ensures.no_other c.spelled_module_is_read.ensures.no_fault
    c.args.count c.requires.most c.in-Err-Refused.field-0-0 c.in-Err-Refused.field-0-1
    (fails_there c.args.count (read.Refused c.in-Err-Refused.field-0-0 c.in-Err-Refused.field-0-1) c.args.texts.now (omega (arith, c.requires.most)) c.requires.texts
    (λ told files h. subst (TextFails told files) c.in-Err-Refused.field-0-is (c.in-Err-Refused.ensures.fault told files h)))

pub unreachable-requires-in-Err-Failed : goal.unreachable-requires-in-Err-Failed
unreachable-requires-in-Err-Failed g c =
    fails_there c.args.count (read.Failed c.in-Err-Failed.field-0-0) c.args.texts.now (omega (arith, c.requires.most)) c.requires.texts
    (λ told files h. subst (TextFails told files) c.in-Err-Failed.field-0-is (c.in-Err-Failed.ensures.fault told files h))

pub returns-in-Ok : goal.returns-in-Ok
returns-in-Ok g c =
    summed_it c.args.count (omega (arith, c.requires.most)) c.args.texts.now c.requires.texts c.in-Ok.sources c.in-Ok.ensures.sources c.judge-answer.result
    (subst (λ ss. IfOk c.judge-answer.result (λ a. IsCounted (sources_so ss) a.status a.output)) c.as_slice.ensures c.judge-answer.ensures)
