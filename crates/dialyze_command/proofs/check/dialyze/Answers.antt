use Rattle.std.proofs.Common.{◌∙◌, ap}
use Rattle.da_shelf.specs.Told.{appended}
use Rattle.dialyze_command.proofs.CheckExits.{answers_it, usage_it, too_many_it, possible_it, makes_it, stays_it}
use Rattle.dialyze_command.proofs.Causes as causes
use Rattle.dialyze_command.proofs.KeptExits as kept
use Rattle.dialyze_command.proofs.ReportExits.{clean_it, warned_it}
use Rattle.dialyze_command.proofs.ToldExits.{answers_told}
use Rattle.dialyze_command.proofs.check.dialyze.Goals as goal

pub returns-in-Ok-give-clause-outcome : goal.returns-in-Ok-give-clause-outcome
returns-in-Ok-give-clause-outcome g c =
    λ a. answers_it _ _ _ _ _ _ _ _ c.in-Ok.answer.output _ _ c.in-Ok.ensures.intended (c.in-Ok-give.ensures.all ∙ ap (appended (g.K.Sink.written c.args.out.now)) c.as_slice.ensures) a

pub returns-in-Ok-give-clause-kept : goal.returns-in-Ok-give-clause-kept
returns-in-Ok-give-clause-kept g c =
    λ asks a. kept.kept_it c.kept_is_from_scratch.ensures c.table_is_of_sources.ensures c.reports_are_found.ensures c.nothing_is_false.ensures.whole c.findings_are_tied.ensures.lines _ _ _ _ _ _ _ _ c.in-Ok.answer.output _ _
    c.in-Ok.ensures.intended (c.in-Ok-give.ensures.all ∙ ap (appended (g.K.Sink.written c.args.out.now)) c.as_slice.ensures) asks a

pub returns-in-Ok-give-clause-sound : goal.returns-in-Ok-give-clause-sound
returns-in-Ok-give-clause-sound g c =
    λ asks a. kept.sound_it c.kept_is_from_scratch.ensures c.table_is_of_sources.ensures c.reports_are_found.ensures c.nothing_is_false.ensures.whole c.findings_are_tied.ensures.lines _ _ _ _ _ _ _ _ c.in-Ok.answer.output _ _
    c.in-Ok.ensures.intended (c.in-Ok-give.ensures.all ∙ ap (appended (g.K.Sink.written c.args.out.now)) c.as_slice.ensures) asks a

pub returns-in-Ok-give-clause-usage : goal.returns-in-Ok-give-clause-usage
returns-in-Ok-give-clause-usage g c = λ a. usage_it _ _ _ _ _ _ _ _ _ c.in-Ok.ensures.intended a

pub returns-in-Ok-give-clause-too_many : goal.returns-in-Ok-give-clause-too_many
returns-in-Ok-give-clause-too_many g c = λ a. too_many_it _ _ _ _ _ _ _ _ _ c.in-Ok.ensures.intended a

pub returns-in-Ok-give-clause-missing : goal.returns-in-Ok-give-clause-missing
returns-in-Ok-give-clause-missing g c =
    λ a. causes.missing_it c.one_reading_of_files.ensures.one_list c.one_reading_of_files.ensures.one_refusal c.one_reading_of_files.ensures.none_refused c.table_laws.ensures.fault_once c.table_laws.ensures.no_fault _ _ _ _ _ _ _ _ _
    c.in-Ok.ensures.intended a

pub returns-in-Ok-give-clause-bad_table : goal.returns-in-Ok-give-clause-bad_table
returns-in-Ok-give-clause-bad_table g c =
    λ a. causes.bad_table_it c.one_reading_of_files.ensures.one_list c.one_reading_of_files.ensures.one_refusal c.one_reading_of_files.ensures.none_refused c.table_laws.ensures.fault_once c.table_laws.ensures.no_fault _ _ _ _ _ _ _ _ _
    c.in-Ok.ensures.intended a

pub returns-in-Ok-give-clause-too_long : goal.returns-in-Ok-give-clause-too_long
returns-in-Ok-give-clause-too_long g c =
    λ a. causes.too_long_it c.one_reading_of_files.ensures.one_list c.one_reading_of_files.ensures.one_refusal c.one_reading_of_files.ensures.none_refused c.table_laws.ensures.fault_once c.table_laws.ensures.no_fault _ _ _ _ _ _ _ _ _
    c.in-Ok.ensures.intended a

pub returns-in-Ok-give-clause-only_too_long : goal.returns-in-Ok-give-clause-only_too_long
returns-in-Ok-give-clause-only_too_long g c =
    λ a. causes.only_too_long_it c.one_reading_of_files.ensures.one_list c.one_reading_of_files.ensures.one_refusal c.one_reading_of_files.ensures.none_refused c.table_laws.ensures.fault_once c.table_laws.ensures.no_fault _ _ _ _ _ _ _ _ _
    c.in-Ok.ensures.intended a

pub returns-in-Ok-give-clause-not_scanned : goal.returns-in-Ok-give-clause-not_scanned
returns-in-Ok-give-clause-not_scanned g c =
    λ a. causes.not_scanned_it c.one_reading_of_files.ensures.one_list c.one_reading_of_files.ensures.one_refusal c.one_reading_of_files.ensures.none_refused c.table_laws.ensures.fault_once c.table_laws.ensures.no_fault _ _ _ _ _ _ _ _ _
    c.in-Ok.ensures.intended a

pub returns-in-Ok-give-clause-not_parsed : goal.returns-in-Ok-give-clause-not_parsed
returns-in-Ok-give-clause-not_parsed g c =
    λ a. causes.not_parsed_it c.one_reading_of_files.ensures.one_list c.one_reading_of_files.ensures.one_refusal c.one_reading_of_files.ensures.none_refused c.table_laws.ensures.fault_once c.table_laws.ensures.no_fault _ _ _ _ _ _ _ _ _
    c.in-Ok.ensures.intended a

pub returns-in-Ok-give-clause-not_accepted : goal.returns-in-Ok-give-clause-not_accepted
returns-in-Ok-give-clause-not_accepted g c =
    λ a. causes.not_accepted_it c.one_reading_of_files.ensures.one_list c.one_reading_of_files.ensures.one_refusal c.one_reading_of_files.ensures.none_refused c.table_laws.ensures.fault_once c.table_laws.ensures.no_fault _ _ _ _ _ _ _ _ _
    c.in-Ok.ensures.intended a

pub returns-in-Ok-give-clause-duplicate : goal.returns-in-Ok-give-clause-duplicate
returns-in-Ok-give-clause-duplicate g c =
    λ a. causes.duplicate_it c.one_reading_of_files.ensures.one_list c.one_reading_of_files.ensures.one_refusal c.one_reading_of_files.ensures.none_refused c.table_laws.ensures.fault_once c.table_laws.ensures.no_fault _ _ _ _ _ _ _ _ _
    c.in-Ok.ensures.intended a

pub returns-in-Ok-give-clause-checked : goal.returns-in-Ok-give-clause-checked
returns-in-Ok-give-clause-checked g c =
    λ a. causes.checked_it c.one_reading_of_files.ensures.one_list c.one_reading_of_files.ensures.one_refusal c.one_reading_of_files.ensures.none_refused c.table_laws.ensures.fault_once c.table_laws.ensures.no_fault _ _ _ _ _ _ _ _ _
    c.in-Ok.ensures.intended a

pub returns-in-Ok-give-clause-clean : goal.returns-in-Ok-give-clause-clean
returns-in-Ok-give-clause-clean g c = λ a. clean_it c.one_outcome.ensures.one _ _ _ _ _ _ _ _ c.in-Ok.answer.output c.in-Ok.ensures.intended a

pub returns-in-Ok-give-clause-warned : goal.returns-in-Ok-give-clause-warned
returns-in-Ok-give-clause-warned g c = λ a. warned_it c.one_outcome.ensures.one _ _ _ _ _ _ _ _ c.in-Ok.answer.output c.in-Ok.ensures.intended a

pub returns-in-Ok-give-clause-makes : goal.returns-in-Ok-give-clause-makes
returns-in-Ok-give-clause-makes g c = λ a count asks. makes_it _ _ _ _ _ _ _ _ c.in-Ok.answer.output c.in-Ok.ensures.intended a count asks

pub returns-in-Ok-give-clause-possible : goal.returns-in-Ok-give-clause-possible
returns-in-Ok-give-clause-possible g c = possible_it _ _ _ _ _ _ _ _ c.in-Ok.answer.output c.in-Ok.ensures.intended

pub returns-in-Ok-give-clause-held : goal.returns-in-Ok-give-clause-held
returns-in-Ok-give-clause-held g c = λ none a. stays_it _ _ _ _ _ _ _ _ c.in-Ok.answer.output c.in-Ok.ensures.intended none a

pub returns-in-Ok-give-clause-told : goal.returns-in-Ok-give-clause-told
returns-in-Ok-give-clause-told g c =
    λ a. answers_told g.F.Shelf.told g.F.Shelf.reads c.args.shelf.now c.args.shelf.now c.answered.new.shelf _ _ _ _ _ _ c.in-Ok.answer.output _ _ c.in-Ok.ensures.told
    (c.in-Ok-give.ensures.all ∙ ap (appended (g.K.Sink.written c.args.out.now)) c.as_slice.ensures) a
