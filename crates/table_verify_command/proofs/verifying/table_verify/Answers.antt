use Rattle.std.proofs.Common.{◌∙◌, ap}
use Rattle.da_shelf.specs.Told.{appended}
use Rattle.table_verify_command.proofs.Causes as causes
use Rattle.table_verify_command.proofs.RunExits as exits
use Rattle.table_verify_command.proofs.verifying.table_verify.Goals as goal

pub returns-in-Ok-give-clause-outcome : goal.returns-in-Ok-give-clause-outcome
returns-in-Ok-give-clause-outcome g c =
    λ a. exits.answers_it _ _ _ _ _ _ _ _ c.in-Ok.answer.output _ _ c.in-Ok.ensures.intended (c.in-Ok-give.ensures.all ∙ ap (appended (g.K.Sink.written c.args.out.now)) c.as_slice.ensures) a

pub returns-in-Ok-give-clause-sound : goal.returns-in-Ok-give-clause-sound
returns-in-Ok-give-clause-sound g c =
    λ asks e. causes.sound_it c.one_reading_of_files.ensures.one_list c.one_reading_of_files.ensures.one_refusal c.one_reading_of_files.ensures.none_refused c.table_laws.ensures.once
    c.table_laws.ensures.fault_once c.table_laws.ensures.no_fault c.one_certificate.ensures c.one_first_rule.ensures c.rules_are_sound.ensures _ _ _ _ _ _ _ _ c.in-Ok.answer.output
    c.in-Ok.ensures.intended asks e

pub returns-in-Ok-give-clause-stores : goal.returns-in-Ok-give-clause-stores
returns-in-Ok-give-clause-stores g c =
    λ asks e. causes.stores_it c.one_reading_of_files.ensures.one_list c.one_reading_of_files.ensures.one_refusal c.one_reading_of_files.ensures.none_refused c.table_laws.ensures.once
    c.table_laws.ensures.fault_once c.table_laws.ensures.no_fault c.one_certificate.ensures c.one_first_rule.ensures c.rules_are_sound.ensures _ _ _ _ _ _ _ _ c.in-Ok.answer.output
    c.in-Ok.ensures.intended asks e

pub returns-in-Ok-give-clause-usage : goal.returns-in-Ok-give-clause-usage
returns-in-Ok-give-clause-usage g c =
    λ a. causes.usage_it _ _ _ _ _ _ _ _ c.in-Ok.answer.output c.in-Ok.ensures.intended a

pub returns-in-Ok-give-clause-too_many : goal.returns-in-Ok-give-clause-too_many
returns-in-Ok-give-clause-too_many g c =
    λ a. causes.many_it _ _ _ _ _ _ _ _ c.in-Ok.answer.output c.in-Ok.ensures.intended a

pub returns-in-Ok-give-clause-missing : goal.returns-in-Ok-give-clause-missing
returns-in-Ok-give-clause-missing g c =
    λ a. causes.missing_it c.one_reading_of_files.ensures.one_list c.one_reading_of_files.ensures.one_refusal c.one_reading_of_files.ensures.none_refused c.table_laws.ensures.once
    c.table_laws.ensures.fault_once c.table_laws.ensures.no_fault c.one_certificate.ensures c.one_first_rule.ensures c.rules_are_sound.ensures _ _ _ _ _ _ _ _ c.in-Ok.answer.output
    c.in-Ok.ensures.intended a

pub returns-in-Ok-give-clause-bad_table : goal.returns-in-Ok-give-clause-bad_table
returns-in-Ok-give-clause-bad_table g c =
    λ a. causes.table_it c.one_reading_of_files.ensures.one_list c.one_reading_of_files.ensures.one_refusal c.one_reading_of_files.ensures.none_refused c.table_laws.ensures.once
    c.table_laws.ensures.fault_once c.table_laws.ensures.no_fault c.one_certificate.ensures c.one_first_rule.ensures c.rules_are_sound.ensures _ _ _ _ _ _ _ _ c.in-Ok.answer.output
    c.in-Ok.ensures.intended a

pub returns-in-Ok-give-clause-too_long : goal.returns-in-Ok-give-clause-too_long
returns-in-Ok-give-clause-too_long g c =
    λ a. causes.long_it c.one_reading_of_files.ensures.one_list c.one_reading_of_files.ensures.one_refusal c.one_reading_of_files.ensures.none_refused c.table_laws.ensures.once
    c.table_laws.ensures.fault_once c.table_laws.ensures.no_fault c.one_certificate.ensures c.one_first_rule.ensures c.rules_are_sound.ensures _ _ _ _ _ _ _ _ c.in-Ok.answer.output
    c.in-Ok.ensures.intended a

pub returns-in-Ok-give-clause-faulty : goal.returns-in-Ok-give-clause-faulty
returns-in-Ok-give-clause-faulty g c =
    λ a. causes.faulty_it c.one_reading_of_files.ensures.one_list c.one_reading_of_files.ensures.one_refusal c.one_reading_of_files.ensures.none_refused c.table_laws.ensures.once
    c.table_laws.ensures.fault_once c.table_laws.ensures.no_fault c.one_certificate.ensures c.one_first_rule.ensures c.rules_are_sound.ensures _ _ _ _ _ _ _ _ c.in-Ok.answer.output
    c.in-Ok.ensures.intended a

pub returns-in-Ok-give-clause-duplicate : goal.returns-in-Ok-give-clause-duplicate
returns-in-Ok-give-clause-duplicate g c =
    λ a. causes.twice_it c.one_reading_of_files.ensures.one_list c.one_reading_of_files.ensures.one_refusal c.one_reading_of_files.ensures.none_refused c.table_laws.ensures.once
    c.table_laws.ensures.fault_once c.table_laws.ensures.no_fault c.one_certificate.ensures c.one_first_rule.ensures c.rules_are_sound.ensures _ _ _ _ _ _ _ _ c.in-Ok.answer.output
    c.in-Ok.ensures.intended a

pub returns-in-Ok-give-clause-rejected : goal.returns-in-Ok-give-clause-rejected
returns-in-Ok-give-clause-rejected g c =
    λ a. causes.rule_it c.one_reading_of_files.ensures.one_list c.one_reading_of_files.ensures.one_refusal c.one_reading_of_files.ensures.none_refused c.table_laws.ensures.once
    c.table_laws.ensures.fault_once c.table_laws.ensures.no_fault c.one_certificate.ensures c.one_first_rule.ensures c.rules_are_sound.ensures _ _ _ _ _ _ _ _ c.in-Ok.answer.output
    c.in-Ok.ensures.intended a

pub returns-in-Ok-give-clause-done : goal.returns-in-Ok-give-clause-done
returns-in-Ok-give-clause-done g c =
    λ a. causes.done_it c.one_reading_of_files.ensures.one_list c.one_reading_of_files.ensures.one_refusal c.one_reading_of_files.ensures.none_refused c.table_laws.ensures.once
    c.table_laws.ensures.fault_once c.table_laws.ensures.no_fault c.one_certificate.ensures c.one_first_rule.ensures c.rules_are_sound.ensures _ _ _ _ _ _ _ _ c.in-Ok.answer.output
    c.in-Ok.ensures.intended a

pub returns-in-Ok-give-clause-read : goal.returns-in-Ok-give-clause-read
returns-in-Ok-give-clause-read g c =
    λ word e. exits.read_it _ _ _ _ _ _ _ _ c.in-Ok.answer.output c.in-Ok.ensures.intended _ _ (c.in-Ok-give.ensures.all ∙ ap (appended (g.K.Sink.written c.args.out.now)) c.as_slice.ensures) word e

pub returns-in-Ok-give-clause-replace : goal.returns-in-Ok-give-clause-replace
returns-in-Ok-give-clause-replace g c =
    λ word e. exits.replace_it _ _ _ _ _ _ _ _ c.in-Ok.answer.output c.in-Ok.ensures.intended _ _ (c.in-Ok-give.ensures.all ∙ ap (appended (g.K.Sink.written c.args.out.now)) c.as_slice.ensures) word e

pub returns-in-Ok-give-clause-write : goal.returns-in-Ok-give-clause-write
returns-in-Ok-give-clause-write g c =
    λ e. absurd (exits.never_writes _ _ _ _ _ _ _ _ c.in-Ok.answer.output c.in-Ok.ensures.intended e)

pub returns-in-Ok-give-clause-memory : goal.returns-in-Ok-give-clause-memory
returns-in-Ok-give-clause-memory g c =
    λ e. absurd (exits.never_memory _ _ _ _ _ _ _ _ c.in-Ok.answer.output c.in-Ok.ensures.intended e)

pub returns-in-Ok-give-clause-possible : goal.returns-in-Ok-give-clause-possible
returns-in-Ok-give-clause-possible g c =
    exits.possible_it _ _ _ _ _ _ _ _ c.in-Ok.answer.output c.in-Ok.ensures.intended

pub returns-in-Ok-give-clause-held : goal.returns-in-Ok-give-clause-held
returns-in-Ok-give-clause-held g c =
    λ none. exits.stays_it _ _ _ _ _ _ _ _ c.in-Ok.answer.output c.in-Ok.ensures.intended none
