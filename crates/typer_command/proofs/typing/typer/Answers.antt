use Rattle.std.proofs.Common.{◌∙◌, ap}
use Rattle.da_shelf.specs.Told.{appended}
use Rattle.analysis_answers.proofs.FileCauses as causes
use Rattle.typer_command.proofs.Sound.{sound_it}
use Rattle.typer_command.proofs.typing.typer.Goals as goal

pub returns-in-Ok-give-clause-outcome : goal.returns-in-Ok-give-clause-outcome
returns-in-Ok-give-clause-outcome g c =
    λ a. causes.answers_it _ _ _ _ _ _ _ c.in-Ok.answer.output c.in-Ok.ensures.intended _ _ (c.in-Ok-give.ensures.all ∙ ap (appended (g.K.Sink.written c.args.out.now)) c.as_slice.ensures) a

pub returns-in-Ok-give-clause-sound : goal.returns-in-Ok-give-clause-sound
returns-in-Ok-give-clause-sound g c =
    λ e. sound_it c.small_definitions.ensures c.typing_lines_once.ensures c.known_holds.ensures.strict _ _ _ _
    (causes.writes_it _ _ _ _ _ _ _ c.in-Ok.answer.output c.in-Ok.ensures.intended _ _ (c.in-Ok-give.ensures.all ∙ ap (appended (g.K.Sink.written c.args.out.now)) c.as_slice.ensures) e)

pub returns-in-Ok-give-clause-usage : goal.returns-in-Ok-give-clause-usage
returns-in-Ok-give-clause-usage g c = λ a. causes.usage_it _ _ _ _ _ _ _ c.in-Ok.answer.output c.in-Ok.ensures.intended a

pub returns-in-Ok-give-clause-too_many : goal.returns-in-Ok-give-clause-too_many
returns-in-Ok-give-clause-too_many g c = λ a. causes.many_it _ _ _ _ _ _ _ c.in-Ok.answer.output c.in-Ok.ensures.intended a

pub returns-in-Ok-give-clause-missing : goal.returns-in-Ok-give-clause-missing
returns-in-Ok-give-clause-missing g c =
    λ a. causes.missing_it c.one_reading_of_files.ensures.one_list c.one_reading_of_files.ensures.one_refusal c.one_reading_of_files.ensures.none_refused _ _ _ _ _ _ _ c.in-Ok.answer.output c.in-Ok.ensures.intended a

pub returns-in-Ok-give-clause-too_long : goal.returns-in-Ok-give-clause-too_long
returns-in-Ok-give-clause-too_long g c =
    λ a. causes.long_it c.one_reading_of_files.ensures.one_list c.one_reading_of_files.ensures.one_refusal c.one_reading_of_files.ensures.none_refused _ _ _ _ _ _ _ c.in-Ok.answer.output c.in-Ok.ensures.intended a

pub returns-in-Ok-give-clause-faulty : goal.returns-in-Ok-give-clause-faulty
returns-in-Ok-give-clause-faulty g c =
    λ a. causes.faulty_it c.one_reading_of_files.ensures.one_list c.one_reading_of_files.ensures.one_refusal c.one_reading_of_files.ensures.none_refused _ _ _ _ _ _ _ c.in-Ok.answer.output c.in-Ok.ensures.intended a

pub returns-in-Ok-give-clause-duplicate : goal.returns-in-Ok-give-clause-duplicate
returns-in-Ok-give-clause-duplicate g c =
    λ a. causes.duplicate_it c.one_reading_of_files.ensures.one_list c.one_reading_of_files.ensures.one_refusal c.one_reading_of_files.ensures.none_refused _ _ _ _ _ _ _ c.in-Ok.answer.output c.in-Ok.ensures.intended a

pub returns-in-Ok-give-clause-done : goal.returns-in-Ok-give-clause-done
returns-in-Ok-give-clause-done g c =
    λ a. causes.done_it c.one_reading_of_files.ensures.one_list c.one_reading_of_files.ensures.one_refusal c.one_reading_of_files.ensures.none_refused _ _ _ _ _ _ _ c.in-Ok.answer.output c.in-Ok.ensures.intended a

pub returns-in-Ok-give-clause-read : goal.returns-in-Ok-give-clause-read
returns-in-Ok-give-clause-read g c =
    λ word e. causes.reads_it _ _ _ _ _ _ _ c.in-Ok.answer.output c.in-Ok.ensures.intended _ _ (c.in-Ok-give.ensures.all ∙ ap (appended (g.K.Sink.written c.args.out.now)) c.as_slice.ensures) word e

pub returns-in-Ok-give-clause-write : goal.returns-in-Ok-give-clause-write
returns-in-Ok-give-clause-write g c = λ e. absurd (causes.never_writes _ _ _ _ _ _ _ c.in-Ok.answer.output c.in-Ok.ensures.intended e)

pub returns-in-Ok-give-clause-memory : goal.returns-in-Ok-give-clause-memory
returns-in-Ok-give-clause-memory g c = λ e. absurd (causes.never_memory _ _ _ _ _ _ _ c.in-Ok.answer.output c.in-Ok.ensures.intended e)

pub returns-in-Ok-give-clause-possible : goal.returns-in-Ok-give-clause-possible
returns-in-Ok-give-clause-possible g c = causes.possible_it _ _ _ _ _ _ _ c.in-Ok.answer.output c.in-Ok.ensures.intended
