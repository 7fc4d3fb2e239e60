use Rattle.std.proofs.Common.{map, refl, ap, subst, ◌∙◌}
use Rattle.core_scope.specs.Checked.{module_of, tree_of}
use Rattle.table_keep.specs.declared.source.Source.{Source as HandedIn}
use Rattle.analysis_sources.specs.Words.{texts}
use Rattle.analysis_typings.specs.Typings.{IsNoSet}
use Rattle.typer_command.specs.Typed.{lines_of, typings_of}
use Rattle.typer_command.specs.Listed.{Lists}
use Rattle.typer_command.proofs.Outputs.{listed_so}
use Rattle.analysis_answers.proofs.AnswerExits.{twins_so}
use Rattle.typer_command.proofs.answering.typed.Goals as goal

pub returns-in_ok-output-in-Ok : goal.returns-in_ok-output-in-Ok
returns-in_ok-output-in-Ok g c =
    listed_so (texts c.args.words.now) c.args.sources.now _ c.in_ok-output-in-Ok.output c.in-Ok.ensures.distinct c.in-Ok.ensures.typings
    (c.in_ok-output-in-Ok.ensures ∙ ap (λ found. lines_of (typings_of (map (λ (s : HandedIn). tree_of s.checked) c.args.sources.now) found)) c.as_slice.ensures)

pub returns-in-Err-Set-DuplicateModule : goal.returns-in-Err-Set-DuplicateModule
returns-in-Err-Set-DuplicateModule g c =
    twins_so Lists c.args.words.now c.args.sources.now c.in-Err-Set-DuplicateModule.field-0-0 _ _ c.refuse_second.result c.requires.whole
    (subst (IsNoSet (map (λ (s : HandedIn). (module_of s.checked).name) c.args.sources.now)) c.in-Err-Set-DuplicateModule.field-0-is c.in-Err-Set-DuplicateModule.ensures.set)
    c.refuse_second.ensures.status c.refuse_second.ensures.output (λ i j e. (rw e refl, rw e refl))
