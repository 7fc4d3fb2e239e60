use Rattle.std.proofs.Common.{arith}
use Rattle.std.proofs.lemmas.List.{length-drop}
use Rattle.analysis_sources.specs.Words.{texts}
use Rattle.analysis_answers.proofs.Texts.{texts_long}
use Rattle.dialyze_command.proofs.PlanExits.{usage_plan}
use Rattle.dialyze_command.proofs.ToldExits.{usage_told, many_told}
use Rattle.dialyze_command.proofs.plan.intended.Goals as goal

pub returns-in_default-clause-plan : goal.returns-in_default-clause-plan
returns-in_default-clause-plan g c = usage_plan (texts c.args.words.now) _ _ _ _ _ c.in_default.ensures c.requires c.in_ok-answer.ensures.status c.in_ok-answer.ensures.output

pub returns-in_default-clause-told : goal.returns-in_default-clause-told
returns-in_default-clause-told g c =
    usage_told g.F.Shelf.told c.args.shelf.now (texts c.args.words.now) _ _ c.in_ok-answer.answer.status c.in_ok-answer.answer.output c.in_default.ensures c.requires c.in_ok-answer.ensures.status c.in_ok-answer.ensures.output

pub returns-then-words-command-gt-MOST_FILES-clause-told : goal.returns-then-words-command-gt-MOST_FILES-clause-told
returns-then-words-command-gt-MOST_FILES-clause-told g c =
    many_told g.F.Shelf.told c.args.shelf.now (texts c.args.words.now) _ _ c.in-Some.command _ c.in_ok-answer-2.answer.status c.in_ok-answer-2.answer.output c.in-Some.ensures
    (omega (arith, c.if-words-command-gt-MOST_FILES.true, length-drop c.in-Some.command.start (texts c.args.words.now), texts_long c.args.words.now))
    c.in_ok-answer-2.ensures.status c.in_ok-answer-2.ensures.output
