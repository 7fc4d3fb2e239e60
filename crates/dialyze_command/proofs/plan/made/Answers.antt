use Rattle.std.proofs.Common.{ap, ◌∙◌}
use Rattle.std.specs.List.{concat}
use Rattle.dialyze_command.proofs.PlanExits.{made_named}
use Rattle.dialyze_command.proofs.plan.made.Goals as goal

pub returns-in-Some-clause-made : goal.returns-in-Some-clause-made
returns-in-Some-clause-made c =
    made_named c.args.words.now c.args.out c.in-Some.word _ c.args.analysis.now.reports c.args.analysis.now.table c.in_ok-answer.answer c.with_new.result c.in-Some.is c.requires.within c.in_ok-answer.ensures.status
    (c.in_ok-answer.ensures.output ∙ ap concat c.as_slice.ensures) c.with_new.ensures.made
