use Rattle.std.proofs.Common.{refl, subst}
use Rattle.analysis_sources.specs.Words.{texts}
use Rattle.dialyze_command.specs.steps.Options.{EndsOptions}
use Rattle.dialyze_command.proofs.WordExits.{check_told, no_check}
use Rattle.dialyze_command.proofs.words.command_of.Goals as goal

pub returns-then-not-are_files : goal.returns-then-not-are_files
returns-then-not-are_files c =
    no_check c.args.words.now c.in-Some.asked.now c.in-Some.command.now c.ne.result c.in-Some-with_options.command _ c.are_files.result c.in-Some.ensures.cases.0 c.ne.ensures c.if-ne.false
    (subst (λ p. EndsOptions (texts c.in-Some.asked.now) p c.in-Some-with_options.command) c.plain.ensures c.in-Some-with_options.ensures) c.are_files.ensures c.if-not-are_files.true refl

pub returns : goal.returns
returns c =
    check_told c.args.words.now c.in-Some.asked.now c.in-Some.command.now c.ne.result c.in-Some-with_options.command _ c.is_empty.result c.are_files.result c.in-Some.ensures.cases.0 c.ne.ensures c.if-ne.false
    (subst (λ p. EndsOptions (texts c.in-Some.asked.now) p c.in-Some-with_options.command) c.plain.ensures c.in-Some-with_options.ensures) c.is_empty.ensures c.if-is_empty.false c.are_files.ensures c.if-not-are_files.false refl
