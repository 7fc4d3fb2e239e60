use Rattle.dialyze_command.proofs.WordExits.{ends_empty, ends_first, ends_more}
use Rattle.dialyze_command.proofs.words.+with_options.Goals as goal

pub returns-in_default : goal.returns-in_default
returns-in_default t c = ends_empty c.args.words.now c.args.before c.in_default.ensures.cases

pub returns-in_default-option_of : goal.returns-in_default-option_of
returns-in_default-option_of t c = ends_first c.args.words.now c.in-Some.more.now c.in-Some.word.now c.args.before c.in-Some.ensures.cases.0 c.in_default-option_of.ensures

pub returns-in-Some-with_option : goal.returns-in-Some-with_option
returns-in-Some-with_option t c =
    ends_more c.args.words.now c.in-Some.more.now c.in-Some-split_first.rest.now c.in-Some.word.now c.in-Some-split_first.value.now c.in-Some-option_of.option c.args.before c.in-Some-with_option.next c.with_options.result
    c.in-Some.ensures.cases.0 c.in-Some-split_first.ensures.cases.0 c.in-Some-option_of.ensures c.in-Some-with_option.ensures c.with_options.ensures
