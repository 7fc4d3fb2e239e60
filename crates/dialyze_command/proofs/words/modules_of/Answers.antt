use Rattle.dialyze_command.proofs.WordExits.{make_told}
use Rattle.dialyze_command.proofs.words.modules_of.Goals as goal

pub returns : goal.returns
returns c = make_told c.args.words.now _ _ c.ne.result c.number_of.result c.in-len2.len_at_least c.in-len2.len_below c.ne.ensures c.if-ne.false c.number_of.ensures
