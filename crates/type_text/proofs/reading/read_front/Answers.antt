use Rattle.std.proofs.lemmas.Result.{IfOk-weaker}
use Rattle.type_text.proofs.TextOnce.{none_read, some_read}
use Rattle.type_text.proofs.reading.read_front.Goals as goal

pub returns-in-Some : goal.returns-in-Some
returns-in-Some c = λ t rest stops e. none_read c.args.text.now c.in-Some.rest.now rest t c.none.result c.in-Some.ensures.exact c.none.ensures.value e

pub returns-in-None : goal.returns-in-None
returns-in-None c = IfOk-weaker c.read_some.result _ _ (λ r read t rest stops e. read t rest (some_read c.args.text.now rest t c.in-None.ensures.complete e) stops e) c.read_some.ensures
