use Rattle.std.proofs.Common.{subst}
use Rattle.std.proofs.lemmas.Result.{IfOk-weaker}
use Rattle.typer_lines.specs.steps.Reads.{ReadsOne}
use Rattle.typer_lines.proofs.TypeExits.{no_comma, more_lack, more_read}
use Rattle.typer_lines.proofs.reading.+read_more.Goals as goal

pub returns-in_default-clause-complete : goal.returns-in_default-clause-complete
returns-in_default-clause-complete t c = no_comma c.args.text.now c.args.types.now c.args.count c.if-count-eq0.false c.in_default.ensures.complete

pub returns-in-None-clause-complete : goal.returns-in-None-clause-complete
returns-in-None-clause-complete t c =
    more_lack c.args.text.now c.in-Some.text.now c.args.types.now c.read_one.new.types c.args.count c.if-count-eq0.false c.in-Some.ensures.exact
    (subst (ReadsOne c.in-Some.text.now c.args.types.now c.read_one.new.types) c.in-None.is c.in_ok-text.ensures.complete)

pub returns-in-Some-2-clause-complete : goal.returns-in-Some-2-clause-complete
returns-in-Some-2-clause-complete t c =
    let one = subst (ReadsOne c.in-Some.text.now c.args.types.now c.read_one.new.types) c.in-Some-2.is c.in_ok-text.ensures.complete in
    IfOk-weaker c.read_more.result _ _
    (λ r more. more_read c.args.text.now c.in-Some.text.now c.args.types.now c.read_one.new.types c.read_more.new.types c.in-Some-2.text r c.args.count c.if-count-eq0.false c.in-Some.ensures.exact one more)
    c.read_more.ensures.complete
