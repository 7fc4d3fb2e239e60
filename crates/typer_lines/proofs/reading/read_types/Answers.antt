use Rattle.std.proofs.Common.{subst}
use Rattle.std.proofs.lemmas.Result.{IfOk-weaker}
use Rattle.typer_lines.specs.steps.Reads.{ReadsOne}
use Rattle.typer_lines.proofs.TypeExits.{types_lack, types_read}
use Rattle.typer_lines.proofs.reading.read_types.Goals as goal

pub returns-in-None-clause-complete : goal.returns-in-None-clause-complete
returns-in-None-clause-complete c =
    types_lack c.args.text.now c.args.types.now c.read_one.new.types c.args.count c.if-count-eq0.false
    (subst (ReadsOne c.args.text.now c.args.types.now c.read_one.new.types) c.in-None.is c.in_ok-text.ensures.complete)

pub returns-in-Some-clause-complete : goal.returns-in-Some-clause-complete
returns-in-Some-clause-complete c =
    let one = subst (ReadsOne c.args.text.now c.args.types.now c.read_one.new.types) c.in-Some.is c.in_ok-text.ensures.complete in
    IfOk-weaker c.read_more.result _ _
    (λ r more. types_read c.args.text.now c.args.types.now c.read_one.new.types c.read_more.new.types c.in-Some.text r c.args.count c.if-count-eq0.false one more) c.read_more.ensures.complete
