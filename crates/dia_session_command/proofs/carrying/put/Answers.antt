use Rattle.std.proofs.Common.{ap, subst}
use Rattle.dia_session_engine.specs.Held.{held_by, IsPutFault}
use Rattle.dia_session_command.proofs.LineExits.{is_one_too_many, is_put, is_too_long}
use Rattle.dia_session_command.proofs.carrying.put.Goals as goal

pub returns-in-Ok : goal.returns-in-Ok
returns-in-Ok c = is_put (held_by c.args.engine.now) (held_by c.put.new.self) c.args.file.now c.args.source c.ok_line.result c.in-Ok.ensures.fits c.in-Ok.ensures.ok c.ok_line.ensures

pub returns-in-Err-TooMany : goal.returns-in-Err-TooMany
returns-in-Err-TooMany c =
    is_one_too_many (held_by c.args.engine.now) (held_by c.put.new.self) c.args.file.now c.args.source c.too_many_line.result
    (subst (IsPutFault (held_by c.args.engine.now) c.args.file.now c.args.source.length) c.in-Err-TooMany.field-0-is c.in-Err-TooMany.ensures.fault)
    (ap held_by c.in-Err-TooMany.ensures.err) c.too_many_line.ensures

pub returns-in-Err-TooLong : goal.returns-in-Err-TooLong
returns-in-Err-TooLong c =
    is_too_long (held_by c.args.engine.now) (held_by c.put.new.self) c.args.file.now c.args.source c.refusal_line.result
    (subst (IsPutFault (held_by c.args.engine.now) c.args.file.now c.args.source.length) c.in-Err-TooLong.field-0-is c.in-Err-TooLong.ensures.fault)
    (ap held_by c.in-Err-TooLong.ensures.err) c.refusal_line.ensures
