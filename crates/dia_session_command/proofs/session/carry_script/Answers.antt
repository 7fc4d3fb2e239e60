use Rattle.std.proofs.Common.{subst}
use Rattle.dia_session_command.specs.Script.{IsScriptFault}
use Rattle.dia_session_command.proofs.SessionExits.{line_refused, lines_carried}
use Rattle.dia_session_command.proofs.session.carry_script.Goals as goal

pub returns-in-Ok-clause-ends : goal.returns-in-Ok-clause-ends
returns-in-Ok-clause-ends g c =
    lines_carried (g.F.Shelf.held c.args.shelf.now) c.args.command.script.now c.args.bytes.now c.args.command.word (g.F.Shelf.read_faults c.args.shelf.now) (g.F.Shelf.read_faults c.carry_out.new.shelf)
    (g.K.Sink.faults c.args.out.now) (g.K.Sink.faults c.carry_out.new.out) (g.K.Sink.written c.args.out.now) (g.K.Sink.written c.carry_out.new.out) c.carry_out.result c.in-Ok.lines c.as_slice.result.now
    c.as_slice.ensures c.requires.read c.in-Ok.ensures.lines c.carry_out.ensures.carried

pub returns-in-Ok-refuse_line-clause-ends : goal.returns-in-Ok-refuse_line-clause-ends
returns-in-Ok-refuse_line-clause-ends g c =
    line_refused (g.F.Shelf.held c.args.shelf.now) c.args.command.script.now c.args.bytes.now c.args.command.word c.in-Err-BadLine.number (g.F.Shelf.read_faults c.args.shelf.now)
    (g.F.Shelf.read_faults c.args.shelf.now) (g.K.Sink.faults c.args.out.now) (g.K.Sink.faults c.say.new.out) (g.K.Sink.written c.args.out.now) (g.K.Sink.written c.say.new.out) c.in-Ok-refuse_line.answer
    c.say.result c.requires.read (subst (IsScriptFault c.args.bytes.now) c.in-Err-BadLine.field-0-is c.in-Err-BadLine.ensures.fault) c.in-Ok-refuse_line.ensures.status c.in-Ok-refuse_line.ensures.output
    c.say.ensures
