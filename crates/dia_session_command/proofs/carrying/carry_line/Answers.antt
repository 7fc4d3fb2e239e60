use Rattle.std.proofs.Common.{subst}
use Rattle.da_shelf.specs.Told.{IsPrefixAppended}
use Rattle.dia_session_engine.specs.Held.{held_by}
use Rattle.dia_session_command.specs.Script.{request_so}
use Rattle.dia_session_command.proofs.LineExits.{means_line}
use Rattle.dia_session_command.proofs.carrying.carry_line.Goals as goal

pub returns-in-Err-Failed-clause-fault : goal.returns-in-Err-Failed-clause-fault
returns-in-Err-Failed-clause-fault g c = (
  c.in-Ok.answer.output,
  means_line (g.F.Shelf.held c.args.shelf.now) (held_by c.args.engine.now) (held_by c.answer_to.new.engine) (request_so c.args.line.now) (g.F.Shelf.read_faults c.args.shelf.now)
      (g.F.Shelf.read_faults c.answer_to.new.shelf) c.in-Ok.answer c.in-Ok.ensures.gives,
  c.in-Err-Failed.ensures.failed,
  subst (IsPrefixAppended (g.K.Sink.written c.args.out.now) (g.K.Sink.written c.give.new.out)) c.as_slice.ensures c.in-Err-Failed.ensures.front,
)
