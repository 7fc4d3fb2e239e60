use Rattle.std.proofs.Common.{◌∙◌, ap, subst}
use Rattle.analysis_sources.specs.Words.{texts}
use Rattle.dia_session_command.specs.Runs.{IsRun}
use Rattle.dia_session_command.proofs.running.status_of.Goals as goal

pub returns-in-Ok : goal.returns-in-Ok
returns-in-Ok g c =
    subst
    (λ ws. IsRun ws (g.F.Shelf.held c.args.shelf.now) (g.F.Shelf.held c.dia_session.new.shelf) (g.F.Shelf.read_faults c.args.shelf.now) (g.F.Shelf.read_faults c.dia_session.new.shelf) (g.K.Sink.faults c.args.out.now)
    (g.K.Sink.faults c.dia_session.new.out) c.dia_session.result (g.K.Sink.written c.args.out.now) (g.K.Sink.written c.dia_session.new.out))
    (ap texts c.as_slice.ensures ∙ c.in-Ok.ensures)
    (record {
      outcome = c.dia_session.ensures.outcome;
      usage = c.dia_session.ensures.usage;
      read = c.dia_session.ensures.read;
      write = c.dia_session.ensures.write;
      memory = c.dia_session.ensures.memory;
      possible = c.dia_session.ensures.possible;
      held_so = c.dia_session.ensures.held;
    })
