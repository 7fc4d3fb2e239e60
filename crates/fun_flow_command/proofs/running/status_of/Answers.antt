use Rattle.std.proofs.Common.{◌∙◌, ap, subst}
use Rattle.analysis_sources.specs.Words.{texts}
use Rattle.fun_flow_command.specs.Runs.{IsRun}
use Rattle.fun_flow_command.proofs.running.status_of.Goals as goal

pub returns-in-Ok : goal.returns-in-Ok
returns-in-Ok g c =
    subst
    (λ ws. IsRun ws (g.F.Shelf.held c.args.shelf.now) (g.F.Shelf.held c.fun_flow.new.shelf) (g.F.Shelf.read_faults c.args.shelf.now) (g.F.Shelf.read_faults c.fun_flow.new.shelf) (g.K.Sink.faults c.args.out.now)
    (g.K.Sink.faults c.fun_flow.new.out) c.fun_flow.result (g.K.Sink.written c.args.out.now) (g.K.Sink.written c.fun_flow.new.out))
    (ap texts c.as_slice.ensures ∙ c.in-Ok.ensures)
    (record {
      over_files = record {
        outcome = c.fun_flow.ensures.outcome;
        usage = c.fun_flow.ensures.usage;
        read = c.fun_flow.ensures.read;
        write = c.fun_flow.ensures.write;
        memory = c.fun_flow.ensures.memory;
        possible = c.fun_flow.ensures.possible;
        held_so = c.fun_flow.ensures.held;
      };
      sound = c.fun_flow.ensures.sound;
    })
