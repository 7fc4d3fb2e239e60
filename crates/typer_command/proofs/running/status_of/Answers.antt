use Rattle.std.proofs.Common.{◌∙◌, ap, subst}
use Rattle.analysis_sources.specs.Words.{texts}
use Rattle.typer_command.specs.Runs.{IsRun}
use Rattle.typer_command.proofs.running.status_of.Goals as goal

pub returns-in-Ok : goal.returns-in-Ok
returns-in-Ok g c =
    subst
    (λ ws. IsRun ws (g.F.Shelf.held c.args.shelf.now) (g.F.Shelf.held c.typer.new.shelf) (g.F.Shelf.read_faults c.args.shelf.now) (g.F.Shelf.read_faults c.typer.new.shelf) (g.K.Sink.faults c.args.out.now)
    (g.K.Sink.faults c.typer.new.out) c.typer.result (g.K.Sink.written c.args.out.now) (g.K.Sink.written c.typer.new.out))
    (ap texts c.as_slice.ensures ∙ c.in-Ok.ensures)
    (record {
      over_files = record {
        outcome = c.typer.ensures.outcome;
        usage = c.typer.ensures.usage;
        read = c.typer.ensures.read;
        write = c.typer.ensures.write;
        memory = c.typer.ensures.memory;
        possible = c.typer.ensures.possible;
        held_so = c.typer.ensures.held;
      };
      sound = c.typer.ensures.sound;
    })
