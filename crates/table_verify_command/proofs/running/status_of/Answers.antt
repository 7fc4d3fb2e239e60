use Rattle.std.proofs.Common.{◌∙◌, ap, subst}
use Rattle.analysis_sources.specs.Words.{texts}
use Rattle.table_verify_command.specs.Runs.{IsRun}
use Rattle.table_verify_command.proofs.running.status_of.Goals as goal

pub returns-in-Ok : goal.returns-in-Ok
returns-in-Ok g c =
    subst
    (λ ws. IsRun ws (g.F.Shelf.held c.args.shelf.now) (g.F.Shelf.held c.table_verify.new.shelf) (g.F.Shelf.read_faults c.args.shelf.now) (g.F.Shelf.read_faults c.table_verify.new.shelf) (g.F.Shelf.replace_faults c.args.shelf.now)
    (g.F.Shelf.replace_faults c.table_verify.new.shelf) (g.K.Sink.faults c.args.out.now) (g.K.Sink.faults c.table_verify.new.out) c.table_verify.result (g.K.Sink.written c.args.out.now) (g.K.Sink.written c.table_verify.new.out))
    (ap texts c.as_slice.ensures ∙ c.in-Ok.ensures)
    (record {
      outcome = c.table_verify.ensures.outcome;
      sound = c.table_verify.ensures.sound;
      stores = c.table_verify.ensures.stores;
      usage = c.table_verify.ensures.usage;
      read = c.table_verify.ensures.read;
      replace = c.table_verify.ensures.replace;
      write = c.table_verify.ensures.write;
      memory = c.table_verify.ensures.memory;
      possible = c.table_verify.ensures.possible;
      held_so = c.table_verify.ensures.held;
    })
