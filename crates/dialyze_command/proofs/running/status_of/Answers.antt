use Rattle.std.proofs.Common.{◌∙◌, ap, subst}
use Rattle.analysis_sources.specs.Words.{texts}
use Rattle.dialyze_command.specs.Outcome.{IsAnswer}
use Rattle.dialyze_command.specs.Reads.{AnswersAsTold}
use Rattle.dialyze_command.specs.Runs.{IsRun}
use Rattle.dialyze_command.proofs.running.status_of.Goals as goal

pub returns-in-Ok-clause-run : goal.returns-in-Ok-clause-run
returns-in-Ok-clause-run g c =
    subst
    (λ ws. IsRun ws (g.F.Shelf.held c.args.shelf.now) (g.F.Shelf.held c.dialyze.new.shelf) (g.F.Shelf.read_faults c.args.shelf.now) (g.F.Shelf.read_faults c.dialyze.new.shelf) (g.F.Shelf.replace_faults c.args.shelf.now)
    (g.F.Shelf.replace_faults c.dialyze.new.shelf) (g.K.Sink.faults c.args.out.now) (g.K.Sink.faults c.dialyze.new.out) c.dialyze.result (g.K.Sink.written c.args.out.now) (g.K.Sink.written c.dialyze.new.out))
    (ap texts c.as_slice.ensures ∙ c.in-Ok.ensures)
    (record {
      outcome = c.dialyze.ensures.outcome;
      kept = c.dialyze.ensures.kept;
      sound = c.dialyze.ensures.sound;
      usage = c.dialyze.ensures.usage;
      read = c.dialyze.ensures.read;
      replace = c.dialyze.ensures.replace;
      write = c.dialyze.ensures.write;
      memory = c.dialyze.ensures.memory;
      unfinished = c.dialyze.ensures.unfinished;
      possible = c.dialyze.ensures.possible;
      held_so = c.dialyze.ensures.held;
    })

pub returns-in-Ok-clause-told : goal.returns-in-Ok-clause-told
returns-in-Ok-clause-told g c =
    subst
    (λ ws. IsAnswer c.dialyze.result → AnswersAsTold g.F.Shelf.told g.F.Shelf.reads c.args.shelf.now c.dialyze.new.shelf ws c.dialyze.result (g.K.Sink.written c.args.out.now) (g.K.Sink.written c.dialyze.new.out))
    (ap texts c.as_slice.ensures ∙ c.in-Ok.ensures) c.dialyze.ensures.told
