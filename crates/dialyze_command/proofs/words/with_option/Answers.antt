use Rattle.std.proofs.Common.{sym, subst}
use Rattle.std.specs.Prelude.{MatchOption}
use Rattle.dialyze_command.specs.Words.{Adds}
use Rattle.dialyze_command.specs.steps.Options.{AddsNothing}
use Rattle.dialyze_command.proofs.words.with_option.Goals as goal

pub returns-in-Workers : goal.returns-in-Workers
returns-in-Workers c =
    subst (λ option. MatchOption c.with_workers.result (AddsNothing option c.args.value.now c.args.before) (λ now. Adds option c.args.value.now c.args.before now)) (sym c.in-Workers.is) c.with_workers.ensures
