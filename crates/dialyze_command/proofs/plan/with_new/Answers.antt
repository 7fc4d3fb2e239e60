use Rattle.std.proofs.Common.{refl}
use Rattle.dialyze_command.specs.steps.Plans.{new_table}
use Rattle.dialyze_command.proofs.plan.with_new.Goals as goal

pub returns-in-Ok : goal.returns-in-Ok
returns-in-Ok c =
    record { made = new_table (record { word = c.args.word; bytes = c.in-Ok.bytes; line = c.in_ok-line-in-Ok.line }) refl refl refl refl c.in-Ok.ensures.fits c.in-Ok.ensures.bytes c.in_ok-line-in-Ok.ensures }
