use Rattle.std.proofs.Common.{subst}
use Rattle.dialyze_command.specs.steps.Puts.{IsPut}
use Rattle.dialyze_command.proofs.MakeExits.{made_all, all_first, made_failed}
use Rattle.dialyze_command.proofs.making.made.Goals as goal

pub returns-in-Ok-None-clause-made : goal.returns-in-Ok-None-clause-made
returns-in-Ok-None-clause-made g c =
    made_all c.args.count (g.F.Shelf.replace_faults c.args.shelf.now) (g.F.Shelf.replace_faults c.put_all.new.shelf) (g.F.Shelf.held c.args.shelf.now) (g.F.Shelf.held c.put_all.new.shelf) c.summed.result
    (subst (IsPut c.args.count (g.F.Shelf.held c.args.shelf.now) (g.F.Shelf.held c.put_all.new.shelf) (g.F.Shelf.replace_faults c.args.shelf.now) (g.F.Shelf.replace_faults c.put_all.new.shelf)) c.in-Ok-None.field-0-is
    c.in-Ok-None.ensures.put)
    c.summed.ensures

pub returns-in-Ok-None-clause-memory : goal.returns-in-Ok-None-clause-memory
returns-in-Ok-None-clause-memory g c =
    all_first c.args.count (g.F.Shelf.held c.args.shelf.now) (g.F.Shelf.held c.put_all.new.shelf) c.summed.result
    (subst (IsPut c.args.count (g.F.Shelf.held c.args.shelf.now) (g.F.Shelf.held c.put_all.new.shelf) (g.F.Shelf.replace_faults c.args.shelf.now) (g.F.Shelf.replace_faults c.put_all.new.shelf)) c.in-Ok-None.field-0-is
    c.in-Ok-None.ensures.put)

pub returns-in-Ok-Some-clause-made : goal.returns-in-Ok-Some-clause-made
returns-in-Ok-Some-clause-made g c =
    made_failed c.args.count (g.F.Shelf.replace_faults c.args.shelf.now) (g.F.Shelf.replace_faults c.put_all.new.shelf) (g.F.Shelf.held c.args.shelf.now) (g.F.Shelf.held c.put_all.new.shelf) c.in-Ok-Some.answer
    (subst (IsPut c.args.count (g.F.Shelf.held c.args.shelf.now) (g.F.Shelf.held c.put_all.new.shelf) (g.F.Shelf.replace_faults c.args.shelf.now) (g.F.Shelf.replace_faults c.put_all.new.shelf)) c.in-Ok-Some.field-0-is
    c.in-Ok-Some.ensures.put)
