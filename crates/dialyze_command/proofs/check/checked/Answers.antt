use Rattle.analysis_sources.specs.Words.{texts}
use Rattle.dialyze_command.proofs.StoreExits.{answered_so}
use Rattle.dialyze_command.proofs.ToldExits.{stored_told}
use Rattle.dialyze_command.proofs.check.checked.Goals as goal

pub returns-clause-intended : goal.returns-clause-intended
returns-clause-intended g c =
    answered_so (texts c.args.words.now) (g.F.Shelf.held c.args.shelf.now) (g.F.Shelf.held c.intended.new.shelf) (g.F.Shelf.held c.stored.new.shelf)
    (g.F.Shelf.read_faults c.args.shelf.now) (g.F.Shelf.read_faults c.intended.new.shelf) (g.F.Shelf.read_faults c.stored.new.shelf)
    (g.F.Shelf.replace_faults c.args.shelf.now) (g.F.Shelf.replace_faults c.intended.new.shelf) (g.F.Shelf.replace_faults c.stored.new.shelf)
    c.in_ok-plan.plan c.stored.result c.in_ok-plan.ensures.plan c.in_ok-plan.ensures.held c.in_ok-plan.ensures.replaces c.stored.ensures.reads c.stored.ensures.stored

pub returns-clause-told : goal.returns-clause-told
returns-clause-told g c =
    stored_told g.F.Shelf.told g.F.Shelf.reads c.args.shelf.now c.intended.new.shelf c.stored.new.shelf (texts c.args.words.now) (g.F.Shelf.held c.intended.new.shelf) (g.F.Shelf.held c.stored.new.shelf)
    (g.F.Shelf.read_faults c.args.shelf.now) (g.F.Shelf.read_faults c.intended.new.shelf) (g.F.Shelf.read_faults c.stored.new.shelf)
    (g.F.Shelf.replace_faults c.args.shelf.now) (g.F.Shelf.replace_faults c.intended.new.shelf) (g.F.Shelf.replace_faults c.stored.new.shelf)
    c.in_ok-plan.plan c.stored.result c.in_ok-plan.ensures.told c.stored.ensures.no_read c.in_ok-plan.ensures.replaces c.stored.ensures.reads c.stored.ensures.stored
