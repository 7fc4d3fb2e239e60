use Rattle.dialyze_command.proofs.StoreExits.{stored_put}
use Rattle.dialyze_command.proofs.store.stored.Goals as goal

pub returns-in-Some-clause-stored : goal.returns-in-Some-clause-stored
returns-in-Some-clause-stored g c =
    stored_put c.args.words.now (g.F.Shelf.held c.args.shelf.now) (g.F.Shelf.held c.put.new.shelf) (g.F.Shelf.replace_faults c.args.shelf.now) (g.F.Shelf.replace_faults c.put.new.shelf)
    c.args.plan.answer c.args.plan.table c.in-Some.table _ c.put.result c.in-Some.is c.requires c.put.ensures.put
