use Rattle.analysis_sources.specs.Words.{texts}
use Rattle.dialyze_command.proofs.MakeExits.{made_intended, made_unfinished}
use Rattle.dialyze_command.proofs.ToldExits.{made_told}
use Rattle.dialyze_command.proofs.check.answered.Goals as goal

pub returns-in-Some-clause-intended : goal.returns-in-Some-clause-intended
returns-in-Some-clause-intended g c =
    made_intended (texts c.args.words.now) (g.F.Shelf.held c.args.shelf.now) (g.F.Shelf.held c.made.new.shelf) (g.F.Shelf.read_faults c.args.shelf.now) (g.F.Shelf.read_faults c.made.new.shelf)
    (g.F.Shelf.replace_faults c.args.shelf.now) (g.F.Shelf.replace_faults c.made.new.shelf) c.in-Some.count c.made.result c.in-Some.ensures c.made.ensures.made

pub returns-in-Some-clause-unfinished : goal.returns-in-Some-clause-unfinished
returns-in-Some-clause-unfinished g c =
    made_unfinished (texts c.args.words.now) (g.F.Shelf.held c.args.shelf.now) (g.F.Shelf.held c.made.new.shelf) c.in-Some.count c.made.result c.in-Some.ensures c.made.ensures.memory

pub returns-in-Some-clause-told : goal.returns-in-Some-clause-told
returns-in-Some-clause-told g c =
    made_told g.F.Shelf.told g.F.Shelf.reads c.args.shelf.now c.args.shelf.now c.made.new.shelf (texts c.args.words.now) (g.F.Shelf.held c.args.shelf.now) (g.F.Shelf.held c.made.new.shelf)
    (g.F.Shelf.read_faults c.args.shelf.now) (g.F.Shelf.read_faults c.made.new.shelf) (g.F.Shelf.replace_faults c.args.shelf.now) (g.F.Shelf.replace_faults c.made.new.shelf)
    c.in-Some.count c.made.result c.in-Some.ensures c.made.ensures.no_read c.made.ensures.made
