use Rattle.dialyze_command.proofs.BeginExits.{begun_named}
use Rattle.analysis_sources.specs.Words.{texts}
use Rattle.dialyze_command.proofs.ToldExits.{named_told, no_name_told}
use Rattle.dialyze_command.proofs.begin.table_to_begin.Goals as goal

pub returns-in-Some-clause-begun : goal.returns-in-Some-clause-begun
returns-in-Some-clause-begun g c =
    begun_named c.args.words.now (g.F.Shelf.held c.args.shelf.now) c.args.plt c.in-Some.word (g.F.Shelf.read_faults c.args.shelf.now) (g.F.Shelf.read_faults c.named_table.new.shelf) _ c.named_table.result
    c.in-Some.is c.requires.within c.named_table.ensures.read

pub returns-in-Some-clause-told : goal.returns-in-Some-clause-told
returns-in-Some-clause-told g c =
    named_told g.F.Shelf.told c.args.shelf.now c.named_table.new.shelf c.args.words.now c.args.plt c.in-Some.word (g.F.Shelf.read_faults c.args.shelf.now) (g.F.Shelf.read_faults c.named_table.new.shelf) _ c.named_table.result
    c.in-Some.is c.requires.within c.named_table.ensures.told

pub returns-in-None-clause-told : goal.returns-in-None-clause-told
returns-in-None-clause-told g c =
    no_name_told g.F.Shelf.told c.args.shelf.now (texts c.args.words.now) c.args.plt (g.F.Shelf.read_faults c.args.shelf.now) (g.F.Shelf.read_faults c.args.shelf.now) c.empty.result c.in-None.is c.empty.ensures
