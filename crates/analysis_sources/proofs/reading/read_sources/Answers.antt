use Rattle.std.proofs.Common.{ℕ, List, subst}
use Rattle.analysis_sources.proofs.FilesRead.{texts_from}
use Rattle.table_keep.specs.Model.{sources_so}
use Rattle.da_shelf.specs.Reads.{IsTold}
use Rattle.analysis_sources.specs.Reading.{AreRead, AreUpTo, Fails, bytes_of}
use Rattle.analysis_sources.proofs.reading.read_sources.Goals as goal

pub returns-in-Ok-clause-sources : goal.returns-in-Ok-clause-sources
returns-in-Ok-clause-sources g c = (
  bytes_of c.read_all.new.sources,
  subst (λ files. AreRead (g.F.Shelf.held c.args.shelf.now) 0 files (sources_so c.read_all.new.sources) (bytes_of c.read_all.new.sources))
      (texts_from c.args.words.now c.args.first) c.in-Ok.ensures.sources,
)

pub returns-in-Ok-clause-lengths : goal.returns-in-Ok-clause-lengths
returns-in-Ok-clause-lengths g c =
    subst (λ files. AreRead (g.F.Shelf.held c.args.shelf.now) 0 files (sources_so c.read_all.new.sources) (bytes_of c.read_all.new.sources))
    (texts_from c.args.words.now c.args.first) c.in-Ok.ensures.sources

pub returns-in-Err-clause-fault : goal.returns-in-Err-clause-fault
returns-in-Err-clause-fault g c =
    subst
    (λ files. Fails (g.F.Shelf.held c.args.shelf.now) files c.args.first (g.F.Shelf.read_faults c.args.shelf.now) (g.F.Shelf.read_faults c.read_all.new.shelf) c.in-Err.fault)
    (texts_from c.args.words.now c.args.first) c.in-Err.ensures.fault

pub returns-in-Ok-clause-told : goal.returns-in-Ok-clause-told
returns-in-Ok-clause-told g c =
    subst
    (λ files. IsTold g.F.Shelf.told c.args.shelf.now c.read_all.new.shelf files (λ held. AreRead held 0 files (sources_so c.read_all.new.sources) (bytes_of c.read_all.new.sources)))
    (texts_from c.args.words.now c.args.first) c.in-Ok.ensures.told

pub returns-in-Err-clause-told_fault : goal.returns-in-Err-clause-told_fault
returns-in-Err-clause-told_fault g c =
    subst
    (λ files. (names : List (List ℕ)) × AreUpTo c.args.first files names c.in-Err.fault × IsTold g.F.Shelf.told c.args.shelf.now c.read_all.new.shelf names
    (λ held. Fails held files c.args.first (g.F.Shelf.read_faults c.args.shelf.now) (g.F.Shelf.read_faults c.read_all.new.shelf) c.in-Err.fault))
    (texts_from c.args.words.now c.args.first) c.in-Err.ensures.told_fault
