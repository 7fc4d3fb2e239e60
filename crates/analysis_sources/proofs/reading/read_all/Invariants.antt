use Rattle.std.proofs.Common.{◌≡◌, ◌≤◌, take}
use Rattle.da_shelf.specs.Reads.{IsTold}
use Rattle.analysis_sources.specs.declared.source.TheConstants.{MOST_BYTES}
use Rattle.analysis_sources.specs.Reading.{AreRead, bytes_of}
use Rattle.table_keep.specs.Model.{sources_so}
use Rattle.analysis_sources.specs.Words.{texts}
use Rattle.analysis_sources.proofs.reading.read_all.Given as goal

abbrev pub invariant-loop-at : goal.invariant-loop-at
invariant-loop-at g l = record {
  read : AreRead (g.F.Shelf.held l.fn.shelf) 0 (take l.at (texts l.files)) (sources_so l.sources) l.before;
  told : IsTold g.F.Shelf.told l.fn.shelf l.shelf (take l.at (texts l.files)) (λ held. AreRead held 0 (take l.at (texts l.files)) (sources_so l.sources) l.before);
  lengths : bytes_of l.sources ≡ l.before;
  small : l.before ≤ MOST_BYTES;
  held : g.F.Shelf.held l.shelf ≡ g.F.Shelf.held l.fn.shelf;
  replaces : g.F.Shelf.replace_faults l.shelf ≡ g.F.Shelf.replace_faults l.fn.shelf;
  counted : g.F.Shelf.read_faults l.fn.shelf ≤ g.F.Shelf.read_faults l.shelf;
}
