use Rattle.std.proofs.Common.{◌≤◌, ℕ, List, take}
use Rattle.std.specs.Prelude.{Option}
use Rattle.da_shelf.specs.Told.{Files}
use Rattle.analysis_sources.specs.declared.source.TheConstants.{MOST_BYTES}
use Rattle.analysis_sources.specs.Reading.{AreHeld, AreRead}
use Rattle.table_keep.specs.Model.{sources_so}
use Rattle.analysis_sources.proofs.reading.add_sources.Given as goal

abbrev pub invariant-loop-at : goal.invariant-loop-at
invariant-loop-at l = record {
  read : (told : Option Files) (files : List (List ℕ)) → AreHeld told files l.texts → AreRead told 0 (take l.at files) (sources_so l.sources) l.before;
  small : l.before ≤ MOST_BYTES;
}
