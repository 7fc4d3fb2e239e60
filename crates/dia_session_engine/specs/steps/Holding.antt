-- What an engine holds, by what it keeps: the names of the files and their sources, in one order.
use Rattle.std.specs.Prelude.{◌≡◌, ◌≤◌, ℕ, List, length, position, Option, Some}
use Rattle.std.specs.Coded.{Coded, coded_list, coded×, coded_ℕ}
use Rattle.std.specs.List.{zip}
use Rattle.std.specs.Str.{bytes_eq}
use Rattle.table_keep.specs.declared.source.Source.{Source as HandedIn}
use Rattle.table_keep.specs.contracts.source.Source as source
use Rattle.table_keep.specs.Model.{sources_so}
use Rattle.analysis.specs.declared.kept.KeptReport.{KeptReport}
use Rattle.analysis.specs.Keeping.{AreKeptOf}
use Rattle.analysis_sources.specs.declared.source.TheConstants.{MOST_BYTES}
use Rattle.analysis_answers.specs.Words.{most_files}
use Rattle.dia_session_engine.specs.Held.{Held, MayHold, bytes_in, files_in, held_by}

-- names and sources, as an engine's files
abbrev pub files_code : Coded (List (List ℕ × HandedIn))
files_code = coded_list (coded× (coded_list coded_ℕ) (source.the_row).coded)

-- what is held, where these are the names of the files and their sources
abbrev pub held_of : (names : List (List ℕ)) → List HandedIn → Held
held_of names sources = held_by (zip names sources)

-- There is a source for each name, the bytes are counted, and there are no more files and bytes than may be.
pub record IsKept (names : List (List ℕ)) (sources : List HandedIn) (bytes : ℕ) : Type 0 where
  pub same_length : length names ≡ length sources
  pub counted : bytes ≡ bytes_in (held_of names sources)
  pub short : bytes ≤ MOST_BYTES
  pub few : length sources ≤ most_files

-- No more reports are kept than there are sources, and what is kept at each place is of the module there.
pub record HasReports (sources : List HandedIn) (kept : List (Option KeptReport)) : Type 0 where
  pub few : length kept ≤ length sources
  pub each : AreKeptOf (sources_so sources) kept

-- The file at this place may have a text of so many bytes.
pub record HasPlace (held : Held) (at bytes : ℕ) : Type 0 where
  pub file : List ℕ
  pub place : position (bytes_eq file) (files_in held) ≡ Some at
  pub fits : MayHold held file bytes
