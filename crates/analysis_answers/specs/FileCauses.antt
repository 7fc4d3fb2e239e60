-- When each answer of a run over files comes.
use Rattle.std.specs.Prelude.{ℕ, ◌<◌, List, length, Some}
use Rattle.da_shelf.specs.Told.{Files}
use Rattle.table_keep.specs.Model.{Source, trees}
use Rattle.analysis_sources.specs.declared.refusals.SourceFault.{SourceFault}
use Rattle.analysis_sources.specs.Reading.{HoldsAt, IsMissingAt}
use Rattle.analysis_sources.specs.Sources.{IsAtFault}
use Rattle.analysis_answers.specs.ReadFiles.{ReadsAll, HaveOwnNames, IsDuplicate}
use Rattle.analysis_answers.specs.Words.{NamesFiles}

-- The files before this position are read, and the one there isn't held.
pub record NamesMissing (words : List (List ℕ)) (held : Files) (word : ℕ) : Type 0 where
  pub named : NamesFiles words
  pub is : IsMissingAt (Some held) words word

-- The files before this position are read, the one there is held, and it has more bytes than it may.
pub record NamesTooLong (words : List (List ℕ)) (held : Files) (word : ℕ) : Type 0 where
  pub named : NamesFiles words
  pub is : HoldsAt (Some held) words word (λ most bytes. most < length bytes)

-- The files before this position are read, the one there is held, and its bytes are the source of no module, by this fault.
pub record NamesFaulty (words : List (List ℕ)) (held : Files) (word : ℕ) (fault : SourceFault) : Type 0 where
  pub named : NamesFiles words
  pub is : HoldsAt (Some held) words word (λ most bytes. IsAtFault most bytes fault)

-- All files are read, and the module of that at the position `word` is the first that has the name of one before it, of which that at
-- the position `other` is the earliest.
pub record NamesTwice (words : List (List ℕ)) (held : Files) (word other : ℕ) : Type 0 where
  pub named : NamesFiles words
  pub is : IsDuplicate (Some held) words other word

-- All files are read, as sources whose modules have names of their own.
pub record NamesModules (words : List (List ℕ)) (held : Files) : Type 0 where
  pub named : NamesFiles words
  pub sources : List Source
  pub read : ReadsAll (Some held) words sources
  pub names : HaveOwnNames (trees sources)
