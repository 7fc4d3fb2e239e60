-- When each answer comes, and what an accepted table is worth.
use Rattle.std.specs.Prelude.{◌≡◌, ℕ, ◌+◌, ◌<◌, List, length, Option, Some, true, false}
use Rattle.type_kinds.specs.declared.atom.Atom.{Atom}
use Rattle.da_shelf.specs.Told.{Files, Holds, Lacks, replaced}
use Rattle.table_file.specs.declared.tables.Table.{Table}
use Rattle.table_file.specs.declared.faults.TableFault.{TableFault as FaultOfTable}
use Rattle.table_file.specs.Lengths.{is_short_table}
use Rattle.table_file.specs.Spelling.{table_bytes}
use Rattle.table_keep.specs.Model.{Source, entries_so}
use Rattle.analysis_sources.specs.declared.refusals.SourceFault.{SourceFault}
use Rattle.analysis_sources.specs.Reading.{HoldsAt, IsMissingAt}
use Rattle.analysis_sources.specs.Sources.{IsAtFault}
use Rattle.analysis_answers.specs.ReadFiles.{IsDuplicate}
use Rattle.analysis_answers.specs.Tables.{IsFaultOf}
use Rattle.table_verify_laws.specs.Laws.{AreSuccessTypings}
use Rattle.table_verify_laws.specs.Rules.{IsFirstBroken, KeepsRules, TableRule}
use Rattle.table_verify_command.specs.Outcome.{Begins, Certifies, Judges, ReachesTable}

-- The word at this position names a table or a file, what stands before it is read, and it isn't held.
pub data NamesMissing (words : List (List ℕ)) (held : Files) (word : ℕ) : Type 0 where
  as_table : (name : List ℕ) → ReachesTable words (Some held) word name → Lacks (Some held) name → NamesMissing words held word
  as_file : (start : ℕ) (files : List (List ℕ)) (at : ℕ) → word ≡ start + at → Begins words (Some held) start files
      → IsMissingAt (Some held) files at → NamesMissing words held word

-- A table or a certificate is reached, it is held, and its bytes have this first fault.
pub record NamesBadTable (words : List (List ℕ)) (held : Files) (fault : FaultOfTable) : Type 0 where
  pub word : ℕ
  pub name : List ℕ
  pub bytes : List ℕ
  pub reached : ReachesTable words (Some held) word name
  pub held_so : Holds (Some held) name bytes
  pub is : IsFaultOf bytes fault

-- The word at this position names a file, what stands before it is read, it is held, and of its bytes, with the number that it may have,
-- this holds.
pub record NamesSource (words : List (List ℕ)) (held : Files) (word : ℕ) (Is : (most : ℕ) → List ℕ → Type 0) : Type 0 where
  pub start : ℕ
  pub files : List (List ℕ)
  pub begins : Begins words (Some held) start files
  pub at : ℕ
  pub place : word ≡ start + at
  pub source : HoldsAt (Some held) files at Is

-- The file has more bytes than it may.
abbrev pub NamesTooLong : (words : List (List ℕ)) (held : Files) (word : ℕ) → Type 0
NamesTooLong words held word = NamesSource words held word (λ most bytes. most < length bytes)

-- The file's bytes are the source of no module, by this fault.
abbrev pub NamesFaulty : (words : List (List ℕ)) (held : Files) (word : ℕ) → SourceFault → Type 0
NamesFaulty words held word fault = NamesSource words held word (λ most bytes. IsAtFault most bytes fault)

-- The certificate is to be put under the name at position 1, and a count or a length of it doesn't fit.
pub record NamesLongCertificate (words : List (List ℕ)) (held : Files) (word : ℕ) : Type 0 where
  pub place : word ≡ 1
  pub name : List ℕ
  pub cert : Table
  pub certifies : Certifies words (Some held) name cert
  pub long : is_short_table cert ≡ false

-- All files are read, and the module of that at the position `word` is the first that has the name of one before it, of which that at
-- the position `other` is the earliest.
pub record NamesTwice (words : List (List ℕ)) (held : Files) (word other : ℕ) : Type 0 where
  pub start : ℕ
  pub files : List (List ℕ)
  pub begins : Begins words (Some held) start files
  pub first : ℕ
  pub second : ℕ
  pub place : word ≡ start + second
  pub other_place : other ≡ start + first
  pub duplicate_module : IsDuplicate (Some held) files first second

-- The words ask for a check, and this rule is the first that is broken.
pub record NamesBroken (words : List (List ℕ)) (held : Files) (r : TableRule) : Type 0 where
  pub table : Table
  pub cert : Table
  pub sources : List Source
  pub judges : Judges words (Some held) table cert sources
  pub home : Atom
  pub broken : IsFirstBroken (entries_so table) (entries_so cert) sources r home

-- The words ask for a check, and no rule is broken. Each summary of the table is a success typing in every run of the files' modules.
pub record NamesGood (words : List (List ℕ)) (held : Files) : Type 0 where
  pub table : Table
  pub cert : Table
  pub sources : List Source
  pub judges : Judges words (Some held) table cert sources
  pub keeps : KeepsRules (entries_so table) (entries_so cert) sources
  pub holds : AreSuccessTypings sources (entries_so table)

-- The words ask for a certificate of modules with names of their own, and its counts and lengths fit.
pub record NamesCertificate (words : List (List ℕ)) (held : Files) : Type 0 where
  pub name : List ℕ
  pub cert : Table
  pub certifies : Certifies words (Some held) name cert
  pub short : is_short_table cert ≡ true

-- The words ask for a certificate, and it is held under its name, whole, and all else is held as it was.
pub record StoresCertificate (words : List (List ℕ)) (held : Files) (after : Option Files) : Type 0 where
  pub name : List ℕ
  pub cert : Table
  pub certifies : Certifies words (Some held) name cert
  pub short : is_short_table cert ≡ true
  pub stored : after ≡ replaced (Some held) name (table_bytes cert)
