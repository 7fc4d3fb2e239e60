-- What a fault says of one file.
use Rattle.std.specs.Prelude.{◌≡◌, ℕ, List, length, Option}
use Rattle.da_shelf.specs.Counts.{Rose}
use Rattle.da_shelf.specs.Told.{Files, Holds, Lacks}
use Rattle.table_keep.specs.declared.source.Source.{Source}
use Rattle.table_keep.specs.Model.{source_so}
use Rattle.analysis_sources.specs.declared.reading.ReadFault.{ReadFault}
use Rattle.analysis_sources.specs.declared.reading.ReadFault.TheVariants.{Refused, Failed, Memory}
use Rattle.analysis_sources.specs.declared.refusals.SourceFault.{SourceFault}
use Rattle.analysis_sources.specs.Refusals.{missing}
use Rattle.analysis_sources.specs.Sources.{room, IsTextOf, IsAtFault}

-- The file isn't held, or its bytes are the source of no module, by this fault.
pub data OneRefused (told : Option Files) (file : List ℕ) (before : ℕ) (fault : SourceFault) : Type 0 where
  lacking : fault ≡ missing → Lacks told file → OneRefused told file before fault
  faulty : (bytes : List ℕ) → Holds told file bytes → IsAtFault (room before) bytes fault → OneRefused told file before fault

-- What a fault says of the file at this position, where `before` bytes were read before it.
abbrev pub FailsOne : (told : Option Files) (file : List ℕ) (word before faults_before faults_now : ℕ) → ReadFault → Type 0
FailsOne told file word before faults_before faults_now (Refused at fault) = (at ≡ word) × OneRefused told file before fault
FailsOne told file word before faults_before faults_now (Failed at) = (at ≡ word) × Rose faults_before faults_now
FailsOne told file word before faults_before faults_now Memory = Unit {0}

-- What a fault says of the bytes of a file.
abbrev pub FailsBytes : (bytes : List ℕ) (word before : ℕ) → ReadFault → Type 0
FailsBytes bytes word before (Refused at fault) = (at ≡ word) × IsAtFault (room before) bytes fault
FailsBytes bytes word before (Failed at) = ⊥
FailsBytes bytes word before Memory = Unit {0}

-- The file is held, and its bytes are the text of this source, where `before` bytes were read before it.
pub record IsReadAs (told : Option Files) (file : List ℕ) (before : ℕ) (source : Source) : Type 0 where
  pub bytes : List ℕ
  pub held_so : Holds told file bytes
  pub is : IsTextOf (room before) bytes (source_so source)
  pub counted : source.length ≡ length bytes
