-- What reading files gives, one after another, each wholly before the next: their sources, or the first refusal.
use Rattle.std.specs.Prelude.{◌≡◌, ℕ, ◌+◌, List, [], ◌∷◌, length, take, slice_get, Option, Some}
use Rattle.da_shelf.specs.Counts.{Rose}
use Rattle.da_shelf.specs.Told.{Files, Holds, Lacks}
use Rattle.table_keep.specs.declared.source.Source.{Source as HandedIn}
use Rattle.table_keep.specs.Model.{Source}
use Rattle.analysis_sources.specs.declared.reading.ReadFault.{ReadFault}
use Rattle.analysis_sources.specs.declared.reading.ReadFault.TheVariants.{Refused, Failed, Memory}
use Rattle.analysis_sources.specs.declared.refusals.SourceFault.{SourceFault}
use Rattle.analysis_sources.specs.Refusals.{missing}
use Rattle.analysis_sources.specs.Sources.{room, IsTextOf, IsAtFault}

-- The files are held, and what they hold is the text of these sources. Before them `before` bytes were read, and with
-- them `after`.
abbrev pub AreRead : (told : Option Files) → (before : ℕ) → (files : List (List ℕ)) → List Source → (after : ℕ) → Type 0
AreRead told before [] [] after = after ≡ before
AreRead told before [] (s ∷ ss) after = ⊥
AreRead told before (file ∷ files) [] after = ⊥
AreRead told before (file ∷ files) (s ∷ ss) after =
    (bytes : List ℕ) × Holds told file bytes × IsTextOf (room before) bytes s × AreRead told (before + length bytes) files ss after

-- how many bytes the texts of sources have together, by the counts that they have
abbrev pub bytes_of : List HandedIn → ℕ
bytes_of [] = 0
bytes_of (s ∷ ss) = s.length + bytes_of ss

-- All files before the one at this position were read, `before` bytes in all.
pub record IsReached (told : Option Files) (files : List (List ℕ)) (at : ℕ) (file : List ℕ) (before : ℕ) : Type 0 where
  pub there : slice_get files at ≡ Some file
  pub sources : List Source
  pub read : AreRead told 0 (take at files) sources before

-- The file at this position is reached and isn't held.
pub record IsMissingAt (told : Option Files) (files : List (List ℕ)) (at : ℕ) : Type 0 where
  pub file : List ℕ
  pub before : ℕ
  pub reached : IsReached told files at file before
  pub absent : Lacks told file

-- The file at this position is reached and held, and of its bytes, with the number that it may have, this holds.
pub record HoldsAt (told : Option Files) (files : List (List ℕ)) (at : ℕ) (Is : (most : ℕ) → List ℕ → Type 0) : Type 0 where
  pub file : List ℕ
  pub bytes : List ℕ
  pub before : ℕ
  pub reached : IsReached told files at file before
  pub held_so : Holds told file bytes
  pub is : Is (room before) bytes

-- The file at this position is the first that can't be read, by this fault.
pub data RefusedAt (told : Option Files) (files : List (List ℕ)) (at : ℕ) (fault : SourceFault) : Type 0 where
  not_held : fault ≡ missing → IsMissingAt told files at → RefusedAt told files at fault
  at_fault : HoldsAt told files at (λ most bytes. IsAtFault most bytes fault) → RefusedAt told files at fault

-- What a fault says of files whose first is the word at the position `first`: the word is that of the file, and it can't be read
-- by this fault; or it is reached, and the shelf has counted that it failed.
abbrev pub Fails : (told : Option Files) (files : List (List ℕ)) (first faults_before faults_now : ℕ) → ReadFault → Type 0
Fails told files first faults_before faults_now (Refused word fault) =
    (at : ℕ) × (word ≡ first + at) × RefusedAt told files at fault
Fails told files first faults_before faults_now (Failed word) =
    (at : ℕ) × (word ≡ first + at) × ((file : List ℕ) × (before : ℕ) × IsReached told files at file before) × Rose faults_before faults_now
Fails told files first faults_before faults_now Memory = Unit {0}

-- These are the names of the files up to the one that the fault names, in their order.
abbrev pub AreUpTo : (first : ℕ) (files names : List (List ℕ)) → ReadFault → Type 0
AreUpTo first files names (Refused word fault) = (at : ℕ) × (word ≡ first + at) × (names ≡ take (at + 1) files)
AreUpTo first files names (Failed word) = (at : ℕ) × (word ≡ first + at) × (names ≡ take (at + 1) files)
AreUpTo first files names Memory = Unit {0}

-- ---- texts

-- The files are held, and what they hold are these texts.
abbrev pub AreHeld : (told : Option Files) → (files texts : List (List ℕ)) → Type 0
AreHeld told [] [] = Unit {0}
AreHeld told [] (t ∷ ts) = ⊥
AreHeld told (f ∷ fs) [] = ⊥
AreHeld told (f ∷ fs) (t ∷ ts) = Holds told f t × AreHeld told fs ts

-- What a fault says of files that hold texts: that of the position it names can't be read. No shelf fails.
abbrev pub TextFails : (told : Option Files) → (files : List (List ℕ)) → ReadFault → Type 0
TextFails told files (Refused word fault) = RefusedAt told files word fault
TextFails told files (Failed word) = ⊥
TextFails told files Memory = Unit {0}
