-- What the reads of a shelf tell, one after another.
use Rattle.std.specs.Prelude.{◌≡◌, ℕ, ◌≤◌, ◌^◌, List, [], ◌∷◌, length, map, Option, Some, None, IsTrue}
use Rattle.std.specs.FinMap.{get}
use Rattle.da_shelf.specs.declared.shelf.ShelfFault.{ShelfFault}
use Rattle.da_shelf.specs.declared.shelf.ShelfFault.TheVariants.{Missing, Failed, Memory}
use Rattle.da_shelf.specs.Counts.{FileCounts, after_one_read, after_failed_read}
use Rattle.da_shelf.specs.ShelfState.{ShelfState, read_fails, after_read}
use Rattle.da_shelf.specs.Told.{Files, Holds, Lacks}

-- A read of a name, and what was answered: bytes, or why there are none.
pub data ToldRead : Type 0 where
  gave : (name bytes : List ℕ) → ToldRead
  gave_none : (name : List ℕ) → ShelfFault → ToldRead

abbrev pub name_read : ToldRead → List ℕ
name_read (gave name bytes) = name
name_read (gave_none name fault) = name

-- the names that were read, in their order
abbrev pub names_read : List ToldRead → List (List ℕ)
names_read reads = map name_read reads

-- What is held is as this read told: these bytes under the name, or nothing. A read that failed tells nothing.
abbrev pub Fits : (held : Option Files) → ToldRead → Type 0
Fits held (gave name bytes) = Holds held name bytes
Fits held (gave_none name Missing) = Lacks held name
Fits held (gave_none name Failed) = Unit {0}
Fits held (gave_none name Memory) = Unit {0}

-- What is held is as all of these reads told.
abbrev pub AllFit : (held : Option Files) → List ToldRead → Type 0
AllFit held [] = Unit {0}
AllFit held (read ∷ reads) = Fits held read × AllFit held reads

-- These reads, one after another, took a shelf from one state to another.
abbrev pub AreReads : {S : Type 0} → (told : S → S → ToldRead → Type 0) → (before : S) → List ToldRead → (now : S) → Type 0
AreReads told before [] now = now ≡ before
AreReads {S} told before (read ∷ reads) now = (next : S) × told before next read × AreReads told next reads now

-- Reads of these names, in their order, took a shelf from one state to another, and whatever is held as they told, this holds of it.
pub record IsTold {S : Type 0} (told : S → S → ToldRead → Type 0) (before now : S) (names : List (List ℕ)) (Is : Option Files → Type 0) : Type 0 where
  pub reads : List ToldRead
  pub took : AreReads told before reads now
  pub in_order : names_read reads ≡ names
  pub so : (held : Option Files) → AllFit held reads → Is held

-- The same of the first of what took it there. Behind these reads nothing was read: the count of reads stayed as it was.
pub record IsToldFirst {S : Type 0} (told : S → S → ToldRead → Type 0) (count : S → ℕ) (before now : S) (names : List (List ℕ)) (Is : Option Files → Type 0) : Type 0 where
  pub behind : S
  pub first : IsTold told before behind names Is
  pub no_more : count now ≡ count behind

-- ---- the two shelves

-- a read of a shelf in memory
abbrev pub IsMemoryRead : (before now : ShelfState) → ToldRead → Type 0
IsMemoryRead before now (gave name bytes) = (now ≡ after_read before) × (get before.held name ≡ Some bytes)
IsMemoryRead before now (gave_none name Missing) = (now ≡ after_read before) × (get before.held name ≡ None)
IsMemoryRead before now (gave_none name Failed) = (now ≡ after_read before) × IsTrue (read_fails before)
IsMemoryRead before now (gave_none name Memory) = now ≡ after_read before

-- a read of a file of the host, which has 1 GiB at most
abbrev pub IsFileRead : (before now : FileCounts) → ToldRead → Type 0
IsFileRead before now (gave name bytes) = (now ≡ after_one_read before) × (length bytes ≤ 2 ^ 30)
IsFileRead before now (gave_none name Missing) = now ≡ after_one_read before
IsFileRead before now (gave_none name Failed) = now ≡ after_failed_read before
IsFileRead before now (gave_none name Memory) = now ≡ after_one_read before
