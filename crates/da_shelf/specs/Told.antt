-- What contracts see of a shelf and of a sink: everything of a fake in memory, and nothing of files and the standard
-- output (`None`).
use Rattle.std.specs.Prelude.{◌≡◌, ℕ, ◌≤◌, List, ◌++◌, length, take, Option, Some, None, IfSome, option_map, ◌⊎◌}
use Rattle.std.specs.Ordering.{nat_cmp}
use Rattle.std.specs.Cmp.Lexicographic.{slice_cmp}
use Rattle.std.specs.FinMap.{FinMap, get, insert}

-- what is held: bytes, each under a name
abbrev pub Files : Type 0
Files = FinMap (slice_cmp nat_cmp) (List ℕ)

-- These bytes are held under the name, where contracts see what is held.
abbrev pub Holds : Option Files → List ℕ → List ℕ → Type 0
Holds told name bytes = IfSome told (λ files. get files name ≡ Some bytes)

-- Nothing is held under the name, where contracts see what is held.
abbrev pub Lacks : Option Files → List ℕ → Type 0
Lacks told name = IfSome told (λ files. get files name ≡ None)

-- what is held with these bytes under the name, in place of what was there, where contracts see what is held
abbrev pub replaced : Option Files → List ℕ → List ℕ → Option Files
replaced told name bytes = option_map (λ files. insert files name bytes) told

-- The name holds what it held, or these bytes, whole, and no other name has changed.
abbrev pub IsOldOrNew : Option Files → Option Files → List ℕ → List ℕ → Type 0
IsOldOrNew before now name bytes = (now ≡ before) ⊎ (now ≡ replaced before name bytes)

-- what was written, with more behind it, where contracts see what was written
abbrev pub appended : Option (List ℕ) → List ℕ → Option (List ℕ)
appended told more = option_map (λ all. all ++ more) told

-- A prefix of these bytes was written, and nothing else.
abbrev pub IsPrefixAppended : Option (List ℕ) → Option (List ℕ) → List ℕ → Type 0
IsPrefixAppended before now bytes = (n : ℕ) × (n ≤ length bytes) × (now ≡ appended before (take n bytes))
