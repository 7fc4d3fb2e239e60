-- The first fault of bytes that spell no table.
use Rattle.std.specs.Prelude.{◌≡◌, ℕ, suc, Bool, ◌+◌, ◌-◌, ◌<◌, ◌≤◌, false, ◌⊎◌, List, [], ◌∷◌, ◌++◌, length, take, drop, map, IsTrue}
use Rattle.std.specs.List.{flat_map, list_all}
use Rattle.sha2.specs.Sha256.{sha256}
use Rattle.type_kinds_sets.specs.Names.{Name}
use Rattle.table_file.specs.Lengths.{has_short_types}
use Rattle.table_file.specs.Order.{rises, is_name_before}
use Rattle.table_file.specs.Spelling.{four_bytes, text_bytes, entry_bytes, magic, version, sealed}
use Rattle.table_file.specs.declared.entries.Entry.{Entry}
use Rattle.table_file.specs.declared.faults.TableFault.{TableFault}
use Rattle.table_file.specs.declared.faults.TableFault.TheVariants as faults

abbrev pub names_of : List Entry → List Name
names_of entries = map (λ e. e.name) entries

-- whether the name is greater than those of the entries, which rise
abbrev pub rises_on : List Entry → Name → Bool
rises_on entries name = rises is_name_before (names_of entries ++ name ∷ [])

-- The bytes have the head and the digest of a table. Between these stand the count of entries, some entries that
-- rise, and a rest, in which `left` entries are still to come by the count.
pub record Stands (bytes : List ℕ) (entries : List Entry) (left : ℕ) (rest : List ℕ) : Type 0 where
  pub whole : bytes ≡ sealed
      (magic ++ version ++ four_bytes (length entries + left) ++ flat_map entry_bytes entries ++ rest)
  pub rise : IsTrue (rises is_name_before (names_of entries))
  pub short : IsTrue (list_all has_short_types entries)

-- there are too few bytes for an empty table, or the last 32 aren't the digest of those before them
abbrev pub IsTorn : List ℕ → Type 0
IsTorn bytes = (length bytes < 46) ⊎ (drop (length bytes - 32) bytes ≡ sha256 (take (length bytes - 32) bytes) → ⊥)

-- a name stands first, whole, and isn't greater than the last entry's
abbrev pub IsOutOfOrder : List Entry → List ℕ → Type 0
IsOutOfOrder entries rest = (name : Name) × (more : List ℕ) × (rest ≡ text_bytes name ++ more)
    × (rises_on entries name ≡ false)

-- no entry stands first
abbrev pub IsNoEntry : List ℕ → Type 0
IsNoEntry rest = (e : Entry) (more : List ℕ) → IsTrue (has_short_types e) → rest ≡ entry_bytes e ++ more → ⊥

-- The fault is the first one of the bytes. Nothing is said of `Memory`.
abbrev pub IsFirst : TableFault → List ℕ → Type 0
IsFirst faults.NotATable bytes = take 8 bytes ≡ magic → ⊥
IsFirst faults.Version bytes = (take 8 bytes ≡ magic) × (10 ≤ length bytes) × (take 2 (drop 8 bytes) ≡ version → ⊥)
IsFirst faults.Torn bytes = (take 8 bytes ≡ magic) × (10 ≤ length bytes → take 2 (drop 8 bytes) ≡ version)
    × IsTorn bytes
IsFirst faults.Order bytes = (entries : List Entry) × (left : ℕ) × (rest : List ℕ)
    × Stands bytes entries (suc left) rest × IsOutOfOrder entries rest
IsFirst faults.BadEntry bytes =
    (entries : List Entry) × (left : ℕ) × (rest : List ℕ) × Stands bytes entries (suc left) rest
    × (IsOutOfOrder entries rest → ⊥) × IsNoEntry rest
IsFirst faults.Rest bytes = (entries : List Entry) × (rest : List ℕ) × Stands bytes entries 0 rest × (rest ≡ [] → ⊥)
IsFirst faults.Memory bytes = Unit {0}
