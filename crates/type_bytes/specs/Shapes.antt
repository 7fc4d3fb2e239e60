-- Shapes: what the layout lets stand where a type does, whether or not it is the spelling of a type. Here any order of lists,
-- any integer, any mask and full parts are let, but no count, no kind and no bit that stands for nothing.
use Rattle.std.specs.Prelude.{◌≡◌, ◌⊎◌, IsTrue, ℕ, zero, suc, ◌+◌, ◌*◌, ◌==◌, ◌<◌, ◌≤◌, Bool, true, false, List, [], ◌∷◌, ◌++◌, length}
use Rattle.std.specs.Int.{w32, from_be_bytes, bit_at}
use Rattle.type_lattice.specs.Types.{Type4}
use Rattle.type_bytes.specs.Spelling.{bytes_of}
use Rattle.type_bytes.specs.ShortNames.{has_short_names}

-- ---- shapes in general, as what is said of bytes

-- no byte
abbrev pub Nothing : List ℕ → Type 0
Nothing bytes = bytes ≡ []

-- n bytes, whatever they are
abbrev pub Bytes : ℕ → List ℕ → Type 0
Bytes n bytes = length bytes ≡ n

-- a shape, and another behind it
abbrev pub Both : (P Q : List ℕ → Type 0) → List ℕ → Type 0
Both P Q bytes = (x : List ℕ) × ((y : List ℕ) × ((bytes ≡ x ++ y) × (P x × Q y)))

-- n shapes of a kind
abbrev pub Many : ℕ → (List ℕ → Type 0) → List ℕ → Type 0
Many zero P bytes = Nothing bytes
Many (suc n) P bytes = Both P (Many n P) bytes

-- one byte, and behind it what it asks for
abbrev pub Begins : (ℕ → List ℕ → Type 0) → List ℕ → Type 0
Begins Q [] = ⊥
Begins Q (b ∷ rest) = Q b rest

-- behind their number n, from one to `most` shapes of a kind
abbrev pub Counted : ℕ → (List ℕ → Type 0) → ℕ → List ℕ → Type 0
Counted most P n bytes = (1 ≤ n) × ((n ≤ most) × Many n P bytes)

-- a shape where there is one
abbrev pub Where : Bool → (List ℕ → Type 0) → List ℕ → Type 0
Where true P bytes = P bytes
Where false P bytes = Nothing bytes

-- ---- the parts of a type

-- an atom: four bytes of length, and as many bytes
abbrev pub NameShape : List ℕ → Type 0
NameShape bytes = (count : List ℕ) × ((name : List ℕ) × ((bytes ≡ count ++ name) × ((length count ≡ 4) × Bytes (from_be_bytes w32 count) name)))

abbrev pub AtomsShape : List ℕ → Type 0
AtomsShape bytes = Begins (λ b rest. ((b ≡ 0) × Nothing rest) ⊎ Counted 13 NameShape b rest) bytes

-- integers of sixteen bytes, or one of twelve intervals, of which some are empty
abbrev pub IntsShape : List ℕ → Type 0
IntsShape bytes = Begins (λ b rest. Counted 13 (Bytes 16) b rest ⊎ ((128 ≤ b) × ((b < 140) × Nothing rest))) bytes

abbrev pub BitsShape : List ℕ → Type 0
BitsShape bytes = Begins (λ b rest. (1 ≤ b) × ((b ≤ 2) × Nothing rest)) bytes

abbrev pub FunctionsShape : List ℕ → Type 0
FunctionsShape bytes = Begins (λ b rest. ((b ≡ 0) × Nothing rest) ⊎ ((b ≡ 1) × Bytes 4 rest)) bytes

-- with the shapes of elements
module _ (P : List ℕ → Type 0) where
  abbrev pub CellShape : List ℕ → Type 0
  CellShape bytes = Begins (λ b rest. (b ≤ 1) × P rest) bytes

  -- a tag, with n elements after it
  abbrev pub TagShape : ℕ → List ℕ → Type 0
  TagShape n bytes = Both NameShape (Many n P) bytes

  -- tags of tuples of n elements; those of none have no tag
  abbrev pub TagsShape : ℕ → ℕ → List ℕ → Type 0
  TagsShape zero b bytes = ⊥
  TagsShape (suc n) b bytes = Counted 13 (TagShape n) b bytes

  -- a size of at most 64 elements, and the product or the tags
  abbrev pub SizeShape : List ℕ → Type 0
  SizeShape bytes = Begins (λ n body. (n ≤ 64) × Begins (λ b rest. ((b ≡ 0) × Many n P rest) ⊎ TagsShape n b rest) body) bytes

  abbrev pub TuplesShape : List ℕ → Type 0
  TuplesShape bytes = Begins (λ b rest. ((b ≡ 0) × Nothing rest) ⊎ Counted 8 SizeShape b rest) bytes

  -- the parts whose bits are set: those of floats, pids, ports, references, nil and maps have no bytes
  abbrev pub PartsShape : ℕ → List ℕ → Type 0
  PartsShape m bytes =
      Both (Where (bit_at m 0 == 1) AtomsShape)
      (Both (Where (bit_at m 1 == 1) IntsShape)
      (Both (Where (bit_at m 3 == 1) BitsShape)
      (Both (Where (bit_at m 7 == 1) FunctionsShape)
      (Both (Where (bit_at m 9 == 1) CellShape) (Where (bit_at m 10 == 1) TuplesShape))))) bytes

  -- a mask of twelve bits in two bytes, and the parts
  abbrev pub MaskedShape : List ℕ → Type 0
  MaskedShape bytes = Begins (λ high later. (high < 16) × Begins (λ low rest. PartsShape (256 * high + low) rest) later) bytes

-- ---- types

-- an element of a level, behind its first byte: any, or parts, which no element of level 0 has
abbrev pub ElementBehind : ℕ → ℕ → List ℕ → Type 0
ElementBehind zero b rest = (b ≡ 1) × Nothing rest
ElementBehind (suc d) b rest = ((b ≡ 1) × Nothing rest) ⊎ ((b ≡ 2) × MaskedShape (Begins (ElementBehind d)) rest)

abbrev pub ElementShape : ℕ → List ℕ → Type 0
ElementShape d bytes = Begins (ElementBehind d) bytes

-- a type: none, or what an element of level 4 may be
unfoldable pub TypeShape : List ℕ → Type 0
TypeShape bytes = Begins (λ b rest. ((b ≡ 0) × Nothing rest) ⊎ ElementBehind 4 b rest) bytes

-- the bytes are a proper prefix of a shape
abbrev pub IsShort : List ℕ → Type 0
IsShort bytes = (more : List ℕ) × ((more ≡ [] → ⊥) × TypeShape (bytes ++ more))

-- the bytes begin with the spelling of no type
abbrev pub BeginNoType : List ℕ → Type 0
BeginNoType bytes = (t : Type4) (rest : List ℕ) → IsTrue (has_short_names t) → bytes ≡ bytes_of t ++ rest → ⊥
