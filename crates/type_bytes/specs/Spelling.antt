-- How a type is written in bytes: 0 for none, 1 for any, or 2, two bytes that tell which parts have values, and these parts in
-- order. The types of elements are written in the same way. Numbers have their highest byte first.
use Rattle.std.specs.Prelude.{ℕ, zero, suc, ◌+◌, ◌*◌, ℤ, Bool, true, not, cond, List, [], ◌∷◌, ◌++◌, length, Option, Some, None, is_some}
use Rattle.std.specs.Int.{w16, w32, w128, to_be_bytes, cast_unsigned}
use Rattle.std.specs.List.{flat_map}
use Rattle.type_kinds_sets.specs.Names as names
use Rattle.type_kinds_sets.specs.Names.{Name, Names}
use Rattle.type_kinds_sets.specs.Numbers as numbers
use Rattle.type_kinds_sets.specs.Numbers.{Numbers}
use Rattle.type_kinds_sets.specs.declared.ends.Low.{Low}
use Rattle.type_kinds_sets.specs.declared.ends.Low.TheVariants as low
use Rattle.type_kinds_sets.specs.declared.ends.High.{High}
use Rattle.type_kinds_sets.specs.declared.ends.High.TheVariants as high
use Rattle.type_kinds_sets.specs.declared.bits.Bits.{Bits}
use Rattle.type_kinds_sets.specs.declared.bits.Bits.TheVariants.{No, Whole, Any}
use Rattle.type_lattice_model.specs.Shapes.{Functions, no_function, of_arity, all_functions, Cell, Body, product, tags, Tuples, sizes, all_tuples, Parts, TypeAt}
use Rattle.type_lattice_model.specs.Operations.{ops, is_no_bits, is_no_function, is_empty}
use Rattle.type_lattice_model.specs.Full.{is_any}
use Rattle.type_lattice.specs.Types.{Type4}

-- ---- numbers

unfoldable pub two_bytes : ℕ → List ℕ
two_bytes n = to_be_bytes w16 n

unfoldable pub four_bytes : ℕ → List ℕ
four_bytes n = to_be_bytes w32 n

-- an integer, in two's complement of sixteen bytes
unfoldable pub int_bytes : ℤ → List ℕ
int_bytes n = to_be_bytes w128 (cast_unsigned w128 n)

-- ---- the values that hold no others

-- an atom: how long it is, and its bytes
abbrev pub name_bytes : Name → List ℕ
name_bytes a = four_bytes (length a) ++ a

-- how many atoms there are, and these; 0 for all
abbrev pub atoms_bytes : Names → List ℕ
atoms_bytes (names.some xs _) = length xs ∷ flat_map name_bytes xs
atoms_bytes names.every = 0 ∷ []

-- the ends of intervals by number
abbrev pub low_number : Low → ℕ
low_number low.Min = 0
low_number low.Zero = 1
low_number low.One = 2

abbrev pub high_number : High → ℕ
high_number high.MinusOne = 0
high_number high.Byte = 1
high_number high.Unicode = 2
high_number high.Max = 3

-- how many integers there are, and these; a byte from 128 on for an interval
abbrev pub ints_bytes : Numbers → List ℕ
ints_bytes (numbers.some xs _) = length xs ∷ flat_map int_bytes xs
ints_bytes (numbers.between l h _) = (128 + 4 * low_number l + high_number h) ∷ []

abbrev pub bits_bytes : Bits → List ℕ
bits_bytes No = []
bits_bytes Whole = 1 ∷ []
bits_bytes Any = 2 ∷ []

-- 0 for all, and 1 and the arity for those of one arity
abbrev pub functions_bytes : Functions → List ℕ
functions_bytes no_function = []
functions_bytes (of_arity n) = 1 ∷ four_bytes n
functions_bytes all_functions = 0 ∷ []

-- ---- lists and tuples, with what their element types are written as

module _ {E : Type 0} (bytes : E → List ℕ) where
  -- whether the ends are proper, and the element type
  abbrev pub cell_bytes : Option (Cell E) → List ℕ
  cell_bytes None = []
  cell_bytes (Some c) = cond c.is_proper 1 0 ∷ bytes c.element

  -- the atom, and the types of the elements after it
  abbrev pub tag_bytes : Name × List E → List ℕ
  tag_bytes t = name_bytes t.0 ++ flat_map bytes t.1

  -- 0 and the element types of a product, or how many tags there are, and these
  abbrev pub body_bytes : Body E → List ℕ
  body_bytes (product es) = 0 ∷ flat_map bytes es
  body_bytes (tags m) = length m ∷ flat_map tag_bytes m

  -- how many elements the tuples of the size have, and their types
  abbrev pub size_bytes : ℕ × Body E → List ℕ
  size_bytes s = s.0 ∷ body_bytes s.1

  -- how many sizes there are, and these; 0 for all tuples
  abbrev pub tuples_bytes : Tuples E → List ℕ
  tuples_bytes (sizes m) = length m ∷ flat_map size_bytes m
  tuples_bytes all_tuples = 0 ∷ []

-- ---- the parts of a type

-- a part: whether it has a value, and its bytes
pub record Part : Type 0 where
  pub some : Bool
  pub bytes : List ℕ

-- a part that is no or yes
abbrev pub flag_part : Bool → Part
flag_part b = record { some = b; bytes = [] }

abbrev pub atoms_part : Names → Part
atoms_part s = record { some = not (names.is_none s); bytes = atoms_bytes s }

abbrev pub ints_part : Numbers → Part
ints_part s = record { some = not (numbers.is_none s); bytes = ints_bytes s }

abbrev pub bits_part : Bits → Part
bits_part s = record { some = not (is_no_bits s); bytes = bits_bytes s }

abbrev pub functions_part : Functions → Part
functions_part s = record { some = not (is_no_function s); bytes = functions_bytes s }

module _ {E : Type 0} (bytes : E → List ℕ) where
  abbrev pub cell_part : Option (Cell E) → Part
  cell_part c = record { some = is_some c; bytes = cell_bytes bytes c }

  abbrev pub has_tuples : Tuples E → Bool
  has_tuples (sizes m) = not (is_empty m)
  has_tuples all_tuples = true

  abbrev pub tuples_part : Tuples E → Part
  tuples_part t = record { some = has_tuples t; bytes = tuples_bytes bytes t }

  -- the parts in order
  abbrev pub parts_of : Parts E → List Part
  parts_of p =
      atoms_part p.plain.atoms ∷ ints_part p.plain.ints ∷ flag_part p.plain.flags.float ∷ bits_part p.plain.bits
      ∷ flag_part p.plain.flags.pid ∷ flag_part p.plain.flags.port ∷ flag_part p.plain.flags.reference
      ∷ functions_part p.plain.functions ∷ flag_part p.plain.flags.nil ∷ cell_part p.cell ∷ tuples_part p.tuples
      ∷ flag_part p.plain.flags.map ∷ []

-- a bit for each part, 1 where it has a value: the first is the lowest
abbrev pub mask : List Part → ℕ
mask [] = 0
mask (p ∷ ps) = cond p.some 1 0 + 2 * mask ps

-- the bytes of the parts that have a value
abbrev pub part_bytes : Part → List ℕ
part_bytes p = cond p.some p.bytes []

abbrev pub some_bytes : List Part → List ℕ
some_bytes [] = []
some_bytes (p ∷ ps) = part_bytes p ++ some_bytes ps

-- the mask and the parts
abbrev pub all_bytes : List Part → List ℕ
all_bytes ps = two_bytes (mask ps) ++ some_bytes ps

-- ---- types

abbrev pub bytes_at : (d : ℕ) → TypeAt d → List ℕ
bytes_at zero t = cond t 1 0 ∷ []
bytes_at (suc d) t =
    cond (is_any (suc d) t) (1 ∷ [])
    (cond ((ops (suc d)).is_none t) (0 ∷ [])
    (2 ∷ all_bytes (parts_of (bytes_at d) t)))

-- the bytes of a type of the analysis
unfoldable pub bytes_of : Type4 → List ℕ
bytes_of t = bytes_at 4 t.ty
