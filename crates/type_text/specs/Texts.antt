-- How a type is written: `none()`, `any()`, or what its parts have, part by part, with ` | ` between.
use Rattle.std.specs.Prelude.{ℕ, zero, suc, Bool, true, false, cond, List, [], ◌∷◌, ◌++◌, map, Option, Some, None, codes}
use Rattle.std.specs.Fmt.{decimal, signed_decimal}
use Rattle.type_kinds.specs.Quoted.{quoted}
use Rattle.type_kinds_sets.specs.Names as names
use Rattle.type_kinds_sets.specs.Names.{Name, Names}
use Rattle.type_kinds_sets.specs.Numbers as numbers
use Rattle.type_kinds_sets.specs.Numbers.{Numbers}
use Rattle.type_kinds_sets.specs.declared.ends.Low.{Low}
use Rattle.type_kinds_sets.specs.declared.ends.Low.TheVariants as low
use Rattle.type_kinds_sets.specs.declared.ends.High.{High}
use Rattle.type_kinds_sets.specs.declared.ends.High.TheVariants as high
use Rattle.type_kinds_sets.specs.declared.bits.Bits.{Bits}
use Rattle.type_kinds_sets.specs.declared.bits.Bits.TheVariants.{No, Whole, Any}
use Rattle.type_lattice_model.specs.Shapes.{Functions, no_function, of_arity, all_functions, PlainParts, Cell, Body, product, tags, Tuples, sizes, all_tuples, Parts, TypeAt}
use Rattle.type_lattice_model.specs.Operations.{ops}
use Rattle.type_lattice_model.specs.Full.{is_any}
use Rattle.type_lattice.specs.Types.{Type4}

-- ---- words in a row

-- the later words, each after a separator
abbrev pub after : List ℕ → List (List ℕ) → List ℕ
after s [] = []
after s (w ∷ ws) = s ++ w ++ after s ws

-- words with a separator between
abbrev pub separated : List ℕ → List (List ℕ) → List ℕ
separated s [] = []
separated s (w ∷ ws) = w ++ after s ws

-- whether there is a word
abbrev pub has_words : List (List ℕ) → Bool
has_words [] = false
has_words (w ∷ ws) = true

-- a word where there is something to say
abbrev pub word_if : Bool → List ℕ → List (List ℕ)
word_if b w = cond b (w ∷ []) []

-- ---- the values that hold no others

abbrev pub atom_words : Names → List (List ℕ)
atom_words (names.some xs _) = map quoted xs
atom_words names.every = codes "atom()" ∷ []

abbrev pub low_text : Low → List ℕ
low_text low.Min = codes "min"
low_text low.Zero = codes "0"
low_text low.One = codes "1"

abbrev pub high_text : High → List ℕ
high_text high.MinusOne = codes "-1"
high_text high.Byte = codes "255"
high_text high.Unicode = codes "1114111"
high_text high.Max = codes "max"

abbrev pub range_word : Low → High → List ℕ
range_word low.Min high.Max = codes "integer()"
range_word l h = codes "integer(" ++ low_text l ++ codes ".." ++ high_text h ++ codes ")"

abbrev pub int_words : Numbers → List (List ℕ)
int_words (numbers.some xs _) = map signed_decimal xs
int_words (numbers.between l h _) = range_word l h ∷ []

abbrev pub bits_words : Bits → List (List ℕ)
bits_words No = []
bits_words Whole = codes "binary()" ∷ []
bits_words Any = codes "bitstring()" ∷ []

abbrev pub function_words : Functions → List (List ℕ)
function_words no_function = []
function_words (of_arity n) = (codes "fun(" ++ decimal n ++ codes ")") ∷ []
function_words all_functions = codes "fun()" ∷ []

abbrev pub plain_words : PlainParts → List (List ℕ)
plain_words p =
    atom_words p.atoms ++ int_words p.ints ++ word_if p.flags.float (codes "float()") ++ bits_words p.bits
    ++ word_if p.flags.pid (codes "pid()") ++ word_if p.flags.port (codes "port()") ++ word_if p.flags.reference (codes "reference()") ++ word_if p.flags.map (codes "map()")
    ++ function_words p.functions ++ word_if p.flags.nil (codes "[]")

-- ---- lists and tuples

-- a tuple of elements that are written already
abbrev pub tuple_word : List (List ℕ) → List ℕ
tuple_word ws = codes "{" ++ separated (codes ",") ws ++ codes "}"

module _ {E : Type 0} (text : E → List ℕ) where
  abbrev pub cell_words : Option (Cell E) → List (List ℕ)
  cell_words None = []
  cell_words (Some c) = (cond c.is_proper (codes "cons(") (codes "cons_any(") ++ text c.element ++ codes ")") ∷ []

  abbrev pub tag_words : List (Name × List E) → List (List ℕ)
  tag_words [] = []
  tag_words (e ∷ m) = tuple_word (quoted e.0 ∷ map text e.1) ∷ tag_words m

  abbrev pub body_words : Body E → List (List ℕ)
  body_words (product es) = tuple_word (map text es) ∷ []
  body_words (tags m) = tag_words m

  abbrev pub size_words : List (ℕ × Body E) → List (List ℕ)
  size_words [] = []
  size_words (e ∷ m) = body_words e.1 ++ size_words m

  abbrev pub tuples_words : Tuples E → List (List ℕ)
  tuples_words (sizes m) = size_words m
  tuples_words all_tuples = codes "tuple()" ∷ []

  abbrev pub parts_words : Parts E → List (List ℕ)
  parts_words p = plain_words p.plain ++ cell_words p.cell ++ tuples_words p.tuples

-- ---- types

abbrev pub text_at : (d : ℕ) → TypeAt d → List ℕ
text_at zero t = cond t (codes "any()") (codes "none()")
text_at (suc d) t =
    cond (is_any (suc d) t) (codes "any()")
    (cond ((ops (suc d)).is_none t) (codes "none()")
    (separated (codes " | ") (parts_words (text_at d) t)))

-- the text of a type of the analysis
unfoldable pub text_of : Type4 → List ℕ
text_of t = text_at 4 t.ty
