-- The types that the table of built-in functions names.
use Rattle.std.specs.Prelude.{true, false}
use Rattle.type_kinds_sets.specs.Names as names
use Rattle.type_kinds_sets.specs.Numbers as numbers
use Rattle.type_kinds_sets.specs.declared.ends.Low.TheVariants.{Zero, One}
use Rattle.type_kinds_sets.specs.declared.ends.High.TheVariants.{Byte, Unicode, Max}
use Rattle.type_lattice.specs.Types.{Type4, any, join, cons, of_atoms, of_ints}
use Rattle.type_lattice.specs.Kinds.{of_kind}
use Rattle.type_lattice.specs.declared.kinds.Kind.TheVariants as kind
use Rattle.cons_tree.specs.Named.{integers, naturals, floats, truths}
use Rattle.bif_types.specs.declared.bif.ArgKind.{ArgKind}
use Rattle.bif_types.specs.declared.bif.ArgKind.TheVariants as a

-- the integers from 1 on, the characters of Unicode, and the bytes
abbrev pub positives : Type4
positives = of_ints (numbers.range One Max)

abbrev pub characters : Type4
characters = of_ints (numbers.range Zero Unicode)

abbrev pub bytes : Type4
bytes = of_ints (numbers.range Zero Byte)

-- nil alone
abbrev pub just_nil : Type4
just_nil = of_kind kind.Nil

-- the lists of one element and more of a type: those that nil ends, and those that any value ends
abbrev pub proper_cons : Type4 → Type4
proper_cons t = cons t just_nil true

abbrev pub free_cons : Type4 → Type4
free_cons t = cons t just_nil false

-- the type that an entry of the table names
unfoldable pub type_of : ArgKind → Type4
type_of a.Any = any
type_of a.Number = join integers floats
type_of a.Integer = integers
type_of a.Natural = naturals
type_of a.Positive = positives
type_of a.Boolean = truths
type_of a.ProperList = join just_nil (proper_cons any)
type_of a.FreeList = join just_nil (free_cons any)
type_of a.CharList = join just_nil (proper_cons characters)
type_of a.FreeCons = free_cons any
type_of a.CharCons = proper_cons characters
type_of a.ByteCons = proper_cons bytes
type_of a.AnyTuple = of_kind kind.AnyTuple
type_of a.AnyFun = of_kind kind.AnyFun
type_of a.AnyAtom = of_atoms names.every
type_of a.Float = floats
type_of a.Binary = of_kind kind.Binary
type_of a.Bitstring = of_kind kind.Bitstring
type_of a.Pid = of_kind kind.Pid
type_of a.Port = of_kind kind.Port
type_of a.Reference = of_kind kind.Reference
type_of a.Map = of_kind kind.Map
