-- What a type is made of. A type of level 0 is none or any. A type of a higher level has parts, whose elements are types of
-- the level below. This is the normal form of a set of values: each part is there as itself, and `any` is the type all of
-- whose parts are full.
use Rattle.std.specs.Prelude.{ℕ, zero, suc, Bool, List, Option}
use Rattle.type_kinds_sets.specs.Names.{Name, Names}
use Rattle.type_kinds_sets.specs.Numbers.{Numbers}
use Rattle.type_kinds_sets.specs.declared.bits.Bits.{Bits}

-- the parts of a type that are no or yes: of each of these a type has all values or none
pub data Flag : Type 0 where
  floats : Flag
  pids : Flag
  ports : Flag
  references : Flag
  nils : Flag
  maps : Flag

-- whether the type has each of them
pub record Flags : Type 0 where
  pub float : Bool
  pub pid : Bool
  pub port : Bool
  pub reference : Bool
  pub nil : Bool
  pub map : Bool

-- no functions, those of one arity, or all
pub data Functions : Type 0 where
  no_function : Functions
  of_arity : (n : ℕ) → Functions
  all_functions : Functions

-- the values that hold no others
pub record PlainParts : Type 0 where
  pub atoms : Names
  pub ints : Numbers
  pub bits : Bits
  pub flags : Flags
  pub functions : Functions

-- the lists that aren't empty: all their heads are in the element type; where the ends are proper there is nil at the end,
-- and where they are free any value that is no cons
pub record Cell (E : Type 0) : Type 0 where
  pub element : E
  pub is_proper : Bool

-- the tuples of one size: a product of element types, or tags, which are first elements that are atoms, each with the types
-- of the elements after it
pub data Body (E : Type 0) : Type 0 where
  product : (es : List E) → Body E
  tags : (m : List (Name × List E)) → Body E

-- the tuples of some sizes, or all tuples
pub data Tuples (E : Type 0) : Type 0 where
  sizes : (m : List (ℕ × Body E)) → Tuples E
  all_tuples : Tuples E

pub record Parts (E : Type 0) : Type 0 where
  pub plain : PlainParts
  pub cell : Option (Cell E)
  pub tuples : Tuples E

-- the types of a level
abbrev pub TypeAt : ℕ → Type 0
TypeAt zero = Bool
TypeAt (suc d) = Parts (TypeAt d)
