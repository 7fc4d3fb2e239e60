-- The words of which the rows of constraints are made.
use Rattle.std.specs.Prelude.{ℕ, zero, suc, ◌+◌, ◌^◌, List, [], ◌∷◌, Option, Some, None, cond, nat_lt}
use Rattle.type_kinds_sets.specs.Names as names
use Rattle.type_kinds_sets.specs.Numbers as numbers
use Rattle.type_lattice.specs.Types.{Type4, none, of_atoms, of_ints}
use Rattle.type_lattice.specs.Kinds.{of_kind}
use Rattle.type_lattice.specs.declared.kinds.Kind.TheVariants.{AnyFun, FunOf, Nil}
use Rattle.core_ast.specs.declared.syntax.Literal.{Literal}
use Rattle.core_ast.specs.declared.syntax.Literal.TheVariants as l
use Rattle.cons_tree.specs.Constraints.{Cons, only, all_of, any_of, listed}
use Rattle.cons_tree.specs.Named.{integers, floats}
use Rattle.cons_tree.specs.declared.parts.Part.{Part}
use Rattle.cons_tree.specs.declared.parts.Part.TheVariants as part

-- what is to hold all together
abbrev pub Rows : Type 0
Rows = List (Cons Part)

abbrev pub bound : ℕ → Type4 → Rows
bound s t = only (part.Bound s t) ∷ []

abbrev pub equal : ℕ → ℕ → Rows
equal s r = only (part.Equal s r) ∷ []

-- a variable has the value of the slot that it is bound to
abbrev pub variable_rows : Option ℕ → ℕ → Rows
variable_rows None s = []
variable_rows (Some r) s = equal r s

-- all of these in one constraint, and one of these
abbrev pub together : Rows → Cons Part
together rows = all_of (listed rows)

abbrev pub one_of : List (Cons Part) → Rows
one_of alternatives = any_of (listed alternatives) ∷ []

-- the slots of two lists are equal one by one, up to the shorter's end
abbrev pub equals : List ℕ → List ℕ → Rows
equals [] ss = []
equals (r ∷ rs) [] = []
equals (r ∷ rs) (s ∷ ss) = only (part.Equal r s) ∷ equals rs ss

-- none of these slots has a value; where there is none of them, nothing satisfies it
abbrev pub no_values : List ℕ → Rows
no_values [] = []
no_values (s ∷ ss) = only (part.Bound s none) ∷ no_values ss

abbrev pub never : List ℕ → Rows
never [] = one_of []
never (s ∷ ss) = no_values (s ∷ ss)

-- the cells of a list, from the outside in: the first one's slot is r, those of the others follow from `next` on, each holds
-- an element, and the last one's tail is the tail of the list. A list without elements is its tail
abbrev pub cell_rows : (r next : ℕ) → (element : ℕ) → List ℕ → (tail : ℕ) → Rows
cell_rows r next e [] tail = only (part.Cons r e tail) ∷ []
cell_rows r next e (f ∷ es) tail = only (part.Cons r e next) ∷ cell_rows next (next + 1) f es tail

abbrev pub list_rows : (r next : ℕ) → List ℕ → (tail : ℕ) → Rows
list_rows r next [] tail = equal r tail
list_rows r next (e ∷ es) tail = cell_rows r next e es tail

-- how many cells of a list have slots of their own behind the first, by the number of its elements
abbrev pub inner_cells : ℕ → ℕ
inner_cells zero = 0
inner_cells (suc n) = n

-- ---- types

-- the functions of n arguments. No type tells arities of 2^32 and more apart
abbrev pub function_type : ℕ → Type4
function_type n = cond (nat_lt n (2 ^ 32)) (of_kind (FunOf n)) (of_kind AnyFun)

-- the type of a literal: that of its one value, and of a float all floats. An integer of 2^127 and more, which no text
-- spells, is one of all integers
abbrev pub literal_type : Literal → Type4
literal_type (l.Int n) = cond (numbers.is_narrow n) (of_ints (numbers.listed (n ∷ []))) integers
literal_type (l.Float s) = floats
literal_type (l.Atom a) = of_atoms (names.listed (a ∷ []))
literal_type l.Nil = of_kind Nil
