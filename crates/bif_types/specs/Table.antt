-- The built-in functions of the module `erlang` that the analysis knows, as data: for each its name, what
-- its arguments may be, and how its result comes of them. The rows stand by the number of arguments.
use Rattle.std.specs.Prelude.{ℕ, ◌==◌, List, [], ◌∷◌, ◌++◌, length, Option, Some, None, codes, bytes_eq, if◌then◌else◌}
use Rattle.type_kinds.specs.declared.atom.Atom.{Atom}
use Rattle.bif_types.specs.declared.bif.ArgKind.{ArgKind}
use Rattle.bif_types.specs.declared.bif.ArgKind.TheVariants as a
use Rattle.bif_types.specs.declared.bif.Rule.{Rule}
use Rattle.bif_types.specs.declared.bif.Rule.TheVariants as r
use Rattle.bif_types.specs.declared.bif.Bif.{Bif}

-- A function of the module: its name, and what is known of it.
pub record Named : Type 0 where
  pub name : Atom
  pub bif : Bif

-- The positions of the arguments: those behind the last hold `Any`.
abbrev pub padded : List ArgKind → List ArgKind
padded [] = a.Any ∷ a.Any ∷ a.Any ∷ []
padded (x ∷ []) = x ∷ a.Any ∷ a.Any ∷ []
padded (x ∷ y ∷ []) = x ∷ y ∷ a.Any ∷ []
padded (x ∷ y ∷ z ∷ zs) = x ∷ y ∷ z ∷ []

-- A function of the program, by its arguments and its rule.
abbrev pub bif_of : List ArgKind → Rule → Bif
bif_of args rule = record { args = padded args; arity = length args; rule = rule }

abbrev pub row : Atom → List ArgKind → Rule → Named
row name args rule = record { name = name; bif = bif_of args rule }

-- no argument
abbrev pub without_arguments : List Named
without_arguments =
    row (codes "self") [] (r.Plain a.Pid) ∷
    row (codes "make_ref") [] (r.Plain a.Reference) ∷
    row (codes "node") [] (r.Plain a.AnyAtom) ∷
    row (codes "halt") [] r.Never ∷
    []

-- one argument
abbrev pub of_one : List Named
of_one =
    row (codes "+") (a.Number ∷ []) r.Arith ∷
    row (codes "-") (a.Number ∷ []) r.Arith ∷
    row (codes "bnot") (a.Integer ∷ []) (r.Plain a.Integer) ∷
    row (codes "abs") (a.Number ∷ []) r.Abs ∷
    row (codes "trunc") (a.Number ∷ []) (r.Plain a.Integer) ∷
    row (codes "round") (a.Number ∷ []) (r.Plain a.Integer) ∷
    row (codes "hd") (a.FreeCons ∷ []) r.Head ∷
    row (codes "tl") (a.FreeCons ∷ []) r.Tail ∷
    row (codes "length") (a.ProperList ∷ []) (r.Plain a.Natural) ∷
    row (codes "tuple_size") (a.AnyTuple ∷ []) (r.Plain a.Natural) ∷
    row (codes "tuple_to_list") (a.AnyTuple ∷ []) (r.Plain a.ProperList) ∷
    row (codes "list_to_tuple") (a.ProperList ∷ []) (r.Plain a.AnyTuple) ∷
    row (codes "not") (a.Boolean ∷ []) (r.Plain a.Boolean) ∷
    row (codes "error") (a.Any ∷ []) r.Never ∷
    row (codes "exit") (a.Any ∷ []) r.Never ∷
    row (codes "throw") (a.Any ∷ []) r.Never ∷
    row (codes "halt") (a.Any ∷ []) r.Never ∷
    []

-- one argument: names and numbers as lists and back, and sizes
abbrev pub conversions : List Named
conversions =
    row (codes "atom_to_list") (a.AnyAtom ∷ []) (r.Plain a.CharList) ∷
    row (codes "list_to_atom") (a.CharList ∷ []) (r.Plain a.AnyAtom) ∷
    row (codes "integer_to_list") (a.Integer ∷ []) (r.Plain a.ByteCons) ∷
    row (codes "list_to_integer") (a.CharCons ∷ []) (r.Plain a.Integer) ∷
    row (codes "byte_size") (a.Bitstring ∷ []) (r.Plain a.Natural) ∷
    row (codes "bit_size") (a.Bitstring ∷ []) (r.Plain a.Natural) ∷
    row (codes "map_size") (a.Map ∷ []) (r.Plain a.Natural) ∷
    []

-- one argument, which may be any value: whether it is of a type
abbrev pub type_tests : List Named
type_tests =
    row (codes "is_atom") (a.Any ∷ []) (r.Test a.AnyAtom) ∷
    row (codes "is_binary") (a.Any ∷ []) (r.Test a.Binary) ∷
    row (codes "is_bitstring") (a.Any ∷ []) (r.Test a.Bitstring) ∷
    row (codes "is_boolean") (a.Any ∷ []) (r.Test a.Boolean) ∷
    row (codes "is_float") (a.Any ∷ []) (r.Test a.Float) ∷
    row (codes "is_function") (a.Any ∷ []) (r.Test a.AnyFun) ∷
    row (codes "is_integer") (a.Any ∷ []) (r.Test a.Integer) ∷
    row (codes "is_list") (a.Any ∷ []) (r.Test a.FreeList) ∷
    row (codes "is_map") (a.Any ∷ []) (r.Test a.Map) ∷
    row (codes "is_number") (a.Any ∷ []) (r.Test a.Number) ∷
    row (codes "is_pid") (a.Any ∷ []) (r.Test a.Pid) ∷
    row (codes "is_port") (a.Any ∷ []) (r.Test a.Port) ∷
    row (codes "is_reference") (a.Any ∷ []) (r.Test a.Reference) ∷
    row (codes "is_tuple") (a.Any ∷ []) (r.Test a.AnyTuple) ∷
    []

-- two arguments
abbrev pub of_two : List Named
of_two =
    row (codes "+") (a.Number ∷ a.Number ∷ []) r.Arith ∷
    row (codes "-") (a.Number ∷ a.Number ∷ []) r.Arith ∷
    row (codes "*") (a.Number ∷ a.Number ∷ []) r.Arith ∷
    row (codes "/") (a.Number ∷ a.Number ∷ []) (r.Plain a.Float) ∷
    row (codes "div") (a.Integer ∷ a.Integer ∷ []) (r.Plain a.Integer) ∷
    row (codes "rem") (a.Integer ∷ a.Integer ∷ []) (r.Plain a.Integer) ∷
    row (codes "band") (a.Integer ∷ a.Integer ∷ []) (r.Plain a.Integer) ∷
    row (codes "bor") (a.Integer ∷ a.Integer ∷ []) (r.Plain a.Integer) ∷
    row (codes "bxor") (a.Integer ∷ a.Integer ∷ []) (r.Plain a.Integer) ∷
    row (codes "bsl") (a.Integer ∷ a.Integer ∷ []) (r.Plain a.Integer) ∷
    row (codes "bsr") (a.Integer ∷ a.Integer ∷ []) (r.Plain a.Integer) ∷
    row (codes "element") (a.Positive ∷ a.AnyTuple ∷ []) r.Element ∷
    row (codes "is_function") (a.Any ∷ a.Natural ∷ []) (r.TestSome a.AnyFun) ∷
    row (codes "and") (a.Boolean ∷ a.Boolean ∷ []) (r.Plain a.Boolean) ∷
    row (codes "or") (a.Boolean ∷ a.Boolean ∷ []) (r.Plain a.Boolean) ∷
    row (codes "xor") (a.Boolean ∷ a.Boolean ∷ []) (r.Plain a.Boolean) ∷
    row (codes "==") (a.Any ∷ a.Any ∷ []) (r.Plain a.Boolean) ∷
    row (codes "/=") (a.Any ∷ a.Any ∷ []) (r.Plain a.Boolean) ∷
    row (codes "=<") (a.Any ∷ a.Any ∷ []) (r.Plain a.Boolean) ∷
    row (codes "<") (a.Any ∷ a.Any ∷ []) (r.Plain a.Boolean) ∷
    row (codes ">=") (a.Any ∷ a.Any ∷ []) (r.Plain a.Boolean) ∷
    row (codes ">") (a.Any ∷ a.Any ∷ []) (r.Plain a.Boolean) ∷
    row (codes "=:=") (a.Any ∷ a.Any ∷ []) r.Same ∷
    row (codes "=/=") (a.Any ∷ a.Any ∷ []) r.Differ ∷
    row (codes "++") (a.ProperList ∷ a.Any ∷ []) (r.Plain a.Any) ∷
    row (codes "--") (a.ProperList ∷ a.ProperList ∷ []) (r.Plain a.ProperList) ∷
    row (codes "error") (a.Any ∷ a.Any ∷ []) r.Never ∷
    []

-- three arguments
abbrev pub of_three : List Named
of_three =
    row (codes "setelement") (a.Positive ∷ a.AnyTuple ∷ a.Any ∷ []) (r.Plain a.AnyTuple) ∷
    []

-- The function of a name among rows.
abbrev pub row_of : List Named → Atom → Option Bif
row_of [] x = None
row_of (row ∷ rows) x = if bytes_eq row.name x then Some row.bif else row_of rows x

-- The function of a name, by the number of its arguments.
abbrev pub looked_up : Atom → ℕ → Option Bif
looked_up x n =
    if n == 0 then row_of without_arguments x
    else if n == 1 then row_of (of_one ++ conversions ++ type_tests) x
    else if n == 2 then row_of of_two x
    else if n == 3 then row_of of_three x
    else None
