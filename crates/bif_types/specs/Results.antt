-- What a call of a function of the module `erlang` may give. It says no more than this: the call may raise at any arguments.
use Rattle.std.specs.Prelude.{◌≡◌, ◌⊎◌, ℕ, zero, suc, ℤ, pos, ◌+ℤ◌, ◌-ℤ◌, ◌*ℤ◌, neg_ℤ, nat_abs, int_div, int_rem, Bool}
use Rattle.std.specs.Prelude.{true, false, ◌||◌, List, [], ◌∷◌, Option, Some, None, codes, bytes_eq, if◌then◌else◌}
use Rattle.type_kinds.specs.declared.atom.Atom.{Atom}
use Rattle.type_kinds_sets.specs.Names.{Name}
use Rattle.type_lattice_model.specs.Parts.{value_at}
use Rattle.type_lattice_model.specs.Values.{Value, int, float, cons, tuple, Values, no_value, and_value, count}
use Rattle.type_lattice.specs.Kinds.{HasArity}
use Rattle.type_lattice.specs.Types.{HasType, HasTypes}
use Rattle.cons_tree.specs.Satisfied.{IsFloat, HaveFloat, Tells, Denies}
use Rattle.bif_types.specs.declared.bif.Rule.{Rule}
use Rattle.bif_types.specs.declared.bif.Rule.TheVariants as r
use Rattle.bif_types.specs.declared.bif.Bif.{Bif}
use Rattle.bif_types.specs.ArgTypes.{type_of}
use Rattle.bif_types.specs.Parts.{arg_types}
use Rattle.bif_types.specs.Table.{looked_up}

abbrev pub one_value : Value → Values
one_value x = and_value x no_value

abbrev pub two_values : Value → Value → Values
two_values x y = and_value x (and_value y no_value)

-- ---- arithmetic on integers, which have no bound

-- the quotient towards zero, and the remainder, which has the sign of the dividend. Nothing is divided by 0
abbrev pub quotient : ℤ → ℤ → Option ℤ
quotient m (pos zero) = None
quotient m n = Some (int_div m n)

abbrev pub remainder : ℤ → ℤ → Option ℤ
remainder m (pos zero) = None
remainder m n = Some (int_rem m n)

-- what an operation gives of integers, where it gives something
abbrev pub computed : Atom → List ℤ → Option ℤ
computed f (m ∷ []) =
    if bytes_eq f (codes "+") then Some m
    else if bytes_eq f (codes "-") then Some (neg_ℤ m)
    else None
computed f (m ∷ n ∷ []) =
    if bytes_eq f (codes "+") then Some (m +ℤ n)
    else if bytes_eq f (codes "-") then Some (m -ℤ n)
    else if bytes_eq f (codes "*") then Some (m *ℤ n)
    else if bytes_eq f (codes "div") then quotient m n
    else if bytes_eq f (codes "rem") then remainder m n
    else None
computed f ns = None

abbrev pub integer_values : List ℤ → Values
integer_values [] = no_value
integer_values (n ∷ ns) = and_value (int n) (integer_values ns)

-- the arguments are integers, and the value is what the operation gives of them
abbrev pub Computes : Atom → Values → Value → Type 0
Computes f vs v = (ns : List ℤ) × ((k : ℤ) × ((vs ≡ integer_values ns) × ((computed f ns ≡ Some k) × (v ≡ int k))))

-- `div` and `rem`
abbrev pub is_division : Atom → Bool
is_division f = bytes_eq f (codes "div") || bytes_eq f (codes "rem")

-- ---- the table

-- what a function of this rule and name may give of its arguments. Whether an argument is of a type, and whether two are one
-- value, the answer says exactly
abbrev pub Gives : Rule → Atom → Values → Value → Type 0
Gives (r.Plain t) f vs v = HasType v (type_of t) × (is_division f ≡ true → Computes f vs v)
Gives r.Arith f vs v = Computes f vs v ⊎ (HaveFloat vs × IsFloat v)
Gives r.Abs f vs v = ((n : ℤ) × ((vs ≡ one_value (int n)) × (v ≡ int (pos (nat_abs n))))) ⊎ ((s : Name) × ((vs ≡ one_value (float s)) × IsFloat v))
Gives r.Head f vs v = (t : Value) × (vs ≡ one_value (cons v t))
Gives r.Tail f vs v = (h : Value) × (vs ≡ one_value (cons h v))
Gives r.Element f vs v = (i : ℕ) × ((es : Values) × ((vs ≡ two_values (int (pos (suc i))) (tuple es)) × (value_at es i ≡ Some v)))
Gives (r.Test t) f vs v = (x : Value) × ((vs ≡ one_value x) × Tells v (HasType x (type_of t)))
Gives (r.TestSome t) f vs v = (x : Value) × ((n : ℕ) × ((vs ≡ two_values x (int (pos n))) × Tells v (HasType x (type_of t) × HasArity x n)))
Gives r.Same f vs v = (x : Value) × ((y : Value) × ((vs ≡ two_values x y) × Tells v (x ≡ y)))
Gives r.Differ f vs v = (x : Value) × ((y : Value) × ((vs ≡ two_values x y) × Denies v (x ≡ y)))
Gives r.Never f vs v = ⊥

-- the value is one that a function with this row, if it has one, may give
abbrev pub MayByRow : Option Bif → Atom → Values → Value → Type 0
MayByRow None f vs v = Unit {0}
MayByRow (Some b) f vs v = HasTypes vs (arg_types b) × Gives b.rule f vs v

-- a function of `erlang` may give this value of these arguments. A name that the table doesn't have may give any value
abbrev pub BifMay : Atom → Values → Value → Type 0
BifMay f vs v = MayByRow (looked_up f (count vs)) f vs v

-- ---- which rows are exact: each closure in what they give is in an argument

abbrev pub is_exact_rule : Rule → Bool
is_exact_rule (r.Plain t) = false
is_exact_rule r.Never = false
is_exact_rule k = true

abbrev pub is_exact_row : Option Bif → Atom → Bool
is_exact_row None f = false
is_exact_row (Some b) f = is_exact_rule b.rule || is_division f

-- the function with n arguments gives exactly what Erlang's does
abbrev pub is_exact : Atom → ℕ → Bool
is_exact f n = is_exact_row (looked_up f n) f
