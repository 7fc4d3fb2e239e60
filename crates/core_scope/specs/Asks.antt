-- How many values a place asks for, and how many an expression gives (Core Erlang 1.0.3, "degree").
use Rattle.std.specs.Prelude.{ℕ, Bool, true, ◌&&◌, ◌||◌, if◌then◌else◌, List, [], ◌∷◌, codes, eqb, leb}
use Rattle.type_kinds.specs.declared.atom.Atom.{Atom}
use Rattle.core_ast.specs.declared.syntax.FunName.{FunName}
use Rattle.core_ast.specs.declared.syntax.Literal.TheVariants as l
use Rattle.core_ast.specs.Model as m
use Rattle.core_ast.specs.Lengths.{how_many, how_many_patterns}
use Rattle.core_scope.specs.declared.ask.Ask.{Ask}
use Rattle.core_scope.specs.declared.ask.Ask.TheVariants.{AnyNumber, Exactly}
use Rattle.core_scope.specs.Names.{same_atom, has_function}

-- one value is asked, or given
abbrev pub one_value : Ask
one_value = Exactly 1

-- the module of the built-in functions
abbrev pub erlang : Atom
erlang = codes "erlang"

abbrev pub function_name : Atom → ℕ → FunName
function_name name arity = record { name = name; arity = arity }

-- the built-in functions that never return
abbrev pub never_returning : List FunName
never_returning =
    function_name (codes "error") 1 ∷ function_name (codes "error") 2 ∷ function_name (codes "exit") 1
    ∷ function_name (codes "throw") 1 ∷ function_name (codes "halt") 0 ∷ function_name (codes "halt") 1 ∷ []

-- A call with this literal module and name, and n arguments, never returns.
abbrev pub never_returns : (home name : Atom) → ℕ → Bool
never_returns home name n = same_atom home erlang && has_function never_returning (function_name name n)

-- A primop that only raises.
abbrev pub is_raising : Atom → Bool
is_raising x = same_atom x (codes "match_fail") || same_atom x (codes "raise") || same_atom x (codes "raw_raise")

-- A call of these gives one value, and one that never returns gives whatever is asked.
abbrev pub call_gives : (home name : m.Tree) → ℕ → Ask
call_gives (m.literal i (l.Atom home)) (m.literal j (l.Atom name)) n = if never_returns home name n then AnyNumber else one_value
call_gives t u n = one_value

-- How many values an expression gives: a value list as many as it has, a form that passes on what is
-- asked to its parts, a primop and a call that never returns whatever is asked, and every other one.
abbrev pub gives : m.Tree → Ask
gives (m.values k ts) = Exactly (how_many ts)
gives (m.chain k ss t) = AnyNumber
gives (m.case k t cs) = AnyNumber
gives (m.letrec k ds t) = AnyNumber
gives (m.call k t u ts) = call_gives t u (how_many ts)
gives (m.primop k x ts) = AnyNumber
gives (m.try k t xs u ys w) = AnyNumber
gives (m.receive k cs t u) = AnyNumber
gives t = one_value

-- the greatest number that a place may ask for
abbrev pub most_asked : ℕ
most_asked = 255

-- A place that asks for `ask` values is satisfied by an expression that gives `given`.
abbrev pub suffices : (ask given : Ask) → Bool
suffices AnyNumber given = true
suffices (Exactly n) AnyNumber = leb n most_asked
suffices (Exactly n) (Exactly k) = eqb n k && leb n most_asked

-- How many values are asked of an expression. Where its place asks for any number the form says it: a
-- value list and the forms that pass on what is asked to their parts set none, every other one value.
abbrev pub asked : Ask → m.Tree → ℕ
asked (Exactly n) t = n
asked AnyNumber (m.values k ts) = 0
asked AnyNumber (m.chain k ss t) = 0
asked AnyNumber (m.case k t cs) = 0
asked AnyNumber (m.letrec k ds t) = 0
asked AnyNumber (m.try k t xs u ys w) = 0
asked AnyNumber (m.receive k cs t u) = 0
asked AnyNumber t = 1

-- How many patterns the clauses of a `case` have, by the first of them. That many values are asked of its
-- argument.
abbrev pub width : m.Clauses → ℕ
width m.no_clause = 0
width (m.and_clause k ps g t cs) = how_many_patterns ps
