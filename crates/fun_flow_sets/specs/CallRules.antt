-- The rules of applications and calls, one by one.
use Rattle.std.specs.Prelude.{◌≡◌, ◌<◌, ℕ, true, false, [], ◌∷◌, Some, None}
use Rattle.type_kinds.specs.declared.atom.Atom.{Atom}
use Rattle.core_ast.specs.Lengths.{how_many}
use Rattle.core_ast.specs.Model as m
use Rattle.core_ast.specs.Named.{literal_atom, local_name}
use Rattle.core_ast.specs.declared.syntax.FunName.{FunName}
use Rattle.core_ast.specs.declared.syntax.Mark.{Mark}
use Rattle.core_scope.specs.Asks.{function_name, one_value}
use Rattle.core_scope.specs.Names.{has_function}
use Rattle.core_scope.specs.declared.ask.Ask.{Ask}
use Rattle.type_lattice_model.specs.Values.{Local}
use Rattle.core_meaning.specs.Programs.{Program, built_in, exported, found, hidden, outside}
use Rattle.fun_flow_sets.specs.Items.{Item, Place, anywhere, anything, defined_at, entered, is_unknown, nowhere, parameter}
use Rattle.fun_flow_sets.specs.Rules.{given_by, handing_on, places, places_of_all}
use Rattle.fun_flow_sets.specs.Scopes.{Scope, definition_of, first}
use Rattle.fun_flow_sets.specs.Sets.{Holds, MayEnter}
use Rattle.fun_flow_sets.specs.Standing.{Stands, place_at}

-- ---- applications of names

-- an application of a name has what its function gives
abbrev pub ApplicationsGive : Type 0
ApplicationsGive =
    (U : Program) (home : Atom) (sc : Scope) (k : Ask) (i j : Mark) (f : FunName) (ts : m.Trees) → f.arity ≡ how_many ts
    → places U home sc k (m.apply i (m.local j f) ts) ≡ given_by home (definition_of U home sc f) ∷ []

-- its arguments flow to the parameters
abbrev pub ArgumentsFlow : Type 0
ArgumentsFlow =
    (U : Program) (home : Atom) (sc : Scope) (k : Ask) (i j : Mark) (f : FunName) (ts : m.Trees) (d : Local) (n : ℕ) (x : Item)
    → Stands U home sc k (m.apply i (m.local j f) ts) → f.arity ≡ how_many ts → definition_of U home sc f ≡ Some d → n < how_many ts
    → Holds U (place_at (places_of_all U home sc ts) n) x → Holds U (parameter home d.label n) x

-- with a wrong number of arguments it has nothing
abbrev pub WrongNumbersGiveNothing : Type 0
WrongNumbersGiveNothing =
    (U : Program) (home : Atom) (sc : Scope) (k : Ask) (i j : Mark) (f : FunName) (ts : m.Trees) → (f.arity ≡ how_many ts → ⊥)
    → places U home sc k (m.apply i (m.local j f) ts) ≡ nowhere ∷ []

-- ---- applications of values

-- an application of a value may enter what its operator has
abbrev pub OperatorsAreListed : Type 0
OperatorsAreListed =
    (U : Program) (home : Atom) (sc : Scope) (k : Ask) (i : Mark) (t : m.Tree) (ts : m.Trees) (x : Item) → Stands U home sc k (m.apply i t ts)
    → local_name t ≡ None → Holds U (first (places U home sc one_value t)) x → MayEnter U home i.label x

-- it has what functions of its operator with as many parameters give
abbrev pub OperatorsEnter : Type 0
OperatorsEnter =
    (U : Program) (home : Atom) (sc : Scope) (k : Ask) (i : Mark) (t : m.Tree) (ts : m.Trees) (q : Place) (x y : Item)
    → Stands U home sc k (m.apply i t ts) → local_name t ≡ None → Holds U (first (places U home sc one_value t)) x
    → entered U (how_many ts) x ≡ Some q → Holds U q y → Holds U (first (places U home sc k (m.apply i t ts))) y

-- where nothing is known of what is applied, it has anything
abbrev pub UnknownOperatorsGiveAnything : Type 0
UnknownOperatorsGiveAnything =
    (U : Program) (home : Atom) (sc : Scope) (k : Ask) (i : Mark) (t : m.Tree) (ts : m.Trees) (x : Item) → Stands U home sc k (m.apply i t ts)
    → local_name t ≡ None → Holds U (first (places U home sc one_value t)) x → is_unknown U (how_many ts) x ≡ true
    → Holds U (first (places U home sc k (m.apply i t ts))) anything

-- ---- calls

-- a call by literal names of an exported function has what the function gives
abbrev pub ExportedCallsGive : Type 0
ExportedCallsGive =
    (U : Program) (home : Atom) (sc : Scope) (k : Ask) (i : Mark) (t u : m.Tree) (ts : m.Trees) (x name : Atom) → literal_atom t ≡ Some x
    → literal_atom u ≡ Some name → found U x (function_name name (how_many ts)) ≡ exported
    → places U home sc k (m.call i t u ts) ≡ given_by x (defined_at U x (function_name name (how_many ts))) ∷ []

-- `hd`, `tl` and `element` of `erlang` have what their arguments have
abbrev pub CallsHandOn : Type 0
CallsHandOn =
    (U : Program) (home : Atom) (sc : Scope) (k : Ask) (i : Mark) (t u : m.Tree) (ts : m.Trees) (x name : Atom) (n : ℕ) (y : Item)
    → Stands U home sc k (m.call i t u ts) → literal_atom t ≡ Some x → literal_atom u ≡ Some name
    → found U x (function_name name (how_many ts)) ≡ built_in → has_function handing_on (function_name name (how_many ts)) ≡ true → n < how_many ts
    → Holds U (place_at (places_of_all U home sc ts) n) y → Holds U (first (places U home sc k (m.call i t u ts))) y

-- another built-in function may give anything
abbrev pub BuiltInCallsGiveAnything : Type 0
BuiltInCallsGiveAnything =
    (U : Program) (home : Atom) (sc : Scope) (k : Ask) (i : Mark) (t u : m.Tree) (ts : m.Trees) (x name : Atom) → literal_atom t ≡ Some x
    → literal_atom u ≡ Some name → found U x (function_name name (how_many ts)) ≡ built_in
    → has_function handing_on (function_name name (how_many ts)) ≡ false → places U home sc k (m.call i t u ts) ≡ anywhere ∷ []

-- so may a function that its module doesn't export
abbrev pub HiddenCallsGiveAnything : Type 0
HiddenCallsGiveAnything =
    (U : Program) (home : Atom) (sc : Scope) (k : Ask) (i : Mark) (t u : m.Tree) (ts : m.Trees) (x name : Atom) → literal_atom t ≡ Some x
    → literal_atom u ≡ Some name → found U x (function_name name (how_many ts)) ≡ hidden → places U home sc k (m.call i t u ts) ≡ anywhere ∷ []

-- so may a function of a module that isn't there
abbrev pub OutsideCallsGiveAnything : Type 0
OutsideCallsGiveAnything =
    (U : Program) (home : Atom) (sc : Scope) (k : Ask) (i : Mark) (t u : m.Tree) (ts : m.Trees) (x name : Atom) → literal_atom t ≡ Some x
    → literal_atom u ≡ Some name → found U x (function_name name (how_many ts)) ≡ outside → places U home sc k (m.call i t u ts) ≡ anywhere ∷ []

-- so may a call whose module is computed
abbrev pub ComputedCallsGiveAnything : Type 0
ComputedCallsGiveAnything =
    (U : Program) (home : Atom) (sc : Scope) (k : Ask) (i : Mark) (t u : m.Tree) (ts : m.Trees) → literal_atom t ≡ None
    → places U home sc k (m.call i t u ts) ≡ anywhere ∷ []

-- so may a call whose function's name is computed
abbrev pub ComputedNamesGiveAnything : Type 0
ComputedNamesGiveAnything =
    (U : Program) (home : Atom) (sc : Scope) (k : Ask) (i : Mark) (t u : m.Tree) (ts : m.Trees) (x : Atom) → literal_atom t ≡ Some x
    → literal_atom u ≡ None → places U home sc k (m.call i t u ts) ≡ anywhere ∷ []
