-- The rules of values, one by one: what the places of an expression hold by those of its parts.
use Rattle.std.specs.Prelude.{◌≡◌, ◌<◌, ℕ, true, List, [], length, Some}
use Rattle.type_kinds.specs.declared.atom.Atom.{Atom}
use Rattle.core_ast.specs.Lengths.{how_many}
use Rattle.core_ast.specs.Model as m
use Rattle.core_ast.specs.declared.syntax.FunName.{FunName}
use Rattle.core_ast.specs.declared.syntax.Mark.{Mark}
use Rattle.core_ast.specs.declared.syntax.VarName.{VarName}
use Rattle.core_scope.specs.Asks.{one_value, width}
use Rattle.core_scope.specs.declared.ask.Ask.{Ask}
use Rattle.core_scope.specs.declared.ask.Ask.TheVariants.{Exactly}
use Rattle.type_lattice_model.specs.Values.{Local}
use Rattle.core_meaning.specs.Programs.{Program, is_exported, locals_of, module_named}
use Rattle.fun_flow_sets.specs.Items.{Item, Place, anywhere, anything, closure_at, defined_at, external_function, parameter, part, returned}
use Rattle.fun_flow_sets.specs.Rules.{after_steps, in_function, kept, places, places_of_all, places_of_pairs}
use Rattle.fun_flow_sets.specs.Scopes.{Scope, definition_of, first, in_frame, no_place, place_of, with_pat_pairs, with_pat_segments, with_pattern, with_patterns, with_place, with_places}
use Rattle.fun_flow_sets.specs.Sets.{Holds}
use Rattle.fun_flow_sets.specs.Standing.{AreOthers, HasClause, HasDefinition, Stands, place_at}

-- ---- functions as values

-- a fun has itself
abbrev pub FunsHaveThemselves : Type 0
FunsHaveThemselves =
    (U : Program) (home : Atom) (sc : Scope) (k : Ask) (i : Mark) (xs : List VarName) (t : m.Tree) → Stands U home sc k (m.function i xs t)
    → Holds U (first (places U home sc k (m.function i xs t))) (closure_at home i.label (length xs))

-- the name of a function as a value has the function
abbrev pub NamesHaveThemselves : Type 0
NamesHaveThemselves =
    (U : Program) (home : Atom) (sc : Scope) (k : Ask) (i : Mark) (f : FunName) (d : Local) → Stands U home sc k (m.local i f)
    → definition_of U home sc f ≡ Some d → Holds U (first (places U home sc k (m.local i f))) (closure_at home d.label d.arity)

-- an external function has itself
abbrev pub ExternalsHaveThemselves : Type 0
ExternalsHaveThemselves =
    (U : Program) (home : Atom) (sc : Scope) (k : Ask) (i : Mark) (x : Atom) (f : FunName) → Stands U home sc k (m.external i x f)
    → Holds U (first (places U home sc k (m.external i x f))) (external_function x f.name f.arity)

-- ---- parameters

-- the parameters of a fun may be anything
abbrev pub FunParametersAreOpen : Type 0
FunParametersAreOpen =
    (U : Program) (home : Atom) (sc : Scope) (k : Ask) (i : Mark) (xs : List VarName) (t : m.Tree) (n : ℕ) → Stands U home sc k (m.function i xs t)
    → n < length xs → Holds U (parameter home i.label n) anything

-- so may those of a function whose name stands as a value
abbrev pub NamedParametersAreOpen : Type 0
NamedParametersAreOpen =
    (U : Program) (home : Atom) (sc : Scope) (k : Ask) (i : Mark) (f : FunName) (d : Local) (n : ℕ) → Stands U home sc k (m.local i f)
    → definition_of U home sc f ≡ Some d → n < d.arity → Holds U (parameter home d.label n) anything

-- so may those of an exported function
abbrev pub ExportedParametersAreOpen : Type 0
ExportedParametersAreOpen =
    (U : Program) (home : Atom) (f : FunName) (d : Local) (n : ℕ) → is_exported U home f ≡ true → defined_at U home f ≡ Some d → n < d.arity
    → Holds U (parameter home d.label n) anything

-- ---- results

-- the result of a fun has what its body has
abbrev pub FunBodiesAreResults : Type 0
FunBodiesAreResults =
    (U : Program) (home : Atom) (sc : Scope) (k : Ask) (i : Mark) (xs : List VarName) (t : m.Tree) (x : Item) → Stands U home sc k (m.function i xs t)
    → Holds U (first (places U home (in_function U home i.label xs sc) one_value t)) x → Holds U (returned home i.label) x

-- so has that of a function of a `letrec`
abbrev pub LetrecBodiesAreResults : Type 0
LetrecBodiesAreResults =
    (U : Program) (home : Atom) (sc : Scope) (k : Ask) (i j : Mark) (ds : m.Defs) (t u : m.Tree) (xs : List VarName) (x : Item)
    → Stands U home sc k (m.letrec i ds t) → HasDefinition ds j xs u
    → Holds U (first (places U home (in_function U home j.label xs (in_frame (locals_of ds) sc)) one_value u)) x → Holds U (returned home j.label) x

-- so has that of a function of a module
abbrev pub ModuleBodiesAreResults : Type 0
ModuleBodiesAreResults =
    (U : Program) (home : Atom) (p : m.Module) (j : Mark) (u : m.Tree) (xs : List VarName) (x : Item) → module_named U home ≡ Some p
    → HasDefinition p.defs j xs u → Holds U (first (places U home (in_function U home j.label xs no_place) one_value u)) x
    → Holds U (returned home j.label) x

-- ---- what is captured

-- a variable that is none of the parameters stands in a body for what it stands for around it
abbrev pub CapturedKeepPlaces : Type 0
CapturedKeepPlaces =
    (U : Program) (home : Atom) (label : ℕ) (xs : List VarName) (sc : Scope) (y : Atom) → AreOthers y xs
    → place_of (in_function U home label xs sc) y ≡ place_of sc y

-- ---- parts

-- a list has what its elements have
abbrev pub ListsHaveElements : Type 0
ListsHaveElements =
    (U : Program) (home : Atom) (sc : Scope) (k : Ask) (i : Mark) (ts : m.Trees) (t : m.Tree) (n : ℕ) (x : Item)
    → Stands U home sc k (m.listed i ts t) → n < how_many ts → Holds U (place_at (places_of_all U home sc ts) n) x
    → Holds U (first (places U home sc k (m.listed i ts t))) x

-- and what follows them
abbrev pub ListsHaveRests : Type 0
ListsHaveRests =
    (U : Program) (home : Atom) (sc : Scope) (k : Ask) (i : Mark) (ts : m.Trees) (t : m.Tree) (x : Item) → Stands U home sc k (m.listed i ts t)
    → Holds U (first (places U home sc one_value t)) x → Holds U (first (places U home sc k (m.listed i ts t))) x

-- a tuple has what its elements have
abbrev pub TuplesHaveElements : Type 0
TuplesHaveElements =
    (U : Program) (home : Atom) (sc : Scope) (k : Ask) (i : Mark) (ts : m.Trees) (n : ℕ) (x : Item) → Stands U home sc k (m.tuple i ts)
    → n < how_many ts → Holds U (place_at (places_of_all U home sc ts) n) x → Holds U (first (places U home sc k (m.tuple i ts))) x

-- a map has what its keys and values have
abbrev pub MapsHavePairs : Type 0
MapsHavePairs =
    (U : Program) (home : Atom) (sc : Scope) (k : Ask) (i : Mark) (ps : m.Pairs) (n : ℕ) (x : Item) → Stands U home sc k (m.new_map i ps)
    → n < length (places_of_pairs U home sc ps) → Holds U (place_at (places_of_pairs U home sc ps) n) x
    → Holds U (first (places U home sc k (m.new_map i ps))) x

-- so has a map that is made of another
abbrev pub UpdatesHavePairs : Type 0
UpdatesHavePairs =
    (U : Program) (home : Atom) (sc : Scope) (k : Ask) (i : Mark) (ps : m.Pairs) (t : m.Tree) (n : ℕ) (x : Item)
    → Stands U home sc k (m.updated_map i ps t) → n < length (places_of_pairs U home sc ps) → Holds U (place_at (places_of_pairs U home sc ps) n) x
    → Holds U (first (places U home sc k (m.updated_map i ps t))) x

-- and what the map after the bar has
abbrev pub UpdatesHaveMaps : Type 0
UpdatesHaveMaps =
    (U : Program) (home : Atom) (sc : Scope) (k : Ask) (i : Mark) (ps : m.Pairs) (t : m.Tree) (x : Item) → Stands U home sc k (m.updated_map i ps t)
    → Holds U (first (places U home sc one_value t)) x → Holds U (first (places U home sc k (m.updated_map i ps t))) x

-- ---- values that are passed on

-- a value list has the places of its elements
abbrev pub ValueListsPassOn : Type 0
ValueListsPassOn =
    (U : Program) (home : Atom) (sc : Scope) (k : Ask) (i : Mark) (ts : m.Trees) → places U home sc k (m.values i ts) ≡ places_of_all U home sc ts

-- a chain has those of its last expression
abbrev pub ChainsPassOn : Type 0
ChainsPassOn =
    (U : Program) (home : Atom) (sc : Scope) (k : Ask) (i : Mark) (ss : m.Steps) (t : m.Tree)
    → places U home sc k (m.chain i ss t) ≡ places U home (after_steps U home sc ss) k t

-- a `let` binds its variables to what its expression gives
abbrev pub LetsBind : Type 0
LetsBind =
    (U : Program) (home : Atom) (sc : Scope) (i : Mark) (xs : List VarName) (t : m.Tree) (ss : m.Steps)
    → after_steps U home sc (m.and_let i xs t ss) ≡ after_steps U home (with_places xs (places U home sc (Exactly (length xs)) t) sc) ss

-- a `do` binds nothing
abbrev pub DosDrop : Type 0
DosDrop =
    (U : Program) (home : Atom) (sc : Scope) (i : Mark) (t : m.Tree) (ss : m.Steps)
    → after_steps U home sc (m.and_do i t ss) ≡ after_steps U home sc ss

-- a `letrec` has the places of its body
abbrev pub LetrecsPassOn : Type 0
LetrecsPassOn =
    (U : Program) (home : Atom) (sc : Scope) (k : Ask) (i : Mark) (ds : m.Defs) (t : m.Tree)
    → places U home sc k (m.letrec i ds t) ≡ places U home (in_frame (locals_of ds) sc) k t

-- ---- clauses

-- each value of a `case` has what a body of its clauses gives for it
abbrev pub CasesHaveClauses : Type 0
CasesHaveClauses =
    (U : Program) (home : Atom) (sc inner : Scope) (k : Ask) (i : Mark) (t u : m.Tree) (cs : m.Clauses) (n : ℕ) (x : Item)
    → Stands U home sc k (m.case i t cs) → HasClause sc (places U home sc (Exactly (width cs)) t) cs inner u → n < kept k
    → Holds U (place_at (places U home inner k u) n) x → Holds U (part home i.label n) x

-- so has that of a `receive`, whose messages have no places
abbrev pub ReceivesHaveClauses : Type 0
ReceivesHaveClauses =
    (U : Program) (home : Atom) (sc inner : Scope) (k : Ask) (i : Mark) (t u w : m.Tree) (cs : m.Clauses) (n : ℕ) (x : Item)
    → Stands U home sc k (m.receive i cs t u) → HasClause sc [] cs inner w → n < kept k → Holds U (place_at (places U home inner k w) n) x
    → Holds U (part home i.label n) x

-- and what its action gives
abbrev pub ReceivesHaveActions : Type 0
ReceivesHaveActions =
    (U : Program) (home : Atom) (sc : Scope) (k : Ask) (i : Mark) (t u : m.Tree) (cs : m.Clauses) (n : ℕ) (x : Item)
    → Stands U home sc k (m.receive i cs t u) → n < kept k → Holds U (place_at (places U home sc k u) n) x → Holds U (part home i.label n) x

-- each value of a `try` has what its body gives for it
abbrev pub TriesHaveBodies : Type 0
TriesHaveBodies =
    (U : Program) (home : Atom) (sc : Scope) (k : Ask) (i : Mark) (t : m.Tree) (xs : List VarName) (u : m.Tree) (ys : List VarName) (w : m.Tree) (n : ℕ) (x : Item)
    → Stands U home sc k (m.try i t xs u ys w) → n < kept k
    → Holds U (place_at (places U home (with_places xs (places U home sc (Exactly (length xs)) t) sc) k u) n) x → Holds U (part home i.label n) x

-- and what its handler gives, whose variables have no places
abbrev pub TriesHaveHandlers : Type 0
TriesHaveHandlers =
    (U : Program) (home : Atom) (sc : Scope) (k : Ask) (i : Mark) (t : m.Tree) (xs : List VarName) (u : m.Tree) (ys : List VarName) (w : m.Tree) (n : ℕ) (x : Item)
    → Stands U home sc k (m.try i t xs u ys w) → n < kept k → Holds U (place_at (places U home (with_places ys [] sc) k w) n) x
    → Holds U (part home i.label n) x

-- ---- patterns

-- the patterns in a list are matched with what the list has
abbrev pub ListPatternsBind : Type 0
ListPatternsBind =
    (q : Place) (sc : Scope) (i : Mark) (ps : m.Patterns) (p : m.Pattern)
    → with_pattern q (m.list_of i ps p) sc ≡ with_pattern q p (with_patterns q ps sc)

-- so are those of the values of a map
abbrev pub MapPatternsBind : Type 0
MapPatternsBind =
    (q : Place) (sc : Scope) (i : Mark) (t : m.Tree) (p : m.Pattern) (ps : m.PatPairs)
    → with_pattern q (m.map_of i (m.and_pat_pair t p ps)) sc ≡ with_pat_pairs q ps (with_pattern q p sc)

-- those in the segments of a binary are matched with anything
abbrev pub BinaryPatternsBind : Type 0
BinaryPatternsBind =
    (q : Place) (sc : Scope) (i : Mark) (p : m.Pattern) (ts : m.Trees) (ss : m.PatSegments)
    → with_pattern q (m.binary_of i (m.and_pat_segment p ts ss)) sc ≡ with_pat_segments ss (with_pattern anywhere p sc)

-- an alias is bound to the value, which its pattern is matched with
abbrev pub AliasPatternsBind : Type 0
AliasPatternsBind =
    (q : Place) (sc : Scope) (i : Mark) (x : VarName) (p : m.Pattern) → with_pattern q (m.alias i x p) sc ≡ with_pattern q p (with_place x.name q sc)
