-- Worked examples of the rules: what expressions and modules break.
use Rattle.std.proofs.Common.{◌≡◌, ℕ, [], ◌∷◌, refl, None, Some, false, codes}
use Rattle.type_kinds.specs.declared.atom.Atom.{Atom}
use Rattle.type_kinds.specs.declared.place.Place.{Place}
use Rattle.core_ast.specs.declared.syntax.Mark.{Mark}
use Rattle.core_ast.specs.declared.syntax.VarName.{VarName}
use Rattle.core_ast.specs.declared.syntax.Literal.TheVariants as l
use Rattle.core_ast.specs.Model as m
use Rattle.core_parse_grammar.specs.Labels.{labelled, number}
use Rattle.core_scope.specs.declared.ask.Ask.TheVariants.{AnyNumber, Exactly}
use Rattle.core_scope.specs.declared.fault.ScopeRule.{ScopeRule}
use Rattle.core_scope.specs.declared.fault.ScopeRule.TheVariants.{BoundVariables, DistinctVariables, DefinedFunctions, DistinctFunctions, DefinedExports, Degrees}
use Rattle.core_scope.specs.declared.fault.Break.{Break}
use Rattle.core_scope.specs.Names.{Scope}
use Rattle.core_scope.specs.Asks.{one_value, function_name}
use Rattle.core_scope.specs.Breaks.{breaks, clause_breaks, module_breaks}
use Rattle.core_scope.specs.Labels.{labels, labels_of_steps}
use Rattle.core_scope.specs.Functions.{labelled_function, functions, functions_of_clauses}
use Rattle.core_scope.specs.Places.{StandsIn}
use Rattle.core_scope.specs.Places.Piece.{expression, clauses}
use Rattle.core_scope.specs.Places.HasPart.{letrec_definitions, letrec_body, first_expression, clause_patterns, definition_body, binary_patterns, first_pattern, pattern_arguments}
use Rattle.core_scope.specs.Places.StandsIn.{itself, deeper}

-- ---- words for the examples: everything stands on line 1, at the byte that is told

abbrev place : ℕ → Place
place byte = record { byte = byte; line = 1 }

abbrev at : ℕ → Mark
at byte = record { label = 0; place = place byte; note = record { line = None; generated = false } }

abbrev named : ℕ → Atom → VarName
named byte x = record { name = x; place = place byte; note = record { line = None; generated = false } }

abbrev broken : ℕ → ScopeRule → Break
broken byte rule = record { place = place byte; rule = rule }

abbrev nowhere : Scope
nowhere = record { variables = []; functions = [] }

abbrev x : Atom
x = codes "X"

abbrev y : Atom
y = codes "Y"

abbrev wild : Atom
wild = codes "_"

abbrev var : ℕ → Atom → m.Tree
var byte a = m.variable (at byte) a

abbrev atom : ℕ → Atom → m.Tree
atom byte a = m.literal (at byte) (l.Atom a)

abbrev only : m.Tree → m.Trees
only t = m.and_tree t m.no_tree

abbrev two : m.Tree → m.Tree → m.Trees
two t u = m.and_tree t (only u)

abbrev one_clause : m.Patterns → m.Tree → m.Tree → m.Clauses
one_clause ps guard t = m.and_clause (at 10) ps guard t m.no_clause

abbrev one_pattern : m.Pattern → m.Patterns
one_pattern p = m.and_pattern p m.no_pattern

-- ---- variables

-- fun (X) -> X breaks nothing, and fun (X) -> Y has an unbound variable.
parameter_is_bound : breaks nowhere one_value (m.function (at 0) (named 5 x ∷ []) (var 11 x)) ≡ []
parameter_is_bound = refl

other_is_unbound : breaks nowhere one_value (m.function (at 0) (named 5 x ∷ []) (var 11 y)) ≡ broken 11 BoundVariables ∷ []
other_is_unbound = refl

-- fun (X,X) -> X repeats X, and fun (_,_) -> _ has `_` as an expression.
parameter_is_repeated : breaks nowhere one_value (m.function (at 0) (named 5 x ∷ named 7 x ∷ []) (var 13 x)) ≡ broken 7 DistinctVariables ∷ []
parameter_is_repeated = refl

wildcard_binds_nothing : breaks nowhere one_value (m.function (at 0) (named 5 wild ∷ named 7 wild ∷ []) (var 13 wild)) ≡ broken 13 BoundVariables ∷ []
wildcard_binds_nothing = refl

-- let <X> = X in X: the first X is unbound, the second isn't.
bound_behind : breaks nowhere one_value (m.chain (at 0) (m.and_let (at 0) (named 5 x ∷ []) (var 10 x) m.no_step) (var 15 x)) ≡ broken 10 BoundVariables ∷ []
bound_behind = refl

-- A guard and a body see all that the patterns bind; nothing behind the clause does.
clause_sees_patterns : clause_breaks nowhere one_value 1 (one_clause (one_pattern (m.binds (at 11) x)) (var 14 x) (var 17 x)) ≡ []
clause_sees_patterns = refl

-- #{#<X>(X,Y),#<Y>(Y)}#: a segment's arguments see its own variable and those before, not those behind.
segment_sees_before :
    clause_breaks nowhere one_value 1 (one_clause (one_pattern (m.binary_of (at 11)
    (m.and_pat_segment (m.binds (at 14) x) (two (var 17 x) (var 19 y)) (m.and_pat_segment (m.binds (at 24) y) (only (var 27 y)) m.no_pat_segment))))
    (atom 40 (codes "true")) (var 50 y)) ≡ broken 19 BoundVariables ∷ []
segment_sees_before = refl

-- ~{X:=X}~: a key doesn't see the variables of its own value.
key_sees_before :
    clause_breaks nowhere one_value 1 (one_clause (one_pattern (m.map_of (at 11) (m.and_pat_pair (var 13 x) (m.binds (at 16) x) m.no_pat_pair)))
    (atom 40 (codes "true")) (var 50 x)) ≡ broken 13 BoundVariables ∷ []
key_sees_before = refl

-- ---- degrees

-- Of <1,2> two values are asked in `let <X,Y> =`, one in a body, and any number before a `do`.
two_for_two : breaks nowhere (Exactly 2) (m.values (at 0) (two (atom 1 x) (atom 3 y))) ≡ []
two_for_two = refl

two_for_one : breaks nowhere one_value (m.values (at 0) (two (atom 1 x) (atom 3 y))) ≡ broken 0 Degrees ∷ []
two_for_one = refl

two_for_any : breaks nowhere AnyNumber (m.values (at 0) (two (atom 1 x) (atom 3 y))) ≡ []
two_for_any = refl

-- call 'erlang':'error'('X') suffices where two are asked, call 'erlang':'error'() doesn't, and a primop does.
raising_for_two : breaks nowhere (Exactly 2) (m.call (at 0) (atom 5 (codes "erlang")) (atom 14 (codes "error")) (only (atom 22 x))) ≡ []
raising_for_two = refl

call_for_two : breaks nowhere (Exactly 2) (m.call (at 0) (atom 5 (codes "erlang")) (atom 14 (codes "error")) m.no_tree) ≡ broken 0 Degrees ∷ []
call_for_two = refl

primop_for_two : breaks nowhere (Exactly 2) (m.primop (at 0) (codes "p") m.no_tree) ≡ []
primop_for_two = refl

-- 255 values may be asked, and not 256, of whatever form.
at_most_255 : breaks nowhere (Exactly 255) (m.primop (at 0) (codes "p") m.no_tree) ≡ []
at_most_255 = refl

not_256 : breaks nowhere (Exactly 256) (m.primop (at 0) (codes "p") m.no_tree) ≡ broken 0 Degrees ∷ []
not_256 = refl

-- ---- functions

abbrev f : ℕ → m.Tree
f byte = m.local (at byte) (function_name (codes "f") 0)

-- letrec 'f'/0 = fun () -> 'f'/0 in 'f'/0: a function of a `letrec` sees itself.
letrec_sees_itself : breaks nowhere one_value (m.letrec (at 0) (m.and_def (function_name (codes "f") 0) (at 15) [] (f 25) m.no_def) (f 35)) ≡ []
letrec_sees_itself = refl

undefined_here : breaks nowhere one_value (f 0) ≡ broken 0 DefinedFunctions ∷ []
undefined_here = refl

-- A module that defines 'f'/0 twice, the second time with a parameter, and exports 'g'/0.
module_of_three_breaks :
    module_breaks (record {
      name = codes "m";
      exports = function_name (codes "g") 0 ∷ [];
      export_places = place 12 ∷ [];
      defs = m.and_def (function_name (codes "f") 0) (at 40) [] (atom 50 x) (m.and_def (function_name (codes "f") 0) (at 60) (named 65 x ∷ []) (var 70 x) m.no_def);
      note = record { line = None; generated = false };
    }) ≡ broken 60 DistinctFunctions ∷ broken 12 DefinedExports ∷ broken 60 Degrees ∷ []
module_of_three_breaks = refl

-- ---- labels

-- case 'f'/0 of <X> when 'Y' -> X end, numbered from 4 on: the case, its argument, the clause, and there the pattern, the guard and the body.
labels_of_a_case : labels (number 4 (m.case (at 0) (f 5) (m.and_clause (at 12) (m.and_pattern (m.binds (at 13) x) m.no_pattern) (atom 20 y) (var 30 x) m.no_clause))).0 ≡ 4 ∷ 5 ∷ 6 ∷ 7 ∷ 8 ∷ 9 ∷ []
labels_of_a_case = refl

-- Steps have labels of their own, and what stands twice is listed twice.
labels_of_two_steps : labels_of_steps (m.and_let (labelled 7 (at 0)) (named 4 x ∷ []) (f 8) (m.and_do (labelled 7 (at 20)) (f 23) m.no_step)) ≡ 7 ∷ 0 ∷ 7 ∷ 0 ∷ []
labels_of_two_steps = refl

-- ---- functions by label

-- letrec 'f'/0 = fun () -> fun (X) -> X in 'f'/0: the definition first, then the fun in it, each with its own label.
functions_of_a_letrec :
    functions (m.letrec (labelled 1 (at 0)) (m.and_def (function_name (codes "f") 0) (labelled 2 (at 15)) [] (m.function (labelled 3 (at 25)) (named 30 x ∷ []) (var 36 x)) m.no_def) (f 40))
    ≡ labelled_function (labelled 2 (at 15)) (Some (function_name (codes "f") 0)) [] (m.function (labelled 3 (at 25)) (named 30 x ∷ []) (var 36 x))
    ∷ labelled_function (labelled 3 (at 25)) None (named 30 x ∷ []) (var 36 x) ∷ []
functions_of_a_letrec = refl

-- The guard of a clause and the arguments of its patterns count too.
functions_of_a_clause :
    functions_of_clauses (one_clause (one_pattern (m.binary_of (at 11) (m.and_pat_segment (m.binds (at 14) x) (only (m.function (labelled 5 (at 17)) [] (atom 25 y))) m.no_pat_segment))) (m.function (labelled 6 (at 40)) [] (atom 45 y))
    (var 50 x))
    ≡ labelled_function (labelled 5 (at 17)) None [] (atom 25 y) ∷ labelled_function (labelled 6 (at 40)) None [] (atom 45 y) ∷ []
functions_of_a_clause = refl

-- ---- what stands in a module

-- #{#<X>(X)}#: the argument X stands in the clause, one value is asked of it, and it sees the X of its own segment.
argument_stands_in_clause :
    StandsIn (clauses nowhere one_value 1 (one_clause (one_pattern (m.binary_of (at 11) (m.and_pat_segment (m.binds (at 14) x) (only (var 17 x)) m.no_pat_segment))) (atom 40 (codes "true")) (var 50 x)))
    (expression (record { variables = x ∷ []; functions = [] }) one_value (var 17 x))
argument_stands_in_clause = deeper (deeper (deeper (deeper (deeper itself clause_patterns) first_pattern) binary_patterns) pattern_arguments) first_expression

-- letrec 'f'/0 = fun () -> 'f'/0 in 'f'/0: both uses of 'f'/0 stand in it and see it.
body_stands_in_letrec : StandsIn (expression nowhere one_value (m.letrec (at 0) (m.and_def (function_name (codes "f") 0) (at 15) [] (f 25) m.no_def) (f 35)))
    (expression (record { variables = []; functions = function_name (codes "f") 0 ∷ [] }) one_value (f 35))
body_stands_in_letrec = deeper itself letrec_body

fun_stands_in_letrec : StandsIn (expression nowhere one_value (m.letrec (at 0) (m.and_def (function_name (codes "f") 0) (at 15) [] (f 25) m.no_def) (f 35)))
    (expression (record { variables = []; functions = function_name (codes "f") 0 ∷ [] }) one_value (f 25))
fun_stands_in_letrec = deeper (deeper itself letrec_definitions) definition_body
