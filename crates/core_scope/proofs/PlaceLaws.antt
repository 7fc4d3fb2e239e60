-- What breaks no rule holds at every piece of an accepted module.
use Rattle.std.proofs.Common.{◌≡◌, ℕ, true, ◌⊎◌, List, [], ◌++◌, length}
use Rattle.type_kinds.specs.declared.atom.Atom.{Atom}
use Rattle.core_ast.specs.declared.syntax.Mark.{Mark}
use Rattle.core_ast.specs.declared.syntax.VarName.{VarName}
use Rattle.core_ast.specs.declared.syntax.FunName.{FunName}
use Rattle.core_ast.specs.Model as m
use Rattle.core_scope.specs.declared.ask.Ask.{Ask}
use Rattle.core_scope.specs.declared.ask.Ask.TheVariants.{AnyNumber, Exactly}
use Rattle.core_scope.specs.declared.checked.Checked.{Checked}
use Rattle.core_scope.specs.Names.{has_variable, has_function, bound, bound_by, pattern_bound, patterns_bound, steps_bound, defined_names, Scope, with_variables, with_functions, module_scope}
use Rattle.core_scope.specs.Asks.{one_value, gives, suffices, width}
use Rattle.core_scope.specs.Breaks.{degree, use_of_variable, use_of_function, new_variable, new_variables, new_functions, arity_of, width_of, catches, breaks, all_breaks, pair_breaks}
use Rattle.core_scope.specs.Breaks.{segment_breaks, step_breaks, clause_breaks, def_breaks, pattern_breaks, patterns_breaks, pat_pair_breaks, pat_segment_breaks, export_breaks, module_breaks}
use Rattle.core_scope.specs.Checked.{tree_of, is_accepted}
use Rattle.core_scope.specs.Places.{Piece, HasPart, StandsIn, StandsInModule, piece_breaks, HaveWidth, HaveArity}
use Rattle.core_scope.specs.Places.Piece.{expression, clauses, definitions}
use Rattle.core_scope.specs.Places.HasPart.{function_body, listed_items, listed_rest, tuple_items, new_map_pairs, updated_map_pairs, updated_map_itself, binary_segments, values_items, chain_steps, chain_end, case_argument}
use Rattle.core_scope.specs.Places.HasPart.{case_clauses, letrec_definitions, letrec_body, apply_function, apply_arguments, call_module, call_name, call_arguments, primop_arguments, try_argument, try_body, try_handler, receive_clauses}
use Rattle.core_scope.specs.Places.HasPart.{receive_timeout, receive_action, catch_argument, first_expression, other_expressions, first_key, first_value, other_pairs, first_segment, segment_arguments, other_segments}
use Rattle.core_scope.specs.Places.HasPart.{let_argument, after_let, do_argument, after_do, clause_patterns, clause_guard, clause_body, other_clauses, definition_body, other_definitions, list_patterns, rest_pattern, tuple_patterns}
use Rattle.core_scope.specs.Places.HasPart.{map_pairs, binary_patterns, alias_pattern, first_pattern, other_patterns, pattern_key, pattern_value, other_pattern_pairs, segment_pattern, pattern_arguments, other_pattern_segments}
use Rattle.core_scope.specs.Places.StandsIn.{itself, deeper}
use Rattle.core_scope.proofs.Unbroken.{open_two, open_three, open_four, open_five, open_seven, holds, place_is_satisfied, arity_is, width_is, catches_are}

-- ---- what breaks no rule has no piece that does

-- A part of an unbroken piece is unbroken.
pub part_is_unbroken : {p q : Piece} → HasPart p q → piece_breaks p ≡ [] → piece_breaks q ≡ []
part_is_unbroken (function_body {s} {k} {i} {xs} {t}) e = (open_three (degree k i (m.function i xs t)) (new_variables [] xs) (breaks (with_variables s (bound_by xs)) one_value t) e).2
part_is_unbroken (listed_items {s} {k} {i} {ts} {t}) e = (open_three (degree k i (m.listed i ts t)) (all_breaks s ts) (breaks s one_value t) e).1
part_is_unbroken (listed_rest {s} {k} {i} {ts} {t}) e = (open_three (degree k i (m.listed i ts t)) (all_breaks s ts) (breaks s one_value t) e).2
part_is_unbroken (tuple_items {s} {k} {i} {ts}) e = (open_two (degree k i (m.tuple i ts)) (all_breaks s ts) e).1
part_is_unbroken (new_map_pairs {s} {k} {i} {ps}) e = (open_two (degree k i (m.new_map i ps)) (pair_breaks s ps) e).1
part_is_unbroken (updated_map_pairs {s} {k} {i} {ps} {t}) e = (open_three (degree k i (m.updated_map i ps t)) (pair_breaks s ps) (breaks s one_value t) e).1
part_is_unbroken (updated_map_itself {s} {k} {i} {ps} {t}) e = (open_three (degree k i (m.updated_map i ps t)) (pair_breaks s ps) (breaks s one_value t) e).2
part_is_unbroken (binary_segments {s} {k} {i} {ss}) e = (open_two (degree k i (m.binary i ss)) (segment_breaks s ss) e).1
part_is_unbroken (values_items {s} {k} {i} {ts}) e = (open_two (degree k i (m.values i ts)) (all_breaks s ts) e).1
part_is_unbroken (chain_steps {s} {k} {i} {ss} {t}) e = (open_three (degree k i (m.chain i ss t)) (step_breaks s ss) (breaks (with_variables s (steps_bound ss)) k t) e).1
part_is_unbroken (chain_end {s} {k} {i} {ss} {t}) e = (open_three (degree k i (m.chain i ss t)) (step_breaks s ss) (breaks (with_variables s (steps_bound ss)) k t) e).2
part_is_unbroken (case_argument {s} {k} {i} {t} {cs}) e = (open_three (degree k i (m.case i t cs)) (breaks s (Exactly (width cs)) t) (clause_breaks s k (width cs) cs) e).1
part_is_unbroken (case_clauses {s} {k} {i} {t} {cs}) e = (open_three (degree k i (m.case i t cs)) (breaks s (Exactly (width cs)) t) (clause_breaks s k (width cs) cs) e).2
part_is_unbroken (letrec_definitions {s} {k} {i} {ds} {t}) e = (open_four (degree k i (m.letrec i ds t)) (new_functions [] ds) (def_breaks (with_functions s (defined_names ds)) ds) (breaks (with_functions s (defined_names ds)) k t) e).2
part_is_unbroken (letrec_body {s} {k} {i} {ds} {t}) e = (open_four (degree k i (m.letrec i ds t)) (new_functions [] ds) (def_breaks (with_functions s (defined_names ds)) ds) (breaks (with_functions s (defined_names ds)) k t) e).3
part_is_unbroken (apply_function {s} {k} {i} {t} {ts}) e = (open_three (degree k i (m.apply i t ts)) (breaks s one_value t) (all_breaks s ts) e).1
part_is_unbroken (apply_arguments {s} {k} {i} {t} {ts}) e = (open_three (degree k i (m.apply i t ts)) (breaks s one_value t) (all_breaks s ts) e).2
part_is_unbroken (call_module {s} {k} {i} {t} {u} {ts}) e = (open_four (degree k i (m.call i t u ts)) (breaks s one_value t) (breaks s one_value u) (all_breaks s ts) e).1
part_is_unbroken (call_name {s} {k} {i} {t} {u} {ts}) e = (open_four (degree k i (m.call i t u ts)) (breaks s one_value t) (breaks s one_value u) (all_breaks s ts) e).2
part_is_unbroken (call_arguments {s} {k} {i} {t} {u} {ts}) e = (open_four (degree k i (m.call i t u ts)) (breaks s one_value t) (breaks s one_value u) (all_breaks s ts) e).3
part_is_unbroken (primop_arguments {s} {k} {i} {x} {ts}) e = (open_two (degree k i (m.primop i x ts)) (all_breaks s ts) e).1
part_is_unbroken (try_argument {s} {k} {i} {t} {xs} {u} {ys} {w}) e =
    (open_seven (degree k i (m.try i t xs u ys w)) (catches i ys) (breaks s (Exactly (length xs)) t) (new_variables [] xs) (breaks (with_variables s (bound_by xs)) k u) (new_variables [] ys)
    (breaks (with_variables s (bound_by ys)) k w) e).2
part_is_unbroken (try_body {s} {k} {i} {t} {xs} {u} {ys} {w}) e =
    (open_seven (degree k i (m.try i t xs u ys w)) (catches i ys) (breaks s (Exactly (length xs)) t) (new_variables [] xs) (breaks (with_variables s (bound_by xs)) k u) (new_variables [] ys)
    (breaks (with_variables s (bound_by ys)) k w) e).4
part_is_unbroken (try_handler {s} {k} {i} {t} {xs} {u} {ys} {w}) e =
    (open_seven (degree k i (m.try i t xs u ys w)) (catches i ys) (breaks s (Exactly (length xs)) t) (new_variables [] xs) (breaks (with_variables s (bound_by xs)) k u) (new_variables [] ys)
    (breaks (with_variables s (bound_by ys)) k w) e).6
part_is_unbroken (receive_clauses {s} {k} {i} {cs} {t} {u}) e = (open_four (degree k i (m.receive i cs t u)) (clause_breaks s k 1 cs) (breaks s one_value t) (breaks s k u) e).1
part_is_unbroken (receive_timeout {s} {k} {i} {cs} {t} {u}) e = (open_four (degree k i (m.receive i cs t u)) (clause_breaks s k 1 cs) (breaks s one_value t) (breaks s k u) e).2
part_is_unbroken (receive_action {s} {k} {i} {cs} {t} {u}) e = (open_four (degree k i (m.receive i cs t u)) (clause_breaks s k 1 cs) (breaks s one_value t) (breaks s k u) e).3
part_is_unbroken (catch_argument {s} {k} {i} {t}) e = (open_two (degree k i (m.catch i t)) (breaks s one_value t) e).1
part_is_unbroken (first_expression {s} {t} {ts}) e = (open_two (breaks s one_value t) (all_breaks s ts) e).0
part_is_unbroken (other_expressions {s} {t} {ts}) e = (open_two (breaks s one_value t) (all_breaks s ts) e).1
part_is_unbroken (first_key {s} {exact} {t} {u} {ps}) e = (open_three (breaks s one_value t) (breaks s one_value u) (pair_breaks s ps) e).0
part_is_unbroken (first_value {s} {exact} {t} {u} {ps}) e = (open_three (breaks s one_value t) (breaks s one_value u) (pair_breaks s ps) e).1
part_is_unbroken (other_pairs {s} {exact} {t} {u} {ps}) e = (open_three (breaks s one_value t) (breaks s one_value u) (pair_breaks s ps) e).2
part_is_unbroken (first_segment {s} {t} {ts} {ss}) e = (open_three (breaks s one_value t) (all_breaks s ts) (segment_breaks s ss) e).0
part_is_unbroken (segment_arguments {s} {t} {ts} {ss}) e = (open_three (breaks s one_value t) (all_breaks s ts) (segment_breaks s ss) e).1
part_is_unbroken (other_segments {s} {t} {ts} {ss}) e = (open_three (breaks s one_value t) (all_breaks s ts) (segment_breaks s ss) e).2
part_is_unbroken (let_argument {s} {i} {xs} {t} {ss}) e = (open_three (breaks s (Exactly (length xs)) t) (new_variables [] xs) (step_breaks (with_variables s (bound_by xs)) ss) e).0
part_is_unbroken (after_let {s} {i} {xs} {t} {ss}) e = (open_three (breaks s (Exactly (length xs)) t) (new_variables [] xs) (step_breaks (with_variables s (bound_by xs)) ss) e).2
part_is_unbroken (do_argument {s} {i} {t} {ss}) e = (open_two (breaks s AnyNumber t) (step_breaks s ss) e).0
part_is_unbroken (after_do {s} {i} {t} {ss}) e = (open_two (breaks s AnyNumber t) (step_breaks s ss) e).1
part_is_unbroken (clause_patterns {s} {k} {n} {i} {ps} {t} {u} {cs}) e =
    (open_five (width_of n i ps) (patterns_breaks s [] ps) (breaks (with_variables s (patterns_bound ps)) one_value t) (breaks (with_variables s (patterns_bound ps)) k u) (clause_breaks s k n cs) e).1
part_is_unbroken (clause_guard {s} {k} {n} {i} {ps} {t} {u} {cs}) e =
    (open_five (width_of n i ps) (patterns_breaks s [] ps) (breaks (with_variables s (patterns_bound ps)) one_value t) (breaks (with_variables s (patterns_bound ps)) k u) (clause_breaks s k n cs) e).2
part_is_unbroken (clause_body {s} {k} {n} {i} {ps} {t} {u} {cs}) e =
    (open_five (width_of n i ps) (patterns_breaks s [] ps) (breaks (with_variables s (patterns_bound ps)) one_value t) (breaks (with_variables s (patterns_bound ps)) k u) (clause_breaks s k n cs) e).3
part_is_unbroken (other_clauses {s} {k} {n} {i} {ps} {t} {u} {cs}) e =
    (open_five (width_of n i ps) (patterns_breaks s [] ps) (breaks (with_variables s (patterns_bound ps)) one_value t) (breaks (with_variables s (patterns_bound ps)) k u) (clause_breaks s k n cs) e).4
part_is_unbroken (definition_body {s} {f} {i} {xs} {t} {ds}) e = (open_four (arity_of f i xs) (new_variables [] xs) (breaks (with_variables s (bound_by xs)) one_value t) (def_breaks s ds) e).2
part_is_unbroken (other_definitions {s} {f} {i} {xs} {t} {ds}) e = (open_four (arity_of f i xs) (new_variables [] xs) (breaks (with_variables s (bound_by xs)) one_value t) (def_breaks s ds) e).3
part_is_unbroken (list_patterns {s} {before} {i} {ps} {p}) e = (open_two (patterns_breaks s before ps) (pattern_breaks s (before ++ patterns_bound ps) p) e).0
part_is_unbroken (rest_pattern {s} {before} {i} {ps} {p}) e = (open_two (patterns_breaks s before ps) (pattern_breaks s (before ++ patterns_bound ps) p) e).1
part_is_unbroken (tuple_patterns {s} {before} {i} {ps}) e = e
part_is_unbroken (map_pairs {s} {before} {i} {ps}) e = e
part_is_unbroken (binary_patterns {s} {before} {i} {ss}) e = e
part_is_unbroken (alias_pattern {s} {before} {i} {y} {p}) e = (open_two (new_variable before y.name y.place) (pattern_breaks s (before ++ bound y.name) p) e).1
part_is_unbroken (first_pattern {s} {before} {p} {ps}) e = (open_two (pattern_breaks s before p) (patterns_breaks s (before ++ pattern_bound p) ps) e).0
part_is_unbroken (other_patterns {s} {before} {p} {ps}) e = (open_two (pattern_breaks s before p) (patterns_breaks s (before ++ pattern_bound p) ps) e).1
part_is_unbroken (pattern_key {s} {before} {t} {p} {ps}) e = (open_three (breaks (with_variables s before) one_value t) (pattern_breaks s before p) (pat_pair_breaks s (before ++ pattern_bound p) ps) e).0
part_is_unbroken (pattern_value {s} {before} {t} {p} {ps}) e = (open_three (breaks (with_variables s before) one_value t) (pattern_breaks s before p) (pat_pair_breaks s (before ++ pattern_bound p) ps) e).1
part_is_unbroken (other_pattern_pairs {s} {before} {t} {p} {ps}) e = (open_three (breaks (with_variables s before) one_value t) (pattern_breaks s before p) (pat_pair_breaks s (before ++ pattern_bound p) ps) e).2
part_is_unbroken (segment_pattern {s} {before} {p} {ts} {ss}) e = (open_three (pattern_breaks s before p) (all_breaks (with_variables s (before ++ pattern_bound p)) ts) (pat_segment_breaks s (before ++ pattern_bound p) ss) e).0
part_is_unbroken (pattern_arguments {s} {before} {p} {ts} {ss}) e = (open_three (pattern_breaks s before p) (all_breaks (with_variables s (before ++ pattern_bound p)) ts) (pat_segment_breaks s (before ++ pattern_bound p) ss) e).1
part_is_unbroken (other_pattern_segments {s} {before} {p} {ts} {ss}) e = (open_three (pattern_breaks s before p) (all_breaks (with_variables s (before ++ pattern_bound p)) ts) (pat_segment_breaks s (before ++ pattern_bound p) ss) e).2

-- What stands at any depth in an unbroken piece is unbroken.
pub piece_is_unbroken : {p q : Piece} → StandsIn p q → piece_breaks p ≡ [] → piece_breaks q ≡ []
piece_is_unbroken itself e = e
piece_is_unbroken (deeper there part) e = part_is_unbroken part (piece_is_unbroken there e)

-- In a module that breaks no rule no piece does.
pub module_piece_is_unbroken : (x : m.Module) → module_breaks x ≡ [] → (p : Piece) → StandsInModule x p → piece_breaks p ≡ []
module_piece_is_unbroken x e p there = piece_is_unbroken there (open_three (new_functions [] x.defs) (export_breaks (defined_names x.defs) x.exports x.export_places) (def_breaks (module_scope x) x.defs) e).2

-- ---- what an unbroken piece says

-- An expression satisfies its place.
pub satisfied : (s : Scope) (k : Ask) (t : m.Tree) → breaks s k t ≡ [] → suffices k (gives t) ≡ true
satisfied s k (m.variable i x) e = place_is_satisfied k i (m.variable i x) (open_two (degree k i (m.variable i x)) (use_of_variable s x i.place) e).0
satisfied s k (m.local i f) e = place_is_satisfied k i (m.local i f) (open_two (degree k i (m.local i f)) (use_of_function s f i.place) e).0
satisfied s k (m.external i x f) e = place_is_satisfied k i (m.external i x f) e
satisfied s k (m.literal i l) e = place_is_satisfied k i (m.literal i l) e
satisfied s k (m.function i xs t) e = place_is_satisfied k i (m.function i xs t) (open_three (degree k i (m.function i xs t)) (new_variables [] xs) (breaks (with_variables s (bound_by xs)) one_value t) e).0
satisfied s k (m.listed i ts t) e = place_is_satisfied k i (m.listed i ts t) (open_three (degree k i (m.listed i ts t)) (all_breaks s ts) (breaks s one_value t) e).0
satisfied s k (m.tuple i ts) e = place_is_satisfied k i (m.tuple i ts) (open_two (degree k i (m.tuple i ts)) (all_breaks s ts) e).0
satisfied s k (m.new_map i ps) e = place_is_satisfied k i (m.new_map i ps) (open_two (degree k i (m.new_map i ps)) (pair_breaks s ps) e).0
satisfied s k (m.updated_map i ps t) e = place_is_satisfied k i (m.updated_map i ps t) (open_three (degree k i (m.updated_map i ps t)) (pair_breaks s ps) (breaks s one_value t) e).0
satisfied s k (m.binary i ss) e = place_is_satisfied k i (m.binary i ss) (open_two (degree k i (m.binary i ss)) (segment_breaks s ss) e).0
satisfied s k (m.values i ts) e = place_is_satisfied k i (m.values i ts) (open_two (degree k i (m.values i ts)) (all_breaks s ts) e).0
satisfied s k (m.chain i ss t) e = place_is_satisfied k i (m.chain i ss t) (open_three (degree k i (m.chain i ss t)) (step_breaks s ss) (breaks (with_variables s (steps_bound ss)) k t) e).0
satisfied s k (m.case i t cs) e = place_is_satisfied k i (m.case i t cs) (open_three (degree k i (m.case i t cs)) (breaks s (Exactly (width cs)) t) (clause_breaks s k (width cs) cs) e).0
satisfied s k (m.letrec i ds t) e = place_is_satisfied k i (m.letrec i ds t) (open_four (degree k i (m.letrec i ds t)) (new_functions [] ds) (def_breaks (with_functions s (defined_names ds)) ds)
    (breaks (with_functions s (defined_names ds)) k t) e).0
satisfied s k (m.apply i t ts) e = place_is_satisfied k i (m.apply i t ts) (open_three (degree k i (m.apply i t ts)) (breaks s one_value t) (all_breaks s ts) e).0
satisfied s k (m.call i t u ts) e = place_is_satisfied k i (m.call i t u ts) (open_four (degree k i (m.call i t u ts)) (breaks s one_value t) (breaks s one_value u) (all_breaks s ts) e).0
satisfied s k (m.primop i x ts) e = place_is_satisfied k i (m.primop i x ts) (open_two (degree k i (m.primop i x ts)) (all_breaks s ts) e).0
satisfied s k (m.try i t xs u ys w) e = place_is_satisfied k i (m.try i t xs u ys w)
    (open_seven (degree k i (m.try i t xs u ys w)) (catches i ys) (breaks s (Exactly (length xs)) t) (new_variables [] xs) (breaks (with_variables s (bound_by xs)) k u) (new_variables [] ys)
    (breaks (with_variables s (bound_by ys)) k w) e).0
satisfied s k (m.receive i cs t u) e = place_is_satisfied k i (m.receive i cs t u) (open_four (degree k i (m.receive i cs t u)) (clause_breaks s k 1 cs) (breaks s one_value t) (breaks s k u) e).0
satisfied s k (m.catch i t) e = place_is_satisfied k i (m.catch i t) (open_two (degree k i (m.catch i t)) (breaks s one_value t) e).0

-- Each clause is as wide as its place wants.
pub widths_are : (s : Scope) (k : Ask) (n : ℕ) (cs : m.Clauses) → clause_breaks s k n cs ≡ [] → HaveWidth n cs
widths_are s k n m.no_clause e = tt
widths_are s k n (m.and_clause i ps guard t cs) e = let r = open_five (width_of n i ps) (patterns_breaks s [] ps) (breaks (with_variables s (patterns_bound ps)) one_value guard) (breaks (with_variables s (patterns_bound ps)) k t)
    (clause_breaks s k n cs) e in (width_is n i ps r.0, widths_are s k n cs r.4)

-- Each definition has its name's arity.
pub arities_are : (s : Scope) (ds : m.Defs) → def_breaks s ds ≡ [] → HaveArity ds
arities_are s m.no_def e = tt
arities_are s (m.and_def f i xs t ds) e = let r = open_four (arity_of f i xs) (new_variables [] xs) (breaks (with_variables s (bound_by xs)) one_value t) (def_breaks s ds) e in (arity_is f i xs r.0, arities_are s ds r.3)

-- ---- what stands in an accepted module

pub checked_unbroken : (c : Checked) (p : Piece) → StandsInModule (tree_of c) p → piece_breaks p ≡ []
checked_unbroken c = module_piece_is_unbroken (tree_of c) (is_accepted c).sound

pub checked_variable : (c : Checked) (s : Scope) (k : Ask) (i : Mark) (x : Atom) → StandsInModule (tree_of c) (expression s k (m.variable i x)) → has_variable s.variables x ≡ true
checked_variable c s k i x there = holds _ _ i.place (open_two (degree k i (m.variable i x)) (use_of_variable s x i.place) (checked_unbroken c _ there)).1

pub checked_function : (c : Checked) (s : Scope) (k : Ask) (i : Mark) (f : FunName) → StandsInModule (tree_of c) (expression s k (m.local i f)) → has_function s.functions f ≡ true
checked_function c s k i f there = holds _ _ i.place (open_two (degree k i (m.local i f)) (use_of_function s f i.place) (checked_unbroken c _ there)).1

pub checked_degree : (c : Checked) (s : Scope) (k : Ask) (t : m.Tree) → StandsInModule (tree_of c) (expression s k t) → suffices k (gives t) ≡ true
checked_degree c s k t there = satisfied s k t (checked_unbroken c _ there)

pub checked_widths : (c : Checked) (s : Scope) (k : Ask) (n : ℕ) (cs : m.Clauses) → StandsInModule (tree_of c) (clauses s k n cs) → HaveWidth n cs
checked_widths c s k n cs there = widths_are s k n cs (checked_unbroken c _ there)

pub checked_cases : (c : Checked) (s : Scope) (k : Ask) (i : Mark) (t : m.Tree) (cs : m.Clauses) → StandsInModule (tree_of c) (expression s k (m.case i t cs)) → HaveWidth (width cs) cs
checked_cases c s k i t cs there = checked_widths c s k (width cs) cs (deeper there case_clauses)

pub checked_receives : (c : Checked) (s : Scope) (k : Ask) (i : Mark) (cs : m.Clauses) (t u : m.Tree) → StandsInModule (tree_of c) (expression s k (m.receive i cs t u)) → HaveWidth 1 cs
checked_receives c s k i cs t u there = checked_widths c s k 1 cs (deeper there receive_clauses)

pub checked_arities : (c : Checked) (s : Scope) (ds : m.Defs) → StandsInModule (tree_of c) (definitions s ds) → HaveArity ds
checked_arities c s ds there = arities_are s ds (checked_unbroken c _ there)

pub checked_letrecs : (c : Checked) (s : Scope) (k : Ask) (i : Mark) (ds : m.Defs) (t : m.Tree) → StandsInModule (tree_of c) (expression s k (m.letrec i ds t)) → HaveArity ds
checked_letrecs c s k i ds t there = checked_arities c _ ds (deeper there letrec_definitions)

pub checked_defs : (c : Checked) → HaveArity (tree_of c).defs
checked_defs c = checked_arities c _ (tree_of c).defs itself

pub checked_catches : (c : Checked) (s : Scope) (k : Ask) (i : Mark) (t : m.Tree) (xs : List VarName) (u : m.Tree) (ys : List VarName) (w : m.Tree) → StandsInModule (tree_of c) (expression s k (m.try i t xs u ys w))
    → (length ys ≡ 2) ⊎ (length ys ≡ 3)
checked_catches c s k i t xs u ys w there = catches_are i ys (open_seven (degree k i (m.try i t xs u ys w)) (catches i ys) (breaks s (Exactly (length xs)) t) (new_variables [] xs) (breaks (with_variables s (bound_by xs)) k u)
    (new_variables [] ys) (breaks (with_variables s (bound_by ys)) k w) (checked_unbroken c _ there)).1

pub ruleset place_laws = (checked_unbroken, checked_variable, checked_function, checked_degree, checked_cases, checked_receives, checked_letrecs, checked_defs, checked_catches)
