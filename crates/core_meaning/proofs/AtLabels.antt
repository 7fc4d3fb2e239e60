-- In an accepted module each function that stands in it is found at its label, since no label stands twice among them.
use Rattle.std.proofs.Common.{◌≡◌, zero, suc, List, ◌∷◌, ◌++◌, Some, None, Contains, refl, ap, ◌∙◌, arith}
use Rattle.std.proofs.lemmas.List.Elements.{Contains-append_left, Contains-append_right}
use Rattle.core_meaning.proofs.LabelLaws.{found_at_label}
use Rattle.core_ast.specs.declared.syntax.Mark.{Mark}
use Rattle.core_ast.specs.declared.syntax.VarName.{VarName}
use Rattle.core_ast.specs.Model as m
use Rattle.core_scope.specs.declared.ask.Ask.{Ask}
use Rattle.core_scope.specs.declared.checked.Checked.{Checked}
use Rattle.core_scope.specs.Checked.{tree_of}
use Rattle.core_scope.specs.Names.{Distinct, Scope}
use Rattle.core_scope.specs.Places.{Piece, HasPart, StandsIn, StandsInModule}
use Rattle.core_scope.specs.Places.Piece.{expression, expressions, pairs, segments, steps, clauses, definitions, pattern, patterns, pattern_pairs, pattern_segments}
use Rattle.core_scope.specs.Places.HasPart.{function_body, listed_items, listed_rest, tuple_items, new_map_pairs, updated_map_pairs, updated_map_itself, binary_segments, values_items, chain_steps, chain_end, case_argument, case_clauses}
use Rattle.core_scope.specs.Places.HasPart.{letrec_definitions, letrec_body, apply_function, apply_arguments, call_module, call_name, call_arguments, primop_arguments, try_argument, try_body, try_handler, receive_clauses, receive_timeout}
use Rattle.core_scope.specs.Places.HasPart.{receive_action, catch_argument, first_expression, other_expressions, first_key, first_value, other_pairs, first_segment, segment_arguments, other_segments, let_argument, after_let, do_argument}
use Rattle.core_scope.specs.Places.HasPart.{after_do, clause_patterns, clause_guard, clause_body, other_clauses, definition_body, other_definitions, list_patterns, rest_pattern, tuple_patterns, map_pairs, binary_patterns, alias_pattern}
use Rattle.core_scope.specs.Places.HasPart.{first_pattern, other_patterns, pattern_key, pattern_value, other_pattern_pairs, segment_pattern, pattern_arguments, other_pattern_segments}
use Rattle.core_scope.specs.Places.StandsIn.{itself, deeper}
use Rattle.core_scope.specs.Functions.{LabelledFunction, labelled_function, functions, functions_of_all, functions_of_pairs, functions_of_segments, functions_of_steps, functions_of_clauses, functions_of_defs, functions_of_pattern}
use Rattle.core_scope.specs.Functions.{functions_of_patterns, functions_of_pat_pairs, functions_of_pat_segments, functions_of, function_labels}
use Rattle.core_meaning.specs.Programs.{Program, in_module, function_at, IsAtLabel, AreAtLabels, HasModule}

-- ---- the functions of a piece are among those of the module

abbrev functions_in : Piece → List LabelledFunction
functions_in (expression s k t) = functions t
functions_in (expressions s ts) = functions_of_all ts
functions_in (pairs s ps) = functions_of_pairs ps
functions_in (segments s ss) = functions_of_segments ss
functions_in (steps s ss) = functions_of_steps ss
functions_in (clauses s k n cs) = functions_of_clauses cs
functions_in (definitions s ds) = functions_of_defs ds
functions_in (pattern s before p) = functions_of_pattern p
functions_in (patterns s before ps) = functions_of_patterns ps
functions_in (pattern_pairs s before ps) = functions_of_pat_pairs ps
functions_in (pattern_segments s before ss) = functions_of_pat_segments ss

-- each function of the second list is one of the first
abbrev Holds : List LabelledFunction → List LabelledFunction → Type 0
Holds fs gs = (f : LabelledFunction) → Contains gs f → Contains fs f

after : (g : LabelledFunction) (fs : List LabelledFunction) → Holds (g ∷ fs) fs
after g fs f (k, within, is) = (suc k, omega (arith, within), is)

left : (xs ys : List LabelledFunction) → Holds (xs ++ ys) xs
left xs ys f h = Contains-append_left xs ys f h

right : (xs ys : List LabelledFunction) → Holds (xs ++ ys) ys
right xs ys f h = Contains-append_right xs ys f h

first : (xs ys zs : List LabelledFunction) → Holds (xs ++ ys ++ zs) xs
first xs ys zs f h = left (xs ++ ys) zs f (left xs ys f h)

second : (xs ys zs : List LabelledFunction) → Holds (xs ++ ys ++ zs) ys
second xs ys zs f h = left (xs ++ ys) zs f (right xs ys f h)

third : (xs ys zs : List LabelledFunction) → Holds (xs ++ ys ++ zs) zs
third xs ys zs f h = right (xs ++ ys) zs f h

part_holds : {p q : Piece} → HasPart p q → Holds (functions_in p) (functions_in q)
part_holds (function_body {s} {k} {i} {xs} {t}) = after (labelled_function i None xs t) (functions t)
part_holds (listed_items {s} {k} {i} {ts} {t}) = left (functions_of_all ts) (functions t)
part_holds (listed_rest {s} {k} {i} {ts} {t}) = right (functions_of_all ts) (functions t)
part_holds (tuple_items {s} {k} {i} {ts}) = λ f h. h
part_holds (new_map_pairs {s} {k} {i} {ps}) = λ f h. h
part_holds (updated_map_pairs {s} {k} {i} {ps} {t}) = left (functions_of_pairs ps) (functions t)
part_holds (updated_map_itself {s} {k} {i} {ps} {t}) = right (functions_of_pairs ps) (functions t)
part_holds (binary_segments {s} {k} {i} {ss}) = λ f h. h
part_holds (values_items {s} {k} {i} {ts}) = λ f h. h
part_holds (chain_steps {s} {k} {i} {ss} {t}) = left (functions_of_steps ss) (functions t)
part_holds (chain_end {s} {k} {i} {ss} {t}) = right (functions_of_steps ss) (functions t)
part_holds (case_argument {s} {k} {i} {t} {cs}) = left (functions t) (functions_of_clauses cs)
part_holds (case_clauses {s} {k} {i} {t} {cs}) = right (functions t) (functions_of_clauses cs)
part_holds (letrec_definitions {s} {k} {i} {ds} {t}) = left (functions_of_defs ds) (functions t)
part_holds (letrec_body {s} {k} {i} {ds} {t}) = right (functions_of_defs ds) (functions t)
part_holds (apply_function {s} {k} {i} {t} {ts}) = left (functions t) (functions_of_all ts)
part_holds (apply_arguments {s} {k} {i} {t} {ts}) = right (functions t) (functions_of_all ts)
part_holds (call_module {s} {k} {i} {t} {u} {ts}) = first (functions t) (functions u) (functions_of_all ts)
part_holds (call_name {s} {k} {i} {t} {u} {ts}) = second (functions t) (functions u) (functions_of_all ts)
part_holds (call_arguments {s} {k} {i} {t} {u} {ts}) = third (functions t) (functions u) (functions_of_all ts)
part_holds (primop_arguments {s} {k} {i} {x} {ts}) = λ f h. h
part_holds (try_argument {s} {k} {i} {t} {xs} {u} {ys} {w}) = first (functions t) (functions u) (functions w)
part_holds (try_body {s} {k} {i} {t} {xs} {u} {ys} {w}) = second (functions t) (functions u) (functions w)
part_holds (try_handler {s} {k} {i} {t} {xs} {u} {ys} {w}) = third (functions t) (functions u) (functions w)
part_holds (receive_clauses {s} {k} {i} {cs} {t} {u}) = first (functions_of_clauses cs) (functions t) (functions u)
part_holds (receive_timeout {s} {k} {i} {cs} {t} {u}) = second (functions_of_clauses cs) (functions t) (functions u)
part_holds (receive_action {s} {k} {i} {cs} {t} {u}) = third (functions_of_clauses cs) (functions t) (functions u)
part_holds (catch_argument {s} {k} {i} {t}) = λ f h. h
part_holds (first_expression {s} {t} {ts}) = left (functions t) (functions_of_all ts)
part_holds (other_expressions {s} {t} {ts}) = right (functions t) (functions_of_all ts)
part_holds (first_key {s} {exact} {t} {u} {ps}) = first (functions t) (functions u) (functions_of_pairs ps)
part_holds (first_value {s} {exact} {t} {u} {ps}) = second (functions t) (functions u) (functions_of_pairs ps)
part_holds (other_pairs {s} {exact} {t} {u} {ps}) = third (functions t) (functions u) (functions_of_pairs ps)
part_holds (first_segment {s} {t} {ts} {ss}) = first (functions t) (functions_of_all ts) (functions_of_segments ss)
part_holds (segment_arguments {s} {t} {ts} {ss}) = second (functions t) (functions_of_all ts) (functions_of_segments ss)
part_holds (other_segments {s} {t} {ts} {ss}) = third (functions t) (functions_of_all ts) (functions_of_segments ss)
part_holds (let_argument {s} {i} {xs} {t} {ss}) = left (functions t) (functions_of_steps ss)
part_holds (after_let {s} {i} {xs} {t} {ss}) = right (functions t) (functions_of_steps ss)
part_holds (do_argument {s} {i} {t} {ss}) = left (functions t) (functions_of_steps ss)
part_holds (after_do {s} {i} {t} {ss}) = right (functions t) (functions_of_steps ss)
part_holds (clause_patterns {s} {k} {n} {i} {ps} {t} {u} {cs}) = λ f h. left (functions_of_patterns ps ++ functions t ++ functions u) (functions_of_clauses cs) f (first (functions_of_patterns ps) (functions t) (functions u) f h)
part_holds (clause_guard {s} {k} {n} {i} {ps} {t} {u} {cs}) = λ f h. left (functions_of_patterns ps ++ functions t ++ functions u) (functions_of_clauses cs) f (second (functions_of_patterns ps) (functions t) (functions u) f h)
part_holds (clause_body {s} {k} {n} {i} {ps} {t} {u} {cs}) = λ f h. left (functions_of_patterns ps ++ functions t ++ functions u) (functions_of_clauses cs) f (third (functions_of_patterns ps) (functions t) (functions u) f h)
part_holds (other_clauses {s} {k} {n} {i} {ps} {t} {u} {cs}) = right (functions_of_patterns ps ++ functions t ++ functions u) (functions_of_clauses cs)
part_holds (definition_body {s} {f} {i} {xs} {t} {ds}) = λ g h. after (labelled_function i (Some f) xs t) (functions t ++ functions_of_defs ds) g (left (functions t) (functions_of_defs ds) g h)
part_holds (other_definitions {s} {f} {i} {xs} {t} {ds}) = λ g h. after (labelled_function i (Some f) xs t) (functions t ++ functions_of_defs ds) g (right (functions t) (functions_of_defs ds) g h)
part_holds (list_patterns {s} {before} {i} {ps} {p}) = left (functions_of_patterns ps) (functions_of_pattern p)
part_holds (rest_pattern {s} {before} {i} {ps} {p}) = right (functions_of_patterns ps) (functions_of_pattern p)
part_holds (tuple_patterns {s} {before} {i} {ps}) = λ f h. h
part_holds (map_pairs {s} {before} {i} {ps}) = λ f h. h
part_holds (binary_patterns {s} {before} {i} {ss}) = λ f h. h
part_holds (alias_pattern {s} {before} {i} {y} {p}) = λ f h. h
part_holds (first_pattern {s} {before} {p} {ps}) = left (functions_of_pattern p) (functions_of_patterns ps)
part_holds (other_patterns {s} {before} {p} {ps}) = right (functions_of_pattern p) (functions_of_patterns ps)
part_holds (pattern_key {s} {before} {t} {p} {ps}) = first (functions t) (functions_of_pattern p) (functions_of_pat_pairs ps)
part_holds (pattern_value {s} {before} {t} {p} {ps}) = second (functions t) (functions_of_pattern p) (functions_of_pat_pairs ps)
part_holds (other_pattern_pairs {s} {before} {t} {p} {ps}) = third (functions t) (functions_of_pattern p) (functions_of_pat_pairs ps)
part_holds (segment_pattern {s} {before} {p} {ts} {ss}) = first (functions_of_pattern p) (functions_of_all ts) (functions_of_pat_segments ss)
part_holds (pattern_arguments {s} {before} {p} {ts} {ss}) = second (functions_of_pattern p) (functions_of_all ts) (functions_of_pat_segments ss)
part_holds (other_pattern_segments {s} {before} {p} {ts} {ss}) = third (functions_of_pattern p) (functions_of_all ts) (functions_of_pat_segments ss)

stands_held : {p q : Piece} → StandsIn p q → Holds (functions_in p) (functions_in q)
stands_held itself f h = h
stands_held (deeper x y) f h = stands_held x f (part_holds y f h)

-- ---- a function is found at its label: where labels are distinct, the first function with a label is the only one

module _ (c : Checked) (once : Distinct (function_labels (functions_of (tree_of c)))) (U : Program) (known : HasModule U (tree_of c)) where
  at_label : (f : LabelledFunction) → Contains (functions_of (tree_of c)) f → function_at U (tree_of c).name f.label ≡ Some f
  at_label f h = ap (λ p. in_module p f.label) known ∙ found_at_label (functions_of (tree_of c)) once f h

  pub fun_is_found : (s : Scope) (k : Ask) (i : Mark) (xs : List VarName) (t : m.Tree) → StandsInModule (tree_of c) (expression s k (m.function i xs t)) → IsAtLabel U (tree_of c).name i None xs t
  fun_is_found s k i xs t h = at_label (labelled_function i None xs t) (stands_held h (labelled_function i None xs t) (zero, omega arith, refl))

  -- definitions, each of whose functions is one of the module
  each_found : (ds : m.Defs) → Holds (functions_of_defs (tree_of c).defs) (functions_of_defs ds) → AreAtLabels U (tree_of c).name ds
  each_found m.no_def h = tt
  each_found (m.and_def f i xs t ds) h = (
    at_label (labelled_function i (Some f) xs t) (h (labelled_function i (Some f) xs t) (zero, omega arith, refl)),
    each_found ds (λ g k. h g (after (labelled_function i (Some f) xs t) (functions t ++ functions_of_defs ds) g (right (functions t) (functions_of_defs ds) g k))),
  )

  pub definitions_are_found : (s : Scope) (ds : m.Defs) → StandsInModule (tree_of c) (definitions s ds) → AreAtLabels U (tree_of c).name ds
  definitions_are_found s ds h = each_found ds (stands_held h)

  pub top_is_found : AreAtLabels U (tree_of c).name (tree_of c).defs
  top_is_found = each_found (tree_of c).defs (λ f h. h)
