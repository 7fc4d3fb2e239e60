-- The walk for functions and their names: what it gathers in each part of a text, and its state.
use Rattle.std.specs.Prelude.{ℕ, List, [], ◌∷◌, ◌++◌, Some, take}
use Rattle.core_ast.specs.declared.syntax.Expr.{Expr}
use Rattle.core_ast.specs.declared.syntax.FunDefOf.{FunDefOf}
use Rattle.core_ast.specs.declared.syntax.StepOf.{StepOf}
use Rattle.core_ast.specs.declared.syntax.StepOf.TheVariants.{Let, Do}
use Rattle.core_ast.specs.declared.syntax.TryOf.{TryOf}
use Rattle.core_ast.specs.Model as m
use Rattle.core_ast.specs.Tree.{tree}
use Rattle.core_scope.specs.Functions.{LabelledFunction, labelled_function, functions, functions_of_all, functions_of_pairs, functions_of_segments, functions_of_steps}
use Rattle.core_scope.specs.Functions.{functions_of_clauses, functions_of_defs, functions_of_pattern, functions_of_patterns, functions_of_pat_pairs, functions_of_pat_segments}
use Rattle.core_scope.specs.Names.{defined_names}
use Rattle.module_flow_calls.specs.declared.names.DefinedFunction.{DefinedFunction}
use Rattle.module_flow_calls.specs.declared.names.NameWalk.{NameWalk}
use Rattle.module_flow_calls.specs.Escapes.{Defined, escapes, escapes_all, escapes_pairs, escapes_segments, escapes_steps, escapes_clauses, escapes_defs, escapes_pattern, escapes_patterns, escapes_pat_pairs, escapes_pat_segments}
use Rattle.module_flow_calls.specs.Functions.{defined_labels}
use Rattle.module_flow_calls.specs.NamedFunctions.{named_functions}

-- the labels of the functions whose names stand as values, and the functions
pub record Gathered : Type 0 where
  pub labels : List ℕ
  pub functions : List LabelledFunction

abbrev pub nothing : Gathered
nothing = record { labels = []; functions = [] }

abbrev pub and_then : Gathered → Gathered → Gathered
and_then a b = record { labels = a.labels ++ b.labels; functions = a.functions ++ b.functions }

-- ---- what is gathered where these functions are defined around

abbrev pub in_tree : Defined → m.Tree → Gathered
in_tree fs t = record { labels = escapes fs t; functions = functions t }

abbrev pub in_all : Defined → m.Trees → Gathered
in_all fs ts = record { labels = escapes_all fs ts; functions = functions_of_all ts }

abbrev pub in_pairs : Defined → m.Pairs → Gathered
in_pairs fs ps = record { labels = escapes_pairs fs ps; functions = functions_of_pairs ps }

abbrev pub in_segments : Defined → m.Segments → Gathered
in_segments fs ss = record { labels = escapes_segments fs ss; functions = functions_of_segments ss }

abbrev pub in_steps : Defined → m.Steps → Gathered
in_steps fs ss = record { labels = escapes_steps fs ss; functions = functions_of_steps ss }

abbrev pub in_clauses : Defined → m.Clauses → Gathered
in_clauses fs cs = record { labels = escapes_clauses fs cs; functions = functions_of_clauses cs }

abbrev pub in_defs : Defined → m.Defs → Gathered
in_defs fs ds = record { labels = escapes_defs fs ds; functions = functions_of_defs ds }

abbrev pub in_definition : Defined → FunDefOf Expr → Gathered
in_definition fs d =
    record {
      labels = escapes fs (tree d.fun.body);
      functions = labelled_function d.mark (Some d.name) d.fun.params (tree d.fun.body) ∷ functions (tree d.fun.body);
    }

abbrev pub in_try : Defined → TryOf Expr → Gathered
in_try fs x =
    record {
      labels = escapes fs (tree x.arg) ++ escapes fs (tree x.body) ++ escapes fs (tree x.handler);
      functions = functions (tree x.arg) ++ functions (tree x.body) ++ functions (tree x.handler);
    }

abbrev pub in_pattern : Defined → m.Pattern → Gathered
in_pattern fs p = record { labels = escapes_pattern fs p; functions = functions_of_pattern p }

abbrev pub in_patterns : Defined → m.Patterns → Gathered
in_patterns fs ps = record { labels = escapes_patterns fs ps; functions = functions_of_patterns ps }

abbrev pub in_pat_pairs : Defined → m.PatPairs → Gathered
in_pat_pairs fs ps = record { labels = escapes_pat_pairs fs ps; functions = functions_of_pat_pairs ps }

abbrev pub in_pat_segments : Defined → m.PatSegments → Gathered
in_pat_segments fs ss = record { labels = escapes_pat_segments fs ss; functions = functions_of_pat_segments ss }

-- ---- the state

-- the functions that are defined around
abbrev pub defined_around : NameWalk → Defined
defined_around w = record { names = w.defined.names; labels = w.defined.labels }

-- one more function, and more labels
abbrev pub with_function : NameWalk → DefinedFunction → NameWalk
with_function w f = record w { functions = w.functions ++ f ∷ [] }

abbrev pub with_labels : NameWalk → List ℕ → NameWalk
with_labels w ls = record w { labels = w.labels ++ ls }

-- the state after this was gathered
abbrev pub noting : NameWalk → Gathered → NameWalk
noting w g = record w { labels = w.labels ++ g.labels; functions = w.functions ++ named_functions g.functions }

-- the state inside a `letrec` of these functions
abbrev pub defining : NameWalk → m.Defs → NameWalk
defining w ds =
    record w {
      defined = record { names = w.defined.names ++ defined_names ds; labels = w.defined.labels ++ defined_labels ds };
    }

-- with only the first `names` names and the first `labels` labels left
abbrev pub leaving : NameWalk → (names labels : ℕ) → NameWalk
leaving w n k = record w { defined = record { names = take n w.defined.names; labels = take k w.defined.labels } }

-- the expression of a step
abbrev pub step_expression : StepOf Expr → Expr
step_expression (Let k xs e) = e
step_expression (Do k e) = e
