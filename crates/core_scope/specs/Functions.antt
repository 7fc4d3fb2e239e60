-- The functions that stand in a module, each under its label.
use Rattle.std.specs.Prelude.{ℕ, List, [], ◌∷◌, ◌++◌, Option, Some, None}
use Rattle.core_ast.specs.declared.syntax.Mark.{Mark}
use Rattle.core_ast.specs.declared.syntax.VarName.{VarName}
use Rattle.core_ast.specs.declared.syntax.FunName.{FunName}
use Rattle.core_ast.specs.Model as m

-- A function: its label, the name that it is defined under or none, its parameters and its body.
pub record LabelledFunction : Type 0 where
  pub label : ℕ
  pub name : Option FunName
  pub parameters : List VarName
  pub body : m.Tree

abbrev pub labelled_function : Mark → Option FunName → List VarName → m.Tree → LabelledFunction
labelled_function k f xs t = record { label = k.label; name = f; parameters = xs; body = t }

-- The functions in the order of the text: each fun and each definition, those of a `letrec` too, the outer before
-- the inner.
abbrev mutual
  pub functions : m.Tree → List LabelledFunction
  functions (m.variable k x) = []
  functions (m.local k f) = []
  functions (m.external k x f) = []
  functions (m.literal k l) = []
  functions (m.function k xs t) = labelled_function k None xs t ∷ functions t
  functions (m.listed k ts t) = functions_of_all ts ++ functions t
  functions (m.tuple k ts) = functions_of_all ts
  functions (m.new_map k ps) = functions_of_pairs ps
  functions (m.updated_map k ps t) = functions_of_pairs ps ++ functions t
  functions (m.binary k ss) = functions_of_segments ss
  functions (m.values k ts) = functions_of_all ts
  functions (m.chain k ss t) = functions_of_steps ss ++ functions t
  functions (m.case k t cs) = functions t ++ functions_of_clauses cs
  functions (m.letrec k ds t) = functions_of_defs ds ++ functions t
  functions (m.apply k t ts) = functions t ++ functions_of_all ts
  functions (m.call k t u ts) = functions t ++ functions u ++ functions_of_all ts
  functions (m.primop k x ts) = functions_of_all ts
  functions (m.try k t xs u ys w) = functions t ++ functions u ++ functions w
  functions (m.receive k cs t u) = functions_of_clauses cs ++ functions t ++ functions u
  functions (m.catch k t) = functions t

  pub functions_of_all : m.Trees → List LabelledFunction
  functions_of_all m.no_tree = []
  functions_of_all (m.and_tree t ts) = functions t ++ functions_of_all ts

  pub functions_of_segments : m.Segments → List LabelledFunction
  functions_of_segments m.no_segment = []
  functions_of_segments (m.and_segment t ts ss) = functions t ++ functions_of_all ts ++ functions_of_segments ss

  pub functions_of_pairs : m.Pairs → List LabelledFunction
  functions_of_pairs m.no_pair = []
  functions_of_pairs (m.and_pair e t u ps) = functions t ++ functions u ++ functions_of_pairs ps

  pub functions_of_steps : m.Steps → List LabelledFunction
  functions_of_steps m.no_step = []
  functions_of_steps (m.and_let k xs t ss) = functions t ++ functions_of_steps ss
  functions_of_steps (m.and_do k t ss) = functions t ++ functions_of_steps ss

  pub functions_of_clauses : m.Clauses → List LabelledFunction
  functions_of_clauses m.no_clause = []
  functions_of_clauses (m.and_clause k ps g t cs) = functions_of_patterns ps ++ functions g ++ functions t ++ functions_of_clauses cs

  pub functions_of_defs : m.Defs → List LabelledFunction
  functions_of_defs m.no_def = []
  functions_of_defs (m.and_def f k xs t ds) = labelled_function k (Some f) xs t ∷ (functions t ++ functions_of_defs ds)

  pub functions_of_pattern : m.Pattern → List LabelledFunction
  functions_of_pattern (m.binds k x) = []
  functions_of_pattern (m.equals k l) = []
  functions_of_pattern (m.list_of k ps p) = functions_of_patterns ps ++ functions_of_pattern p
  functions_of_pattern (m.tuple_of k ps) = functions_of_patterns ps
  functions_of_pattern (m.map_of k ps) = functions_of_pat_pairs ps
  functions_of_pattern (m.binary_of k ss) = functions_of_pat_segments ss
  functions_of_pattern (m.alias k x p) = functions_of_pattern p

  pub functions_of_patterns : m.Patterns → List LabelledFunction
  functions_of_patterns m.no_pattern = []
  functions_of_patterns (m.and_pattern p ps) = functions_of_pattern p ++ functions_of_patterns ps

  pub functions_of_pat_segments : m.PatSegments → List LabelledFunction
  functions_of_pat_segments m.no_pat_segment = []
  functions_of_pat_segments (m.and_pat_segment p ts ss) = functions_of_pattern p ++ functions_of_all ts ++ functions_of_pat_segments ss

  pub functions_of_pat_pairs : m.PatPairs → List LabelledFunction
  functions_of_pat_pairs m.no_pat_pair = []
  functions_of_pat_pairs (m.and_pat_pair t p ps) = functions t ++ functions_of_pattern p ++ functions_of_pat_pairs ps

-- The functions of a module.
abbrev pub functions_of : m.Module → List LabelledFunction
functions_of x = functions_of_defs x.defs

-- The labels of functions, in their order.
abbrev pub function_labels : List LabelledFunction → List ℕ
function_labels [] = []
function_labels (f ∷ fs) = f.label ∷ function_labels fs
