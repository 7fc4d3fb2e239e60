-- The labels that stand in a module, in the order of the text: one at each expression, step of a chain, clause,
-- definition and pattern.
use Rattle.std.specs.Prelude.{◌≡◌, ℕ, List, [], ◌∷◌, ◌++◌, length}
use Rattle.std.specs.List.{range_with_len}
use Rattle.core_ast.specs.Model as m

abbrev mutual
  pub labels : m.Tree → List ℕ
  labels (m.variable k x) = k.label ∷ []
  labels (m.local k f) = k.label ∷ []
  labels (m.external k x f) = k.label ∷ []
  labels (m.literal k l) = k.label ∷ []
  labels (m.function k xs t) = k.label ∷ labels t
  labels (m.listed k ts t) = k.label ∷ (labels_of_all ts ++ labels t)
  labels (m.tuple k ts) = k.label ∷ labels_of_all ts
  labels (m.new_map k ps) = k.label ∷ labels_of_pairs ps
  labels (m.updated_map k ps t) = k.label ∷ (labels_of_pairs ps ++ labels t)
  labels (m.binary k ss) = k.label ∷ labels_of_segments ss
  labels (m.values k ts) = k.label ∷ labels_of_all ts
  labels (m.chain k ss t) = k.label ∷ (labels_of_steps ss ++ labels t)
  labels (m.case k t cs) = k.label ∷ (labels t ++ labels_of_clauses cs)
  labels (m.letrec k ds t) = k.label ∷ (labels_of_defs ds ++ labels t)
  labels (m.apply k t ts) = k.label ∷ (labels t ++ labels_of_all ts)
  labels (m.call k t u ts) = k.label ∷ (labels t ++ labels u ++ labels_of_all ts)
  labels (m.primop k x ts) = k.label ∷ labels_of_all ts
  labels (m.try k t xs u ys w) = k.label ∷ (labels t ++ labels u ++ labels w)
  labels (m.receive k cs t u) = k.label ∷ (labels_of_clauses cs ++ labels t ++ labels u)
  labels (m.catch k t) = k.label ∷ labels t

  pub labels_of_all : m.Trees → List ℕ
  labels_of_all m.no_tree = []
  labels_of_all (m.and_tree t ts) = labels t ++ labels_of_all ts

  pub labels_of_segments : m.Segments → List ℕ
  labels_of_segments m.no_segment = []
  labels_of_segments (m.and_segment t ts ss) = labels t ++ labels_of_all ts ++ labels_of_segments ss

  pub labels_of_pairs : m.Pairs → List ℕ
  labels_of_pairs m.no_pair = []
  labels_of_pairs (m.and_pair e t u ps) = labels t ++ labels u ++ labels_of_pairs ps

  pub labels_of_steps : m.Steps → List ℕ
  labels_of_steps m.no_step = []
  labels_of_steps (m.and_let k xs t ss) = k.label ∷ (labels t ++ labels_of_steps ss)
  labels_of_steps (m.and_do k t ss) = k.label ∷ (labels t ++ labels_of_steps ss)

  pub labels_of_clauses : m.Clauses → List ℕ
  labels_of_clauses m.no_clause = []
  labels_of_clauses (m.and_clause k ps g t cs) = k.label ∷ (labels_of_patterns ps ++ labels g ++ labels t ++ labels_of_clauses cs)

  pub labels_of_defs : m.Defs → List ℕ
  labels_of_defs m.no_def = []
  labels_of_defs (m.and_def f k xs t ds) = k.label ∷ (labels t ++ labels_of_defs ds)

  pub labels_of_pattern : m.Pattern → List ℕ
  labels_of_pattern (m.binds k x) = k.label ∷ []
  labels_of_pattern (m.equals k l) = k.label ∷ []
  labels_of_pattern (m.list_of k ps p) = k.label ∷ (labels_of_patterns ps ++ labels_of_pattern p)
  labels_of_pattern (m.tuple_of k ps) = k.label ∷ labels_of_patterns ps
  labels_of_pattern (m.map_of k ps) = k.label ∷ labels_of_pat_pairs ps
  labels_of_pattern (m.binary_of k ss) = k.label ∷ labels_of_pat_segments ss
  labels_of_pattern (m.alias k x p) = k.label ∷ labels_of_pattern p

  pub labels_of_patterns : m.Patterns → List ℕ
  labels_of_patterns m.no_pattern = []
  labels_of_patterns (m.and_pattern p ps) = labels_of_pattern p ++ labels_of_patterns ps

  pub labels_of_pat_segments : m.PatSegments → List ℕ
  labels_of_pat_segments m.no_pat_segment = []
  labels_of_pat_segments (m.and_pat_segment p ts ss) = labels_of_pattern p ++ labels_of_all ts ++ labels_of_pat_segments ss

  pub labels_of_pat_pairs : m.PatPairs → List ℕ
  labels_of_pat_pairs m.no_pat_pair = []
  labels_of_pat_pairs (m.and_pat_pair t p ps) = labels t ++ labels_of_pattern p ++ labels_of_pat_pairs ps

-- The labels of a module.
abbrev pub labels_of : m.Module → List ℕ
labels_of x = labels_of_defs x.defs

-- The labels of a module are 0, 1, 2 and so on, in the order of the text.
abbrev pub CountFromZero : m.Module → Type 0
CountFromZero x = labels_of x ≡ range_with_len 0 (length (labels_of x))
