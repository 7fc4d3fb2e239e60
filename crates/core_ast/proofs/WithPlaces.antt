-- With places all of a tree is compared.
use Rattle.std.proofs.Common.{◌≡◌, true, List, map, refl}
use Rattle.std.proofs.lemmas.List.{map-id}
use Rattle.core_ast.specs.declared.syntax.VarName.{VarName}
use Rattle.core_ast.specs.declared.syntax.FunDefOf.{FunDefOf}
use Rattle.core_ast.specs.Model as m
use Rattle.core_ast.specs.Compared.{compared_variable, compared, compared_all, compared_pairs, compared_segments, compared_steps, compared_clauses}
use Rattle.core_ast.specs.Compared.{compared_defs, compared_pattern, compared_patterns, compared_pat_pairs, compared_pat_segments}
use Rattle.core_ast.specs.steps.Comparing.{compared_def}

all_variables : (xs : List VarName) → map (compared_variable true) xs ≡ xs
all_variables xs = map-id xs

mutual
  pub all : (t : m.Tree) → compared true t ≡ t
  all (m.variable k x) = refl
  all (m.local k f) = refl
  all (m.external k x f) = refl
  all (m.literal k l) = refl
  all (m.function k xs t) = λ i. m.function k (all_variables xs i) (all t i)
  all (m.listed k ts t) = λ i. m.listed k (all_trees ts i) (all t i)
  all (m.tuple k ts) = λ i. m.tuple k (all_trees ts i)
  all (m.new_map k ps) = λ i. m.new_map k (all_pairs ps i)
  all (m.updated_map k ps t) = λ i. m.updated_map k (all_pairs ps i) (all t i)
  all (m.binary k ss) = λ i. m.binary k (all_segments ss i)
  all (m.values k ts) = λ i. m.values k (all_trees ts i)
  all (m.chain k ss t) = λ i. m.chain k (all_steps ss i) (all t i)
  all (m.case k t cs) = λ i. m.case k (all t i) (all_clauses cs i)
  all (m.letrec k ds t) = λ i. m.letrec k (all_defs ds i) (all t i)
  all (m.apply k t ts) = λ i. m.apply k (all t i) (all_trees ts i)
  all (m.call k t u ts) = λ i. m.call k (all t i) (all u i) (all_trees ts i)
  all (m.primop k x ts) = λ i. m.primop k x (all_trees ts i)
  all (m.try k t xs u ys w) = λ i. m.try k (all t i) (all_variables xs i) (all u i) (all_variables ys i) (all w i)
  all (m.receive k cs t u) = λ i. m.receive k (all_clauses cs i) (all t i) (all u i)
  all (m.catch k t) = λ i. m.catch k (all t i)

  all_trees : (ts : m.Trees) → compared_all true ts ≡ ts
  all_trees m.no_tree = refl
  all_trees (m.and_tree t ts) = λ i. m.and_tree (all t i) (all_trees ts i)

  all_pairs : (ps : m.Pairs) → compared_pairs true ps ≡ ps
  all_pairs m.no_pair = refl
  all_pairs (m.and_pair e t u ps) = λ i. m.and_pair e (all t i) (all u i) (all_pairs ps i)

  all_segments : (ss : m.Segments) → compared_segments true ss ≡ ss
  all_segments m.no_segment = refl
  all_segments (m.and_segment t ts ss) = λ i. m.and_segment (all t i) (all_trees ts i) (all_segments ss i)

  all_steps : (ss : m.Steps) → compared_steps true ss ≡ ss
  all_steps m.no_step = refl
  all_steps (m.and_let k xs t ss) = λ i. m.and_let k (all_variables xs i) (all t i) (all_steps ss i)
  all_steps (m.and_do k t ss) = λ i. m.and_do k (all t i) (all_steps ss i)

  all_clauses : (cs : m.Clauses) → compared_clauses true cs ≡ cs
  all_clauses m.no_clause = refl
  all_clauses (m.and_clause k ps g t cs) = λ i. m.and_clause k (all_patterns ps i) (all g i) (all t i) (all_clauses cs i)

  all_defs : (ds : m.Defs) → compared_defs true ds ≡ ds
  all_defs m.no_def = refl
  all_defs (m.and_def f k xs t ds) = λ i. m.and_def f k (all_variables xs i) (all t i) (all_defs ds i)

  all_pattern : (p : m.Pattern) → compared_pattern true p ≡ p
  all_pattern (m.binds k x) = refl
  all_pattern (m.equals k l) = refl
  all_pattern (m.list_of k ps p) = λ i. m.list_of k (all_patterns ps i) (all_pattern p i)
  all_pattern (m.tuple_of k ps) = λ i. m.tuple_of k (all_patterns ps i)
  all_pattern (m.map_of k ps) = λ i. m.map_of k (all_pat_pairs ps i)
  all_pattern (m.binary_of k ss) = λ i. m.binary_of k (all_pat_segments ss i)
  all_pattern (m.alias k x p) = λ i. m.alias k x (all_pattern p i)

  all_patterns : (ps : m.Patterns) → compared_patterns true ps ≡ ps
  all_patterns m.no_pattern = refl
  all_patterns (m.and_pattern p ps) = λ i. m.and_pattern (all_pattern p i) (all_patterns ps i)

  all_pat_pairs : (ps : m.PatPairs) → compared_pat_pairs true ps ≡ ps
  all_pat_pairs m.no_pat_pair = refl
  all_pat_pairs (m.and_pat_pair t p ps) = λ i. m.and_pat_pair (all t i) (all_pattern p i) (all_pat_pairs ps i)

  all_pat_segments : (ss : m.PatSegments) → compared_pat_segments true ss ≡ ss
  all_pat_segments m.no_pat_segment = refl
  all_pat_segments (m.and_pat_segment p ts ss) = λ i. m.and_pat_segment (all_pattern p i) (all_trees ts i) (all_pat_segments ss i)

pub all_definition : (d : FunDefOf m.Tree) → compared_def true d ≡ d
all_definition d = λ i. record d { fun = record d.fun { params = all_variables d.fun.params i; body = all d.fun.body i } }
