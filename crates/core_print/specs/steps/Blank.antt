-- Trees without their labels and places: what text says of them.
use Rattle.std.specs.Prelude.{map}
use Rattle.core_ast.specs.declared.syntax.Mark.{Mark}
use Rattle.core_ast.specs.Model as m
use Rattle.core_ast.specs.Same.{nowhere, bare_variable}

-- A mark keeps its note.
abbrev pub blank_mark : Mark → Mark
blank_mark k = record { label = 0; place = nowhere; note = k.note }

-- Trees without their labels and places.
abbrev mutual
  pub blank : m.Tree → m.Tree
  blank (m.variable k x) = m.variable (blank_mark k) x
  blank (m.local k f) = m.local (blank_mark k) f
  blank (m.external k x f) = m.external (blank_mark k) x f
  blank (m.literal k l) = m.literal (blank_mark k) l
  blank (m.function k xs t) = m.function (blank_mark k) (map bare_variable xs) (blank t)
  blank (m.listed k ts t) = m.listed (blank_mark k) (blank_all ts) (blank t)
  blank (m.tuple k ts) = m.tuple (blank_mark k) (blank_all ts)
  blank (m.new_map k ps) = m.new_map (blank_mark k) (blank_pairs ps)
  blank (m.updated_map k ps t) = m.updated_map (blank_mark k) (blank_pairs ps) (blank t)
  blank (m.binary k ss) = m.binary (blank_mark k) (blank_segments ss)
  blank (m.values k ts) = m.values (blank_mark k) (blank_all ts)
  blank (m.chain k ss t) = m.chain (blank_mark k) (blank_steps ss) (blank t)
  blank (m.case k t cs) = m.case (blank_mark k) (blank t) (blank_clauses cs)
  blank (m.letrec k ds t) = m.letrec (blank_mark k) (blank_defs ds) (blank t)
  blank (m.apply k t ts) = m.apply (blank_mark k) (blank t) (blank_all ts)
  blank (m.call k t u ts) = m.call (blank_mark k) (blank t) (blank u) (blank_all ts)
  blank (m.primop k x ts) = m.primop (blank_mark k) x (blank_all ts)
  blank (m.try k t xs u ys w) = m.try (blank_mark k) (blank t) (map bare_variable xs) (blank u) (map bare_variable ys) (blank w)
  blank (m.receive k cs t u) = m.receive (blank_mark k) (blank_clauses cs) (blank t) (blank u)
  blank (m.catch k t) = m.catch (blank_mark k) (blank t)

  pub blank_all : m.Trees → m.Trees
  blank_all m.no_tree = m.no_tree
  blank_all (m.and_tree t ts) = m.and_tree (blank t) (blank_all ts)

  pub blank_pairs : m.Pairs → m.Pairs
  blank_pairs m.no_pair = m.no_pair
  blank_pairs (m.and_pair e t u ps) = m.and_pair e (blank t) (blank u) (blank_pairs ps)

  pub blank_segments : m.Segments → m.Segments
  blank_segments m.no_segment = m.no_segment
  blank_segments (m.and_segment t ts ss) = m.and_segment (blank t) (blank_all ts) (blank_segments ss)

  pub blank_steps : m.Steps → m.Steps
  blank_steps m.no_step = m.no_step
  blank_steps (m.and_let k xs t ss) = m.and_let (blank_mark k) (map bare_variable xs) (blank t) (blank_steps ss)
  blank_steps (m.and_do k t ss) = m.and_do (blank_mark k) (blank t) (blank_steps ss)

  pub blank_clauses : m.Clauses → m.Clauses
  blank_clauses m.no_clause = m.no_clause
  blank_clauses (m.and_clause k ps g t cs) = m.and_clause (blank_mark k) (blank_patterns ps) (blank g) (blank t) (blank_clauses cs)

  pub blank_defs : m.Defs → m.Defs
  blank_defs m.no_def = m.no_def
  blank_defs (m.and_def f k xs t ds) = m.and_def f (blank_mark k) (map bare_variable xs) (blank t) (blank_defs ds)

  pub blank_pattern : m.Pattern → m.Pattern
  blank_pattern (m.binds k x) = m.binds (blank_mark k) x
  blank_pattern (m.equals k l) = m.equals (blank_mark k) l
  blank_pattern (m.list_of k ps p) = m.list_of (blank_mark k) (blank_patterns ps) (blank_pattern p)
  blank_pattern (m.tuple_of k ps) = m.tuple_of (blank_mark k) (blank_patterns ps)
  blank_pattern (m.map_of k ps) = m.map_of (blank_mark k) (blank_pat_pairs ps)
  blank_pattern (m.binary_of k ss) = m.binary_of (blank_mark k) (blank_pat_segments ss)
  blank_pattern (m.alias k x p) = m.alias (blank_mark k) (bare_variable x) (blank_pattern p)

  pub blank_patterns : m.Patterns → m.Patterns
  blank_patterns m.no_pattern = m.no_pattern
  blank_patterns (m.and_pattern p ps) = m.and_pattern (blank_pattern p) (blank_patterns ps)

  pub blank_pat_pairs : m.PatPairs → m.PatPairs
  blank_pat_pairs m.no_pat_pair = m.no_pat_pair
  blank_pat_pairs (m.and_pat_pair t p ps) = m.and_pat_pair (blank t) (blank_pattern p) (blank_pat_pairs ps)

  pub blank_pat_segments : m.PatSegments → m.PatSegments
  blank_pat_segments m.no_pat_segment = m.no_pat_segment
  blank_pat_segments (m.and_pat_segment p ts ss) = m.and_pat_segment (blank_pattern p) (blank_all ts) (blank_pat_segments ss)
