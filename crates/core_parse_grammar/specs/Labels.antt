-- Labels, in the order of the text, the outer before the inner: a tree whose nodes are numbered from
-- n on, and the label that follows its last.
use Rattle.std.specs.Prelude.{ℕ, ◌+◌}
use Rattle.core_ast.specs.declared.syntax.Mark.{Mark}
use Rattle.core_ast.specs.Model as m

abbrev pub labelled : ℕ → Mark → Mark
labelled n k = record k { label = n }

abbrev mutual
  pub number : ℕ → m.Tree → m.Tree × ℕ
  number n (m.variable k x) = (m.variable (labelled n k) x, n + 1)
  number n (m.local k f) = (m.local (labelled n k) f, n + 1)
  number n (m.external k x f) = (m.external (labelled n k) x f, n + 1)
  number n (m.literal k l) = (m.literal (labelled n k) l, n + 1)
  number n (m.function k xs t) = let r = number (n + 1) t in (m.function (labelled n k) xs r.0, r.1)
  number n (m.listed k ts t) = let r = number_all (n + 1) ts in let s = number r.1 t in (m.listed (labelled n k) r.0 s.0, s.1)
  number n (m.tuple k ts) = let r = number_all (n + 1) ts in (m.tuple (labelled n k) r.0, r.1)
  number n (m.binary k ss) = let r = number_segments (n + 1) ss in (m.binary (labelled n k) r.0, r.1)
  number n (m.new_map k ps) = let r = number_pairs (n + 1) ps in (m.new_map (labelled n k) r.0, r.1)
  number n (m.updated_map k ps t) = let r = number_pairs (n + 1) ps in let s = number r.1 t in (m.updated_map (labelled n k) r.0 s.0, s.1)
  number n (m.values k ts) = let r = number_all (n + 1) ts in (m.values (labelled n k) r.0, r.1)
  number n (m.chain k ss t) = let r = number_steps (n + 1) ss in let s = number r.1 t in (m.chain (labelled n k) r.0 s.0, s.1)
  number n (m.case k t cs) = let r = number (n + 1) t in let s = number_clauses r.1 cs in (m.case (labelled n k) r.0 s.0, s.1)
  number n (m.letrec k ds t) = let r = number_defs (n + 1) ds in let s = number r.1 t in (m.letrec (labelled n k) r.0 s.0, s.1)
  number n (m.apply k t ts) = let r = number (n + 1) t in let s = number_all r.1 ts in (m.apply (labelled n k) r.0 s.0, s.1)
  number n (m.call k t u ts) = let r = number (n + 1) t in let s = number r.1 u in let q = number_all s.1 ts in (m.call (labelled n k) r.0 s.0 q.0, q.1)
  number n (m.primop k x ts) = let r = number_all (n + 1) ts in (m.primop (labelled n k) x r.0, r.1)
  number n (m.try k t xs u ys w) = let r = number (n + 1) t in let s = number r.1 u in let q = number s.1 w in (m.try (labelled n k) r.0 xs s.0 ys q.0, q.1)
  number n (m.receive k cs t u) = let r = number_clauses (n + 1) cs in let s = number r.1 t in let q = number s.1 u in (m.receive (labelled n k) r.0 s.0 q.0, q.1)
  number n (m.catch k t) = let r = number (n + 1) t in (m.catch (labelled n k) r.0, r.1)

  pub number_all : ℕ → m.Trees → m.Trees × ℕ
  number_all n m.no_tree = (m.no_tree, n)
  number_all n (m.and_tree t ts) = let r = number n t in let s = number_all r.1 ts in (m.and_tree r.0 s.0, s.1)

  pub number_segments : ℕ → m.Segments → m.Segments × ℕ
  number_segments n m.no_segment = (m.no_segment, n)
  number_segments n (m.and_segment t ts ss) = let r = number n t in let s = number_all r.1 ts in let q = number_segments s.1 ss in (m.and_segment r.0 s.0 q.0, q.1)

  pub number_pairs : ℕ → m.Pairs → m.Pairs × ℕ
  number_pairs n m.no_pair = (m.no_pair, n)
  number_pairs n (m.and_pair e t u ps) = let r = number n t in let s = number r.1 u in let q = number_pairs s.1 ps in (m.and_pair e r.0 s.0 q.0, q.1)

  pub number_steps : ℕ → m.Steps → m.Steps × ℕ
  number_steps n m.no_step = (m.no_step, n)
  number_steps n (m.and_let k xs t ss) = let r = number (n + 1) t in let s = number_steps r.1 ss in (m.and_let (labelled n k) xs r.0 s.0, s.1)
  number_steps n (m.and_do k t ss) = let r = number (n + 1) t in let s = number_steps r.1 ss in (m.and_do (labelled n k) r.0 s.0, s.1)

  pub number_clauses : ℕ → m.Clauses → m.Clauses × ℕ
  number_clauses n m.no_clause = (m.no_clause, n)
  number_clauses n (m.and_clause k ps g t cs) = let r = number_patterns (n + 1) ps in let s = number r.1 g in let q = number s.1 t in let w = number_clauses q.1 cs in (m.and_clause (labelled n k) r.0 s.0 q.0 w.0, w.1)

  pub number_defs : ℕ → m.Defs → m.Defs × ℕ
  number_defs n m.no_def = (m.no_def, n)
  number_defs n (m.and_def f k xs t ds) = let r = number (n + 1) t in let s = number_defs r.1 ds in (m.and_def f (labelled n k) xs r.0 s.0, s.1)

  pub number_pattern : ℕ → m.Pattern → m.Pattern × ℕ
  number_pattern n (m.binds k x) = (m.binds (labelled n k) x, n + 1)
  number_pattern n (m.equals k l) = (m.equals (labelled n k) l, n + 1)
  number_pattern n (m.list_of k ps p) = let r = number_patterns (n + 1) ps in let s = number_pattern r.1 p in (m.list_of (labelled n k) r.0 s.0, s.1)
  number_pattern n (m.tuple_of k ps) = let r = number_patterns (n + 1) ps in (m.tuple_of (labelled n k) r.0, r.1)
  number_pattern n (m.map_of k ps) = let r = number_pat_pairs (n + 1) ps in (m.map_of (labelled n k) r.0, r.1)
  number_pattern n (m.binary_of k ss) = let r = number_pat_segments (n + 1) ss in (m.binary_of (labelled n k) r.0, r.1)
  number_pattern n (m.alias k x p) = let r = number_pattern (n + 1) p in (m.alias (labelled n k) x r.0, r.1)

  pub number_patterns : ℕ → m.Patterns → m.Patterns × ℕ
  number_patterns n m.no_pattern = (m.no_pattern, n)
  number_patterns n (m.and_pattern p ps) = let r = number_pattern n p in let s = number_patterns r.1 ps in (m.and_pattern r.0 s.0, s.1)

  pub number_pat_segments : ℕ → m.PatSegments → m.PatSegments × ℕ
  number_pat_segments n m.no_pat_segment = (m.no_pat_segment, n)
  number_pat_segments n (m.and_pat_segment p ts ss) = let r = number_pattern n p in let s = number_all r.1 ts in let q = number_pat_segments s.1 ss in (m.and_pat_segment r.0 s.0 q.0, q.1)

  pub number_pat_pairs : ℕ → m.PatPairs → m.PatPairs × ℕ
  number_pat_pairs n m.no_pat_pair = (m.no_pat_pair, n)
  number_pat_pairs n (m.and_pat_pair t p ps) = let r = number n t in let s = number_pattern r.1 p in let q = number_pat_pairs s.1 ps in (m.and_pat_pair r.0 s.0 q.0, q.1)

-- A module, whose labels begin at 0. Exports and variables in lists have none.
abbrev pub numbered : m.Module → m.Module
numbered x = record x { defs = (number_defs 0 x.defs).0 }
