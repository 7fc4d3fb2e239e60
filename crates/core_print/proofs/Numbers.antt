-- Labels: numbering a tree without places and labels gives the numbered tree without places.
use Rattle.std.proofs.Common.{◌≡◌, ℕ, ◌+◌, map, refl, ap, ◌∙◌}
use Rattle.core_ast.specs.Model as m
use Rattle.core_ast.specs.Same.{bare_variable, bare, bare_all, bare_segments, bare_pairs, bare_steps, bare_clauses, bare_defs, bare_pattern, bare_patterns, bare_pat_segments, bare_pat_pairs}
use Rattle.core_parse_grammar.specs.Labels.{labelled, number, number_all, number_segments, number_pairs, number_steps, number_clauses, number_defs, number_pattern, number_patterns, number_pat_segments, number_pat_pairs}
use Rattle.core_print.specs.steps.Blank.{blank_mark, blank, blank_all, blank_segments, blank_pairs, blank_steps, blank_clauses, blank_defs, blank_pattern, blank_patterns, blank_pat_segments, blank_pat_pairs}

mutual
  pub number_blank : (n : ℕ) (t : m.Tree) → number n (blank t) ≡ (bare (number n t).0, (number n t).1)
  number_blank n (m.variable k x) = refl
  number_blank n (m.local k f) = refl
  number_blank n (m.external k x f) = refl
  number_blank n (m.literal k l) = refl
  number_blank n (m.function k xs t) = ap (λ r. (m.function (labelled n (blank_mark k)) (map bare_variable xs) r.0, r.1)) (number_blank (n + 1) t)
  number_blank n (m.listed k ts t) = let r9 = number_all (n + 1) ts in ap (λ r. let s = number r.1 (blank t) in (m.listed (labelled n (blank_mark k)) r.0 s.0, s.1)) (number_all_blank (n + 1) ts)
      ∙ ap (λ s. (m.listed (labelled n (blank_mark k)) (bare_all r9.0) s.0, s.1)) (number_blank r9.1 t)
  number_blank n (m.tuple k ts) = ap (λ r. (m.tuple (labelled n (blank_mark k)) r.0, r.1)) (number_all_blank (n + 1) ts)
  number_blank n (m.binary k ss) = ap (λ r. (m.binary (labelled n (blank_mark k)) r.0, r.1)) (number_segments_blank (n + 1) ss)
  number_blank n (m.new_map k ps) = ap (λ r. (m.new_map (labelled n (blank_mark k)) r.0, r.1)) (number_pairs_blank (n + 1) ps)
  number_blank n (m.updated_map k ps t) = let r9 = number_pairs (n + 1) ps in ap (λ r. let s = number r.1 (blank t) in (m.updated_map (labelled n (blank_mark k)) r.0 s.0, s.1)) (number_pairs_blank (n + 1) ps)
      ∙ ap (λ s. (m.updated_map (labelled n (blank_mark k)) (bare_pairs r9.0) s.0, s.1)) (number_blank r9.1 t)
  number_blank n (m.values k ts) = ap (λ r. (m.values (labelled n (blank_mark k)) r.0, r.1)) (number_all_blank (n + 1) ts)
  number_blank n (m.chain k ss t) = let r9 = number_steps (n + 1) ss in ap (λ r. let s = number r.1 (blank t) in (m.chain (labelled n (blank_mark k)) r.0 s.0, s.1)) (number_steps_blank (n + 1) ss)
      ∙ ap (λ s. (m.chain (labelled n (blank_mark k)) (bare_steps r9.0) s.0, s.1)) (number_blank r9.1 t)
  number_blank n (m.case k t cs) = let r9 = number (n + 1) t in ap (λ r. let s = number_clauses r.1 (blank_clauses cs) in (m.case (labelled n (blank_mark k)) r.0 s.0, s.1)) (number_blank (n + 1) t)
      ∙ ap (λ s. (m.case (labelled n (blank_mark k)) (bare r9.0) s.0, s.1)) (number_clauses_blank r9.1 cs)
  number_blank n (m.letrec k ds t) = let r9 = number_defs (n + 1) ds in ap (λ r. let s = number r.1 (blank t) in (m.letrec (labelled n (blank_mark k)) r.0 s.0, s.1)) (number_defs_blank (n + 1) ds)
      ∙ ap (λ s. (m.letrec (labelled n (blank_mark k)) (bare_defs r9.0) s.0, s.1)) (number_blank r9.1 t)
  number_blank n (m.apply k t ts) = let r9 = number (n + 1) t in ap (λ r. let s = number_all r.1 (blank_all ts) in (m.apply (labelled n (blank_mark k)) r.0 s.0, s.1)) (number_blank (n + 1) t)
      ∙ ap (λ s. (m.apply (labelled n (blank_mark k)) (bare r9.0) s.0, s.1)) (number_all_blank r9.1 ts)
  number_blank n (m.call k t u ts) = let r9 = number (n + 1) t in let s9 = number r9.1 u in ap (λ r. let s = number r.1 (blank u) in let q = number_all s.1 (blank_all ts) in (m.call (labelled n (blank_mark k)) r.0 s.0 q.0, q.1))
      (number_blank (n + 1) t) ∙ ap (λ s. let q = number_all s.1 (blank_all ts) in (m.call (labelled n (blank_mark k)) (bare r9.0) s.0 q.0, q.1)) (number_blank r9.1 u)
      ∙ ap (λ q. (m.call (labelled n (blank_mark k)) (bare r9.0) (bare s9.0) q.0, q.1)) (number_all_blank s9.1 ts)
  number_blank n (m.primop k x ts) = ap (λ r. (m.primop (labelled n (blank_mark k)) x r.0, r.1)) (number_all_blank (n + 1) ts)
  number_blank n (m.try k t xs u ys w) = let r9 = number (n + 1) t in let s9 = number r9.1 u in ap
      (λ r. let s = number r.1 (blank u) in let q = number s.1 (blank w) in (m.try (labelled n (blank_mark k)) r.0 (map bare_variable xs) s.0 (map bare_variable ys) q.0, q.1)) (number_blank (n + 1) t)
      ∙ ap (λ s. let q = number s.1 (blank w) in (m.try (labelled n (blank_mark k)) (bare r9.0) (map bare_variable xs) s.0 (map bare_variable ys) q.0, q.1)) (number_blank r9.1 u)
      ∙ ap (λ q. (m.try (labelled n (blank_mark k)) (bare r9.0) (map bare_variable xs) (bare s9.0) (map bare_variable ys) q.0, q.1)) (number_blank s9.1 w)
  number_blank n (m.receive k cs t u) = let r9 = number_clauses (n + 1) cs in let s9 =
      number r9.1 t in ap (λ r. let s = number r.1 (blank t) in let q = number s.1 (blank u) in (m.receive (labelled n (blank_mark k)) r.0 s.0 q.0, q.1)) (number_clauses_blank (n + 1) cs)
      ∙ ap (λ s. let q = number s.1 (blank u) in (m.receive (labelled n (blank_mark k)) (bare_clauses r9.0) s.0 q.0, q.1)) (number_blank r9.1 t)
      ∙ ap (λ q. (m.receive (labelled n (blank_mark k)) (bare_clauses r9.0) (bare s9.0) q.0, q.1)) (number_blank s9.1 u)
  number_blank n (m.catch k t) = ap (λ r. (m.catch (labelled n (blank_mark k)) r.0, r.1)) (number_blank (n + 1) t)

  pub number_all_blank : (n : ℕ) (t : m.Trees) → number_all n (blank_all t) ≡ (bare_all (number_all n t).0, (number_all n t).1)
  number_all_blank n m.no_tree = refl
  number_all_blank n (m.and_tree t ts) = let r9 = number n t in ap (λ r. let s = number_all r.1 (blank_all ts) in (m.and_tree r.0 s.0, s.1)) (number_blank n t) ∙ ap (λ s. (m.and_tree (bare r9.0) s.0, s.1)) (number_all_blank r9.1 ts)

  pub number_segments_blank : (n : ℕ) (t : m.Segments) → number_segments n (blank_segments t) ≡ (bare_segments (number_segments n t).0, (number_segments n t).1)
  number_segments_blank n m.no_segment = refl
  number_segments_blank n (m.and_segment t ts ss) = let r9 = number n t in let s9 =
      number_all r9.1 ts in ap (λ r. let s = number_all r.1 (blank_all ts) in let q = number_segments s.1 (blank_segments ss) in (m.and_segment r.0 s.0 q.0, q.1)) (number_blank n t)
      ∙ ap (λ s. let q = number_segments s.1 (blank_segments ss) in (m.and_segment (bare r9.0) s.0 q.0, q.1)) (number_all_blank r9.1 ts) ∙ ap (λ q. (m.and_segment (bare r9.0) (bare_all s9.0) q.0, q.1)) (number_segments_blank s9.1 ss)

  pub number_pairs_blank : (n : ℕ) (t : m.Pairs) → number_pairs n (blank_pairs t) ≡ (bare_pairs (number_pairs n t).0, (number_pairs n t).1)
  number_pairs_blank n m.no_pair = refl
  number_pairs_blank n (m.and_pair e t u ps) = let r9 = number n t in let s9 = number r9.1 u in ap (λ r. let s = number r.1 (blank u) in let q = number_pairs s.1 (blank_pairs ps) in (m.and_pair e r.0 s.0 q.0, q.1)) (number_blank n t)
      ∙ ap (λ s. let q = number_pairs s.1 (blank_pairs ps) in (m.and_pair e (bare r9.0) s.0 q.0, q.1)) (number_blank r9.1 u) ∙ ap (λ q. (m.and_pair e (bare r9.0) (bare s9.0) q.0, q.1)) (number_pairs_blank s9.1 ps)

  pub number_steps_blank : (n : ℕ) (t : m.Steps) → number_steps n (blank_steps t) ≡ (bare_steps (number_steps n t).0, (number_steps n t).1)
  number_steps_blank n m.no_step = refl
  number_steps_blank n (m.and_let k xs t ss) = let r9 = number (n + 1) t in ap (λ r. let s = number_steps r.1 (blank_steps ss) in (m.and_let (labelled n (blank_mark k)) (map bare_variable xs) r.0 s.0, s.1)) (number_blank (n + 1) t)
      ∙ ap (λ s. (m.and_let (labelled n (blank_mark k)) (map bare_variable xs) (bare r9.0) s.0, s.1)) (number_steps_blank r9.1 ss)
  number_steps_blank n (m.and_do k t ss) = let r9 = number (n + 1) t in ap (λ r. let s = number_steps r.1 (blank_steps ss) in (m.and_do (labelled n (blank_mark k)) r.0 s.0, s.1)) (number_blank (n + 1) t)
      ∙ ap (λ s. (m.and_do (labelled n (blank_mark k)) (bare r9.0) s.0, s.1)) (number_steps_blank r9.1 ss)

  pub number_clauses_blank : (n : ℕ) (t : m.Clauses) → number_clauses n (blank_clauses t) ≡ (bare_clauses (number_clauses n t).0, (number_clauses n t).1)
  number_clauses_blank n m.no_clause = refl
  number_clauses_blank n (m.and_clause k ps g t cs) = let r9 = number_patterns (n + 1) ps in let s9 = number r9.1 g in let q9 =
      number s9.1 t in ap (λ r. let s = number r.1 (blank g) in let q = number s.1 (blank t) in let w = number_clauses q.1 (blank_clauses cs) in (m.and_clause (labelled n (blank_mark k)) r.0 s.0 q.0 w.0, w.1))
      (number_patterns_blank (n + 1) ps) ∙ ap (λ s. let q = number s.1 (blank t) in let w = number_clauses q.1 (blank_clauses cs) in (m.and_clause (labelled n (blank_mark k)) (bare_patterns r9.0) s.0 q.0 w.0, w.1)) (number_blank r9.1 g)
      ∙ ap (λ q. let w = number_clauses q.1 (blank_clauses cs) in (m.and_clause (labelled n (blank_mark k)) (bare_patterns r9.0) (bare s9.0) q.0 w.0, w.1)) (number_blank s9.1 t)
      ∙ ap (λ w. (m.and_clause (labelled n (blank_mark k)) (bare_patterns r9.0) (bare s9.0) (bare q9.0) w.0, w.1)) (number_clauses_blank q9.1 cs)

  pub number_defs_blank : (n : ℕ) (t : m.Defs) → number_defs n (blank_defs t) ≡ (bare_defs (number_defs n t).0, (number_defs n t).1)
  number_defs_blank n m.no_def = refl
  number_defs_blank n (m.and_def f k xs t ds) = let r9 = number (n + 1) t in ap (λ r. let s = number_defs r.1 (blank_defs ds) in (m.and_def f (labelled n (blank_mark k)) (map bare_variable xs) r.0 s.0, s.1)) (number_blank (n + 1) t)
      ∙ ap (λ s. (m.and_def f (labelled n (blank_mark k)) (map bare_variable xs) (bare r9.0) s.0, s.1)) (number_defs_blank r9.1 ds)

  pub number_pattern_blank : (n : ℕ) (t : m.Pattern) → number_pattern n (blank_pattern t) ≡ (bare_pattern (number_pattern n t).0, (number_pattern n t).1)
  number_pattern_blank n (m.binds k x) = refl
  number_pattern_blank n (m.equals k l) = refl
  number_pattern_blank n (m.list_of k ps p) = let r9 = number_patterns (n + 1) ps in ap (λ r. let s = number_pattern r.1 (blank_pattern p) in (m.list_of (labelled n (blank_mark k)) r.0 s.0, s.1)) (number_patterns_blank (n + 1) ps)
      ∙ ap (λ s. (m.list_of (labelled n (blank_mark k)) (bare_patterns r9.0) s.0, s.1)) (number_pattern_blank r9.1 p)
  number_pattern_blank n (m.tuple_of k ps) = ap (λ r. (m.tuple_of (labelled n (blank_mark k)) r.0, r.1)) (number_patterns_blank (n + 1) ps)
  number_pattern_blank n (m.map_of k ps) = ap (λ r. (m.map_of (labelled n (blank_mark k)) r.0, r.1)) (number_pat_pairs_blank (n + 1) ps)
  number_pattern_blank n (m.binary_of k ss) = ap (λ r. (m.binary_of (labelled n (blank_mark k)) r.0, r.1)) (number_pat_segments_blank (n + 1) ss)
  number_pattern_blank n (m.alias k x p) = ap (λ r. (m.alias (labelled n (blank_mark k)) (bare_variable x) r.0, r.1)) (number_pattern_blank (n + 1) p)

  pub number_patterns_blank : (n : ℕ) (t : m.Patterns) → number_patterns n (blank_patterns t) ≡ (bare_patterns (number_patterns n t).0, (number_patterns n t).1)
  number_patterns_blank n m.no_pattern = refl
  number_patterns_blank n (m.and_pattern p ps) = let r9 = number_pattern n p in ap (λ r. let s = number_patterns r.1 (blank_patterns ps) in (m.and_pattern r.0 s.0, s.1)) (number_pattern_blank n p)
      ∙ ap (λ s. (m.and_pattern (bare_pattern r9.0) s.0, s.1)) (number_patterns_blank r9.1 ps)

  pub number_pat_segments_blank : (n : ℕ) (t : m.PatSegments) → number_pat_segments n (blank_pat_segments t) ≡ (bare_pat_segments (number_pat_segments n t).0, (number_pat_segments n t).1)
  number_pat_segments_blank n m.no_pat_segment = refl
  number_pat_segments_blank n (m.and_pat_segment p ts ss) = let r9 = number_pattern n p in let s9 =
      number_all r9.1 ts in ap (λ r. let s = number_all r.1 (blank_all ts) in let q = number_pat_segments s.1 (blank_pat_segments ss) in (m.and_pat_segment r.0 s.0 q.0, q.1)) (number_pattern_blank n p)
      ∙ ap (λ s. let q = number_pat_segments s.1 (blank_pat_segments ss) in (m.and_pat_segment (bare_pattern r9.0) s.0 q.0, q.1)) (number_all_blank r9.1 ts)
      ∙ ap (λ q. (m.and_pat_segment (bare_pattern r9.0) (bare_all s9.0) q.0, q.1)) (number_pat_segments_blank s9.1 ss)

  pub number_pat_pairs_blank : (n : ℕ) (t : m.PatPairs) → number_pat_pairs n (blank_pat_pairs t) ≡ (bare_pat_pairs (number_pat_pairs n t).0, (number_pat_pairs n t).1)
  number_pat_pairs_blank n m.no_pat_pair = refl
  number_pat_pairs_blank n (m.and_pat_pair t p ps) = let r9 = number n t in let s9 =
      number_pattern r9.1 p in ap (λ r. let s = number_pattern r.1 (blank_pattern p) in let q = number_pat_pairs s.1 (blank_pat_pairs ps) in (m.and_pat_pair r.0 s.0 q.0, q.1)) (number_blank n t)
      ∙ ap (λ s. let q = number_pat_pairs s.1 (blank_pat_pairs ps) in (m.and_pat_pair (bare r9.0) s.0 q.0, q.1)) (number_pattern_blank r9.1 p)
      ∙ ap (λ q. (m.and_pat_pair (bare r9.0) (bare_pattern s9.0) q.0, q.1)) (number_pat_pairs_blank s9.1 ps)
