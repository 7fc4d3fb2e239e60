-- There are as many lines as labels.
use Rattle.std.proofs.Common.{◌≡◌, ℕ, suc, ◌+◌, List, ◌++◌, Option, length, refl, sym, ap, ◌∙◌}
use Rattle.std.proofs.lemmas.List.{length-append}
use Rattle.core_ast.specs.Model as m
use Rattle.core_scope.specs.Labels.{labels, labels_of, labels_of_all, labels_of_clauses, labels_of_defs, labels_of_pairs, labels_of_pattern}
use Rattle.core_scope.specs.Labels.{labels_of_patterns, labels_of_pat_pairs, labels_of_pat_segments, labels_of_segments, labels_of_steps}
use Rattle.core_lines.specs.Lines.{behind, lines, lines_of, lines_of_all, lines_of_clauses, lines_of_defs, lines_of_pairs, lines_of_pattern}
use Rattle.core_lines.specs.Lines.{lines_of_patterns, lines_of_pat_pairs, lines_of_pat_segments, lines_of_segments, lines_of_steps, noted}

both : (ps qs us vs : List ℕ) → length ps ≡ length qs → length us ≡ length vs → length (ps ++ us) ≡ length (qs ++ vs)
both ps qs us vs e f = length-append ps us ∙ ap (λ n. n + length us) e ∙ ap (λ n. length qs + n) f ∙ sym (length-append qs vs)

mutual
  counted : (a : Option ℕ) (t : m.Tree) → length (lines a t) ≡ length (labels t)
  counted a (m.variable k x) = refl
  counted a (m.local k f) = refl
  counted a (m.external k x f) = refl
  counted a (m.literal k l) = refl
  counted a (m.function k xs t) = ap suc (counted (noted a k) t)
  counted a (m.listed k ts t) = ap suc (both _ _ _ _ (counted_all (noted a k) ts) (counted (noted a k) t))
  counted a (m.tuple k ts) = ap suc (counted_all (noted a k) ts)
  counted a (m.new_map k ps) = ap suc (counted_pairs (noted a k) ps)
  counted a (m.updated_map k ps t) = ap suc (both _ _ _ _ (counted_pairs (noted a k) ps) (counted (noted a k) t))
  counted a (m.binary k ss) = ap suc (counted_segments (noted a k) ss)
  counted a (m.values k ts) = ap suc (counted_all (noted a k) ts)
  counted a (m.chain k ss t) = ap suc (both _ _ _ _ (counted_steps (noted a k) ss) (counted (behind (noted a k) ss) t))
  counted a (m.case k t cs) = ap suc (both _ _ _ _ (counted (noted a k) t) (counted_clauses (noted a k) cs))
  counted a (m.letrec k ds t) = ap suc (both _ _ _ _ (counted_defs (noted a k) ds) (counted (noted a k) t))
  counted a (m.apply k t ts) = ap suc (both _ _ _ _ (counted (noted a k) t) (counted_all (noted a k) ts))
  counted a (m.call k t u ts) = ap suc (both _ _ _ _ (both _ _ _ _ (counted (noted a k) t) (counted (noted a k) u)) (counted_all (noted a k) ts))
  counted a (m.primop k x ts) = ap suc (counted_all (noted a k) ts)
  counted a (m.try k t xs u ys w) = ap suc (both _ _ _ _ (both _ _ _ _ (counted (noted a k) t) (counted (noted a k) u)) (counted (noted a k) w))
  counted a (m.receive k cs t u) = ap suc (both _ _ _ _ (both _ _ _ _ (counted_clauses (noted a k) cs) (counted (noted a k) t)) (counted (noted a k) u))
  counted a (m.catch k t) = ap suc (counted (noted a k) t)

  counted_all : (a : Option ℕ) (ts : m.Trees) → length (lines_of_all a ts) ≡ length (labels_of_all ts)
  counted_all a m.no_tree = refl
  counted_all a (m.and_tree t ts) = both _ _ _ _ (counted a t) (counted_all a ts)

  counted_pairs : (a : Option ℕ) (ps : m.Pairs) → length (lines_of_pairs a ps) ≡ length (labels_of_pairs ps)
  counted_pairs a m.no_pair = refl
  counted_pairs a (m.and_pair e t u ps) = both _ _ _ _ (both _ _ _ _ (counted a t) (counted a u)) (counted_pairs a ps)

  counted_segments : (a : Option ℕ) (ss : m.Segments) → length (lines_of_segments a ss) ≡ length (labels_of_segments ss)
  counted_segments a m.no_segment = refl
  counted_segments a (m.and_segment t ts ss) = both _ _ _ _ (both _ _ _ _ (counted a t) (counted_all a ts)) (counted_segments a ss)

  counted_steps : (a : Option ℕ) (ss : m.Steps) → length (lines_of_steps a ss) ≡ length (labels_of_steps ss)
  counted_steps a m.no_step = refl
  counted_steps a (m.and_let k xs t ss) = ap suc (both _ _ _ _ (counted (noted a k) t) (counted_steps (noted a k) ss))
  counted_steps a (m.and_do k t ss) = ap suc (both _ _ _ _ (counted (noted a k) t) (counted_steps (noted a k) ss))

  counted_clauses : (a : Option ℕ) (cs : m.Clauses) → length (lines_of_clauses a cs) ≡ length (labels_of_clauses cs)
  counted_clauses a m.no_clause = refl
  counted_clauses a (m.and_clause k ps g t cs) = ap suc (both _ _ _ _ (both _ _ _ _ (both _ _ _ _ (counted_patterns (noted a k) ps) (counted (noted a k) g)) (counted (noted a k) t)) (counted_clauses a cs))

  counted_defs : (a : Option ℕ) (ds : m.Defs) → length (lines_of_defs a ds) ≡ length (labels_of_defs ds)
  counted_defs a m.no_def = refl
  counted_defs a (m.and_def f k xs t ds) = ap suc (both _ _ _ _ (counted (noted a k) t) (counted_defs a ds))

  counted_pattern : (a : Option ℕ) (p : m.Pattern) → length (lines_of_pattern a p) ≡ length (labels_of_pattern p)
  counted_pattern a (m.binds k x) = refl
  counted_pattern a (m.equals k l) = refl
  counted_pattern a (m.list_of k ps p) = ap suc (both _ _ _ _ (counted_patterns (noted a k) ps) (counted_pattern (noted a k) p))
  counted_pattern a (m.tuple_of k ps) = ap suc (counted_patterns (noted a k) ps)
  counted_pattern a (m.map_of k ps) = ap suc (counted_pat_pairs (noted a k) ps)
  counted_pattern a (m.binary_of k ss) = ap suc (counted_pat_segments (noted a k) ss)
  counted_pattern a (m.alias k x p) = ap suc (counted_pattern (noted a k) p)

  counted_patterns : (a : Option ℕ) (ps : m.Patterns) → length (lines_of_patterns a ps) ≡ length (labels_of_patterns ps)
  counted_patterns a m.no_pattern = refl
  counted_patterns a (m.and_pattern p ps) = both _ _ _ _ (counted_pattern a p) (counted_patterns a ps)

  counted_pat_segments : (a : Option ℕ) (ss : m.PatSegments) → length (lines_of_pat_segments a ss) ≡ length (labels_of_pat_segments ss)
  counted_pat_segments a m.no_pat_segment = refl
  counted_pat_segments a (m.and_pat_segment p ts ss) = both _ _ _ _ (both _ _ _ _ (counted_pattern a p) (counted_all a ts)) (counted_pat_segments a ss)

  counted_pat_pairs : (a : Option ℕ) (ps : m.PatPairs) → length (lines_of_pat_pairs a ps) ≡ length (labels_of_pat_pairs ps)
  counted_pat_pairs a m.no_pat_pair = refl
  counted_pat_pairs a (m.and_pat_pair t p ps) = both _ _ _ _ (both _ _ _ _ (counted a t) (counted_pattern a p)) (counted_pat_pairs a ps)

pub as_many : (x : m.Module) → length (lines_of x) ≡ length (labels_of x)
as_many x = counted_defs x.note.line x.defs
