-- The labels of every module that some text spells count from 0, in the order of the text; so no label stands twice.
use Rattle.std.proofs.Common.{◌≡◌, ℕ, zero, suc, ◌+◌, ◌≤◌, List, ◌∷◌, ◌++◌, Contains, length, refl, sym, ap, subst, arith}
use Rattle.std.proofs.Math.Logic.{∥∥₁_elim}
use Rattle.std.proofs.Props.{props}
use Rattle.std.specs.List.{range_with_len}
use Rattle.core_ast.specs.Model as m
use Rattle.core_parse_grammar.specs.Labels.{numbered, number, number_all, number_segments, number_pairs, number_steps, number_clauses, number_defs, number_pattern, number_patterns, number_pat_segments, number_pat_pairs}
use Rattle.core_scope.specs.declared.checked.Checked.{Checked}
use Rattle.core_scope.specs.Accepted.{IsSpelled}
use Rattle.core_scope.specs.Checked.{tree_of}
use Rattle.core_scope.specs.Labels.{labels, labels_of_all, labels_of_segments, labels_of_pairs, labels_of_steps, labels_of_clauses, labels_of_defs}
use Rattle.core_scope.specs.Labels.{labels_of_pattern, labels_of_patterns, labels_of_pat_segments, labels_of_pat_pairs, labels_of, CountFromZero}
use Rattle.core_scope.specs.Names.{Distinct}
use Rattle.core_scope.specs.steps.Run.{Run}
use Rattle.core_scope.specs.steps.Run.Run.{no_more, and_then}

-- One run behind another, which begins where the first ends.
glued : {n k l : ℕ} {xs ys : List ℕ} → Run n xs k → Run k ys l → Run n (xs ++ ys) l
glued no_more q = q
glued (and_then p) q = and_then (glued p q)

-- ---- what is numbered from n on has a run of labels from n

mutual
  run : (n : ℕ) (t : m.Tree) → Run n (labels (number n t).0) (number n t).1
  run n (m.variable k x) = and_then no_more
  run n (m.local k f) = and_then no_more
  run n (m.external k x f) = and_then no_more
  run n (m.literal k l) = and_then no_more
  run n (m.function k xs t) = and_then (run (n + 1) t)
  run n (m.listed k ts t) = and_then (glued (run_all (n + 1) ts) (run _ t))
  run n (m.tuple k ts) = and_then (run_all (n + 1) ts)
  run n (m.binary k ss) = and_then (run_segments (n + 1) ss)
  run n (m.new_map k ps) = and_then (run_pairs (n + 1) ps)
  run n (m.updated_map k ps t) = and_then (glued (run_pairs (n + 1) ps) (run _ t))
  run n (m.values k ts) = and_then (run_all (n + 1) ts)
  run n (m.chain k ss t) = and_then (glued (run_steps (n + 1) ss) (run _ t))
  run n (m.case k t cs) = and_then (glued (run (n + 1) t) (run_clauses _ cs))
  run n (m.letrec k ds t) = and_then (glued (run_defs (n + 1) ds) (run _ t))
  run n (m.apply k t ts) = and_then (glued (run (n + 1) t) (run_all _ ts))
  run n (m.call k t u ts) = and_then (glued (glued (run (n + 1) t) (run _ u)) (run_all _ ts))
  run n (m.primop k x ts) = and_then (run_all (n + 1) ts)
  run n (m.try k t xs u ys w) = and_then (glued (glued (run (n + 1) t) (run _ u)) (run _ w))
  run n (m.receive k cs t u) = and_then (glued (glued (run_clauses (n + 1) cs) (run _ t)) (run _ u))
  run n (m.catch k t) = and_then (run (n + 1) t)

  run_all : (n : ℕ) (t : m.Trees) → Run n (labels_of_all (number_all n t).0) (number_all n t).1
  run_all n m.no_tree = no_more
  run_all n (m.and_tree t ts) = glued (run n t) (run_all _ ts)

  run_segments : (n : ℕ) (t : m.Segments) → Run n (labels_of_segments (number_segments n t).0) (number_segments n t).1
  run_segments n m.no_segment = no_more
  run_segments n (m.and_segment t ts ss) = glued (glued (run n t) (run_all _ ts)) (run_segments _ ss)

  run_pairs : (n : ℕ) (t : m.Pairs) → Run n (labels_of_pairs (number_pairs n t).0) (number_pairs n t).1
  run_pairs n m.no_pair = no_more
  run_pairs n (m.and_pair e t u ps) = glued (glued (run n t) (run _ u)) (run_pairs _ ps)

  run_steps : (n : ℕ) (t : m.Steps) → Run n (labels_of_steps (number_steps n t).0) (number_steps n t).1
  run_steps n m.no_step = no_more
  run_steps n (m.and_let k xs t ss) = and_then (glued (run (n + 1) t) (run_steps _ ss))
  run_steps n (m.and_do k t ss) = and_then (glued (run (n + 1) t) (run_steps _ ss))

  run_clauses : (n : ℕ) (t : m.Clauses) → Run n (labels_of_clauses (number_clauses n t).0) (number_clauses n t).1
  run_clauses n m.no_clause = no_more
  run_clauses n (m.and_clause k ps g t cs) = and_then (glued (glued (glued (run_patterns (n + 1) ps) (run _ g)) (run _ t)) (run_clauses _ cs))

  run_defs : (n : ℕ) (t : m.Defs) → Run n (labels_of_defs (number_defs n t).0) (number_defs n t).1
  run_defs n m.no_def = no_more
  run_defs n (m.and_def f k xs t ds) = and_then (glued (run (n + 1) t) (run_defs _ ds))

  run_pattern : (n : ℕ) (t : m.Pattern) → Run n (labels_of_pattern (number_pattern n t).0) (number_pattern n t).1
  run_pattern n (m.binds k x) = and_then no_more
  run_pattern n (m.equals k l) = and_then no_more
  run_pattern n (m.list_of k ps p) = and_then (glued (run_patterns (n + 1) ps) (run_pattern _ p))
  run_pattern n (m.tuple_of k ps) = and_then (run_patterns (n + 1) ps)
  run_pattern n (m.map_of k ps) = and_then (run_pat_pairs (n + 1) ps)
  run_pattern n (m.binary_of k ss) = and_then (run_pat_segments (n + 1) ss)
  run_pattern n (m.alias k x p) = and_then (run_pattern (n + 1) p)

  run_patterns : (n : ℕ) (t : m.Patterns) → Run n (labels_of_patterns (number_patterns n t).0) (number_patterns n t).1
  run_patterns n m.no_pattern = no_more
  run_patterns n (m.and_pattern p ps) = glued (run_pattern n p) (run_patterns _ ps)

  run_pat_segments : (n : ℕ) (t : m.PatSegments) → Run n (labels_of_pat_segments (number_pat_segments n t).0) (number_pat_segments n t).1
  run_pat_segments n m.no_pat_segment = no_more
  run_pat_segments n (m.and_pat_segment p ts ss) = glued (glued (run_pattern n p) (run_all _ ts)) (run_pat_segments _ ss)

  run_pat_pairs : (n : ℕ) (t : m.PatPairs) → Run n (labels_of_pat_pairs (number_pat_pairs n t).0) (number_pat_pairs n t).1
  run_pat_pairs n m.no_pat_pair = no_more
  run_pat_pairs n (m.and_pat_pair t p ps) = glued (glued (run n t) (run_pattern _ p)) (run_pat_pairs _ ps)

-- ---- a run is a range, and in a range no number stands twice

range_of_run : {n k : ℕ} {xs : List ℕ} → Run n xs k → xs ≡ range_with_len n (length xs)
range_of_run no_more = refl
range_of_run (and_then {n} p) = ap (λ ys. n ∷ ys) (range_of_run p)

least_of_range : (n a x : ℕ) → Contains (range_with_len a n) x → a ≤ x
least_of_range zero a x (k, within, is) = absurd (omega arith)
least_of_range (suc n) a x (zero, within, is) = omega (arith, is)
least_of_range (suc n) a x (suc k, within, is) = let r = least_of_range n (a + 1) x (k, omega arith, is) in omega arith

range_is_distinct : (n a : ℕ) → Distinct (range_with_len a n)
range_is_distinct zero a = tt
range_is_distinct (suc n) a = (λ h. let r = least_of_range n (a + 1) a h in absurd (omega arith), range_is_distinct n (a + 1))

-- ---- the labels of a module

-- Labels that count from 0 are distinct.
pub counted_once : (x : m.Module) → CountFromZero x → Distinct (labels_of x)
counted_once x h = subst Distinct (sym h) (range_is_distinct (length (labels_of x)) 0)

numbered_counts : (x : m.Module) → CountFromZero (numbered x)
numbered_counts x = range_of_run (run_defs 0 x.defs)

-- What some text spells is numbered.
pub spelled_counts : (x : m.Module) → IsSpelled x → CountFromZero x
spelled_counts x h = ∥∥₁_elim {P = CountFromZero x} h (hlevel props) (λ t. subst CountFromZero t.spells.1.labels (numbered_counts t.spells.1.says))

pub checked_counts : (c : Checked) → CountFromZero (tree_of c)
checked_counts c = spelled_counts (tree_of c) c.spelled

pub checked_labels : (c : Checked) → Distinct (labels_of (tree_of c))
checked_labels c = counted_once (tree_of c) (checked_counts c)

pub ruleset label_laws = (checked_counts, checked_labels)
