-- Each label of an accepted module names at most one function.
use Rattle.std.proofs.Common.{◌≡◌, ℕ, ◌⊎◌, inl, inr, List, ◌++◌, Contains, sym, ap, ◌∙◌, subst, arith}
use Rattle.type_kinds.proofs.Lists.{contains_none, contains_later, contains_cases}
use Rattle.core_ast.specs.Model as m
use Rattle.core_scope.specs.declared.checked.Checked.{Checked}
use Rattle.core_scope.specs.Checked.{tree_of}
use Rattle.core_scope.specs.Labels.{labels, labels_of_all, labels_of_segments, labels_of_pairs, labels_of_steps, labels_of_clauses}
use Rattle.core_scope.specs.Labels.{labels_of_defs, labels_of_pattern, labels_of_patterns, labels_of_pat_segments, labels_of_pat_pairs, labels_of}
use Rattle.core_scope.specs.Functions.{LabelledFunction, functions, functions_of_all, functions_of_segments, functions_of_pairs, functions_of_steps, functions_of_clauses}
use Rattle.core_scope.specs.Functions.{functions_of_defs, functions_of_pattern, functions_of_patterns, functions_of_pat_segments, functions_of_pat_pairs, functions_of, function_labels}
use Rattle.core_scope.specs.Names.{Distinct}
use Rattle.core_scope.specs.steps.Picked.{Picked}
use Rattle.core_scope.specs.steps.Picked.Picked.{none, takes, passes}
use Rattle.core_scope.proofs.LabelLaws.{checked_labels}

glued : {es fs : List LabelledFunction} {ns ms : List ℕ} → Picked es ns → Picked fs ms → Picked (es ++ fs) (ns ++ ms)
glued none q = q
glued (takes p) q = takes (glued p q)
glued (passes p) q = passes (glued p q)

-- ---- the labels of the functions of a tree are picked from its labels

mutual
  picked : (t : m.Tree) → Picked (functions t) (labels t)
  picked (m.variable k x) = passes none
  picked (m.local k f) = passes none
  picked (m.external k x f) = passes none
  picked (m.literal k l) = passes none
  picked (m.function k xs t) = takes (picked t)
  picked (m.listed k ts t) = passes (glued (picked_all ts) (picked t))
  picked (m.tuple k ts) = passes (picked_all ts)
  picked (m.binary k ss) = passes (picked_segments ss)
  picked (m.new_map k ps) = passes (picked_pairs ps)
  picked (m.updated_map k ps t) = passes (glued (picked_pairs ps) (picked t))
  picked (m.values k ts) = passes (picked_all ts)
  picked (m.chain k ss t) = passes (glued (picked_steps ss) (picked t))
  picked (m.case k t cs) = passes (glued (picked t) (picked_clauses cs))
  picked (m.letrec k ds t) = passes (glued (picked_defs ds) (picked t))
  picked (m.apply k t ts) = passes (glued (picked t) (picked_all ts))
  picked (m.call k t u ts) = passes (glued (glued (picked t) (picked u)) (picked_all ts))
  picked (m.primop k x ts) = passes (picked_all ts)
  picked (m.try k t xs u ys w) = passes (glued (glued (picked t) (picked u)) (picked w))
  picked (m.receive k cs t u) = passes (glued (glued (picked_clauses cs) (picked t)) (picked u))
  picked (m.catch k t) = passes (picked t)

  picked_all : (t : m.Trees) → Picked (functions_of_all t) (labels_of_all t)
  picked_all m.no_tree = none
  picked_all (m.and_tree t ts) = glued (picked t) (picked_all ts)

  picked_segments : (t : m.Segments) → Picked (functions_of_segments t) (labels_of_segments t)
  picked_segments m.no_segment = none
  picked_segments (m.and_segment t ts ss) = glued (glued (picked t) (picked_all ts)) (picked_segments ss)

  picked_pairs : (t : m.Pairs) → Picked (functions_of_pairs t) (labels_of_pairs t)
  picked_pairs m.no_pair = none
  picked_pairs (m.and_pair e t u ps) = glued (glued (picked t) (picked u)) (picked_pairs ps)

  picked_steps : (t : m.Steps) → Picked (functions_of_steps t) (labels_of_steps t)
  picked_steps m.no_step = none
  picked_steps (m.and_let k xs t ss) = passes (glued (picked t) (picked_steps ss))
  picked_steps (m.and_do k t ss) = passes (glued (picked t) (picked_steps ss))

  picked_clauses : (t : m.Clauses) → Picked (functions_of_clauses t) (labels_of_clauses t)
  picked_clauses m.no_clause = none
  picked_clauses (m.and_clause k ps g t cs) = passes (glued (glued (glued (picked_patterns ps) (picked g)) (picked t)) (picked_clauses cs))

  picked_defs : (t : m.Defs) → Picked (functions_of_defs t) (labels_of_defs t)
  picked_defs m.no_def = none
  picked_defs (m.and_def f k xs t ds) = takes (glued (picked t) (picked_defs ds))

  picked_pattern : (t : m.Pattern) → Picked (functions_of_pattern t) (labels_of_pattern t)
  picked_pattern (m.binds k x) = passes none
  picked_pattern (m.equals k l) = passes none
  picked_pattern (m.list_of k ps p) = passes (glued (picked_patterns ps) (picked_pattern p))
  picked_pattern (m.tuple_of k ps) = passes (picked_patterns ps)
  picked_pattern (m.map_of k ps) = passes (picked_pat_pairs ps)
  picked_pattern (m.binary_of k ss) = passes (picked_pat_segments ss)
  picked_pattern (m.alias k x p) = passes (picked_pattern p)

  picked_patterns : (t : m.Patterns) → Picked (functions_of_patterns t) (labels_of_patterns t)
  picked_patterns m.no_pattern = none
  picked_patterns (m.and_pattern p ps) = glued (picked_pattern p) (picked_patterns ps)

  picked_pat_segments : (t : m.PatSegments) → Picked (functions_of_pat_segments t) (labels_of_pat_segments t)
  picked_pat_segments m.no_pat_segment = none
  picked_pat_segments (m.and_pat_segment p ts ss) = glued (glued (picked_pattern p) (picked_all ts)) (picked_pat_segments ss)

  picked_pat_pairs : (t : m.PatPairs) → Picked (functions_of_pat_pairs t) (labels_of_pat_pairs t)
  picked_pat_pairs m.no_pat_pair = none
  picked_pat_pairs (m.and_pat_pair t p ps) = glued (glued (picked t) (picked_pattern p)) (picked_pat_pairs ps)

-- ---- of distinct labels each is picked once

picked_label : {es : List LabelledFunction} {ns : List ℕ} → Picked es ns → (e : LabelledFunction) → Contains es e → Contains ns e.label
picked_label none e stands = absurd (contains_none e stands)
picked_label (takes {e = d} {es} {ns} p) e stands = elim (contains_cases d e es stands) [
  | inl here ↦ (0, omega arith, ap (λ x. x.label) here)
  | inr later ↦ contains_later d.label e.label ns (picked_label p e later)
]
picked_label (passes {n} {es} {ns} p) e stands = contains_later n e.label ns (picked_label p e stands)

picked_once : {es : List LabelledFunction} {ns : List ℕ} → Picked es ns → Distinct ns → (e f : LabelledFunction) → Contains es e → Contains es f → e.label ≡ f.label → e ≡ f
picked_once none once e f one other same = absurd (contains_none e one)
picked_once (takes {e = d} {es} {ns} p) once e f one other same = by (contains_cases d e es one) (contains_cases d f es other) (λ later after. picked_once p once.1 e f later after same)
  where
    by : (d ≡ e) ⊎ Contains es e → (d ≡ f) ⊎ Contains es f → (Contains es e → Contains es f → e ≡ f) → e ≡ f
    by (inl here) (inl there) both = sym here ∙ there
    by (inl here) (inr later) both = absurd (once.0 (subst (Contains ns) (sym same ∙ sym (ap (λ x. x.label) here)) (picked_label p f later)))
    by (inr later) (inl there) both = absurd (once.0 (subst (Contains ns) (same ∙ sym (ap (λ x. x.label) there)) (picked_label p e later)))
    by (inr later) (inr after) both = both later after
picked_once (passes p) once e f one other same = picked_once p once.1 e f one other same

picked_labels : {es : List LabelledFunction} {ns : List ℕ} → Picked es ns → (n : ℕ) → Contains (function_labels es) n → Contains ns n
picked_labels none n stands = absurd (contains_none n stands)
picked_labels (takes {e} {es} {ns} p) n stands = elim (contains_cases e.label n (function_labels es) stands) [
  | inl here ↦ (0, omega arith, here)
  | inr later ↦ contains_later e.label n ns (picked_labels p n later)
]
picked_labels (passes {n = k} {es} {ns} p) n stands = contains_later k n ns (picked_labels p n stands)

picked_distinct : {es : List LabelledFunction} {ns : List ℕ} → Picked es ns → Distinct ns → Distinct (function_labels es)
picked_distinct none once = tt
picked_distinct (takes {e} {es} {ns} p) once = (λ stands. once.0 (picked_labels p e.label stands), picked_distinct p once.1)
picked_distinct (passes p) once = picked_distinct p once.1

-- ---- the functions of a module

pub function_by_label : (c : Checked) (e f : LabelledFunction) → Contains (functions_of (tree_of c)) e → Contains (functions_of (tree_of c)) f → e.label ≡ f.label → e ≡ f
function_by_label c e f one other same = let x = tree_of c in picked_once (picked_defs x.defs) (checked_labels c) e f one other same

pub function_label : (c : Checked) (e : LabelledFunction) → Contains (functions_of (tree_of c)) e → Contains (labels_of (tree_of c)) e.label
function_label c e stands = let x = tree_of c in picked_label (picked_defs x.defs) e stands

pub function_labels_distinct : (c : Checked) → Distinct (function_labels (functions_of (tree_of c)))
function_labels_distinct c = let x = tree_of c in picked_distinct (picked_defs x.defs) (checked_labels c)
