-- Two things that are known and agree on what a text calls agree on it node by node.
use Rattle.std.proofs.Common.{◌≡◌, ℕ, List, [], ◌∷◌, ◌++◌, subst}
use Rattle.std.specs.Prelude.{Option, Some, None}
use Rattle.type_kinds.specs.declared.atom.Atom.{Atom}
use Rattle.core_ast.specs.declared.syntax.FunName.{FunName}
use Rattle.core_ast.specs.Model as m
use Rattle.core_scope.specs.Asks.{function_name}
use Rattle.core_scope.specs.Names.{defined_names}
use Rattle.call_graph.specs.Targets.CallTarget.{remote}
use Rattle.call_graph.specs.Targets.{CallTarget, targets, all_targets, pair_targets, segment_targets, step_targets, clause_targets, def_targets}
use Rattle.call_graph.specs.Targets.{pattern_targets, patterns_targets, pat_pair_targets, pat_segment_targets, targets_of, target_of, applied, called}
use Rattle.cons_tree.specs.declared.parts.Callee.{Callee}
use Rattle.cons_gen_rows.specs.Counts.{both_atoms}
use Rattle.cons_gen_frame.specs.Agreement.{Agrees, EachAgrees, Agree}

module _ (c d : Atom → FunName → Callee) (home : Atom) where
  -- ---- they agree on what a node calls itself, and on what each of its parts calls

  abbrev mutual
    pub TreeAgrees : List FunName → m.Tree → Type 0
    TreeAgrees fs (m.variable i x) = Unit {0}
    TreeAgrees fs (m.local i f) = Unit {0}
    TreeAgrees fs (m.external i x f) = Unit {0}
    TreeAgrees fs (m.literal i l) = Unit {0}
    TreeAgrees fs (m.function i xs t) = TreeAgrees fs t
    TreeAgrees fs (m.listed i ts t) = TreesAgree fs ts × TreeAgrees fs t
    TreeAgrees fs (m.tuple i ts) = TreesAgree fs ts
    TreeAgrees fs (m.new_map i ps) = PairsAgree fs ps
    TreeAgrees fs (m.updated_map i ps t) = PairsAgree fs ps × TreeAgrees fs t
    TreeAgrees fs (m.binary i ss) = SegmentsAgree fs ss
    TreeAgrees fs (m.values i ts) = TreesAgree fs ts
    TreeAgrees fs (m.chain i ss t) = StepsAgree fs ss × TreeAgrees fs t
    TreeAgrees fs (m.case i t cs) = TreeAgrees fs t × ClausesAgree fs cs
    TreeAgrees fs (m.letrec i ds t) = DefsAgree (fs ++ defined_names ds) ds × TreeAgrees (fs ++ defined_names ds) t
    TreeAgrees fs (m.apply i t ts) = EachAgrees c d home (targets_of (target_of fs (m.apply i t ts))) × TreeAgrees fs t × TreesAgree fs ts
    TreeAgrees fs (m.call i t u ts) = EachAgrees c d home (targets_of (target_of fs (m.call i t u ts))) × TreeAgrees fs t × TreeAgrees fs u × TreesAgree fs ts
    TreeAgrees fs (m.primop i x ts) = TreesAgree fs ts
    TreeAgrees fs (m.try i t xs u ys w) = TreeAgrees fs t × TreeAgrees fs u × TreeAgrees fs w
    TreeAgrees fs (m.receive i cs t u) = ClausesAgree fs cs × TreeAgrees fs t × TreeAgrees fs u
    TreeAgrees fs (m.catch i t) = TreeAgrees fs t

    pub TreesAgree : List FunName → m.Trees → Type 0
    TreesAgree fs m.no_tree = Unit {0}
    TreesAgree fs (m.and_tree t ts) = TreeAgrees fs t × TreesAgree fs ts

    pub PairsAgree : List FunName → m.Pairs → Type 0
    PairsAgree fs m.no_pair = Unit {0}
    PairsAgree fs (m.and_pair exact t u ps) = TreeAgrees fs t × TreeAgrees fs u × PairsAgree fs ps

    pub SegmentsAgree : List FunName → m.Segments → Type 0
    SegmentsAgree fs m.no_segment = Unit {0}
    SegmentsAgree fs (m.and_segment t ts ss) = TreeAgrees fs t × TreesAgree fs ts × SegmentsAgree fs ss

    pub StepsAgree : List FunName → m.Steps → Type 0
    StepsAgree fs m.no_step = Unit {0}
    StepsAgree fs (m.and_let i xs t ss) = TreeAgrees fs t × StepsAgree fs ss
    StepsAgree fs (m.and_do i t ss) = TreeAgrees fs t × StepsAgree fs ss

    -- patterns, guard, body, and the clauses behind
    pub ClausesAgree : List FunName → m.Clauses → Type 0
    ClausesAgree fs m.no_clause = Unit {0}
    ClausesAgree fs (m.and_clause i ps g t cs) = PatternsAgree fs ps × TreeAgrees fs g × TreeAgrees fs t × ClausesAgree fs cs

    pub DefsAgree : List FunName → m.Defs → Type 0
    DefsAgree fs m.no_def = Unit {0}
    DefsAgree fs (m.and_def f i xs t ds) = TreeAgrees fs t × DefsAgree fs ds

    pub PatternAgrees : List FunName → m.Pattern → Type 0
    PatternAgrees fs (m.binds i x) = Unit {0}
    PatternAgrees fs (m.equals i l) = Unit {0}
    PatternAgrees fs (m.list_of i ps p) = PatternsAgree fs ps × PatternAgrees fs p
    PatternAgrees fs (m.tuple_of i ps) = PatternsAgree fs ps
    PatternAgrees fs (m.map_of i ps) = PatPairsAgree fs ps
    PatternAgrees fs (m.binary_of i ss) = PatSegmentsAgree fs ss
    PatternAgrees fs (m.alias i x p) = PatternAgrees fs p

    pub PatternsAgree : List FunName → m.Patterns → Type 0
    PatternsAgree fs m.no_pattern = Unit {0}
    PatternsAgree fs (m.and_pattern p ps) = PatternAgrees fs p × PatternsAgree fs ps

    pub PatPairsAgree : List FunName → m.PatPairs → Type 0
    PatPairsAgree fs m.no_pat_pair = Unit {0}
    PatPairsAgree fs (m.and_pat_pair t p ps) = TreeAgrees fs t × PatternAgrees fs p × PatPairsAgree fs ps

    pub PatSegmentsAgree : List FunName → m.PatSegments → Type 0
    PatSegmentsAgree fs m.no_pat_segment = Unit {0}
    PatSegmentsAgree fs (m.and_pat_segment p ts ss) = PatternAgrees fs p × TreesAgree fs ts × PatSegmentsAgree fs ss

  -- ---- what the calls of a node and of its parts agree on

  front_each : (xs ys : List CallTarget) → EachAgrees c d home (xs ++ ys) → EachAgrees c d home xs
  front_each [] ys h = tt
  front_each (x ∷ xs) ys h = (h.0, front_each xs ys h.1)

  back_each : (xs ys : List CallTarget) → EachAgrees c d home (xs ++ ys) → EachAgrees c d home ys
  back_each [] ys h = h
  back_each (x ∷ xs) ys h = back_each xs ys h.1

  abbrev All : List CallTarget → Type 0
  All xs = Agree c d home xs

  front : (xs ys : List CallTarget) → All (xs ++ ys) → All xs
  front xs ys h = record { each = front_each xs ys h.each }

  back : (xs ys : List CallTarget) → All (xs ++ ys) → All ys
  back xs ys h = record { each = back_each xs ys h.each }

  -- what is made of each of two lists is made of both, and so of three
  both : {P Q : Type 0} (xs ys : List CallTarget) → All (xs ++ ys) → (All xs → P) → (All ys → Q) → P × Q
  both xs ys h p q = (p (front xs ys h), q (back xs ys h))

  three : {P Q R : Type 0} (xs ys zs : List CallTarget) → All (xs ++ ys ++ zs) → (All xs → P) → (All ys → Q) → (All zs → R) → P × Q × R
  three xs ys zs h p q r = (p (front xs ys (front (xs ++ ys) zs h)), q (back xs ys (front (xs ++ ys) zs h)), r (back (xs ++ ys) zs h))

  four : {P Q R S : Type 0} (ws xs ys zs : List CallTarget) → All (ws ++ xs ++ ys ++ zs) → (All ws → P) → (All xs → Q) → (All ys → R) → (All zs → S) → P × Q × R × S
  four ws xs ys zs h p q r s =
      let first = front (ws ++ xs ++ ys) zs h in
      (p (front ws xs (front (ws ++ xs) ys first)), q (back ws xs (front (ws ++ xs) ys first)), r (back (ws ++ xs) ys first), s (back (ws ++ xs ++ ys) zs h))

  mutual
    pub tree_agrees : (fs : List FunName) (t : m.Tree) → All (targets fs t) → TreeAgrees fs t
    tree_agrees fs (m.variable i x) h = tt
    tree_agrees fs (m.local i f) h = tt
    tree_agrees fs (m.external i x f) h = tt
    tree_agrees fs (m.literal i l) h = tt
    tree_agrees fs (m.function i xs t) h = tree_agrees fs t h
    tree_agrees fs (m.listed i ts t) h = both (all_targets fs ts) (targets fs t) h (trees_agree fs ts) (tree_agrees fs t)
    tree_agrees fs (m.tuple i ts) h = trees_agree fs ts h
    tree_agrees fs (m.new_map i ps) h = pairs_agree fs ps h
    tree_agrees fs (m.updated_map i ps t) h = both (pair_targets fs ps) (targets fs t) h (pairs_agree fs ps) (tree_agrees fs t)
    tree_agrees fs (m.binary i ss) h = segments_agree fs ss h
    tree_agrees fs (m.values i ts) h = trees_agree fs ts h
    tree_agrees fs (m.chain i ss t) h = both (step_targets fs ss) (targets fs t) h (steps_agree fs ss) (tree_agrees fs t)
    tree_agrees fs (m.case i t cs) h = both (targets fs t) (clause_targets fs cs) h (tree_agrees fs t) (clauses_agree fs cs)
    tree_agrees fs (m.letrec i ds t) h =
        both (def_targets (fs ++ defined_names ds) ds) (targets (fs ++ defined_names ds) t) h (defs_agree (fs ++ defined_names ds) ds) (tree_agrees (fs ++ defined_names ds) t)
    tree_agrees fs (m.apply i t ts) h = three (targets_of (target_of fs (m.apply i t ts))) (targets fs t) (all_targets fs ts) h (λ a. a.each) (tree_agrees fs t) (trees_agree fs ts)
    tree_agrees fs (m.call i t u ts) h =
        four (targets_of (target_of fs (m.call i t u ts))) (targets fs t) (targets fs u) (all_targets fs ts) h (λ a. a.each) (tree_agrees fs t) (tree_agrees fs u) (trees_agree fs ts)
    tree_agrees fs (m.primop i x ts) h = trees_agree fs ts h
    tree_agrees fs (m.try i t xs u ys w) h = three (targets fs t) (targets fs u) (targets fs w) h (tree_agrees fs t) (tree_agrees fs u) (tree_agrees fs w)
    tree_agrees fs (m.receive i cs t u) h = three (clause_targets fs cs) (targets fs t) (targets fs u) h (clauses_agree fs cs) (tree_agrees fs t) (tree_agrees fs u)
    tree_agrees fs (m.catch i t) h = tree_agrees fs t h

    trees_agree : (fs : List FunName) (ts : m.Trees) → All (all_targets fs ts) → TreesAgree fs ts
    trees_agree fs m.no_tree h = tt
    trees_agree fs (m.and_tree t ts) h = both (targets fs t) (all_targets fs ts) h (tree_agrees fs t) (trees_agree fs ts)

    pairs_agree : (fs : List FunName) (ps : m.Pairs) → All (pair_targets fs ps) → PairsAgree fs ps
    pairs_agree fs m.no_pair h = tt
    pairs_agree fs (m.and_pair exact t u ps) h = three (targets fs t) (targets fs u) (pair_targets fs ps) h (tree_agrees fs t) (tree_agrees fs u) (pairs_agree fs ps)

    segments_agree : (fs : List FunName) (ss : m.Segments) → All (segment_targets fs ss) → SegmentsAgree fs ss
    segments_agree fs m.no_segment h = tt
    segments_agree fs (m.and_segment t ts ss) h = three (targets fs t) (all_targets fs ts) (segment_targets fs ss) h (tree_agrees fs t) (trees_agree fs ts) (segments_agree fs ss)

    steps_agree : (fs : List FunName) (ss : m.Steps) → All (step_targets fs ss) → StepsAgree fs ss
    steps_agree fs m.no_step h = tt
    steps_agree fs (m.and_let i xs t ss) h = both (targets fs t) (step_targets fs ss) h (tree_agrees fs t) (steps_agree fs ss)
    steps_agree fs (m.and_do i t ss) h = both (targets fs t) (step_targets fs ss) h (tree_agrees fs t) (steps_agree fs ss)

    clauses_agree : (fs : List FunName) (cs : m.Clauses) → All (clause_targets fs cs) → ClausesAgree fs cs
    clauses_agree fs m.no_clause h = tt
    clauses_agree fs (m.and_clause i ps g t cs) h =
        four (patterns_targets fs ps) (targets fs g) (targets fs t) (clause_targets fs cs) h (patterns_agree fs ps) (tree_agrees fs g) (tree_agrees fs t) (clauses_agree fs cs)

    pub defs_agree : (fs : List FunName) (ds : m.Defs) → All (def_targets fs ds) → DefsAgree fs ds
    defs_agree fs m.no_def h = tt
    defs_agree fs (m.and_def f i xs t ds) h = both (targets fs t) (def_targets fs ds) h (tree_agrees fs t) (defs_agree fs ds)

    pattern_agrees : (fs : List FunName) (p : m.Pattern) → All (pattern_targets fs p) → PatternAgrees fs p
    pattern_agrees fs (m.binds i x) h = tt
    pattern_agrees fs (m.equals i l) h = tt
    pattern_agrees fs (m.list_of i ps p) h = both (patterns_targets fs ps) (pattern_targets fs p) h (patterns_agree fs ps) (pattern_agrees fs p)
    pattern_agrees fs (m.tuple_of i ps) h = patterns_agree fs ps h
    pattern_agrees fs (m.map_of i ps) h = pat_pairs_agree fs ps h
    pattern_agrees fs (m.binary_of i ss) h = pat_segments_agree fs ss h
    pattern_agrees fs (m.alias i x p) h = pattern_agrees fs p h

    patterns_agree : (fs : List FunName) (ps : m.Patterns) → All (patterns_targets fs ps) → PatternsAgree fs ps
    patterns_agree fs m.no_pattern h = tt
    patterns_agree fs (m.and_pattern p ps) h = both (pattern_targets fs p) (patterns_targets fs ps) h (pattern_agrees fs p) (patterns_agree fs ps)

    pat_pairs_agree : (fs : List FunName) (ps : m.PatPairs) → All (pat_pair_targets fs ps) → PatPairsAgree fs ps
    pat_pairs_agree fs m.no_pat_pair h = tt
    pat_pairs_agree fs (m.and_pat_pair t p ps) h = three (targets fs t) (pattern_targets fs p) (pat_pair_targets fs ps) h (tree_agrees fs t) (pattern_agrees fs p) (pat_pairs_agree fs ps)

    pat_segments_agree : (fs : List FunName) (ss : m.PatSegments) → All (pat_segment_targets fs ss) → PatSegmentsAgree fs ss
    pat_segments_agree fs m.no_pat_segment h = tt
    pat_segments_agree fs (m.and_pat_segment p ts ss) h = three (pattern_targets fs p) (all_targets fs ts) (pat_segment_targets fs ss) h (pattern_agrees fs p) (trees_agree fs ts) (pat_segments_agree fs ss)

  -- ---- what an application of a name, and a call by literal names, goes to

  pub apply_target : (fs : List FunName) (n : ℕ) (o : Option FunName) → EachAgrees c d home (targets_of (applied fs n o)) → (f : FunName) → o ≡ Some f → EachAgrees c d home (targets_of (applied fs n (Some f)))
  apply_target fs n o h f e = subst (λ p. EachAgrees c d home (targets_of (applied fs n p))) e h

  pub call_target : (n : ℕ) (a b : Option Atom) → EachAgrees c d home (targets_of (called n a b)) → (x : Atom × Atom) → both_atoms a b ≡ Some x → Agrees c d home (remote x.0 (function_name x.1 n))
  call_target n None b h x e = absurd cc
  call_target n (Some a) None h x e = absurd cc
  call_target n (Some a) (Some b) h x e = subst (λ y. Agrees c d home (remote y.0 (function_name y.1 n))) (some_is e) h.0
    where
      some_is : Some (a, b) ≡ Some x → (a, b) ≡ x
      some_is e = cc
