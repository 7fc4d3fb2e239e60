-- The loops over patterns: what each round keeps.
use Rattle.std.proofs.Common.{◌≡◌, ℕ, zero, suc, ◌+◌, ◌<◌, List, [], ◌∷◌, ◌++◌, length, drop, get_or, refl, sym, ap, ◌∙◌, subst, append_assoc, arith}
use Rattle.std.proofs.lemmas.List.{append-nil}
use Rattle.core_ast.specs.declared.syntax.Pattern.{Pattern}
use Rattle.core_ast.specs.declared.syntax.PatPair.{PatPair}
use Rattle.core_ast.specs.declared.syntax.PatSegment.{PatSegment, out-PatSegment}
use Rattle.core_ast.specs.Model as m
use Rattle.core_ast.specs.Tree.{pattern_tree, all_patterns, all_pat_pairs, all_pat_segments, all_trees, pat_pair_parts, pat_segment_parts}
use Rattle.core_ast.proofs.Items.{all_patterns-next, all_pat_pairs-next, all_pat_segments-next}
use Rattle.core_ast.proofs.Trees.{pat_pair-is}
use Rattle.cons_gen_rows.specs.Patterns.{outer_bindings, outer_rows, outer_span, pattern_bindings, pattern_rows, pattern_slots, pattern_span, pattern_spans, patterns_bindings}
use Rattle.cons_gen_rows.specs.Patterns.{patterns_rows, pat_pair_spans, pat_pairs_bindings, pat_pairs_rows, pat_segment_spans, pat_segments_bindings, pat_segments_rows}
use Rattle.cons_gen_rows.specs.Scopes.{Binding}
use Rattle.cons_gen_rows.specs.Walking.{Binds, BindsRest}
use Rattle.cons_gen_rows.specs.Words.{Rows}
use Rattle.cons_gen_rows.specs.declared.generator.Generator.{Generator}
use Rattle.cons_gen_rows.proofs.Adding.{bind_round}
use Rattle.cons_gen_rows.proofs.PatternExits.{segment_opened}

-- the first of patterns
pub opened : (ps : List Pattern) (i : ℕ) (x : Pattern) → i < length ps → x ≡ get_or ps i x → all_patterns (drop i ps) ≡ m.and_pattern (pattern_tree x) (all_patterns (drop (i + 1) ps))
opened ps i x within is = all_patterns-next ps i x within ∙ ap (λ z. m.and_pattern (pattern_tree z) (all_patterns (drop (i + 1) ps))) (sym is)

module _ (first b c : Generator) (all : ℕ) (rows : Rows) (bound : List Binding) where
  pub each_round : (ps : List Pattern) (i : ℕ) (x : Pattern) → i < length ps → x ≡ get_or ps i x
      → Binds b c (1 + pattern_span (pattern_tree x)) (pattern_rows b.next (b.next + 1) (pattern_tree x)) (pattern_bindings (b.next + 1) (pattern_tree x))
      → BindsRest first b (pattern_spans (all_patterns (drop i ps))) all (patterns_rows b.next (all_patterns (drop i ps))) rows (patterns_bindings b.next (all_patterns (drop i ps))) bound
      → BindsRest first c (pattern_spans (all_patterns (drop (i + 1) ps))) all (patterns_rows c.next (all_patterns (drop (i + 1) ps))) rows (patterns_bindings c.next (all_patterns (drop (i + 1) ps))) bound
  each_round ps i x within is one before =
      let t : m.Pattern = pattern_tree x in
      let rest : m.Patterns = all_patterns (drop (i + 1) ps) in
      let open_here = opened ps i x within is in
      let at : b.next + 1 + pattern_span t ≡ b.next + (1 + pattern_span t) = omega arith in
      bind_round first b c (pattern_spans (all_patterns (drop i ps))) (pattern_spans rest) (1 + pattern_span t) all (patterns_rows b.next (all_patterns (drop i ps))) (pattern_rows b.next (b.next + 1) t) rows
      (patterns_bindings b.next (all_patterns (drop i ps))) (pattern_bindings (b.next + 1) t) bound (λ sc k. patterns_rows k rest) (λ k. patterns_bindings k rest) before one
      (ap pattern_spans open_here)
      (ap (patterns_rows b.next) open_here ∙ ap (λ k. pattern_rows b.next (b.next + 1) t ++ patterns_rows k rest) at)
      (ap (patterns_bindings b.next) open_here ∙ ap (λ k. pattern_bindings (b.next + 1) t ++ patterns_bindings k rest) at)

  pub pairs_round : (ps : List PatPair) (i : ℕ) (x : PatPair) → i < length ps → x ≡ get_or ps i x
      → Binds b c (1 + pattern_span (pattern_tree x.value)) (pattern_rows b.next (b.next + 1) (pattern_tree x.value)) (pattern_bindings (b.next + 1) (pattern_tree x.value))
      → BindsRest first b (pat_pair_spans (all_pat_pairs (drop i ps))) all (pat_pairs_rows b.next (all_pat_pairs (drop i ps))) rows (pat_pairs_bindings b.next (all_pat_pairs (drop i ps))) bound
      → BindsRest first c (pat_pair_spans (all_pat_pairs (drop (i + 1) ps))) all (pat_pairs_rows c.next (all_pat_pairs (drop (i + 1) ps))) rows (pat_pairs_bindings c.next (all_pat_pairs (drop (i + 1) ps))) bound
  pairs_round ps i x within is one before =
      let t : m.Pattern = pattern_tree x.value in
      let rest : m.PatPairs = all_pat_pairs (drop (i + 1) ps) in
      let open_here = all_pat_pairs-next ps i x within ∙ ap (λ z. let y = pat_pair_parts z in m.and_pat_pair y.key y.value rest) (sym is) ∙ ap (λ y. m.and_pat_pair y.key y.value rest) (pat_pair-is x) in
      let at : b.next + 1 + pattern_span t ≡ b.next + (1 + pattern_span t) = omega arith in
      bind_round first b c (pat_pair_spans (all_pat_pairs (drop i ps))) (pat_pair_spans rest) (1 + pattern_span t) all (pat_pairs_rows b.next (all_pat_pairs (drop i ps))) (pattern_rows b.next (b.next + 1) t) rows
      (pat_pairs_bindings b.next (all_pat_pairs (drop i ps))) (pattern_bindings (b.next + 1) t) bound (λ sc k. pat_pairs_rows k rest) (λ k. pat_pairs_bindings k rest) before one
      (ap pat_pair_spans open_here)
      (ap (pat_pairs_rows b.next) open_here ∙ ap (λ k. pattern_rows b.next (b.next + 1) t ++ pat_pairs_rows k rest) at)
      (ap (pat_pairs_bindings b.next) open_here ∙ ap (λ k. pattern_bindings (b.next + 1) t ++ pat_pairs_bindings k rest) at)

  pub segments_round : (ss : List PatSegment) (i : ℕ) (x : PatSegment) → i < length ss → x ≡ get_or ss i x
      → Binds b c (pat_segment_spans (all_pat_segments (x ∷ []))) (pat_segments_rows b.next (all_pat_segments (x ∷ []))) (pat_segments_bindings b.next (all_pat_segments (x ∷ [])))
      → BindsRest first b (pat_segment_spans (all_pat_segments (drop i ss))) all (pat_segments_rows b.next (all_pat_segments (drop i ss))) rows (pat_segments_bindings b.next (all_pat_segments (drop i ss))) bound
      → BindsRest first c (pat_segment_spans (all_pat_segments (drop (i + 1) ss))) all (pat_segments_rows c.next (all_pat_segments (drop (i + 1) ss))) rows (pat_segments_bindings c.next (all_pat_segments (drop (i + 1) ss))) bound
  segments_round ss i x within is one before =
      let t : m.Pattern = pattern_tree (out-PatSegment x).value in
      let ts : m.Trees = all_trees (out-PatSegment x).args in
      let rest : m.PatSegments = all_pat_segments (drop (i + 1) ss) in
      let alone : m.PatSegments = m.and_pat_segment t ts m.no_pat_segment in
      let open_here = all_pat_segments-next ss i x within ∙ ap (λ z. let y = pat_segment_parts z in m.and_pat_segment y.value y.args rest) (sym is) ∙ segment_opened x rest in
      let at : b.next + 1 + pattern_span t ≡ b.next + pat_segment_spans alone = omega arith in
      bind_round first b c (pat_segment_spans (all_pat_segments (drop i ss))) (pat_segment_spans rest) (pat_segment_spans alone) all (pat_segments_rows b.next (all_pat_segments (drop i ss))) (pat_segments_rows b.next alone) rows
      (pat_segments_bindings b.next (all_pat_segments (drop i ss))) (pat_segments_bindings b.next alone) bound (λ sc k. pat_segments_rows k rest) (λ k. pat_segments_bindings k rest) before
      (subst (λ z. Binds b c (pat_segment_spans z) (pat_segments_rows b.next z) (pat_segments_bindings b.next z)) (segment_opened x m.no_pat_segment) one)
      (ap pat_segment_spans open_here ∙ (let e : 1 + pattern_span t + pat_segment_spans rest ≡ pat_segment_spans alone + pat_segment_spans rest = omega arith in e))
      (ap (pat_segments_rows b.next) open_here ∙ ap (λ l. l ++ pat_segments_rows (b.next + 1 + pattern_span t) rest) (sym (append-nil _)) ∙ ap (λ k. pat_segments_rows b.next alone ++ pat_segments_rows k rest) at)
      (ap (pat_segments_bindings b.next) open_here ∙ ap (λ l. l ++ pat_segments_bindings (b.next + 1 + pattern_span t) rest) (sym (append-nil _)) ∙ ap (λ k. pat_segments_bindings b.next alone ++ pat_segments_bindings k rest) at)

-- the slots of patterns so far
pub slots_round : (b c : Generator) (ss whole : List ℕ) (s : ℕ) (ps : List Pattern) (i : ℕ) (x : Pattern) → i < length ps → x ≡ get_or ps i x → s ≡ b.next → c.next ≡ b.next + (1 + pattern_span (pattern_tree x))
    → ss ++ pattern_slots b.next (all_patterns (drop i ps)) ≡ whole
    → (ss ++ s ∷ []) ++ pattern_slots c.next (all_patterns (drop (i + 1) ps)) ≡ whole
slots_round b c ss whole s ps i x within is slot next before =
    let rest : m.Patterns = all_patterns (drop (i + 1) ps) in
    let at : c.next ≡ b.next + 1 + pattern_span (pattern_tree x) = next ∙ (let e : b.next + (1 + pattern_span (pattern_tree x)) ≡ b.next + 1 + pattern_span (pattern_tree x) = omega arith in e) in
    append_assoc ss (s ∷ []) (pattern_slots c.next rest) ∙ ap (λ z. ss ++ z ∷ pattern_slots c.next rest) slot ∙ ap (λ k. ss ++ b.next ∷ pattern_slots k rest) at
    ∙ ap (λ l. ss ++ l) (sym (ap (pattern_slots b.next) (opened ps i x within is))) ∙ before

-- the outermost patterns of a clause
pub outer_round : (first b c : Generator) (all : ℕ) (rows : Rows) (bound : List Binding) (qs : List ℕ) (ps : List Pattern) (i : ℕ) (x : Pattern) → i < length ps → x ≡ get_or ps i x
    → Binds b c (outer_span (all_patterns (x ∷ []))) (outer_rows (drop i qs) b.next (all_patterns (x ∷ []))) (outer_bindings b.next (all_patterns (x ∷ [])))
    → BindsRest first b (outer_span (all_patterns (drop i ps))) all (outer_rows (drop i qs) b.next (all_patterns (drop i ps))) rows (outer_bindings b.next (all_patterns (drop i ps))) bound
    → BindsRest first c (outer_span (all_patterns (drop (i + 1) ps))) all (outer_rows (drop (i + 1) qs) c.next (all_patterns (drop (i + 1) ps))) rows (outer_bindings c.next (all_patterns (drop (i + 1) ps))) bound
outer_round first b c all rows bound qs ps i x within is one before =
    let t : m.Pattern = pattern_tree x in
    let alone : m.Patterns = m.and_pattern t m.no_pattern in
    let rest : m.Patterns = all_patterns (drop (i + 1) ps) in
    let open_here = opened ps i x within is in
    let at : b.next + pattern_span t ≡ b.next + outer_span alone = omega arith in
    bind_round first b c (outer_span (all_patterns (drop i ps))) (outer_span rest) (outer_span alone) all (outer_rows (drop i qs) b.next (all_patterns (drop i ps))) (outer_rows (drop i qs) b.next alone) rows
    (outer_bindings b.next (all_patterns (drop i ps))) (outer_bindings b.next alone) bound (λ sc k. outer_rows (drop (i + 1) qs) k rest) (λ k. outer_bindings k rest) before one
    (ap outer_span open_here ∙ (let e : pattern_span t + outer_span rest ≡ outer_span alone + outer_span rest = omega arith in e))
    (ap (outer_rows (drop i qs) b.next) open_here ∙ rows_next (drop i qs) (drop (i + 1) qs) (rest_of qs i) b.next t rest ∙ ap (λ k. outer_rows (drop i qs) b.next alone ++ outer_rows (drop (i + 1) qs) k rest) at)
    (ap (outer_bindings b.next) open_here ∙ ap (λ l. l ++ outer_bindings (b.next + pattern_span t) rest) (sym (append-nil (pattern_bindings b.next t))) ∙ ap (λ k. outer_bindings b.next alone ++ outer_bindings k rest) at)
  where
    tail_of : List ℕ → List ℕ
    tail_of [] = []
    tail_of (y ∷ ys) = ys

    rest_of : (ys : List ℕ) (n : ℕ) → drop (n + 1) ys ≡ tail_of (drop n ys)
    rest_of ys n = ap (λ k. drop k ys) (let e : n + 1 ≡ suc n = omega arith in e) ∙ by ys n
      where
        by : (ys : List ℕ) (n : ℕ) → drop (suc n) ys ≡ tail_of (drop n ys)
        by [] zero = refl
        by [] (suc n) = refl
        by (y ∷ ys) zero = refl
        by (y ∷ ys) (suc n) = by ys n

    no_rows : (s : ℕ) (ts : m.Patterns) → outer_rows [] s ts ≡ []
    no_rows s m.no_pattern = refl
    no_rows s (m.and_pattern u ts) = refl

    rows_next : (ys zs : List ℕ) → zs ≡ tail_of ys → (s : ℕ) (t : m.Pattern) (ts : m.Patterns) → outer_rows ys s (m.and_pattern t ts) ≡ outer_rows ys s (m.and_pattern t m.no_pattern) ++ outer_rows zs (s + pattern_span t) ts
    rows_next [] zs e s t ts = sym (no_rows (s + pattern_span t) ts) ∙ ap (λ z. outer_rows z (s + pattern_span t) ts) (sym e)
    rows_next (y ∷ ys) zs e s t ts = ap (λ l. l ++ outer_rows ys (s + pattern_span t) ts) (sym (append-nil (pattern_rows y s t))) ∙ ap (λ z. (pattern_rows y s t ++ []) ++ outer_rows z (s + pattern_span t) ts) (sym e)
