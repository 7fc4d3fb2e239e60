-- A pattern that matches satisfies its rows: the slots get the values that its parts are matched with.
use Rattle.std.proofs.Common.{◌≡◌, ℕ, ◌+◌, ◌<◌, List, [], ◌∷◌, ◌++◌, refl, sym, ap, ap₂, ◌∙◌, subst, arith, append_assoc}
use Rattle.type_kinds.specs.declared.atom.Atom.{Atom}
use Rattle.type_lattice_model.specs.Values.{Value, Values, no_value, and_value, Env, count, cons, tuple, bits}
use Rattle.type_lattice_model.specs.Values as value
use Rattle.type_lattice.specs.Kinds.{of_kind}
use Rattle.type_lattice.specs.Types.{HasType}
use Rattle.type_lattice.specs.declared.kinds.Kind.TheVariants.{Bitstring, Map}
use Rattle.core_ast.specs.Model as m
use Rattle.core_ast.specs.Lengths.{how_many_patterns}
use Rattle.core_scope.specs.Segments.{segment_kind}
use Rattle.cons_tree.specs.Environments.{Assignment}
use Rattle.cons_tree.specs.Satisfied.{values_of}
use Rattle.core_meaning.specs.Environments.{with_variable}
use Rattle.core_meaning.specs.Matching.{Match, match_variable, match_literal, match_list, match_tuple, match_map, match_binary, match_alias, MatchEach, match_none}
use Rattle.core_meaning.specs.Matching.{match_next, MatchList, match_rest, match_head, MatchPairs, match_no_pair, match_pair, MatchSegments, match_no_segment, match_segment}
use Rattle.cons_gen_rows.specs.Slots.{slots_from}
use Rattle.cons_gen_rows.specs.Scopes.{Scope, binding, with_bindings}
use Rattle.cons_gen_rows.specs.Words.{equal, bound, list_rows, inner_cells, literal_type}
use Rattle.cons_gen_rows.specs.Patterns.{pattern_span, pattern_spans, pat_pair_spans, pat_segment_spans, pattern_slots, outer_span, pattern_bindings, patterns_bindings, pat_pairs_bindings}
use Rattle.cons_gen_rows.specs.Patterns.{pat_segments_bindings, outer_bindings, segment_rows, pattern_rows, patterns_rows, pat_pairs_rows, pat_segments_rows, outer_rows}
use Rattle.sound_laws.specs.Assignments.{Extension}
use Rattle.sound_laws.specs.Facts.{Facts}
use Rattle.sound_laws.specs.Satisfied.{SatRows}
use Rattle.sound_laws.specs.Scopes.{StandsFor}
use Rattle.sound_laws.proofs.Extensions.{and_next, mapped, wider, earlier, kept, set_one, set_all, AreUnder, under_wider, same_values, first_value, later_values}
use Rattle.sound_laws.proofs.Scopes.{stands_in, stands_with, bindings_assoc, bindings_none}
use Rattle.sound_laws.proofs.Types.{bits_in, map_in, literal_in, segment_in}
use Rattle.sound_laws.proofs.Words.{joined, linked, cells_behind, behind_count, list_satisfied}

-- ---- the elements of a list that patterns are matched with, and what follows them

abbrev pub elements_by : m.Patterns → Value → Values
elements_by m.no_pattern v = no_value
elements_by (m.and_pattern p ps) (cons h t) = and_value h (elements_by ps t)
elements_by (m.and_pattern p ps) v = no_value

abbrev pub rest_by : m.Patterns → Value → Value
rest_by m.no_pattern v = v
rest_by (m.and_pattern p ps) (cons h t) = rest_by ps t
rest_by (m.and_pattern p ps) v = v

elements_linked : {W : Value → Type 0} {ps : m.Patterns} {p : m.Pattern} {v : Value} {env to : Env} → MatchList W ps p v env to → v ≡ linked (elements_by ps v) (rest_by ps v)
elements_linked (match_rest mt) = refl
elements_linked (match_head {v = v} mt ms) = ap (cons v) (elements_linked ms)

elements_count : {W : Value → Type 0} {ps : m.Patterns} {p : m.Pattern} {v : Value} {env to : Env} → MatchList W ps p v env to → count (elements_by ps v) ≡ how_many_patterns ps
elements_count (match_rest mt) = refl
elements_count (match_head {ps = ps} {w = w} mt ms) = let same : count (elements_by ps w) ≡ how_many_patterns ps = elements_count ms in omega (arith, same)

module _ (F : Facts) (W : Value → Type 0) (home : Atom) where
  mutual
    -- a pattern at slot r, whose own slots begin at s
    pub pattern_extends : {p : m.Pattern} {v : Value} {env to : Env} (sc : Scope) (s r : ℕ) (a : Assignment) → Match W p v env to → StandsFor home s a sc env → r < s → a r ≡ v
        → Extension a s (s + pattern_span p) (λ b. SatRows (pattern_rows r s p) b × StandsFor home (s + pattern_span p) b (with_bindings sc (pattern_bindings s p)) to)
    pattern_extends sc s r a (match_variable {x = x} {v = v} {env = env}) st below e =
        mapped
        (and_next s (omega arith) (omega arith)
        (kept (λ b. (b r ≡ v) × StandsFor home s b sc env) (λ b h. (sym (h r below) ∙ e, stands_in (omega arith) h st)))
        (λ b h g. set_one b s v))
        (λ b h. ((h.0.0 ∙ sym h.1, tt), stands_with x v (omega arith) (omega arith) h.1 h.0.1))
    pattern_extends sc s r a (match_literal {c = c} {v = v} {env = env} is) st below e =
        wider (omega arith)
        (kept (λ b. SatRows (bound r (literal_type c)) b × StandsFor home (s + 0) b (with_bindings sc []) env)
        (λ b h. ((subst (λ w. HasType w (literal_type c)) (sym (sym (h r below) ∙ e)) (literal_in F c v is), tt), subst (λ z. StandsFor home (s + 0) b z env) (sym (bindings_none sc)) (stands_in (omega arith) h st))))
    pattern_extends sc s r a (match_list {ps = ps} {p = p} {v = v} {env = env} {to = to} ms) st below e =
        let es = elements_by ps v in
        let w = rest_by ps v in
        let inner = inner_cells (how_many_patterns ps) in
        let first = s + inner in
        let rest = first + pattern_spans ps in
        let many : count (cells_behind es w) ≡ inner = behind_count es w ∙ ap inner_cells (elements_count ms) in
        mapped
        (wider {n = rest + 1 + pattern_span p} (omega arith)
        (and_next s (omega arith) (omega arith)
        (kept (λ b. b r ≡ linked es w) (λ b h. sym (h r below) ∙ e ∙ elements_linked ms))
        (λ b h g. and_next first (omega arith) (omega arith)
        (subst (λ i. Extension b s (s + i) (λ z. values_of z (slots_from s (count (cells_behind es w))) ≡ cells_behind es w)) many (set_all (cells_behind es w) s b))
        (λ b1 h1 g1. list_extends sc first rest b1 ms (stands_in (omega arith) h1 (stands_in (omega arith) h st)) refl))))
        (λ b h. (
          joined _ (list_rows r s (pattern_slots first ps) rest) b
              (joined (patterns_rows first ps) (pattern_rows rest (rest + 1) p) b h.1.1.0 h.1.1.1.0)
              (list_satisfied (pattern_slots first ps) es w r s rest b h.1.1.1.1.1.0 h.1.1.1.1.1.1 h.0 h.1.0),
          stands_in (omega arith) (λ i j. refl) h.1.1.1.1.0,
        ))
    pattern_extends sc s r a (match_tuple {ps = ps} {vs = vs} ms) st below e =
        mapped
        (and_next s (omega arith) (omega arith)
        (kept (λ b. b r ≡ tuple vs) (λ b h. sym (h r below) ∙ e))
        (λ b h g. patterns_extends sc s b ms (stands_in (omega arith) h st)))
        (λ b h. (joined (patterns_rows s ps) _ b h.1.0 (h.0 ∙ ap tuple (sym h.1.1.1), tt), h.1.1.0))
    pattern_extends sc s r a (match_map {ps = ps} {qs = qs} ms) st below e =
        mapped
        (and_next s (omega arith) (omega arith)
        (kept (λ b. SatRows (bound r (of_kind Map)) b) (λ b h. (subst (λ z. HasType z (of_kind Map)) (sym (sym (h r below) ∙ e)) (map_in F qs), tt)))
        (λ b h g. pairs_extends sc s b ms (stands_in (omega arith) h st)))
        (λ b h. (joined (bound r (of_kind Map)) (pat_pairs_rows s ps) b h.0 h.1.0, h.1.1))
    pattern_extends sc s r a (match_binary {ss = ss} {bs = bs} ms) st below e =
        mapped
        (and_next s (omega arith) (omega arith)
        (kept (λ b. SatRows (bound r (of_kind Bitstring)) b) (λ b h. (subst (λ z. HasType z (of_kind Bitstring)) (sym (sym (h r below) ∙ e)) (bits_in F (bits bs) (bs, refl)), tt)))
        (λ b h g. segments_extends sc s b ms (stands_in (omega arith) h st)))
        (λ b h. (joined (bound r (of_kind Bitstring)) (pat_segments_rows s ss) b h.0 h.1.0, h.1.1))
    pattern_extends sc s r a (match_alias {x = x} {p = p} {v = v} {env = env} {to = to} mt) st below e =
        mapped
        (wider {n = s + 1 + pattern_span p} (omega arith)
        (and_next (s + 1) {P = λ b. SatRows (equal r s) b × (StandsFor home (s + 1) b (with_bindings sc (binding x.name s)) (with_variable x.name v env) × (b r ≡ v))} (omega arith) (omega arith)
        (mapped
        (and_next s (omega arith) (omega arith)
        (kept (λ b. (b r ≡ v) × StandsFor home s b sc env) (λ b h. (sym (h r below) ∙ e, stands_in (omega arith) h st)))
        (λ b h g. set_one b s v))
        (λ b h. ((h.0.0 ∙ sym h.1, tt), (stands_with x.name v (omega arith) (omega arith) h.1 h.0.1, h.0.0))))
        (λ b h g. pattern_extends (with_bindings sc (binding x.name s)) (s + 1) r b mt g.1.0 (omega (arith, below)) g.1.1)))
        (λ b h. (
          joined (equal r s) (pattern_rows r (s + 1) p) b h.0.0 h.1.0,
          subst (λ z. StandsFor home (s + (1 + pattern_span p)) b z to) (bindings_assoc sc (binding x.name s) (pattern_bindings (s + 1) p)) (stands_in (omega arith) (λ i g. refl) h.1.1),
        ))

    -- patterns that each have a slot of their own
    pub patterns_extends : {ps : m.Patterns} {vs : Values} {env to : Env} (sc : Scope) (s : ℕ) (a : Assignment) → MatchEach W ps vs env to → StandsFor home s a sc env
        → Extension a s (s + pattern_spans ps) (λ b. SatRows (patterns_rows s ps) b × (StandsFor home (s + pattern_spans ps) b (with_bindings sc (patterns_bindings s ps)) to × (values_of b (pattern_slots s ps) ≡ vs)))
    patterns_extends sc s a (match_none {env = env}) st =
        wider (omega arith)
        (kept (λ b. Unit {0} × (StandsFor home (s + 0) b (with_bindings sc []) env × (◌≡◌ {A = Values} no_value no_value)))
        (λ b h. (tt, (subst (λ z. StandsFor home (s + 0) b z env) (sym (bindings_none sc)) (stands_in (omega arith) h st), refl))))
    patterns_extends sc s a (match_next {p = p} {ps = ps} {v = v} {to = to} mt ms) st =
        mapped
        (wider {n = s + 1 + pattern_span p + pattern_spans ps} (omega arith)
        (and_next (s + 1) (omega arith) (omega arith)
        (set_one a s v)
        (λ b h e. and_next (s + 1 + pattern_span p) (omega arith) (omega arith)
        (pattern_extends sc (s + 1) s b mt (stands_in (omega arith) h st) (omega arith) e)
        (λ c i g. patterns_extends (with_bindings sc (pattern_bindings (s + 1) p)) (s + 1 + pattern_span p) c ms g.1))))
        (λ b h. (
          joined (pattern_rows s (s + 1) p) (patterns_rows (s + 1 + pattern_span p) ps) b h.1.0.0 h.1.1.0,
          (
            subst (λ z. StandsFor home (s + (1 + pattern_span p + pattern_spans ps)) b z to) (bindings_assoc sc (pattern_bindings (s + 1) p) (patterns_bindings (s + 1 + pattern_span p) ps))
                (stands_in (omega arith) (λ i g. refl) h.1.1.1.0),
            ap₂ and_value h.0 h.1.1.1.1,
          ),
        ))

    -- the elements of a list, each with a slot of its own, and then what follows them, at the slot `rest`
    list_extends : {ps : m.Patterns} {p : m.Pattern} {v : Value} {env to : Env} (sc : Scope) (s rest : ℕ) (a : Assignment) → MatchList W ps p v env to → StandsFor home s a sc env → rest ≡ s + pattern_spans ps
        → Extension a s (rest + 1 + pattern_span p) (λ b. SatRows (patterns_rows s ps) b
        × (SatRows (pattern_rows rest (rest + 1) p) b × (StandsFor home (rest + 1 + pattern_span p) b (with_bindings sc (patterns_bindings s ps ++ pattern_bindings (rest + 1) p)) to
        × ((values_of b (pattern_slots s ps) ≡ elements_by ps v) × (b rest ≡ rest_by ps v)))))
    list_extends sc s rest a (match_rest {p = p} {v = v} mt) st e =
        mapped
        (earlier {k = rest} (omega (arith, e))
        (and_next (rest + 1) (omega arith) (omega arith)
        (set_one a rest v)
        (λ b h g. pattern_extends sc (rest + 1) rest b mt (stands_in (omega (arith, e)) h (stands_in (omega (arith, e)) (λ i j. refl) st)) (omega arith) g)))
        (λ b h. (tt, (h.1.0, (h.1.1, (refl, h.0)))))
    list_extends sc s rest a (match_head {p = p} {q = q} {ps = ps} {v = v} {w = w} {to = to} mt ms) st e =
        let after = s + 1 + pattern_span p in
        mapped
        (and_next (s + 1) (omega arith) (omega (arith, e))
        (set_one a s v)
        (λ b h g. and_next after (omega arith) (omega (arith, e))
        (pattern_extends sc (s + 1) s b mt (stands_in (omega arith) h st) (omega arith) g)
        (λ c i k. list_extends (with_bindings sc (pattern_bindings (s + 1) p)) after rest c ms k.1 (omega (arith, e)))))
        (λ b h. (
          joined (pattern_rows s (s + 1) p) (patterns_rows after ps) b h.1.0.0 h.1.1.0,
          (
            h.1.1.1.0,
            (
              subst (λ z. StandsFor home (rest + 1 + pattern_span q) b z to)
                  (bindings_assoc sc (pattern_bindings (s + 1) p) (patterns_bindings after ps ++ pattern_bindings (rest + 1) q)
                  ∙ ap (with_bindings sc) (sym (append_assoc (pattern_bindings (s + 1) p) (patterns_bindings after ps) (pattern_bindings (rest + 1) q))))
                  h.1.1.1.1.0,
              (ap₂ and_value h.0 h.1.1.1.1.1.0, h.1.1.1.1.1.1),
            ),
          ),
        ))

    pairs_extends : {ps : m.PatPairs} {qs : value.ValuePairs} {env to : Env} (sc : Scope) (s : ℕ) (a : Assignment) → MatchPairs W ps qs env to → StandsFor home s a sc env
        → Extension a s (s + pat_pair_spans ps) (λ b. SatRows (pat_pairs_rows s ps) b × StandsFor home (s + pat_pair_spans ps) b (with_bindings sc (pat_pairs_bindings s ps)) to)
    pairs_extends sc s a (match_no_pair {env = env}) st =
        wider (omega arith)
        (kept (λ b. Unit {0} × StandsFor home (s + 0) b (with_bindings sc []) env)
        (λ b h. (tt, subst (λ z. StandsFor home (s + 0) b z env) (sym (bindings_none sc)) (stands_in (omega arith) h st))))
    pairs_extends sc s a (match_pair {p = p} {ps = ps} key {v = v} {to = to} has mt ms) st =
        mapped
        (wider {n = s + 1 + pattern_span p + pat_pair_spans ps} (omega arith)
        (and_next (s + 1) (omega arith) (omega arith)
        (set_one a s v)
        (λ b h e. and_next (s + 1 + pattern_span p) (omega arith) (omega arith)
        (pattern_extends sc (s + 1) s b mt (stands_in (omega arith) h st) (omega arith) e)
        (λ c i g. pairs_extends (with_bindings sc (pattern_bindings (s + 1) p)) (s + 1 + pattern_span p) c ms g.1))))
        (λ b h. (
          joined (pattern_rows s (s + 1) p) (pat_pairs_rows (s + 1 + pattern_span p) ps) b h.1.0.0 h.1.1.0,
          subst (λ z. StandsFor home (s + (1 + pattern_span p + pat_pair_spans ps)) b z to) (bindings_assoc sc (pattern_bindings (s + 1) p) (pat_pairs_bindings (s + 1 + pattern_span p) ps)) (stands_in (omega arith) (λ i g. refl) h.1.1.1),
        ))

    segments_extends : {ss : m.PatSegments} {env to : Env} (sc : Scope) (s : ℕ) (a : Assignment) → MatchSegments W ss env to → StandsFor home s a sc env
        → Extension a s (s + pat_segment_spans ss) (λ b. SatRows (pat_segments_rows s ss) b × StandsFor home (s + pat_segment_spans ss) b (with_bindings sc (pat_segments_bindings s ss)) to)
    segments_extends sc s a (match_no_segment {env = env}) st =
        wider (omega arith)
        (kept (λ b. Unit {0} × StandsFor home (s + 0) b (with_bindings sc []) env)
        (λ b h. (tt, subst (λ z. StandsFor home (s + 0) b z env) (sym (bindings_none sc)) (stands_in (omega arith) h st))))
    segments_extends sc s a (match_segment {p = p} {ts = ts} {ss = ss} {v = v} {to = to} from is mt ms) st =
        mapped
        (wider {n = s + 1 + pattern_span p + pat_segment_spans ss} (omega arith)
        (and_next (s + 1) (omega arith) (omega arith)
        (set_one a s v)
        (λ b h e. and_next (s + 1 + pattern_span p) (omega arith) (omega arith)
        (pattern_extends sc (s + 1) s b mt (stands_in (omega arith) h st) (omega arith) e)
        (λ c i g. segments_extends (with_bindings sc (pattern_bindings (s + 1) p)) (s + 1 + pattern_span p) c ms g.1))))
        (λ b h. (
          joined _ (pat_segments_rows (s + 1 + pattern_span p) ss) b (joined (segment_rows s (segment_kind ts)) (pattern_rows s (s + 1) p) b (segment_in F s (segment_kind ts) b v h.0 is) h.1.0.0) h.1.1.0,
          subst (λ z. StandsFor home (s + (1 + pattern_span p + pat_segment_spans ss)) b z to) (bindings_assoc sc (pattern_bindings (s + 1) p) (pat_segments_bindings (s + 1 + pattern_span p) ss))
              (stands_in (omega arith) (λ i g. refl) h.1.1.1),
        ))

  -- the outermost patterns of a clause, at the slots of what they are matched with
  pub outer_extends : {ps : m.Patterns} {vs : Values} {env to : Env} (sc : Scope) (qs : List ℕ) (s : ℕ) (a : Assignment) → MatchEach W ps vs env to → StandsFor home s a sc env → AreUnder s qs → values_of a qs ≡ vs
      → Extension a s (s + outer_span ps) (λ b. SatRows (outer_rows qs s ps) b × StandsFor home (s + outer_span ps) b (with_bindings sc (outer_bindings s ps)) to)
  outer_extends sc qs s a (match_none {env = env}) st under e =
      wider (omega arith)
      (kept (λ b. Unit {0} × StandsFor home (s + 0) b (with_bindings sc []) env)
      (λ b h. (tt, subst (λ z. StandsFor home (s + 0) b z env) (sym (bindings_none sc)) (stands_in (omega arith) h st))))
  outer_extends sc [] s a (match_next mt ms) st under e = absurd (no_first e)
    where
      no_first : {v : Value} {vs : Values} → ◌≡◌ {A = Values} no_value (and_value v vs) → ⊥
      no_first e = cc
  outer_extends sc (q ∷ qs) s a (match_next {p = p} {ps = ps} {to = to} mt ms) st under e =
      mapped
      (wider {n = s + pattern_span p + outer_span ps} (omega arith)
      (and_next (s + pattern_span p) (omega arith) (omega arith)
      (pattern_extends sc s q a mt st under.0 (first_value e))
      (λ b h g. outer_extends (with_bindings sc (pattern_bindings s p)) qs (s + pattern_span p) b ms g.1 (under_wider s (s + pattern_span p) qs (omega arith) under.1) (sym (same_values s qs a b under.1 h) ∙ later_values e))))
      (λ b h. (
        joined (pattern_rows q s p) (outer_rows qs (s + pattern_span p) ps) b h.0.0 h.1.0,
        subst (λ z. StandsFor home (s + (pattern_span p + outer_span ps)) b z to) (bindings_assoc sc (pattern_bindings s p) (outer_bindings (s + pattern_span p) ps)) (stands_in (omega arith) (λ i g. refl) h.1.1),
      ))
