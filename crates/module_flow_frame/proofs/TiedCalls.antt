-- Each unknown function is tied to a call of the module's text that names it; so all findings, and their lines, are tied.
use Rattle.std.proofs.Common.{inl, inr, ℕ, Bool, true, false, cond, ◌&&◌, not, List, [], ◌∷◌, ◌++◌, Option, Some, None, Contains, refl, sym, subst}
use Rattle.std.proofs.lemmas.List.Elements.{Contains-append_cases}
use Rattle.std.proofs.lemmas.List.Sorted.{Contains-permutation, IsPermutation-sym}
use Rattle.type_kinds.proofs.Lists.{contains_none, contains_first, contains_later, contains_cases}
use Rattle.type_kinds.specs.declared.atom.Atom.{Atom}
use Rattle.core_ast.specs.declared.syntax.Mark.{Mark}
use Rattle.core_ast.specs.declared.syntax.Note.{Note}
use Rattle.core_ast.specs.Model as m
use Rattle.core_ast.specs.Lengths.{how_many}
use Rattle.core_scope.specs.Asks.{erlang, function_name}
use Rattle.core_scope.specs.Names.{same_atom}
use Rattle.cons_gen_rows.specs.Counts.{call_names}
use Rattle.warn_list.specs.declared.finding.FindingKind.TheVariants.{UnknownFunction}
use Rattle.warn_list.specs.Lines.{AreLines}
use Rattle.module_flow_calls.specs.NodeContext.{at_node}
use Rattle.module_flow_calls.specs.Unknown.{Naming, naming, namings, all_namings, pair_namings, segment_namings, step_namings, clause_namings, def_namings}
use Rattle.module_flow_calls.specs.Unknown.{pattern_namings, patterns_namings, pat_pair_namings, pat_segment_namings, is_unknown, is_named, found_first}
use Rattle.module_flow_state.specs.Scopes.{outermost}
use Rattle.module_flow.specs.Flow.{Callees, world, last_state, findings}
use Rattle.module_flow_frame.specs.Sites.{call, Site, is_generated, call_site, through, sites, sites_of_all, sites_of_pairs, sites_of_segments, sites_of_steps, sites_of_clauses, sites_of_defs}
use Rattle.module_flow_frame.specs.Sites.{sites_of_pattern, sites_of_patterns, sites_of_pat_pairs, sites_of_pat_segments, definition_sites, sites_of_module, AreTied, AreTiedLines}
use Rattle.module_flow_frame.proofs.Tied.{context_of, through_steps, Holds, after_first, in_left, in_right, within, none_tied, joined, tied_at, if_so, functions_tied, definitions_tied}

-- what is found at each of the calls is tied
record AreNamed (text : List Site) (cs : List Naming) : Type 0 where
  each : (c : Naming) → Contains cs c → AreTied text c.found

named_within : {a b : List Site} {cs : List Naming} → Holds a b → AreNamed b cs → AreNamed a cs
named_within up x = record { each = λ c h. within up (x.each c h) }

none_named : (a : List Site) → AreNamed a []
none_named a = record { each = λ c h. absurd (contains_none c h) }

in_both : {a b : List Site} {cs ds : List Naming} → AreNamed a cs → AreNamed b ds → AreNamed (a ++ b) (cs ++ ds)
in_both {a} {b} {cs} {ds} x y = record {
  each = λ c h. elim (Contains-append_cases cs ds c h) [
    | inl k ↦ within (in_left a b) (x.each c k)
    | inr k ↦ within (in_right a b) (y.each c k)
  ];
}

named_after : (s : Site) {a : List Site} {cs : List Naming} → AreNamed a cs → AreNamed (s ∷ a) cs
named_after s {a} x = named_within (after_first s a) x

-- a call by literal names
naming_tied : (ns : List Note) (i : Mark) (o : Option (Atom × Atom)) (n : ℕ) → AreNamed (call_site ns i o n) (naming (context_of ns) i o n)
naming_tied ns i None n = none_named []
naming_tied ns i (Some names) n = by (is_generated ns)
  where
    text : List Site
    text = call_site ns i (Some names) n

    one : Naming
    one = record { home = names.0; name = function_name names.1 n; found = at_node (context_of ns) i (UnknownFunction names.0 (function_name names.1 n)) }

    tied : AreTied text one.found
    tied = tied_at ns i (UnknownFunction names.0 (function_name names.1 n)) (call names.0 (function_name names.1 n)) refl

    by : (b : Bool) → AreNamed text (cond b [] (one ∷ []))
    by true = none_named text
    by false = record {
      each = λ c h. elim (contains_cases one c [] h) [ inl e ↦ subst (λ x. AreTied text x.found) e tied | inr k ↦ absurd (contains_none c k) ];
    }

mutual
  named : (ns : List Note) (t : m.Tree) → AreNamed (sites ns t) (namings (context_of ns) t)
  named ns (m.variable i x) = none_named []
  named ns (m.local i f) = none_named []
  named ns (m.external i x f) = none_named []
  named ns (m.literal i l) = none_named []
  named ns (m.function i xs t) = named (i.note ∷ ns) t
  named ns (m.listed i ts t) = in_both (all_named (i.note ∷ ns) ts) (named (i.note ∷ ns) t)
  named ns (m.tuple i ts) = all_named (i.note ∷ ns) ts
  named ns (m.new_map i ps) = pairs_named (i.note ∷ ns) ps
  named ns (m.updated_map i ps t) = in_both (pairs_named (i.note ∷ ns) ps) (named (i.note ∷ ns) t)
  named ns (m.binary i ss) = segments_named (i.note ∷ ns) ss
  named ns (m.values i ts) = all_named (i.note ∷ ns) ts
  named ns (m.chain i ss t) =
      in_both (steps_named (i.note ∷ ns) ss) (subst (λ a. AreNamed (sites (through (i.note ∷ ns) ss) t) (namings a t)) (sym (through_steps (i.note ∷ ns) ss)) (named (through (i.note ∷ ns) ss) t))
  named ns (m.case i t cs) = in_both (named (i.note ∷ ns) t) (clauses_named (i.note ∷ ns) cs)
  named ns (m.letrec i ds t) = in_both (defs_named (i.note ∷ ns) ds) (named (i.note ∷ ns) t)
  named ns (m.apply i t ts) = named_after _ (in_both (named (i.note ∷ ns) t) (all_named (i.note ∷ ns) ts))
  named ns (m.call i t u ts) = in_both (in_both (in_both (naming_tied (i.note ∷ ns) i (call_names t u) (how_many ts)) (named (i.note ∷ ns) t)) (named (i.note ∷ ns) u)) (all_named (i.note ∷ ns) ts)
  named ns (m.primop i x ts) = all_named (i.note ∷ ns) ts
  named ns (m.try i t xs u ys w) = in_both (in_both (named (i.note ∷ ns) t) (named (i.note ∷ ns) u)) (named (i.note ∷ ns) w)
  named ns (m.receive i cs t u) = in_both (in_both (clauses_named (i.note ∷ ns) cs) (named (i.note ∷ ns) t)) (named (i.note ∷ ns) u)
  named ns (m.catch i t) = named (i.note ∷ ns) t

  all_named : (ns : List Note) (ts : m.Trees) → AreNamed (sites_of_all ns ts) (all_namings (context_of ns) ts)
  all_named ns m.no_tree = none_named []
  all_named ns (m.and_tree t ts) = in_both (named ns t) (all_named ns ts)

  pairs_named : (ns : List Note) (ps : m.Pairs) → AreNamed (sites_of_pairs ns ps) (pair_namings (context_of ns) ps)
  pairs_named ns m.no_pair = none_named []
  pairs_named ns (m.and_pair exact t u ps) = in_both (in_both (named ns t) (named ns u)) (pairs_named ns ps)

  segments_named : (ns : List Note) (ss : m.Segments) → AreNamed (sites_of_segments ns ss) (segment_namings (context_of ns) ss)
  segments_named ns m.no_segment = none_named []
  segments_named ns (m.and_segment t ts ss) = in_both (in_both (named ns t) (all_named ns ts)) (segments_named ns ss)

  steps_named : (ns : List Note) (ss : m.Steps) → AreNamed (sites_of_steps ns ss) (step_namings (context_of ns) ss)
  steps_named ns m.no_step = none_named []
  steps_named ns (m.and_let i xs u ss) = in_both (named (i.note ∷ ns) u) (steps_named (i.note ∷ ns) ss)
  steps_named ns (m.and_do i u ss) = in_both (named (i.note ∷ ns) u) (steps_named (i.note ∷ ns) ss)

  clauses_named : (ns : List Note) (cs : m.Clauses) → AreNamed (sites_of_clauses ns cs) (clause_namings (context_of ns) cs)
  clauses_named ns m.no_clause = none_named []
  clauses_named ns (m.and_clause i ps g t cs) =
      named_after _ (in_both (in_both (in_both (patterns_named (i.note ∷ ns) ps) (named (i.note ∷ ns) g)) (named (i.note ∷ ns) t)) (clauses_named ns cs))

  defs_named : (ns : List Note) (ds : m.Defs) → AreNamed (sites_of_defs ns ds) (def_namings (context_of ns) ds)
  defs_named ns m.no_def = none_named []
  defs_named ns (m.and_def f i xs t ds) = in_both (named (i.note ∷ ns) t) (defs_named ns ds)

  pattern_named : (ns : List Note) (p : m.Pattern) → AreNamed (sites_of_pattern ns p) (pattern_namings (context_of ns) p)
  pattern_named ns (m.binds i x) = none_named []
  pattern_named ns (m.equals i l) = none_named []
  pattern_named ns (m.list_of i ps p) = in_both (patterns_named (i.note ∷ ns) ps) (pattern_named (i.note ∷ ns) p)
  pattern_named ns (m.tuple_of i ps) = patterns_named (i.note ∷ ns) ps
  pattern_named ns (m.map_of i ps) = pat_pairs_named (i.note ∷ ns) ps
  pattern_named ns (m.binary_of i ss) = pat_segments_named (i.note ∷ ns) ss
  pattern_named ns (m.alias i x p) = pattern_named (i.note ∷ ns) p

  patterns_named : (ns : List Note) (ps : m.Patterns) → AreNamed (sites_of_patterns ns ps) (patterns_namings (context_of ns) ps)
  patterns_named ns m.no_pattern = none_named []
  patterns_named ns (m.and_pattern p ps) = in_both (pattern_named ns p) (patterns_named ns ps)

  pat_pairs_named : (ns : List Note) (ps : m.PatPairs) → AreNamed (sites_of_pat_pairs ns ps) (pat_pair_namings (context_of ns) ps)
  pat_pairs_named ns m.no_pat_pair = none_named []
  pat_pairs_named ns (m.and_pat_pair t p ps) = in_both (in_both (named ns t) (pattern_named ns p)) (pat_pairs_named ns ps)

  pat_segments_named : (ns : List Note) (ss : m.PatSegments) → AreNamed (sites_of_pat_segments ns ss) (pat_segment_namings (context_of ns) ss)
  pat_segments_named ns m.no_pat_segment = none_named []
  pat_segments_named ns (m.and_pat_segment p ts ss) = in_both (in_both (pattern_named ns p) (all_named ns ts)) (pat_segments_named ns ss)

-- the first call of each unknown function is one of them
firsts_tied : (text : List Site) (before : List Naming) (callees : Callees) (cs : List Naming) → AreNamed text cs → AreTied text (found_first before callees cs)
firsts_tied text before callees [] x = none_tied text
firsts_tied text before callees (c ∷ cs) x =
    joined (if_so (is_unknown (callees c.home c.name) && not (same_atom c.home erlang) && not (is_named before c)) c.found (x.each c (contains_first c cs)))
    (firsts_tied text (c ∷ before) callees cs (record { each = λ d h. x.each d (contains_later c d cs h) }))

-- ---- a module

module _ (callees : Callees) (x : m.Module) where
  pub findings_tied : AreTied (sites_of_module x) (findings callees x)
  findings_tied =
      let ns : List Note = x.note ∷ [] in
      let a : List Site = definition_sites ns x.defs in
      let b : List Site = sites_of_defs ns x.defs in
      joined (joined
      (within (in_left a b) (definitions_tied (world callees x (last_state callees x)) ns x.defs))
      (within (in_right a b) (functions_tied (world callees x (last_state callees x)) ns outermost x.defs)))
      (within (in_right a b) (firsts_tied b [] callees (def_namings (context_of ns) x.defs) (defs_named ns x.defs)))

  pub lines_tied : (bytes : List ℕ) → AreLines x.name (findings callees x) bytes → AreTiedLines x bytes
  lines_tied bytes h = record {
    told = h.ordered;
    written = h.written;
    tied = record { each = λ f k. findings_tied.each f (Contains-permutation h.ordered (findings callees x) f (IsPermutation-sym (findings callees x) h.ordered h.in_order.same) k) };
  }
