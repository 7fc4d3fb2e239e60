-- Which unknown functions are found in a module rests on what is known of those that it calls by literal names.
use Rattle.std.proofs.Common.{◌≡◌, ℕ, Bool, true, false, cond, not, ◌&&◌, List, [], ◌∷◌, ◌++◌, ◌⊎◌, inl, inr, refl, sym, ap, ◌∙◌}
use Rattle.std.specs.Prelude.{Option, Some, None}
use Rattle.type_kinds.specs.declared.atom.Atom.{Atom}
use Rattle.core_ast.specs.declared.syntax.FunName.{FunName}
use Rattle.core_ast.specs.declared.syntax.Mark.{Mark}
use Rattle.core_ast.specs.Model as m
use Rattle.core_ast.specs.Lengths.{how_many}
use Rattle.core_ast.specs.Named.{literal_atom}
use Rattle.core_scope.specs.Asks.{erlang, function_name}
use Rattle.core_scope.specs.Names.{same_atom, defined_names}
use Rattle.call_graph.specs.Targets.CallTarget.{remote}
use Rattle.cons_tree.specs.declared.parts.Callee.{Callee}
use Rattle.cons_tree.specs.declared.parts.Callee.TheVariants.{Known, Local, Undefined, Unknown}
use Rattle.cons_gen_rows.specs.Counts.{call_names}
use Rattle.warn_list.specs.declared.finding.FindingKind.TheVariants.{UnknownFunction}
use Rattle.module_flow_calls.specs.declared.node_context.NodeContext.{NodeContext}
use Rattle.module_flow_calls.specs.NodeContext.{under, under_steps, at_node}
use Rattle.module_flow_calls.specs.Unknown.{Naming, naming, namings, all_namings, pair_namings, segment_namings, step_namings, clause_namings, def_namings}
use Rattle.module_flow_calls.specs.Unknown.{pattern_namings, patterns_namings, pat_pair_namings, pat_segment_namings, is_unknown, is_named, found_first, unknown_functions}
use Rattle.module_flow.specs.Flow.{Callees}
use Rattle.cons_gen_frame.specs.Agreement.{GivesNothing, AreAlike, Agrees}
use Rattle.cons_gen_frame.proofs.Targets.{TreeAgrees, TreesAgree, PairsAgree, SegmentsAgree, StepsAgree, ClausesAgree, DefsAgree, PatternAgrees, PatternsAgree, PatPairsAgree, PatSegmentsAgree, call_target}
use Rattle.module_flow_frame.proofs.Going.{join}

module _ (c d : Callees) (home : Atom) where
  -- of the functions that these calls name the same is known, as far as it is asked whether anything is known
  abbrev Fine_one : Naming → Type 0
  Fine_one n = (same_atom n.home erlang ≡ true) ⊎ (is_unknown (c n.home n.name) ≡ is_unknown (d n.home n.name))

  abbrev Fine_each : List Naming → Type 0
  Fine_each [] = Unit {0}
  Fine_each (n ∷ ns) = Fine_one n × Fine_each ns

  record Fine (ns : List Naming) : Type 0 where
    pub each : Fine_each ns

  none_fine : Fine []
  none_fine = record { each = tt }

  each_join : (a b : List Naming) → Fine_each a → Fine_each b → Fine_each (a ++ b)
  each_join [] b h k = k
  each_join (n ∷ a) b h k = (h.0, each_join a b h.1 k)

  fine_join : {a b : List Naming} → Fine a → Fine b → Fine (a ++ b)
  fine_join {a = a} {b = b} h k = record { each = each_join a b h.each k.each }

  no_unknown : (x : Callee) → GivesNothing x → is_unknown x ≡ false
  no_unknown (Known s) h = absurd h
  no_unknown (Local s) h = refl
  no_unknown Undefined h = refl
  no_unknown Unknown h = absurd h

  unknown_alike : (x y : Callee) → AreAlike x y → is_unknown x ≡ is_unknown y
  unknown_alike x y (inl e) = ap is_unknown e
  unknown_alike x y (inr both) = no_unknown x both.0 ∙ sym (no_unknown y both.1)

  fine_naming : (a : NodeContext) (i : Mark) (o : Option (Atom × Atom)) (n : ℕ) → ((x : Atom × Atom) → o ≡ Some x → Agrees c d home (remote x.0 (function_name x.1 n))) → Fine (naming a i o n)
  fine_naming a i None n h = none_fine
  fine_naming a i (Some x) n h = by a.quiet (h x refl)
    where
      one : Agrees c d home (remote x.0 (function_name x.1 n)) → (same_atom x.0 erlang ≡ true) ⊎ (is_unknown (c x.0 (function_name x.1 n)) ≡ is_unknown (d x.0 (function_name x.1 n)))
      one (inl e) = inl e
      one (inr alike) = inr (unknown_alike (c x.0 (function_name x.1 n)) (d x.0 (function_name x.1 n)) alike)

      by : (b : Bool) → Agrees c d home (remote x.0 (function_name x.1 n)) → Fine (cond b [] (record { home = x.0; name = function_name x.1 n; found = at_node a i (UnknownFunction x.0 (function_name x.1 n)) } ∷ []))
      by true h = none_fine
      by false h = record { each = (one h, tt) }

  mutual
    fine : (t : m.Tree) (fs : List FunName) → TreeAgrees c d home fs t → (a : NodeContext) → Fine (namings a t)
    fine (m.variable i x) fs h a = none_fine
    fine (m.local i f) fs h a = none_fine
    fine (m.external i x f) fs h a = none_fine
    fine (m.literal i l) fs h a = none_fine
    fine (m.function i xs t) fs h a = fine t fs h (under a i.note)
    fine (m.listed i ts t) fs h a = fine_join (all_fine ts fs h.0 (under a i.note)) (fine t fs h.1 (under a i.note))
    fine (m.tuple i ts) fs h a = all_fine ts fs h (under a i.note)
    fine (m.new_map i ps) fs h a = pair_fine ps fs h (under a i.note)
    fine (m.updated_map i ps t) fs h a = fine_join (pair_fine ps fs h.0 (under a i.note)) (fine t fs h.1 (under a i.note))
    fine (m.binary i ss) fs h a = segment_fine ss fs h (under a i.note)
    fine (m.values i ts) fs h a = all_fine ts fs h (under a i.note)
    fine (m.chain i ss t) fs h a = fine_join (step_fine ss fs h.0 (under a i.note)) (fine t fs h.1 (under_steps (under a i.note) ss))
    fine (m.case i t cs) fs h a = fine_join (fine t fs h.0 (under a i.note)) (clause_fine cs fs h.1 (under a i.note))
    fine (m.letrec i ds t) fs h a = fine_join (def_fine ds (fs ++ defined_names ds) h.0 (under a i.note)) (fine t (fs ++ defined_names ds) h.1 (under a i.note))
    fine (m.apply i t ts) fs h a = fine_join (fine t fs h.1 (under a i.note)) (all_fine ts fs h.2 (under a i.note))
    fine (m.call i t u ts) fs h a =
        let own = fine_naming (under a i.note) i (call_names t u) (how_many ts) (call_target c d home (how_many ts) (literal_atom t) (literal_atom u) h.0) in
        fine_join (fine_join (fine_join own (fine t fs h.1 (under a i.note))) (fine u fs h.2 (under a i.note))) (all_fine ts fs h.3 (under a i.note))
    fine (m.primop i x ts) fs h a = all_fine ts fs h (under a i.note)
    fine (m.try i t xs u ys w) fs h a = fine_join (fine_join (fine t fs h.0 (under a i.note)) (fine u fs h.1 (under a i.note))) (fine w fs h.2 (under a i.note))
    fine (m.receive i cs t u) fs h a = fine_join (fine_join (clause_fine cs fs h.0 (under a i.note)) (fine t fs h.1 (under a i.note))) (fine u fs h.2 (under a i.note))
    fine (m.catch i t) fs h a = fine t fs h (under a i.note)

    all_fine : (ts : m.Trees) (fs : List FunName) → TreesAgree c d home fs ts → (a : NodeContext) → Fine (all_namings a ts)
    all_fine m.no_tree fs h a = none_fine
    all_fine (m.and_tree t ts) fs h a = fine_join (fine t fs h.0 a) (all_fine ts fs h.1 a)

    pair_fine : (ps : m.Pairs) (fs : List FunName) → PairsAgree c d home fs ps → (a : NodeContext) → Fine (pair_namings a ps)
    pair_fine m.no_pair fs h a = none_fine
    pair_fine (m.and_pair exact t u ps) fs h a = fine_join (fine_join (fine t fs h.0 a) (fine u fs h.1 a)) (pair_fine ps fs h.2 a)

    segment_fine : (ss : m.Segments) (fs : List FunName) → SegmentsAgree c d home fs ss → (a : NodeContext) → Fine (segment_namings a ss)
    segment_fine m.no_segment fs h a = none_fine
    segment_fine (m.and_segment t ts ss) fs h a = fine_join (fine_join (fine t fs h.0 a) (all_fine ts fs h.1 a)) (segment_fine ss fs h.2 a)

    step_fine : (ss : m.Steps) (fs : List FunName) → StepsAgree c d home fs ss → (a : NodeContext) → Fine (step_namings a ss)
    step_fine m.no_step fs h a = none_fine
    step_fine (m.and_let i xs u ss) fs h a = fine_join (fine u fs h.0 (under a i.note)) (step_fine ss fs h.1 (under a i.note))
    step_fine (m.and_do i u ss) fs h a = fine_join (fine u fs h.0 (under a i.note)) (step_fine ss fs h.1 (under a i.note))

    clause_fine : (cs : m.Clauses) (fs : List FunName) → ClausesAgree c d home fs cs → (a : NodeContext) → Fine (clause_namings a cs)
    clause_fine m.no_clause fs h a = none_fine
    clause_fine (m.and_clause i ps g t cs) fs h a = fine_join (fine_join (fine_join (patterns_fine ps fs h.0 (under a i.note)) (fine g fs h.1 (under a i.note))) (fine t fs h.2 (under a i.note))) (clause_fine cs fs h.3 a)

    def_fine : (ds : m.Defs) (fs : List FunName) → DefsAgree c d home fs ds → (a : NodeContext) → Fine (def_namings a ds)
    def_fine m.no_def fs h a = none_fine
    def_fine (m.and_def f i xs t ds) fs h a = fine_join (fine t fs h.0 (under a i.note)) (def_fine ds fs h.1 a)

    pattern_fine : (p : m.Pattern) (fs : List FunName) → PatternAgrees c d home fs p → (a : NodeContext) → Fine (pattern_namings a p)
    pattern_fine (m.binds i x) fs h a = none_fine
    pattern_fine (m.equals i l) fs h a = none_fine
    pattern_fine (m.list_of i ps p) fs h a = fine_join (patterns_fine ps fs h.0 (under a i.note)) (pattern_fine p fs h.1 (under a i.note))
    pattern_fine (m.tuple_of i ps) fs h a = patterns_fine ps fs h (under a i.note)
    pattern_fine (m.map_of i ps) fs h a = pat_pair_fine ps fs h (under a i.note)
    pattern_fine (m.binary_of i ss) fs h a = pat_segment_fine ss fs h (under a i.note)
    pattern_fine (m.alias i x p) fs h a = pattern_fine p fs h (under a i.note)

    patterns_fine : (ps : m.Patterns) (fs : List FunName) → PatternsAgree c d home fs ps → (a : NodeContext) → Fine (patterns_namings a ps)
    patterns_fine m.no_pattern fs h a = none_fine
    patterns_fine (m.and_pattern p ps) fs h a = fine_join (pattern_fine p fs h.0 a) (patterns_fine ps fs h.1 a)

    pat_pair_fine : (ps : m.PatPairs) (fs : List FunName) → PatPairsAgree c d home fs ps → (a : NodeContext) → Fine (pat_pair_namings a ps)
    pat_pair_fine m.no_pat_pair fs h a = none_fine
    pat_pair_fine (m.and_pat_pair t p ps) fs h a = fine_join (fine_join (fine t fs h.0 a) (pattern_fine p fs h.1 a)) (pat_pair_fine ps fs h.2 a)

    pat_segment_fine : (ss : m.PatSegments) (fs : List FunName) → PatSegmentsAgree c d home fs ss → (a : NodeContext) → Fine (pat_segment_namings a ss)
    pat_segment_fine m.no_pat_segment fs h a = none_fine
    pat_segment_fine (m.and_pat_segment p ts ss) fs h a = fine_join (fine_join (pattern_fine p fs h.0 a) (all_fine ts fs h.1 a)) (pat_segment_fine ss fs h.2 a)

  first_same : (before ns : List Naming) → Fine_each ns → found_first before c ns ≡ found_first before d ns
  first_same before [] h = refl
  first_same before (n ∷ ns) h = join (ap (λ b. cond b n.found []) (by h.0)) (first_same (n ∷ before) ns h.1)
    where
      none : (x y b : Bool) → ((x && false) && b) ≡ ((y && false) && b)
      none true true b = refl
      none true false b = refl
      none false true b = refl
      none false false b = refl

      by : (same_atom n.home erlang ≡ true) ⊎ (is_unknown (c n.home n.name) ≡ is_unknown (d n.home n.name))
          → (is_unknown (c n.home n.name) && not (same_atom n.home erlang) && not (is_named before n)) ≡ (is_unknown (d n.home n.name) && not (same_atom n.home erlang) && not (is_named before n))
      by (inr e) = ap (λ b. b && not (same_atom n.home erlang) && not (is_named before n)) e
      by (inl e) =
          ap (λ b. is_unknown (c n.home n.name) && not b && not (is_named before n)) e
          ∙ none (is_unknown (c n.home n.name)) (is_unknown (d n.home n.name)) (not (is_named before n))
          ∙ sym (ap (λ b. is_unknown (d n.home n.name) && not b && not (is_named before n)) e)

  pub unknown_same : (a : NodeContext) (ds : m.Defs) → DefsAgree c d home [] ds → unknown_functions c a ds ≡ unknown_functions d a ds
  unknown_same a ds h = first_same [] (def_namings a ds) (def_fine ds [] h a).each
