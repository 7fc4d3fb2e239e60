-- All that is found of unknown functions is of its own kind.
use Rattle.std.specs.Prelude.{ℕ, Bool, true, false, ◌&&◌, not, cond, List, [], ◌∷◌, ◌++◌, Option, Some, None, unwrap_or}
use Rattle.type_kinds.specs.declared.atom.Atom.{Atom}
use Rattle.core_ast.specs.declared.syntax.FunName.{FunName}
use Rattle.core_ast.specs.declared.syntax.Mark.{Mark}
use Rattle.core_ast.specs.Model as m
use Rattle.core_ast.specs.Lengths.{how_many}
use Rattle.core_scope.specs.Asks.{erlang, function_name}
use Rattle.core_scope.specs.Names.{same_atom}
use Rattle.cons_tree.specs.declared.parts.Callee.{Callee}
use Rattle.cons_gen_rows.specs.Counts.{call_names}
use Rattle.warn_list.specs.declared.finding.Finding.{Finding}
use Rattle.warn_list.specs.declared.finding.FindingKind.{FindingKind}
use Rattle.warn_list.specs.declared.finding.FindingKind.TheVariants.{NoReturn, DeadCall, DeadClause, NeverCalled, UnknownFunction}
use Rattle.module_flow_calls.specs.declared.node_context.NodeContext.{NodeContext}
use Rattle.module_flow_calls.specs.NodeContext.{under, under_steps, at_node}
use Rattle.module_flow_calls.specs.Unknown.{Naming, naming, namings, all_namings, pair_namings, segment_namings, step_namings, clause_namings, def_namings}
use Rattle.module_flow_calls.specs.Unknown.{pattern_namings, patterns_namings, pat_pair_namings, pat_segment_namings, is_unknown, is_named, found_first, unknown_functions}

abbrev pub IsOfUnknown : FindingKind → Type 0
IsOfUnknown (NoReturn f) = ⊥
IsOfUnknown (DeadCall t) = ⊥
IsOfUnknown DeadClause = ⊥
IsOfUnknown (NeverCalled f) = ⊥
IsOfUnknown (UnknownFunction x f) = Unit {0}

abbrev pub AreOfUnknown : List Finding → Type 0
AreOfUnknown [] = Unit {0}
AreOfUnknown (f ∷ fs) = IsOfUnknown f.kind × AreOfUnknown fs

-- so is what each call finds
abbrev Name : List Naming → Type 0
Name [] = Unit {0}
Name (n ∷ ns) = AreOfUnknown n.found × Name ns

both : (a b : List Naming) → Name a → Name b → Name (a ++ b)
both [] b h k = k
both (n ∷ a) b h k = (h.0, both a b h.1 k)

three : (a b c : List Naming) → Name a → Name b → Name c → Name (a ++ b ++ c)
three a b c h k j = both (a ++ b) c (both a b h k) j

both_unknown : (fs gs : List Finding) → AreOfUnknown fs → AreOfUnknown gs → AreOfUnknown (fs ++ gs)
both_unknown [] gs h k = k
both_unknown (f ∷ fs) gs h k = (h.0, both_unknown fs gs h.1 k)

at_own : (a : NodeContext) (i : Mark) (home : Atom) (f : FunName) → AreOfUnknown (at_node a i (UnknownFunction home f))
at_own a i home f = by a.quiet
  where
    by : (b : Bool) → AreOfUnknown (cond b [] (record { label = i.label; kind = UnknownFunction home f; line = unwrap_or a.line i.place.line } ∷ []))
    by true = tt
    by false = (tt, tt)

name : (a : NodeContext) (i : Mark) (names : Option (Atom × Atom)) (n : ℕ) → Name (naming a i names n)
name a i None n = tt
name a i (Some names) n = by a.quiet
  where
    by : (b : Bool) → Name (cond b [] (record { home = names.0; name = function_name names.1 n; found = at_node a i (UnknownFunction names.0 (function_name names.1 n)) } ∷ []))
    by true = tt
    by false = (at_own a i names.0 (function_name names.1 n), tt)

mutual
  in_tree : (a : NodeContext) (t : m.Tree) → Name (namings a t)
  in_tree a (m.variable i x) = tt
  in_tree a (m.local i f) = tt
  in_tree a (m.external i x f) = tt
  in_tree a (m.literal i l) = tt
  in_tree a (m.function i xs t) = in_tree (under a i.note) t
  in_tree a (m.listed i ts t) = both (all_namings (under a i.note) ts) (namings (under a i.note) t) (in_all (under a i.note) ts) (in_tree (under a i.note) t)
  in_tree a (m.tuple i ts) = in_all (under a i.note) ts
  in_tree a (m.new_map i ps) = in_pairs (under a i.note) ps
  in_tree a (m.updated_map i ps t) = both (pair_namings (under a i.note) ps) (namings (under a i.note) t) (in_pairs (under a i.note) ps) (in_tree (under a i.note) t)
  in_tree a (m.binary i ss) = in_segments (under a i.note) ss
  in_tree a (m.values i ts) = in_all (under a i.note) ts
  in_tree a (m.chain i ss t) = both (step_namings (under a i.note) ss) (namings (under_steps (under a i.note) ss) t) (in_steps (under a i.note) ss) (in_tree (under_steps (under a i.note) ss) t)
  in_tree a (m.case i t cs) = both (namings (under a i.note) t) (clause_namings (under a i.note) cs) (in_tree (under a i.note) t) (in_clauses (under a i.note) cs)
  in_tree a (m.letrec i ds t) = both (def_namings (under a i.note) ds) (namings (under a i.note) t) (in_defs (under a i.note) ds) (in_tree (under a i.note) t)
  in_tree a (m.apply i t ts) = both (namings (under a i.note) t) (all_namings (under a i.note) ts) (in_tree (under a i.note) t) (in_all (under a i.note) ts)
  in_tree a (m.call i t u ts) =
      let c = under a i.note in
      both (naming c i (call_names t u) (how_many ts) ++ namings c t ++ namings c u) (all_namings c ts)
      (three (naming c i (call_names t u) (how_many ts)) (namings c t) (namings c u) (name c i (call_names t u) (how_many ts)) (in_tree c t) (in_tree c u)) (in_all c ts)
  in_tree a (m.primop i x ts) = in_all (under a i.note) ts
  in_tree a (m.try i t xs u ys w) = three (namings (under a i.note) t) (namings (under a i.note) u) (namings (under a i.note) w) (in_tree (under a i.note) t) (in_tree (under a i.note) u) (in_tree (under a i.note) w)
  in_tree a (m.receive i cs t u) = three (clause_namings (under a i.note) cs) (namings (under a i.note) t) (namings (under a i.note) u) (in_clauses (under a i.note) cs) (in_tree (under a i.note) t) (in_tree (under a i.note) u)
  in_tree a (m.catch i t) = in_tree (under a i.note) t

  in_all : (a : NodeContext) (ts : m.Trees) → Name (all_namings a ts)
  in_all a m.no_tree = tt
  in_all a (m.and_tree t ts) = both (namings a t) (all_namings a ts) (in_tree a t) (in_all a ts)

  in_pairs : (a : NodeContext) (ps : m.Pairs) → Name (pair_namings a ps)
  in_pairs a m.no_pair = tt
  in_pairs a (m.and_pair exact t u ps) = three (namings a t) (namings a u) (pair_namings a ps) (in_tree a t) (in_tree a u) (in_pairs a ps)

  in_segments : (a : NodeContext) (ss : m.Segments) → Name (segment_namings a ss)
  in_segments a m.no_segment = tt
  in_segments a (m.and_segment t ts ss) = three (namings a t) (all_namings a ts) (segment_namings a ss) (in_tree a t) (in_all a ts) (in_segments a ss)

  in_steps : (a : NodeContext) (ss : m.Steps) → Name (step_namings a ss)
  in_steps a m.no_step = tt
  in_steps a (m.and_let i xs u ss) = both (namings (under a i.note) u) (step_namings (under a i.note) ss) (in_tree (under a i.note) u) (in_steps (under a i.note) ss)
  in_steps a (m.and_do i u ss) = both (namings (under a i.note) u) (step_namings (under a i.note) ss) (in_tree (under a i.note) u) (in_steps (under a i.note) ss)

  in_clauses : (a : NodeContext) (cs : m.Clauses) → Name (clause_namings a cs)
  in_clauses a m.no_clause = tt
  in_clauses a (m.and_clause i ps g t cs) =
      let c = under a i.note in
      both (patterns_namings c ps ++ namings c g ++ namings c t) (clause_namings a cs) (three (patterns_namings c ps) (namings c g) (namings c t) (in_patterns c ps) (in_tree c g) (in_tree c t)) (in_clauses a cs)

  in_defs : (a : NodeContext) (ds : m.Defs) → Name (def_namings a ds)
  in_defs a m.no_def = tt
  in_defs a (m.and_def f i xs t ds) = both (namings (under a i.note) t) (def_namings a ds) (in_tree (under a i.note) t) (in_defs a ds)

  in_pattern : (a : NodeContext) (p : m.Pattern) → Name (pattern_namings a p)
  in_pattern a (m.binds i x) = tt
  in_pattern a (m.equals i l) = tt
  in_pattern a (m.list_of i ps p) = both (patterns_namings (under a i.note) ps) (pattern_namings (under a i.note) p) (in_patterns (under a i.note) ps) (in_pattern (under a i.note) p)
  in_pattern a (m.tuple_of i ps) = in_patterns (under a i.note) ps
  in_pattern a (m.map_of i ps) = in_pat_pairs (under a i.note) ps
  in_pattern a (m.binary_of i ss) = in_pat_segments (under a i.note) ss
  in_pattern a (m.alias i x p) = in_pattern (under a i.note) p

  in_patterns : (a : NodeContext) (ps : m.Patterns) → Name (patterns_namings a ps)
  in_patterns a m.no_pattern = tt
  in_patterns a (m.and_pattern p ps) = both (pattern_namings a p) (patterns_namings a ps) (in_pattern a p) (in_patterns a ps)

  in_pat_pairs : (a : NodeContext) (ps : m.PatPairs) → Name (pat_pair_namings a ps)
  in_pat_pairs a m.no_pat_pair = tt
  in_pat_pairs a (m.and_pat_pair t p ps) = three (namings a t) (pattern_namings a p) (pat_pair_namings a ps) (in_tree a t) (in_pattern a p) (in_pat_pairs a ps)

  in_pat_segments : (a : NodeContext) (ss : m.PatSegments) → Name (pat_segment_namings a ss)
  in_pat_segments a m.no_pat_segment = tt
  in_pat_segments a (m.and_pat_segment p ts ss) = three (pattern_namings a p) (all_namings a ts) (pat_segment_namings a ss) (in_pattern a p) (in_all a ts) (in_pat_segments a ss)

-- the first call of each
first_unknown : (before : List Naming) (callees : Atom → FunName → Callee) (ns : List Naming) → Name ns → AreOfUnknown (found_first before callees ns)
first_unknown before callees [] h = tt
first_unknown before callees (n ∷ ns) h =
    both_unknown (cond (is_unknown (callees n.home n.name) && not (same_atom n.home erlang) && not (is_named before n)) n.found []) (found_first (n ∷ before) callees ns)
    (by (is_unknown (callees n.home n.name) && not (same_atom n.home erlang) && not (is_named before n))) (first_unknown (n ∷ before) callees ns h.1)
  where
    by : (b : Bool) → AreOfUnknown (cond b n.found [])
    by true = h.0
    by false = tt

pub unknown_are : (callees : Atom → FunName → Callee) (a : NodeContext) (ds : m.Defs) → AreOfUnknown (unknown_functions callees a ds)
unknown_are callees a ds = first_unknown [] callees (def_namings a ds) (in_defs a ds)
