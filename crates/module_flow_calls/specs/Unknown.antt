-- The functions of other modules that a text calls by literal names and of which nothing is known.
use Rattle.std.specs.Prelude.{ℕ, Bool, true, false, not, ◌&&◌, ◌||◌, cond, List, [], ◌∷◌, ◌++◌, Option, Some, None}
use Rattle.type_kinds.specs.declared.atom.Atom.{Atom}
use Rattle.core_ast.specs.declared.syntax.FunName.{FunName}
use Rattle.core_ast.specs.declared.syntax.Mark.{Mark}
use Rattle.core_ast.specs.Model as m
use Rattle.core_ast.specs.Lengths.{how_many}
use Rattle.core_scope.specs.Asks.{erlang, function_name}
use Rattle.core_scope.specs.Names.{same_atom, same_function}
use Rattle.cons_tree.specs.declared.parts.Callee.{Callee}
use Rattle.cons_tree.specs.declared.parts.Callee.TheVariants.{Known, Local, Undefined, Unknown}
use Rattle.cons_gen_rows.specs.Counts.{call_names}
use Rattle.warn_list.specs.declared.finding.Finding.{Finding}
use Rattle.warn_list.specs.declared.finding.FindingKind.TheVariants.{UnknownFunction}
use Rattle.module_flow_calls.specs.declared.node_context.NodeContext.{NodeContext}
use Rattle.module_flow_calls.specs.NodeContext.{under, under_steps, at_node}

-- A call by literal names that isn't under a note of the compiler's: what it names, and what is found there if that is unknown.
pub record Naming : Type 0 where
  pub home : Atom
  pub name : FunName
  pub found : List Finding

abbrev pub naming : NodeContext → Mark → Option (Atom × Atom) → ℕ → List Naming
naming a i None n = []
naming a i (Some names) n =
    cond a.quiet []
    (record {
      home = names.0;
      name = function_name names.1 n;
      found = at_node a i (UnknownFunction names.0 (function_name names.1 n));
    } ∷ [])

-- all of them, in the order of the text
abbrev mutual
  pub namings : NodeContext → m.Tree → List Naming
  namings a (m.variable i x) = []
  namings a (m.local i f) = []
  namings a (m.external i x f) = []
  namings a (m.literal i l) = []
  namings a (m.function i xs t) = namings (under a i.note) t
  namings a (m.listed i ts t) = all_namings (under a i.note) ts ++ namings (under a i.note) t
  namings a (m.tuple i ts) = all_namings (under a i.note) ts
  namings a (m.new_map i ps) = pair_namings (under a i.note) ps
  namings a (m.updated_map i ps t) = pair_namings (under a i.note) ps ++ namings (under a i.note) t
  namings a (m.binary i ss) = segment_namings (under a i.note) ss
  namings a (m.values i ts) = all_namings (under a i.note) ts
  namings a (m.chain i ss t) = step_namings (under a i.note) ss ++ namings (under_steps (under a i.note) ss) t
  namings a (m.case i t cs) = namings (under a i.note) t ++ clause_namings (under a i.note) cs
  namings a (m.letrec i ds t) = def_namings (under a i.note) ds ++ namings (under a i.note) t
  namings a (m.apply i t ts) = namings (under a i.note) t ++ all_namings (under a i.note) ts
  namings a (m.call i t u ts) =
      naming (under a i.note) i (call_names t u) (how_many ts)
      ++ namings (under a i.note) t ++ namings (under a i.note) u ++ all_namings (under a i.note) ts
  namings a (m.primop i x ts) = all_namings (under a i.note) ts
  namings a (m.try i t xs u ys w) = namings (under a i.note) t ++ namings (under a i.note) u ++ namings (under a i.note) w
  namings a (m.receive i cs t u) = clause_namings (under a i.note) cs ++ namings (under a i.note) t ++ namings (under a i.note) u
  namings a (m.catch i t) = namings (under a i.note) t

  pub all_namings : NodeContext → m.Trees → List Naming
  all_namings a m.no_tree = []
  all_namings a (m.and_tree t ts) = namings a t ++ all_namings a ts

  pub pair_namings : NodeContext → m.Pairs → List Naming
  pair_namings a m.no_pair = []
  pair_namings a (m.and_pair exact t u ps) = namings a t ++ namings a u ++ pair_namings a ps

  pub segment_namings : NodeContext → m.Segments → List Naming
  segment_namings a m.no_segment = []
  segment_namings a (m.and_segment t ts ss) = namings a t ++ all_namings a ts ++ segment_namings a ss

  pub step_namings : NodeContext → m.Steps → List Naming
  step_namings a m.no_step = []
  step_namings a (m.and_let i xs u ss) = namings (under a i.note) u ++ step_namings (under a i.note) ss
  step_namings a (m.and_do i u ss) = namings (under a i.note) u ++ step_namings (under a i.note) ss

  pub clause_namings : NodeContext → m.Clauses → List Naming
  clause_namings a m.no_clause = []
  clause_namings a (m.and_clause i ps g t cs) =
      patterns_namings (under a i.note) ps ++ namings (under a i.note) g ++ namings (under a i.note) t ++ clause_namings a cs

  pub def_namings : NodeContext → m.Defs → List Naming
  def_namings a m.no_def = []
  def_namings a (m.and_def f i xs t ds) = namings (under a i.note) t ++ def_namings a ds

  -- the arguments of segments and the keys of maps in patterns
  pub pattern_namings : NodeContext → m.Pattern → List Naming
  pattern_namings a (m.binds i x) = []
  pattern_namings a (m.equals i l) = []
  pattern_namings a (m.list_of i ps p) = patterns_namings (under a i.note) ps ++ pattern_namings (under a i.note) p
  pattern_namings a (m.tuple_of i ps) = patterns_namings (under a i.note) ps
  pattern_namings a (m.map_of i ps) = pat_pair_namings (under a i.note) ps
  pattern_namings a (m.binary_of i ss) = pat_segment_namings (under a i.note) ss
  pattern_namings a (m.alias i x p) = pattern_namings (under a i.note) p

  pub patterns_namings : NodeContext → m.Patterns → List Naming
  patterns_namings a m.no_pattern = []
  patterns_namings a (m.and_pattern p ps) = pattern_namings a p ++ patterns_namings a ps

  pub pat_pair_namings : NodeContext → m.PatPairs → List Naming
  pat_pair_namings a m.no_pat_pair = []
  pat_pair_namings a (m.and_pat_pair t p ps) = namings a t ++ pattern_namings a p ++ pat_pair_namings a ps

  pub pat_segment_namings : NodeContext → m.PatSegments → List Naming
  pat_segment_namings a m.no_pat_segment = []
  pat_segment_namings a (m.and_pat_segment p ts ss) = pattern_namings a p ++ all_namings a ts ++ pat_segment_namings a ss

-- ---- the first call of each of them

abbrev pub is_unknown : Callee → Bool
is_unknown (Known s) = false
is_unknown (Local s) = false
is_unknown Undefined = false
is_unknown Unknown = true

abbrev pub is_named : List Naming → Naming → Bool
is_named [] c = false
is_named (b ∷ bs) c = (same_atom b.home c.home && same_function b.name c.name) || is_named bs c

abbrev pub found_first : (before : List Naming) → (Atom → FunName → Callee) → List Naming → List Finding
found_first before callees [] = []
found_first before callees (c ∷ cs) =
    cond (is_unknown (callees c.home c.name) && not (same_atom c.home erlang) && not (is_named before c)) c.found []
    ++ found_first (c ∷ before) callees cs

abbrev pub unknown_functions : (Atom → FunName → Callee) → NodeContext → m.Defs → List Finding
unknown_functions callees a ds = found_first [] callees (def_namings a ds)
