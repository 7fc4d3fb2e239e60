-- What is compared of trees: all of it, with places, or all but the places.
use Rattle.std.specs.Prelude.{Bool, true, false, map}
use Rattle.type_kinds.specs.declared.place.Place.{Place}
use Rattle.core_ast.specs.declared.syntax.Mark.{Mark}
use Rattle.core_ast.specs.declared.syntax.VarName.{VarName}
use Rattle.core_ast.specs.Model as m

-- The place that stands for every place where places aren't compared.
abbrev pub nowhere : Place
nowhere = record { byte = 0; line = 0 }

abbrev pub compared_place : (places : Bool) → Place → Place
compared_place true p = p
compared_place false p = nowhere

module _ (places : Bool) where
  -- A mark has its label and its note, and a variable its name and its note.
  abbrev pub compared_mark : Mark → Mark
  compared_mark k = record k { place = compared_place places k.place }

  abbrev pub compared_variable : VarName → VarName
  compared_variable x = record x { place = compared_place places x.place }

  abbrev mutual
    pub compared : m.Tree → m.Tree
    compared (m.variable k x) = m.variable (compared_mark k) x
    compared (m.local k f) = m.local (compared_mark k) f
    compared (m.external k x f) = m.external (compared_mark k) x f
    compared (m.literal k l) = m.literal (compared_mark k) l
    compared (m.function k xs t) = m.function (compared_mark k) (map compared_variable xs) (compared t)
    compared (m.listed k ts t) = m.listed (compared_mark k) (compared_all ts) (compared t)
    compared (m.tuple k ts) = m.tuple (compared_mark k) (compared_all ts)
    compared (m.new_map k ps) = m.new_map (compared_mark k) (compared_pairs ps)
    compared (m.updated_map k ps t) = m.updated_map (compared_mark k) (compared_pairs ps) (compared t)
    compared (m.binary k ss) = m.binary (compared_mark k) (compared_segments ss)
    compared (m.values k ts) = m.values (compared_mark k) (compared_all ts)
    compared (m.chain k ss t) = m.chain (compared_mark k) (compared_steps ss) (compared t)
    compared (m.case k t cs) = m.case (compared_mark k) (compared t) (compared_clauses cs)
    compared (m.letrec k ds t) = m.letrec (compared_mark k) (compared_defs ds) (compared t)
    compared (m.apply k t ts) = m.apply (compared_mark k) (compared t) (compared_all ts)
    compared (m.call k t u ts) = m.call (compared_mark k) (compared t) (compared u) (compared_all ts)
    compared (m.primop k x ts) = m.primop (compared_mark k) x (compared_all ts)
    compared (m.try k t xs u ys w) = m.try (compared_mark k) (compared t) (map compared_variable xs) (compared u) (map compared_variable ys) (compared w)
    compared (m.receive k cs t u) = m.receive (compared_mark k) (compared_clauses cs) (compared t) (compared u)
    compared (m.catch k t) = m.catch (compared_mark k) (compared t)

    pub compared_all : m.Trees → m.Trees
    compared_all m.no_tree = m.no_tree
    compared_all (m.and_tree t ts) = m.and_tree (compared t) (compared_all ts)

    pub compared_pairs : m.Pairs → m.Pairs
    compared_pairs m.no_pair = m.no_pair
    compared_pairs (m.and_pair e t u ps) = m.and_pair e (compared t) (compared u) (compared_pairs ps)

    pub compared_segments : m.Segments → m.Segments
    compared_segments m.no_segment = m.no_segment
    compared_segments (m.and_segment t ts ss) = m.and_segment (compared t) (compared_all ts) (compared_segments ss)

    pub compared_steps : m.Steps → m.Steps
    compared_steps m.no_step = m.no_step
    compared_steps (m.and_let k xs t ss) = m.and_let (compared_mark k) (map compared_variable xs) (compared t) (compared_steps ss)
    compared_steps (m.and_do k t ss) = m.and_do (compared_mark k) (compared t) (compared_steps ss)

    pub compared_clauses : m.Clauses → m.Clauses
    compared_clauses m.no_clause = m.no_clause
    compared_clauses (m.and_clause k ps g t cs) = m.and_clause (compared_mark k) (compared_patterns ps) (compared g) (compared t) (compared_clauses cs)

    pub compared_defs : m.Defs → m.Defs
    compared_defs m.no_def = m.no_def
    compared_defs (m.and_def f k xs t ds) = m.and_def f (compared_mark k) (map compared_variable xs) (compared t) (compared_defs ds)

    pub compared_pattern : m.Pattern → m.Pattern
    compared_pattern (m.binds k x) = m.binds (compared_mark k) x
    compared_pattern (m.equals k l) = m.equals (compared_mark k) l
    compared_pattern (m.list_of k ps p) = m.list_of (compared_mark k) (compared_patterns ps) (compared_pattern p)
    compared_pattern (m.tuple_of k ps) = m.tuple_of (compared_mark k) (compared_patterns ps)
    compared_pattern (m.map_of k ps) = m.map_of (compared_mark k) (compared_pat_pairs ps)
    compared_pattern (m.binary_of k ss) = m.binary_of (compared_mark k) (compared_pat_segments ss)
    compared_pattern (m.alias k x p) = m.alias (compared_mark k) (compared_variable x) (compared_pattern p)

    pub compared_patterns : m.Patterns → m.Patterns
    compared_patterns m.no_pattern = m.no_pattern
    compared_patterns (m.and_pattern p ps) = m.and_pattern (compared_pattern p) (compared_patterns ps)

    pub compared_pat_pairs : m.PatPairs → m.PatPairs
    compared_pat_pairs m.no_pat_pair = m.no_pat_pair
    compared_pat_pairs (m.and_pat_pair t p ps) = m.and_pat_pair (compared t) (compared_pattern p) (compared_pat_pairs ps)

    pub compared_pat_segments : m.PatSegments → m.PatSegments
    compared_pat_segments m.no_pat_segment = m.no_pat_segment
    compared_pat_segments (m.and_pat_segment p ts ss) = m.and_pat_segment (compared_pattern p) (compared_all ts) (compared_pat_segments ss)
