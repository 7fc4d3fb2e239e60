-- Which values a pattern matches, with what it binds, and which it misses. A pattern may do both where nothing is known of a
-- value: a float, the bits of a binary, a map.
use Rattle.std.specs.Prelude.{◌≡◌, ◌≢◌, Bool, List}
use Rattle.type_kinds.specs.declared.atom.Atom.{Atom}
use Rattle.core_ast.specs.declared.syntax.Mark.{Mark}
use Rattle.core_ast.specs.declared.syntax.VarName.{VarName}
use Rattle.core_ast.specs.declared.syntax.Literal.{Literal}
use Rattle.core_ast.specs.declared.syntax.Literal.TheVariants as l
use Rattle.core_ast.specs.Model as m
use Rattle.core_scope.specs.Segments.{SegmentKind, integers, floats, bit_strings, anything, segment_kind}
use Rattle.type_lattice_model.specs.Canonical.{HoldsPair}
use Rattle.type_lattice_model.specs.Values.{Value, int, atom, bits, nil, cons, tuple, map, Values, no_value, and_value, ValuePairs, Env}
use Rattle.cons_tree.specs.Satisfied.{IsInteger, IsFloat}
use Rattle.core_meaning.specs.Environments.{with_variable}

-- ---- literals

-- the literal gives the value, or matches it. A float literal stands for any float
abbrev pub LiteralIs : Literal → Value → Type 0
LiteralIs (l.Int n) v = v ≡ int n
LiteralIs (l.Float s) v = IsFloat v
LiteralIs (l.Atom a) v = v ≡ atom a
LiteralIs l.Nil v = v ≡ nil

abbrev pub LiteralMisses : Literal → Value → Type 0
LiteralMisses (l.Int n) v = v ≢ int n
LiteralMisses (l.Float s) v = Unit {0}
LiteralMisses (l.Atom a) v = v ≢ atom a
LiteralMisses l.Nil v = v ≢ nil

-- ---- the values of a binary's segments

abbrev pub IsBits : Value → Type 0
IsBits v = (bs : List Bool) × (v ≡ bits bs)

abbrev pub IsOfKind : SegmentKind → Value → Type 0
IsOfKind integers v = IsInteger v
IsOfKind floats v = IsFloat v
IsOfKind bit_strings v = IsBits v
IsOfKind anything v = Unit {0}

-- the value is one that a segment with these arguments may hold: the third argument says its type
abbrev pub IsOfSegment : m.Trees → Value → Type 0
IsOfSegment args v = IsOfKind (segment_kind args) v

-- ---- matching

mutual
  -- the pattern matches the value, and the first environment goes over into the second. What segments hold is of W, which
  -- says which values come from outside
  pub data Match (W : Value → Type 0) : m.Pattern → Value → Env → Env → Type 0 where
    match_variable : {k : Mark} {x : Atom} {v : Value} {env : Env} → Match W (m.binds k x) v env (with_variable x v env)
    match_literal : {k : Mark} {c : Literal} {v : Value} {env : Env} → LiteralIs c v → Match W (m.equals k c) v env env
    match_list :
        {k : Mark} {ps : m.Patterns} {p : m.Pattern} {v : Value} {env to : Env} →
        MatchList W ps p v env to →
        Match W (m.list_of k ps p) v env to
    match_tuple : {k : Mark} {ps : m.Patterns} {vs : Values} {env to : Env} → MatchEach W ps vs env to → Match W (m.tuple_of k ps) (tuple vs) env to
    match_map : {k : Mark} {ps : m.PatPairs} {qs : ValuePairs} {env to : Env} → MatchPairs W ps qs env to → Match W (m.map_of k ps) (map qs) env to
    match_binary :
        {k : Mark} {ss : m.PatSegments} {bs : List Bool} {env to : Env} →
        MatchSegments W ss env to →
        Match W (m.binary_of k ss) (bits bs) env to
    match_alias :
        {k : Mark} {x : VarName} {p : m.Pattern} {v : Value} {env to : Env} →
        Match W p v (with_variable x.name v env) to →
        Match W (m.alias k x p) v env to

  -- as many values as patterns, one in each
  pub data MatchEach (W : Value → Type 0) : m.Patterns → Values → Env → Env → Type 0 where
    match_none : {env : Env} → MatchEach W m.no_pattern no_value env env
    match_next :
        {p : m.Pattern} {ps : m.Patterns} {v : Value} {vs : Values} {env mid to : Env} →
        Match W p v env mid →
        MatchEach W ps vs mid to →
        MatchEach W (m.and_pattern p ps) (and_value v vs) env to

  -- a list's first elements and what follows them
  pub data MatchList (W : Value → Type 0) : m.Patterns → m.Pattern → Value → Env → Env → Type 0 where
    match_rest : {p : m.Pattern} {v : Value} {env to : Env} → Match W p v env to → MatchList W m.no_pattern p v env to
    match_head :
        {p q : m.Pattern} {ps : m.Patterns} {v w : Value} {env mid to : Env} →
        Match W p v env mid →
        MatchList W ps q w mid to →
        MatchList W (m.and_pattern p ps) q (cons v w) env to

  -- each pattern matches some value of the map. Keys aren't evaluated
  pub data MatchPairs (W : Value → Type 0) : m.PatPairs → ValuePairs → Env → Env → Type 0 where
    match_no_pair : {qs : ValuePairs} {env : Env} → MatchPairs W m.no_pat_pair qs env env
    match_pair :
        {t : m.Tree} {p : m.Pattern} {ps : m.PatPairs} {qs : ValuePairs} (key : Value) {v : Value} {env mid to : Env} →
        HoldsPair qs key v →
        Match W p v env mid →
        MatchPairs W ps qs mid to →
        MatchPairs W (m.and_pat_pair t p ps) qs env to

  -- each pattern matches some value that its segment may hold. Arguments of segments aren't evaluated
  pub data MatchSegments (W : Value → Type 0) : m.PatSegments → Env → Env → Type 0 where
    match_no_segment : {env : Env} → MatchSegments W m.no_pat_segment env env
    match_segment :
        {p : m.Pattern} {ts : m.Trees} {ss : m.PatSegments} {v : Value} {env mid to : Env} →
        W v →
        IsOfSegment ts v →
        Match W p v env mid →
        MatchSegments W ss mid to →
        MatchSegments W (m.and_pat_segment p ts ss) env to

-- ---- missing

mutual
  pub data Miss : m.Pattern → Value → Type 0 where
    miss_literal : {k : Mark} {c : Literal} {v : Value} → LiteralMisses c v → Miss (m.equals k c) v
    miss_list : {k : Mark} {ps : m.Patterns} {p : m.Pattern} {v : Value} → MissList ps p v → Miss (m.list_of k ps p) v
    miss_no_tuple : {k : Mark} {ps : m.Patterns} {v : Value} → ((vs : Values) → v ≢ tuple vs) → Miss (m.tuple_of k ps) v
    miss_tuple : {k : Mark} {ps : m.Patterns} {vs : Values} → MissEach ps vs → Miss (m.tuple_of k ps) (tuple vs)
    miss_map : {k : Mark} {ps : m.PatPairs} {v : Value} → Miss (m.map_of k ps) v
    miss_binary : {k : Mark} {ss : m.PatSegments} {v : Value} → Miss (m.binary_of k ss) v
    miss_alias : {k : Mark} {x : VarName} {p : m.Pattern} {v : Value} → Miss p v → Miss (m.alias k x p) v

  -- there are more values, or fewer, or one is missed
  pub data MissEach : m.Patterns → Values → Type 0 where
    miss_more : {v : Value} {vs : Values} → MissEach m.no_pattern (and_value v vs)
    miss_fewer : {p : m.Pattern} {ps : m.Patterns} → MissEach (m.and_pattern p ps) no_value
    miss_here : {p : m.Pattern} {ps : m.Patterns} {v : Value} {vs : Values} → Miss p v → MissEach (m.and_pattern p ps) (and_value v vs)
    miss_later : {p : m.Pattern} {ps : m.Patterns} {v : Value} {vs : Values} → MissEach ps vs → MissEach (m.and_pattern p ps) (and_value v vs)

  -- where an element is wanted stands no list, or a part is missed
  pub data MissList : m.Patterns → m.Pattern → Value → Type 0 where
    miss_no_list : {p q : m.Pattern} {ps : m.Patterns} {v : Value} → ((h t : Value) → v ≢ cons h t) → MissList (m.and_pattern p ps) q v
    miss_head : {p q : m.Pattern} {ps : m.Patterns} {v w : Value} → Miss p v → MissList (m.and_pattern p ps) q (cons v w)
    miss_tail : {p q : m.Pattern} {ps : m.Patterns} {v w : Value} → MissList ps q w → MissList (m.and_pattern p ps) q (cons v w)
    miss_rest : {p : m.Pattern} {v : Value} → Miss p v → MissList m.no_pattern p v
