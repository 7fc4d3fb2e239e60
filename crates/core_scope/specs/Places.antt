-- The pieces of a module: what its rules walk through, each with what it sees and what is asked of it.
use Rattle.std.specs.Prelude.{◌≡◌, ℕ, Bool, List, [], ◌++◌, length}
use Rattle.type_kinds.specs.declared.atom.Atom.{Atom}
use Rattle.core_ast.specs.declared.syntax.Mark.{Mark}
use Rattle.core_ast.specs.declared.syntax.VarName.{VarName}
use Rattle.core_ast.specs.declared.syntax.FunName.{FunName}
use Rattle.core_ast.specs.Model as m
use Rattle.core_ast.specs.Lengths.{how_many_patterns}
use Rattle.core_scope.specs.declared.ask.Ask.{Ask}
use Rattle.core_scope.specs.declared.ask.Ask.TheVariants.{AnyNumber, Exactly}
use Rattle.core_scope.specs.declared.fault.Break.{Break}
use Rattle.core_scope.specs.Names.{bound, bound_by, pattern_bound, patterns_bound, steps_bound, defined_names, Scope, with_variables, with_functions, module_scope}
use Rattle.core_scope.specs.Asks.{one_value, width}
use Rattle.core_scope.specs.Breaks.{breaks, all_breaks, pair_breaks, segment_breaks, step_breaks, clause_breaks, def_breaks, pattern_breaks, patterns_breaks, pat_pair_breaks, pat_segment_breaks}

-- A piece of a module with the scope that it sees; an expression with what its place asks for, clauses
-- with how many patterns each is to have, a pattern with what those before it bind.
pub data Piece : Type 0 where
  expression : Scope → Ask → m.Tree → Piece
  expressions : Scope → m.Trees → Piece
  pairs : Scope → m.Pairs → Piece
  segments : Scope → m.Segments → Piece
  steps : Scope → m.Steps → Piece
  clauses : Scope → Ask → ℕ → m.Clauses → Piece
  definitions : Scope → m.Defs → Piece
  pattern : Scope → (before : List Atom) → m.Pattern → Piece
  patterns : Scope → (before : List Atom) → m.Patterns → Piece
  pattern_pairs : Scope → (before : List Atom) → m.PatPairs → Piece
  pattern_segments : Scope → (before : List Atom) → m.PatSegments → Piece

-- The second is a part of the first: an operand of a form, or a list's first item or what follows it.
pub data HasPart : Piece → Piece → Type 0 where
  -- the parts of an expression
  function_body : {s : Scope} {k : Ask} {i : Mark} {xs : List VarName} {t : m.Tree} → HasPart (expression s k (m.function i xs t)) (expression (with_variables s (bound_by xs)) one_value t)
  listed_items : {s : Scope} {k : Ask} {i : Mark} {ts : m.Trees} {t : m.Tree} → HasPart (expression s k (m.listed i ts t)) (expressions s ts)
  listed_rest : {s : Scope} {k : Ask} {i : Mark} {ts : m.Trees} {t : m.Tree} → HasPart (expression s k (m.listed i ts t)) (expression s one_value t)
  tuple_items : {s : Scope} {k : Ask} {i : Mark} {ts : m.Trees} → HasPart (expression s k (m.tuple i ts)) (expressions s ts)
  new_map_pairs : {s : Scope} {k : Ask} {i : Mark} {ps : m.Pairs} → HasPart (expression s k (m.new_map i ps)) (pairs s ps)
  updated_map_pairs : {s : Scope} {k : Ask} {i : Mark} {ps : m.Pairs} {t : m.Tree} → HasPart (expression s k (m.updated_map i ps t)) (pairs s ps)
  updated_map_itself : {s : Scope} {k : Ask} {i : Mark} {ps : m.Pairs} {t : m.Tree} → HasPart (expression s k (m.updated_map i ps t)) (expression s one_value t)
  binary_segments : {s : Scope} {k : Ask} {i : Mark} {ss : m.Segments} → HasPart (expression s k (m.binary i ss)) (segments s ss)
  values_items : {s : Scope} {k : Ask} {i : Mark} {ts : m.Trees} → HasPart (expression s k (m.values i ts)) (expressions s ts)
  chain_steps : {s : Scope} {k : Ask} {i : Mark} {ss : m.Steps} {t : m.Tree} → HasPart (expression s k (m.chain i ss t)) (steps s ss)
  chain_end : {s : Scope} {k : Ask} {i : Mark} {ss : m.Steps} {t : m.Tree} → HasPart (expression s k (m.chain i ss t)) (expression (with_variables s (steps_bound ss)) k t)
  case_argument : {s : Scope} {k : Ask} {i : Mark} {t : m.Tree} {cs : m.Clauses} → HasPart (expression s k (m.case i t cs)) (expression s (Exactly (width cs)) t)
  case_clauses : {s : Scope} {k : Ask} {i : Mark} {t : m.Tree} {cs : m.Clauses} → HasPart (expression s k (m.case i t cs)) (clauses s k (width cs) cs)
  letrec_definitions : {s : Scope} {k : Ask} {i : Mark} {ds : m.Defs} {t : m.Tree} → HasPart (expression s k (m.letrec i ds t)) (definitions (with_functions s (defined_names ds)) ds)
  letrec_body : {s : Scope} {k : Ask} {i : Mark} {ds : m.Defs} {t : m.Tree} → HasPart (expression s k (m.letrec i ds t)) (expression (with_functions s (defined_names ds)) k t)
  apply_function : {s : Scope} {k : Ask} {i : Mark} {t : m.Tree} {ts : m.Trees} → HasPart (expression s k (m.apply i t ts)) (expression s one_value t)
  apply_arguments : {s : Scope} {k : Ask} {i : Mark} {t : m.Tree} {ts : m.Trees} → HasPart (expression s k (m.apply i t ts)) (expressions s ts)
  call_module : {s : Scope} {k : Ask} {i : Mark} {t u : m.Tree} {ts : m.Trees} → HasPart (expression s k (m.call i t u ts)) (expression s one_value t)
  call_name : {s : Scope} {k : Ask} {i : Mark} {t u : m.Tree} {ts : m.Trees} → HasPart (expression s k (m.call i t u ts)) (expression s one_value u)
  call_arguments : {s : Scope} {k : Ask} {i : Mark} {t u : m.Tree} {ts : m.Trees} → HasPart (expression s k (m.call i t u ts)) (expressions s ts)
  primop_arguments : {s : Scope} {k : Ask} {i : Mark} {x : Atom} {ts : m.Trees} → HasPart (expression s k (m.primop i x ts)) (expressions s ts)
  try_argument : {s : Scope} {k : Ask} {i : Mark} {t : m.Tree} {xs : List VarName} {u : m.Tree} {ys : List VarName} {w : m.Tree} → HasPart (expression s k (m.try i t xs u ys w)) (expression s (Exactly (length xs)) t)
  try_body : {s : Scope} {k : Ask} {i : Mark} {t : m.Tree} {xs : List VarName} {u : m.Tree} {ys : List VarName} {w : m.Tree} → HasPart (expression s k (m.try i t xs u ys w)) (expression (with_variables s (bound_by xs)) k u)
  try_handler : {s : Scope} {k : Ask} {i : Mark} {t : m.Tree} {xs : List VarName} {u : m.Tree} {ys : List VarName} {w : m.Tree} → HasPart (expression s k (m.try i t xs u ys w)) (expression (with_variables s (bound_by ys)) k w)
  receive_clauses : {s : Scope} {k : Ask} {i : Mark} {cs : m.Clauses} {t u : m.Tree} → HasPart (expression s k (m.receive i cs t u)) (clauses s k 1 cs)
  receive_timeout : {s : Scope} {k : Ask} {i : Mark} {cs : m.Clauses} {t u : m.Tree} → HasPart (expression s k (m.receive i cs t u)) (expression s one_value t)
  receive_action : {s : Scope} {k : Ask} {i : Mark} {cs : m.Clauses} {t u : m.Tree} → HasPart (expression s k (m.receive i cs t u)) (expression s k u)
  catch_argument : {s : Scope} {k : Ask} {i : Mark} {t : m.Tree} → HasPart (expression s k (m.catch i t)) (expression s one_value t)
  -- the first of a list, and those after it
  first_expression : {s : Scope} {t : m.Tree} {ts : m.Trees} → HasPart (expressions s (m.and_tree t ts)) (expression s one_value t)
  other_expressions : {s : Scope} {t : m.Tree} {ts : m.Trees} → HasPart (expressions s (m.and_tree t ts)) (expressions s ts)
  first_key : {s : Scope} {exact : Bool} {t u : m.Tree} {ps : m.Pairs} → HasPart (pairs s (m.and_pair exact t u ps)) (expression s one_value t)
  first_value : {s : Scope} {exact : Bool} {t u : m.Tree} {ps : m.Pairs} → HasPart (pairs s (m.and_pair exact t u ps)) (expression s one_value u)
  other_pairs : {s : Scope} {exact : Bool} {t u : m.Tree} {ps : m.Pairs} → HasPart (pairs s (m.and_pair exact t u ps)) (pairs s ps)
  first_segment : {s : Scope} {t : m.Tree} {ts : m.Trees} {ss : m.Segments} → HasPart (segments s (m.and_segment t ts ss)) (expression s one_value t)
  segment_arguments : {s : Scope} {t : m.Tree} {ts : m.Trees} {ss : m.Segments} → HasPart (segments s (m.and_segment t ts ss)) (expressions s ts)
  other_segments : {s : Scope} {t : m.Tree} {ts : m.Trees} {ss : m.Segments} → HasPart (segments s (m.and_segment t ts ss)) (segments s ss)
  let_argument : {s : Scope} {i : Mark} {xs : List VarName} {t : m.Tree} {ss : m.Steps} → HasPart (steps s (m.and_let i xs t ss)) (expression s (Exactly (length xs)) t)
  after_let : {s : Scope} {i : Mark} {xs : List VarName} {t : m.Tree} {ss : m.Steps} → HasPart (steps s (m.and_let i xs t ss)) (steps (with_variables s (bound_by xs)) ss)
  do_argument : {s : Scope} {i : Mark} {t : m.Tree} {ss : m.Steps} → HasPart (steps s (m.and_do i t ss)) (expression s AnyNumber t)
  after_do : {s : Scope} {i : Mark} {t : m.Tree} {ss : m.Steps} → HasPart (steps s (m.and_do i t ss)) (steps s ss)
  clause_patterns : {s : Scope} {k : Ask} {n : ℕ} {i : Mark} {ps : m.Patterns} {t u : m.Tree} {cs : m.Clauses} → HasPart (clauses s k n (m.and_clause i ps t u cs)) (patterns s [] ps)
  clause_guard : {s : Scope} {k : Ask} {n : ℕ} {i : Mark} {ps : m.Patterns} {t u : m.Tree} {cs : m.Clauses} → HasPart (clauses s k n (m.and_clause i ps t u cs)) (expression (with_variables s (patterns_bound ps)) one_value t)
  clause_body : {s : Scope} {k : Ask} {n : ℕ} {i : Mark} {ps : m.Patterns} {t u : m.Tree} {cs : m.Clauses} → HasPart (clauses s k n (m.and_clause i ps t u cs)) (expression (with_variables s (patterns_bound ps)) k u)
  other_clauses : {s : Scope} {k : Ask} {n : ℕ} {i : Mark} {ps : m.Patterns} {t u : m.Tree} {cs : m.Clauses} → HasPart (clauses s k n (m.and_clause i ps t u cs)) (clauses s k n cs)
  definition_body : {s : Scope} {f : FunName} {i : Mark} {xs : List VarName} {t : m.Tree} {ds : m.Defs} → HasPart (definitions s (m.and_def f i xs t ds)) (expression (with_variables s (bound_by xs)) one_value t)
  other_definitions : {s : Scope} {f : FunName} {i : Mark} {xs : List VarName} {t : m.Tree} {ds : m.Defs} → HasPart (definitions s (m.and_def f i xs t ds)) (definitions s ds)
  -- the parts of a pattern
  list_patterns : {s : Scope} {before : List Atom} {i : Mark} {ps : m.Patterns} {p : m.Pattern} → HasPart (pattern s before (m.list_of i ps p)) (patterns s before ps)
  rest_pattern : {s : Scope} {before : List Atom} {i : Mark} {ps : m.Patterns} {p : m.Pattern} → HasPart (pattern s before (m.list_of i ps p)) (pattern s (before ++ patterns_bound ps) p)
  tuple_patterns : {s : Scope} {before : List Atom} {i : Mark} {ps : m.Patterns} → HasPart (pattern s before (m.tuple_of i ps)) (patterns s before ps)
  map_pairs : {s : Scope} {before : List Atom} {i : Mark} {ps : m.PatPairs} → HasPart (pattern s before (m.map_of i ps)) (pattern_pairs s before ps)
  binary_patterns : {s : Scope} {before : List Atom} {i : Mark} {ss : m.PatSegments} → HasPart (pattern s before (m.binary_of i ss)) (pattern_segments s before ss)
  alias_pattern : {s : Scope} {before : List Atom} {i : Mark} {y : VarName} {p : m.Pattern} → HasPart (pattern s before (m.alias i y p)) (pattern s (before ++ bound y.name) p)
  first_pattern : {s : Scope} {before : List Atom} {p : m.Pattern} {ps : m.Patterns} → HasPart (patterns s before (m.and_pattern p ps)) (pattern s before p)
  other_patterns : {s : Scope} {before : List Atom} {p : m.Pattern} {ps : m.Patterns} → HasPart (patterns s before (m.and_pattern p ps)) (patterns s (before ++ pattern_bound p) ps)
  pattern_key : {s : Scope} {before : List Atom} {t : m.Tree} {p : m.Pattern} {ps : m.PatPairs} → HasPart (pattern_pairs s before (m.and_pat_pair t p ps)) (expression (with_variables s before) one_value t)
  pattern_value : {s : Scope} {before : List Atom} {t : m.Tree} {p : m.Pattern} {ps : m.PatPairs} → HasPart (pattern_pairs s before (m.and_pat_pair t p ps)) (pattern s before p)
  other_pattern_pairs : {s : Scope} {before : List Atom} {t : m.Tree} {p : m.Pattern} {ps : m.PatPairs} → HasPart (pattern_pairs s before (m.and_pat_pair t p ps)) (pattern_pairs s (before ++ pattern_bound p) ps)
  segment_pattern : {s : Scope} {before : List Atom} {p : m.Pattern} {ts : m.Trees} {ss : m.PatSegments} → HasPart (pattern_segments s before (m.and_pat_segment p ts ss)) (pattern s before p)
  pattern_arguments : {s : Scope} {before : List Atom} {p : m.Pattern} {ts : m.Trees} {ss : m.PatSegments} → HasPart (pattern_segments s before (m.and_pat_segment p ts ss)) (expressions (with_variables s (before ++ pattern_bound p)) ts)
  other_pattern_segments : {s : Scope} {before : List Atom} {p : m.Pattern} {ts : m.Trees} {ss : m.PatSegments} → HasPart (pattern_segments s before (m.and_pat_segment p ts ss)) (pattern_segments s (before ++ pattern_bound p) ss)

-- The second stands in the first: it is the first itself, or a part of what stands there.
pub data StandsIn (outer : Piece) : Piece → Type 0 where
  itself : StandsIn outer outer
  deeper : {p q : Piece} → StandsIn outer p → HasPart p q → StandsIn outer q

-- The piece stands in the module: in its definitions, which see what the module defines.
abbrev pub StandsInModule : m.Module → Piece → Type 0
StandsInModule x p = StandsIn (definitions (module_scope x) x.defs) p

-- What a piece breaks.
abbrev pub piece_breaks : Piece → List Break
piece_breaks (expression s k t) = breaks s k t
piece_breaks (expressions s ts) = all_breaks s ts
piece_breaks (pairs s ps) = pair_breaks s ps
piece_breaks (segments s ss) = segment_breaks s ss
piece_breaks (steps s ss) = step_breaks s ss
piece_breaks (clauses s k n cs) = clause_breaks s k n cs
piece_breaks (definitions s ds) = def_breaks s ds
piece_breaks (pattern s before p) = pattern_breaks s before p
piece_breaks (patterns s before ps) = patterns_breaks s before ps
piece_breaks (pattern_pairs s before ps) = pat_pair_breaks s before ps
piece_breaks (pattern_segments s before ss) = pat_segment_breaks s before ss

-- Each clause has n patterns.
abbrev pub HaveWidth : ℕ → m.Clauses → Type 0
HaveWidth n m.no_clause = Unit {0}
HaveWidth n (m.and_clause i ps guard t cs) = (how_many_patterns ps ≡ n) × HaveWidth n cs

-- Each definition has as many parameters as its name's arity.
abbrev pub HaveArity : m.Defs → Type 0
HaveArity m.no_def = Unit {0}
HaveArity (m.and_def f i xs t ds) = (length xs ≡ f.arity) × HaveArity ds
