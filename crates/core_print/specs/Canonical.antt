-- The canonical text of a module: its words with one space between each two, and LF at the end. Each
-- definition gives the words of a part, in front of the words that follow.
use Rattle.std.specs.Prelude.{ℕ, pos, List, [], ◌∷◌, Bool, true, false, if◌then◌else◌, Option, Some, None, codes}
use Rattle.core_ast.specs.declared.syntax.Note.{Note}
use Rattle.core_ast.specs.declared.syntax.VarName.{VarName}
use Rattle.core_ast.specs.declared.syntax.FunName.{FunName}
use Rattle.core_ast.specs.declared.syntax.Literal.{Literal}
use Rattle.core_ast.specs.declared.syntax.Literal.TheVariants as l
use Rattle.core_ast.specs.Model as m
use Rattle.core_print.specs.Words.{Word, reserved, symbol, variable, atom, integer, float, line}

-- The words of a part, in front of those that follow it.
abbrev pub Words : Type 0
Words = List Word → List Word

-- Notes

-- A note with a line or with `generated` is written.
abbrev pub is_written : Option ℕ → Bool → Bool
is_written None false = false
is_written line generated = true

-- The line stands first.
abbrev pub note_items : Option ℕ → Bool → Words
note_items None false rest = rest
note_items None true rest = atom (codes "compiler_generated") ∷ rest
note_items (Some n) false rest = integer (pos n) ∷ rest
note_items (Some n) true rest = integer (pos n) ∷ symbol (codes ",") ∷ atom (codes "compiler_generated") ∷ rest

-- -| [ .. ] )
abbrev pub annotation : Note → Words
annotation n rest = symbol (codes "-|") ∷ symbol (codes "[") ∷ note_items n.line n.generated (symbol (codes "]") ∷ symbol (codes ")") ∷ rest)

-- What stands before and behind that to which a note belongs, where it is written.
abbrev pub opened : Note → Words
opened n rest = if is_written n.line n.generated then symbol (codes "(") ∷ rest else rest

abbrev pub closed : Note → Words
closed n rest = if is_written n.line n.generated then annotation n rest else rest

abbrev pub noted : Note → Words → Words
noted n inner rest = opened n (inner (closed n rest))

-- Leaves

-- A comma, but before the first item.
abbrev pub comma : Bool → Words
comma true rest = rest
comma false rest = symbol (codes ",") ∷ rest

abbrev pub function_name : FunName → Words
function_name f rest = atom f.name ∷ symbol (codes "/") ∷ integer (pos f.arity) ∷ rest

-- A float keeps its spelling.
abbrev pub literal : Literal → Words
literal (l.Int n) rest = integer n ∷ rest
literal (l.Float spelling) rest = float spelling ∷ rest
literal (l.Atom name) rest = atom name ∷ rest
literal l.Nil rest = symbol (codes "[") ∷ symbol (codes "]") ∷ rest

-- A literal as the tail of a list: a nil without a note is left out.
abbrev pub literal_tail : Note → Literal → Words
literal_tail n l.Nil rest = if is_written n.line n.generated then symbol (codes "|") ∷ noted n (literal l.Nil) rest else rest
literal_tail n l rest = symbol (codes "|") ∷ noted n (literal l) rest

abbrev pub variable_in_list : VarName → Words
variable_in_list x = noted x.note (λ rest. variable x.name ∷ rest)

abbrev pub variables : Bool → List VarName → Words
variables first [] rest = rest
variables first (x ∷ xs) rest = comma first (variable_in_list x (variables false xs rest))

abbrev pub exports : Bool → List FunName → Words
exports first [] rest = rest
exports first (f ∷ fs) rest = comma first (function_name f (exports false fs rest))

-- The note of an expression and of a pattern is that of its mark.
abbrev pub note_of : m.Tree → Note
note_of (m.variable k x) = k.note
note_of (m.local k f) = k.note
note_of (m.external k x f) = k.note
note_of (m.literal k l) = k.note
note_of (m.function k xs t) = k.note
note_of (m.listed k ts t) = k.note
note_of (m.tuple k ts) = k.note
note_of (m.new_map k ps) = k.note
note_of (m.updated_map k ps t) = k.note
note_of (m.binary k ss) = k.note
note_of (m.values k ts) = k.note
note_of (m.chain k ss t) = k.note
note_of (m.case k t cs) = k.note
note_of (m.letrec k ds t) = k.note
note_of (m.apply k t ts) = k.note
note_of (m.call k t u ts) = k.note
note_of (m.primop k x ts) = k.note
note_of (m.try k t xs u ys w) = k.note
note_of (m.receive k cs t u) = k.note
note_of (m.catch k t) = k.note

abbrev pub pattern_note_of : m.Pattern → Note
pattern_note_of (m.binds k x) = k.note
pattern_note_of (m.equals k l) = k.note
pattern_note_of (m.list_of k ps p) = k.note
pattern_note_of (m.tuple_of k ps) = k.note
pattern_note_of (m.map_of k ps) = k.note
pattern_note_of (m.binary_of k ss) = k.note
pattern_note_of (m.alias k x p) = k.note

-- The tail of a list, whose words but for its note are `plain`. A list with elements is always in
-- annotation brackets, since without them it would be merged.
abbrev pub tail : m.Tree → Words → Words
tail (m.literal k l) plain rest = literal_tail k.note l rest
tail (m.listed k ts t) plain rest = symbol (codes "|") ∷ symbol (codes "(") ∷ plain (annotation k.note rest)
tail t plain rest = symbol (codes "|") ∷ noted (note_of t) plain rest

abbrev pub pattern_tail : m.Pattern → Words → Words
pattern_tail (m.equals k l) plain rest = literal_tail k.note l rest
pattern_tail (m.list_of k ps p) plain rest = symbol (codes "|") ∷ symbol (codes "(") ∷ plain (annotation k.note rest)
pattern_tail p plain rest = symbol (codes "|") ∷ noted (pattern_note_of p) plain rest

-- Trees

abbrev mutual
  -- The words of an expression, but for its note.
  pub plain : m.Tree → Words
  plain (m.variable k x) rest = variable x ∷ rest
  plain (m.local k f) rest = function_name f rest
  plain (m.external k x f) rest = reserved (codes "fun") ∷ atom x ∷ symbol (codes ":") ∷ function_name f rest
  plain (m.literal k l) rest = literal l rest
  plain (m.function k xs t) rest = reserved (codes "fun") ∷ symbol (codes "(") ∷ variables true xs (symbol (codes ")") ∷ symbol (codes "->") ∷ noted (note_of t) (plain t) rest)
  plain (m.listed k ts t) rest = symbol (codes "[") ∷ expressions true ts (tail t (plain t) (symbol (codes "]") ∷ rest))
  plain (m.tuple k ts) rest = symbol (codes "{") ∷ expressions true ts (symbol (codes "}") ∷ rest)
  plain (m.new_map k ps) rest = symbol (codes "~{") ∷ pairs true ps (symbol (codes "}~") ∷ rest)
  plain (m.updated_map k ps t) rest = symbol (codes "~{") ∷ pairs true ps (symbol (codes "|") ∷ noted (note_of t) (plain t) (symbol (codes "}~") ∷ rest))
  plain (m.binary k ss) rest = symbol (codes "#{") ∷ segments true ss (symbol (codes "}#") ∷ rest)
  plain (m.values k ts) rest = symbol (codes "<") ∷ expressions true ts (symbol (codes ">") ∷ rest)
  plain (m.chain k ss t) rest = steps ss (noted (note_of t) (plain t)) rest
  plain (m.case k t cs) rest = reserved (codes "case") ∷ noted (note_of t) (plain t) (reserved (codes "of") ∷ clauses cs (reserved (codes "end") ∷ rest))
  plain (m.letrec k ds t) rest = reserved (codes "letrec") ∷ definitions ds (reserved (codes "in") ∷ noted (note_of t) (plain t) rest)
  plain (m.apply k t ts) rest = reserved (codes "apply") ∷ noted (note_of t) (plain t) (symbol (codes "(") ∷ expressions true ts (symbol (codes ")") ∷ rest))
  plain (m.call k t u ts) rest = reserved (codes "call") ∷ noted (note_of t) (plain t) (symbol (codes ":") ∷ noted (note_of u) (plain u) (symbol (codes "(") ∷ expressions true ts (symbol (codes ")") ∷ rest)))
  plain (m.primop k x ts) rest = reserved (codes "primop") ∷ atom x ∷ symbol (codes "(") ∷ expressions true ts (symbol (codes ")") ∷ rest)
  plain (m.try k t xs u ys w) rest =
      reserved (codes "try") ∷ noted (note_of t) (plain t)
      (reserved (codes "of") ∷ symbol (codes "<") ∷ variables true xs (symbol (codes ">") ∷ symbol (codes "->") ∷ noted (note_of u) (plain u)
      (reserved (codes "catch") ∷ symbol (codes "<") ∷ variables true ys (symbol (codes ">") ∷ symbol (codes "->") ∷ noted (note_of w) (plain w) rest))))
  plain (m.receive k cs t u) rest = reserved (codes "receive") ∷ clauses cs (reserved (codes "after") ∷ noted (note_of t) (plain t) (symbol (codes "->") ∷ noted (note_of u) (plain u) rest))
  plain (m.catch k t) rest = reserved (codes "catch") ∷ noted (note_of t) (plain t) rest

  -- Items with commas between them; `true` says that the first item comes first.
  pub expressions : Bool → m.Trees → Words
  expressions first m.no_tree rest = rest
  expressions first (m.and_tree t ts) rest = comma first (noted (note_of t) (plain t) (expressions false ts rest))

  pub pairs : Bool → m.Pairs → Words
  pairs first m.no_pair rest = rest
  pairs first (m.and_pair exact t u ps) rest = comma first (noted (note_of t) (plain t) (symbol (if exact then codes ":=" else codes "=>") ∷ noted (note_of u) (plain u) (pairs false ps rest)))

  pub segments : Bool → m.Segments → Words
  segments first m.no_segment rest = rest
  segments first (m.and_segment t ts ss) rest = comma first (symbol (codes "#<") ∷ noted (note_of t) (plain t) (symbol (codes ">") ∷ symbol (codes "(") ∷ expressions true ts (symbol (codes ")") ∷ segments false ss rest)))

  -- The steps of a chain and what comes last. The annotation of a step takes in all that follows it.
  pub steps : m.Steps → Words → Words
  steps m.no_step last rest = last rest
  steps (m.and_let k xs t ss) last rest = opened k.note (reserved (codes "let") ∷ symbol (codes "<")
      ∷ variables true xs (symbol (codes ">") ∷ symbol (codes "=") ∷ noted (note_of t) (plain t) (reserved (codes "in") ∷ steps ss last (closed k.note rest))))
  steps (m.and_do k t ss) last rest = opened k.note (reserved (codes "do") ∷ noted (note_of t) (plain t) (steps ss last (closed k.note rest)))

  pub clauses : m.Clauses → Words
  clauses m.no_clause rest = rest
  clauses (m.and_clause k ps g t cs) rest =
      opened k.note (symbol (codes "<") ∷ patterns true ps (symbol (codes ">") ∷ reserved (codes "when") ∷ noted (note_of g) (plain g)
      (symbol (codes "->") ∷ noted (note_of t) (plain t) (closed k.note (clauses cs rest)))))

  pub definitions : m.Defs → Words
  definitions m.no_def rest = rest
  definitions (m.and_def f k xs t ds) rest =
      function_name f (symbol (codes "=") ∷ opened k.note (reserved (codes "fun") ∷ symbol (codes "(") ∷ variables true xs (symbol (codes ")") ∷ symbol (codes "->") ∷ noted (note_of t) (plain t)
      (closed k.note (definitions ds rest)))))

  -- The words of a pattern, but for its note.
  pub plain_pattern : m.Pattern → Words
  plain_pattern (m.binds k x) rest = variable x ∷ rest
  plain_pattern (m.equals k l) rest = literal l rest
  plain_pattern (m.list_of k ps p) rest = symbol (codes "[") ∷ patterns true ps (pattern_tail p (plain_pattern p) (symbol (codes "]") ∷ rest))
  plain_pattern (m.tuple_of k ps) rest = symbol (codes "{") ∷ patterns true ps (symbol (codes "}") ∷ rest)
  plain_pattern (m.map_of k ps) rest = symbol (codes "~{") ∷ pat_pairs true ps (symbol (codes "}~") ∷ rest)
  plain_pattern (m.binary_of k ss) rest = symbol (codes "#{") ∷ pat_segments true ss (symbol (codes "}#") ∷ rest)
  plain_pattern (m.alias k x p) rest = variable_in_list x (symbol (codes "=") ∷ noted (pattern_note_of p) (plain_pattern p) rest)

  pub patterns : Bool → m.Patterns → Words
  patterns first m.no_pattern rest = rest
  patterns first (m.and_pattern p ps) rest = comma first (noted (pattern_note_of p) (plain_pattern p) (patterns false ps rest))

  pub pat_pairs : Bool → m.PatPairs → Words
  pat_pairs first m.no_pat_pair rest = rest
  pat_pairs first (m.and_pat_pair t p ps) rest = comma first (noted (note_of t) (plain t) (symbol (codes ":=") ∷ noted (pattern_note_of p) (plain_pattern p) (pat_pairs false ps rest)))

  pub pat_segments : Bool → m.PatSegments → Words
  pat_segments first m.no_pat_segment rest = rest
  pat_segments first (m.and_pat_segment p ts ss) rest = comma first (symbol (codes "#<")
      ∷ noted (pattern_note_of p) (plain_pattern p) (symbol (codes ">") ∷ symbol (codes "(") ∷ expressions true ts (symbol (codes ")") ∷ pat_segments false ss rest)))

-- An expression and a pattern with their notes.
abbrev pub expression : m.Tree → Words
expression t = noted (note_of t) (plain t)

abbrev pub pattern : m.Pattern → Words
pattern p = noted (pattern_note_of p) (plain_pattern p)

-- A module. Its attributes are empty.
abbrev pub plain_module : m.Module → Words
plain_module x rest =
    reserved (codes "module") ∷ atom x.name ∷ symbol (codes "[") ∷ exports true x.exports
    (symbol (codes "]") ∷ reserved (codes "attributes") ∷ symbol (codes "[") ∷ symbol (codes "]") ∷ definitions x.defs (reserved (codes "end") ∷ rest))

abbrev pub module_words : m.Module → List Word
module_words x = noted x.note (plain_module x) []

-- The canonical text.
abbrev pub canonical : m.Module → List ℕ
canonical x = line (module_words x)
