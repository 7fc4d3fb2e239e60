-- What the ways of the grammar make of their parts. Labels come afterwards: here each is 0.
use Rattle.std.specs.Prelude.{ℕ, ℤ, pos, List, [], ◌∷◌, map, Option, Some, None, Bool, true, false, if◌then◌else◌, nat_lt, nat_le, nat_eq, codes}
use Rattle.std.specs.Cmp.Lexicographic.{pointwise}
use Rattle.type_kinds.specs.declared.atom.Atom.{Atom}
use Rattle.type_kinds.specs.declared.place.Place.{Place}
use Rattle.core_ast.specs.declared.syntax.Note.{Note}
use Rattle.core_ast.specs.declared.syntax.Mark.{Mark}
use Rattle.core_ast.specs.declared.syntax.VarName.{VarName}
use Rattle.core_ast.specs.declared.syntax.FunName.{FunName}
use Rattle.core_ast.specs.declared.syntax.FunDefOf.{FunDefOf}
use Rattle.core_ast.specs.declared.syntax.Literal.{Literal}
use Rattle.core_ast.specs.declared.syntax.Literal.TheVariants as l
use Rattle.core_ast.specs.Model as m
use Rattle.core_ast.specs.Tree.{PairParts, pairs}
use Rattle.core_ast.specs.Notes.{marked}
use Rattle.core_parse_grammar.specs.declared.notes.Constant.{Constant}
use Rattle.core_parse_grammar.specs.declared.notes.Constant.TheVariants.{Number, Pair, Generated, Another}
use Rattle.core_scan.specs.declared.sort.TheConstants.{LARGEST_ARITY}
use Rattle.core_scan.specs.declared.token.TokenKind.{TokenKind}
use Rattle.core_scan.specs.declared.token.TokenKind.TheVariants as k
use Rattle.core_scan.specs.declared.token.Token.{Token}

-- What a token says

-- The name of a variable or an atom, the spelling of a float, the bytes of a string.
abbrev pub kind_text : TokenKind → List ℕ
kind_text (k.Variable name) = name
kind_text (k.Atom name) = name
kind_text (k.Float spelling) = spelling
kind_text (k.Text bytes) = bytes
kind_text _ = []

abbrev pub text : Token → List ℕ
text token = kind_text token.kind

-- The value of an integer or a character.
abbrev pub kind_value : TokenKind → ℤ
kind_value (k.Integer value bare) = value
kind_value (k.Char byte) = pos byte
kind_value _ = pos 0

abbrev pub value : Token → ℤ
value token = kind_value token.kind

abbrev pub magnitude : ℤ → ℕ
magnitude (pos n) = if nat_le n LARGEST_ARITY then n else 0
magnitude _ = 0

abbrev pub arity : Token → ℕ
arity token = magnitude (value token)

abbrev pub fun_name : Token → Token → FunName
fun_name name number = record { name = text name; arity = arity number }

-- Marks and notes

abbrev pub no_note : Note
no_note = record { line = None; generated = false }

abbrev pub at : Place → Mark
at place = record { label = 0; place = place; note = no_note }

-- x, or ( x -| [ .. ] ), with the note.
pub record Noted (A : Type 0) : Type 0 where
  pub value : A
  pub note : Option Note

abbrev pub note_option : {A : Type 0} → (Note → A → A) → A → Option Note → A
note_option f x None = x
note_option f x (Some n) = f n x

abbrev pub with_note : {A : Type 0} → (Note → A → A) → Noted A → A
with_note f x = note_option f x.value x.note

abbrev pub note_or_none : Option Note → Note
note_or_none None = no_note
note_or_none (Some n) = n

-- Constants, as far as a note asks for them

abbrev pub atom_constant : Atom → Constant
atom_constant name = if pointwise nat_eq name (codes "compiler_generated") then Generated else Another

abbrev pub literal_constant : Literal → Constant
literal_constant (l.Int n) = Number n
literal_constant (l.Atom name) = atom_constant name
literal_constant _ = Another

-- Two integers, and any other tuple.
abbrev pub tuple_constant : List Constant → Constant
tuple_constant (Number n ∷ Number q ∷ []) = Pair n
tuple_constant cs = Another

abbrev pub line_within : ℤ → Option ℕ
line_within (pos n) = if nat_lt 0 n then if nat_lt n 2147483648 then Some n else None else None
line_within _ = None

-- The line is the first element, or the first of a pair that is the first element.
abbrev pub line_of : List Constant → Option ℕ
line_of (Number n ∷ cs) = line_within n
line_of (Pair n ∷ cs) = line_within n
line_of cs = None

abbrev pub has_generated : List Constant → Bool
has_generated [] = false
has_generated (Generated ∷ cs) = true
has_generated (c ∷ cs) = has_generated cs

abbrev pub note_of : List Constant → Note
note_of cs = record { line = line_of cs; generated = has_generated cs }

-- Names and literals

-- A function's name, and the place of its atom.
pub record NameAt : Type 0 where
  pub place : Place
  pub name : FunName

pub record LiteralAt : Type 0 where
  pub place : Place
  pub value : Literal

abbrev pub variable_name : Place → Token → Note → VarName
variable_name place token note = record { name = text token; place = place; note = note }

-- The variable of an alias, and where the alias begins.
pub record VariableAt : Type 0 where
  pub place : Place
  pub name : VarName

abbrev pub variable_at : Place → VarName → VariableAt
variable_at place name = record { place = place; name = name }

abbrev pub literal_at : Token → Literal → LiteralAt
literal_at token value = record { place = token.place; value = value }

-- Lists and strings

-- The elements of a list and its tail: a tail that is merged gives its own elements.
pub record Items (A : Type 0) : Type 0 where
  pub items : List A
  pub tail : A

-- The same, and where the list begins.
pub record ItemsAt (A : Type 0) : Type 0 where
  pub place : Place
  pub items : List A
  pub tail : A

abbrev pub before_items : {A : Type 0} → Token → A → Items A → ItemsAt A
before_items token x r = record { place = token.place; items = x ∷ r.items; tail = r.tail }

abbrev pub next_item : {A : Type 0} → A → Items A → Items A
next_item x r = record { items = x ∷ r.items; tail = r.tail }

abbrev pub only_tail : {A : Type 0} → A → Items A
only_tail x = record { items = []; tail = x }

abbrev pub merged : {A : Type 0} → ItemsAt A → Items A
merged r = record { items = r.items; tail = r.tail }

abbrev pub nil : Place → m.Tree
nil place = m.literal (at place) l.Nil

abbrev pub nil_pattern : Place → m.Pattern
nil_pattern place = m.equals (at place) l.Nil

abbrev pub byte_trees : Place → List ℕ → List m.Tree
byte_trees place [] = []
byte_trees place (b ∷ bs) = m.literal (at place) (l.Int (pos b)) ∷ byte_trees place bs

abbrev pub byte_patterns : Place → List ℕ → List m.Pattern
byte_patterns place [] = []
byte_patterns place (b ∷ bs) = m.equals (at place) (l.Int (pos b)) ∷ byte_patterns place bs

-- A string is the list of its bytes, each at the place of the string.
abbrev pub string_items : Token → ItemsAt m.Tree
string_items token = record { place = token.place; items = byte_trees token.place (text token); tail = nil token.place }

abbrev pub string_patterns : Token → ItemsAt m.Pattern
string_patterns token = record { place = token.place; items = byte_patterns token.place (text token); tail = nil_pattern token.place }

-- Chains

-- A step of a chain, without the rest: a `let` or a `do`.
pub data StepParts : Type 0 where
  let_ : List VarName → m.Tree → StepParts
  do_ : m.Tree → StepParts

abbrev pub and_step : Mark → StepParts → m.Steps → m.Steps
and_step mark (let_ xs t) ss = m.and_let mark xs t ss
and_step mark (do_ t) ss = m.and_do mark t ss

-- A step before what follows it. In front of a chain it is the chain's first step.
abbrev pub before : Place → StepParts → m.Tree → m.Tree
before place x (m.chain mark ss last) = m.chain (at place) (and_step (at place) x ss) last
before place x last = m.chain (at place) (and_step (at place) x m.no_step) last

-- A chain, which no expression but a `let` or a `do` is.
abbrev pub is_chain : m.Tree → Bool
is_chain (m.chain mark ss t) = true
is_chain t = false

-- Maps

-- The pairs of a map, and the map after the bar.
pub record MapParts : Type 0 where
  pub pairs : List PairParts
  pub updated : Option m.Tree

abbrev pub next_pair : PairParts → MapParts → MapParts
next_pair p r = record { pairs = p ∷ r.pairs; updated = r.updated }

abbrev pub map_tree : Mark → m.Pairs → Option m.Tree → m.Tree
map_tree mark ps None = m.new_map mark ps
map_tree mark ps (Some t) = m.updated_map mark ps t

abbrev pub map_at : Place → MapParts → m.Tree
map_at place r = map_tree (at place) (pairs r.pairs) r.updated

-- Patterns and clauses

-- The mark of a pattern.
abbrev pub mark_of : m.Pattern → Mark
mark_of (m.binds mark x) = mark
mark_of (m.equals mark l) = mark
mark_of (m.list_of mark ps p) = mark
mark_of (m.tuple_of mark ps) = mark
mark_of (m.map_of mark ps) = mark
mark_of (m.binary_of mark ss) = mark
mark_of (m.alias mark x p) = mark

-- The patterns of a clause, and where they begin.
pub record PatternsAt : Type 0 where
  pub place : Place
  pub patterns : List m.Pattern

abbrev pub patterns_at : Place → List m.Pattern → PatternsAt
patterns_at place ps = record { place = place; patterns = ps }

-- Definitions and the module

-- The fun of a definition, which has the definition's mark.
pub record FunctionParts : Type 0 where
  pub mark : Mark
  pub params : List VarName
  pub body : m.Tree

abbrev pub note_function : Note → FunctionParts → FunctionParts
note_function n f = record f { mark = marked n f.mark }

abbrev pub definition_of : FunName → FunctionParts → FunDefOf m.Tree
definition_of name f = record { name = name; mark = f.mark; fun = record { params = f.params; body = f.body } }

abbrev pub export_names : List (Noted NameAt) → List FunName
export_names es = map (λ (e : Noted NameAt). e.value.name) es

abbrev pub export_places : List (Noted NameAt) → List Place
export_places es = map (λ (e : Noted NameAt). e.value.place) es

abbrev pub module_of : Token → List (Noted NameAt) → m.Defs → m.Module
module_of name es ds = record { name = text name; exports = export_names es; export_places = export_places es; defs = ds; note = no_note }

abbrev pub note_module : Note → m.Module → m.Module
note_module n x = record x { note = n }
