-- The grammar of Core Erlang 1.0.3, with the maps of later compilers, as data. Each nonterminal has its
-- ways; a way is a row of parts, and what they say together. Where a nonterminal has a number, it is the
-- depth of its nodes. `A x` is x, or x in annotation brackets.
use Rattle.std.specs.Prelude.{ℕ, ◌+◌, List, [], ◌∷◌, Some, None, true, false}
use Rattle.core_ast.specs.declared.syntax.Note.{Note}
use Rattle.core_ast.specs.declared.syntax.VarName.{VarName}
use Rattle.core_ast.specs.declared.syntax.FunDefOf.{FunDefOf}
use Rattle.core_ast.specs.declared.syntax.Literal.TheVariants as l
use Rattle.core_ast.specs.Model as m
use Rattle.core_ast.specs.Notes.{note_tree, noted_pattern, noted_clause}
use Rattle.core_ast.specs.Tree.{trees, patterns, clauses, segments, pat_segments, pat_pairs, defs, ClauseParts, SegmentParts, PatSegmentParts, PairParts, PatPairParts}
use Rattle.core_scan.specs.declared.token.Token.{Token}
use Rattle.core_scan.specs.declared.sort.Sort.{Sort}
use Rattle.core_scan.specs.declared.sort.Sort.TheVariants as s
use Rattle.core_parse_grammar.specs.declared.notes.Constant.{Constant}
use Rattle.core_parse_grammar.specs.declared.notes.Constant.TheVariants.{Another}
use Rattle.core_parse_grammar.specs.Build.{text, value, fun_name, no_note, at, Noted, with_note, note_or_none, literal_constant, tuple_constant, note_of, NameAt, LiteralAt, variable_name}
use Rattle.core_parse_grammar.specs.Build.{VariableAt, variable_at, literal_at, Items, ItemsAt, before_items, next_item, only_tail, merged, nil, nil_pattern, string_items, string_patterns, let_}
use Rattle.core_parse_grammar.specs.Build.{do_, before, MapParts, next_pair, map_at, mark_of, PatternsAt, patterns_at, FunctionParts, note_function, definition_of, module_of, note_module}

-- A part is one token of a sort, the first token of a node of some depth, or a nonterminal.
mutual
  pub data Part : Type 0 where
    a : Sort → Part
    first : ℕ → Sort → Part
    the : Nonterminal → Part

  pub data Nonterminal : Type 0 where
    -- annotations, and lists with commas up to a closing token
    noted_ : Part → Nonterminal
    annotation : Nonterminal
    many more : Sort → Part → Nonterminal
    -- module
    annotated_module «module» attribute function_name : Nonterminal
    definition function : ℕ → Nonterminal
    definitions : Sort → ℕ → Nonterminal
    variable variables : Nonterminal
    -- literals and constants
    literal : ℕ → Nonterminal
    constant other_constant constant_list constant_rest constant_tail constant_segment constant_pair : ℕ → Nonterminal
    -- expressions
    expression bare_expression other_expression : ℕ → Nonterminal
    list list_rest list_tail segment : ℕ → Nonterminal
    pairs more_pairs pair bare_pair : ℕ → Nonterminal
    -- clauses and patterns
    clauses_to : Sort → ℕ → Nonterminal
    clause bare_clause clause_patterns : ℕ → Nonterminal
    pattern bare_pattern other_pattern alias_variable : ℕ → Nonterminal
    pattern_list pattern_rest pattern_tail pattern_segment pattern_pair bare_pattern_pair : ℕ → Nonterminal

-- What a part says.
abbrev mutual
  pub SaidBy : Part → Type 0
  SaidBy (a c) = Token
  SaidBy (first d c) = Token
  SaidBy (the n) = Said n

  pub Said : Nonterminal → Type 0
  Said (noted_ p) = Noted (SaidBy p)
  Said annotation = Note
  Said (many c p) = List (SaidBy p)
  Said (more c p) = List (SaidBy p)
  Said annotated_module = m.Module
  Said «module» = m.Module
  Said attribute = Unit {0}
  Said function_name = NameAt
  Said (definition d) = FunDefOf m.Tree
  Said (function d) = FunctionParts
  Said (definitions c d) = List (FunDefOf m.Tree)
  Said variable = VarName
  Said variables = List VarName
  Said (literal d) = LiteralAt
  Said (constant d) = Constant
  Said (other_constant d) = Constant
  Said (constant_list d) = Unit {0}
  Said (constant_rest d) = Unit {0}
  Said (constant_tail d) = Unit {0}
  Said (constant_segment d) = Unit {0}
  Said (constant_pair d) = Unit {0}
  Said (expression d) = m.Tree
  Said (bare_expression d) = m.Tree
  Said (other_expression d) = m.Tree
  Said (list d) = ItemsAt m.Tree
  Said (list_rest d) = Items m.Tree
  Said (list_tail d) = Items m.Tree
  Said (segment d) = SegmentParts
  Said (pairs d) = MapParts
  Said (more_pairs d) = MapParts
  Said (pair d) = PairParts
  Said (bare_pair d) = PairParts
  Said (clauses_to c d) = List ClauseParts
  Said (clause d) = ClauseParts
  Said (bare_clause d) = ClauseParts
  Said (clause_patterns d) = PatternsAt
  Said (pattern d) = m.Pattern
  Said (bare_pattern d) = m.Pattern
  Said (other_pattern d) = m.Pattern
  Said (alias_variable d) = VariableAt
  Said (pattern_list d) = ItemsAt m.Pattern
  Said (pattern_rest d) = Items m.Pattern
  Said (pattern_tail d) = Items m.Pattern
  Said (pattern_segment d) = PatSegmentParts
  Said (pattern_pair d) = PatPairParts
  Said (bare_pattern_pair d) = PatPairParts

-- a function of the values of the parts
abbrev pub Action : List Part → Type 0 → Type 0
Action [] R = R
Action (p ∷ ps) R = SaidBy p → Action ps R

pub record Way (R : Type 0) : Type 0 where
  pub parts : List Part
  pub says : Action parts R

infixr 5 ◌⇒◌
abbrev pub ◌⇒◌ : {R : Type 0} (ps : List Part) → Action ps R → Way R
ps ⇒ f = record { parts = ps; says = f }

-- x, or x in annotation brackets
abbrev pub A : Part → Part
A p = the (noted_ p)

-- items with commas, maybe none, up to and with the token that closes them
abbrev pub upto : Sort → Part → Part
upto c p = the (many c p)

abbrev pub ways : (n : Nonterminal) → List (Way (Said n))
-- x | ( x -| [ constant,* ] )
ways (noted_ p) =
    (p ∷ [] ⇒ λ x. record { value = x; note = None }) ∷
    (a s.OpenRound ∷ p ∷ the annotation ∷ [] ⇒ λ _ x n. record { value = x; note = Some n }) ∷ []
-- -| [ constant,* ] )
ways annotation = (a s.Noted ∷ a s.OpenSquare ∷ upto s.CloseSquare (the (constant 1)) ∷ a s.CloseRound ∷ [] ⇒ λ _ _ cs _. note_of cs) ∷ []
-- x,* and the closing token, and the same behind an item
ways (many c p) =
    (a c ∷ [] ⇒ λ _. []) ∷
    (p ∷ the (more c p) ∷ [] ⇒ λ x xs. x ∷ xs) ∷ []
ways (more c p) =
    (a c ∷ [] ⇒ λ _. []) ∷
    (a s.Comma ∷ p ∷ the (more c p) ∷ [] ⇒ λ _ x xs. x ∷ xs) ∷ []
-- The module

ways annotated_module = (A (the «module») ∷ [] ⇒ λ x. with_note note_module x) ∷ []
-- module A(atom) [ A(function_name),* ] attributes [ attribute,* ] definition* end
ways «module» =
    (a s.Module ∷ A (a s.Atom) ∷ a s.OpenSquare ∷ upto s.CloseSquare (A (the function_name)) ∷ a s.Attributes ∷ a s.OpenSquare ∷ upto s.CloseSquare (the attribute) ∷ the (definitions s.End 1) ∷ []
    ⇒ λ _ x _ es _ _ _ ds. module_of x.value es (defs ds)) ∷ []
-- A(atom) = A(constant)
ways attribute = (A (a s.Atom) ∷ a s.Equals ∷ A (the (constant 1)) ∷ [] ⇒ λ _ _ _. tt) ∷ []
-- definition* and the closing token
ways (definitions c d) =
    (a c ∷ [] ⇒ λ _. []) ∷
    (the (definition d) ∷ the (definitions c d) ∷ [] ⇒ λ x xs. x ∷ xs) ∷ []
-- A(function_name) = A(function)
ways (definition d) = (A (the function_name) ∷ a s.Equals ∷ A (the (function d)) ∷ [] ⇒ λ x _ f. definition_of x.value.name (with_note note_function f)) ∷ []
-- atom / integer
ways function_name = (a s.Atom ∷ a s.Slash ∷ a s.Small ∷ [] ⇒ λ x _ n. record { place = x.place; name = fun_name x n }) ∷ []
-- fun ( variable,* ) -> expression
ways (function d) = (a s.Fun ∷ a s.OpenRound ∷ upto s.CloseRound (the variable) ∷ a s.Arrow ∷ the (expression d) ∷ [] ⇒ λ t _ xs _ b. record { mark = at t.place; params = xs; body = b }) ∷ []
-- A(variable)
ways variable = (A (a s.Variable) ∷ [] ⇒ λ x. variable_name x.value.place x.value (note_or_none x.note)) ∷ []
-- variable | < variable,* >
ways variables =
    (the variable ∷ [] ⇒ λ x. x ∷ []) ∷
    (a s.Less ∷ upto s.Greater (the variable) ∷ [] ⇒ λ _ xs. xs) ∷ []
-- Literals and constants

-- integer | float | character | atom | "" | [ ]
ways (literal d) =
    (first d s.Integer ∷ [] ⇒ λ t. literal_at t (l.Int (value t))) ∷
    (first d s.Float ∷ [] ⇒ λ t. literal_at t (l.Float (text t))) ∷
    (first d s.Char ∷ [] ⇒ λ t. literal_at t (l.Int (value t))) ∷
    (first d s.Atom ∷ [] ⇒ λ t. literal_at t (l.Atom (text t))) ∷
    (first d s.EmptyText ∷ [] ⇒ λ t. literal_at t l.Nil) ∷
    (first d s.OpenSquare ∷ a s.CloseSquare ∷ [] ⇒ λ t _. literal_at t l.Nil) ∷ []
-- a list with elements, or any other constant
ways (constant d) =
    (the (constant_list d) ∷ [] ⇒ λ _. Another) ∷
    (the (other_constant d) ∷ [] ⇒ λ x. x) ∷ []
-- literal | { constant,* } | fun atom : function_name | #{ constant_segment,* }# | ~{ constant_pair,* }~
ways (other_constant d) =
    (the (literal d) ∷ [] ⇒ λ x. literal_constant x.value) ∷
    (first d s.OpenCurly ∷ upto s.CloseCurly (the (constant (d + 1))) ∷ [] ⇒ λ _ cs. tuple_constant cs) ∷
    (first d s.Fun ∷ a s.Atom ∷ a s.Colon ∷ the function_name ∷ [] ⇒ λ _ _ _ _. Another) ∷
    (first d s.OpenBinary ∷ upto s.CloseBinary (the (constant_segment (d + 1))) ∷ [] ⇒ λ _ _. Another) ∷
    (first d s.OpenMap ∷ upto s.CloseMap (the (constant_pair (d + 1))) ∷ [] ⇒ λ _ _. Another) ∷ []
-- A string's bytes are nodes inside it. A tail that is a list goes into the list, and adds no depth.
ways (constant_list d) =
    (first (d + 1) s.Text ∷ [] ⇒ λ _. tt) ∷
    (first d s.OpenSquare ∷ the (constant (d + 1)) ∷ the (constant_rest d) ∷ [] ⇒ λ _ _ _. tt) ∷ []
ways (constant_rest d) =
    (a s.CloseSquare ∷ [] ⇒ λ _. tt) ∷
    (a s.Comma ∷ the (constant (d + 1)) ∷ the (constant_rest d) ∷ [] ⇒ λ _ _ _. tt) ∷
    (a s.Bar ∷ the (constant_tail d) ∷ a s.CloseSquare ∷ [] ⇒ λ _ _ _. tt) ∷ []
ways (constant_tail d) =
    (the (constant_list d) ∷ [] ⇒ λ _. tt) ∷
    (the (other_constant (d + 1)) ∷ [] ⇒ λ _. tt) ∷ []
-- #< constant > ( constant,* )
ways (constant_segment d) = (a s.OpenSegment ∷ the (constant d) ∷ a s.Greater ∷ a s.OpenRound ∷ upto s.CloseRound (the (constant d)) ∷ [] ⇒ λ _ _ _ _ _. tt) ∷ []
-- constant => constant
ways (constant_pair d) = (the (constant d) ∷ a s.Assoc ∷ the (constant d) ∷ [] ⇒ λ _ _ _. tt) ∷ []
-- Expressions

ways (expression d) = (A (the (bare_expression d)) ∷ [] ⇒ λ x. with_note note_tree x) ∷ []
-- a list with elements, or any other expression
ways (bare_expression d) =
    (the (list d) ∷ [] ⇒ λ x. m.listed (at x.place) (trees x.items) x.tail) ∷
    (the (other_expression d) ∷ [] ⇒ λ x. x) ∷ []
ways (other_expression d) =
    -- variable
    (first d s.Variable ∷ [] ⇒ λ t. m.variable (at t.place) (text t)) ∷
    -- function_name
    (first d s.Atom ∷ a s.Slash ∷ a s.Small ∷ [] ⇒ λ t _ n. m.local (at t.place) (fun_name t n)) ∷
    (the (literal d) ∷ [] ⇒ λ x. m.literal (at x.place) x.value) ∷
    -- fun ( variable,* ) -> expression
    (first d s.Fun ∷ a s.OpenRound ∷ upto s.CloseRound (the variable) ∷ a s.Arrow ∷ the (expression (d + 1)) ∷ [] ⇒ λ t _ xs _ b. m.function (at t.place) xs b) ∷
    -- fun atom : function_name
    (first d s.Fun ∷ a s.Atom ∷ a s.Colon ∷ the function_name ∷ [] ⇒ λ t x _ f. m.external (at t.place) (text x) f.name) ∷
    -- { expression,* }
    (first d s.OpenCurly ∷ upto s.CloseCurly (the (expression (d + 1))) ∷ [] ⇒ λ t xs. m.tuple (at t.place) (trees xs)) ∷
    -- < expression,* >
    (first d s.Less ∷ upto s.Greater (the (expression (d + 1))) ∷ [] ⇒ λ t xs. m.values (at t.place) (trees xs)) ∷
    -- #{ segment,* }#
    (first d s.OpenBinary ∷ upto s.CloseBinary (the (segment (d + 1))) ∷ [] ⇒ λ t xs. m.binary (at t.place) (segments xs)) ∷
    -- ~{ pair,* }~ and ~{ pair,* | expression }~
    (first d s.OpenMap ∷ the (pairs (d + 1)) ∷ [] ⇒ λ t ps. map_at t.place ps) ∷
    -- let variables = expression in expression
    (first d s.Let ∷ the variables ∷ a s.Equals ∷ the (expression (d + 1)) ∷ a s.In ∷ the (expression d) ∷ [] ⇒ λ t xs _ e _ b. before t.place (let_ xs e) b) ∷
    -- do expression expression
    (first d s.Do ∷ the (expression (d + 1)) ∷ the (expression d) ∷ [] ⇒ λ t e b. before t.place (do_ e) b) ∷
    -- case expression of clause+ end
    (first d s.Case ∷ the (expression (d + 1)) ∷ a s.Of ∷ the (clause (d + 1)) ∷ the (clauses_to s.End (d + 1)) ∷ [] ⇒ λ t e _ c cs. m.case (at t.place) e (clauses (c ∷ cs))) ∷
    -- letrec definition* in expression
    (first d s.Letrec ∷ the (definitions s.In (d + 1)) ∷ the (expression (d + 1)) ∷ [] ⇒ λ t ds b. m.letrec (at t.place) (defs ds) b) ∷
    -- apply expression ( expression,* )
    (first d s.Apply ∷ the (expression (d + 1)) ∷ a s.OpenRound ∷ upto s.CloseRound (the (expression (d + 1))) ∷ [] ⇒ λ t f _ xs. m.apply (at t.place) f (trees xs)) ∷
    -- call expression : expression ( expression,* )
    (first d s.Call ∷ the (expression (d + 1)) ∷ a s.Colon ∷ the (expression (d + 1)) ∷ a s.OpenRound ∷ upto s.CloseRound (the (expression (d + 1))) ∷ [] ⇒ λ t x _ f _ xs. m.call (at t.place) x f (trees xs)) ∷
    -- primop atom ( expression,* )
    (first d s.Primop ∷ a s.Atom ∷ a s.OpenRound ∷ upto s.CloseRound (the (expression (d + 1))) ∷ [] ⇒ λ t x _ xs. m.primop (at t.place) (text x) (trees xs)) ∷
    -- try expression of variables -> expression catch variables -> expression
    (first d s.Try ∷ the (expression (d + 1)) ∷ a s.Of ∷ the variables ∷ a s.Arrow ∷ the (expression (d + 1)) ∷ a s.Catch ∷ the variables ∷ a s.Arrow ∷ the (expression (d + 1)) ∷ []
    ⇒ λ t e _ xs _ b _ ys _ h. m.try (at t.place) e xs b ys h) ∷
    -- receive clause* after expression -> expression
    (first d s.Receive ∷ the (clauses_to s.After (d + 1)) ∷ the (expression (d + 1)) ∷ a s.Arrow ∷ the (expression (d + 1)) ∷ [] ⇒ λ t cs e _ b. m.receive (at t.place) (clauses cs) e b) ∷
    -- catch expression
    (first d s.Catch ∷ the (expression (d + 1)) ∷ [] ⇒ λ t e. m.catch (at t.place) e) ∷ []
-- A string, or [ expression,+ ] and [ expression,+ | expression ], where a bare tail that is a list goes
-- into the list and adds no depth.
ways (list d) =
    (first (d + 1) s.Text ∷ [] ⇒ λ t. string_items t) ∷
    (first d s.OpenSquare ∷ the (expression (d + 1)) ∷ the (list_rest d) ∷ [] ⇒ λ t x r. before_items t x r) ∷ []
ways (list_rest d) =
    (a s.CloseSquare ∷ [] ⇒ λ t. only_tail (nil t.place)) ∷
    (a s.Comma ∷ the (expression (d + 1)) ∷ the (list_rest d) ∷ [] ⇒ λ _ x r. next_item x r) ∷
    (a s.Bar ∷ the (list_tail d) ∷ a s.CloseSquare ∷ [] ⇒ λ _ r _. r) ∷ []
ways (list_tail d) =
    (the (list d) ∷ [] ⇒ λ x. merged x) ∷
    (the (other_expression (d + 1)) ∷ [] ⇒ λ x. only_tail x) ∷
    (a s.OpenRound ∷ the (bare_expression (d + 1)) ∷ the annotation ∷ [] ⇒ λ _ x n. only_tail (note_tree n x)) ∷ []
-- #< expression > ( expression,* )
ways (segment d) = (a s.OpenSegment ∷ the (expression d) ∷ a s.Greater ∷ a s.OpenRound ∷ upto s.CloseRound (the (expression d)) ∷ [] ⇒ λ _ x _ _ xs. record { value = x; args = trees xs }) ∷ []
-- pair,* }~ and pair,* | expression }~, and the same behind a pair
ways (pairs d) =
    (a s.CloseMap ∷ [] ⇒ λ _. record { pairs = []; updated = None }) ∷
    (a s.Bar ∷ the (expression d) ∷ a s.CloseMap ∷ [] ⇒ λ _ x _. record { pairs = []; updated = Some x }) ∷
    (the (pair d) ∷ the (more_pairs d) ∷ [] ⇒ λ p r. next_pair p r) ∷ []
ways (more_pairs d) =
    (a s.CloseMap ∷ [] ⇒ λ _. record { pairs = []; updated = None }) ∷
    (a s.Bar ∷ the (expression d) ∷ a s.CloseMap ∷ [] ⇒ λ _ x _. record { pairs = []; updated = Some x }) ∷
    (a s.Comma ∷ the (pair d) ∷ the (more_pairs d) ∷ [] ⇒ λ _ p r. next_pair p r) ∷ []
-- A(expression => expression) and A(expression := expression), whose note is not kept
ways (pair d) = (A (the (bare_pair d)) ∷ [] ⇒ λ p. p.value) ∷ []
ways (bare_pair d) =
    (the (expression d) ∷ a s.Assoc ∷ the (expression d) ∷ [] ⇒ λ k _ x. record { exact = false; key = k; value = x }) ∷
    (the (expression d) ∷ a s.Exact ∷ the (expression d) ∷ [] ⇒ λ k _ x. record { exact = true; key = k; value = x }) ∷ []
-- Clauses and patterns

-- clause* and the closing token
ways (clauses_to c d) =
    (a c ∷ [] ⇒ λ _. []) ∷
    (the (clause d) ∷ the (clauses_to c d) ∷ [] ⇒ λ x xs. x ∷ xs) ∷ []
ways (clause d) = (A (the (bare_clause d)) ∷ [] ⇒ λ x. with_note noted_clause x) ∷ []
-- clause_patterns when expression -> expression
ways (bare_clause d) = (the (clause_patterns d) ∷ a s.When ∷ the (expression d) ∷ a s.Arrow ∷ the (expression d) ∷ [] ⇒ λ ps _ g _ b. record { mark = at ps.place; patterns = patterns ps.patterns; guard = g; body = b }) ∷ []
-- pattern | < pattern,* >, where a pattern stands by itself in annotation brackets or without
ways (clause_patterns d) =
    (the (bare_pattern d) ∷ [] ⇒ λ p. patterns_at (mark_of p).place (p ∷ [])) ∷
    (a s.OpenRound ∷ the (bare_pattern d) ∷ the annotation ∷ [] ⇒ λ t p n. patterns_at t.place (noted_pattern n p ∷ [])) ∷
    (a s.Less ∷ upto s.Greater (the (pattern d)) ∷ [] ⇒ λ t ps. patterns_at t.place ps) ∷ []
ways (pattern d) = (A (the (bare_pattern d)) ∷ [] ⇒ λ x. with_note noted_pattern x) ∷ []
-- a list with elements, or any other pattern
ways (bare_pattern d) =
    (the (pattern_list d) ∷ [] ⇒ λ x. m.list_of (at x.place) (patterns x.items) x.tail) ∷
    (the (other_pattern d) ∷ [] ⇒ λ x. x) ∷ []
ways (other_pattern d) =
    -- variable
    (first d s.Variable ∷ [] ⇒ λ t. m.binds (at t.place) (text t)) ∷
    (the (literal d) ∷ [] ⇒ λ x. m.equals (at x.place) x.value) ∷
    -- { pattern,* }
    (first d s.OpenCurly ∷ upto s.CloseCurly (the (pattern (d + 1))) ∷ [] ⇒ λ t ps. m.tuple_of (at t.place) (patterns ps)) ∷
    -- variable = pattern
    (the (alias_variable d) ∷ a s.Equals ∷ the (pattern (d + 1)) ∷ [] ⇒ λ x _ p. m.alias (at x.place) x.name p) ∷
    -- #{ pattern_segment,* }#
    (first d s.OpenBinary ∷ upto s.CloseBinary (the (pattern_segment (d + 1))) ∷ [] ⇒ λ t ps. m.binary_of (at t.place) (pat_segments ps)) ∷
    -- ~{ pattern_pair,* }~
    (first d s.OpenMap ∷ upto s.CloseMap (the (pattern_pair (d + 1))) ∷ [] ⇒ λ t ps. m.map_of (at t.place) (pat_pairs ps)) ∷ []
-- An alias begins at its variable; so does the node, also where the variable stands in annotation brackets.
ways (alias_variable d) =
    (first d s.Variable ∷ [] ⇒ λ t. variable_at t.place (variable_name t.place t no_note)) ∷
    (a s.OpenRound ∷ first d s.Variable ∷ the annotation ∷ [] ⇒ λ o t n. variable_at o.place (variable_name t.place t n)) ∷ []
ways (pattern_list d) =
    (first (d + 1) s.Text ∷ [] ⇒ λ t. string_patterns t) ∷
    (first d s.OpenSquare ∷ the (pattern (d + 1)) ∷ the (pattern_rest d) ∷ [] ⇒ λ t p r. before_items t p r) ∷ []
ways (pattern_rest d) =
    (a s.CloseSquare ∷ [] ⇒ λ t. only_tail (nil_pattern t.place)) ∷
    (a s.Comma ∷ the (pattern (d + 1)) ∷ the (pattern_rest d) ∷ [] ⇒ λ _ p r. next_item p r) ∷
    (a s.Bar ∷ the (pattern_tail d) ∷ a s.CloseSquare ∷ [] ⇒ λ _ r _. r) ∷ []
ways (pattern_tail d) =
    (the (pattern_list d) ∷ [] ⇒ λ x. merged x) ∷
    (the (other_pattern (d + 1)) ∷ [] ⇒ λ p. only_tail p) ∷
    (a s.OpenRound ∷ the (bare_pattern (d + 1)) ∷ the annotation ∷ [] ⇒ λ _ p n. only_tail (noted_pattern n p)) ∷ []
-- #< pattern > ( expression,* )
ways (pattern_segment d) = (a s.OpenSegment ∷ the (pattern d) ∷ a s.Greater ∷ a s.OpenRound ∷ upto s.CloseRound (the (expression d)) ∷ [] ⇒ λ _ p _ _ xs. record { value = p; args = trees xs }) ∷ []
-- A(expression := pattern), whose note is not kept
ways (pattern_pair d) = (A (the (bare_pattern_pair d)) ∷ [] ⇒ λ p. p.value) ∷ []
ways (bare_pattern_pair d) = (the (expression d) ∷ a s.Exact ∷ the (pattern d) ∷ [] ⇒ λ k _ p. record { key = k; value = p }) ∷ []
