-- What a function that reads a part made of it: what the part says, with labels from n on, is what the
-- code made, and p is the label that follows its last.
use Rattle.std.specs.Prelude.{◌≡◌, ℕ, zero, suc, ◌+◌, List, [], ◌∷◌, Bool, true, false, Option}
use Rattle.type_kinds.specs.declared.place.Place.{Place}
use Rattle.core_scan.specs.declared.token.Token.{Token}
use Rattle.core_scan.specs.declared.sort.Sort.{Sort}
use Rattle.core_scan.specs.declared.sort.Sort.TheVariants as s
use Rattle.core_scan.specs.Sorts.{sort, fits}
use Rattle.core_ast.specs.declared.syntax.Note.{Note}
use Rattle.core_ast.specs.declared.syntax.Mark.{Mark}
use Rattle.core_ast.specs.declared.syntax.VarName.{VarName}
use Rattle.core_ast.specs.declared.syntax.FunName.{FunName}
use Rattle.core_ast.specs.declared.syntax.FunDefOf.{FunDefOf}
use Rattle.core_ast.specs.Model as m
use Rattle.core_ast.specs.Tree as t
use Rattle.core_parse_grammar.specs.declared.notes.Constant.{Constant}
use Rattle.core_parse_grammar.specs.declared.notes.Constant.TheVariants.{Another}
use Rattle.core_parse_grammar.specs.declared.constants.Tail.{Tail}
use Rattle.core_parse_grammar.specs.declared.constants.Tail.TheVariants.{Whole, Elements}
use Rattle.core_parse_grammar.specs.Build.{at, text, no_note, is_chain, Noted, NameAt, export_names, export_places, module_of, MapParts, map_at, map_tree}
use Rattle.core_parse_grammar.specs.Grammar.{Action, attribute, «module», annotated_module, a, the, A, noted_, many, annotation, function_name, definition, definitions, variable}
use Rattle.core_parse_grammar.specs.Grammar.{variables, constant, other_constant, constant_rest, constant_tail, constant_segment, constant_pair, expression, bare_expression}
use Rattle.core_parse_grammar.specs.Grammar.{other_expression, segment, pairs, pair, clauses_to, clause, bare_clause, pattern, bare_pattern, pattern_segment, pattern_pair}
use Rattle.core_parse_grammar.specs.Labels.{number, number_all, number_pattern, number_patterns, number_clauses, number_segments, number_pat_segments, number_pairs, number_pat_pairs, number_defs, numbered}
use Rattle.core_parse_grammar.specs.Track.{Goes, Passes, itself}
use Rattle.core_parse_grammar.specs.Faults.{closers}

-- The mark that the code gives a node without a note.
abbrev pub mark : ℕ → Place → Mark
mark n place = record { label = n; place = place; note = no_note }

-- Parts without labels

-- One atom, its text and its place.
pub record ReadsAtom (ts : List Token) (made : List ℕ) (place : Place) (left : List Token) : Type 0 where
  pub first : Token
  pub are : ts ≡ first ∷ left
  pub fits_it : fits s.Atom (sort first) ≡ true
  pub agrees : text first ≡ made
  pub place_is : first.place ≡ place

-- An atom, with or without annotation brackets.
pub record ReadsAnnotatedAtom (ts : List Token) (made : Token) (left : List Token) : Type 0 where
  pub says : Noted Token
  pub passes : Passes (noted_ (a s.Atom)) ts says left
  pub agrees : says.value ≡ made

pub record ReadsVariable (ts : List Token) (made : VarName) (left : List Token) : Type 0 where
  pub says : VarName
  pub passes : Passes variable ts says left
  pub agrees : says ≡ made

-- Variables up to and with the token that closes them.
pub record ReadsVariablesTo (c : Sort) (ts : List Token) (made : List VarName) (left : List Token) : Type 0 where
  pub says : List VarName
  pub passes : Passes (many c (the variable)) ts says left
  pub agrees : says ≡ made

-- One variable, or variables in angle brackets.
pub record ReadsVariables (ts : List Token) (made : List VarName) (left : List Token) : Type 0 where
  pub says : List VarName
  pub passes : Passes variables ts says left
  pub agrees : says ≡ made

pub record ReadsFunctionName (ts : List Token) (place : Place) (made : FunName) (left : List Token) : Type 0 where
  pub says : NameAt
  pub passes : Passes function_name ts says left
  pub name_is : says.name ≡ made
  pub place_is : says.place ≡ place

-- The same, with or without annotation brackets.
pub record ReadsExport (ts : List Token) (place : Place) (made : FunName) (left : List Token) : Type 0 where
  pub says : Noted NameAt
  pub passes : Passes (noted_ (the function_name)) ts says left
  pub name_is : says.value.name ≡ made
  pub place_is : says.value.place ≡ place

pub record ReadsExports (ts : List Token) (names : List FunName) (places : List Place) (left : List Token) : Type 0 where
  pub says : List (Noted NameAt)
  pub passes : Passes (many s.CloseSquare (A (the function_name))) ts says left
  pub names_are : export_names says ≡ names
  pub places_are : export_places says ≡ places

pub record ReadsConstant (d : ℕ) (ts : List Token) (made : Constant) (left : List Token) : Type 0 where
  pub says : Constant
  pub passes : Passes (constant d) ts says left
  pub agrees : says ≡ made

pub record ReadsOtherConstant (d : ℕ) (ts : List Token) (made : Constant) (left : List Token) : Type 0 where
  pub says : Constant
  pub passes : Passes (other_constant d) ts says left
  pub agrees : says ≡ made

-- What comes of k closing brackets is the constant.
abbrev pub EndsConstant : (k : ℕ) → Action (closers k) Constant → Constant → Type 0
EndsConstant zero x t = x ≡ t
EndsConstant (suc k) f t = (c : Token) → EndsConstant k (f c) t

-- A list is read up to its closing brackets, of which k are left.
pub record ReadsConstantElements (d : ℕ) (ts : List Token) (k : ℕ) (left : List Token) : Type 0 where
  pub build : Action (closers k) Constant
  pub goes : Goes (constant d) (itself (constant d)) (record { parts = closers k; build = build } ∷ []) ts left
  pub ends : EndsConstant k build Another

-- What comes behind the bar of a list: a whole tail, or the opening bracket of a list with elements.
pub record ReadsWholeTail (d : ℕ) (ts left : List Token) : Type 0 where
  pub passes : Passes (constant_tail d) ts tt left

pub record OpensTail (d : ℕ) (ts left : List Token) : Type 0 where
  pub goes : Goes (constant_tail d) (itself (constant_tail d)) (record { parts = the (constant (d + 1)) ∷ the (constant_rest d) ∷ []; build = λ _ _. tt } ∷ []) ts left

abbrev pub ReadsConstantTail : ℕ → List Token → Tail → List Token → Type 0
ReadsConstantTail d ts Whole left = ReadsWholeTail d ts left
ReadsConstantTail d ts Elements left = OpensTail d ts left

pub record ReadsConstantSegment (d : ℕ) (ts left : List Token) : Type 0 where
  pub passes : Passes (constant_segment d) ts tt left

pub record ReadsConstantSegments (d : ℕ) (ts left : List Token) : Type 0 where
  pub says : List (Unit {0})
  pub passes : Passes (many s.CloseBinary (the (constant_segment d))) ts says left

pub record ReadsConstantPair (d : ℕ) (ts left : List Token) : Type 0 where
  pub passes : Passes (constant_pair d) ts tt left

pub record ReadsConstantPairs (d : ℕ) (ts left : List Token) : Type 0 where
  pub says : List (Unit {0})
  pub passes : Passes (many s.CloseMap (the (constant_pair d))) ts says left

pub record ReadsConstants (c : Sort) (d : ℕ) (ts : List Token) (made : List Constant) (left : List Token) : Type 0 where
  pub says : List Constant
  pub passes : Passes (many c (the (constant d))) ts says left
  pub agrees : says ≡ made

pub record ReadsAnnotation (ts : List Token) (made : Note) (left : List Token) : Type 0 where
  pub says : Note
  pub passes : Passes annotation ts says left
  pub agrees : says ≡ made

-- Chains

-- A chain begins here, or begins in annotation brackets.
abbrev pub chain_sort : Sort → Bool
chain_sort s.Let = true
chain_sort s.Do = true
chain_sort _ = false

abbrev pub starts_chain : List Token → Bool
starts_chain [] = false
starts_chain (t ∷ ts) = chain_sort (sort t)

abbrev pub opens_chain_at : Sort → List Token → Bool
opens_chain_at s.OpenRound ts = starts_chain ts
opens_chain_at q ts = chain_sort q

abbrev pub opens_chain : List Token → Bool
opens_chain [] = false
opens_chain (t ∷ ts) = opens_chain_at (sort t) ts

-- Expressions

pub record ReadsExpression (d n : ℕ) (ts : List Token) (made : m.Tree) (left : List Token) (p : ℕ) : Type 0 where
  pub says : m.Tree
  pub passes : Passes (expression d) ts says left
  pub agrees : number n says ≡ (made, p)
  pub single : opens_chain ts ≡ false → is_chain says ≡ false

pub record ReadsBareExpression (d n : ℕ) (ts : List Token) (made : m.Tree) (left : List Token) (p : ℕ) : Type 0 where
  pub says : m.Tree
  pub passes : Passes (bare_expression d) ts says left
  pub agrees : number n says ≡ (made, p)
  pub single : starts_chain ts ≡ false → is_chain says ≡ false

pub record ReadsOtherExpression (d n : ℕ) (ts : List Token) (made : m.Tree) (left : List Token) (p : ℕ) : Type 0 where
  pub says : m.Tree
  pub passes : Passes (other_expression d) ts says left
  pub agrees : number n says ≡ (made, p)
  pub single : starts_chain ts ≡ false → is_chain says ≡ false

-- Expressions, with commas, up to and with the token that closes them.
pub record ReadsExpressions (c : Sort) (d n : ℕ) (ts : List Token) (made : m.Trees) (left : List Token) (p : ℕ) : Type 0 where
  pub says : List m.Tree
  pub passes : Passes (many c (the (expression d))) ts says left
  pub agrees : number_all n (t.trees says) ≡ (made, p)

-- What comes of k closing brackets is the tree.
abbrev pub Ends : (k : ℕ) → Action (closers k) m.Tree → m.Tree → Type 0
Ends zero x t = x ≡ t
Ends (suc k) f t = (c : Token) → Ends k (f c) t

-- A list is read up to its closing brackets, of which k are left.
pub record ReadsElements (d n : ℕ) (place : Place) (ts : List Token) (k : ℕ) (items : m.Trees) (tail : m.Tree) (left : List Token) (p : ℕ) : Type 0 where
  pub build : Action (closers k) m.Tree
  pub goes : Goes (bare_expression d) (itself (bare_expression d)) (record { parts = closers k; build = build } ∷ []) ts left
  pub raw : List m.Tree
  pub raw_tail : m.Tree
  pub ends : Ends k build (m.listed (at place) (t.trees raw) raw_tail)
  pub agrees : number n (m.listed (at place) (t.trees raw) raw_tail) ≡ (m.listed (mark n place) items tail, p)

pub record ReadsSegments (d n : ℕ) (ts : List Token) (made : m.Segments) (left : List Token) (p : ℕ) : Type 0 where
  pub says : List t.SegmentParts
  pub passes : Passes (many s.CloseBinary (the (segment d))) ts says left
  pub agrees : number_segments n (t.segments says) ≡ (made, p)

pub record ReadsSegment (d n : ℕ) (ts : List Token) (made : t.SegmentParts) (left : List Token) (p : ℕ) : Type 0 where
  pub says : t.SegmentParts
  pub passes : Passes (segment d) ts says left
  pub agrees : number_segments n (t.segments (says ∷ [])) ≡ (t.segments (made ∷ []), p)

-- The pairs of a map that begins at this place, and the map after the bar.
pub record ReadsPairs (d n : ℕ) (place : Place) (ts : List Token) (made : m.Pairs) (updated : Option m.Tree) (left : List Token) (p : ℕ) : Type 0 where
  pub says : MapParts
  pub passes : Passes (pairs d) ts says left
  pub agrees : number n (map_at place says) ≡ (map_tree (mark n place) made updated, p)

pub record ReadsPair (d n : ℕ) (ts : List Token) (made : t.PairParts) (left : List Token) (p : ℕ) : Type 0 where
  pub says : t.PairParts
  pub passes : Passes (pair d) ts says left
  pub agrees : number_pairs n (t.pairs (says ∷ [])) ≡ (t.pairs (made ∷ []), p)

-- Clauses and patterns

pub record ReadsClauses (c : Sort) (d n : ℕ) (ts : List Token) (made : m.Clauses) (left : List Token) (p : ℕ) : Type 0 where
  pub says : List t.ClauseParts
  pub passes : Passes (clauses_to c d) ts says left
  pub agrees : number_clauses n (t.clauses says) ≡ (made, p)

pub record ReadsClause (d n : ℕ) (ts : List Token) (made : t.ClauseParts) (left : List Token) (p : ℕ) : Type 0 where
  pub says : t.ClauseParts
  pub passes : Passes (clause d) ts says left
  pub agrees : number_clauses n (t.clauses (says ∷ [])) ≡ (t.clauses (made ∷ []), p)

pub record ReadsBareClause (d n : ℕ) (ts : List Token) (made : t.ClauseParts) (left : List Token) (p : ℕ) : Type 0 where
  pub says : t.ClauseParts
  pub passes : Passes (bare_clause d) ts says left
  pub agrees : number_clauses n (t.clauses (says ∷ [])) ≡ (t.clauses (made ∷ []), p)

pub record ReadsPattern (d n : ℕ) (ts : List Token) (made : m.Pattern) (left : List Token) (p : ℕ) : Type 0 where
  pub says : m.Pattern
  pub passes : Passes (pattern d) ts says left
  pub agrees : number_pattern n says ≡ (made, p)

pub record ReadsBarePattern (d n : ℕ) (ts : List Token) (made : m.Pattern) (left : List Token) (p : ℕ) : Type 0 where
  pub says : m.Pattern
  pub passes : Passes (bare_pattern d) ts says left
  pub agrees : number_pattern n says ≡ (made, p)

pub record ReadsPatterns (c : Sort) (d n : ℕ) (ts : List Token) (made : m.Patterns) (left : List Token) (p : ℕ) : Type 0 where
  pub says : List m.Pattern
  pub passes : Passes (many c (the (pattern d))) ts says left
  pub agrees : number_patterns n (t.patterns says) ≡ (made, p)

abbrev pub EndsPattern : (k : ℕ) → Action (closers k) m.Pattern → m.Pattern → Type 0
EndsPattern zero x t = x ≡ t
EndsPattern (suc k) f t = (c : Token) → EndsPattern k (f c) t

-- The same of a list in a pattern.
pub record ReadsPatternElements (d n : ℕ) (place : Place) (ts : List Token) (k : ℕ) (items : m.Patterns) (tail : m.Pattern) (left : List Token) (p : ℕ) : Type 0 where
  pub build : Action (closers k) m.Pattern
  pub goes : Goes (bare_pattern d) (itself (bare_pattern d)) (record { parts = closers k; build = build } ∷ []) ts left
  pub raw : List m.Pattern
  pub raw_tail : m.Pattern
  pub ends : EndsPattern k build (m.list_of (at place) (t.patterns raw) raw_tail)
  pub agrees : number_pattern n (m.list_of (at place) (t.patterns raw) raw_tail) ≡ (m.list_of (mark n place) items tail, p)

pub record ReadsPatternSegments (d n : ℕ) (ts : List Token) (made : m.PatSegments) (left : List Token) (p : ℕ) : Type 0 where
  pub says : List t.PatSegmentParts
  pub passes : Passes (many s.CloseBinary (the (pattern_segment d))) ts says left
  pub agrees : number_pat_segments n (t.pat_segments says) ≡ (made, p)

pub record ReadsPatternSegment (d n : ℕ) (ts : List Token) (made : t.PatSegmentParts) (left : List Token) (p : ℕ) : Type 0 where
  pub says : t.PatSegmentParts
  pub passes : Passes (pattern_segment d) ts says left
  pub agrees : number_pat_segments n (t.pat_segments (says ∷ [])) ≡ (t.pat_segments (made ∷ []), p)

pub record ReadsPatternPairs (d n : ℕ) (ts : List Token) (made : m.PatPairs) (left : List Token) (p : ℕ) : Type 0 where
  pub says : List t.PatPairParts
  pub passes : Passes (many s.CloseMap (the (pattern_pair d))) ts says left
  pub agrees : number_pat_pairs n (t.pat_pairs says) ≡ (made, p)

pub record ReadsPatternPair (d n : ℕ) (ts : List Token) (made : t.PatPairParts) (left : List Token) (p : ℕ) : Type 0 where
  pub says : t.PatPairParts
  pub passes : Passes (pattern_pair d) ts says left
  pub agrees : number_pat_pairs n (t.pat_pairs (says ∷ [])) ≡ (t.pat_pairs (made ∷ []), p)

-- Definitions

pub record ReadsDefinitions (c : Sort) (d n : ℕ) (ts : List Token) (made : m.Defs) (left : List Token) (p : ℕ) : Type 0 where
  pub says : List (FunDefOf m.Tree)
  pub passes : Passes (definitions c d) ts says left
  pub agrees : number_defs n (t.defs says) ≡ (made, p)

pub record ReadsDefinition (d n : ℕ) (ts : List Token) (made : FunDefOf m.Tree) (left : List Token) (p : ℕ) : Type 0 where
  pub says : FunDefOf m.Tree
  pub passes : Passes (definition d) ts says left
  pub agrees : number_defs n (t.defs (says ∷ [])) ≡ (t.defs (made ∷ []), p)

-- The module

-- A constant of depth 1, with or without annotation brackets.
pub record ReadsAnnotatedConstant (ts left : List Token) : Type 0 where
  pub says : Noted Constant
  pub passes : Passes (noted_ (the (constant 1))) ts says left

pub record ReadsAttribute (ts left : List Token) : Type 0 where
  pub passes : Passes attribute ts tt left

pub record ReadsAttributes (ts left : List Token) : Type 0 where
  pub says : List (Unit {0})
  pub passes : Passes (many s.CloseSquare (the attribute)) ts says left

-- A module is read up to its definitions.
pub record ReadsHeader (ts : List Token) (name : Token) (names : List FunName) (places : List Place) (left : List Token) : Type 0 where
  pub exports : List (Noted NameAt)
  pub goes : Goes «module» (itself «module») (record { parts = the (definitions s.End 1) ∷ []; build = λ ds. module_of name exports (t.defs ds) } ∷ []) ts left
  pub names_are : export_names exports ≡ names
  pub places_are : export_places exports ≡ places

-- A module without annotation brackets, and one with or without them.
pub record ReadsBareModule (ts : List Token) (made : m.Module) (left : List Token) : Type 0 where
  pub says : m.Module
  pub passes : Passes «module» ts says left
  pub agrees : numbered says ≡ made

pub record ReadsModule (ts : List Token) (made : m.Module) (left : List Token) : Type 0 where
  pub says : m.Module
  pub passes : Passes annotated_module ts says left
  pub agrees : numbered says ≡ made
