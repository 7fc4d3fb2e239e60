-- What tokens of a text spell fits.
use Rattle.std.proofs.Common.{◌≡◌, ℕ, ℤ, pos, negsuc, ◌+◌, ◌<◌, ◌≤◌, List, [], ◌∷◌, Bool, true, false, ◌&&◌, not, Option, Some, None, IsTrue, refl, sym, ◌∙◌, arith, true≢false}
use Rattle.std.specs.Prelude.{if◌then◌else◌, nat_lt, nat_le, bytes_eq, unsigned_abs, ⊤}
use Rattle.std.specs.List.{AllByRecursion as Each}
use Rattle.std.proofs.lemmas.Bool.Decides.{nat_tests}
use Rattle.std.proofs.lemmas.Bool.{and_parts, not-true}
use Rattle.type_kinds.specs.declared.place.Place.{Place}
use Rattle.type_kinds.specs.declared.digits.TheConstants.{MAGNITUDE_LIMIT}
use Rattle.core_ast.specs.declared.syntax.Note.{Note}
use Rattle.core_ast.specs.declared.syntax.VarName.{VarName}
use Rattle.core_ast.specs.declared.syntax.Literal.TheVariants as lit
use Rattle.core_ast.specs.Model as m
use Rattle.core_ast.specs.Notes.{note_tree, noted_pattern, noted_clause}
use Rattle.core_ast.specs.Tree.{trees, patterns, pairs, pat_pairs, segments, pat_segments, clauses, defs, ClauseParts, PatPairParts, SegmentParts, PatSegmentParts}
use Rattle.core_scan.specs.declared.sort.Sort.{Sort}
use Rattle.core_scan.specs.declared.sort.Sort.TheVariants as s
use Rattle.core_scan.specs.declared.token.Token.{Token}
use Rattle.core_scan.specs.declared.token.TokenKind.{TokenKind}
use Rattle.core_scan.specs.declared.token.TokenKind.TheVariants as k
use Rattle.core_scan.specs.Sorts.{fits, sort, kind_sort, integer_sort}
use Rattle.core_scan.specs.Vocabulary.{words, symbols, sort_in}
use Rattle.core_scan.specs.Spells.{IsName, IsFloat, is_variable_start}
use Rattle.core_parse_grammar.specs.declared.notes.Constant.{Constant}
use Rattle.core_parse_grammar.specs.declared.notes.Constant.TheVariants.{Number, Pair, Generated, Another}
use Rattle.core_parse_grammar.specs.Build.{kind_text, kind_value, value, at, Noted, with_note, note_or_none, note_of, line_within, NameAt, byte_trees}
use Rattle.core_parse_grammar.specs.Build.{byte_patterns, before, let_, do_, map_tree, FunctionParts, note_function, export_names, note_module}
use Rattle.core_parse_grammar.specs.Grammar.{Part, a, first, the, Nonterminal, SaidBy, Said, ways, noted_, annotation, many, more, annotated_module, «module», attribute, function_name, definition, function}
use Rattle.core_parse_grammar.specs.Grammar.{definitions, variable, variables, literal, constant, other_constant, constant_list, constant_rest, constant_tail, constant_segment, constant_pair, expression}
use Rattle.core_parse_grammar.specs.Grammar.{bare_expression, other_expression, list, list_rest, list_tail, segment, pairs as pairs_part, more_pairs, pair, bare_pair, clauses_to, clause, bare_clause}
use Rattle.core_parse_grammar.specs.Grammar.{clause_patterns, pattern, bare_pattern, other_pattern, alias_variable, pattern_list, pattern_rest, pattern_tail, pattern_segment, pattern_pair, bare_pattern_pair}
use Rattle.core_parse_grammar.specs.Labels.{numbered}
use Rattle.core_parse_grammar.specs.Spells.{Reads, SpellsTo}
use Rattle.core_parse_grammar.proofs.Arities.{magnitude_small}
use Rattle.core_parse_grammar.proofs.Walks.{AllKeep, walk}
use Rattle.core_print.specs.Tokens.{AreBytes}
use Rattle.core_print.specs.Fits.{LineFits, NoteFits, LiteralFits, NameFits, NamesFit, VariableFits, VariablesFit, SomeTrees, SomePatterns, Fits}
use Rattle.core_print.specs.Fits.{AllFit, PairsFit, SegmentsFit, ClausesFit, DefsFit, PatternFits, PatternsFit, PatPairsFit, PatSegmentsFit, ModuleFits}

-- ---- tokens

-- what is known of a token of a text
abbrev pub KindGood : TokenKind → Type 0
KindGood (k.Variable x) = IsName is_variable_start x
KindGood (k.Integer n bare) = unsigned_abs n < MAGNITUDE_LIMIT
KindGood (k.Float f) = IsFloat f
KindGood (k.Char c) = c ≤ 255
KindGood (k.Text bs) = AreBytes bs
KindGood _ = ⊤

abbrev pub TokensGood : List Token → Type 0
TokensGood [] = ⊤
TokensGood (t ∷ ts) = KindGood t.kind × TokensGood ts

apart_from : Sort → List (List ℕ × Sort) → Bool
apart_from c [] = true
apart_from c (e ∷ es) = not (fits c e.1) && apart_from c es

no_sort_in : (c : Sort) (table : List (List ℕ × Sort)) (x : List ℕ) → apart_from c table ≡ true → fits c s.Other ≡ false → fits c (sort_in table x) ≡ false
unfolding apart_from
no_sort_in c [] x h o = o
no_sort_in c (e ∷ es) x h o = by (bytes_eq x e.0) (no_sort_in c es x (and_parts (not (fits c e.1)) (apart_from c es) h).1 o)
  where
    by : (t : Bool) → fits c (sort_in es x) ≡ false → fits c (if t then e.1 else sort_in es x) ≡ false
    by true later = not-true (fits c e.1) (and_parts (not (fits c e.1)) (apart_from c es) h).0
    by false later = later

no_integer : (c : Sort) (n : ℤ) (bare : Bool) → fits c s.Small ≡ false → fits c s.Integer ≡ false → fits c (integer_sort n bare) ≡ false
no_integer c (pos n) true small_ other_ = by (nat_le n 255)
  where
    by : (t : Bool) → fits c (if t then s.Small else s.Integer) ≡ false
    by true = small_
    by false = other_
no_integer c (pos n) false small_ other_ = other_
no_integer c (negsuc n) bare small_ other_ = other_

abbrev TextGood : List ℕ → Type 0
TextGood [] = ⊥
TextGood (b ∷ bs) = (b ≤ 255) × AreBytes bs

variable_text : (x : TokenKind) → KindGood x → fits s.Variable (kind_sort x) ≡ true → IsName is_variable_start (kind_text x)
unfolding apart_from
variable_text (k.Word v) g h = absurd (true≢false (sym h ∙ no_sort_in s.Variable words v refl refl))
variable_text (k.Variable v) g h = g
variable_text (k.Integer n bare) g h = absurd (true≢false (sym h ∙ no_integer s.Variable n bare refl refl))
variable_text (k.Float v) g h = absurd (true≢false (sym h))
variable_text (k.Char v) g h = absurd (true≢false (sym h))
variable_text (k.Atom v) g h = absurd (true≢false (sym h))
variable_text (k.Text []) g h = absurd (true≢false (sym h))
variable_text (k.Text (b ∷ bs)) g h = absurd (true≢false (sym h))
variable_text (k.Symbol v) g h = absurd (true≢false (sym h ∙ no_sort_in s.Variable symbols v refl refl))

float_text : (x : TokenKind) → KindGood x → fits s.Float (kind_sort x) ≡ true → IsFloat (kind_text x)
unfolding apart_from
float_text (k.Word v) g h = absurd (true≢false (sym h ∙ no_sort_in s.Float words v refl refl))
float_text (k.Variable v) g h = absurd (true≢false (sym h))
float_text (k.Integer n bare) g h = absurd (true≢false (sym h ∙ no_integer s.Float n bare refl refl))
float_text (k.Float v) g h = g
float_text (k.Char v) g h = absurd (true≢false (sym h))
float_text (k.Atom v) g h = absurd (true≢false (sym h))
float_text (k.Text []) g h = absurd (true≢false (sym h))
float_text (k.Text (b ∷ bs)) g h = absurd (true≢false (sym h))
float_text (k.Symbol v) g h = absurd (true≢false (sym h ∙ no_sort_in s.Float symbols v refl refl))

string_text : (x : TokenKind) → KindGood x → fits s.Text (kind_sort x) ≡ true → TextGood (kind_text x)
unfolding apart_from
string_text (k.Word v) g h = absurd (true≢false (sym h ∙ no_sort_in s.Text words v refl refl))
string_text (k.Variable v) g h = absurd (true≢false (sym h))
string_text (k.Integer n bare) g h = absurd (true≢false (sym h ∙ no_integer s.Text n bare refl refl))
string_text (k.Float v) g h = absurd (true≢false (sym h))
string_text (k.Char v) g h = absurd (true≢false (sym h))
string_text (k.Atom v) g h = absurd (true≢false (sym h))
string_text (k.Text []) g h = absurd (true≢false (sym h))
string_text (k.Text (b ∷ bs)) g h = g
string_text (k.Symbol v) g h = absurd (true≢false (sym h ∙ no_sort_in s.Text symbols v refl refl))

value_good : (x : TokenKind) → KindGood x → unsigned_abs (kind_value x) < MAGNITUDE_LIMIT
value_good (k.Integer n bare) g = g
value_good (k.Char c) g = omega arith
value_good (k.Word v) g = omega arith
value_good (k.Variable v) g = omega arith
value_good (k.Float v) g = omega arith
value_good (k.Atom v) g = omega arith
value_good (k.Text v) g = omega arith
value_good (k.Symbol v) g = omega arith

within_fits : (z : ℤ) → LineFits (line_within z)
within_fits (negsuc n) = tt
within_fits (pos n) = by (nat_lt 0 n) refl (nat_lt n 2147483648) refl
  where
    by : (t : Bool) → nat_lt 0 n ≡ t → (u : Bool) → nat_lt n 2147483648 ≡ u → LineFits (if t then if u then Some n else None else None)
    by true e true f = (grind (arith, nat_tests), grind (arith, nat_tests))
    by true e false f = tt
    by false e u f = tt

note_of_fits : (cs : List Constant) → NoteFits (note_of cs)
note_of_fits [] = tt
note_of_fits (Number n ∷ cs) = within_fits n
note_of_fits (Pair n ∷ cs) = within_fits n
note_of_fits (Generated ∷ cs) = tt
note_of_fits (Another ∷ cs) = tt

module _ (l : ℕ) where
  abbrev UpdatedFits : ℕ → Option m.Tree → Type 0
  UpdatedFits d None = ⊤
  UpdatedFits d (Some t) = Fits l d t

  -- what is known of what a part says
  abbrev mutual
    GoodBy : (p : Part) → SaidBy p → Type 0
    GoodBy (a c) t = KindGood t.kind × IsTrue (fits c (sort t))
    GoodBy (first d c) t = (d ≤ l) × KindGood t.kind × IsTrue (fits c (sort t))
    GoodBy (the n) v = GoodSaid n v

    GoodSaid : (n : Nonterminal) → Said n → Type 0
    GoodSaid (noted_ p) x = GoodBy p x.value × NoteFits (note_or_none x.note)
    GoodSaid annotation n = NoteFits n
    GoodSaid (many c p) xs = Each (GoodBy p) xs
    GoodSaid (more c p) xs = Each (GoodBy p) xs
    GoodSaid annotated_module x = ModuleFits l x
    GoodSaid «module» x = ModuleFits l x
    GoodSaid attribute x = ⊤
    GoodSaid function_name x = NameFits x.name
    GoodSaid (definition d) x = NameFits x.name × NoteFits x.mark.note × VariablesFit x.fun.params × Fits l d x.fun.body
    GoodSaid (function d) f = NoteFits f.mark.note × VariablesFit f.params × Fits l d f.body
    GoodSaid (definitions c d) xs = DefsFit l d (defs xs)
    GoodSaid variable x = VariableFits x
    GoodSaid variables xs = VariablesFit xs
    GoodSaid (literal d) x = (d ≤ l) × LiteralFits x.value
    GoodSaid (constant d) x = ⊤
    GoodSaid (other_constant d) x = ⊤
    GoodSaid (constant_list d) x = ⊤
    GoodSaid (constant_rest d) x = ⊤
    GoodSaid (constant_tail d) x = ⊤
    GoodSaid (constant_segment d) x = ⊤
    GoodSaid (constant_pair d) x = ⊤
    GoodSaid (expression d) t = Fits l d t
    GoodSaid (bare_expression d) t = Fits l d t
    GoodSaid (other_expression d) t = Fits l d t
    GoodSaid (list d) x = (d ≤ l) × (d + 1 ≤ l) × SomeTrees (trees x.items) × AllFit l (d + 1) (trees x.items) × Fits l (d + 1) x.tail
    GoodSaid (list_rest d) x = AllFit l (d + 1) (trees x.items) × (d + 1 ≤ l → Fits l (d + 1) x.tail)
    GoodSaid (list_tail d) x = AllFit l (d + 1) (trees x.items) × (d + 1 ≤ l → Fits l (d + 1) x.tail)
    GoodSaid (segment d) x = Fits l d x.value × AllFit l d x.args
    GoodSaid (pairs_part d) x = PairsFit l d (pairs x.pairs) × UpdatedFits d x.updated
    GoodSaid (more_pairs d) x = PairsFit l d (pairs x.pairs) × UpdatedFits d x.updated
    GoodSaid (pair d) x = Fits l d x.key × Fits l d x.value
    GoodSaid (bare_pair d) x = Fits l d x.key × Fits l d x.value
    GoodSaid (clauses_to c d) xs = ClausesFit l d (clauses xs)
    GoodSaid (clause d) x = NoteFits x.mark.note × PatternsFit l d x.patterns × Fits l d x.guard × Fits l d x.body
    GoodSaid (bare_clause d) x = NoteFits x.mark.note × PatternsFit l d x.patterns × Fits l d x.guard × Fits l d x.body
    GoodSaid (clause_patterns d) x = PatternsFit l d (patterns x.patterns)
    GoodSaid (pattern d) p = PatternFits l d p
    GoodSaid (bare_pattern d) p = PatternFits l d p
    GoodSaid (other_pattern d) p = PatternFits l d p
    GoodSaid (alias_variable d) x = (d ≤ l) × VariableFits x.name
    GoodSaid (pattern_list d) x = (d ≤ l) × (d + 1 ≤ l) × SomePatterns (patterns x.items) × PatternsFit l (d + 1) (patterns x.items) × PatternFits l (d + 1) x.tail
    GoodSaid (pattern_rest d) x = PatternsFit l (d + 1) (patterns x.items) × (d + 1 ≤ l → PatternFits l (d + 1) x.tail)
    GoodSaid (pattern_tail d) x = PatternsFit l (d + 1) (patterns x.items) × (d + 1 ≤ l → PatternFits l (d + 1) x.tail)
    GoodSaid (pattern_segment d) x = PatternFits l d x.value × AllFit l d x.args
    GoodSaid (pattern_pair d) x = Fits l d x.key × PatternFits l d x.value
    GoodSaid (bare_pattern_pair d) x = Fits l d x.key × PatternFits l d x.value

  -- ---- what the ways make of good parts

  note_kept : (n : Note) (t : m.Tree) (d : ℕ) → NoteFits n → Fits l d t → Fits l d (note_tree n t)
  note_kept n (m.chain k (m.and_let j xs e ss) t) d hn h = (h.0, h.1, tt, (hn, h.3.1, h.3.2, h.3.3), h.4, h.5)
  note_kept n (m.chain k (m.and_do j e ss) t) d hn h = (h.0, h.1, tt, (hn, h.3.1, h.3.2), h.4, h.5)
  note_kept n (m.chain k m.no_step t) d hn h = absurd h.2
  note_kept n (m.variable k x) d hn h = (h.0, hn, h.2)
  note_kept n (m.local k f) d hn h = (h.0, hn, h.2)
  note_kept n (m.external k x f) d hn h = (h.0, hn, h.2)
  note_kept n (m.literal k x) d hn h = (h.0, hn, h.2)
  note_kept n (m.function k xs t) d hn h = (h.0, hn, h.2, h.3)
  note_kept n (m.listed k ts t) d hn h = (h.0, hn, h.2, h.3, h.4)
  note_kept n (m.tuple k ts) d hn h = (h.0, hn, h.2)
  note_kept n (m.new_map k ps) d hn h = (h.0, hn, h.2)
  note_kept n (m.updated_map k ps t) d hn h = (h.0, hn, h.2, h.3)
  note_kept n (m.binary k ss) d hn h = (h.0, hn, h.2)
  note_kept n (m.values k ts) d hn h = (h.0, hn, h.2)
  note_kept n (m.case k t cs) d hn h = (h.0, hn, h.2, h.3, h.4)
  note_kept n (m.letrec k ds t) d hn h = (h.0, hn, h.2, h.3)
  note_kept n (m.apply k t ts) d hn h = (h.0, hn, h.2, h.3)
  note_kept n (m.call k t u ts) d hn h = (h.0, hn, h.2, h.3, h.4)
  note_kept n (m.primop k x ts) d hn h = (h.0, hn, h.2)
  note_kept n (m.try k t xs u ys w) d hn h = (h.0, hn, h.2, h.3, h.4, h.5, h.6)
  note_kept n (m.receive k cs t u) d hn h = (h.0, hn, h.2, h.3, h.4)
  note_kept n (m.catch k t) d hn h = (h.0, hn, h.2)

  tree_noted : (v : m.Tree) (o : Option Note) (d : ℕ) → Fits l d v → NoteFits (note_or_none o) → Fits l d (with_note note_tree (record { value = v; note = o }))
  tree_noted v None d h hn = h
  tree_noted v (Some n) d h hn = note_kept n v d hn h

  fits_deep : (t : m.Tree) (d : ℕ) → Fits l d t → d ≤ l
  fits_deep (m.variable k x) d h = h.0
  fits_deep t d h = h.0

  let_kept : (p : Place) (xs : List VarName) (e b : m.Tree) (d : ℕ) → d ≤ l → VariablesFit xs → Fits l (d + 1) e → Fits l d b → Fits l d (before p (let_ xs e) b)
  let_kept p xs e (m.chain k ss t) d deep hx he h = (deep, refl, tt, (tt, hx, he, h.3), h.4, h.5)
  let_kept p xs e (m.variable k x) d deep hx he h = (deep, refl, tt, (tt, hx, he, tt), refl, h)
  let_kept p xs e (m.local k f) d deep hx he h = (deep, refl, tt, (tt, hx, he, tt), refl, h)
  let_kept p xs e (m.external k x f) d deep hx he h = (deep, refl, tt, (tt, hx, he, tt), refl, h)
  let_kept p xs e (m.literal k x) d deep hx he h = (deep, refl, tt, (tt, hx, he, tt), refl, h)
  let_kept p xs e (m.function k as9 t) d deep hx he h = (deep, refl, tt, (tt, hx, he, tt), refl, h)
  let_kept p xs e (m.listed k ts t) d deep hx he h = (deep, refl, tt, (tt, hx, he, tt), refl, h)
  let_kept p xs e (m.tuple k ts) d deep hx he h = (deep, refl, tt, (tt, hx, he, tt), refl, h)
  let_kept p xs e (m.new_map k ps) d deep hx he h = (deep, refl, tt, (tt, hx, he, tt), refl, h)
  let_kept p xs e (m.updated_map k ps t) d deep hx he h = (deep, refl, tt, (tt, hx, he, tt), refl, h)
  let_kept p xs e (m.binary k ss) d deep hx he h = (deep, refl, tt, (tt, hx, he, tt), refl, h)
  let_kept p xs e (m.values k ts) d deep hx he h = (deep, refl, tt, (tt, hx, he, tt), refl, h)
  let_kept p xs e (m.case k t cs) d deep hx he h = (deep, refl, tt, (tt, hx, he, tt), refl, h)
  let_kept p xs e (m.letrec k ds t) d deep hx he h = (deep, refl, tt, (tt, hx, he, tt), refl, h)
  let_kept p xs e (m.apply k t ts) d deep hx he h = (deep, refl, tt, (tt, hx, he, tt), refl, h)
  let_kept p xs e (m.call k t u ts) d deep hx he h = (deep, refl, tt, (tt, hx, he, tt), refl, h)
  let_kept p xs e (m.primop k x ts) d deep hx he h = (deep, refl, tt, (tt, hx, he, tt), refl, h)
  let_kept p xs e (m.try k t as9 u ys w) d deep hx he h = (deep, refl, tt, (tt, hx, he, tt), refl, h)
  let_kept p xs e (m.receive k cs t u) d deep hx he h = (deep, refl, tt, (tt, hx, he, tt), refl, h)
  let_kept p xs e (m.catch k t) d deep hx he h = (deep, refl, tt, (tt, hx, he, tt), refl, h)

  do_kept : (p : Place) (e b : m.Tree) (d : ℕ) → d ≤ l → Fits l (d + 1) e → Fits l d b → Fits l d (before p (do_ e) b)
  do_kept p e (m.chain k ss t) d deep he h = (deep, refl, tt, (tt, he, h.3), h.4, h.5)
  do_kept p e (m.variable k x) d deep he h = (deep, refl, tt, (tt, he, tt), refl, h)
  do_kept p e (m.local k f) d deep he h = (deep, refl, tt, (tt, he, tt), refl, h)
  do_kept p e (m.external k x f) d deep he h = (deep, refl, tt, (tt, he, tt), refl, h)
  do_kept p e (m.literal k x) d deep he h = (deep, refl, tt, (tt, he, tt), refl, h)
  do_kept p e (m.function k xs t) d deep he h = (deep, refl, tt, (tt, he, tt), refl, h)
  do_kept p e (m.listed k ts t) d deep he h = (deep, refl, tt, (tt, he, tt), refl, h)
  do_kept p e (m.tuple k ts) d deep he h = (deep, refl, tt, (tt, he, tt), refl, h)
  do_kept p e (m.new_map k ps) d deep he h = (deep, refl, tt, (tt, he, tt), refl, h)
  do_kept p e (m.updated_map k ps t) d deep he h = (deep, refl, tt, (tt, he, tt), refl, h)
  do_kept p e (m.binary k ss) d deep he h = (deep, refl, tt, (tt, he, tt), refl, h)
  do_kept p e (m.values k ts) d deep he h = (deep, refl, tt, (tt, he, tt), refl, h)
  do_kept p e (m.case k t cs) d deep he h = (deep, refl, tt, (tt, he, tt), refl, h)
  do_kept p e (m.letrec k ds t) d deep he h = (deep, refl, tt, (tt, he, tt), refl, h)
  do_kept p e (m.apply k t ts) d deep he h = (deep, refl, tt, (tt, he, tt), refl, h)
  do_kept p e (m.call k t u ts) d deep he h = (deep, refl, tt, (tt, he, tt), refl, h)
  do_kept p e (m.primop k x ts) d deep he h = (deep, refl, tt, (tt, he, tt), refl, h)
  do_kept p e (m.try k t xs u ys w) d deep he h = (deep, refl, tt, (tt, he, tt), refl, h)
  do_kept p e (m.receive k cs t u) d deep he h = (deep, refl, tt, (tt, he, tt), refl, h)
  do_kept p e (m.catch k t) d deep he h = (deep, refl, tt, (tt, he, tt), refl, h)

  pattern_note_kept : (n : Note) (p : m.Pattern) (d : ℕ) → NoteFits n → PatternFits l d p → PatternFits l d (noted_pattern n p)
  pattern_note_kept n (m.binds k x) d hn h = (h.0, hn, h.2)
  pattern_note_kept n (m.equals k x) d hn h = (h.0, hn, h.2)
  pattern_note_kept n (m.list_of k ps q) d hn h = (h.0, hn, h.2, h.3, h.4)
  pattern_note_kept n (m.tuple_of k ps) d hn h = (h.0, hn, h.2)
  pattern_note_kept n (m.map_of k ps) d hn h = (h.0, hn, h.2)
  pattern_note_kept n (m.binary_of k ss) d hn h = (h.0, hn, h.2)
  pattern_note_kept n (m.alias k x q) d hn h = (h.0, hn, h.2, h.3)

  pattern_noted : (v : m.Pattern) (o : Option Note) (d : ℕ) → PatternFits l d v → NoteFits (note_or_none o) → PatternFits l d (with_note noted_pattern (record { value = v; note = o }))
  pattern_noted v None d h hn = h
  pattern_noted v (Some n) d h hn = pattern_note_kept n v d hn h

  pattern_deep : (t : m.Pattern) (d : ℕ) → PatternFits l d t → d ≤ l
  pattern_deep (m.binds k x) d h = h.0
  pattern_deep t d h = h.0

  module_noted : (v : m.Module) (o : Option Note) → ModuleFits l v → NoteFits (note_or_none o) → ModuleFits l (with_note note_module (record { value = v; note = o }))
  module_noted v None h hn = h
  module_noted v (Some n) h hn = record { note = hn; exports = h.exports; defs = h.defs }

  clause_noted : (v : ClauseParts) (o : Option Note) (d : ℕ) → GoodSaid (bare_clause d) v → NoteFits (note_or_none o) → GoodSaid (clause d) (with_note noted_clause (record { value = v; note = o }))
  clause_noted v None d h hn = h
  clause_noted v (Some n) d h hn = (hn, h.1, h.2, h.3)

  function_noted : (v : FunctionParts) (o : Option Note) (d : ℕ) → GoodSaid (function d) v → NoteFits (note_or_none o) → GoodSaid (function d) (with_note note_function (record { value = v; note = o }))
  function_noted v None d h hn = h
  function_noted v (Some n) d h hn = (hn, h.1, h.2)

  names_fit : (es : List (Noted NameAt)) → Each (GoodBy (the (noted_ (the function_name)))) es → NamesFit (export_names es)
  names_fit [] h = tt
  names_fit (e ∷ es) h = (h.0.0, names_fit es h.1)

  vars_fit : (xs : List VarName) → Each (GoodBy (the variable)) xs → VariablesFit xs
  vars_fit [] h = tt
  vars_fit (x ∷ xs) h = (h.0, vars_fit xs h.1)

  all_fit : (d : ℕ) (xs : List m.Tree) → Each (GoodBy (the (expression d))) xs → AllFit l d (trees xs)
  all_fit d [] h = tt
  all_fit d (x ∷ xs) h = (h.0, all_fit d xs h.1)

  patterns_fit : (d : ℕ) (xs : List m.Pattern) → Each (GoodBy (the (pattern d))) xs → PatternsFit l d (patterns xs)
  patterns_fit d [] h = tt
  patterns_fit d (x ∷ xs) h = (h.0, patterns_fit d xs h.1)

  segments_fit : (d : ℕ) (xs : List SegmentParts) → Each (GoodBy (the (segment d))) xs → SegmentsFit l d (segments xs)
  segments_fit d [] h = tt
  segments_fit d (x ∷ xs) h = (h.0.0, h.0.1, segments_fit d xs h.1)

  pat_segments_fit : (d : ℕ) (xs : List PatSegmentParts) → Each (GoodBy (the (pattern_segment d))) xs → PatSegmentsFit l d (pat_segments xs)
  pat_segments_fit d [] h = tt
  pat_segments_fit d (x ∷ xs) h = (h.0.0, h.0.1, pat_segments_fit d xs h.1)

  pat_pairs_fit : (d : ℕ) (xs : List PatPairParts) → Each (GoodBy (the (pattern_pair d))) xs → PatPairsFit l d (pat_pairs xs)
  pat_pairs_fit d [] h = tt
  pat_pairs_fit d (x ∷ xs) h = (h.0.0, h.0.1, pat_pairs_fit d xs h.1)

  map_fits : (p : Place) (ps : m.Pairs) (o : Option m.Tree) (d : ℕ) → d ≤ l → PairsFit l (d + 1) ps → UpdatedFits (d + 1) o → Fits l d (map_tree (at p) ps o)
  map_fits p ps None d deep h g = (deep, tt, h)
  map_fits p ps (Some t) d deep h g = (deep, tt, h, g)

  bytes_fit : (p : Place) (d : ℕ) (bs : List ℕ) → d ≤ l → AreBytes bs → AllFit l d (trees (byte_trees p bs))
  bytes_fit p d [] deep h = tt
  bytes_fit p d (b ∷ bs) deep h = let small = h.0 in ((deep, tt, omega arith), bytes_fit p d bs deep h.1)

  string_fits : (p : Place) (d : ℕ) (bs : List ℕ) → d + 1 ≤ l → TextGood bs → (d ≤ l) × (d + 1 ≤ l) × SomeTrees (trees (byte_trees p bs)) × AllFit l (d + 1) (trees (byte_trees p bs))
      × Fits l (d + 1) (m.literal (at p) lit.Nil)
  string_fits p d [] deep h = absurd h
  string_fits p d (b ∷ bs) deep h = (omega arith, deep, tt, bytes_fit p (d + 1) (b ∷ bs) deep h, (deep, tt, tt))

  byte_patterns_fit : (p : Place) (d : ℕ) (bs : List ℕ) → d ≤ l → AreBytes bs → PatternsFit l d (patterns (byte_patterns p bs))
  byte_patterns_fit p d [] deep h = tt
  byte_patterns_fit p d (b ∷ bs) deep h = let small = h.0 in ((deep, tt, omega arith), byte_patterns_fit p d bs deep h.1)

  string_patterns_fit : (p : Place) (d : ℕ) (bs : List ℕ) → d + 1 ≤ l → TextGood bs
      → (d ≤ l) × (d + 1 ≤ l) × SomePatterns (patterns (byte_patterns p bs)) × PatternsFit l (d + 1) (patterns (byte_patterns p bs)) × PatternFits l (d + 1) (m.equals (at p) lit.Nil)
  string_patterns_fit p d [] deep h = absurd h
  string_patterns_fit p d (b ∷ bs) deep h = (omega arith, deep, tt, byte_patterns_fit p (d + 1) (b ∷ bs) deep h, (deep, tt, tt))

  ways_good : (n : Nonterminal) → AllKeep GoodBy n (ways n)
  ways_good (noted_ p) = (λ x0 h0. (h0, tt), (λ x0 h0 x1 h1 x2 h2. (h1, h2), tt))
  ways_good annotation = (λ x0 h0 x1 h1 x2 h2 x3 h3. note_of_fits x2, tt)
  ways_good (many c p) = (λ x0 h0. tt, (λ x0 h0 x1 h1. (h0, h1), tt))
  ways_good (more c p) = (λ x0 h0. tt, (λ x0 h0 x1 h1 x2 h2. (h1, h2), tt))
  ways_good annotated_module = (λ x0 h0. module_noted x0.value x0.note h0.0 h0.1, tt)
  ways_good «module» = (λ x0 h0 x1 h1 x2 h2 x3 h3 x4 h4 x5 h5 x6 h6 x7 h7. record { note = tt; exports = names_fit x3 h3; defs = h7 }, tt)
  ways_good attribute = (λ x0 h0 x1 h1 x2 h2. tt, tt)
  ways_good (definitions c d) = (λ x0 h0. tt, (λ x0 h0 x1 h1. (h0.0, h0.1, h0.2, h0.3, h1), tt))
  ways_good (definition d) = (λ x0 h0 x1 h1 x2 h2. (let f = function_noted x2.value x2.note d h2.0 h2.1 in (h0.0, f.0, f.1, f.2)), tt)
  ways_good function_name = (λ x0 h0 x1 h1 x2 h2. magnitude_small (value x2), tt)
  ways_good (function d) = (λ x0 h0 x1 h1 x2 h2 x3 h3 x4 h4. (tt, vars_fit x2 h2, h4), tt)
  ways_good variable = (λ x0 h0. (variable_text x0.value.kind h0.0.0 h0.0.1, h0.1), tt)
  ways_good variables = (λ x0 h0. (h0, tt), (λ x0 h0 x1 h1. vars_fit x1 h1, tt))
  ways_good (literal d) = (
    λ x0 h0. (h0.0, value_good x0.kind h0.1),
    (
      λ x0 h0. (h0.0, float_text x0.kind h0.1 h0.2),
      (λ x0 h0. (h0.0, value_good x0.kind h0.1), (λ x0 h0. (h0.0, tt), (λ x0 h0. (h0.0, tt), (λ x0 h0 x1 h1. (h0.0, tt), tt)))),
    ),
  )
  ways_good (constant d) = (λ x0 h0. tt, (λ x0 h0. tt, tt))
  ways_good (other_constant d) = (λ x0 h0. tt, (λ x0 h0 x1 h1. tt, (λ x0 h0 x1 h1 x2 h2 x3 h3. tt, (λ x0 h0 x1 h1. tt, (λ x0 h0 x1 h1. tt, tt)))))
  ways_good (constant_list d) = (λ x0 h0. tt, (λ x0 h0 x1 h1 x2 h2. tt, tt))
  ways_good (constant_rest d) = (λ x0 h0. tt, (λ x0 h0 x1 h1 x2 h2. tt, (λ x0 h0 x1 h1 x2 h2. tt, tt)))
  ways_good (constant_tail d) = (λ x0 h0. tt, (λ x0 h0. tt, tt))
  ways_good (constant_segment d) = (λ x0 h0 x1 h1 x2 h2 x3 h3 x4 h4. tt, tt)
  ways_good (constant_pair d) = (λ x0 h0 x1 h1 x2 h2. tt, tt)
  ways_good (expression d) = (λ x0 h0. tree_noted x0.value x0.note d h0.0 h0.1, tt)
  ways_good (bare_expression d) = (λ x0 h0. (h0.0, tt, h0.2, h0.3, h0.4), (λ x0 h0. h0, tt))
  ways_good (other_expression d) = (
    λ x0 h0. (h0.0, tt, variable_text x0.kind h0.1 h0.2),
    (
      λ x0 h0 x1 h1 x2 h2. (h0.0, tt, magnitude_small (value x2)),
      (
        λ x0 h0. (h0.0, tt, h0.1),
        (
          λ x0 h0 x1 h1 x2 h2 x3 h3 x4 h4. (h0.0, tt, vars_fit x2 h2, h4),
          (
            λ x0 h0 x1 h1 x2 h2 x3 h3. (h0.0, tt, h3),
            (
              λ x0 h0 x1 h1. (h0.0, tt, all_fit (d + 1) x1 h1),
              (
                λ x0 h0 x1 h1. (h0.0, tt, all_fit (d + 1) x1 h1),
                (
                  λ x0 h0 x1 h1. (h0.0, tt, segments_fit (d + 1) x1 h1),
                  (
                    λ x0 h0 x1 h1. map_fits x0.place (pairs x1.pairs) x1.updated d h0.0 h1.0 h1.1,
                    (
                      λ x0 h0 x1 h1 x2 h2 x3 h3 x4 h4 x5 h5. let_kept x0.place x1 x3 x5 d h0.0 h1 h3 h5,
                      (
                        λ x0 h0 x1 h1 x2 h2. do_kept x0.place x1 x2 d h0.0 h1 h2,
                        (
                          λ x0 h0 x1 h1 x2 h2 x3 h3 x4 h4. (h0.0, tt, tt, h1, (h3.0, h3.1, h3.2, h3.3, h4)),
                          (
                            λ x0 h0 x1 h1 x2 h2. (h0.0, tt, h1, h2),
                            (
                              λ x0 h0 x1 h1 x2 h2 x3 h3. (h0.0, tt, h1, all_fit (d + 1) x3 h3),
                              (
                                λ x0 h0 x1 h1 x2 h2 x3 h3 x4 h4 x5 h5. (h0.0, tt, h1, h3, all_fit (d + 1) x5 h5),
                                (
                                  λ x0 h0 x1 h1 x2 h2 x3 h3. (h0.0, tt, all_fit (d + 1) x3 h3),
                                  (
                                    λ x0 h0 x1 h1 x2 h2 x3 h3 x4 h4 x5 h5 x6 h6 x7 h7 x8 h8 x9 h9. (h0.0, tt, h1, h3, h5, h7, h9),
                                    (λ x0 h0 x1 h1 x2 h2 x3 h3 x4 h4. (h0.0, tt, h1, h2, h4), (λ x0 h0 x1 h1. (h0.0, tt, h1), tt)),
                                  ),
                                ),
                              ),
                            ),
                          ),
                        ),
                      ),
                    ),
                  ),
                ),
              ),
            ),
          ),
        ),
      ),
    ),
  )
  ways_good (list d) = (λ x0 h0. string_fits x0.place d (kind_text x0.kind) h0.0 (string_text x0.kind h0.1 h0.2), (λ x0 h0 x1 h1 x2 h2. (h0.0, fits_deep x1 (d + 1) h1, tt, (h1, h2.0), h2.1 (fits_deep x1 (d + 1) h1)), tt))
  ways_good (list_rest d) = (λ x0 h0. (tt, λ deep. (deep, tt, tt)), (λ x0 h0 x1 h1 x2 h2. ((h1, h2.0), h2.1), (λ x0 h0 x1 h1 x2 h2. h1, tt)))
  ways_good (list_tail d) = (λ x0 h0. (h0.3, λ deep. h0.4), (λ x0 h0. (tt, λ deep. h0), (λ x0 h0 x1 h1 x2 h2. (tt, λ deep. note_kept x2 x1 (d + 1) h2 h1), tt)))
  ways_good (segment d) = (λ x0 h0 x1 h1 x2 h2 x3 h3 x4 h4. (h1, all_fit d x4 h4), tt)
  ways_good (pairs_part d) = (λ x0 h0. (tt, tt), (λ x0 h0 x1 h1 x2 h2. (tt, h1), (λ x0 h0 x1 h1. ((h0.0, h0.1, h1.0), h1.1), tt)))
  ways_good (more_pairs d) = (λ x0 h0. (tt, tt), (λ x0 h0 x1 h1 x2 h2. (tt, h1), (λ x0 h0 x1 h1 x2 h2. ((h1.0, h1.1, h2.0), h2.1), tt)))
  ways_good (pair d) = (λ x0 h0. h0.0, tt)
  ways_good (bare_pair d) = (λ x0 h0 x1 h1 x2 h2. (h0, h2), (λ x0 h0 x1 h1 x2 h2. (h0, h2), tt))
  ways_good (clauses_to c d) = (λ x0 h0. tt, (λ x0 h0 x1 h1. (h0.0, h0.1, h0.2, h0.3, h1), tt))
  ways_good (clause d) = (λ x0 h0. clause_noted x0.value x0.note d h0.0 h0.1, tt)
  ways_good (bare_clause d) = (λ x0 h0 x1 h1 x2 h2 x3 h3 x4 h4. (tt, h0, h2, h4), tt)
  ways_good (clause_patterns d) = (λ x0 h0. (h0, tt), (λ x0 h0 x1 h1 x2 h2. (pattern_note_kept x2 x1 d h2 h1, tt), (λ x0 h0 x1 h1. patterns_fit d x1 h1, tt)))
  ways_good (pattern d) = (λ x0 h0. pattern_noted x0.value x0.note d h0.0 h0.1, tt)
  ways_good (bare_pattern d) = (λ x0 h0. (h0.0, tt, h0.2, h0.3, h0.4), (λ x0 h0. h0, tt))
  ways_good (other_pattern d) = (
    λ x0 h0. (h0.0, tt, variable_text x0.kind h0.1 h0.2),
    (
      λ x0 h0. (h0.0, tt, h0.1),
      (
        λ x0 h0 x1 h1. (h0.0, tt, patterns_fit (d + 1) x1 h1),
        (λ x0 h0 x1 h1 x2 h2. (h0.0, tt, h0.1, h2), (λ x0 h0 x1 h1. (h0.0, tt, pat_segments_fit (d + 1) x1 h1), (λ x0 h0 x1 h1. (h0.0, tt, pat_pairs_fit (d + 1) x1 h1), tt))),
      ),
    ),
  )
  ways_good (alias_variable d) = (λ x0 h0. (h0.0, (variable_text x0.kind h0.1 h0.2, tt)), (λ x0 h0 x1 h1 x2 h2. (h1.0, (variable_text x1.kind h1.1 h1.2, h2)), tt))
  ways_good (pattern_list d) = (
    λ x0 h0. string_patterns_fit x0.place d (kind_text x0.kind) h0.0 (string_text x0.kind h0.1 h0.2),
    (λ x0 h0 x1 h1 x2 h2. (h0.0, pattern_deep x1 (d + 1) h1, tt, (h1, h2.0), h2.1 (pattern_deep x1 (d + 1) h1)), tt),
  )
  ways_good (pattern_rest d) = (λ x0 h0. (tt, λ deep. (deep, tt, tt)), (λ x0 h0 x1 h1 x2 h2. ((h1, h2.0), h2.1), (λ x0 h0 x1 h1 x2 h2. h1, tt)))
  ways_good (pattern_tail d) = (λ x0 h0. (h0.3, λ deep. h0.4), (λ x0 h0. (tt, λ deep. h0), (λ x0 h0 x1 h1 x2 h2. (tt, λ deep. pattern_note_kept x2 x1 (d + 1) h2 h1), tt)))
  ways_good (pattern_segment d) = (λ x0 h0 x1 h1 x2 h2 x3 h3 x4 h4. (h1, all_fit d x4 h4), tt)
  ways_good (pattern_pair d) = (λ x0 h0. h0.0, tt)
  ways_good (bare_pattern_pair d) = (λ x0 h0 x1 h1 x2 h2. (h0, h2), tt)

  -- ---- what is read is good

  good : (p : Part) (ts us : List Token) (v : SaidBy p) → TokensGood ts → Reads l p ts v us → GoodBy p v
  good p ts us v g h = walk GoodBy l TokensGood (λ c t left known fit. ((known.0, fit), known.1)) (λ d c t left known fit deep. ((deep, known.0, fit), known.1)) ways_good p ts us v g h

  pub spelled_fits : (ts : List Token) (x : m.Module) → TokensGood ts → SpellsTo l ts x → (y : m.Module) × ModuleFits l y × (numbered y ≡ x)
  spelled_fits ts x g h = (h.says, good (the annotated_module) ts [] h.says g h.reads, h.labels)
