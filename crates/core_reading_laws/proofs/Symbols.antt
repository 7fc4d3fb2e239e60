-- Parts of the grammar without the depths of their nodes. So parts that differ in depths alone are equal, and equality is computed.
use Rattle.std.proofs.Common.{◌≡◌, ℕ, Bool, true, false, ◌&&◌, ◌==◌, List, [], ◌∷◌, get_or, refl, sym, ap, ap₂, true≢false}
use Rattle.std.proofs.lemmas.Bool.{and_parts}
use Rattle.std.proofs.lemmas.Bool.Decides.{Decides-eqb}
use Rattle.core_scan.specs.declared.sort.Sort.{Sort}
use Rattle.core_scan.specs.declared.sort.Sort.TheVariants as s
use Rattle.core_scan.specs.Sorts.{code}
use Rattle.core_scan.proofs.SortLaws.{code_test}
use Rattle.core_parse_grammar.specs.Grammar.{Part, a, first, the, Nonterminal, Said, Way, ways, noted_, annotation, many, more, annotated_module, «module», attribute, function_name, definition, function}
use Rattle.core_parse_grammar.specs.Grammar.{definitions, variable, variables, literal, constant, other_constant, constant_list, constant_rest, constant_tail, constant_segment, constant_pair, expression}
use Rattle.core_parse_grammar.specs.Grammar.{bare_expression, other_expression, list, list_rest, list_tail, segment, pairs, more_pairs, pair, bare_pair, clauses_to, clause, bare_clause, clause_patterns, pattern}
use Rattle.core_parse_grammar.specs.Grammar.{bare_pattern, other_pattern, alias_variable, pattern_list, pattern_rest, pattern_tail, pattern_segment, pattern_pair, bare_pattern_pair}

-- A token of a sort, or a nonterminal: one of those that have no parts, by its number, or one over a part or a closing token.
mutual
  pub data Symbol : Type 0 where
    token_of : Sort → Symbol
    opening : Head → Symbol

  pub data Head : Type 0 where
    simple : ℕ → Head
    annotated : Symbol → Head
    listed rest_of : Sort → Symbol → Head
    defined_to closed_to : Sort → Head

-- the nonterminals by their numbers, at depth 0
abbrev pub simples : List Nonterminal
simples =
    annotation ∷ annotated_module ∷ «module» ∷ attribute ∷ function_name ∷ definition 0 ∷ function 0 ∷ variable ∷ variables ∷ literal 0
    ∷ constant 0 ∷ other_constant 0 ∷ constant_list 0 ∷ constant_rest 0 ∷ constant_tail 0
    ∷ constant_segment 0 ∷ constant_pair 0 ∷ expression 0 ∷ bare_expression 0 ∷ other_expression 0
    ∷ list 0 ∷ list_rest 0 ∷ list_tail 0 ∷ segment 0 ∷ pairs 0 ∷ more_pairs 0 ∷ pair 0 ∷ bare_pair 0 ∷ clause 0 ∷ bare_clause 0
    ∷ clause_patterns 0 ∷ pattern 0 ∷ bare_pattern 0 ∷ other_pattern 0 ∷ alias_variable 0 ∷ pattern_list 0 ∷ pattern_rest 0 ∷ pattern_tail 0 ∷ pattern_segment 0 ∷ pattern_pair 0 ∷ bare_pattern_pair 0 ∷ []

abbrev pub simple_at : ℕ → Nonterminal
simple_at k = get_or simples k annotation

abbrev mutual
  pub symbol : Part → Symbol
  symbol (a c) = token_of c
  symbol (first d c) = token_of c
  symbol (the n) = opening (head n)

  pub head : Nonterminal → Head
  head (noted_ p) = annotated (symbol p)
  head annotation = simple 0
  head (many c p) = listed c (symbol p)
  head (more c p) = rest_of c (symbol p)
  head annotated_module = simple 1
  head «module» = simple 2
  head attribute = simple 3
  head function_name = simple 4
  head (definition d) = simple 5
  head (function d) = simple 6
  head (definitions c d) = defined_to c
  head variable = simple 7
  head variables = simple 8
  head (literal d) = simple 9
  head (constant d) = simple 10
  head (other_constant d) = simple 11
  head (constant_list d) = simple 12
  head (constant_rest d) = simple 13
  head (constant_tail d) = simple 14
  head (constant_segment d) = simple 15
  head (constant_pair d) = simple 16
  head (expression d) = simple 17
  head (bare_expression d) = simple 18
  head (other_expression d) = simple 19
  head (list d) = simple 20
  head (list_rest d) = simple 21
  head (list_tail d) = simple 22
  head (segment d) = simple 23
  head (pairs d) = simple 24
  head (more_pairs d) = simple 25
  head (pair d) = simple 26
  head (bare_pair d) = simple 27
  head (clauses_to c d) = closed_to c
  head (clause d) = simple 28
  head (bare_clause d) = simple 29
  head (clause_patterns d) = simple 30
  head (pattern d) = simple 31
  head (bare_pattern d) = simple 32
  head (other_pattern d) = simple 33
  head (alias_variable d) = simple 34
  head (pattern_list d) = simple 35
  head (pattern_rest d) = simple 36
  head (pattern_tail d) = simple 37
  head (pattern_segment d) = simple 38
  head (pattern_pair d) = simple 39
  head (bare_pattern_pair d) = simple 40

abbrev pub symbols : List Part → List Symbol
symbols [] = []
symbols (p ∷ ps) = symbol p ∷ symbols ps

abbrev pub way_symbols : (n : Nonterminal) → List (Way (Said n)) → List (List Symbol)
way_symbols n [] = []
way_symbols n (w ∷ ws) = symbols w.parts ∷ way_symbols n ws

-- the ways of a nonterminal
abbrev pub rows : Head → List (List Symbol)
rows (simple k) = way_symbols (simple_at k) (ways (simple_at k))
rows (annotated p) = (p ∷ []) ∷ (token_of s.OpenRound ∷ p ∷ opening (simple 0) ∷ []) ∷ []
rows (listed c p) = (token_of c ∷ []) ∷ (p ∷ opening (rest_of c p) ∷ []) ∷ []
rows (rest_of c p) = (token_of c ∷ []) ∷ (token_of s.Comma ∷ p ∷ opening (rest_of c p) ∷ []) ∷ []
rows (defined_to c) = (token_of c ∷ []) ∷ (opening (simple 5) ∷ opening (defined_to c) ∷ []) ∷ []
rows (closed_to c) = (token_of c ∷ []) ∷ (opening (simple 28) ∷ opening (closed_to c) ∷ []) ∷ []

pub rows_are : (n : Nonterminal) → rows (head n) ≡ way_symbols n (ways n)
rows_are (noted_ p) = refl
rows_are annotation = refl
rows_are (many c p) = refl
rows_are (more c p) = refl
rows_are annotated_module = refl
rows_are «module» = refl
rows_are attribute = refl
rows_are function_name = refl
rows_are (definition d) = refl
rows_are (function d) = refl
rows_are (definitions c d) = refl
rows_are variable = refl
rows_are variables = refl
rows_are (literal d) = refl
rows_are (constant d) = refl
rows_are (other_constant d) = refl
rows_are (constant_list d) = refl
rows_are (constant_rest d) = refl
rows_are (constant_tail d) = refl
rows_are (constant_segment d) = refl
rows_are (constant_pair d) = refl
rows_are (expression d) = refl
rows_are (bare_expression d) = refl
rows_are (other_expression d) = refl
rows_are (list d) = refl
rows_are (list_rest d) = refl
rows_are (list_tail d) = refl
rows_are (segment d) = refl
rows_are (pairs d) = refl
rows_are (more_pairs d) = refl
rows_are (pair d) = refl
rows_are (bare_pair d) = refl
rows_are (clauses_to c d) = refl
rows_are (clause d) = refl
rows_are (bare_clause d) = refl
rows_are (clause_patterns d) = refl
rows_are (pattern d) = refl
rows_are (bare_pattern d) = refl
rows_are (other_pattern d) = refl
rows_are (alias_variable d) = refl
rows_are (pattern_list d) = refl
rows_are (pattern_rest d) = refl
rows_are (pattern_tail d) = refl
rows_are (pattern_segment d) = refl
rows_are (pattern_pair d) = refl
rows_are (bare_pattern_pair d) = refl

-- ---- equality

abbrev mutual
  pub same : Symbol → Symbol → Bool
  same (token_of c) (token_of e) = code c == code e
  same (opening h) (opening k) = same_head h k
  same _ _ = false

  pub same_head : Head → Head → Bool
  same_head (simple i) (simple j) = i == j
  same_head (annotated p) (annotated q) = same p q
  same_head (listed c p) (listed e q) = (code c == code e) && same p q
  same_head (rest_of c p) (rest_of e q) = (code c == code e) && same p q
  same_head (defined_to c) (defined_to e) = code c == code e
  same_head (closed_to c) (closed_to e) = code c == code e
  same_head _ _ = false

mutual
  pub same_is : (p q : Symbol) → same p q ≡ true → p ≡ q
  same_is (token_of c) (token_of e) h = ap token_of (code_test c e h)
  same_is (opening i) (opening j) h = ap opening (same_head_is i j h)
  same_is p q h = absurd (true≢false (sym h))

  pub same_head_is : (i j : Head) → same_head i j ≡ true → i ≡ j
  same_head_is (simple i) (simple j) h = ap simple ((Decides-eqb i j).0 h)
  same_head_is (annotated p) (annotated q) h = ap annotated (same_is p q h)
  same_head_is (listed c p) (listed e q) h = let k = and_parts (code c == code e) (same p q) h in ap₂ listed (code_test c e k.0) (same_is p q k.1)
  same_head_is (rest_of c p) (rest_of e q) h = let k = and_parts (code c == code e) (same p q) h in ap₂ rest_of (code_test c e k.0) (same_is p q k.1)
  same_head_is (defined_to c) (defined_to e) h = ap defined_to (code_test c e h)
  same_head_is (closed_to c) (closed_to e) h = ap closed_to (code_test c e h)
  same_head_is i j h = absurd (true≢false (sym h))
