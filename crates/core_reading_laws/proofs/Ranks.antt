-- A number for each part of the grammar, which the part that a way of it begins with has a lower one of. So before a token is taken, only
-- so many nonterminals are opened. And no way is without a part.
use Rattle.std.proofs.Common.{◌≡◌, ℕ, suc, ◌≤◌, Bool, true, false, ◌&&◌, List, [], ◌∷◌, ◌++◌, length, nat_le, refl, sym, ap, arith, true≢false}
use Rattle.std.proofs.lemmas.Bool.Decides.{nat_tests}
use Rattle.core_parse_grammar.specs.Grammar.{Part, a, first, the, Nonterminal, Said, Way, ways, noted_, annotation, many, more, annotated_module, «module», attribute, function_name, definition, function}
use Rattle.core_parse_grammar.specs.Grammar.{definitions, variable, variables, literal, constant, other_constant, constant_list, constant_rest, constant_tail, constant_segment, constant_pair, expression}
use Rattle.core_parse_grammar.specs.Grammar.{bare_expression, other_expression, list, list_rest, list_tail, segment, pairs, more_pairs, pair, bare_pair, clauses_to, clause, bare_clause, clause_patterns, pattern}
use Rattle.core_parse_grammar.specs.Grammar.{bare_pattern, other_pattern, alias_variable, pattern_list, pattern_rest, pattern_tail, pattern_segment, pattern_pair, bare_pattern_pair}

abbrev mutual
  pub rank : Part → ℕ
  rank (a c) = 0
  rank (first d c) = 0
  rank (the n) = suc (opens n)

  -- the highest rank that a way of the nonterminal begins with
  pub opens : Nonterminal → ℕ
  opens (noted_ p) = rank p
  opens annotation = 0
  opens (many c p) = rank p
  opens (more c p) = 0
  opens annotated_module = 2
  opens «module» = 0
  opens attribute = 1
  opens function_name = 0
  opens (definition d) = 2
  opens (function d) = 0
  opens (definitions c d) = 3
  opens variable = 1
  opens variables = 2
  opens (literal d) = 0
  opens (constant d) = 2
  opens (other_constant d) = 1
  opens (constant_list d) = 0
  opens (constant_rest d) = 0
  opens (constant_tail d) = 2
  opens (constant_segment d) = 0
  opens (constant_pair d) = 3
  opens (expression d) = 4
  opens (bare_expression d) = 2
  opens (other_expression d) = 1
  opens (list d) = 0
  opens (list_rest d) = 0
  opens (list_tail d) = 2
  opens (segment d) = 0
  opens (pairs d) = 8
  opens (more_pairs d) = 0
  opens (pair d) = 7
  opens (bare_pair d) = 5
  opens (clauses_to c d) = 7
  opens (clause d) = 6
  opens (bare_clause d) = 4
  opens (clause_patterns d) = 3
  opens (pattern d) = 4
  opens (bare_pattern d) = 2
  opens (other_pattern d) = 1
  opens (alias_variable d) = 0
  opens (pattern_list d) = 0
  opens (pattern_rest d) = 0
  opens (pattern_tail d) = 2
  opens (pattern_segment d) = 0
  opens (pattern_pair d) = 7
  opens (bare_pattern_pair d) = 5

-- the rank of what some parts begin with
abbrev pub front_rank : List Part → ℕ
front_rank [] = 0
front_rank (p ∷ ps) = rank p

-- the parts of a way, of which there is one, begin with none of a higher rank
abbrev pub begins_low : ℕ → List Part → Bool
begins_low k [] = false
begins_low k (p ∷ ps) = nat_le (rank p) k

abbrev pub all_low : (n : Nonterminal) → ℕ → List (Way (Said n)) → Bool
all_low n k [] = true
all_low n k (w ∷ ws) = begins_low k w.parts && all_low n k ws

itself_low : (k : ℕ) → nat_le k k ≡ true
itself_low k = grind (arith, nat_tests)

zero_low : (k : ℕ) → nat_le 0 k ≡ true
zero_low k = grind (arith, nat_tests)

pub low_ways : (n : Nonterminal) → all_low n (opens n) (ways n) ≡ true
low_ways (noted_ p) = rw (itself_low (rank p), zero_low (rank p)) refl
low_ways annotation = refl
low_ways (many c p) = rw (itself_low (rank p), zero_low (rank p)) refl
low_ways (more c p) = refl
low_ways annotated_module = refl
low_ways «module» = refl
low_ways attribute = refl
low_ways function_name = refl
low_ways (definition d) = refl
low_ways (function d) = refl
low_ways (definitions c d) = refl
low_ways variable = refl
low_ways variables = refl
low_ways (literal d) = refl
low_ways (constant d) = refl
low_ways (other_constant d) = refl
low_ways (constant_list d) = refl
low_ways (constant_rest d) = refl
low_ways (constant_tail d) = refl
low_ways (constant_segment d) = refl
low_ways (constant_pair d) = refl
low_ways (expression d) = refl
low_ways (bare_expression d) = refl
low_ways (other_expression d) = refl
low_ways (list d) = refl
low_ways (list_rest d) = refl
low_ways (list_tail d) = refl
low_ways (segment d) = refl
low_ways (pairs d) = refl
low_ways (more_pairs d) = refl
low_ways (pair d) = refl
low_ways (bare_pair d) = refl
low_ways (clauses_to c d) = refl
low_ways (clause d) = refl
low_ways (bare_clause d) = refl
low_ways (clause_patterns d) = refl
low_ways (pattern d) = refl
low_ways (bare_pattern d) = refl
low_ways (other_pattern d) = refl
low_ways (alias_variable d) = refl
low_ways (pattern_list d) = refl
low_ways (pattern_rest d) = refl
low_ways (pattern_tail d) = refl
low_ways (pattern_segment d) = refl
low_ways (pattern_pair d) = refl
low_ways (bare_pattern_pair d) = refl

pub begins_low-is : (k : ℕ) (ps qs : List Part) → begins_low k ps ≡ true → (ps ≡ [] → ⊥) × (front_rank (ps ++ qs) ≤ k)
begins_low-is k [] qs e = absurd (true≢false (sym e))
begins_low-is k (p ∷ ps) qs e = (λ q. absurd (omega (arith, ap length q)), grind (arith, nat_tests))
