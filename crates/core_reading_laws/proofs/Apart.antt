-- Tests, which are computed, of whether two rows of symbols can't both begin the same tokens.
use Rattle.std.proofs.Common.{ℕ, zero, suc, Bool, true, false, not, nat_lt, ◌&&◌, ◌||◌, List, [], ◌∷◌, ◌++◌}
use Rattle.core_scan.specs.declared.sort.Sort.{Sort}
use Rattle.core_scan.specs.declared.sort.Sort.TheVariants as s
use Rattle.core_scan.specs.Sorts.{fits}
use Rattle.core_parse_grammar.specs.Grammar.{Nonterminal, definition, function, expression, bare_expression, other_expression, list_tail, pair, bare_pair}
use Rattle.core_parse_grammar.specs.Grammar.{clause, bare_clause, clause_patterns, pattern, bare_pattern, other_pattern, pattern_tail, pattern_pair, bare_pattern_pair}
use Rattle.core_reading_laws.proofs.Ranks.{opens}
use Rattle.core_reading_laws.proofs.Symbols.{Symbol, token_of, opening, Head, simple, annotated, listed, rest_of, defined_to, closed_to, simple_at, rows, same}

-- ---- what never follows

-- A token that never follows what a symbol reads, where it stands in a module: it would belong to it.
pub data Bar : Type 0 where
  nothing_barred slash equals : Bar

abbrev pub blocks : Bar → Sort → Bool
blocks nothing_barred q = false
blocks slash q = fits s.Slash q
blocks equals q = fits s.Equals q

-- one bar is within another
abbrev pub within : Bar → Bar → Bool
within nothing_barred _ = true
within slash slash = true
within equals equals = true
within _ _ = false

abbrev pub bar_at : Nonterminal → Bar
bar_at (definition d) = slash
bar_at (function d) = slash
bar_at (expression d) = slash
bar_at (bare_expression d) = slash
bar_at (other_expression d) = slash
bar_at (list_tail d) = slash
bar_at (pair d) = slash
bar_at (bare_pair d) = slash
bar_at (clause d) = slash
bar_at (bare_clause d) = slash
bar_at (clause_patterns d) = equals
bar_at (pattern d) = equals
bar_at (bare_pattern d) = equals
bar_at (other_pattern d) = equals
bar_at (pattern_tail d) = equals
bar_at (pattern_pair d) = equals
bar_at (bare_pattern_pair d) = equals
bar_at _ = nothing_barred

abbrev mutual
  pub bar : Symbol → Bar
  bar (token_of c) = nothing_barred
  bar (opening h) = bar_of h

  pub bar_of : Head → Bar
  bar_of (simple k) = bar_at (simple_at k)
  bar_of (annotated s) = bar s
  bar_of _ = nothing_barred

-- ---- the first tokens

-- a token may be of both sorts
abbrev pub meets : Sort → Sort → Bool
meets c e = fits c e || fits e c

abbrev pub all_rows : (List Symbol → Bool) → List (List Symbol) → Bool
all_rows test [] = true
all_rows test (r ∷ rs) = test r && all_rows test rs

-- the first of a row
abbrev pub first_of_row : (Symbol → Bool) → List Symbol → Bool
first_of_row test [] = false
first_of_row test (s ∷ ss) = test s

-- what the symbol reads begins with no token of the sort; looking so many nonterminals down
abbrev pub never : ℕ → Symbol → Sort → Bool
never k (token_of c) e = not (meets c e)
never zero (opening h) e = false
never (suc k) (opening h) e = all_rows (λ r. first_of_row (λ s. never k s e) r) (rows h)

abbrev pub never_barred : Bar → Symbol → Bool
never_barred nothing_barred q = true
never_barred slash q = never 12 q s.Slash
never_barred equals q = never 12 q s.Equals

-- What follows a symbol in a row isn't barred, where what follows the row isn't.
abbrev pub may_follow : Bar → Bar → List Symbol → Bool
may_follow b c [] = within c b
may_follow b c (q ∷ qs) = never_barred c q

-- ---- the symbols of the grammar

abbrev pub simple_count : ℕ
simple_count = 41

abbrev pub bracketed : List Symbol
bracketed =
    token_of s.Atom ∷ token_of s.Variable ∷ opening (simple 2) ∷ opening (simple 4) ∷ opening (simple 6) ∷ opening (simple 10) ∷ opening (simple 18)
    ∷ opening (simple 27) ∷ opening (simple 29) ∷ opening (simple 32) ∷ opening (simple 40) ∷ []

-- an item of a list, and what closes the list
abbrev pub items : List (Sort × Symbol)
items =
    (s.CloseSquare, opening (simple 10)) ∷ (s.CloseSquare, opening (annotated (opening (simple 4)))) ∷ (s.CloseSquare, opening (simple 3)) ∷ (s.CloseRound, opening (simple 7))
    ∷ (s.Greater, opening (simple 7))
    ∷ (s.CloseCurly, opening (simple 10)) ∷ (s.CloseBinary, opening (simple 15)) ∷ (s.CloseMap, opening (simple 16)) ∷ (s.CloseRound, opening (simple 10)) ∷ (s.CloseCurly, opening (simple 17))
    ∷ (s.Greater, opening (simple 17))
    ∷ (s.CloseBinary, opening (simple 23)) ∷ (s.CloseRound, opening (simple 17)) ∷ (s.Greater, opening (simple 31)) ∷ (s.CloseCurly, opening (simple 31)) ∷ (s.CloseBinary, opening (simple 38)) ∷ (s.CloseMap, opening (simple 39))
    ∷ []

abbrev pub heads_over : List Symbol → List Head
heads_over [] = []
heads_over (s ∷ ss) = annotated s ∷ heads_over ss

abbrev pub heads_of : List (Sort × Symbol) → List Head
heads_of [] = []
heads_of (x ∷ xs) = listed x.0 x.1 ∷ rest_of x.0 x.1 ∷ heads_of xs

-- those over a part or a closing token
abbrev pub compounds : List Head
compounds = heads_over bracketed ++ heads_of items ++ defined_to s.End ∷ defined_to s.In ∷ closed_to s.End ∷ closed_to s.After ∷ []

abbrev pub is_among : Head → List Head → Bool
is_among h [] = false
is_among h (k ∷ ks) = same (opening h) (opening k) || is_among h ks

abbrev pub is_known : Symbol → Bool
is_known (token_of c) = true
is_known (opening (simple k)) = nat_lt k simple_count
is_known (opening h) = is_among h compounds

-- ---- rows apart

abbrev mutual
  pub level : Symbol → ℕ
  level (token_of c) = 0
  level (opening h) = suc (level_of h)

  pub level_of : Head → ℕ
  level_of (simple k) = opens (simple_at k)
  level_of (annotated s) = level s
  level_of (listed c s) = level s
  level_of (rest_of c s) = 0
  level_of (defined_to c) = 3
  level_of (closed_to c) = 7

-- The symbols don't both read what they read of the same tokens, where what is left behind either doesn't begin with what is barred. Of
-- two nonterminals in front that differ the one with the longer way to a token is opened.
abbrev pub apart : Bar → ℕ → List Symbol → List Symbol → Bool
apart b zero ss qs = false
apart b (suc k) [] [] = false
apart b (suc k) [] (token_of c ∷ qs) = blocks b c
apart b (suc k) [] (opening h ∷ qs) = false
apart b (suc k) (s ∷ ss) [] = apart b k [] (s ∷ ss)
apart b (suc k) (token_of c ∷ ss) (token_of e ∷ qs) = elim (meets c e) [ true ↦ apart b k ss qs | false ↦ true ]
apart b (suc k) (token_of c ∷ ss) (opening h ∷ qs) = all_rows (λ r. apart b k (r ++ qs) (token_of c ∷ ss)) (rows h)
apart b (suc k) (opening h ∷ ss) (token_of e ∷ qs) = all_rows (λ r. apart b k (r ++ ss) (token_of e ∷ qs)) (rows h)
apart b (suc k) (opening h ∷ ss) (opening i ∷ qs) = elim (same (opening h) (opening i)) [
  | true ↦ is_known (opening h) && (may_follow b (bar_of h) ss && (may_follow b (bar_of h) qs && apart b k ss qs))
  | false ↦ elim (nat_lt (level_of h) (level_of i)) [
    | true ↦ all_rows (λ r. apart b k (r ++ qs) (opening h ∷ ss)) (rows i)
    | false ↦ all_rows (λ r. apart b k (r ++ ss) (opening i ∷ qs)) (rows h)
  ]
]

-- a row whose symbols are known, and are followed by nothing barred
abbrev pub row_fine : Bar → List Symbol → Bool
row_fine b [] = true
row_fine b (s ∷ ss) = is_known s && (may_follow b (bar s) ss && row_fine b ss)

-- rows that are fine, and pairwise apart
abbrev pub rows_fine : Bar → List (List Symbol) → Bool
rows_fine b [] = true
rows_fine b (r ∷ rs) = row_fine b r && (all_rows (λ q. apart b 60 r q) rs && rows_fine b rs)

abbrev pub is_fine : Head → Bool
is_fine h = rows_fine (bar_of h) (rows h)
