-- What begins a module is a whole module, or goes on to one.
use Rattle.std.proofs.Common.{◌≡◌, ◌⊎◌, inl, inr, ℕ, zero, suc, ◌+◌, ◌≤◌, ◌<◌, Bool, true, false, ◌&&◌, List, [], ◌∷◌, ◌++◌, refl, sym, arith, true≢false, codes, pos}
use Rattle.std.proofs.lemmas.Bool.{and_parts}
use Rattle.core_ast.specs.Model as m
use Rattle.core_scan.specs.declared.token.Token.{Token}
use Rattle.core_scan.specs.declared.token.TokenKind.{TokenKind}
use Rattle.core_scan.specs.declared.token.TokenKind.TheVariants as k
use Rattle.core_scan.specs.declared.sort.Sort.{Sort}
use Rattle.core_scan.specs.declared.sort.Sort.TheVariants as s
use Rattle.core_scan.specs.Sorts.{sort, kind_sort, fits}
use Rattle.core_parse_grammar.specs.Grammar.{Part, a, first, the, Nonterminal, Said, Way, ways, noted_, annotated_module}
use Rattle.core_parse_grammar.specs.Spells.{Reads, token, node, SpellsTo, SpellsModule}
use Rattle.core_parse_grammar.specs.Begins.{PrefixesAll, inside, BeginsTo}
use Rattle.core_reading_laws.proofs.Ranks.{front_rank, opens, begins_low, all_low, low_ways, begins_low-is}
use Rattle.core_reading_laws.proofs.Deciding.{SomeWay}
use Rattle.core_reading_laws.proofs.Fronts.{opened, taken, begun, at_end}
use Rattle.core_reading_laws.proofs.Wholes.{AllRead, all_done, and_more, no_part, all_opens, spelled_by}
use Rattle.core_reading_laws.proofs.AnyDepth.{all_deeper}
use Rattle.core_reading_laws.proofs.Symbols.{symbol}
use Rattle.core_reading_laws.proofs.Derived.{derived, derives_append}
use Rattle.core_reading_laws.proofs.OneReading.{same_rest}

-- ---- a token of each sort

abbrev kind_of : Sort → TokenKind
kind_of s.After = k.Word (codes "after")
kind_of s.Apply = k.Word (codes "apply")
kind_of s.Attributes = k.Word (codes "attributes")
kind_of s.Call = k.Word (codes "call")
kind_of s.Case = k.Word (codes "case")
kind_of s.Catch = k.Word (codes "catch")
kind_of s.Do = k.Word (codes "do")
kind_of s.End = k.Word (codes "end")
kind_of s.Fun = k.Word (codes "fun")
kind_of s.In = k.Word (codes "in")
kind_of s.Let = k.Word (codes "let")
kind_of s.Letrec = k.Word (codes "letrec")
kind_of s.Module = k.Word (codes "module")
kind_of s.Of = k.Word (codes "of")
kind_of s.Primop = k.Word (codes "primop")
kind_of s.Receive = k.Word (codes "receive")
kind_of s.Try = k.Word (codes "try")
kind_of s.When = k.Word (codes "when")
kind_of s.OpenRound = k.Symbol (codes "(")
kind_of s.CloseRound = k.Symbol (codes ")")
kind_of s.OpenCurly = k.Symbol (codes "{")
kind_of s.CloseCurly = k.Symbol (codes "}")
kind_of s.OpenSquare = k.Symbol (codes "[")
kind_of s.CloseSquare = k.Symbol (codes "]")
kind_of s.Less = k.Symbol (codes "<")
kind_of s.Greater = k.Symbol (codes ">")
kind_of s.Bar = k.Symbol (codes "|")
kind_of s.Comma = k.Symbol (codes ",")
kind_of s.Colon = k.Symbol (codes ":")
kind_of s.Slash = k.Symbol (codes "/")
kind_of s.Equals = k.Symbol (codes "=")
kind_of s.Arrow = k.Symbol (codes "->")
kind_of s.Noted = k.Symbol (codes "-|")
kind_of s.OpenBinary = k.Symbol (codes "#{")
kind_of s.CloseBinary = k.Symbol (codes "}#")
kind_of s.OpenSegment = k.Symbol (codes "#<")
kind_of s.OpenMap = k.Symbol (codes "~{")
kind_of s.CloseMap = k.Symbol (codes "}~")
kind_of s.Assoc = k.Symbol (codes "=>")
kind_of s.Exact = k.Symbol (codes ":=")
kind_of s.Variable = k.Variable (codes "X")
kind_of s.Small = k.Integer (pos 0) true
kind_of s.Integer = k.Integer (pos 0) true
kind_of s.Float = k.Float (codes "0.0")
kind_of s.Char = k.Char 0
kind_of s.Atom = k.Atom (codes "x")
kind_of s.EmptyText = k.Text []
kind_of s.Text = k.Text (codes "x")
kind_of s.Other = k.Word []

-- it has the sort
is_of : (c : Sort) → fits c (kind_sort (kind_of c)) ≡ true
is_of s.After = refl
is_of _ = refl

of_sort : Sort → Token
of_sort c = record { kind = kind_of c; place = record { byte = 0; line = 1 } }

fits_so : (c : Sort) → fits c (sort (of_sort c)) ≡ true
unfolding of_sort
fits_so c = is_of c

-- ---- some tokens that parts read, one after another: by the first way of each nonterminal

abbrev Filled : List Part → Type 0
Filled ps = (deepest : ℕ) × (ts : List Token) × AllRead deepest ps ts

fill_token : (c : Sort) (qs : List Part) → Filled qs → Filled (a c ∷ qs)
fill_token c qs h = (h.0, of_sort c ∷ h.1, and_more (token (fits_so c)) h.2)

fill_node : (d : ℕ) (c : Sort) (qs : List Part) → Filled qs → Filled (first d c ∷ qs)
fill_node d c qs h = (h.0 + d, of_sort c ∷ h.1, and_more (node (fits_so c) (omega arith)) (all_deeper h.0 (h.0 + d) (omega arith) qs h.1 h.2))

abbrev all_fill : (Part → Bool) → List Part → Bool
all_fill test [] = true
all_fill test (p ∷ ps) = test p && all_fill test ps

abbrev way_fills : (n : Nonterminal) → (Part → Bool) → List (Way (Said n)) → Bool
way_fills n test [] = false
way_fills n test (w ∷ ws) = all_fill test w.parts

-- the first ways come to tokens, so many nonterminals down
abbrev fills : ℕ → Part → Bool
fills k (a c) = true
fills k (first d c) = true
fills zero (the n) = false
fills (suc k) (the n) = way_fills n (λ p. fills k p) (ways n)

-- where a part passes the test, it reads something before what others read
abbrev Fills : (Part → Bool) → Type 0
Fills test = (p : Part) → test p ≡ true → (qs : List Part) → Filled qs → Filled (p ∷ qs)

fill_row : (test : Part → Bool) → Fills test → (ps : List Part) → all_fill test ps ≡ true → (qs : List Part) → Filled qs → Filled (ps ++ qs)
fill_row test each [] e qs h = h
fill_row test each (p ∷ ps) e qs h = let parts = and_parts (test p) (all_fill test ps) e in each p parts.0 (ps ++ qs) (fill_row test each ps parts.1 qs h)

fill_way : (n : Nonterminal) (test : Part → Bool) → Fills test → (ws : List (Way (Said n))) → way_fills n test ws ≡ true → (qs : List Part) → Filled qs
    → (deepest : ℕ) × (ts : List Token) × SomeWay n (λ ps. AllRead deepest (ps ++ qs) ts) ws
fill_way n test each [] e qs h = absurd (true≢false (sym e))
fill_way n test each (w ∷ ws) e qs h = let r = fill_row test each w.parts e qs h in (r.0, r.1, inl r.2)

fill_by : (k : ℕ) (p : Part) → fills k p ≡ true → (qs : List Part) → Filled qs → Filled (p ∷ qs)
fill_by k (a c) e qs h = fill_token c qs h
fill_by k (first d c) e qs h = fill_node d c qs h
fill_by zero (the n) e qs h = absurd (true≢false (sym e))
fill_by (suc k) (the n) e qs h = let r = fill_way n (λ p. fills k p) (λ p e qs h. fill_by k p e qs h) (ways n) e qs h in (r.0, r.1, all_opens r.0 n qs r.1 r.2)

mutual
  fill_part : (p : Part) (qs : List Part) → Filled qs → Filled (p ∷ qs)
  fill_part (a c) qs h = fill_token c qs h
  fill_part (first d c) qs h = fill_node d c qs h
  fill_part (the n) qs h = fill_nonterminal n qs h

  fill_nonterminal : (n : Nonterminal) (qs : List Part) → Filled qs → Filled (the n ∷ qs)
  fill_nonterminal (noted_ p) qs h = let r = fill_part p qs h in (r.0, r.1, all_opens r.0 (noted_ p) qs r.1 (inl r.2))
  fill_nonterminal n qs h = fill_by 12 (the n) refl qs h

fill_all : (ps : List Part) → Filled ps
fill_all [] = (0, [], all_done)
fill_all (p ∷ ps) = fill_part p ps (fill_all ps)

-- ---- what begins some parts is whole, or goes on

-- the tokens and more are those of the parts
abbrev Further : List Part → List Token → Type 0
Further ps ts = (k : ℕ) × (t : Token) × (more : List Token) × AllRead k ps (ts ++ t ∷ more)

further_at_end : (p : Part) (ps : List Part) (k : ℕ) (ts : List Token) → AllRead k (p ∷ ps) ts → Further (p ∷ ps) []
further_at_end p ps k [] (and_more {x = x} {us = us} r h) = absurd (no_part k p x us r)
further_at_end p ps k (t ∷ ts) h = (k, t, ts, h)

further_token : (c : Sort) (t : Token) (ps : List Part) (ts : List Token) → fits c (sort t) ≡ true → Further ps ts → Further (a c ∷ ps) (t ∷ ts)
further_token c t ps ts e h = (h.0, h.1, h.2, and_more (token e) h.3)

further_node : (d : ℕ) (c : Sort) (t : Token) (ps : List Part) (ts : List Token) → fits c (sort t) ≡ true → Further ps ts → Further (first d c ∷ ps) (t ∷ ts)
further_node d c t ps ts e h = (h.0 + d, h.1, h.2, and_more (node e (omega arith)) (all_deeper h.0 (h.0 + d) (omega arith) ps (ts ++ h.1 ∷ h.2) h.3))

module _ (deepest : ℕ) where
  abbrev Goes : List Part → List Token → Type 0
  Goes ps ts = AllRead deepest ps ts ⊎ Further ps ts

  goes_at_end : (ps : List Part) → Goes ps []
  goes_at_end [] = inl all_done
  goes_at_end (p ∷ ps) = let h = fill_all (p ∷ ps) in inr (further_at_end p ps h.0 h.1 h.2)

  goes_token : (c : Sort) (t : Token) (ps : List Part) (ts : List Token) → fits c (sort t) ≡ true → Goes ps ts → Goes (a c ∷ ps) (t ∷ ts)
  goes_token c t ps ts e (inl h) = inl (and_more (token e) h)
  goes_token c t ps ts e (inr h) = inr (further_token c t ps ts e h)

  goes_node : (d : ℕ) (c : Sort) (t : Token) (ps : List Part) (ts : List Token) → fits c (sort t) ≡ true → d ≤ deepest → Goes ps ts → Goes (first d c ∷ ps) (t ∷ ts)
  goes_node d c t ps ts e low (inl h) = inl (and_more (node e low) h)
  goes_node d c t ps ts e low (inr h) = inr (further_node d c t ps ts e h)

  abbrev OneGoes : (n : Nonterminal) → List (Way (Said n)) → List Part → List Token → Type 0
  OneGoes n ws ps ts = SomeWay n (λ qs. AllRead deepest (qs ++ ps) ts) ws ⊎ ((k : ℕ) × (t : Token) × (more : List Token) × SomeWay n (λ qs. AllRead k (qs ++ ps) (ts ++ t ∷ more)) ws)

  one_goes : (n : Nonterminal) (k : ℕ) (ps : List Part) (ts : List Token)
      → ((qs : List Part) → begins_low k qs ≡ true → PrefixesAll deepest (qs ++ ps) ts → Goes (qs ++ ps) ts)
      → (ws : List (Way (Said n))) → all_low n k ws ≡ true
      → SomeWay n (λ qs. PrefixesAll deepest (qs ++ ps) ts) ws → OneGoes n ws ps ts
  one_goes n k ps ts each [] e h = absurd h
  one_goes n k ps ts each (w ∷ ws) e (inl h) = elim (each w.parts (and_parts (begins_low k w.parts) (all_low n k ws) e).0 h) [ inl r ↦ inl (inl r) | inr r ↦ inr (r.0, r.1, r.2, inl r.3) ]
  one_goes n k ps ts each (w ∷ ws) e (inr h) = elim (one_goes n k ps ts each ws (and_parts (begins_low k w.parts) (all_low n k ws) e).1 h) [ inl r ↦ inl (inr r) | inr r ↦ inr (r.0, r.1, r.2, inr r.3) ]

  goes_way : (n : Nonterminal) (ps : List Part) (ts : List Token) → OneGoes n (ways n) ps ts → Goes (the n ∷ ps) ts
  goes_way n ps ts (inl h) = inl (all_opens deepest n ps ts h)
  goes_way n ps ts (inr h) = inr (h.0, h.1, h.2, all_opens h.0 n ps (ts ++ h.1 ∷ h.2) h.3)

  goes_on : (t : Token) (ts : List Token) → ((ps : List Part) → PrefixesAll deepest ps ts → Goes ps ts) → (k : ℕ) (ps : List Part) → front_rank ps < k → PrefixesAll deepest ps (t ∷ ts) → Goes ps (t ∷ ts)
  goes_on t ts rest zero ps low h = absurd (omega (arith, low))
  goes_on t ts rest (suc k) [] low h = absurd (at_end deepest t ts h)
  goes_on t ts rest (suc k) (a c ∷ ps) low h = let r = taken deepest c t ps ts h in goes_token c t ps ts r.0 (rest ps r.1)
  goes_on t ts rest (suc k) (first d c ∷ ps) low h = let r = begun deepest d c t ps ts h in goes_node d c t ps ts r.0 r.1.0 (rest ps r.1.1)
  goes_on t ts rest (suc k) (the n ∷ ps) low h =
      goes_way n ps (t ∷ ts) (one_goes n (opens n) ps (t ∷ ts) (λ qs e h. goes_on t ts rest k (qs ++ ps) (omega (arith, low, (begins_low-is (opens n) qs ps e).1)) h) (ways n) (low_ways n) (opened deepest n ps t ts h))

  goes : (ts : List Token) (ps : List Part) → PrefixesAll deepest ps ts → Goes ps ts
  goes [] ps h = goes_at_end ps
  goes (t ∷ ts) ps h = goes_on t ts (λ ps h. goes ts ps h) (suc (front_rank ps)) ps (omega arith) h

  -- a whole module, however deep, has none that goes on
  no_further : (d : ℕ) (ts : List Token) (x : m.Module) → Reads d (the annotated_module) ts x [] → Further (the annotated_module ∷ []) ts → ⊥
  no_further d ts x whole (k, t, more, h) = by h
    where
      by : AllRead k (the annotated_module ∷ []) (ts ++ t ∷ more) → ⊥
      by (and_more {x = y} r all_done) =
          let one = derived k (the annotated_module) (ts ++ t ∷ more) [] y r in
          let other = derives_append (symbol (the annotated_module)) ts [] (t ∷ more) (derived d (the annotated_module) ts [] x whole) in
          let ends : [] ≡ t ∷ more = same_rest (symbol (the annotated_module)) refl (ts ++ t ∷ more) [] (t ∷ more) one other tt refl in
          absurd cc

  -- So tokens that begin a module with nodes at most so deep, and spell one, spell it with such nodes.
  pub spelled_within : (ts : List Token) (x : m.Module) → BeginsTo deepest ts → SpellsModule ts x → (y : m.Module) × SpellsTo deepest ts y
  spelled_within ts x begins spelled = elim (goes ts (the annotated_module ∷ []) (inside begins)) [
    | inl h ↦ spelled_by deepest ts h
    | inr h ↦ absurd (no_further spelled.0 ts spelled.1.says spelled.1.reads h)
  ]
