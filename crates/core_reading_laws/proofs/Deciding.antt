-- What goes token by token and nonterminal by nonterminal is decided.
use Rattle.std.proofs.Common.{◌≡◌, ◌⊎◌, inl, inr, ℕ, zero, suc, ◌<◌, Bool, true, false, List, [], ◌∷◌, ◌++◌, refl, sym, arith, true≢false}
use Rattle.std.proofs.lemmas.Bool.{and_parts}
use Rattle.components.proofs.Bounded.{Decided, both}
use Rattle.core_scan.specs.declared.token.Token.{Token}
use Rattle.core_scan.specs.declared.sort.Sort.{Sort}
use Rattle.core_scan.specs.Sorts.{sort, fits}
use Rattle.core_parse_grammar.specs.Grammar.{Part, a, first, the, Nonterminal, Said, Way, ways}
use Rattle.core_reading_laws.proofs.Ranks.{front_rank, opens, begins_low, all_low, low_ways, begins_low-is}

-- the parts of one of the ways are such
abbrev pub SomeWay : (n : Nonterminal) → (List Part → Type 0) → List (Way (Said n)) → Type 0
SomeWay n P [] = ⊥
SomeWay n P (w ∷ ws) = P w.parts ⊎ SomeWay n P ws

test : (b : Bool) → Decided (b ≡ true)
test true = inl refl
test false = inr (λ e. true≢false (sym e))

-- of parts and tokens
pub record Follows (Q : List Part → List Token → Type 0) (Fits : ℕ → Type 0) : Type 0 where
  pub ends : (ps : List Part) → Decided (Q ps [])
  pub deep : (d : ℕ) → Decided (Fits d)
  pub nothing : (t : Token) (ts : List Token) → Q [] (t ∷ ts) → ⊥
  pub takes : (c : Sort) (t : Token) (ps : List Part) (ts : List Token) → fits c (sort t) ≡ true → Q ps ts → Q (a c ∷ ps) (t ∷ ts)
  pub taken : (c : Sort) (t : Token) (ps : List Part) (ts : List Token) → Q (a c ∷ ps) (t ∷ ts) → (fits c (sort t) ≡ true) × Q ps ts
  pub begins : (d : ℕ) (c : Sort) (t : Token) (ps : List Part) (ts : List Token) → fits c (sort t) ≡ true → Fits d → Q ps ts → Q (first d c ∷ ps) (t ∷ ts)
  pub begun : (d : ℕ) (c : Sort) (t : Token) (ps : List Part) (ts : List Token) → Q (first d c ∷ ps) (t ∷ ts) → (fits c (sort t) ≡ true) × (Fits d × Q ps ts)
  pub opens_in : (n : Nonterminal) (ps : List Part) (t : Token) (ts : List Token) → SomeWay n (λ qs. Q (qs ++ ps) (t ∷ ts)) (ways n) → Q (the n ∷ ps) (t ∷ ts)
  pub opened : (n : Nonterminal) (ps : List Part) (t : Token) (ts : List Token) → Q (the n ∷ ps) (t ∷ ts) → SomeWay n (λ qs. Q (qs ++ ps) (t ∷ ts)) (ways n)

module _ {Q : List Part → List Token → Type 0} {Fits : ℕ → Type 0} (f : Follows Q Fits) where
  by_token : (c : Sort) (t : Token) (ps : List Part) (ts : List Token) → Decided (fits c (sort t) ≡ true) → Decided (Q ps ts) → Decided (Q (a c ∷ ps) (t ∷ ts))
  by_token c t ps ts (inl e) (inl h) = inl (f.takes c t ps ts e h)
  by_token c t ps ts (inl e) (inr never) = inr (λ h. never (f.taken c t ps ts h).1)
  by_token c t ps ts (inr other) d = inr (λ h. other (f.taken c t ps ts h).0)

  by_node : (d : ℕ) (c : Sort) (t : Token) (ps : List Part) (ts : List Token) → Decided ((fits c (sort t) ≡ true) × (Fits d × Q ps ts)) → Decided (Q (first d c ∷ ps) (t ∷ ts))
  by_node d c t ps ts (inl h) = inl (f.begins d c t ps ts h.0 h.1.0 h.1.1)
  by_node d c t ps ts (inr never) = inr (λ h. never (f.begun d c t ps ts h))

  some_way : (n : Nonterminal) (P : List Part → Type 0) (k : ℕ) → ((qs : List Part) → begins_low k qs ≡ true → Decided (P qs)) → (ws : List (Way (Said n))) → all_low n k ws ≡ true → Decided (SomeWay n P ws)
  some_way n P k decide [] e = inr (λ h. h)
  some_way n P k decide (w ∷ ws) e =
      let parts = and_parts (begins_low k w.parts) (all_low n k ws) e in
      elim (decide w.parts parts.0) [
        | inl h ↦ inl (inl h)
        | inr never ↦ elim (some_way n P k decide ws parts.1) [ inl h ↦ inl (inr h) | inr none ↦ inr (λ h. elim h [ inl x ↦ never x | inr x ↦ none x ]) ]
      ]

  by_ways : (n : Nonterminal) (ps : List Part) (t : Token) (ts : List Token) → Decided (SomeWay n (λ qs. Q (qs ++ ps) (t ∷ ts)) (ways n)) → Decided (Q (the n ∷ ps) (t ∷ ts))
  by_ways n ps t ts (inl h) = inl (f.opens_in n ps t ts h)
  by_ways n ps t ts (inr never) = inr (λ h. never (f.opened n ps t ts h))

  -- at one token, where the tokens behind it are decided
  at_token : (t : Token) (ts : List Token) → ((ps : List Part) → Decided (Q ps ts)) → (k : ℕ) (ps : List Part) → front_rank ps < k → Decided (Q ps (t ∷ ts))
  at_token t ts rest zero ps h = absurd (omega (arith, h))
  at_token t ts rest (suc k) [] h = inr (f.nothing t ts)
  at_token t ts rest (suc k) (a c ∷ ps) h = by_token c t ps ts (test (fits c (sort t))) (rest ps)
  at_token t ts rest (suc k) (first d c ∷ ps) h = by_node d c t ps ts (both (test (fits c (sort t))) (both (f.deep d) (rest ps)))
  at_token t ts rest (suc k) (the n ∷ ps) h =
      by_ways n ps t ts (some_way n (λ qs. Q (qs ++ ps) (t ∷ ts)) (opens n) (λ qs e. at_token t ts rest k (qs ++ ps) (omega (arith, h, (begins_low-is (opens n) qs ps e).1))) (ways n) (low_ways n))

  pub decided : (ts : List Token) (ps : List Part) → Decided (Q ps ts)
  decided [] ps = f.ends ps
  decided (t ∷ ts) ps = at_token t ts (decided ts) (suc (front_rank ps)) ps (omega arith)
