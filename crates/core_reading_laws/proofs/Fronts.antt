-- Whether tokens begin a module is decided: with nodes that are at most so deep, and with any.
use Rattle.std.proofs.Common.{◌≡◌, ◌⊎◌, inl, inr, ℕ, suc, ◌≤◌, true, List, [], ◌∷◌, ◌++◌, arith}
use Rattle.components.proofs.Bounded.{Decided, is_low}
use Rattle.core_scan.specs.declared.token.Token.{Token}
use Rattle.core_scan.specs.declared.sort.Sort.{Sort}
use Rattle.core_scan.specs.Sorts.{sort, fits}
use Rattle.core_parse_grammar.specs.Grammar.{Part, a, first, the, Nonterminal, Said, Action, Way, ways}
use Rattle.core_parse_grammar.specs.Spells.{token, node, part, ReadsOne, here, later, ReadsAll, none, one}
use Rattle.core_parse_grammar.specs.Begins.{token_, node_, part_, PrefixesOne, here_, later_, PrefixesAll, none_, inside, whole}
use Rattle.core_reading_laws.proofs.Deciding.{SomeWay, Follows, decided}

module _ (deepest : ℕ) where
  -- ---- beginnings of parts one after another

  -- a beginning of some parts is one of more
  more_parts : (ps qs : List Part) (ts : List Token) → PrefixesAll deepest ps ts → PrefixesAll deepest (ps ++ qs) ts
  more_parts [] qs ts none_ = none_
  more_parts (p ∷ ps) qs ts none_ = none_
  more_parts (p ∷ ps) qs ts (inside h) = inside h
  more_parts (p ∷ ps) qs ts (whole {us = us} r h) = whole r (more_parts ps qs us h)

  -- so is some parts whole, and then a beginning of the others
  behind_parts : (n : Nonterminal) (ps qs : List Part) (f : Action ps (Said n)) (ts us : List Token) (v : Said n) → ReadsAll deepest n ps f ts v us → PrefixesAll deepest qs us → PrefixesAll deepest (ps ++ qs) ts
  behind_parts n [] qs f ts us v none h = h
  behind_parts n (p ∷ ps) qs f ts us v (one {x = x} {us = middle} r rs) h = whole r (behind_parts n ps qs (f x) middle us v rs h)

  -- and there are no others
  abbrev Whole : (n : Nonterminal) (ps qs : List Part) → Action ps (Said n) → List Token → Type 0
  Whole n ps qs f ts = (v : Said n) × ((us : List Token) × (ReadsAll deepest n ps f ts v us × PrefixesAll deepest qs us))

  apart : (n : Nonterminal) (ps qs : List Part) (f : Action ps (Said n)) (ts : List Token) → PrefixesAll deepest (ps ++ qs) ts → PrefixesAll deepest ps ts ⊎ Whole n ps qs f ts
  apart n [] qs f ts h = inr (f, (ts, (none, h)))
  apart n (p ∷ ps) qs f ts none_ = inl none_
  apart n (p ∷ ps) qs f ts (inside h) = inl (inside h)
  apart n (p ∷ ps) qs f ts (whole {x = x} {us = us} r h) = elim (apart n ps qs (f x) us h) [
    | inl k ↦ inl (whole r k)
    | inr k ↦ inr (k.0, (k.1.0, (one r k.1.1.0, k.1.1.1)))
  ]

  -- ---- a nonterminal is one of its ways

  prefix_way : (n : Nonterminal) (ws : List (Way (Said n))) (ps : List Part) (ts : List Token) → PrefixesOne deepest n ws ts → SomeWay n (λ qs. PrefixesAll deepest (qs ++ ps) ts) ws
  prefix_way n [] ps ts h = elim h [ ]
  prefix_way n (w ∷ ws) ps ts (here_ h) = inl (more_parts w.parts ps ts h)
  prefix_way n (w ∷ ws) ps ts (later_ h) = inr (prefix_way n ws ps ts h)

  whole_way : (n : Nonterminal) (ws : List (Way (Said n))) (ps : List Part) (ts us : List Token) (v : Said n) → ReadsOne deepest n ws ts v us → PrefixesAll deepest ps us → SomeWay n (λ qs. PrefixesAll deepest (qs ++ ps) ts) ws
  whole_way n [] ps ts us v r h = elim r [ ]
  whole_way n (w ∷ ws) ps ts us v (here r) h = inl (behind_parts n w.parts ps w.says ts us v r h)
  whole_way n (w ∷ ws) ps ts us v (later r) h = inr (whole_way n ws ps ts us v r h)

  abbrev OneWhole : (n : Nonterminal) (ws : List (Way (Said n))) (ps : List Part) → List Token → Type 0
  OneWhole n ws ps ts = (v : Said n) × ((us : List Token) × (ReadsOne deepest n ws ts v us × PrefixesAll deepest ps us))

  way_apart : (n : Nonterminal) (ws : List (Way (Said n))) (ps : List Part) (ts : List Token) → SomeWay n (λ qs. PrefixesAll deepest (qs ++ ps) ts) ws → PrefixesOne deepest n ws ts ⊎ OneWhole n ws ps ts
  way_apart n [] ps ts h = absurd h
  way_apart n (w ∷ ws) ps ts (inl h) = elim (apart n w.parts ps w.says ts h) [
    | inl k ↦ inl (here_ k)
    | inr k ↦ inr (k.0, (k.1.0, (here k.1.1.0, k.1.1.1)))
  ]
  way_apart n (w ∷ ws) ps ts (inr h) = elim (way_apart n ws ps ts h) [
    | inl k ↦ inl (later_ k)
    | inr k ↦ inr (k.0, (k.1.0, (later k.1.1.0, k.1.1.1)))
  ]

  pub opens_in : (n : Nonterminal) (ps : List Part) (ts : List Token) → SomeWay n (λ qs. PrefixesAll deepest (qs ++ ps) ts) (ways n) → PrefixesAll deepest (the n ∷ ps) ts
  opens_in n ps ts h = elim (way_apart n (ways n) ps ts h) [
    | inl k ↦ inside (part_ k)
    | inr k ↦ whole (part k.1.1.0) k.1.1.1
  ]

  pub opened : (n : Nonterminal) (ps : List Part) (t : Token) (ts : List Token) → PrefixesAll deepest (the n ∷ ps) (t ∷ ts) → SomeWay n (λ qs. PrefixesAll deepest (qs ++ ps) (t ∷ ts)) (ways n)
  opened n ps t ts (inside (part_ h)) = prefix_way n (ways n) ps (t ∷ ts) h
  opened n ps t ts (whole {x = v} {us = us} (part r) h) = whole_way n (ways n) ps (t ∷ ts) us v r h

  -- ---- tokens

  pub taken : (c : Sort) (t : Token) (ps : List Part) (ts : List Token) → PrefixesAll deepest (a c ∷ ps) (t ∷ ts) → (fits c (sort t) ≡ true) × PrefixesAll deepest ps ts
  taken c t ps ts (inside (token_ e)) = (e, none_)
  taken c t ps ts (whole (token e) h) = (e, h)

  pub begun : (d : ℕ) (c : Sort) (t : Token) (ps : List Part) (ts : List Token) → PrefixesAll deepest (first d c ∷ ps) (t ∷ ts) → (fits c (sort t) ≡ true) × ((d ≤ deepest) × PrefixesAll deepest ps ts)
  begun d c t ps ts (inside (node_ e low)) = (e, (low, none_))
  begun d c t ps ts (whole (node e low) h) = (e, (low, h))

  pub at_end : (t : Token) (ts : List Token) → PrefixesAll deepest [] (t ∷ ts) → ⊥
  at_end t ts h = elim h [ ]

  pub not_deeper : (d : ℕ) → Decided (d ≤ deepest)
  not_deeper d = elim (is_low d (suc deepest)) [ inl h ↦ inl (omega (arith, h)) | inr never ↦ inr (λ h. never (omega (arith, h))) ]

  follows : Follows (PrefixesAll deepest) (λ d. d ≤ deepest)
  follows = record {
    ends = λ ps. inl none_;
    deep = not_deeper;
    nothing = at_end;
    takes = λ c t ps ts e h. whole (token e) h;
    taken = taken;
    begins = λ d c t ps ts e low h. whole (node e low) h;
    begun = begun;
    opens_in = λ n ps t ts h. opens_in n ps (t ∷ ts) h;
    opened = opened;
  }

  pub front_decided : (ps : List Part) (ts : List Token) → Decided (PrefixesAll deepest ps ts)
  front_decided ps ts = decided follows ts ps
