-- Whether tokens spell a module whose nodes are at most so deep is decided.
use Rattle.std.proofs.Common.{◌≡◌, inl, inr, ℕ, ◌≤◌, true, List, [], ◌∷◌, ◌++◌, refl, sym, true≢false}
use Rattle.std.proofs.lemmas.Bool.{and_parts}
use Rattle.core_ast.specs.Model as m
use Rattle.core_scan.specs.declared.token.Token.{Token}
use Rattle.core_scan.specs.declared.sort.Sort.{Sort}
use Rattle.core_scan.specs.Sorts.{sort, fits}
use Rattle.core_parse_grammar.specs.Grammar.{Part, a, first, the, Nonterminal, SaidBy, Said, Action, Way, ways, annotated_module}
use Rattle.core_parse_grammar.specs.Labels.{numbered}
use Rattle.core_parse_grammar.specs.Spells.{Reads, token, node, part, ReadsOne, here, later, ReadsAll, none, one, SpellsTo}
use Rattle.core_reading_laws.proofs.Ranks.{opens, begins_low, all_low, low_ways}
use Rattle.core_reading_laws.proofs.Deciding.{SomeWay}

module _ (deepest : ℕ) where
  -- the tokens are those of the parts one after another, and no more
  pub data AllRead : List Part → List Token → Type 0 where
    all_done : AllRead [] []
    and_more : {p : Part} {ps : List Part} {x : SaidBy p} {ts us : List Token} → Reads deepest p ts x us → AllRead ps us → AllRead (p ∷ ps) ts

  -- ---- each part takes a token

  mutual
    pub no_part : (p : Part) (x : SaidBy p) (us : List Token) → Reads deepest p [] x us → ⊥
    no_part (a c) x us h = elim h [ ]
    no_part (first d c) x us h = elim h [ ]
    no_part (the n) x us (part h) = no_way n (opens n) (ways n) (low_ways n) x us h

    no_way : (n : Nonterminal) (k : ℕ) (ws : List (Way (Said n))) → all_low n k ws ≡ true → (x : Said n) (us : List Token) → ReadsOne deepest n ws [] x us → ⊥
    no_way n k [] e x us h = elim h [ ]
    no_way n k (w ∷ ws) e x us (here h) = no_parts n k w.parts (and_parts (begins_low k w.parts) (all_low n k ws) e).0 w.says x us h
    no_way n k (w ∷ ws) e x us (later h) = no_way n k ws (and_parts (begins_low k w.parts) (all_low n k ws) e).1 x us h

    no_parts : (n : Nonterminal) (k : ℕ) (ps : List Part) → begins_low k ps ≡ true → (f : Action ps (Said n)) (x : Said n) (us : List Token) → ReadsAll deepest n ps f [] x us → ⊥
    no_parts n k [] e f x us h = true≢false (sym e)
    no_parts n k (p ∷ ps) e f x us (one {x = y} {us = middle} r rs) = no_part p y middle r

  -- ---- a nonterminal is one of its ways

  behind_all : (n : Nonterminal) (ps qs : List Part) (f : Action ps (Said n)) (ts us : List Token) (v : Said n) → ReadsAll deepest n ps f ts v us → AllRead qs us → AllRead (ps ++ qs) ts
  behind_all n [] qs f ts us v none h = h
  behind_all n (p ∷ ps) qs f ts us v (one {x = x} {us = middle} r rs) h = and_more r (behind_all n ps qs (f x) middle us v rs h)

  abbrev ReadThen : (n : Nonterminal) (ps qs : List Part) → Action ps (Said n) → List Token → Type 0
  ReadThen n ps qs f ts = (v : Said n) × ((us : List Token) × (ReadsAll deepest n ps f ts v us × AllRead qs us))

  all_apart : (n : Nonterminal) (ps qs : List Part) (f : Action ps (Said n)) (ts : List Token) → AllRead (ps ++ qs) ts → ReadThen n ps qs f ts
  all_apart n [] qs f ts h = (f, (ts, (none, h)))
  all_apart n (p ∷ ps) qs f ts (and_more {x = x} {us = us} r h) = let k = all_apart n ps qs (f x) us h in (k.0, (k.1.0, (one r k.1.1.0, k.1.1.1)))

  way_read : (n : Nonterminal) (ws : List (Way (Said n))) (ps : List Part) (ts us : List Token) (v : Said n) → ReadsOne deepest n ws ts v us → AllRead ps us → SomeWay n (λ qs. AllRead (qs ++ ps) ts) ws
  way_read n [] ps ts us v r h = elim r [ ]
  way_read n (w ∷ ws) ps ts us v (here r) h = inl (behind_all n w.parts ps w.says ts us v r h)
  way_read n (w ∷ ws) ps ts us v (later r) h = inr (way_read n ws ps ts us v r h)

  abbrev OneThen : (n : Nonterminal) (ws : List (Way (Said n))) (ps : List Part) → List Token → Type 0
  OneThen n ws ps ts = (v : Said n) × ((us : List Token) × (ReadsOne deepest n ws ts v us × AllRead ps us))

  read_way : (n : Nonterminal) (ws : List (Way (Said n))) (ps : List Part) (ts : List Token) → SomeWay n (λ qs. AllRead (qs ++ ps) ts) ws → OneThen n ws ps ts
  read_way n [] ps ts h = absurd h
  read_way n (w ∷ ws) ps ts (inl h) = let k = all_apart n w.parts ps w.says ts h in (k.0, (k.1.0, (here k.1.1.0, k.1.1.1)))
  read_way n (w ∷ ws) ps ts (inr h) = let k = read_way n ws ps ts h in (k.0, (k.1.0, (later k.1.1.0, k.1.1.1)))

  pub all_opens : (n : Nonterminal) (ps : List Part) (ts : List Token) → SomeWay n (λ qs. AllRead (qs ++ ps) ts) (ways n) → AllRead (the n ∷ ps) ts
  all_opens n ps ts h = let k = read_way n (ways n) ps ts h in and_more (part k.1.1.0) k.1.1.1

  pub all_opened : (n : Nonterminal) (ps : List Part) (t : Token) (ts : List Token) → AllRead (the n ∷ ps) (t ∷ ts) → SomeWay n (λ qs. AllRead (qs ++ ps) (t ∷ ts)) (ways n)
  all_opened n ps t ts (and_more {x = v} {us = us} (part r) h) = way_read n (ways n) ps (t ∷ ts) us v r h

  -- ---- tokens

  pub all_taken : (c : Sort) (t : Token) (ps : List Part) (ts : List Token) → AllRead (a c ∷ ps) (t ∷ ts) → (fits c (sort t) ≡ true) × AllRead ps ts
  all_taken c t ps ts (and_more (token e) h) = (e, h)

  pub all_begun : (d : ℕ) (c : Sort) (t : Token) (ps : List Part) (ts : List Token) → AllRead (first d c ∷ ps) (t ∷ ts) → (fits c (sort t) ≡ true) × ((d ≤ deepest) × AllRead ps ts)
  all_begun d c t ps ts (and_more (node e low) h) = (e, (low, h))

  pub nothing_left : (t : Token) (ts : List Token) → AllRead [] (t ∷ ts) → ⊥
  nothing_left t ts h = elim h [ ]

  pub spelled_by : (ts : List Token) → AllRead (the annotated_module ∷ []) ts → (x : m.Module) × SpellsTo deepest ts x
  spelled_by ts (and_more {x = says} r all_done) = (numbered says, record { says = says; reads = r; labels = refl })
