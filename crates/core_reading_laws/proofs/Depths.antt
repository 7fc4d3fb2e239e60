-- What is read and begun with nodes that are at most so deep is so with deeper ones. So whether tokens begin a module, however deep its
-- nodes are, is decided.
use Rattle.std.proofs.Common.{◌≡◌, inl, inr, ℕ, ◌+◌, ◌≤◌, true, List, [], ◌∷◌, ◌++◌, arith}
use Rattle.components.proofs.Bounded.{Decided}
use Rattle.core_scan.specs.declared.token.Token.{Token}
use Rattle.core_scan.specs.declared.sort.Sort.{Sort}
use Rattle.core_scan.specs.Sorts.{sort, fits}
use Rattle.core_parse_grammar.specs.Grammar.{Part, a, first, the, Nonterminal, SaidBy, Said, Action, Way, ways}
use Rattle.core_parse_grammar.specs.Spells.{Reads, token, node, part, ReadsOne, here, later, ReadsAll, none, one}
use Rattle.core_parse_grammar.specs.Begins.{Prefixes, nothing, token_, node_, part_, PrefixesOne, here_, later_, PrefixesAll, none_, inside, whole}
use Rattle.core_reading_laws.proofs.Deciding.{SomeWay, Follows, decided}
use Rattle.core_reading_laws.proofs.Fronts.{opens_in, opened, taken, begun, at_end}

module _ (d k : ℕ) (low : d ≤ k) where
  mutual
    pub reads_deeper : (p : Part) (ts us : List Token) (x : SaidBy p) → Reads d p ts x us → Reads k p ts x us
    reads_deeper (a c) [] us x h = elim h [ ]
    reads_deeper (first i c) [] us x h = elim h [ ]
    reads_deeper (a c) (t ∷ ts) us x (token e) = token e
    reads_deeper (first i c) (t ∷ ts) us x (node e h) = node e (omega (arith, h, low))
    reads_deeper (the n) ts us x (part h) = part (one_deeper n (ways n) ts us x h)

    one_deeper : (n : Nonterminal) (ws : List (Way (Said n))) (ts us : List Token) (x : Said n) → ReadsOne d n ws ts x us → ReadsOne k n ws ts x us
    one_deeper n [] ts us x h = elim h [ ]
    one_deeper n (w ∷ ws) ts us x (here h) = here (all_deeper n w.parts w.says ts us x h)
    one_deeper n (w ∷ ws) ts us x (later h) = later (one_deeper n ws ts us x h)

    all_deeper : (n : Nonterminal) (ps : List Part) (f : Action ps (Said n)) (ts us : List Token) (x : Said n) → ReadsAll d n ps f ts x us → ReadsAll k n ps f ts x us
    all_deeper n [] f ts us x none = none
    all_deeper n (p ∷ ps) f ts us x (one {x = y} {us = middle} r rs) = one (reads_deeper p ts middle y r) (all_deeper n ps (f y) middle us x rs)

  mutual
    front_deeper : (p : Part) (ts : List Token) → Prefixes d p ts → Prefixes k p ts
    front_deeper p [] nothing = nothing
    front_deeper (a c) (t ∷ ts) (token_ e) = token_ e
    front_deeper (first i c) (t ∷ ts) (node_ e h) = node_ e (omega (arith, h, low))
    front_deeper (the n) ts (part_ h) = part_ (front_one_deeper n (ways n) ts h)

    front_one_deeper : (n : Nonterminal) (ws : List (Way (Said n))) (ts : List Token) → PrefixesOne d n ws ts → PrefixesOne k n ws ts
    front_one_deeper n [] ts h = elim h [ ]
    front_one_deeper n (w ∷ ws) ts (here_ h) = here_ (fronts_deeper w.parts ts h)
    front_one_deeper n (w ∷ ws) ts (later_ h) = later_ (front_one_deeper n ws ts h)

    pub fronts_deeper : (ps : List Part) (ts : List Token) → PrefixesAll d ps ts → PrefixesAll k ps ts
    fronts_deeper ps [] none_ = none_
    fronts_deeper (p ∷ ps) ts (inside h) = inside (front_deeper p ts h)
    fronts_deeper (p ∷ ps) ts (whole {x = x} {us = us} r h) = whole (reads_deeper p ts us x r) (fronts_deeper ps us h)

-- the tokens begin some parts one after another, however deep
abbrev SomeFront : List Part → List Token → Type 0
SomeFront ps ts = (deepest : ℕ) × PrefixesAll deepest ps ts

some_begins : (i : ℕ) (c : Sort) (t : Token) (ps : List Part) (ts : List Token) → fits c (sort t) ≡ true → Unit {0} → SomeFront ps ts → SomeFront (first i c ∷ ps) (t ∷ ts)
some_begins i c t ps ts e u h = (h.0 + i, whole (node e (omega arith)) (fronts_deeper h.0 (h.0 + i) (omega arith) ps ts h.1))

some_way : (n : Nonterminal) (ws : List (Way (Said n))) (ps : List Part) (ts : List Token) → SomeWay n (λ qs. SomeFront (qs ++ ps) ts) ws → (deepest : ℕ) × SomeWay n (λ qs. PrefixesAll deepest (qs ++ ps) ts) ws
some_way n [] ps ts h = absurd h
some_way n (w ∷ ws) ps ts (inl h) = (h.0, inl h.1)
some_way n (w ∷ ws) ps ts (inr h) = let k = some_way n ws ps ts h in (k.0, inr k.1)

way_some : (n : Nonterminal) (deepest : ℕ) (ws : List (Way (Said n))) (ps : List Part) (ts : List Token) → SomeWay n (λ qs. PrefixesAll deepest (qs ++ ps) ts) ws → SomeWay n (λ qs. SomeFront (qs ++ ps) ts) ws
way_some n deepest [] ps ts h = h
way_some n deepest (w ∷ ws) ps ts (inl h) = inl (deepest, h)
way_some n deepest (w ∷ ws) ps ts (inr h) = inr (way_some n deepest ws ps ts h)

some_follow : Follows SomeFront (λ d. Unit {0})
some_follow = record {
  ends = λ ps. inl (0, none_);
  deep = λ d. inl tt;
  nothing = λ t ts h. at_end h.0 t ts h.1;
  takes = λ c t ps ts e h. (h.0, whole (token e) h.1);
  taken = λ c t ps ts h. let k = taken h.0 c t ps ts h.1 in (k.0, (h.0, k.1));
  begins = some_begins;
  begun = λ d c t ps ts h. let k = begun h.0 d c t ps ts h.1 in (k.0, (tt, (h.0, k.1.1)));
  opens_in = λ n ps t ts h. let k = some_way n (ways n) ps (t ∷ ts) h in (k.0, opens_in k.0 n ps (t ∷ ts) k.1);
  opened = λ n ps t ts h. way_some n h.0 (ways n) ps (t ∷ ts) (opened h.0 n ps t ts h.1);
}

pub some_decided : (ps : List Part) (ts : List Token) → Decided ((deepest : ℕ) × PrefixesAll deepest ps ts)
some_decided ps ts = decided some_follow ts ps
