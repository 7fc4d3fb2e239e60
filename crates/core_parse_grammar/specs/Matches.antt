-- `Reads` and `Prefixes` in one relation: all of the text is seen, or a prefix of it, behind which anything
-- may follow.
use Rattle.std.specs.Prelude.{◌≡◌, ℕ, ◌≤◌, List, [], ◌∷◌, IsTrue}
use Rattle.core_scan.specs.declared.token.Token.{Token}
use Rattle.core_scan.specs.declared.sort.Sort.{Sort}
use Rattle.core_scan.specs.Sorts.{sort, fits}
use Rattle.core_parse_grammar.specs.Grammar.{Part, a, first, the, Nonterminal, SaidBy, Said, Action, Way, ways}

pub data Extent : Type 0 where
  all front : Extent

module _ (s : Extent) (deepest : ℕ) where
  mutual
    -- The tokens begin with the part, it says the value, and the rest is left. A part that isn't seen
    -- may say anything.
    pub data Matches : (p : Part) → List Token → SaidBy p → List Token → Type 0 where
      unseen : {p : Part} {v : SaidBy p} → s ≡ front → Matches p [] v []
      token : {c : Sort} {t : Token} {ts : List Token} → IsTrue (fits c (sort t)) → Matches (a c) (t ∷ ts) t ts
      node : {d : ℕ} {c : Sort} {t : Token} {ts : List Token} → IsTrue (fits c (sort t)) → d ≤ deepest → Matches (first d c) (t ∷ ts) t ts
      part : {n : Nonterminal} {ts us : List Token} {v : Said n} → MatchesOne n (ways n) ts v us → Matches (the n) ts v us

    pub data MatchesOne : (n : Nonterminal) → List (Way (Said n)) → List Token → Said n → List Token → Type 0 where
      here : {n : Nonterminal} {w : Way (Said n)} {ws : List (Way (Said n))} {ts us : List Token} {v : Said n} → MatchesAll n w.parts w.says ts v us → MatchesOne n (w ∷ ws) ts v us
      later : {n : Nonterminal} {w : Way (Said n)} {ws : List (Way (Said n))} {ts us : List Token} {v : Said n} → MatchesOne n ws ts v us → MatchesOne n (w ∷ ws) ts v us

    pub data MatchesAll : (n : Nonterminal) (ps : List Part) → Action ps (Said n) → List Token → Said n → List Token → Type 0 where
      none : {n : Nonterminal} {v : Said n} {ts : List Token} → MatchesAll n [] v ts v ts
      one : {n : Nonterminal} {p : Part} {ps : List Part} {f : Action (p ∷ ps) (Said n)} {x : SaidBy p} {v : Said n} {ts us rest : List Token}
          → Matches p ts x us → MatchesAll n ps (f x) us v rest → MatchesAll n (p ∷ ps) f ts v rest
