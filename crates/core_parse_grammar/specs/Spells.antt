-- What tokens spell: the relation goes by the ways of the grammar, whatever they are.
use Rattle.std.specs.Prelude.{◌≡◌, ℕ, ◌≤◌, List, [], ◌∷◌, IsTrue}
use Rattle.core_scan.specs.declared.token.Token.{Token}
use Rattle.core_ast.specs.Model as m
use Rattle.core_scan.specs.declared.sort.Sort.{Sort}
use Rattle.core_scan.specs.Sorts.{sort, fits}
use Rattle.core_parse_grammar.specs.Grammar.{Part, a, first, the, Nonterminal, SaidBy, Said, Action, Way, ways, annotated_module}
use Rattle.core_parse_grammar.specs.Labels.{numbered}

-- Readings whose nodes are at most so deep.
module _ (deepest : ℕ) where
  mutual
    -- The tokens begin with the part, it says the value, and the rest is left.
    pub data Reads : (p : Part) → List Token → SaidBy p → List Token → Type 0 where
      token : {c : Sort} {t : Token} {ts : List Token} → IsTrue (fits c (sort t)) → Reads (a c) (t ∷ ts) t ts
      node : {d : ℕ} {c : Sort} {t : Token} {ts : List Token} → IsTrue (fits c (sort t)) → d ≤ deepest → Reads (first d c) (t ∷ ts) t ts
      part : {n : Nonterminal} {ts us : List Token} {v : Said n} → ReadsOne n (ways n) ts v us → Reads (the n) ts v us

    -- In one of these ways.
    pub data ReadsOne : (n : Nonterminal) → List (Way (Said n)) → List Token → Said n → List Token → Type 0 where
      here : {n : Nonterminal} {w : Way (Said n)} {ws : List (Way (Said n))} {ts us : List Token} {v : Said n} → ReadsAll n w.parts w.says ts v us → ReadsOne n (w ∷ ws) ts v us
      later : {n : Nonterminal} {w : Way (Said n)} {ws : List (Way (Said n))} {ts us : List Token} {v : Said n} → ReadsOne n ws ts v us → ReadsOne n (w ∷ ws) ts v us

    -- The parts one after another.
    pub data ReadsAll : (n : Nonterminal) (ps : List Part) → Action ps (Said n) → List Token → Said n → List Token → Type 0 where
      none : {n : Nonterminal} {v : Said n} {ts : List Token} → ReadsAll n [] v ts v ts
      one : {n : Nonterminal} {p : Part} {ps : List Part} {f : Action (p ∷ ps) (Said n)} {x : SaidBy p} {v : Said n} {ts us rest : List Token}
          → Reads p ts x us → ReadsAll n ps (f x) us v rest → ReadsAll n (p ∷ ps) f ts v rest

-- The tokens spell the module, whose nodes are at most so deep, with its labels.
pub record SpellsTo (deepest : ℕ) (ts : List Token) (spelled : m.Module) : Type 0 where
  pub says : m.Module
  pub reads : Reads deepest (the annotated_module) ts says []
  pub labels : numbered says ≡ spelled

-- The tokens spell the module.
abbrev pub SpellsModule : List Token → m.Module → Type 0
SpellsModule ts x = (deepest : ℕ) × SpellsTo deepest ts x
