-- What each way of the grammar keeps holds of all that is read.
use Rattle.std.proofs.Common.{◌≡◌, ℕ, ◌+◌, ◌≤◌, List, [], ◌∷◌, length, refl, arith}
use Rattle.std.specs.Prelude.{IsTrue}
use Rattle.core_scan.specs.declared.sort.Sort.{Sort}
use Rattle.core_scan.specs.declared.token.Token.{Token}
use Rattle.core_scan.specs.Sorts.{sort, fits}
use Rattle.core_parse_grammar.specs.Grammar.{Part, a, first, the, Nonterminal, SaidBy, Said, Action, Way, ways}
use Rattle.core_parse_grammar.specs.Spells.{Reads, ReadsOne, ReadsAll}
use Rattle.core_parse_grammar.specs.Spells as r

-- what is known where tokens were read: how many, what holds by their number, and of the tokens that are left
pub record Walked (Holds : ℕ → Type 0) (Known : List Token → Type 0) (before : ℕ) (left : List Token) : Type 0 where
  pub taken : ℕ
  pub holds : Holds taken
  pub known : Known left
  pub counted : taken + length left ≡ before

-- ---- what is said of a value and of the number of tokens that it takes

module _ (Good : (p : Part) → SaidBy p → ℕ → Type 0) where
  -- a way keeps it, behind parts that take so many tokens
  abbrev pub KeepsCounted : (n : Nonterminal) (ps : List Part) → Action ps (Said n) → ℕ → Type 0
  KeepsCounted n [] v taken = Good (the n) v taken
  KeepsCounted n (p ∷ ps) f taken = (x : SaidBy p) (more : ℕ) → Good p x more → KeepsCounted n ps (f x) (taken + more)

  abbrev pub AllKeepCounted : (n : Nonterminal) → List (Way (Said n)) → Type 0
  AllKeepCounted n [] = Unit {0}
  AllKeepCounted n (w ∷ ws) = KeepsCounted n w.parts w.says 0 × AllKeepCounted n ws

  -- it holds of whatever the nonterminal says
  module _ (n : Nonterminal) (free : (v : Said n) (taken : ℕ) → Good (the n) v taken) where
    keeps_free : (ps : List Part) (f : Action ps (Said n)) (taken : ℕ) → KeepsCounted n ps f taken
    keeps_free [] v taken = free v taken
    keeps_free (p ∷ ps) f taken = λ x more g. keeps_free ps (f x) (taken + more)

    pub all_free_counted : (ws : List (Way (Said n))) → AllKeepCounted n ws
    all_free_counted [] = tt
    all_free_counted (w ∷ ws) = (keeps_free w.parts w.says 0, all_free_counted ws)

  -- each way keeps it, and it holds of each token of which something is known
  module _ (l : ℕ) (Known : List Token → Type 0)
      (token : (c : Sort) (t : Token) (ts : List Token) → Known (t ∷ ts) → IsTrue (fits c (sort t)) → Good (a c) t 1 × Known ts)
      (node : (d : ℕ) (c : Sort) (t : Token) (ts : List Token) → Known (t ∷ ts) → IsTrue (fits c (sort t)) → d ≤ l → Good (first d c) t 1 × Known ts)
      (keep : (n : Nonterminal) → AllKeepCounted n (ways n)) where
    mutual
      pub walk_counted : (p : Part) (ts us : List Token) (v : SaidBy p) → Known ts → Reads l p ts v us → Walked (Good p v) Known (length ts) us
      walk_counted (a c) ts us v known (r.token h) = let at = token c v us known h in record { taken = 1; holds = at.0; known = at.1; counted = omega arith }
      walk_counted (first d c) ts us v known (r.node h deep) = let at = node d c v us known h deep in record { taken = 1; holds = at.0; known = at.1; counted = omega arith }
      walk_counted (the n) ts us v known (r.part h) = walk_one n (ways n) (keep n) ts us v known h

      walk_one : (n : Nonterminal) (ws : List (Way (Said n))) → AllKeepCounted n ws → (ts us : List Token) (v : Said n) → Known ts → ReadsOne l n ws ts v us → Walked (Good (the n) v) Known (length ts) us
      walk_one n (w ∷ ws) kept ts us v known (r.here h) =
          let all = walk_all n w.parts w.says 0 kept.0 ts us v known h in
          record { taken = all.taken; holds = all.holds; known = all.known; counted = omega (arith, all.counted) }
      walk_one n (w ∷ ws) kept ts us v known (r.later h) = walk_one n ws kept.1 ts us v known h
      walk_one n [] kept ts us v known h = elim h [ ]

      walk_all : (n : Nonterminal) (ps : List Part) (f : Action ps (Said n)) (taken : ℕ) → KeepsCounted n ps f taken → (ts us : List Token) (v : Said n) → Known ts → ReadsAll l n ps f ts v us
          → Walked (Good (the n) v) Known (taken + length ts) us
      walk_all n [] f taken kept ts us v known r.none = record { taken = taken; holds = kept; known = known; counted = refl }
      walk_all n (p ∷ ps) f taken kept ts us v known (r.one {x} {us = mid} h k) =
          let here = walk_counted p ts mid x known h in
          let rest = walk_all n ps (f x) (taken + here.taken) (kept x here.taken here.holds) mid us v here.known k in
          record { taken = rest.taken; holds = rest.holds; known = rest.known; counted = omega (arith, here.counted, rest.counted) }

-- ---- what is said of a value alone

module _ (Good : (p : Part) → SaidBy p → Type 0) where
  abbrev pub Keeps : (n : Nonterminal) (ps : List Part) → Action ps (Said n) → Type 0
  Keeps n [] v = Good (the n) v
  Keeps n (p ∷ ps) f = (x : SaidBy p) → Good p x → Keeps n ps (f x)

  abbrev pub AllKeep : (n : Nonterminal) → List (Way (Said n)) → Type 0
  AllKeep n [] = Unit {0}
  AllKeep n (w ∷ ws) = Keeps n w.parts w.says × AllKeep n ws

  abbrev pub Anyhow : (p : Part) → SaidBy p → ℕ → Type 0
  Anyhow p v taken = Good p v

  keeps_anyhow : (n : Nonterminal) (ps : List Part) (f : Action ps (Said n)) (taken : ℕ) → Keeps n ps f → KeepsCounted Anyhow n ps f taken
  keeps_anyhow n [] v taken h = h
  keeps_anyhow n (p ∷ ps) f taken h = λ x more g. keeps_anyhow n ps (f x) (taken + more) (h x g)

  all_keep_anyhow : (n : Nonterminal) (ws : List (Way (Said n))) → AllKeep n ws → AllKeepCounted Anyhow n ws
  all_keep_anyhow n [] h = tt
  all_keep_anyhow n (w ∷ ws) h = (keeps_anyhow n w.parts w.says 0 h.0, all_keep_anyhow n ws h.1)

  -- it holds of whatever the nonterminal says
  module _ (n : Nonterminal) (free : (v : Said n) → Good (the n) v) where
    keeps_whatever : (ps : List Part) (f : Action ps (Said n)) → Keeps n ps f
    keeps_whatever [] v = free v
    keeps_whatever (p ∷ ps) f = λ x g. keeps_whatever ps (f x)

    pub all_free : (ws : List (Way (Said n))) → AllKeep n ws
    all_free [] = tt
    all_free (w ∷ ws) = (keeps_whatever w.parts w.says, all_free ws)

  module _ (l : ℕ) (Known : List Token → Type 0)
      (token : (c : Sort) (t : Token) (ts : List Token) → Known (t ∷ ts) → IsTrue (fits c (sort t)) → Good (a c) t × Known ts)
      (node : (d : ℕ) (c : Sort) (t : Token) (ts : List Token) → Known (t ∷ ts) → IsTrue (fits c (sort t)) → d ≤ l → Good (first d c) t × Known ts)
      (keep : (n : Nonterminal) → AllKeep n (ways n)) where
    pub walk : (p : Part) (ts us : List Token) (v : SaidBy p) → Known ts → Reads l p ts v us → Good p v
    walk p ts us v known h = (walk_counted Anyhow l Known token node (λ n. all_keep_anyhow n (ways n) (keep n)) p ts us v known h).holds
