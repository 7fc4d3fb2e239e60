-- Words that are read as a part, whatever place they stand at and whatever words follow.
use Rattle.std.proofs.Common.{◌≡◌, ℕ, ◌≤◌, List, [], ◌∷◌, IsTrue, refl}
use Rattle.type_kinds.specs.declared.place.Place.{Place}
use Rattle.core_scan.specs.declared.sort.Sort.{Sort}
use Rattle.core_scan.specs.Bytes.{past}
use Rattle.core_scan.specs.Sorts.{kind_sort, fits}
use Rattle.core_parse_grammar.specs.Grammar.{Part, a, first, the, Nonterminal, SaidBy, Said, Action, Way, ways}
use Rattle.core_parse_grammar.specs.Spells.{Reads, ReadsOne, ReadsAll}
use Rattle.core_parse_grammar.specs.Spells as r
use Rattle.core_print.specs.Words.{Word, spelled}
use Rattle.core_print.specs.Canonical.{Words}
use Rattle.core_print.specs.Tokens.{kind_of, tokens_behind}

module _ (l : ℕ) where
  -- the words are read as the part, with a value of this kind
  pub record Read (p : Part) (Is : SaidBy p → Type 0) (place : Place) (words rest : List Word) : Type 0 where
    pub value : SaidBy p
    pub after : Place
    pub reads : Reads l p (tokens_behind place words) value (tokens_behind after rest)
    pub is : Is value

  pub record ReadOne (n : Nonterminal) (ws : List (Way (Said n))) (Is : Said n → Type 0) (place : Place) (words rest : List Word) : Type 0 where
    pub value : Said n
    pub after : Place
    pub reads : ReadsOne l n ws (tokens_behind place words) value (tokens_behind after rest)
    pub is : Is value

  pub record ReadAll (n : Nonterminal) (ps : List Part) (f : Action ps (Said n)) (Is : Said n → Type 0) (place : Place) (words rest : List Word) : Type 0 where
    pub value : Said n
    pub after : Place
    pub reads : ReadsAll l n ps f (tokens_behind place words) value (tokens_behind after rest)
    pub is : Is value

  abbrev pub Reading : (p : Part) → (SaidBy p → Type 0) → Words → Type 0
  Reading p Is ws = (place : Place) (rest : List Word) → Read p Is place (ws rest) rest

  abbrev pub ReadingOne : (n : Nonterminal) → List (Way (Said n)) → (Said n → Type 0) → Words → Type 0
  ReadingOne n ways_ Is ws = (place : Place) (rest : List Word) → ReadOne n ways_ Is place (ws rest) rest

  abbrev pub ReadingAll : (n : Nonterminal) (ps : List Part) → Action ps (Said n) → (Said n → Type 0) → Words → Type 0
  ReadingAll n ps f Is ws = (place : Place) (rest : List Word) → ReadAll n ps f Is place (ws rest) rest

  pub word : (c : Sort) (w : Word) → IsTrue (fits c (kind_sort (kind_of w))) → Reading (a c) (λ t. t.kind ≡ kind_of w) (λ rest. w ∷ rest)
  word c w h place rest = record { value = record { kind = kind_of w; place = past place (32 ∷ []) }; after = past (past place (32 ∷ [])) (spelled w); reads = r.token h; is = refl }

  pub node : (d : ℕ) (c : Sort) (w : Word) → d ≤ l → IsTrue (fits c (kind_sort (kind_of w))) → Reading (first d c) (λ t. t.kind ≡ kind_of w) (λ rest. w ∷ rest)
  node d c w deep h place rest = record { value = record { kind = kind_of w; place = past place (32 ∷ []) }; after = past (past place (32 ∷ [])) (spelled w); reads = r.node h deep; is = refl }

  pub done : {n : Nonterminal} {v : Said n} {Is : Said n → Type 0} → Is v → ReadingAll n [] v Is (λ rest. rest)
  done {n} {v} {Is} h place rest = record { value = v; after = place; reads = r.none; is = h }

  pub go : {n : Nonterminal} {p : Part} {ps : List Part} {f : Action (p ∷ ps) (Said n)} {P : SaidBy p → Type 0} {Is : Said n → Type 0} {ws vs : Words} → Reading p P ws → ((x : SaidBy p) → P x → ReadingAll n ps (f x) Is vs)
      → ReadingAll n (p ∷ ps) f Is (λ rest. ws (vs rest))
  go {n} {p} {ps} {f} {P} {Is} {ws} {vs} first_ more place rest =
      let x = first_ place (vs rest) in
      let y = more x.value x.is x.after rest in
      record { value = y.value; after = y.after; reads = r.one x.reads y.reads; is = y.is }

  pub this_way : {n : Nonterminal} {w : Way (Said n)} {ws : List (Way (Said n))} {Is : Said n → Type 0} {words : Words} → ReadingAll n w.parts w.says Is words → ReadingOne n (w ∷ ws) Is words
  this_way {n} {w} {ws} {Is} {words} h place rest = let y = h place rest in record { value = y.value; after = y.after; reads = r.here y.reads; is = y.is }

  pub next_way : {n : Nonterminal} {w : Way (Said n)} {ws : List (Way (Said n))} {Is : Said n → Type 0} {words : Words} → ReadingOne n ws Is words → ReadingOne n (w ∷ ws) Is words
  next_way {n} {w} {ws} {Is} {words} h place rest = let y = h place rest in record { value = y.value; after = y.after; reads = r.later y.reads; is = y.is }

  pub by_ways : {n : Nonterminal} {Is : Said n → Type 0} {words : Words} → ReadingOne n (ways n) Is words → Reading (the n) Is words
  by_ways {n} {Is} {words} h place rest = let y = h place rest in record { value = y.value; after = y.after; reads = r.part y.reads; is = y.is }

  -- the same of words written otherwise, and of a weaker kind
  pub weaker : {p : Part} {P Q : SaidBy p → Type 0} {ws : Words} → ((x : SaidBy p) → P x → Q x) → Reading p P ws → Reading p Q ws
  weaker {p} {P} {Q} {ws} f h place rest = let y = h place rest in record { value = y.value; after = y.after; reads = y.reads; is = f y.value y.is }

  -- a way of one part
  pub alone : {n : Nonterminal} {p : Part} {says : SaidBy p → Said n} {ws : List (Way (Said n))} {P : SaidBy p → Type 0} {Is : Said n → Type 0} {words : Words} → Reading p P words → ((x : SaidBy p) → P x → Is (says x))
      → ReadingOne n (record { parts = p ∷ []; says = says } ∷ ws) Is words
  alone {n} {p} {says} {ws} {P} {Is} {words} h f = this_way (go h (λ x is. done (f x is)))
