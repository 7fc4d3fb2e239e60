-- Whether tokens spell a module, however deep its nodes are, is decided.
use Rattle.std.proofs.Common.{◌≡◌, inl, inr, ℕ, ◌+◌, ◌≤◌, true, List, [], ◌∷◌, ◌++◌, refl, arith}
use Rattle.components.proofs.Bounded.{Decided}
use Rattle.core_ast.specs.Model as m
use Rattle.core_scan.specs.declared.token.Token.{Token}
use Rattle.core_scan.specs.declared.sort.Sort.{Sort}
use Rattle.core_scan.specs.Sorts.{sort, fits}
use Rattle.core_parse_grammar.specs.Grammar.{Part, first, the, Nonterminal, Said, Way, ways, annotated_module}
use Rattle.core_parse_grammar.specs.Labels.{numbered}
use Rattle.core_parse_grammar.specs.Spells.{token, node, SpellsModule}
use Rattle.core_reading_laws.proofs.Deciding.{SomeWay, Follows, decided}
use Rattle.core_reading_laws.proofs.Depths.{reads_deeper}
use Rattle.core_reading_laws.proofs.Wholes.{AllRead, all_done, and_more, no_part, nothing_left, all_taken, all_begun, all_opens, all_opened}

pub all_deeper : (d k : ℕ) → d ≤ k → (ps : List Part) (ts : List Token) → AllRead d ps ts → AllRead k ps ts
all_deeper d k low [] ts all_done = all_done
all_deeper d k low (p ∷ ps) ts (and_more {x = x} {us = us} r h) = and_more (reads_deeper d k low p ts us x r) (all_deeper d k low ps us h)

-- the tokens are those of the parts, however deep
abbrev SomeWhole : List Part → List Token → Type 0
SomeWhole ps ts = (deepest : ℕ) × AllRead deepest ps ts

ends_somewhere : (ps : List Part) → Decided (SomeWhole ps [])
ends_somewhere [] = inl (0, all_done)
ends_somewhere (p ∷ ps) = inr (λ h. never h.0 h.1)
  where
    never : (d : ℕ) → AllRead d (p ∷ ps) [] → ⊥
    never d (and_more {x = x} {us = us} r h) = no_part d p x us r

begins_deep : (i : ℕ) (c : Sort) (t : Token) (ps : List Part) (ts : List Token) → fits c (sort t) ≡ true → Unit {0} → SomeWhole ps ts → SomeWhole (first i c ∷ ps) (t ∷ ts)
begins_deep i c t ps ts e u h = (h.0 + i, and_more (node e (omega arith)) (all_deeper h.0 (h.0 + i) (omega arith) ps ts h.1))

one_depth : (n : Nonterminal) (ws : List (Way (Said n))) (ps : List Part) (ts : List Token) → SomeWay n (λ qs. SomeWhole (qs ++ ps) ts) ws → (deepest : ℕ) × SomeWay n (λ qs. AllRead deepest (qs ++ ps) ts) ws
one_depth n [] ps ts h = absurd h
one_depth n (w ∷ ws) ps ts (inl h) = (h.0, inl h.1)
one_depth n (w ∷ ws) ps ts (inr h) = let k = one_depth n ws ps ts h in (k.0, inr k.1)

some_depth : (n : Nonterminal) (deepest : ℕ) (ws : List (Way (Said n))) (ps : List Part) (ts : List Token) → SomeWay n (λ qs. AllRead deepest (qs ++ ps) ts) ws → SomeWay n (λ qs. SomeWhole (qs ++ ps) ts) ws
some_depth n deepest [] ps ts h = h
some_depth n deepest (w ∷ ws) ps ts (inl h) = inl (deepest, h)
some_depth n deepest (w ∷ ws) ps ts (inr h) = inr (some_depth n deepest ws ps ts h)

wholes_follow : Follows SomeWhole (λ d. Unit {0})
wholes_follow = record {
  ends = ends_somewhere;
  deep = λ d. inl tt;
  nothing = λ t ts h. nothing_left h.0 t ts h.1;
  takes = λ c t ps ts e h. (h.0, and_more (token e) h.1);
  taken = λ c t ps ts h. let k = all_taken h.0 c t ps ts h.1 in (k.0, (h.0, k.1));
  begins = begins_deep;
  begun = λ d c t ps ts h. let k = all_begun h.0 d c t ps ts h.1 in (k.0, (tt, (h.0, k.1.1)));
  opens_in = λ n ps t ts h. let k = one_depth n (ways n) ps (t ∷ ts) h in (k.0, all_opens k.0 n ps (t ∷ ts) k.1);
  opened = λ n ps t ts h. some_depth n h.0 (ways n) ps (t ∷ ts) (all_opened h.0 n ps t ts h.1);
}

spelled_so : (deepest : ℕ) (ts : List Token) → AllRead deepest (the annotated_module ∷ []) ts → (x : m.Module) × SpellsModule ts x
spelled_so deepest ts (and_more {x = says} r all_done) = (numbered says, (deepest, record { says = says; reads = r; labels = refl }))

pub module_decided : (ts : List Token) → Decided ((x : m.Module) × SpellsModule ts x)
module_decided ts = elim (decided wholes_follow ts (the annotated_module ∷ [])) [
  | inl h ↦ inl (spelled_so h.0 ts h.1)
  | inr never ↦ inr (λ h. never (h.1.0, and_more h.1.1.reads all_done))
]
