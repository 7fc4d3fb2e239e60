-- Tokens have at most one fault: the token at fault is the first behind the longest prefix that begins a
-- module within the depth limit.
use Rattle.std.proofs.Common.{◌≡◌, ◌≢◌, ℕ, List, [], ◌∷◌, ◌++◌, inl, inr, refl, sym, ap, ◌∙◌, subst, append-nil}
use Rattle.std.proofs.lemmas.List.{append_assoc}
use Rattle.type_kinds.specs.declared.place.Place.{Place}
use Rattle.core_scan.specs.declared.token.Token.{Token}
use Rattle.core_parse_grammar.specs.declared.fault.ParseFault.{ParseFault}
use Rattle.core_parse_grammar.specs.declared.fault.ParseFault.TheVariants as f
use Rattle.core_parse_grammar.specs.Grammar.{Part, a, first, the, Nonterminal, Said, Way, ways, annotated_module}
use Rattle.core_parse_grammar.specs.Spells.{Reads}
use Rattle.core_parse_grammar.specs.Begins.{Prefixes, nothing, token_, node_, part_, PrefixesOne, here_, later_, PrefixesAll, none_, inside, whole, BeginsTo, Begins, depth_limit, FailsAt, SinksAt, Refused}
use Rattle.core_parse.proofs.Whole.{read_alone, begun_by, apart}

nothing_before : (before more : List Token) → [] ≡ before ++ more → before ≡ []
nothing_before [] more e = refl
nothing_before (x ∷ xs) more e = absurd cc

one_before : (t x : Token) (xs more : List Token) → t ∷ [] ≡ x ∷ (xs ++ more) → t ∷ [] ≡ x ∷ xs
one_before t x xs more e = let k : xs ≡ [] = nothing_before xs more cc in cc

-- A prefix of a beginning is a beginning.
module _ (l : ℕ) where
  mutual
    pub front_of : (p : Part) (ts : List Token) → Prefixes l p ts → (before more : List Token) → ts ≡ before ++ more → Prefixes l p before
    front_of p ts h [] more e = nothing
    front_of p ts nothing (x ∷ xs) more e = absurd cc
    front_of (a c) ts (token_ {t = t} h) (x ∷ xs) more e = subst (λ q. Prefixes l (a c) q) (one_before t x xs more e) (token_ h)
    front_of (first d c) ts (node_ {t = t} h k) (x ∷ xs) more e = subst (λ q. Prefixes l (first d c) q) (one_before t x xs more e) (node_ h k)
    front_of (the n) ts (part_ h) (x ∷ xs) more e = part_ (front_of_one n (ways n) ts h (x ∷ xs) more e)

    front_of_one : (n : Nonterminal) (ws : List (Way (Said n))) (ts : List Token) → PrefixesOne l n ws ts → (before more : List Token) → ts ≡ before ++ more → PrefixesOne l n ws before
    front_of_one n (w ∷ ws) ts (here_ h) before more e = here_ (front_of_all w.parts ts h before more e)
    front_of_one n (w ∷ ws) ts (later_ h) before more e = later_ (front_of_one n ws ts h before more e)
    front_of_one n [] ts h before more e = elim h [ ]

    front_of_all : (ps : List Part) (ts : List Token) → PrefixesAll l ps ts → (before more : List Token) → ts ≡ before ++ more → PrefixesAll l ps before
    front_of_all ps ts none_ before more e = subst (λ q. PrefixesAll l ps q) (sym (nothing_before before more e)) none_
    front_of_all (p ∷ ps) ts (inside h) before more e = inside (front_of p ts h before more e)
    front_of_all (p ∷ ps) ts (whole {x = x} {us = us} h k) before more e =
        let y = read_alone l p ts us x h in
        elim (apart y.0 before us more (sym y.1 ∙ e)) [
          | inl z ↦ whole (subst (λ q. Reads l p q x z.0) (sym z.1) (y.2 z.0)) (front_of_all ps us k z.0 more z.2)
          | inr z ↦ inside (begun_by l p ts us x h before z.0 (y.1 ∙ ap (λ q. q ++ us) z.1 ∙ append_assoc before z.0 us))
        ]

begins_front : (ts before more : List Token) → BeginsTo depth_limit ts → ts ≡ before ++ more → BeginsTo depth_limit before
begins_front ts before more h e = front_of depth_limit (the annotated_module) ts h before more e

-- the tokens behind which no module goes on, within the depth limit
record StopsBehind (ts : List Token) (before : List Token) (at : Token) : Type 0 where
  pub after : List Token
  pub split : ts ≡ before ++ at ∷ after
  pub begun : BeginsTo depth_limit before
  pub stopped : BeginsTo depth_limit (before ++ at ∷ []) → ⊥

-- whole tokens that begin a module stop nowhere
begun_never_stops : (ts before : List Token) (at : Token) → StopsBehind ts before at → BeginsTo depth_limit ts → ⊥
begun_never_stops ts before at s h = s.stopped (begins_front ts (before ++ at ∷ []) s.after h (s.split ∙ sym (append_assoc before (at ∷ []) s.after)))

not_shorter : (ts before other : List Token) (at next : Token) (more : List Token) → StopsBehind ts before at → StopsBehind ts other next → other ≡ before ++ at ∷ more → ⊥
not_shorter ts before other at next more s t e = s.stopped (begins_front other (before ++ at ∷ []) more t.begun (e ∙ sym (append_assoc before (at ∷ []) more)))

one_stop : (ts before other : List Token) (at next : Token) → StopsBehind ts before at → StopsBehind ts other next → (before ≡ other) × (at ≡ next)
one_stop ts before other at next s t = elim (apart before other (at ∷ s.after) (next ∷ t.after) (sym s.split ∙ t.split)) [
  | inl z ↦ later z.0 z.1 z.2
  | inr z ↦ earlier z.0 z.1 z.2
]
  where
    later : (more : List Token) → other ≡ before ++ more → at ∷ s.after ≡ more ++ next ∷ t.after → (before ≡ other) × (at ≡ next)
    later [] e h = (sym (e ∙ append-nil before), cc)
    later (x ∷ xs) e h = absurd (not_shorter ts before other at next xs s t (e ∙ ap (λ q. before ++ q ∷ xs) (let k : x ≡ at = cc in k)))

    earlier : (more : List Token) → before ≡ other ++ more → next ∷ t.after ≡ more ++ at ∷ s.after → (before ≡ other) × (at ≡ next)
    earlier [] e h = (e ∙ append-nil other, cc)
    earlier (x ∷ xs) e h = absurd (not_shorter ts other before next at xs t s (e ∙ ap (λ q. other ++ q ∷ xs) (let k : x ≡ next = cc in k)))

failing_stops : (ts : List Token) (place : Place) (b : FailsAt ts place) → StopsBehind ts b.before b.at
failing_stops ts place b = record { after = b.after; split = b.split; begun = b.begun; stopped = λ h. b.first_bad (depth_limit, h) }

sinking_stops : (ts : List Token) (place : Place) (b : SinksAt ts place) → StopsBehind ts b.before b.at
sinking_stops ts place b = record { after = b.after; split = b.split; begun = b.begun; stopped = b.too_deep }

never_both : (ts : List Token) (p q : Place) → FailsAt ts p → SinksAt ts q → ⊥
never_both ts p q b c =
    let s = one_stop ts b.before c.before b.at c.at (failing_stops ts p b) (sinking_stops ts q c) in
    b.first_bad (subst (λ z. Begins (z ++ b.at ∷ [])) (sym s.0) (subst (λ z. Begins (c.before ++ z ∷ [])) (sym s.1) c.goes_on))

fails_once : (ts : List Token) (p q : Place) → FailsAt ts p → FailsAt ts q → p ≡ q
fails_once ts p q b c = b.place_is ∙ ap (λ t. t.place) (one_stop ts b.before c.before b.at c.at (failing_stops ts p b) (failing_stops ts q c)).1 ∙ sym c.place_is

sinks_once : (ts : List Token) (p q : Place) → SinksAt ts p → SinksAt ts q → p ≡ q
sinks_once ts p q b c = b.place_is ∙ ap (λ t. t.place) (one_stop ts b.before c.before b.at c.at (sinking_stops ts p b) (sinking_stops ts q c)).1 ∙ sym c.place_is

-- Tokens have at most one fault apart from out of memory.
pub refused_once : (ts : List Token) (end : Place) (e g : ParseFault) → Refused ts end e → Refused ts end g → e ≢ f.Memory → g ≢ f.Memory → e ≡ g
refused_once ts end f.Memory g h k m n = absurd (m refl)
refused_once ts end e f.Memory h k m n = absurd (n refl)
refused_once ts end (f.Syntax p) (f.Syntax q) (inl h) (inl k) m n = ap f.Syntax (fails_once ts p q h k)
refused_once ts end (f.Syntax p) (f.Syntax q) (inl h) (inr k) m n = absurd (begun_never_stops ts h.before h.at (failing_stops ts p h) k.1.begun)
refused_once ts end (f.Syntax p) (f.Syntax q) (inr h) (inl k) m n = absurd (begun_never_stops ts k.before k.at (failing_stops ts q k) h.1.begun)
refused_once ts end (f.Syntax p) (f.Syntax q) (inr h) (inr k) m n = ap f.Syntax (h.0 ∙ sym k.0)
refused_once ts end (f.Syntax p) (f.TooDeep q) (inl h) k m n = absurd (never_both ts p q h k)
refused_once ts end (f.Syntax p) (f.TooDeep q) (inr h) k m n = absurd (begun_never_stops ts k.before k.at (sinking_stops ts q k) h.1.begun)
refused_once ts end (f.TooDeep p) (f.Syntax q) h (inl k) m n = absurd (never_both ts q p k h)
refused_once ts end (f.TooDeep p) (f.Syntax q) h (inr k) m n = absurd (begun_never_stops ts h.before h.at (sinking_stops ts p h) k.1.begun)
refused_once ts end (f.TooDeep p) (f.TooDeep q) h k m n = ap f.TooDeep (sinks_once ts p q h k)
