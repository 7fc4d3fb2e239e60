-- What tokens are: along them, up to the first with which they begin no module within the depth limit.
use Rattle.std.proofs.Common.{◌≡◌, inl, inr, ℕ, List, [], ◌∷◌, ◌++◌, refl, sym, subst}
use Rattle.std.proofs.lemmas.List.{append_assoc, append-nil}
use Rattle.components.proofs.Bounded.{Decided}
use Rattle.core_ast.specs.Model as m
use Rattle.core_scan.specs.declared.token.Token.{Token}
use Rattle.core_parse_grammar.specs.Grammar.{Part, a, first, the, Nonterminal, SaidBy, Said, Action, Way, ways, annotated_module}
use Rattle.core_parse_grammar.specs.Spells.{Reads, token, node, part, ReadsOne, here, later, ReadsAll, none, one, SpellsTo, SpellsModule}
use Rattle.core_parse_grammar.specs.Begins.{Prefixes, nothing, token_, node_, part_, PrefixesOne, here_, later_, PrefixesAll, none_, inside, whole, BeginsTo, Begins, depth_limit, IsModule}
use Rattle.core_reading_laws.specs.Tokens.{AreDecided, spelled, failed, sunk, short}
use Rattle.core_reading_laws.proofs.Fronts.{front_decided}
use Rattle.core_reading_laws.proofs.Depths.{some_decided}
use Rattle.core_reading_laws.proofs.AnyDepth.{module_decided}
use Rattle.core_reading_laws.proofs.OneReading.{one_module}
use Rattle.core_reading_laws.proofs.Extending.{spelled_within}

-- ---- what is read whole is begun

module _ (deepest : ℕ) where
  mutual
    reads_begin : (p : Part) (ts us : List Token) (x : SaidBy p) → Reads deepest p ts x us → us ≡ [] → Prefixes deepest p ts
    reads_begin (a c) [] us x h e = elim h [ ]
    reads_begin (first d c) [] us x h e = elim h [ ]
    reads_begin (a c) (t ∷ ts) us x (token h) e = subst (λ l. Prefixes deepest (a c) (t ∷ l)) (sym e) (token_ h)
    reads_begin (first d c) (t ∷ ts) us x (node h low) e = subst (λ l. Prefixes deepest (first d c) (t ∷ l)) (sym e) (node_ h low)
    reads_begin (the n) ts us x (part h) e = part_ (one_begins n (ways n) ts us x h e)

    one_begins : (n : Nonterminal) (ws : List (Way (Said n))) (ts us : List Token) (x : Said n) → ReadsOne deepest n ws ts x us → us ≡ [] → PrefixesOne deepest n ws ts
    one_begins n [] ts us x h e = elim h [ ]
    one_begins n (w ∷ ws) ts us x (here h) e = here_ (all_begin n w.parts w.says ts us x h e)
    one_begins n (w ∷ ws) ts us x (later h) e = later_ (one_begins n ws ts us x h e)

    all_begin : (n : Nonterminal) (ps : List Part) (f : Action ps (Said n)) (ts us : List Token) (x : Said n) → ReadsAll deepest n ps f ts x us → us ≡ [] → PrefixesAll deepest ps ts
    all_begin n [] f ts us x none e = subst (PrefixesAll deepest []) (sym e) none_
    all_begin n (p ∷ ps) f ts us x (one {x = y} {us = middle} r rs) e = whole r (all_begin n ps (f y) middle us x rs e)

  -- one part by itself
  alone : (p : Part) (ts : List Token) → PrefixesAll deepest (p ∷ []) ts → Prefixes deepest p ts
  alone p [] none_ = nothing
  alone p ts (inside h) = h
  alone p ts (whole {x = x} {us = us} r h) = reads_begin p ts us x r (at_end us h)
    where
      at_end : (us : List Token) → PrefixesAll deepest [] us → us ≡ []
      at_end us none_ = refl

within_decided : (ts : List Token) → Decided (BeginsTo depth_limit ts)
within_decided ts = elim (front_decided depth_limit (the annotated_module ∷ []) ts) [
  | inl h ↦ inl (alone depth_limit (the annotated_module) ts h)
  | inr never ↦ inr (λ h. never (inside h))
]

begins_decided : (ts : List Token) → Decided (Begins ts)
begins_decided ts = elim (some_decided (the annotated_module ∷ []) ts) [
  | inl h ↦ inl (h.0, alone h.0 (the annotated_module) ts h.1)
  | inr never ↦ inr (λ h. never (h.0, inside h.1))
]

-- ---- along the tokens

is_module : (ts : List Token) (x : m.Module) → SpellsTo depth_limit ts x → IsModule ts x
is_module ts x h = record { spelled = h; alone = λ y k. one_module ts y x k (depth_limit, h) }

at_end_of : (ts : List Token) → BeginsTo depth_limit ts → Decided ((x : m.Module) × SpellsModule ts x) → AreDecided ts
at_end_of ts h (inl s) = let k = spelled_within depth_limit ts s.0 h s.1 in spelled k.0 (is_module ts k.0 k.1)
at_end_of ts h (inr never) = short (record { begun = h; none = λ x s. never (x, s) })

at_fault : (before : List Token) (t : Token) (after : List Token) → BeginsTo depth_limit before → (BeginsTo depth_limit (before ++ t ∷ []) → ⊥) → Decided (Begins (before ++ t ∷ [])) → AreDecided (before ++ t ∷ after)
at_fault before t after h deep (inl on) = sunk t.place (record { before = before; at = t; after = after; split = refl; place_is = refl; begun = h; goes_on = on; too_deep = deep })
at_fault before t after h deep (inr bad) = failed t.place (record { before = before; at = t; after = after; split = refl; place_is = refl; begun = h; first_bad = bad })

along : (before after : List Token) → BeginsTo depth_limit before → AreDecided (before ++ after)
along before [] h = subst AreDecided (sym (append-nil before)) (at_end_of before h (module_decided before))
along before (t ∷ after) h = elim (within_decided (before ++ t ∷ [])) [
  | inl more ↦ subst AreDecided (append_assoc before (t ∷ []) after) (along (before ++ t ∷ []) after more)
  | inr deep ↦ at_fault before t after h deep (begins_decided (before ++ t ∷ []))
]

pub tokens_decided : (ts : List Token) → AreDecided ts
tokens_decided ts = along [] ts nothing
