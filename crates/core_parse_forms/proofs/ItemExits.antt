-- Items with commas, up to and with the token that closes them, and their labels: each way out, for items
-- of every kind.
use Rattle.std.proofs.Common.{◌≡◌, ℕ, List, [], ◌∷◌, ◌++◌, map, true, refl, sym, ap, ◌∙◌, subst}
use Rattle.type_kinds.specs.declared.place.Place.{Place}
use Rattle.core_scan.specs.declared.token.Token.{Token}
use Rattle.core_scan.specs.declared.sort.Sort.{Sort}
use Rattle.core_scan.specs.declared.sort.Sort.TheVariants as s
use Rattle.core_ast.specs.Model as m
use Rattle.core_ast.specs.Tree as t
use Rattle.core_parse_grammar.specs.declared.fault.PartFault.{PartFault}
use Rattle.core_parse_grammar.specs.Grammar.{the, Nonterminal, Said, many, expression, segment, pattern, pattern_segment, pattern_pair}
use Rattle.core_parse_grammar.specs.Labels.{number, number_pattern}
use Rattle.core_parse_grammar.specs.Track.{Stops, itself}
use Rattle.core_parse_grammar.specs.Faults.{Refuses, RanOut, Starts, closing}
use Rattle.core_parse_grammar.specs.Readings.{ReadsExpression, ReadsExpressions, ReadsSegment, ReadsSegments, ReadsPattern, ReadsPatterns, ReadsPatternSegment, ReadsPatternSegments, ReadsPatternPair, ReadsPatternPairs}
use Rattle.core_parse_forms.specs.steps.Items.{number_each, number_segment, number_pat_segment, number_pat_pair, ReadsItem, ReadsItems}
use Rattle.core_parse_grammar.proofs.Lists.{Closes, Under, list_nothing, list_bad, list_first, list_end, list_close, list_worse, list_more, list_other}
use Rattle.core_parse_grammar.proofs.Places.{taken}
use Rattle.core_parse_forms.proofs.ItemNumbers.{each_pushed, trees_each, patterns_each, segments_each, pat_segments_each, pat_pairs_each, segment_one, pat_segment_one, pat_pair_one}

-- The items so far are those of the code, by f.
pub record ItemsSoFar (c : Sort) (m : Nonterminal) (one : ℕ → Said m → Said m × ℕ) (B : Type 0) (f : B → Said m) (n : ℕ) (ts left : List Token) (items : List B) (p : ℕ) : Type 0 where
  pub raw : List (Said m)
  pub under : Under c m ts left raw
  pub agrees : number_each one n raw ≡ (map f items, p)

module _ (c : Sort) (m : Nonterminal) (k : Closes c m) (one : ℕ → Said m → Said m × ℕ) {B : Type 0} (f : B → Said m) (n : ℕ) where
  pub items_nothing : (ts : List Token) (e : PartFault) → RanOut ts e → Refuses (many c (the m)) ts e
  items_nothing ts e h = list_nothing c m k ts e h

  module _ (ts us : List Token) (t : Token) (q : Sort) (place : Place) (b : Starts ts t q place us) where
    pub items_empty : (items : List B) → items ≡ [] → q ≡ c → ReadsItems c m one n ts (map f items) us n
    items_empty items z h = record { says = []; passes = k.empty ts us t b.are (sym b.sort_is ∙ h); agrees = ap (λ (x : List B). let w : List (Said m) × ℕ = (map f x, n) in w) (sym z) }

    module _ (h : q ≡ c → ⊥) where
      pub items_bad : (e : PartFault) → Refuses m ts e → Refuses (many c (the m)) ts e
      items_bad e z = list_bad c m k ts us t e b.are (λ w. h (b.sort_is ∙ w)) z

      pub items_first : (vs : List Token) (x : B) (items grown : List B) (p : ℕ) → items ≡ [] → grown ≡ items ++ x ∷ [] → ReadsItem m one n ts (f x) vs p → ItemsSoFar c m one B f n ts vs grown p
      items_first vs x items grown p z w r = record {
        raw = r.says ∷ [];
        under = list_first c m k ts us vs t r.says b.are (λ w. h (b.sort_is ∙ w)) r.passes;
        agrees = each_pushed one f n n p [] [] grown r.says x (w ∙ ap (λ y. y ++ x ∷ []) z) refl r.agrees;
      }

  module _ (ts us : List Token) (items : List B) (p : ℕ) (u : ItemsSoFar c m one B f n ts us items p) where
    pub items_end : (e : PartFault) → RanOut us e → Refuses (many c (the m)) ts e
    items_end e h = list_end c m k ts us u.raw u.under e h

    module _ (vs : List Token) (t : Token) (q : Sort) (place : Place) (b : Starts us t q place vs) where
      pub items_close : q ≡ c → ReadsItems c m one n ts (map f items) vs p
      items_close h = record { says = u.raw; passes = list_close c m k ts us u.raw u.under vs t b.are (sym b.sort_is ∙ h); agrees = u.agrees }

      pub items_worse : q ≡ s.Comma → (e : PartFault) → Refuses m vs e → Refuses (many c (the m)) ts e
      items_worse h e z = list_worse c m k ts us u.raw u.under vs t b.are (sym b.sort_is ∙ h) e z

      pub items_more : q ≡ s.Comma → (ws : List Token) (x : B) (grown : List B) (r : ℕ) → grown ≡ items ++ x ∷ [] → ReadsItem m one p vs (f x) ws r → ItemsSoFar c m one B f n ts ws grown r
      items_more h ws x grown r w z = record {
        raw = u.raw ++ z.says ∷ [];
        under = list_more c m k ts us u.raw u.under vs t b.are (sym b.sort_is ∙ h) ws z.says z.passes;
        agrees = each_pushed one f n p r u.raw items grown z.says x w u.agrees z.agrees;
      }

      pub items_other : (q ≡ c → ⊥) → (q ≡ s.Comma → ⊥) → Stops (many c (the m)) (itself (many c (the m))) ts place
      items_other h g = subst (Stops (many c (the m)) (itself (many c (the m))) ts) (sym b.place_is) (list_other c m k ts us u.raw u.under vs t b.are (λ w. h (b.sort_is ∙ w)) (λ w. g (b.sort_is ∙ w)))

-- The closing tokens that lists of each kind have.
pub closes_expressions : (d : ℕ) (c : Sort) → closing c ≡ true → Closes c (expression d)
closes_expressions d s.CloseRound k = record {
  empty = λ ts left t e h. taken _ (itself _) ts left t s.CloseRound e h refl (tt, tt);
  guarded = λ b. ((λ t x. refl), (λ t x. refl), tt);
  exact = λ z. absurd cc;
  own = refl;
  no_comma = λ z. absurd cc;
}
closes_expressions d s.CloseCurly k = record {
  empty = λ ts left t e h. taken _ (itself _) ts left t s.CloseCurly e h refl (tt, tt);
  guarded = λ b. ((λ t x. refl), (λ t x. refl), tt);
  exact = λ z. absurd cc;
  own = refl;
  no_comma = λ z. absurd cc;
}
closes_expressions d s.CloseSquare k = record {
  empty = λ ts left t e h. taken _ (itself _) ts left t s.CloseSquare e h refl (tt, tt);
  guarded = λ b. ((λ t x. refl), (λ t x. refl), tt);
  exact = λ z. absurd cc;
  own = refl;
  no_comma = λ z. absurd cc;
}
closes_expressions d s.Greater k = record {
  empty = λ ts left t e h. taken _ (itself _) ts left t s.Greater e h refl (tt, tt);
  guarded = λ b. ((λ t x. refl), (λ t x. refl), tt);
  exact = λ z. absurd cc;
  own = refl;
  no_comma = λ z. absurd cc;
}
closes_expressions d s.CloseBinary k = record {
  empty = λ ts left t e h. taken _ (itself _) ts left t s.CloseBinary e h refl (tt, tt);
  guarded = λ b. ((λ t x. refl), (λ t x. refl), tt);
  exact = λ z. absurd cc;
  own = refl;
  no_comma = λ z. absurd cc;
}
closes_expressions d s.CloseMap k = record {
  empty = λ ts left t e h. taken _ (itself _) ts left t s.CloseMap e h refl (tt, tt);
  guarded = λ b. ((λ t x. refl), (λ t x. refl), tt);
  exact = λ z. absurd cc;
  own = refl;
  no_comma = λ z. absurd cc;
}
closes_expressions d _ k = absurd cc

pub closes_patterns : (d : ℕ) (c : Sort) → closing c ≡ true → Closes c (pattern d)
closes_patterns d s.CloseRound k = record {
  empty = λ ts left t e h. taken _ (itself _) ts left t s.CloseRound e h refl (tt, tt);
  guarded = λ b. ((λ t x. refl), (λ t x. refl), tt);
  exact = λ z. absurd cc;
  own = refl;
  no_comma = λ z. absurd cc;
}
closes_patterns d s.CloseCurly k = record {
  empty = λ ts left t e h. taken _ (itself _) ts left t s.CloseCurly e h refl (tt, tt);
  guarded = λ b. ((λ t x. refl), (λ t x. refl), tt);
  exact = λ z. absurd cc;
  own = refl;
  no_comma = λ z. absurd cc;
}
closes_patterns d s.CloseSquare k = record {
  empty = λ ts left t e h. taken _ (itself _) ts left t s.CloseSquare e h refl (tt, tt);
  guarded = λ b. ((λ t x. refl), (λ t x. refl), tt);
  exact = λ z. absurd cc;
  own = refl;
  no_comma = λ z. absurd cc;
}
closes_patterns d s.Greater k = record {
  empty = λ ts left t e h. taken _ (itself _) ts left t s.Greater e h refl (tt, tt);
  guarded = λ b. ((λ t x. refl), (λ t x. refl), tt);
  exact = λ z. absurd cc;
  own = refl;
  no_comma = λ z. absurd cc;
}
closes_patterns d s.CloseBinary k = record {
  empty = λ ts left t e h. taken _ (itself _) ts left t s.CloseBinary e h refl (tt, tt);
  guarded = λ b. ((λ t x. refl), (λ t x. refl), tt);
  exact = λ z. absurd cc;
  own = refl;
  no_comma = λ z. absurd cc;
}
closes_patterns d s.CloseMap k = record {
  empty = λ ts left t e h. taken _ (itself _) ts left t s.CloseMap e h refl (tt, tt);
  guarded = λ b. ((λ t x. refl), (λ t x. refl), tt);
  exact = λ z. absurd cc;
  own = refl;
  no_comma = λ z. absurd cc;
}
closes_patterns d _ k = absurd cc

pub closes_segments : (d : ℕ) → Closes s.CloseBinary (segment d)
closes_segments d = record { empty = λ ts left t e h. taken _ (itself _) ts left t s.CloseBinary e h refl (tt, tt); guarded = λ b. ((λ t x. refl), (λ t x. refl), tt); exact = λ z. absurd cc; own = refl; no_comma = λ z. absurd cc }

pub closes_pattern_segments : (d : ℕ) → Closes s.CloseBinary (pattern_segment d)
closes_pattern_segments d = record {
  empty = λ ts left t e h. taken _ (itself _) ts left t s.CloseBinary e h refl (tt, tt);
  guarded = λ b. ((λ t x. refl), (λ t x. refl), tt);
  exact = λ z. absurd cc;
  own = refl;
  no_comma = λ z. absurd cc;
}

pub closes_pattern_pairs : (d : ℕ) → Closes s.CloseMap (pattern_pair d)
closes_pattern_pairs d = record { empty = λ ts left t e h. taken _ (itself _) ts left t s.CloseMap e h refl (tt, tt); guarded = λ b. ((λ t x. refl), (λ t x. refl), tt); exact = λ z. absurd cc; own = refl; no_comma = λ z. absurd cc }

-- What is read of each kind, as items.
pub expression_item : {d n : ℕ} {ts left : List Token} {made : m.Tree} {p : ℕ} → ReadsExpression d n ts made left p → ReadsItem (expression d) number n ts made left p
expression_item {n = n} {made = made} {p = p} z = record { says = z.says; passes = z.passes; agrees = z.agrees }

pub pattern_item : {d n : ℕ} {ts left : List Token} {made : m.Pattern} {p : ℕ} → ReadsPattern d n ts made left p → ReadsItem (pattern d) number_pattern n ts made left p
pattern_item {n = n} {made = made} {p = p} z = record { says = z.says; passes = z.passes; agrees = z.agrees }

pub segment_item : {d n : ℕ} {ts left : List Token} {made : t.SegmentParts} {p : ℕ} → ReadsSegment d n ts made left p → ReadsItem (segment d) number_segment n ts made left p
segment_item {n = n} {made = made} {p = p} z = record { says = z.says; passes = z.passes; agrees = segment_one n p z.says made z.agrees }

pub pattern_segment_item : {d n : ℕ} {ts left : List Token} {made : t.PatSegmentParts} {p : ℕ} → ReadsPatternSegment d n ts made left p → ReadsItem (pattern_segment d) number_pat_segment n ts made left p
pattern_segment_item {n = n} {made = made} {p = p} z = record { says = z.says; passes = z.passes; agrees = pat_segment_one n p z.says made z.agrees }

pub pattern_pair_item : {d n : ℕ} {ts left : List Token} {made : t.PatPairParts} {p : ℕ} → ReadsPatternPair d n ts made left p → ReadsItem (pattern_pair d) number_pat_pair n ts made left p
pattern_pair_item {n = n} {made = made} {p = p} z = record { says = z.says; passes = z.passes; agrees = pat_pair_one n p z.says made z.agrees }

pub expressions_of : {c : Sort} {d n : ℕ} {ts left : List Token} {made : List m.Tree} {p : ℕ} → ReadsItems c (expression d) number n ts made left p → ReadsExpressions c d n ts (t.trees made) left p
expressions_of {n = n} z = record { says = z.says; passes = z.passes; agrees = trees_each n z.says ∙ ap (λ (r : List m.Tree × ℕ). let w : m.Trees × ℕ = (t.trees r.0, r.1) in w) z.agrees }

pub patterns_of : {c : Sort} {d n : ℕ} {ts left : List Token} {made : List m.Pattern} {p : ℕ} → ReadsItems c (pattern d) number_pattern n ts made left p → ReadsPatterns c d n ts (t.patterns made) left p
patterns_of {n = n} z = record { says = z.says; passes = z.passes; agrees = patterns_each n z.says ∙ ap (λ (r : List m.Pattern × ℕ). let w : m.Patterns × ℕ = (t.patterns r.0, r.1) in w) z.agrees }

pub segments_of : {d n : ℕ} {ts left : List Token} {made : List t.SegmentParts} {p : ℕ} → ReadsItems s.CloseBinary (segment d) number_segment n ts made left p → ReadsSegments d n ts (t.segments made) left p
segments_of {n = n} z = record { says = z.says; passes = z.passes; agrees = segments_each n z.says ∙ ap (λ (r : List t.SegmentParts × ℕ). let w : m.Segments × ℕ = (t.segments r.0, r.1) in w) z.agrees }

pub pattern_segments_of : {d n : ℕ} {ts left : List Token} {made : List t.PatSegmentParts} {p : ℕ} → ReadsItems s.CloseBinary (pattern_segment d) number_pat_segment n ts made left p
    → ReadsPatternSegments d n ts (t.pat_segments made) left p
pattern_segments_of {n = n} z = record { says = z.says; passes = z.passes; agrees = pat_segments_each n z.says ∙ ap (λ (r : List t.PatSegmentParts × ℕ). let w : m.PatSegments × ℕ = (t.pat_segments r.0, r.1) in w) z.agrees }

pub pattern_pairs_of : {d n : ℕ} {ts left : List Token} {made : List t.PatPairParts} {p : ℕ} → ReadsItems s.CloseMap (pattern_pair d) number_pat_pair n ts made left p → ReadsPatternPairs d n ts (t.pat_pairs made) left p
pattern_pairs_of {n = n} z = record { says = z.says; passes = z.passes; agrees = pat_pairs_each n z.says ∙ ap (λ (r : List t.PatPairParts × ℕ). let w : m.PatPairs × ℕ = (t.pat_pairs r.0, r.1) in w) z.agrees }

-- A pair of a pattern that is read, as the pair that is kept.
pub pattern_pair_kept : {d n : ℕ} {ts left : List Token} {made kept : t.PatPairParts} {p : ℕ} → kept ≡ made → ReadsPatternPair d n ts made left p → ReadsPatternPair d n ts kept left p
pattern_pair_kept {d = d} {n = n} {ts = ts} {left = left} {p = p} e z = subst (λ k. ReadsPatternPair d n ts k left p) (sym e) z
