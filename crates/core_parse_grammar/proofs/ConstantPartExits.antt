-- Segments of binaries and pairs of maps, where they are constants: each way out.
use Rattle.std.proofs.Common.{◌≡◌, ℕ, List, [], ◌∷◌, ◌++◌, Bool, true, false, refl, sym, ap, ◌∙◌, subst}
use Rattle.type_kinds.specs.declared.place.Place.{Place}
use Rattle.core_scan.specs.declared.token.Token.{Token}
use Rattle.core_scan.specs.declared.sort.Sort.{Sort}
use Rattle.core_scan.specs.declared.sort.Sort.TheVariants as s
use Rattle.core_scan.specs.Sorts.{fits}
use Rattle.core_parse_grammar.specs.declared.fault.PartFault.{PartFault}
use Rattle.core_parse_grammar.specs.declared.notes.Constant.{Constant}
use Rattle.core_parse_grammar.specs.Grammar.{a, the, many, constant, constant_segment, constant_pair}
use Rattle.core_parse_grammar.specs.Track.{Goes, itself, Stops}
use Rattle.core_parse_grammar.specs.Faults.{Refuses, Starts, Takes, Misses, RanOut}
use Rattle.core_parse_grammar.specs.Readings.{ReadsConstant, ReadsConstants, ReadsConstantSegment, ReadsConstantSegments, ReadsConstantPair, ReadsConstantPairs}
use Rattle.core_parse_grammar.proofs.Moves.{◌>>◌, expand}
use Rattle.core_parse_grammar.proofs.Places.{taken, through, refused, lacking, take_class}
use Rattle.core_parse_grammar.proofs.Lists.{Closes, Before, list_nothing, list_none, list_before, item_bad, item_end, item_close, item_comma, item_other}

-- #< constant > ( constants )
module _ (d : ℕ) (ts : List Token) where
  segment_0 : Goes (constant_segment d) (itself (constant_segment d)) (record { parts = a s.OpenSegment ∷ the (constant d) ∷ a s.Greater ∷ a s.OpenRound ∷ the (many s.CloseRound (the (constant d))) ∷ []; build = λ _ _ _ _ _. tt }
      ∷ []) ts ts
  segment_0 = expand (constant_segment d) (constant_segment d) [] (λ x. x) [] ts

  pub segment_0_bad : (f : PartFault) → Misses s.OpenSegment ts f → Refuses (constant_segment d) ts f
  segment_0_bad f z = lacking _ s.OpenSegment (the (constant d) ∷ a s.Greater ∷ a s.OpenRound ∷ the (many s.CloseRound (the (constant d))) ∷ []) (λ _ _ _ _ _. tt) ts ts f segment_0 z

  module _ (us0 : List Token) (y0 : Takes s.OpenSegment ts us0) where
    segment_1 : Goes (constant_segment d) (itself (constant_segment d)) (record { parts = the (constant d) ∷ a s.Greater ∷ a s.OpenRound ∷ the (many s.CloseRound (the (constant d))) ∷ []; build = λ _ _ _ _. tt } ∷ []) ts us0
    segment_1 = segment_0 >> take_class _ s.OpenSegment (the (constant d) ∷ a s.Greater ∷ a s.OpenRound ∷ the (many s.CloseRound (the (constant d))) ∷ []) (λ _ _ _ _ _. tt) ts us0 y0

    pub segment_1_bad : (f : PartFault) → Refuses (constant d) us0 f → Refuses (constant_segment d) ts f
    segment_1_bad f z = refused _ _ (a s.Greater ∷ a s.OpenRound ∷ the (many s.CloseRound (the (constant d))) ∷ []) (λ _ _ _ _. tt) ts us0 f segment_1 ((λ t x. refl), (λ t x. refl), tt) z

    module _ (us1 : List Token) (o1 : Constant) (y1 : ReadsConstant d us0 o1 us1) where
      segment_2 : Goes (constant_segment d) (itself (constant_segment d)) (record { parts = a s.Greater ∷ a s.OpenRound ∷ the (many s.CloseRound (the (constant d))) ∷ []; build = λ _ _ _. tt } ∷ []) ts us1
      segment_2 = segment_1 >> through _ _ (a s.Greater ∷ a s.OpenRound ∷ the (many s.CloseRound (the (constant d))) ∷ []) (λ _ _ _ _. tt) us0 us1 y1.says y1.passes ((λ t x. refl), (λ t x. refl), tt)

      pub segment_2_bad : (f : PartFault) → Misses s.Greater us1 f → Refuses (constant_segment d) ts f
      segment_2_bad f z = lacking _ s.Greater (a s.OpenRound ∷ the (many s.CloseRound (the (constant d))) ∷ []) (λ _ _ _. tt) ts us1 f segment_2 z

      module _ (us2 : List Token) (y2 : Takes s.Greater us1 us2) where
        segment_3 : Goes (constant_segment d) (itself (constant_segment d)) (record { parts = a s.OpenRound ∷ the (many s.CloseRound (the (constant d))) ∷ []; build = λ _ _. tt } ∷ []) ts us2
        segment_3 = segment_2 >> take_class _ s.Greater (a s.OpenRound ∷ the (many s.CloseRound (the (constant d))) ∷ []) (λ _ _ _. tt) us1 us2 y2

        pub segment_3_bad : (f : PartFault) → Misses s.OpenRound us2 f → Refuses (constant_segment d) ts f
        segment_3_bad f z = lacking _ s.OpenRound (the (many s.CloseRound (the (constant d))) ∷ []) (λ _ _. tt) ts us2 f segment_3 z

        module _ (us3 : List Token) (y3 : Takes s.OpenRound us2 us3) where
          segment_4 : Goes (constant_segment d) (itself (constant_segment d)) (record { parts = the (many s.CloseRound (the (constant d))) ∷ []; build = λ _. tt } ∷ []) ts us3
          segment_4 = segment_3 >> take_class _ s.OpenRound (the (many s.CloseRound (the (constant d))) ∷ []) (λ _ _. tt) us2 us3 y3

          pub segment_4_bad : (f : PartFault) → Refuses (many s.CloseRound (the (constant d))) us3 f → Refuses (constant_segment d) ts f
          segment_4_bad f z = refused _ _ [] (λ _. tt) ts us3 f segment_4 ((λ t x. refl), (λ t x. refl), tt) z

          pub segment_ok : (us4 : List Token) (o4 : List Constant) → ReadsConstants s.CloseRound d us3 o4 us4 → ReadsConstantSegment d ts us4
          segment_ok us4 o4 y4 = record { passes = segment_4 >> through _ _ [] (λ _. tt) us3 us4 y4.says y4.passes ((λ t x. refl), (λ t x. refl), tt) }

-- constant => constant
module _ (d : ℕ) (ts : List Token) where
  pair_0 : Goes (constant_pair d) (itself (constant_pair d)) (record { parts = the (constant d) ∷ a s.Assoc ∷ the (constant d) ∷ []; build = λ _ _ _. tt } ∷ []) ts ts
  pair_0 = expand (constant_pair d) (constant_pair d) [] (λ x. x) [] ts

  pub pair_0_bad : (f : PartFault) → Refuses (constant d) ts f → Refuses (constant_pair d) ts f
  pair_0_bad f z = refused _ _ (a s.Assoc ∷ the (constant d) ∷ []) (λ _ _ _. tt) ts ts f pair_0 ((λ t x. refl), (λ t x. refl), tt) z

  module _ (us0 : List Token) (o0 : Constant) (y0 : ReadsConstant d ts o0 us0) where
    pair_1 : Goes (constant_pair d) (itself (constant_pair d)) (record { parts = a s.Assoc ∷ the (constant d) ∷ []; build = λ _ _. tt } ∷ []) ts us0
    pair_1 = pair_0 >> through _ _ (a s.Assoc ∷ the (constant d) ∷ []) (λ _ _ _. tt) ts us0 y0.says y0.passes ((λ t x. refl), (λ t x. refl), tt)

    pub pair_1_bad : (f : PartFault) → Misses s.Assoc us0 f → Refuses (constant_pair d) ts f
    pair_1_bad f z = lacking _ s.Assoc (the (constant d) ∷ []) (λ _ _. tt) ts us0 f pair_1 z

    module _ (us1 : List Token) (y1 : Takes s.Assoc us0 us1) where
      pair_2 : Goes (constant_pair d) (itself (constant_pair d)) (record { parts = the (constant d) ∷ []; build = λ _. tt } ∷ []) ts us1
      pair_2 = pair_1 >> take_class _ s.Assoc (the (constant d) ∷ []) (λ _ _. tt) us0 us1 y1

      pub pair_2_bad : (f : PartFault) → Refuses (constant d) us1 f → Refuses (constant_pair d) ts f
      pair_2_bad f z = refused _ _ [] (λ _. tt) ts us1 f pair_2 ((λ t x. refl), (λ t x. refl), tt) z

      pub pair_ok : (us2 : List Token) (o2 : Constant) → ReadsConstant d us1 o2 us2 → ReadsConstantPair d ts us2
      pair_ok us2 o2 y2 = record { passes = pair_2 >> through _ _ [] (λ _. tt) us1 us2 y2.says y2.passes ((λ t x. refl), (λ t x. refl), tt) }

-- segments with commas
pub segments_closed : (d : ℕ) → Closes s.CloseBinary (constant_segment d)
segments_closed d = record { empty = λ ts left t e h. taken _ (itself _) ts left t s.CloseBinary e h refl (tt, tt); guarded = λ b. ((λ t x. refl), (λ t x. refl), tt); exact = λ z. absurd cc; own = refl; no_comma = λ z. absurd cc }

pub record SegmentsBefore (d : ℕ) (ts from : List Token) : Type 0 where
  pub raw : List (Unit {0})
  pub before : Before s.CloseBinary (constant_segment d) ts from raw

module _ (d : ℕ) where
  pub segments_end : (ts : List Token) (f : PartFault) → RanOut ts f → Refuses (many s.CloseBinary (the (constant_segment d))) ts f
  segments_end ts f h = list_nothing s.CloseBinary (constant_segment d) (segments_closed d) ts f h

  module _ (ts us : List Token) (t : Token) (q : Sort) (place : Place) (b : Starts ts t q place us) (x : Bool) (e : x ≡ fits s.CloseBinary q) where
    pub segments_none : x ≡ true → ReadsConstantSegments d ts us
    segments_none h = record { says = []; passes = list_none s.CloseBinary (constant_segment d) (segments_closed d) ts us t b.are (ap (fits s.CloseBinary) (sym b.sort_is) ∙ sym e ∙ h) }

    pub segments_some : x ≡ false → SegmentsBefore d ts ts
    segments_some h = record { raw = []; before = list_before s.CloseBinary (constant_segment d) (segments_closed d) ts us t b.are (ap (fits s.CloseBinary) (sym b.sort_is) ∙ sym e ∙ h) }

  module _ (ts from : List Token) (u : SegmentsBefore d ts from) where
    pub segments_bad : (f : PartFault) → Refuses (constant_segment d) from f → Refuses (many s.CloseBinary (the (constant_segment d))) ts f
    segments_bad f z = item_bad s.CloseBinary (constant_segment d) (segments_closed d) ts from u.raw u.before f z

    module _ (us : List Token) (r : ReadsConstantSegment d from us) where
      pub segments_ended : (f : PartFault) → RanOut us f → Refuses (many s.CloseBinary (the (constant_segment d))) ts f
      segments_ended f z = item_end s.CloseBinary (constant_segment d) (segments_closed d) ts from u.raw u.before us tt r.passes f z

      module _ (vs : List Token) (t : Token) (q : Sort) (place : Place) (b : Starts us t q place vs) (x : Bool) (e : x ≡ fits s.CloseBinary q) where
        pub segments_close : x ≡ true → ReadsConstantSegments d ts vs
        segments_close h = record {
          says = u.raw ++ tt ∷ [];
          passes = item_close s.CloseBinary (constant_segment d) (segments_closed d) ts from u.raw u.before us tt r.passes vs t b.are
              (ap (fits s.CloseBinary) (sym b.sort_is) ∙ sym e ∙ h);
        }

        module _ (h : x ≡ false) (y : Bool) (g : y ≡ fits s.Comma q) where
          pub segments_other : y ≡ false → Stops (many s.CloseBinary (the (constant_segment d))) (itself (many s.CloseBinary (the (constant_segment d)))) ts place
          segments_other l = subst (Stops (many s.CloseBinary (the (constant_segment d))) (itself (many s.CloseBinary (the (constant_segment d)))) ts) (sym b.place_is)
              (item_other s.CloseBinary (constant_segment d) (segments_closed d) ts from u.raw u.before us tt r.passes vs t b.are (ap (fits s.CloseBinary) (sym b.sort_is) ∙ sym e ∙ h) (ap (fits s.Comma) (sym b.sort_is) ∙ sym g ∙ l))

          pub segments_comma : y ≡ true → SegmentsBefore d ts vs
          segments_comma l = record {
            raw = u.raw ++ tt ∷ [];
            before = item_comma s.CloseBinary (constant_segment d) (segments_closed d) ts from u.raw u.before us tt r.passes vs t b.are
                (ap (fits s.Comma) (sym b.sort_is) ∙ sym g ∙ l);
          }

-- pairs with commas
pub pairs_closed : (d : ℕ) → Closes s.CloseMap (constant_pair d)
pairs_closed d = record { empty = λ ts left t e h. taken _ (itself _) ts left t s.CloseMap e h refl (tt, tt); guarded = λ b. ((λ t x. refl), (λ t x. refl), tt); exact = λ z. absurd cc; own = refl; no_comma = λ z. absurd cc }

pub record PairsBefore (d : ℕ) (ts from : List Token) : Type 0 where
  pub raw : List (Unit {0})
  pub before : Before s.CloseMap (constant_pair d) ts from raw

module _ (d : ℕ) where
  pub pairs_end : (ts : List Token) (f : PartFault) → RanOut ts f → Refuses (many s.CloseMap (the (constant_pair d))) ts f
  pairs_end ts f h = list_nothing s.CloseMap (constant_pair d) (pairs_closed d) ts f h

  module _ (ts us : List Token) (t : Token) (q : Sort) (place : Place) (b : Starts ts t q place us) (x : Bool) (e : x ≡ fits s.CloseMap q) where
    pub pairs_none : x ≡ true → ReadsConstantPairs d ts us
    pairs_none h = record { says = []; passes = list_none s.CloseMap (constant_pair d) (pairs_closed d) ts us t b.are (ap (fits s.CloseMap) (sym b.sort_is) ∙ sym e ∙ h) }

    pub pairs_some : x ≡ false → PairsBefore d ts ts
    pairs_some h = record { raw = []; before = list_before s.CloseMap (constant_pair d) (pairs_closed d) ts us t b.are (ap (fits s.CloseMap) (sym b.sort_is) ∙ sym e ∙ h) }

  module _ (ts from : List Token) (u : PairsBefore d ts from) where
    pub pairs_bad : (f : PartFault) → Refuses (constant_pair d) from f → Refuses (many s.CloseMap (the (constant_pair d))) ts f
    pairs_bad f z = item_bad s.CloseMap (constant_pair d) (pairs_closed d) ts from u.raw u.before f z

    module _ (us : List Token) (r : ReadsConstantPair d from us) where
      pub pairs_ended : (f : PartFault) → RanOut us f → Refuses (many s.CloseMap (the (constant_pair d))) ts f
      pairs_ended f z = item_end s.CloseMap (constant_pair d) (pairs_closed d) ts from u.raw u.before us tt r.passes f z

      module _ (vs : List Token) (t : Token) (q : Sort) (place : Place) (b : Starts us t q place vs) (x : Bool) (e : x ≡ fits s.CloseMap q) where
        pub pairs_close : x ≡ true → ReadsConstantPairs d ts vs
        pairs_close h = record { says = u.raw ++ tt ∷ []; passes = item_close s.CloseMap (constant_pair d) (pairs_closed d) ts from u.raw u.before us tt r.passes vs t b.are (ap (fits s.CloseMap) (sym b.sort_is) ∙ sym e ∙ h) }

        module _ (h : x ≡ false) (y : Bool) (g : y ≡ fits s.Comma q) where
          pub pairs_other : y ≡ false → Stops (many s.CloseMap (the (constant_pair d))) (itself (many s.CloseMap (the (constant_pair d)))) ts place
          pairs_other l = subst (Stops (many s.CloseMap (the (constant_pair d))) (itself (many s.CloseMap (the (constant_pair d)))) ts) (sym b.place_is)
              (item_other s.CloseMap (constant_pair d) (pairs_closed d) ts from u.raw u.before us tt r.passes vs t b.are (ap (fits s.CloseMap) (sym b.sort_is) ∙ sym e ∙ h) (ap (fits s.Comma) (sym b.sort_is) ∙ sym g ∙ l))

          pub pairs_comma : y ≡ true → PairsBefore d ts vs
          pairs_comma l = record { raw = u.raw ++ tt ∷ []; before = item_comma s.CloseMap (constant_pair d) (pairs_closed d) ts from u.raw u.before us tt r.passes vs t b.are (ap (fits s.Comma) (sym b.sort_is) ∙ sym g ∙ l) }
