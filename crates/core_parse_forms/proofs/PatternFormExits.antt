-- Patterns that are tuples, binaries and maps, with segments and pairs: each way out.
use Rattle.std.proofs.Common.{◌≡◌, ℕ, ◌+◌, ◌≤◌, List, [], ◌∷◌, false, refl, sym, ap, ◌∙◌, subst}
use Rattle.core_parse_forms.proofs.BarePatternExits.{made_at}
use Rattle.type_kinds.specs.declared.place.Place.{Place}
use Rattle.core_scan.specs.declared.token.Token.{Token}
use Rattle.core_scan.specs.declared.sort.Sort.{Sort}
use Rattle.core_scan.specs.declared.sort.Sort.TheVariants as s
use Rattle.core_scan.specs.Sorts.{sort}
use Rattle.core_scan.proofs.SortLaws.{fits_no_other}
use Rattle.core_ast.specs.declared.syntax.Note.{Note}
use Rattle.core_ast.specs.Model as m
use Rattle.core_ast.specs.Notes.{note_tree}
use Rattle.core_ast.specs.Tree as lists
use Rattle.core_parse_grammar.specs.declared.fault.PartFault.{PartFault}
use Rattle.core_parse_grammar.specs.Begins.{depth_limit}
use Rattle.core_parse_grammar.specs.Build.{at}
use Rattle.core_parse_grammar.specs.Grammar.{a, the, many, noted_, annotation, expression, bare_expression, pattern, other_pattern, pattern_segment, pattern_pair, bare_pattern_pair}
use Rattle.core_parse_grammar.specs.Labels.{number, number_all, number_pattern, number_pat_pairs}
use Rattle.core_parse_grammar.specs.Track.{Goes, itself, Then, opened}
use Rattle.core_parse_grammar.specs.Faults.{Refuses, Starts, Takes, Misses, RanOut}
use Rattle.core_parse_grammar.specs.Readings.{mark, ReadsAnnotation, ReadsExpressions, ReadsBareExpression, ReadsExpression, ReadsPattern, ReadsPatterns, ReadsPatternSegments, ReadsPatternSegment, ReadsPatternPairs, ReadsPatternPair}
use Rattle.core_parse_forms.specs.steps.Patterns.{ReadsOtherPattern}
use Rattle.core_parse_grammar.specs.Pairs.{ReadsBarePatternPair, ReadsPatternValue, ReadsPatternValueOf, RefusesPatternValue}
use Rattle.core_parse_grammar.specs.Starters.{opens_with}
use Rattle.core_parse_grammar.proofs.Moves.{◌>>◌, pass, stay, expand}
use Rattle.core_parse_grammar.proofs.Places.{taken, through, refused, refused_in, ran_out, lacking, take_class, drop, drop_second}
use Rattle.core_parse_forms.proofs.Branches.{swapped, pruned, drop_unless}
use Rattle.core_parse_forms.proofs.ItemNumbers.{noted_tree_number}

module _ (d n : ℕ) (ts us : List Token) (t : Token) (q : Sort) (place : Place) (b : Starts ts t q place us) (w : d ≤ depth_limit) where
  -- tuple
  module _ (h : q ≡ s.OpenCurly) where
    tuple_open : Goes (other_pattern d) (itself (other_pattern d)) (record { parts = the (many s.CloseCurly (the (pattern (d + 1)))) ∷ []; build = λ xs. m.tuple_of (at t.place) (lists.patterns xs) } ∷ []) ts us
    tuple_open = taken (other_pattern d) (itself (other_pattern d)) ts us t s.OpenCurly b.are (sym b.sort_is ∙ h) refl ((w, tt), tt)

    pub tuple_pattern_bad : (f : PartFault) → Refuses (many s.CloseCurly (the (pattern (d + 1)))) us f → Refuses (other_pattern d) ts f
    tuple_pattern_bad f z = refused _ _ [] (λ xs. m.tuple_of (at t.place) (lists.patterns xs)) ts us f tuple_open ((λ t x. refl), (λ t x. refl), tt) z

    pub tuple_pattern_ok : (vs : List Token) (o : m.Patterns) (p : ℕ) → ReadsPatterns s.CloseCurly (d + 1) (n + 1) us o vs p → (e : m.Pattern) → e ≡ m.tuple_of (mark n place) o → ReadsOtherPattern d n ts e vs p
    tuple_pattern_ok vs o p y e g = record {
      says = m.tuple_of (at t.place) (lists.patterns y.says);
      passes = tuple_open >> through _ _ [] (λ xs. m.tuple_of (at t.place) (lists.patterns xs)) us vs y.says y.passes ((λ t x. refl), (λ t x. refl), tt);
      agrees = ap (λ (r : m.Patterns × ℕ). let z : m.Pattern × ℕ = (m.tuple_of (mark n t.place) r.0, r.1) in z) y.agrees ∙ made_at p (λ k. m.tuple_of k o) n place t.place b.place_is e g;
    }

  -- binary
  module _ (h : q ≡ s.OpenBinary) where
    binary_open : Goes (other_pattern d) (itself (other_pattern d)) (record { parts = the (many s.CloseBinary (the (pattern_segment (d + 1)))) ∷ []; build = λ xs. m.binary_of (at t.place) (lists.pat_segments xs) } ∷ []) ts us
    binary_open = taken (other_pattern d) (itself (other_pattern d)) ts us t s.OpenBinary b.are (sym b.sort_is ∙ h) refl ((w, tt), tt)

    pub binary_pattern_bad : (f : PartFault) → Refuses (many s.CloseBinary (the (pattern_segment (d + 1)))) us f → Refuses (other_pattern d) ts f
    binary_pattern_bad f z = refused _ _ [] (λ xs. m.binary_of (at t.place) (lists.pat_segments xs)) ts us f binary_open ((λ t x. refl), (λ t x. refl), tt) z

    pub binary_pattern_ok : (vs : List Token) (o : m.PatSegments) (p : ℕ) → ReadsPatternSegments (d + 1) (n + 1) us o vs p → (e : m.Pattern) → e ≡ m.binary_of (mark n place) o → ReadsOtherPattern d n ts e vs p
    binary_pattern_ok vs o p y e g = record {
      says = m.binary_of (at t.place) (lists.pat_segments y.says);
      passes = binary_open >> through _ _ [] (λ xs. m.binary_of (at t.place) (lists.pat_segments xs)) us vs y.says y.passes ((λ t x. refl), (λ t x. refl), tt);
      agrees = ap (λ (r : m.PatSegments × ℕ). let z : m.Pattern × ℕ = (m.binary_of (mark n t.place) r.0, r.1) in z) y.agrees ∙ made_at p (λ k. m.binary_of k o) n place t.place b.place_is e g;
    }

  -- map
  module _ (h : q ≡ s.OpenMap) where
    map_open : Goes (other_pattern d) (itself (other_pattern d)) (record { parts = the (many s.CloseMap (the (pattern_pair (d + 1)))) ∷ []; build = λ xs. m.map_of (at t.place) (lists.pat_pairs xs) } ∷ []) ts us
    map_open = taken (other_pattern d) (itself (other_pattern d)) ts us t s.OpenMap b.are (sym b.sort_is ∙ h) refl ((w, tt), tt)

    pub map_pattern_bad : (f : PartFault) → Refuses (many s.CloseMap (the (pattern_pair (d + 1)))) us f → Refuses (other_pattern d) ts f
    map_pattern_bad f z = refused _ _ [] (λ xs. m.map_of (at t.place) (lists.pat_pairs xs)) ts us f map_open ((λ t x. refl), (λ t x. refl), tt) z

    pub map_pattern_ok : (vs : List Token) (o : m.PatPairs) (p : ℕ) → ReadsPatternPairs (d + 1) (n + 1) us o vs p → (e : m.Pattern) → e ≡ m.map_of (mark n place) o → ReadsOtherPattern d n ts e vs p
    map_pattern_ok vs o p y e g = record {
      says = m.map_of (at t.place) (lists.pat_pairs y.says);
      passes = map_open >> through _ _ [] (λ xs. m.map_of (at t.place) (lists.pat_pairs xs)) us vs y.says y.passes ((λ t x. refl), (λ t x. refl), tt);
      agrees = ap (λ (r : m.PatPairs × ℕ). let z : m.Pattern × ℕ = (m.map_of (mark n t.place) r.0, r.1) in z) y.agrees ∙ made_at p (λ k. m.map_of k o) n place t.place b.place_is e g;
    }

abbrev pattern_segment_of : m.Pattern → m.Trees → lists.PatSegmentParts
pattern_segment_of x xs = record { value = x; args = xs }

-- #< pattern > ( expressions )
module _ (d n : ℕ) (ts : List Token) where
  pattern_segment_0 : Goes (pattern_segment d) (itself (pattern_segment d)) (record {
    parts = a s.OpenSegment ∷ the (pattern d) ∷ a s.Greater ∷ a s.OpenRound ∷ the (many s.CloseRound (the (expression d))) ∷ [];
    build = λ _ x _ _ xs. pattern_segment_of x (lists.trees xs);
  } ∷ []) ts ts
  pattern_segment_0 = expand (pattern_segment d) (pattern_segment d) [] (λ x. x) [] ts

  pub pattern_segment_0_bad : (f : PartFault) → Misses s.OpenSegment ts f → Refuses (pattern_segment d) ts f
  pattern_segment_0_bad f z = lacking _ s.OpenSegment (the (pattern d) ∷ a s.Greater ∷ a s.OpenRound ∷ the (many s.CloseRound (the (expression d))) ∷ [])
      (λ _ x _ _ xs. pattern_segment_of x (lists.trees xs)) ts ts f pattern_segment_0 z

  module _ (us0 : List Token) (y0 : Takes s.OpenSegment ts us0) where
    pattern_segment_1 : Goes (pattern_segment d) (itself (pattern_segment d)) (record {
      parts = the (pattern d) ∷ a s.Greater ∷ a s.OpenRound ∷ the (many s.CloseRound (the (expression d))) ∷ [];
      build = λ x _ _ xs. pattern_segment_of x (lists.trees xs);
    } ∷ []) ts us0
    pattern_segment_1 = pattern_segment_0 >> take_class _ s.OpenSegment (the (pattern d) ∷ a s.Greater ∷ a s.OpenRound ∷ the (many s.CloseRound (the (expression d))) ∷ [])
        (λ _ x _ _ xs. pattern_segment_of x (lists.trees xs)) ts us0 y0

    pub pattern_segment_1_bad : (f : PartFault) → Refuses (pattern d) us0 f → Refuses (pattern_segment d) ts f
    pattern_segment_1_bad f z = refused _ _ (a s.Greater ∷ a s.OpenRound ∷ the (many s.CloseRound (the (expression d))) ∷ []) (λ x _ _ xs. pattern_segment_of x (lists.trees xs)) ts us0 f pattern_segment_1 (
      (λ t x. refl),
      (λ t x. refl),
      tt,
    ) z

    module _ (us1 : List Token) (o1 : m.Pattern) (p1 : ℕ) (y1 : ReadsPattern d n us0 o1 us1 p1) where
      pattern_segment_2 : Goes (pattern_segment d) (itself (pattern_segment d)) (record {
        parts = a s.Greater ∷ a s.OpenRound ∷ the (many s.CloseRound (the (expression d))) ∷ [];
        build = λ _ _ xs. pattern_segment_of y1.says (lists.trees xs);
      } ∷ []) ts us1
      pattern_segment_2 = pattern_segment_1 >> through _ _ (a s.Greater ∷ a s.OpenRound ∷ the (many s.CloseRound (the (expression d))) ∷ []) (λ x _ _ xs. pattern_segment_of x (lists.trees xs)) us0 us1 y1.says y1.passes
          ((λ t x. refl), (λ t x. refl), tt)

      pub pattern_segment_2_bad : (f : PartFault) → Misses s.Greater us1 f → Refuses (pattern_segment d) ts f
      pattern_segment_2_bad f z = lacking _ s.Greater (a s.OpenRound ∷ the (many s.CloseRound (the (expression d))) ∷ []) (λ _ _ xs. pattern_segment_of y1.says (lists.trees xs)) ts us1 f pattern_segment_2 z

      module _ (us2 : List Token) (y2 : Takes s.Greater us1 us2) where
        pattern_segment_3 : Goes (pattern_segment d) (itself (pattern_segment d))
            (record { parts = a s.OpenRound ∷ the (many s.CloseRound (the (expression d))) ∷ []; build = λ _ xs. pattern_segment_of y1.says (lists.trees xs) } ∷ []) ts us2
        pattern_segment_3 = pattern_segment_2 >> take_class _ s.Greater (a s.OpenRound ∷ the (many s.CloseRound (the (expression d))) ∷ []) (λ _ _ xs. pattern_segment_of y1.says (lists.trees xs)) us1 us2 y2

        pub pattern_segment_3_bad : (f : PartFault) → Misses s.OpenRound us2 f → Refuses (pattern_segment d) ts f
        pattern_segment_3_bad f z = lacking _ s.OpenRound (the (many s.CloseRound (the (expression d))) ∷ []) (λ _ xs. pattern_segment_of y1.says (lists.trees xs)) ts us2 f pattern_segment_3 z

        module _ (us3 : List Token) (y3 : Takes s.OpenRound us2 us3) where
          pattern_segment_4 : Goes (pattern_segment d) (itself (pattern_segment d)) (record { parts = the (many s.CloseRound (the (expression d))) ∷ []; build = λ xs. pattern_segment_of y1.says (lists.trees xs) } ∷ []) ts us3
          pattern_segment_4 = pattern_segment_3 >> take_class _ s.OpenRound (the (many s.CloseRound (the (expression d))) ∷ []) (λ _ xs. pattern_segment_of y1.says (lists.trees xs)) us2 us3 y3

          pub pattern_segment_4_bad : (f : PartFault) → Refuses (many s.CloseRound (the (expression d))) us3 f → Refuses (pattern_segment d) ts f
          pattern_segment_4_bad f z = refused _ _ ([]) (λ xs. pattern_segment_of y1.says (lists.trees xs)) ts us3 f pattern_segment_4 ((λ t x. refl), (λ t x. refl), tt) z

          module _ (us4 : List Token) (o4 : m.Trees) (p4 : ℕ) (y4 : ReadsExpressions s.CloseRound d p1 us3 o4 us4 p4) where
            pattern_segment_5 : Goes (pattern_segment d) (itself (pattern_segment d)) (record { parts = []; build = pattern_segment_of y1.says (lists.trees y4.says) } ∷ []) ts us4
            pattern_segment_5 = pattern_segment_4 >> through _ _ ([]) (λ xs. pattern_segment_of y1.says (lists.trees xs)) us3 us4 y4.says y4.passes ((λ t x. refl), (λ t x. refl), tt)

            pub pattern_segment_ok : (e : lists.PatSegmentParts) → e ≡ record { value = o1; args = o4 } → ReadsPatternSegment d n ts e us4 p4
            pattern_segment_ok e g = record {
              says = record { value = y1.says; args = lists.trees y4.says };
              passes = pattern_segment_5;
              agrees = ap (λ (r : m.Pattern × ℕ). let v = number_all r.1 (lists.trees y4.says) in let z : m.PatSegments × ℕ = (m.and_pat_segment r.0 v.0 m.no_pat_segment, v.1) in z) y1.agrees
                  ∙ ap (λ (v : m.Trees × ℕ). let z : m.PatSegments × ℕ = (m.and_pat_segment o1 v.0 m.no_pat_segment, v.1) in z) y4.agrees
                  ∙ ap (λ (c : lists.PatSegmentParts). let z : m.PatSegments × ℕ = (lists.pat_segments (c ∷ []), p4) in z) (sym g);
            }

-- The pattern behind a key.
module _ (d n : ℕ) (ts : List Token) where
  pub pattern_value_lacks : (f : PartFault) → Misses s.Exact ts f → RefusesPatternValue d ts f
  pattern_value_lacks e z = λ o qs f g us r. lacking o s.Exact (the (pattern d) ∷ qs) (λ _. f) us ts e r z

  module _ (us : List Token) (y : Takes s.Exact ts us) where
    pub pattern_value_bad : (f : PartFault) → Refuses (pattern d) us f → RefusesPatternValue d ts f
    pattern_value_bad e z = λ o qs f g vs r. refused (pattern d) o qs f vs us e (r >> take_class o s.Exact (the (pattern d) ∷ qs) (λ _. f) ts us y) g z

    pub pattern_value : (left : List Token) (x : m.Pattern) (p : ℕ) → ReadsPattern d n us x left p → ReadsPatternValue d n ts x left p
    pattern_value left x p z = record { says = z.says; goes = λ o qs f g. take_class o s.Exact (the (pattern d) ∷ qs) (λ _. f) ts us y >> through (pattern d) o qs f us left z.says z.passes g; agrees = z.agrees }

-- The pair of a key and a pattern that is read.
pub pattern_value_pair : (d n : ℕ) (ts left : List Token) (x : m.Pattern) (p : ℕ) → ReadsPatternValue d n ts x left p → (key : m.Tree) (made_at : lists.PatPairParts) → made_at ≡ record { key = key; value = x }
    → ReadsPatternValueOf d n key ts made_at left p
pattern_value_pair d n ts left x p z key made_at g = record { value = subst (λ v. ReadsPatternValue d n ts v left p) (sym (ap (λ (r : lists.PatPairParts). r.value) g)) z; key_is = ap (λ (r : lists.PatPairParts). r.key) g }

-- the numbers of a pair
pair_is : (n p q : ℕ) (k k' : m.Tree) (v : m.Pattern) (made_at : lists.PatPairParts) → number n k ≡ (k', p) → number_pattern p v ≡ (made_at.value, q) → made_at.key ≡ k'
    → number_pat_pairs n (m.and_pat_pair k v m.no_pat_pair) ≡ (lists.pat_pairs (made_at ∷ []), q)
pair_is n p q k k' v made_at e f g = ap (λ (r : m.Tree × ℕ). let s = number_pattern r.1 v in let z : m.PatPairs × ℕ = (m.and_pat_pair r.0 s.0 m.no_pat_pair, s.1) in z) e
    ∙ ap (λ (s : m.Pattern × ℕ). let z : m.PatPairs × ℕ = (m.and_pat_pair k' s.0 m.no_pat_pair, s.1) in z) f ∙ ap (λ x. let z : m.PatPairs × ℕ = (m.and_pat_pair x made_at.value m.no_pat_pair, q) in z) (sym g)

pub noted_key : (n p : ℕ) (k l : Note) (says x : m.Tree) → k ≡ l → number n says ≡ (x, p) → number n (note_tree k says) ≡ (note_tree l x, p)
noted_key n p k l says x e h = noted_tree_number n k says ∙ ap (λ (r : m.Tree × ℕ). let z : m.Tree × ℕ = (note_tree k r.0, r.1) in z) h ∙ ap (λ q. let z : m.Tree × ℕ = (note_tree q x, p) in z) e

abbrev pair_of : m.Tree → m.Pattern → lists.PatPairParts
pair_of k v = record { key = k; value = v }

-- A pair without annotation brackets.
module _ (d n : ℕ) (ts : List Token) where
  bare_pattern_pair_open : Goes (bare_pattern_pair d) (itself (bare_pattern_pair d)) (record { parts = the (expression d) ∷ a s.Exact ∷ the (pattern d) ∷ []; build = λ k _ v. pair_of k v } ∷ []) ts ts
  bare_pattern_pair_open = expand (bare_pattern_pair d) (bare_pattern_pair d) [] (λ x. x) [] ts

  pub bare_pattern_pair_key_bad : (f : PartFault) → Refuses (expression d) ts f → Refuses (bare_pattern_pair d) ts f
  bare_pattern_pair_key_bad f z = refused (expression d) _ (a s.Exact ∷ the (pattern d) ∷ []) (λ k _ v. pair_of k v) ts ts f bare_pattern_pair_open ((λ t x. refl), (λ t x. refl), tt) z

  module _ (us : List Token) (k : m.Tree) (p : ℕ) (y : ReadsExpression d n ts k us p) where
    bare_pattern_pair_key : Goes (bare_pattern_pair d) (itself (bare_pattern_pair d)) (record { parts = a s.Exact ∷ the (pattern d) ∷ []; build = λ _ v. pair_of y.says v } ∷ []) ts us
    bare_pattern_pair_key = bare_pattern_pair_open >> through (expression d) _ (a s.Exact ∷ the (pattern d) ∷ []) (λ k _ v. pair_of k v) ts us y.says y.passes ((λ t x. refl), (λ t x. refl), tt)

    pub bare_pattern_pair_value_bad : (f : PartFault) → RefusesPatternValue d us f → Refuses (bare_pattern_pair d) ts f
    bare_pattern_pair_value_bad f z = z (bare_pattern_pair d) [] (λ v. pair_of y.says v) ((λ t x. refl), (λ t x. refl), tt) ts bare_pattern_pair_key

    pub bare_pattern_pair_ok : (left : List Token) (made_at : lists.PatPairParts) (q : ℕ) → ReadsPatternValueOf d p k us made_at left q → ReadsBarePatternPair d n ts made_at left q
    bare_pattern_pair_ok left made_at q z = record {
      says = pair_of y.says z.value.says;
      passes = bare_pattern_pair_key >> z.value.goes (bare_pattern_pair d) [] (λ v. pair_of y.says v) ((λ t x. refl), (λ t x. refl), tt);
      agrees = pair_is n p q y.says k z.value.says made_at y.agrees z.value.agrees z.key_is;
    }

-- A pair: a bracket that comes first is its own or its key's.
pub pattern_pair_end : (d : ℕ) (ts : List Token) (f : PartFault) → RanOut ts f → Refuses (pattern_pair d) ts f
pattern_pair_end d ts f z = ran_out (pattern_pair d) (itself (pattern_pair d)) ts ts f (stay (pattern_pair d) (itself (pattern_pair d)) ts) tt refl z

module _ (d n : ℕ) (ts us : List Token) (t : Token) (q : Sort) (place : Place) (b : Starts ts t q place us) where
  module _ (h : q ≡ s.OpenRound → ⊥) where
    pattern_pair_bare : Goes (pattern_pair d) (itself (pattern_pair d)) (record { parts = the (bare_pattern_pair d) ∷ []; build = λ x. x } ∷ []) ts ts
    pattern_pair_bare = expand (pattern_pair d) (pattern_pair d) [] (λ x. x) [] ts >> expand (pattern_pair d) (noted_ (the (bare_pattern_pair d))) [] _ [] ts
        >> drop_second _ _ _ _ ts us t b.are (fits_no_other s.OpenRound (sort t) (λ z. absurd cc) (λ z. h (b.sort_is ∙ z)))

    pub pattern_pair_bare_bad : (f : PartFault) → Refuses (bare_pattern_pair d) ts f → Refuses (pattern_pair d) ts f
    pattern_pair_bare_bad f z = refused _ _ [] (λ x. x) ts ts f pattern_pair_bare ((λ t x. refl), (λ t x. refl), tt) z

    pub pattern_pair_bare_ok : (left : List Token) (made_at : lists.PatPairParts) (p : ℕ) → ReadsBarePatternPair d n ts made_at left p → ReadsPatternPair d n ts made_at left p
    pattern_pair_bare_ok left made_at p z = record { says = z.says; passes = pattern_pair_bare >> through _ _ [] (λ x. x) ts left z.says z.passes ((λ t x. refl), (λ t x. refl), tt); agrees = z.agrees }

  module _ (h : q ≡ s.OpenRound) where
    pattern_pair_open : Goes (pattern_pair d) (itself (pattern_pair d)) (record { parts = the (bare_expression d) ∷ the annotation ∷ a s.Exact ∷ the (pattern d) ∷ []; build = λ x k _ v. pair_of (note_tree k x) v }
        ∷ record { parts = the (bare_pattern_pair d) ∷ the annotation ∷ []; build = λ x _. x } ∷ []) ts us
    pattern_pair_open = taken (pattern_pair d) (itself (pattern_pair d)) ts us t s.OpenRound b.are (sym b.sort_is ∙ h) refl (tt, tt)

    pub pattern_pair_open_end : (f : PartFault) → RanOut us f → Refuses (pattern_pair d) ts f
    pattern_pair_open_end f z = ran_out (pattern_pair d) _ ts us f pattern_pair_open tt refl z

    -- a second bracket: the first is the pair's
    module _ (vs : List Token) (u : Token) (r : Sort) (there : Place) (c : Starts us u r there vs) (i : r ≡ s.OpenRound) where
      pattern_pair_second : Goes (pattern_pair d) (itself (pattern_pair d)) (record { parts = the (bare_pattern_pair d) ∷ the annotation ∷ []; build = λ x _. x } ∷ []) ts us
      pattern_pair_second = pattern_pair_open >> pruned (pattern_pair d) _ us vs u s.OpenRound c.are (sym c.sort_is ∙ i)

      pub pattern_pair_second_bad : (f : PartFault) → Refuses (bare_pattern_pair d) us f → Refuses (pattern_pair d) ts f
      pattern_pair_second_bad f z = refused _ _ (the annotation ∷ []) (λ x _. x) ts us f pattern_pair_second ((λ t x. refl), (λ t x. refl), tt) z

      module _ (ws : List Token) (made_at : lists.PatPairParts) (p : ℕ) (y : ReadsBarePatternPair d n us made_at ws p) where
        pattern_pair_inside : Goes (pattern_pair d) (itself (pattern_pair d)) (record { parts = the annotation ∷ []; build = λ _. y.says } ∷ []) ts ws
        pattern_pair_inside = pattern_pair_second >> through _ _ (the annotation ∷ []) (λ x _. x) us ws y.says y.passes ((λ t x. refl), (λ t x. refl), tt)

        pub pattern_pair_second_note_bad : (f : PartFault) → Refuses annotation ws f → Refuses (pattern_pair d) ts f
        pattern_pair_second_note_bad f z = refused annotation _ [] (λ _. y.says) ts ws f pattern_pair_inside ((λ t x. refl), (λ t x. refl), tt) z

        pub pattern_pair_second_ok : (left : List Token) (k : Note) → ReadsAnnotation ws k left → ReadsPatternPair d n ts made_at left p
        pattern_pair_second_ok left k z = record { says = y.says; passes = pattern_pair_inside >> through annotation _ [] (λ _. y.says) ws left z.says z.passes ((λ t x. refl), (λ t x. refl), tt); agrees = y.agrees }

    -- none: the bracket is the key's where an annotation follows the key
    module _ (i : opens_with s.OpenRound us ≡ false) where
      abbrev key_thens : List (Then (bare_expression d) (pattern_pair d))
      key_thens = record { parts = a s.Exact ∷ the (pattern d) ∷ the annotation ∷ []; build = λ x _ v _. pair_of x v } ∷ record {
        parts = the annotation ∷ a s.Exact ∷ the (pattern d) ∷ [];
        build = λ x k _ v. pair_of (note_tree k x) v;
      } ∷ []

      pattern_pair_key : Goes (pattern_pair d) (itself (pattern_pair d)) (opened (bare_expression d) (pattern_pair d) key_thens) ts us
      pattern_pair_key = pattern_pair_open >> swapped _ _ _ [] us >> expand (pattern_pair d) (bare_pattern_pair d) (the annotation ∷ []) (λ x _. x) _ us
          >> expand (pattern_pair d) (expression d) (a s.Exact ∷ the (pattern d) ∷ the annotation ∷ []) (λ x _ v _. pair_of x v) _ us
          >> expand (pattern_pair d) (noted_ (the (bare_expression d))) (a s.Exact ∷ the (pattern d) ∷ the annotation ∷ []) _ _ us
          >> swapped _ _ _ _ us >> drop_unless _ s.OpenRound _ _ _ us i

      pub pattern_pair_key_bad : (f : PartFault) → Refuses (bare_expression d) us f → Refuses (pattern_pair d) ts f
      pattern_pair_key_bad f z = refused_in (bare_expression d) (pattern_pair d) key_thens ts us f pattern_pair_key tt ((λ t x. refl), (λ t x. refl), ((λ t x. refl), (λ t x. refl), tt)) z

      module _ (ws : List Token) (x : m.Tree) (p : ℕ) (y : ReadsBareExpression d n us x ws p) where
        key_read : Goes (pattern_pair d) (itself (pattern_pair d)) (record { parts = a s.Exact ∷ the (pattern d) ∷ the annotation ∷ []; build = λ _ v _. pair_of y.says v }
            ∷ record { parts = the annotation ∷ a s.Exact ∷ the (pattern d) ∷ []; build = λ k _ v. pair_of (note_tree k y.says) v } ∷ []) ts ws
        key_read = pattern_pair_key >> pass (bare_expression d) (pattern_pair d) key_thens us ws y.says ((λ t x. refl), (λ t x. refl), ((λ t x. refl), (λ t x. refl), tt)) y.passes

        pub pattern_pair_key_end : (f : PartFault) → RanOut ws f → Refuses (pattern_pair d) ts f
        pattern_pair_key_end f z = ran_out (pattern_pair d) _ ts ws f key_read tt refl z

        module _ (xs : List Token) (v : Token) (o : Sort) (third : Place) (c : Starts ws v o third xs) where
          -- the key's bracket
          module _ (j : o ≡ s.Noted) where
            key_noted : Goes (pattern_pair d) (itself (pattern_pair d)) (record { parts = the annotation ∷ a s.Exact ∷ the (pattern d) ∷ []; build = λ k _ v. pair_of (note_tree k y.says) v } ∷ []) ts ws
            key_noted = key_read >> pruned (pattern_pair d) _ ws xs v s.Noted c.are (sym c.sort_is ∙ j)

            pub pattern_pair_key_note_bad : (f : PartFault) → Refuses annotation ws f → Refuses (pattern_pair d) ts f
            pattern_pair_key_note_bad f z = refused annotation _ (a s.Exact ∷ the (pattern d) ∷ []) (λ k _ v. pair_of (note_tree k y.says) v) ts ws f key_noted ((λ t x. refl), (λ t x. refl), tt) z

            module _ (zs : List Token) (k : Note) (g : ReadsAnnotation ws k zs) where
              key_noted_read : Goes (pattern_pair d) (itself (pattern_pair d)) (record { parts = a s.Exact ∷ the (pattern d) ∷ []; build = λ _ v. pair_of (note_tree g.says y.says) v } ∷ []) ts zs
              key_noted_read = key_noted >> through annotation _ (a s.Exact ∷ the (pattern d) ∷ []) (λ k _ v. pair_of (note_tree k y.says) v) ws zs g.says g.passes ((λ t x. refl), (λ t x. refl), tt)

              pub pattern_pair_noted_value_bad : (f : PartFault) → RefusesPatternValue d zs f → Refuses (pattern_pair d) ts f
              pattern_pair_noted_value_bad f z = z (pattern_pair d) [] (λ v. pair_of (note_tree g.says y.says) v) ((λ t x. refl), (λ t x. refl), tt) ts key_noted_read

              pub pattern_pair_noted_ok : (left : List Token) (key : m.Tree) (made_at : lists.PatPairParts) (l : ℕ) → key ≡ note_tree k x → ReadsPatternValueOf d p key zs made_at left l → ReadsPatternPair d n ts made_at left l
              pattern_pair_noted_ok left key made_at l e z = record {
                says = pair_of (note_tree g.says y.says) z.value.says;
                passes = key_noted_read >> z.value.goes (pattern_pair d) [] (λ v. pair_of (note_tree g.says y.says) v) ((λ t x. refl), (λ t x. refl), tt);
                agrees = pair_is n p l (note_tree g.says y.says) (note_tree k x) z.value.says made_at (noted_key n p g.says k y.says x g.agrees y.agrees) z.value.agrees (z.key_is ∙ e);
              }

          -- the pair's
          module _ (j : o ≡ s.Noted → ⊥) where
            key_bare : Goes (pattern_pair d) (itself (pattern_pair d)) (record { parts = a s.Exact ∷ the (pattern d) ∷ the annotation ∷ []; build = λ _ v _. pair_of y.says v } ∷ []) ts ws
            key_bare = key_read >> swapped _ _ _ [] ws >> expand (pattern_pair d) annotation (a s.Exact ∷ the (pattern d) ∷ []) (λ k _ v. pair_of (note_tree k y.says) v) _ ws
                >> drop _ _ _ ws xs v c.are (fits_no_other s.Noted (sort v) (λ z. absurd cc) (λ z. j (c.sort_is ∙ z)))

            pub pattern_pair_value_bad : (f : PartFault) → RefusesPatternValue d ws f → Refuses (pattern_pair d) ts f
            pattern_pair_value_bad f z = z (pattern_pair d) (the annotation ∷ []) (λ v _. pair_of y.says v) ((λ t x. refl), (λ t x. refl), tt) ts key_bare

            module _ (zs : List Token) (made_at : lists.PatPairParts) (l : ℕ) (g : ReadsPatternValueOf d p x ws made_at zs l) where
              pattern_pair_valued : Goes (pattern_pair d) (itself (pattern_pair d)) (record { parts = the annotation ∷ []; build = λ _. pair_of y.says g.value.says } ∷ []) ts zs
              pattern_pair_valued = key_bare >> g.value.goes (pattern_pair d) (the annotation ∷ []) (λ v _. pair_of y.says v) ((λ t x. refl), (λ t x. refl), tt)

              pub pattern_pair_note_bad : (f : PartFault) → Refuses annotation zs f → Refuses (pattern_pair d) ts f
              pattern_pair_note_bad f z = refused annotation _ [] (λ _. pair_of y.says g.value.says) ts zs f pattern_pair_valued ((λ t x. refl), (λ t x. refl), tt) z

              pub pattern_pair_ok : (left : List Token) (k : Note) → ReadsAnnotation zs k left → ReadsPatternPair d n ts made_at left l
              pattern_pair_ok left k z = record {
                says = pair_of y.says g.value.says;
                passes = pattern_pair_valued >> through annotation _ [] (λ _. pair_of y.says g.value.says) zs left z.says z.passes ((λ t x. refl), (λ t x. refl), tt);
                agrees = pair_is n p l y.says x g.value.says made_at y.agrees g.value.agrees g.key_is;
              }
