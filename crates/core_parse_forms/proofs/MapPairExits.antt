-- The pairs of a map, with commas, and the map that they update: each way out.
use Rattle.std.proofs.Common.{◌≡◌, ℕ, Option, None, Some, List, [], ◌∷◌, ◌++◌, Bool, true, false, map, refl, sym, ap, ◌∙◌, subst, append-nil, append_assoc}
use Rattle.type_kinds.specs.declared.place.Place.{Place}
use Rattle.core_scan.specs.declared.token.Token.{Token}
use Rattle.core_scan.specs.declared.sort.Sort.{Sort}
use Rattle.core_scan.specs.declared.sort.Sort.TheVariants as s
use Rattle.core_scan.specs.Sorts.{sort}
use Rattle.core_scan.proofs.SortLaws.{fits_no_other}
use Rattle.core_ast.specs.declared.syntax.MapPair.{MapPair}
use Rattle.core_ast.specs.Model as m
use Rattle.core_ast.specs.Tree as lists
use Rattle.core_parse_grammar.specs.declared.fault.PartFault.{PartFault}
use Rattle.core_parse_grammar.specs.declared.fault.PartFault.TheVariants as fault
use Rattle.core_parse_grammar.specs.Build.{MapParts, next_pair}
use Rattle.core_parse_grammar.specs.Grammar.{a, the, expression, pairs, more_pairs, pair}
use Rattle.core_parse_grammar.specs.Labels.{number_pairs}
use Rattle.core_parse_grammar.specs.Track.{Branch, Goes, itself, Passes, Stops}
use Rattle.core_parse_grammar.specs.Faults.{Refuses, Starts, Takes, Misses, RanOut}
use Rattle.core_parse_forms.specs.steps.Items.{number_each, number_pair}
use Rattle.core_parse_grammar.specs.Pairs.{ReadsMapPairs, ReadsUpdated, RefusesUpdated, PairStart, NoPairStart}
use Rattle.core_parse_grammar.specs.Readings.{ReadsExpression, ReadsPair}
use Rattle.core_parse_grammar.proofs.Moves.{◌>>◌, expand}
use Rattle.core_parse_grammar.proofs.Places.{taken, halted, Shut, through, refused, lacking, ran_out, take_class, drop}
use Rattle.core_parse_forms.proofs.ItemNumbers.{each_pushed, pairs_each, pair_one}

abbrev no_items : List MapPair → Bool
no_items [] = true
no_items _ = false

none_are : (items : List MapPair) (k : Bool) → (k ≡ true → items ≡ []) → (items ≡ [] → k ≡ true) → no_items items ≡ k
none_are [] k i j = sym (j refl)
none_are (x ∷ xs) false i j = refl
none_are (x ∷ xs) true i j = let z : x ∷ xs ≡ [] = i refl in absurd cc

some_now : (items : List MapPair) (x : MapPair) → false ≡ no_items (items ++ x ∷ [])
some_now [] x = refl
some_now (y ∷ ys) x = refl

abbrev only_pairs : List lists.PairParts → MapParts
only_pairs ps = record { pairs = ps; updated = None }

abbrev with_map : List lists.PairParts → m.Tree → MapParts
with_map ps x = record { pairs = ps; updated = Some x }

abbrev one_more_pair : (d : ℕ) → Bool → (MapParts → MapParts) → Branch (pairs d)
one_more_pair d true b = record { parts = the (pair d) ∷ the (more_pairs d) ∷ []; build = λ p r. b (next_pair p r) }
one_more_pair d false b = record { parts = a s.Comma ∷ the (pair d) ∷ the (more_pairs d) ∷ []; build = λ _ p r. b (next_pair p r) }

-- What may come where the pairs begin, or behind a pair.
abbrev behind_pair : (d : ℕ) → Bool → (MapParts → MapParts) → List (Branch (pairs d))
behind_pair d k b = record { parts = a s.CloseMap ∷ []; build = λ _. b (only_pairs []) }
    ∷ record { parts = a s.Bar ∷ the (expression d) ∷ a s.CloseMap ∷ []; build = λ _ x _. b (with_map [] x) }
    ∷ one_more_pair d k b ∷ []

-- Pairs under way.
pub record MapPairsSoFar (d n : ℕ) (ts left : List Token) (items : List MapPair) (p : ℕ) : Type 0 where
  pub build : MapParts → MapParts
  pub goes : Goes (pairs d) (itself (pairs d)) (behind_pair d (no_items items) build) ts left
  pub raw : List lists.PairParts
  pub builds : (x : MapParts) → build x ≡ record { pairs = raw ++ x.pairs; updated = x.updated }
  pub agrees : number_each number_pair n raw ≡ (map lists.pair_parts items, p)

-- In front of a pair.
pub record MapPairsBefore (d n : ℕ) (ts from : List Token) (items : List MapPair) (p : ℕ) : Type 0 where
  pub build : MapParts → MapParts
  pub goes : Goes (pairs d) (itself (pairs d)) (record { parts = the (pair d) ∷ the (more_pairs d) ∷ []; build = λ p r. build (next_pair p r) } ∷ []) ts from
  pub raw : List lists.PairParts
  pub builds : (x : MapParts) → build x ≡ record { pairs = raw ++ x.pairs; updated = x.updated }
  pub agrees : number_each number_pair n raw ≡ (map lists.pair_parts items, p)

pub map_pairs_begin : (d n : ℕ) (ts : List Token) (items : List MapPair) → items ≡ [] → MapPairsSoFar d n ts ts items n
map_pairs_begin d n ts items e = record {
  build = λ x. x;
  goes = subst (λ (k : List MapPair). Goes (pairs d) (itself (pairs d)) (behind_pair d (no_items k) (λ x. x)) ts ts) (sym e) (expand (pairs d) (pairs d) [] (λ x. x) [] ts);
  raw = [];
  builds = λ x. refl;
  agrees = ap (λ (k : List MapPair). let z : List lists.PairParts × ℕ = (map lists.pair_parts k, n) in z) (sym e);
}

module _ (d n : ℕ) (ts us : List Token) (items : List MapPair) (p : ℕ) (e : MapPairsSoFar d n ts us items p) where
  pub map_pairs_end : (f : PartFault) → RanOut us f → Refuses (pairs d) ts f
  map_pairs_end f z = go (no_items items) e.goes
    where
      go : (k : Bool) → Goes (pairs d) (itself (pairs d)) (behind_pair d k e.build) ts us → Refuses (pairs d) ts f
      go true g = ran_out (pairs d) (behind_pair d true e.build) ts us f g tt refl z
      go false g = ran_out (pairs d) (behind_pair d false e.build) ts us f g tt refl z

  map_pairs_numbers : number_pairs n (lists.pairs e.raw) ≡ (lists.all_pairs items, p)
  map_pairs_numbers = pairs_each n e.raw ∙ ap (λ (r : List lists.PairParts × ℕ). let z : m.Pairs × ℕ = (lists.pairs r.0, r.1) in z) e.agrees

  map_pairs_say : (u : Option m.Tree) → e.build (record { pairs = []; updated = u }) ≡ record { pairs = e.raw; updated = u }
  map_pairs_say u = e.builds (record { pairs = []; updated = u }) ∙ ap (λ ps. let z : MapParts = record { pairs = ps; updated = u } in z) (append-nil e.raw)

  module _ (vs : List Token) (t : Token) (q : Sort) (place : Place) (b : Starts us t q place vs) where
    pub map_pairs_close : q ≡ s.CloseMap → ReadsMapPairs d n ts (lists.all_pairs items) None vs p
    map_pairs_close h = record {
      says = only_pairs e.raw;
      passes = subst (λ x. Passes (pairs d) ts x vs) (map_pairs_say None) (go (no_items items) e.goes);
      between = p;
      pairs_are = map_pairs_numbers;
      updated_is = refl;
    }
      where
        go : (k : Bool) → Goes (pairs d) (itself (pairs d)) (behind_pair d k e.build) ts us → Passes (pairs d) ts (e.build (only_pairs [])) vs
        go true g = g >> taken (pairs d) (behind_pair d true e.build) us vs t s.CloseMap b.are (sym b.sort_is ∙ h) refl (tt, (tt, (tt, tt)))
        go false g = g >> taken (pairs d) (behind_pair d false e.build) us vs t s.CloseMap b.are (sym b.sort_is ∙ h) refl (tt, (tt, (tt, tt)))

    -- the map that they update
    module _ (h : q ≡ s.Bar) where
      map_bar : Goes (pairs d) (itself (pairs d)) (record { parts = the (expression d) ∷ a s.CloseMap ∷ []; build = λ x _. e.build (with_map [] x) } ∷ []) ts vs
      map_bar = go (no_items items) e.goes
        where
          go : (k : Bool) → Goes (pairs d) (itself (pairs d)) (behind_pair d k e.build) ts us
              → Goes (pairs d) (itself (pairs d)) (record { parts = the (expression d) ∷ a s.CloseMap ∷ []; build = λ x _. e.build (with_map [] x) } ∷ []) ts vs
          go true g = g >> taken (pairs d) (behind_pair d true e.build) us vs t s.Bar b.are (sym b.sort_is ∙ h) refl (tt, (tt, (tt, tt)))
          go false g = g >> taken (pairs d) (behind_pair d false e.build) us vs t s.Bar b.are (sym b.sort_is ∙ h) refl (tt, (tt, (tt, tt)))

      module _ (ws : List Token) (o : m.Tree) (r : ℕ) (y : ReadsExpression d p vs o ws r) where
        map_updated : Goes (pairs d) (itself (pairs d)) (record { parts = a s.CloseMap ∷ []; build = λ _. e.build (with_map [] y.says) } ∷ []) ts ws
        map_updated = map_bar >> through _ _ (a s.CloseMap ∷ []) (λ x _. e.build (with_map [] x)) vs ws y.says y.passes ((λ t x. refl), (λ t x. refl), tt)

        map_bar_ok : (left : List Token) → Takes s.CloseMap ws left → ReadsMapPairs d n ts (lists.all_pairs items) (Some o) left r
        map_bar_ok left z = record {
          says = with_map e.raw y.says;
          passes = subst (λ x. Passes (pairs d) ts x left) (map_pairs_say (Some y.says)) (map_updated >> take_class _ s.CloseMap [] (λ _. e.build (with_map [] y.says)) ws left z);
          between = p;
          pairs_are = map_pairs_numbers;
          updated_is = ap (λ (k : m.Tree × ℕ). let z : Option m.Tree × ℕ = (Some k.0, k.1) in z) y.agrees;
        }

      pub map_bar_refused : (f : PartFault) → RefusesUpdated d vs f → Refuses (pairs d) ts f
      map_bar_refused f z = z (pairs d) (λ x _. e.build (with_map [] x)) ts map_bar

      pub map_bar_done : (made : m.Pairs) (u : Option m.Tree) (left : List Token) (r : ℕ) → made ≡ lists.all_pairs items → ReadsUpdated d p vs u left r → ReadsMapPairs d n ts made u left r
      map_bar_done made u left r g y = subst (λ k. ReadsMapPairs d n ts k u left r) (sym g) (subst (λ k. ReadsMapPairs d n ts (lists.all_pairs items) k left r) (sym y.made_is) (map_bar_ok y.behind y.made r y.reads left y.closes))

    -- another pair, or none
    module _ (x : q ≡ s.CloseMap → ⊥) (y : q ≡ s.Bar → ⊥) (k : Bool) (i : k ≡ true → items ≡ []) (j : items ≡ [] → k ≡ true) where
      map_pairs_behind : Goes (pairs d) (itself (pairs d)) (behind_pair d k e.build) ts us
      map_pairs_behind = subst (λ l. Goes (pairs d) (itself (pairs d)) (behind_pair d l e.build) ts us) (none_are items k i j) e.goes

      pub map_pairs_other : (f : PartFault) → NoPairStart k q place f → Refuses (pairs d) ts f
      map_pairs_other f z = go k f z map_pairs_behind
        where
          shut : (q : Sort) → (q ≡ s.CloseMap → ⊥) → (q ≡ s.Bar → ⊥) → (q ≡ s.Comma → ⊥) → Shut (pairs d) t q (behind_pair d false e.build)
          shut s.CloseMap x y z = absurd (x refl)
          shut s.Bar x y z = absurd (y refl)
          shut s.Comma x y z = absurd (z refl)
          shut _ x y z = (refl, refl)

          go : (k : Bool) (f : PartFault) → NoPairStart k q place f → Goes (pairs d) (itself (pairs d)) (behind_pair d k e.build) ts us → Refuses (pairs d) ts f
          go true f z g = absurd z
          go false (fault.Syntax at) z g = subst (Stops (pairs d) (itself (pairs d)) ts) (sym (z.1 ∙ b.place_is))
              (halted (pairs d) (itself (pairs d)) (behind_pair d false e.build) ts us vs t g b.are tt (shut (sort t) (λ w. x (b.sort_is ∙ w)) (λ w. y (b.sort_is ∙ w)) (λ w. z.0 (b.sort_is ∙ w))))
          go false fault.End z g = absurd z
          go false (fault.TooDeep at) z g = absurd z
          go false fault.Memory z g = absurd z

      pub map_pairs_next : (from : List Token) → PairStart k q us vs from → MapPairsBefore d n ts from items p
      map_pairs_next from z = record { build = e.build; goes = go k z map_pairs_behind; raw = e.raw; builds = e.builds; agrees = e.agrees }
        where
          go : (k : Bool) → PairStart k q us vs from → Goes (pairs d) (itself (pairs d)) (behind_pair d k e.build) ts us
              → Goes (pairs d) (itself (pairs d)) (record { parts = the (pair d) ∷ the (more_pairs d) ∷ []; build = λ p r. e.build (next_pair p r) } ∷ []) ts from
          go true z g = subst (λ w. Goes (pairs d) (itself (pairs d)) (record { parts = the (pair d) ∷ the (more_pairs d) ∷ []; build = λ p r. e.build (next_pair p r) } ∷ []) ts w) (sym z)
              (g >> drop _ _ _ us vs t b.are (fits_no_other s.CloseMap (sort t) (λ w. absurd cc) (λ w. x (b.sort_is ∙ w))) >> drop _ _ _ us vs t b.are (fits_no_other s.Bar (sort t) (λ w. absurd cc) (λ w. y (b.sort_is ∙ w))))
          go false z g = subst (λ w. Goes (pairs d) (itself (pairs d)) (record { parts = the (pair d) ∷ the (more_pairs d) ∷ []; build = λ p r. e.build (next_pair p r) } ∷ []) ts w) (sym z.1)
              (g >> taken (pairs d) (behind_pair d false e.build) us vs t s.Comma b.are (sym b.sort_is ∙ z.0) refl (tt, (tt, (tt, tt))))

-- A pair is read.
module _ (d n : ℕ) (ts from : List Token) (items : List MapPair) (p : ℕ) (e : MapPairsBefore d n ts from items p) where
  pub map_pairs_bad : (f : PartFault) → Refuses (pair d) from f → Refuses (pairs d) ts f
  map_pairs_bad f z = refused _ _ (the (more_pairs d) ∷ []) (λ p r. e.build (next_pair p r)) ts from f e.goes ((λ t x. refl), (λ t x. refl), tt) z

  pub map_pairs_more : (ws : List Token) (x : MapPair) (grown : List MapPair) (o : ℕ) → grown ≡ items ++ x ∷ [] → ReadsPair d p from (lists.pair_parts x) ws o → MapPairsSoFar d n ts ws grown o
  map_pairs_more ws x grown o w z = record {
    build = λ r. e.build (next_pair z.says r);
    goes = subst (λ k. Goes (pairs d) (itself (pairs d)) (behind_pair d k (λ r. e.build (next_pair z.says r))) ts ws) (some_now items x ∙ ap no_items (sym w))
        (e.goes >> through _ _ (the (more_pairs d) ∷ []) (λ p r. e.build (next_pair p r)) from ws z.says z.passes ((λ t x. refl), (λ t x. refl), tt) >> expand (pairs d) (more_pairs d) [] (λ r. e.build (next_pair z.says r)) [] ws);
    raw = e.raw ++ z.says ∷ [];
    builds = λ r. e.builds (next_pair z.says r) ∙ ap (λ ps. let y : MapParts = record { pairs = ps; updated = r.updated } in y) (sym (append_assoc e.raw (z.says ∷ []) r.pairs));
    agrees = each_pushed number_pair lists.pair_parts n p o e.raw items grown z.says x w e.agrees (pair_one p o z.says (lists.pair_parts x) z.agrees);
  }

-- Behind the bar.
module _ (d n : ℕ) (us : List Token) where
  pub updated_bad : (f : PartFault) → Refuses (expression d) us f → RefusesUpdated d us f
  updated_bad f z o b ts g = refused (expression d) o (a s.CloseMap ∷ []) b ts us f g ((λ t x. refl), (λ t x. refl), tt) z

  pub updated_lacks : (ws : List Token) (x : m.Tree) (p : ℕ) → ReadsExpression d n us x ws p → (f : PartFault) → Misses s.CloseMap ws f → RefusesUpdated d us f
  updated_lacks ws x p y f z o b ts g = lacking o s.CloseMap [] (b y.says) ts ws f (g >> through (expression d) o (a s.CloseMap ∷ []) b us ws y.says y.passes ((λ t x. refl), (λ t x. refl), tt)) z

-- The first pair, and one behind a comma.
pub map_pairs_first : (d n : ℕ) (ts us : List Token) (items : List MapPair) → items ≡ [] → (t : Token) (q : Sort) (place : Place) → Starts ts t q place us → (q ≡ s.CloseMap → ⊥) → (q ≡ s.Bar → ⊥)
    → MapPairsBefore d n ts ts items n
map_pairs_first d n ts us items e t q place b x y = map_pairs_next d n ts ts items n (map_pairs_begin d n ts items e) us t q place b x y true (λ _. e) (λ _. refl) ts refl

module _ (d n : ℕ) (ts us : List Token) (items : List MapPair) (p : ℕ) (e : MapPairsSoFar d n ts us items p) (some : items ≡ [] → ⊥) (vs : List Token) (t : Token) (q : Sort) (place : Place) (b : Starts us t q place vs) where
  none_here : items ≡ [] → false ≡ true
  none_here z = absurd (some z)

  pub map_pairs_comma : q ≡ s.Comma → MapPairsBefore d n ts vs items p
  map_pairs_comma h = map_pairs_next d n ts us items p e vs t q place b (λ z. absurd cc) (λ z. absurd cc) false (λ z. absurd cc) none_here vs (h, refl)

  pub map_pairs_no_comma : (q ≡ s.CloseMap → ⊥) → (q ≡ s.Bar → ⊥) → (q ≡ s.Comma → ⊥) → Refuses (pairs d) ts (fault.Syntax place)
  map_pairs_no_comma x y h = map_pairs_other d n ts us items p e vs t q place b x y false (λ z. absurd cc) none_here (fault.Syntax place) (h, refl)

pub one_is_some : (items made : List MapPair) (x : MapPair) → made ≡ items ++ x ∷ [] → made ≡ [] → ⊥
one_is_some [] made x e h = absurd cc
one_is_some (y ∷ ys) made x e h = absurd cc

-- A pair that is read, as the pair that is kept.
pub pair_kept : {d n : ℕ} {ts left : List Token} {made kept : lists.PairParts} {p : ℕ} → kept ≡ made → ReadsPair d n ts made left p → ReadsPair d n ts kept left p
pair_kept {d = d} {n = n} {ts = ts} {left = left} {p = p} e z = subst (λ k. ReadsPair d n ts k left p) (sym e) z
