-- Maps, their pairs and what stands behind a key: each way out.
use Rattle.std.proofs.Common.{◌≡◌, ℕ, ◌+◌, ◌≤◌, Option, None, Some, List, [], ◌∷◌, inl, inr, Bool, true, false, refl, sym, ap, ◌∙◌, subst}
use Rattle.type_kinds.specs.declared.place.Place.{Place}
use Rattle.core_scan.specs.declared.token.Token.{Token}
use Rattle.core_scan.specs.declared.sort.Sort.{Sort}
use Rattle.core_scan.specs.declared.sort.Sort.TheVariants as s
use Rattle.core_scan.specs.Sorts.{sort}
use Rattle.core_scan.proofs.SortLaws.{fits_no_other}
use Rattle.core_ast.specs.declared.syntax.Note.{Note}
use Rattle.core_ast.specs.declared.syntax.Mark.{Mark}
use Rattle.core_ast.specs.declared.syntax.Expr.{Expr}
use Rattle.core_ast.specs.Model as m
use Rattle.core_ast.specs.Notes.{note_tree}
use Rattle.core_ast.specs.Tree as lists
use Rattle.core_parse_grammar.specs.declared.fault.PartFault.{PartFault}
use Rattle.core_parse_grammar.specs.declared.fault.PartFault.TheVariants.{Syntax}
use Rattle.core_parse_grammar.specs.Begins.{depth_limit}
use Rattle.core_parse_grammar.specs.Build.{at, is_chain, map_at, map_tree}
use Rattle.core_parse_grammar.specs.Grammar.{Part, a, the, noted_, Nonterminal, Said, Action, annotation, expression, bare_expression, other_expression, pairs, pair, bare_pair}
use Rattle.core_parse_grammar.specs.Labels.{number, number_pairs}
use Rattle.core_parse_grammar.specs.Track.{Branch, Goes, MatchesBranch, itself, Stops, Then, opened}
use Rattle.core_parse_grammar.specs.Faults.{Refuses, Starts, RanOut}
use Rattle.core_parse_grammar.specs.Matches.{Extent}
use Rattle.core_parse_grammar.specs.Starters.{opens_with}
use Rattle.core_parse_grammar.specs.Pairs.{number_updated, ReadsMapPairs, ReadsBarePair, ReadsValue, ReadsValueOf, RefusesValue, exact_sign, updated_tree, read_pair}
use Rattle.core_parse_grammar.specs.Readings.{mark, ReadsAnnotation, ReadsExpression, ReadsBareExpression, ReadsOtherExpression, ReadsPair}
use Rattle.core_parse_grammar.proofs.Moves.{◌>>◌, pass, stay, expand}
use Rattle.core_parse_grammar.proofs.Places.{taken, halted, Shut, through, refused, refused_in, ran_out, drop, drop_second}
use Rattle.core_parse_forms.proofs.Branches.{rearranged, swapped, turned, pruned, drop_unless}
use Rattle.core_parse_forms.proofs.FormExits.{made}
use Rattle.core_parse_forms.proofs.PatternFormExits.{noted_key}

-- the labels of a map's pairs, and of the map that they update
numbered_map : (n p q : ℕ) (place : Place) (ps : List lists.PairParts) (x : Option m.Tree) (o : m.Pairs) (u : Option m.Tree) → number_pairs (n + 1) (lists.pairs ps) ≡ (o, p) → number_updated p x ≡ (u, q)
    → number n (map_tree (at place) (lists.pairs ps) x) ≡ (map_tree (mark n place) o u, q)
numbered_map n p q place ps None o None e h = ap (λ (r : m.Pairs × ℕ). let z : m.Tree × ℕ = (m.new_map (mark n place) r.0, r.1) in z) e
    ∙ ap (λ (r : Option m.Tree × ℕ). let z : m.Tree × ℕ = (m.new_map (mark n place) o, r.1) in z) h
numbered_map n p q place ps None o (Some y) e h = absurd (some_not_none (ap (λ (r : Option m.Tree × ℕ). r.0) h))
  where
    some_not_none : None ≡ Some y → ⊥
    some_not_none e = absurd cc
numbered_map n p q place ps (Some x) o None e h = absurd (some_not_none (ap (λ (r : Option m.Tree × ℕ). r.0) h))
  where
    some_not_none : Some (number p x).0 ≡ None → ⊥
    some_not_none e = absurd cc
numbered_map n p q place ps (Some x) o (Some y) e h =
    ap (λ (r : m.Pairs × ℕ). let z : m.Tree × ℕ = (m.updated_map (mark n place) r.0 (number r.1 x).0, (number r.1 x).1) in z) e
    ∙ ap (λ (r : Option m.Tree × ℕ). let z : m.Tree × ℕ = (m.updated_map (mark n place) o (get_tree r.0), r.1) in z) h
  where
    get_tree : Option m.Tree → m.Tree
    get_tree None = y
    get_tree (Some z) = z

-- A map.
module _ (d n : ℕ) (ts us : List Token) (t : Token) (q : Sort) (place : Place) (b : Starts ts t q place us) (w : d ≤ depth_limit) (h : q ≡ s.OpenMap) where
  map_expression_0 : Goes (other_expression d) (itself (other_expression d)) (record { parts = the (pairs (d + 1)) ∷ []; build = λ ps. map_at t.place ps } ∷ []) ts us
  map_expression_0 = taken (other_expression d) (itself (other_expression d)) ts us t s.OpenMap b.are (sym b.sort_is ∙ h) refl ((w, tt), tt)

  pub map_expression_bad : (f : PartFault) → Refuses (pairs (d + 1)) us f → Refuses (other_expression d) ts f
  map_expression_bad f z = refused _ _ [] (λ ps. map_at t.place ps) ts us f map_expression_0 ((λ t x. refl), (λ t x. refl), tt) z

  map_expression_ok : (vs : List Token) (o : m.Pairs) (u : Option m.Tree) (p : ℕ) → ReadsMapPairs (d + 1) (n + 1) us o u vs p → (e : m.Tree) → e ≡ map_tree (mark n place) o u → ReadsOtherExpression d n ts e vs p
  map_expression_ok vs o u p y e g = record {
    says = map_at t.place y.says;
    passes = map_expression_0 >> through _ _ [] (λ ps. map_at t.place ps) us vs y.says y.passes ((λ t x. refl), (λ t x. refl), tt);
    agrees = numbered_map n y.between p t.place y.says.pairs y.says.updated o u y.pairs_are y.updated_is ∙ made p (λ k. map_tree k o u) n place t.place b.place_is e g;
    single = λ _. no_chain y.says.updated;
  }
    where
      no_chain : (u : Option m.Tree) → is_chain (map_tree (at t.place) (lists.pairs y.says.pairs) u) ≡ false
      no_chain None = refl
      no_chain (Some x) = refl

  pub map_expression_new : (vs : List Token) (o : m.Pairs) (u : Option Expr) (p : ℕ) → ReadsMapPairs (d + 1) (n + 1) us o (updated_tree u) vs p → u ≡ None → (k : Mark) → k ≡ mark n place → (e : m.Tree)
      → e ≡ m.new_map k o → ReadsOtherExpression d n ts e vs p
  map_expression_new vs o u p y i k j e g = map_expression_ok vs o (updated_tree u) p y e (g ∙ ap (λ x. m.new_map x o) j ∙ ap (λ x. map_tree (mark n place) o (updated_tree x)) (sym i))

  pub map_expression_updated : (vs : List Token) (o : m.Pairs) (u : Option Expr) (p : ℕ) → ReadsMapPairs (d + 1) (n + 1) us o (updated_tree u) vs p → (x : Expr) → u ≡ Some x → (k : Mark) → k ≡ mark n place → (e : m.Tree)
      → e ≡ m.updated_map k o (lists.tree x) → ReadsOtherExpression d n ts e vs p
  map_expression_updated vs o u p y x i k j e g = map_expression_ok vs o (updated_tree u) p y e (g ∙ ap (λ l. m.updated_map l o (lists.tree x)) j ∙ ap (λ l. map_tree (mark n place) o (updated_tree l)) (sym i))

-- Behind a key.
module _ (d n : ℕ) (us : List Token) where
  -- the arrow or the equals sign that may come
  abbrev either : (o : Nonterminal) (qs : List Part) → (Bool → m.Tree → Action qs (Said o)) → List (Branch o)
  either o qs f = record { parts = a s.Assoc ∷ the (expression d) ∷ qs; build = λ _. f false } ∷ record { parts = a s.Exact ∷ the (expression d) ∷ qs; build = λ _. f true } ∷ []

  pub key_value_end : (f : PartFault) → RanOut us f → RefusesValue d us f
  key_value_end f z o qs b gs ts g = ran_out o (either o qs b) ts us f g tt refl z

  module _ (vs : List Token) (t : Token) (q : Sort) (place : Place) (c : Starts us t q place vs) where
    pub key_value_other : exact_sign q ≡ None → RefusesValue d us (Syntax place)
    key_value_other x o qs b gs ts g = subst (Stops o (itself o) ts) (sym c.place_is) (halted o (itself o) (either o qs b) ts us vs t g c.are tt (go (sort t) (ap exact_sign (sym c.sort_is) ∙ x)))
      where
        go : (q : Sort) → exact_sign q ≡ None → Shut o t q (either o qs b)
        go s.Exact x = absurd cc
        go s.Assoc x = absurd cc
        go _ x = (refl, refl)

    key_value_1 : (exact : Bool) → exact_sign q ≡ Some exact → (o : Nonterminal) (qs : List Part) (b : Bool → m.Tree → Action qs (Said o))
        → Goes o (either o qs b) (record { parts = the (expression d) ∷ qs; build = b exact } ∷ []) us vs
    key_value_1 exact x o qs b = go (sort t) refl exact (ap exact_sign (sym c.sort_is) ∙ x)
      where
        go : (q : Sort) → sort t ≡ q → (exact : Bool) → exact_sign q ≡ Some exact → Goes o (either o qs b) (record { parts = the (expression d) ∷ qs; build = b exact } ∷ []) us vs
        go s.Exact e true x = taken o (either o qs b) us vs t s.Exact c.are e refl (tt, (tt, tt))
        go s.Exact e false x = absurd cc
        go s.Assoc e false x = taken o (either o qs b) us vs t s.Assoc c.are e refl (tt, (tt, tt))
        go s.Assoc e true x = absurd cc
        go _ e exact x = absurd cc

    module _ (exact : Bool) (x : exact_sign q ≡ Some exact) where
      pub key_value_bad : (f : PartFault) → Refuses (expression d) vs f → RefusesValue d us f
      key_value_bad f z o qs b gs ts g = refused (expression d) o qs (b exact) ts vs f (g >> key_value_1 exact x o qs b) (gs exact) z

      pub key_value : (left : List Token) (v : m.Tree) (p : ℕ) → ReadsExpression d n vs v left p → ReadsValue d n us exact v left p
      key_value left v p z = record { says = z.says; goes = λ o qs b h. key_value_1 exact x o qs b >> through (expression d) o qs (b exact) vs left z.says z.passes h; agrees = z.agrees }

-- The pair of a key and a value that is read.
pub pair_valued : (d n : ℕ) (us left : List Token) (exact : Bool) (v : m.Tree) (p : ℕ) → ReadsValue d n us exact v left p → (key : m.Tree) (made : lists.PairParts) → made ≡ record { exact = exact; key = key; value = v }
    → ReadsValueOf d n key us made left p
pair_valued d n us left exact v p z key made g = record { value = subst (λ (r : lists.PairParts). ReadsValue d n us r.exact r.value left p) (sym g) z; key_is = ap (λ (r : lists.PairParts). r.key) g }

-- The same of the pair that a reader answers.
pub pair_carried : (d n : ℕ) (us left : List Token) (exact : Bool) (v : m.Tree) (p : ℕ) → ReadsValue d n us exact v left p → (key : m.Tree) (made : lists.PairParts) → made ≡ record { exact = exact; key = key; value = v }
    → (ws : List Token) → ws ≡ left → (q : ℕ) → q ≡ p → ReadsValueOf d n key us made ws q
pair_carried d n us left exact v p z key made g ws e q h = subst (λ l. ReadsValueOf d n key us made l q) (sym e) (subst (λ k. ReadsValueOf d n key us made left k) (sym h) (pair_valued d n us left exact v p z key made g))

pub pair_parts_are : (exact o : Bool) (key k value v : Expr) → exact ≡ o → key ≡ k → value ≡ v → read_pair exact key value ≡ read_pair o k v
pair_parts_are exact o key k value v e f g = ap (λ (x : Bool). read_pair x key value) e ∙ ap (λ (x : Expr). read_pair o x value) f ∙ ap (λ (x : Expr). read_pair o k x) g

-- the numbers of a pair
map_pair_is : (n p q : ℕ) (k k' v : m.Tree) (made : lists.PairParts) → number n k ≡ (k', p) → number p v ≡ (made.value, q) → made.key ≡ k'
    → number_pairs n (m.and_pair made.exact k v m.no_pair) ≡ (lists.pairs (made ∷ []), q)
map_pair_is n p q k k' v made e f g = ap (λ (r : m.Tree × ℕ). let s = number r.1 v in let z : m.Pairs × ℕ = (m.and_pair made.exact r.0 s.0 m.no_pair, s.1) in z) e
    ∙ ap (λ (s : m.Tree × ℕ). let z : m.Pairs × ℕ = (m.and_pair made.exact k' s.0 m.no_pair, s.1) in z) f ∙ ap (λ x. let z : m.Pairs × ℕ = (m.and_pair made.exact x made.value m.no_pair, q) in z) (sym g)

abbrev map_pair_of : Bool → m.Tree → m.Tree → lists.PairParts
map_pair_of exact k v = record { exact = exact; key = k; value = v }

-- A pair without annotation brackets.
module _ (d n : ℕ) (ts : List Token) where
  abbrev bare_thens : List (Then (expression d) (bare_pair d))
  bare_thens = record { parts = a s.Assoc ∷ the (expression d) ∷ []; build = λ k _ v. map_pair_of false k v } ∷ record { parts = a s.Exact ∷ the (expression d) ∷ []; build = λ k _ v. map_pair_of true k v } ∷ []

  bare_map_pair_open : Goes (bare_pair d) (itself (bare_pair d)) (opened (expression d) (bare_pair d) bare_thens) ts ts
  bare_map_pair_open = expand (bare_pair d) (bare_pair d) [] (λ x. x) [] ts

  pub bare_map_pair_key_bad : (f : PartFault) → Refuses (expression d) ts f → Refuses (bare_pair d) ts f
  bare_map_pair_key_bad f z = refused_in (expression d) (bare_pair d) bare_thens ts ts f bare_map_pair_open tt ((λ t x. refl), (λ t x. refl), ((λ t x. refl), (λ t x. refl), tt)) z

  module _ (us : List Token) (k : m.Tree) (p : ℕ) (y : ReadsExpression d n ts k us p) where
    bare_map_pair_key : Goes (bare_pair d) (itself (bare_pair d)) (record { parts = a s.Assoc ∷ the (expression d) ∷ []; build = λ _ v. map_pair_of false y.says v } ∷ record {
      parts = a s.Exact ∷ the (expression d) ∷ [];
      build = λ _ v. map_pair_of true y.says v;
    } ∷ []) ts us
    bare_map_pair_key = bare_map_pair_open >> pass (expression d) (bare_pair d) bare_thens ts us y.says ((λ t x. refl), (λ t x. refl), ((λ t x. refl), (λ t x. refl), tt)) y.passes

    pub bare_map_pair_value_bad : (f : PartFault) → RefusesValue d us f → Refuses (bare_pair d) ts f
    bare_map_pair_value_bad f z = z (bare_pair d) [] (λ exact v. map_pair_of exact y.says v) (λ exact. ((λ t x. refl), (λ t x. refl), tt)) ts bare_map_pair_key

    pub bare_map_pair_ok : (left : List Token) (made : lists.PairParts) (q : ℕ) → ReadsValueOf d p k us made left q → ReadsBarePair d n ts made left q
    bare_map_pair_ok left made q z = record {
      says = map_pair_of made.exact y.says z.value.says;
      passes = bare_map_pair_key >> z.value.goes (bare_pair d) [] (λ exact v. map_pair_of exact y.says v) ((λ t x. refl), (λ t x. refl), tt);
      agrees = map_pair_is n p q y.says k z.value.says made y.agrees z.value.agrees z.key_is;
    }

-- A pair: a bracket that comes first is its own or its key's.
pub map_pair_end : (d : ℕ) (ts : List Token) (f : PartFault) → RanOut ts f → Refuses (pair d) ts f
map_pair_end d ts f z = ran_out (pair d) (itself (pair d)) ts ts f (stay (pair d) (itself (pair d)) ts) tt refl z

four_turned : (n : Nonterminal) (b c e f : Branch n) (ts : List Token) → Goes n (b ∷ c ∷ e ∷ f ∷ []) (e ∷ f ∷ c ∷ b ∷ []) ts ts
four_turned n b c e f ts = rearranged n (b ∷ c ∷ e ∷ f ∷ []) (e ∷ f ∷ c ∷ b ∷ []) ts (λ s l seen v us r. back r) (λ s l seen v us r. on r)
  where
    back : {s : Extent} {l : ℕ} {seen us : List Token} {v : Said n} → MatchesBranch s l n (e ∷ f ∷ c ∷ b ∷ []) seen v us → MatchesBranch s l n (b ∷ c ∷ e ∷ f ∷ []) seen v us
    back (inl r) = inr (inr (inl r))
    back (inr (inl r)) = inr (inr (inr (inl r)))
    back (inr (inr (inl r))) = inr (inl r)
    back (inr (inr (inr (inl r)))) = inl r
    back (inr (inr (inr (inr r)))) = absurd r

    on : {s : Extent} {l : ℕ} {seen us : List Token} {v : Said n} → MatchesBranch s l n (b ∷ c ∷ e ∷ f ∷ []) seen v us → MatchesBranch s l n (e ∷ f ∷ c ∷ b ∷ []) seen v us
    on (inl r) = inr (inr (inr (inl r)))
    on (inr (inl r)) = inr (inr (inl r))
    on (inr (inr (inl r))) = inl r
    on (inr (inr (inr (inl r)))) = inr (inl r)
    on (inr (inr (inr (inr r)))) = absurd r

module _ (d n : ℕ) (ts us : List Token) (t : Token) (q : Sort) (place : Place) (b : Starts ts t q place us) where
  module _ (h : q ≡ s.OpenRound → ⊥) where
    map_pair_bare : Goes (pair d) (itself (pair d)) (record { parts = the (bare_pair d) ∷ []; build = λ x. x } ∷ []) ts ts
    map_pair_bare = expand (pair d) (pair d) [] (λ x. x) [] ts >> expand (pair d) (noted_ (the (bare_pair d))) [] _ [] ts
        >> drop_second _ _ _ _ ts us t b.are (fits_no_other s.OpenRound (sort t) (λ z. absurd cc) (λ z. h (b.sort_is ∙ z)))

    pub map_pair_bare_bad : (f : PartFault) → Refuses (bare_pair d) ts f → Refuses (pair d) ts f
    map_pair_bare_bad f z = refused _ _ [] (λ x. x) ts ts f map_pair_bare ((λ t x. refl), (λ t x. refl), tt) z

    pub map_pair_bare_ok : (left : List Token) (made : lists.PairParts) (p : ℕ) → ReadsBarePair d n ts made left p → ReadsPair d n ts made left p
    map_pair_bare_ok left made p z = record { says = z.says; passes = map_pair_bare >> through _ _ [] (λ x. x) ts left z.says z.passes ((λ t x. refl), (λ t x. refl), tt); agrees = z.agrees }

  module _ (h : q ≡ s.OpenRound) where
    map_pair_open : Goes (pair d) (itself (pair d)) (record { parts = the (bare_expression d) ∷ the annotation ∷ a s.Assoc ∷ the (expression d) ∷ []; build = λ x k _ v. map_pair_of false (note_tree k x) v }
        ∷ record { parts = the (bare_expression d) ∷ the annotation ∷ a s.Exact ∷ the (expression d) ∷ []; build = λ x k _ v. map_pair_of true (note_tree k x) v }
        ∷ record { parts = the (bare_pair d) ∷ the annotation ∷ []; build = λ x _. x } ∷ []) ts us
    map_pair_open = taken (pair d) (itself (pair d)) ts us t s.OpenRound b.are (sym b.sort_is ∙ h) refl (tt, tt)

    pub map_pair_open_end : (f : PartFault) → RanOut us f → Refuses (pair d) ts f
    map_pair_open_end f z = ran_out (pair d) _ ts us f map_pair_open tt refl z

    -- a second bracket: the first is the pair's
    module _ (vs : List Token) (u : Token) (r : Sort) (there : Place) (c : Starts us u r there vs) (i : r ≡ s.OpenRound) where
      map_pair_second : Goes (pair d) (itself (pair d)) (record { parts = the (bare_pair d) ∷ the annotation ∷ []; build = λ x _. x } ∷ []) ts us
      map_pair_second = map_pair_open >> pruned (pair d) _ us vs u s.OpenRound c.are (sym c.sort_is ∙ i)

      pub map_pair_second_bad : (f : PartFault) → Refuses (bare_pair d) us f → Refuses (pair d) ts f
      map_pair_second_bad f z = refused _ _ (the annotation ∷ []) (λ x _. x) ts us f map_pair_second ((λ t x. refl), (λ t x. refl), tt) z

      module _ (ws : List Token) (made : lists.PairParts) (p : ℕ) (y : ReadsBarePair d n us made ws p) where
        map_pair_inside : Goes (pair d) (itself (pair d)) (record { parts = the annotation ∷ []; build = λ _. y.says } ∷ []) ts ws
        map_pair_inside = map_pair_second >> through _ _ (the annotation ∷ []) (λ x _. x) us ws y.says y.passes ((λ t x. refl), (λ t x. refl), tt)

        pub map_pair_second_note_bad : (f : PartFault) → Refuses annotation ws f → Refuses (pair d) ts f
        map_pair_second_note_bad f z = refused annotation _ [] (λ _. y.says) ts ws f map_pair_inside ((λ t x. refl), (λ t x. refl), tt) z

        pub map_pair_second_ok : (left : List Token) (k : Note) → ReadsAnnotation ws k left → ReadsPair d n ts made left p
        map_pair_second_ok left k z = record { says = y.says; passes = map_pair_inside >> through annotation _ [] (λ _. y.says) ws left z.says z.passes ((λ t x. refl), (λ t x. refl), tt); agrees = y.agrees }

    -- none: the bracket is the key's where an annotation follows the key
    module _ (i : opens_with s.OpenRound us ≡ false) where
      abbrev map_key_thens : List (Then (bare_expression d) (pair d))
      map_key_thens = record { parts = a s.Exact ∷ the (expression d) ∷ the annotation ∷ []; build = λ x _ v _. map_pair_of true x v }
          ∷ record { parts = a s.Assoc ∷ the (expression d) ∷ the annotation ∷ []; build = λ x _ v _. map_pair_of false x v }
          ∷ record { parts = the annotation ∷ a s.Assoc ∷ the (expression d) ∷ []; build = λ x k _ v. map_pair_of false (note_tree k x) v }
          ∷ record { parts = the annotation ∷ a s.Exact ∷ the (expression d) ∷ []; build = λ x k _ v. map_pair_of true (note_tree k x) v } ∷ []

      map_pair_key : Goes (pair d) (itself (pair d)) (opened (bare_expression d) (pair d) map_key_thens) ts us
      map_pair_key = map_pair_open >> turned _ _ _ _ us >> expand (pair d) (bare_pair d) (the annotation ∷ []) (λ x _. x) _ us
          >> expand (pair d) (expression d) (a s.Assoc ∷ the (expression d) ∷ the annotation ∷ []) (λ x _ v _. map_pair_of false x v) _ us
          >> expand (pair d) (noted_ (the (bare_expression d))) (a s.Assoc ∷ the (expression d) ∷ the annotation ∷ []) _ _ us
          >> swapped _ _ _ _ us >> drop_unless _ s.OpenRound _ _ _ us i >> swapped _ _ _ _ us
          >> expand (pair d) (expression d) (a s.Exact ∷ the (expression d) ∷ the annotation ∷ []) (λ x _ v _. map_pair_of true x v) _ us
          >> expand (pair d) (noted_ (the (bare_expression d))) (a s.Exact ∷ the (expression d) ∷ the annotation ∷ []) _ _ us
          >> swapped _ _ _ _ us >> drop_unless _ s.OpenRound _ _ _ us i

      pub map_pair_key_bad : (f : PartFault) → Refuses (bare_expression d) us f → Refuses (pair d) ts f
      map_pair_key_bad f z = refused_in (bare_expression d) (pair d) map_key_thens ts us f map_pair_key tt (
        (λ t x. refl),
        (λ t x. refl),
        ((λ t x. refl), (λ t x. refl), ((λ t x. refl), (λ t x. refl), ((λ t x. refl), (λ t x. refl), tt))),
      ) z

      module _ (ws : List Token) (x : m.Tree) (p : ℕ) (y : ReadsBareExpression d n us x ws p) where
        abbrev key_exact : Branch (pair d)
        key_exact = record { parts = a s.Exact ∷ the (expression d) ∷ the annotation ∷ []; build = λ _ v _. map_pair_of true y.says v }

        abbrev key_assoc : Branch (pair d)
        key_assoc = record { parts = a s.Assoc ∷ the (expression d) ∷ the annotation ∷ []; build = λ _ v _. map_pair_of false y.says v }

        abbrev noted_assoc : Branch (pair d)
        noted_assoc = record { parts = the annotation ∷ a s.Assoc ∷ the (expression d) ∷ []; build = λ k _ v. map_pair_of false (note_tree k y.says) v }

        abbrev noted_exact : Branch (pair d)
        noted_exact = record { parts = the annotation ∷ a s.Exact ∷ the (expression d) ∷ []; build = λ k _ v. map_pair_of true (note_tree k y.says) v }

        map_key_read : Goes (pair d) (itself (pair d)) (key_exact ∷ key_assoc ∷ noted_assoc ∷ noted_exact ∷ []) ts ws
        map_key_read = map_pair_key >> pass (bare_expression d) (pair d) map_key_thens us ws y.says (
          (λ t x. refl),
          (λ t x. refl),
          ((λ t x. refl), (λ t x. refl), ((λ t x. refl), (λ t x. refl), ((λ t x. refl), (λ t x. refl), tt))),
        ) y.passes

        pub map_pair_key_end : (f : PartFault) → RanOut ws f → Refuses (pair d) ts f
        map_pair_key_end f z = ran_out (pair d) _ ts ws f map_key_read tt refl z

        module _ (xs : List Token) (v : Token) (o : Sort) (third : Place) (c : Starts ws v o third xs) where
          -- the key's bracket
          module _ (j : o ≡ s.Noted) where
            abbrev noted_thens : List (Then annotation (pair d))
            noted_thens = record { parts = a s.Assoc ∷ the (expression d) ∷ []; build = λ k _ v. map_pair_of false (note_tree k y.says) v } ∷ record {
              parts = a s.Exact ∷ the (expression d) ∷ [];
              build = λ k _ v. map_pair_of true (note_tree k y.says) v;
            } ∷ []

            map_key_noted : Goes (pair d) (itself (pair d)) (opened annotation (pair d) noted_thens) ts ws
            map_key_noted = map_key_read >> pruned (pair d) _ ws xs v s.Noted c.are (sym c.sort_is ∙ j)

            pub map_pair_key_note_bad : (f : PartFault) → Refuses annotation ws f → Refuses (pair d) ts f
            map_pair_key_note_bad f z = refused_in annotation (pair d) noted_thens ts ws f map_key_noted tt ((λ t x. refl), (λ t x. refl), ((λ t x. refl), (λ t x. refl), tt)) z

            module _ (zs : List Token) (k : Note) (g : ReadsAnnotation ws k zs) where
              map_key_noted_read : Goes (pair d) (itself (pair d)) (record { parts = a s.Assoc ∷ the (expression d) ∷ []; build = λ _ v. map_pair_of false (note_tree g.says y.says) v }
                  ∷ record { parts = a s.Exact ∷ the (expression d) ∷ []; build = λ _ v. map_pair_of true (note_tree g.says y.says) v } ∷ []) ts zs
              map_key_noted_read = map_key_noted >> pass annotation (pair d) noted_thens ws zs g.says ((λ t x. refl), (λ t x. refl), ((λ t x. refl), (λ t x. refl), tt)) g.passes

              pub map_pair_noted_value_bad : (f : PartFault) → RefusesValue d zs f → Refuses (pair d) ts f
              map_pair_noted_value_bad f z = z (pair d) [] (λ exact v. map_pair_of exact (note_tree g.says y.says) v) (λ exact. ((λ t x. refl), (λ t x. refl), tt)) ts map_key_noted_read

              pub map_pair_noted_ok : (left : List Token) (key : m.Tree) (made : lists.PairParts) (l : ℕ) → key ≡ note_tree k x → ReadsValueOf d p key zs made left l → ReadsPair d n ts made left l
              map_pair_noted_ok left key made l e z = record {
                says = map_pair_of made.exact (note_tree g.says y.says) z.value.says;
                passes = map_key_noted_read >> z.value.goes (pair d) [] (λ exact v. map_pair_of exact (note_tree g.says y.says) v) ((λ t x. refl), (λ t x. refl), tt);
                agrees = map_pair_is n p l (note_tree g.says y.says) (note_tree k x) z.value.says made (noted_key n p g.says k y.says x g.agrees y.agrees) z.value.agrees (z.key_is ∙ e);
              }

          -- the pair's
          module _ (j : o ≡ s.Noted → ⊥) where
            map_key_bare : Goes (pair d) (itself (pair d)) (key_assoc ∷ key_exact ∷ []) ts ws
            map_key_bare = map_key_read >> four_turned _ _ _ _ _ ws
                >> expand (pair d) annotation (a s.Assoc ∷ the (expression d) ∷ []) (λ k _ v. map_pair_of false (note_tree k y.says) v) _ ws
                >> drop _ _ _ ws xs v c.are (fits_no_other s.Noted (sort v) (λ z. absurd cc) (λ z. j (c.sort_is ∙ z)))
                >> expand (pair d) annotation (a s.Exact ∷ the (expression d) ∷ []) (λ k _ v. map_pair_of true (note_tree k y.says) v) _ ws
                >> drop _ _ _ ws xs v c.are (fits_no_other s.Noted (sort v) (λ z. absurd cc) (λ z. j (c.sort_is ∙ z)))

            pub map_pair_value_bad : (f : PartFault) → RefusesValue d ws f → Refuses (pair d) ts f
            map_pair_value_bad f z = z (pair d) (the annotation ∷ []) (λ exact v _. map_pair_of exact y.says v) (λ exact. ((λ t x. refl), (λ t x. refl), tt)) ts map_key_bare

            module _ (zs : List Token) (made : lists.PairParts) (l : ℕ) (g : ReadsValueOf d p x ws made zs l) where
              map_pair_valued : Goes (pair d) (itself (pair d)) (record { parts = the annotation ∷ []; build = λ _. map_pair_of made.exact y.says g.value.says } ∷ []) ts zs
              map_pair_valued = map_key_bare >> g.value.goes (pair d) (the annotation ∷ []) (λ exact v _. map_pair_of exact y.says v) ((λ t x. refl), (λ t x. refl), tt)

              pub map_pair_note_bad : (f : PartFault) → Refuses annotation zs f → Refuses (pair d) ts f
              map_pair_note_bad f z = refused annotation _ [] (λ _. map_pair_of made.exact y.says g.value.says) ts zs f map_pair_valued ((λ t x. refl), (λ t x. refl), tt) z

              pub map_pair_ok : (left : List Token) (k : Note) → ReadsAnnotation zs k left → ReadsPair d n ts made left l
              map_pair_ok left k z = record {
                says = map_pair_of made.exact y.says g.value.says;
                passes = map_pair_valued >> through annotation _ [] (λ _. map_pair_of made.exact y.says g.value.says) zs left z.says z.passes ((λ t x. refl), (λ t x. refl), tt);
                agrees = map_pair_is n p l y.says x g.value.says made y.agrees g.value.agrees g.key_is;
              }
