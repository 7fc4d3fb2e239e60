-- Lists of constants with their tails: each way out.
use Rattle.std.proofs.Common.{◌≡◌, ℕ, zero, suc, ◌+◌, ◌≤◌, ◌<◌, List, [], ◌∷◌, Bool, true, false, refl, sym, ap, ◌∙◌, subst, arith, add-one}
use Rattle.type_kinds.specs.declared.place.Place.{Place}
use Rattle.core_scan.specs.declared.token.Token.{Token}
use Rattle.core_scan.specs.declared.sort.Sort.{Sort}
use Rattle.core_scan.specs.declared.sort.Sort.TheVariants as s
use Rattle.core_scan.specs.Sorts.{sort, fits}
use Rattle.core_scan.proofs.SortLaws.{fits_no_other}
use Rattle.core_parse_grammar.specs.declared.fault.PartFault.{PartFault}
use Rattle.core_parse_grammar.specs.declared.notes.Constant.{Constant}
use Rattle.core_parse_grammar.specs.declared.notes.Constant.TheVariants.{Another}
use Rattle.core_parse_grammar.specs.Begins.{depth_limit}
use Rattle.core_parse_grammar.specs.Grammar.{a, the, Action, constant, other_constant, constant_list, constant_rest, constant_tail}
use Rattle.core_parse_grammar.specs.Track.{Goes, itself, Passes, Stops}
use Rattle.core_parse_grammar.specs.Faults.{Refuses, Starts, Takes, Misses, RanOut, closers}
use Rattle.core_parse_grammar.specs.Readings.{ReadsConstant, ReadsOtherConstant, ReadsConstantElements, EndsConstant, ReadsWholeTail, OpensTail, ReadsConstantTail}
use Rattle.core_parse_grammar.specs.declared.constants.Tail.{Tail}
use Rattle.core_parse_grammar.specs.declared.constants.Tail.TheVariants.{Whole, Elements}
use Rattle.core_parse_grammar.proofs.Moves.{◌>>◌, stay, expand, enter}
use Rattle.core_parse_grammar.proofs.Places.{taken, halted, Shut, through, refused, lacking, ran_out, take_class, drop, drop_second}
use Rattle.core_parse_grammar.proofs.Lists.{fits_only}

-- In front of an element, with the lists that went into the list, of which k have to be closed.
pub record ElementsBefore (d : ℕ) (ts left : List Token) (k : ℕ) : Type 0 where
  pub build : Constant → Unit {0} → Action (closers k) Constant
  pub goes : Goes (constant d) (itself (constant d)) (record { parts = the (constant (d + 1)) ∷ the (constant_rest d) ∷ closers k; build = build } ∷ []) ts left
  pub ends : (x : Constant) (r : Unit {0}) → EndsConstant k (build x r) Another

module _ (d : ℕ) (ts us : List Token) (t : Token) (q : Sort) (place : Place) (b : Starts ts t q place us) (h : q ≡ s.OpenSquare) (w : d ≤ depth_limit) where
  square : Goes (constant d) (itself (constant d)) (record { parts = the (constant (d + 1)) ∷ the (constant_rest d) ∷ []; build = λ _ _. Another } ∷ record { parts = a s.CloseSquare ∷ []; build = λ _. Another } ∷ []) ts us
  square = taken (constant d) (itself (constant d)) ts us t s.OpenSquare b.are (sym b.sort_is ∙ h) refl ((w, (w, tt)), tt)

  pub square_end : (f : PartFault) → RanOut us f → Refuses (constant d) ts f
  square_end f z = ran_out (constant d) _ ts us f square tt refl z

  module _ (vs : List Token) (u : Token) (r : Sort) (there : Place) (c : Starts us u r there vs) where
    pub square_nil : (x : Bool) → x ≡ fits s.CloseSquare r → x ≡ true → (v : Constant) → v ≡ Another → (ws : List Token) → ws ≡ vs → ReadsConstant d ts v ws
    square_nil x e g v i ws j = record {
      says = Another;
      passes = subst (λ z. Passes (constant d) ts Another z) (sym j) (square >> taken (constant d) _ us vs u s.CloseSquare c.are (sym c.sort_is ∙ fits_only s.CloseSquare r (λ z. absurd cc) (sym e ∙ g)) refl (tt, (tt, tt)));
      agrees = sym i;
    }

    pub square_some : fits s.CloseSquare r ≡ false → ElementsBefore d ts us 0
    square_some g = record {
      build = λ _ _. Another;
      goes = square >> drop_second _ _ _ _ us vs u c.are (ap (fits s.CloseSquare) (sym c.sort_is) ∙ g);
      ends = λ x r. refl;
    }

module _ (d : ℕ) (ts from : List Token) (k : ℕ) (e : ElementsBefore d ts from k) where
  pub element_bad : (f : PartFault) → Refuses (constant (d + 1)) from f → Refuses (constant d) ts f
  element_bad f z = refused _ _ (the (constant_rest d) ∷ closers k) e.build ts from f e.goes ((λ t x. refl), (λ t x. refl), tt) z

  module _ (us : List Token) (x : Constant) (r : ReadsConstant (d + 1) from x us) where
    element : Goes (constant d) (itself (constant d)) (record { parts = the (constant_rest d) ∷ closers k; build = e.build r.says } ∷ []) ts us
    element = e.goes >> through _ _ (the (constant_rest d) ∷ closers k) e.build from us r.says r.passes ((λ t x. refl), (λ t x. refl), tt)

    pub element_end : (f : PartFault) → RanOut us f → Refuses (constant d) ts f
    element_end f z = ran_out (constant d) _ ts us f element tt refl z

    module _ (vs : List Token) (t : Token) (q : Sort) (place : Place) (b : Starts us t q place vs) where
      pub element_shut : (x : Bool) → x ≡ fits s.CloseSquare q → x ≡ true → ReadsConstantElements d ts k vs
      element_shut x i h = record {
        build = e.build r.says tt;
        goes = element >> taken (constant d) _ us vs t s.CloseSquare b.are (sym b.sort_is ∙ fits_only s.CloseSquare q (λ z. absurd cc) (sym i ∙ h)) refl (tt, tt);
        ends = e.ends r.says tt;
      }

      pub element_comma : (x : Bool) → x ≡ fits s.Comma q → x ≡ true → ElementsBefore d ts vs k
      element_comma x i h = record {
        build = λ _ _. e.build r.says tt;
        goes = element >> taken (constant d) _ us vs t s.Comma b.are (sym b.sort_is ∙ fits_only s.Comma q (λ z. absurd cc) (sym i ∙ h)) refl (tt, tt);
        ends = λ x y. e.ends r.says tt;
      }

      module _ (o : Bool) (i : o ≡ fits s.Bar q) (h : o ≡ true) where
        bar : Goes (constant d) (itself (constant d)) (record { parts = the (constant_tail d) ∷ a s.CloseSquare ∷ closers k; build = λ _ _. e.build r.says tt } ∷ []) ts vs
        bar = element >> taken (constant d) _ us vs t s.Bar b.are (sym b.sort_is ∙ fits_only s.Bar q (λ z. absurd cc) (sym i ∙ h)) refl (tt, tt)

        pub bar_bad : (f : PartFault) → Refuses (constant_tail d) vs f → Refuses (constant d) ts f
        bar_bad f z = refused _ _ (a s.CloseSquare ∷ closers k) (λ _ _. e.build r.says tt) ts vs f bar ((λ t x. refl), (λ t x. refl), tt) z

        pub bar_whole : (ws : List Token) (n : Tail) → ReadsConstantTail d vs n ws → n ≡ Whole → (j : ℕ) → j ≡ k + 1 → ReadsConstantElements d ts j ws
        bar_whole ws n y m j g = let z : ReadsWholeTail d vs ws = subst (λ x. ReadsConstantTail d vs x ws) m y in subst (λ i. ReadsConstantElements d ts i ws) (sym (g ∙ add-one k)) (record {
          build = λ _. e.build r.says tt;
          goes = bar >> through _ _ (a s.CloseSquare ∷ closers k) (λ _ _. e.build r.says tt) vs ws tt z.passes ((λ t x. refl), (λ t x. refl), tt);
          ends = λ _. e.ends r.says tt;
        })

        pub bar_elements : (ws : List Token) (n : Tail) → ReadsConstantTail d vs n ws → n ≡ Elements → (j : ℕ) → j ≡ k + 1 → ElementsBefore d ts ws j
        bar_elements ws n y m j g = let z : OpensTail d vs ws = subst (λ x. ReadsConstantTail d vs x ws) m y in subst (λ i. ElementsBefore d ts ws i) (sym (g ∙ add-one k)) (record {
          build = λ _ _ _. e.build r.says tt;
          goes = bar >> enter (constant_tail d) (constant d) (the (constant (d + 1)) ∷ the (constant_rest d) ∷ []) (a s.CloseSquare ∷ closers k) (λ _ _. tt) (λ _ _. e.build r.says tt) vs ws (
            (λ t x. refl),
            (λ t x. refl),
            tt,
          ) z.goes;
          ends = λ _ _ _. e.ends r.says tt;
        })

      pub element_stuck : (x y z : Bool) → x ≡ fits s.CloseSquare q → x ≡ false → y ≡ fits s.Comma q → y ≡ false → z ≡ fits s.Bar q → z ≡ false → Stops (constant d) (itself (constant d)) ts place
      element_stuck x y z i1 i2 j1 j2 k1 k2 = subst (Stops (constant d) (itself (constant d)) ts) (sym b.place_is)
          (halted (constant d) _ _ ts us vs t element b.are tt (go (sort t) (on s.CloseSquare x i1 i2) (on s.Comma y j1 j2) (on s.Bar z k1 k2)))
        where
          on : (c : Sort) (x : Bool) → x ≡ fits c q → x ≡ false → fits c (sort t) ≡ false
          on c x i j = ap (fits c) (sym b.sort_is) ∙ sym i ∙ j

          go : (q : Sort) → fits s.CloseSquare q ≡ false → fits s.Comma q ≡ false → fits s.Bar q ≡ false → Shut (constant d) t q (record { parts = the (constant_rest d) ∷ closers k; build = e.build r.says } ∷ [])
          go s.CloseSquare x y z = absurd cc
          go s.Comma x y z = absurd cc
          go s.Bar x y z = absurd cc
          go _ x y z = (refl, refl)

-- the closing brackets
module _ (d : ℕ) (ts us : List Token) where
  pub unclosed : (k : ℕ) → 0 < k → ReadsConstantElements d ts k us → (f : PartFault) → Misses s.CloseSquare us f → Refuses (constant d) ts f
  unclosed zero h e f z = absurd (omega arith)
  unclosed (suc k) h e f z = lacking _ s.CloseSquare (closers k) e.build ts us f e.goes z

  pub closes_one : (k j : ℕ) → j + 1 ≡ k → ReadsConstantElements d ts k us → (vs : List Token) → Takes s.CloseSquare us vs → ReadsConstantElements d ts j vs
  closes_one zero j h e vs z = absurd (omega arith)
  closes_one (suc k) j h e vs z = subst (λ i. ReadsConstantElements d ts i vs) (omega arith) (record {
    build = e.build z.first;
    goes = e.goes >> take_class _ s.CloseSquare (closers k) e.build us vs z;
    ends = e.ends z.first;
  })

  pub all_closed : (k : ℕ) → k ≡ 0 → ReadsConstantElements d ts k us → (v : Constant) → v ≡ Another → (vs : List Token) → vs ≡ us → ReadsConstant d ts v vs
  all_closed (suc k) h e v i vs j = absurd (omega arith)
  all_closed zero h e v i vs j = record {
    says = Another;
    passes = subst (λ z. Passes (constant d) ts Another z) (sym j) (subst (λ z. Passes (constant d) ts z us) e.ends e.goes);
    agrees = sym i;
  }

pub as_whole : (d : ℕ) (ts vs : List Token) (n : Tail) → n ≡ Whole → ReadsWholeTail d ts vs → ReadsConstantTail d ts n vs
as_whole d ts vs n h z = subst (λ x. ReadsConstantTail d ts x vs) (sym h) z

-- behind the bar
module _ (d : ℕ) (w : d + 1 ≤ depth_limit) where
  pub tail_end : (ts : List Token) (f : PartFault) → RanOut ts f → Refuses (constant_tail d) ts f
  tail_end ts f h = ran_out (constant_tail d) (itself (constant_tail d)) ts ts f (stay (constant_tail d) (itself (constant_tail d)) ts) tt refl h

  module _ (ts us : List Token) (t : Token) (q : Sort) (place : Place) (b : Starts ts t q place us) where
    pub tail_text : q ≡ s.Text → (vs : List Token) → vs ≡ us → ReadsWholeTail d ts vs
    tail_text h vs j = record { passes = subst (λ z. Passes (constant_tail d) ts tt z) (sym j) (taken (constant_tail d) (itself (constant_tail d)) ts us t s.Text b.are (sym b.sort_is ∙ h) refl ((w, tt), tt)) }

    module _ (h : q ≡ s.OpenSquare) where
      tail_square : Goes (constant_tail d) (itself (constant_tail d)) (record { parts = the (constant (d + 1)) ∷ the (constant_rest d) ∷ []; build = λ _ _. tt } ∷ record { parts = a s.CloseSquare ∷ []; build = λ _. tt } ∷ []) ts
          us
      tail_square = taken (constant_tail d) (itself (constant_tail d)) ts us t s.OpenSquare b.are (sym b.sort_is ∙ h) refl ((omega (arith, w), (w, tt)), tt)

      pub tail_square_end : (f : PartFault) → RanOut us f → Refuses (constant_tail d) ts f
      tail_square_end f z = ran_out (constant_tail d) _ ts us f tail_square tt refl z

      module _ (vs : List Token) (u : Token) (r : Sort) (there : Place) (c : Starts us u r there vs) (x : Bool) (e : x ≡ fits s.CloseSquare r) where
        pub tail_nil : x ≡ true → (ws : List Token) → ws ≡ vs → ReadsWholeTail d ts ws
        tail_nil g ws j = record {
          passes = subst (λ z. Passes (constant_tail d) ts tt z) (sym j)
              (tail_square >> taken (constant_tail d) _ us vs u s.CloseSquare c.are (sym c.sort_is ∙ fits_only s.CloseSquare r (λ z. absurd cc) (sym e ∙ g)) refl (tt, (tt, tt)));
        }

        pub tail_opens : x ≡ false → OpensTail d ts us
        tail_opens g = record { goes = tail_square >> drop_second _ _ _ _ us vs u c.are (ap (fits s.CloseSquare) (sym c.sort_is) ∙ sym e ∙ g) }

    module _ (g : q ≡ s.Text → ⊥) (h : q ≡ s.OpenSquare → ⊥) where
      tail_0 : Goes (constant_tail d) (itself (constant_tail d)) (record { parts = the (other_constant (d + 1)) ∷ []; build = λ _. tt } ∷ []) ts ts
      tail_0 = expand (constant_tail d) (constant_tail d) [] (λ x. x) [] ts
          >> expand (constant_tail d) (constant_list d) [] (λ _. tt) _ ts
          >> drop _ _ _ ts us t b.are (fits_no_other s.Text (sort t) (λ z. absurd cc) (λ z. g (b.sort_is ∙ z)))
          >> drop _ _ _ ts us t b.are (fits_no_other s.OpenSquare (sort t) (λ z. absurd cc) (λ z. h (b.sort_is ∙ z)))

      pub tail_other : (vs : List Token) (x : Constant) → ReadsOtherConstant (d + 1) ts x vs → (ws : List Token) → ws ≡ vs → ReadsWholeTail d ts ws
      tail_other vs x z ws j = record { passes = subst (λ y. Passes (constant_tail d) ts tt y) (sym j) (tail_0 >> through _ _ [] (λ _. tt) ts vs z.says z.passes ((λ t x. refl), (λ t x. refl), tt)) }

      pub tail_bad : (f : PartFault) → Refuses (other_constant (d + 1)) ts f → Refuses (constant_tail d) ts f
      tail_bad f z = refused _ _ [] (λ _. tt) ts ts f tail_0 ((λ t x. refl), (λ t x. refl), tt) z
