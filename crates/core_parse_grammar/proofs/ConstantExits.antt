-- Constants, and lists of them with commas: each way out.
use Rattle.std.proofs.Common.{◌≡◌, ℕ, ◌+◌, ◌≤◌, List, [], ◌∷◌, ◌++◌, Bool, true, false, Option, None, Some, refl, sym, ap, ◌∙◌, subst, arith}
use Rattle.std.proofs.lemmas.Bool.{ltb-true, ltb-false}
use Rattle.type_kinds.specs.declared.place.Place.{Place}
use Rattle.core_scan.specs.declared.token.Token.{Token}
use Rattle.core_scan.specs.declared.sort.Sort.{Sort}
use Rattle.core_scan.specs.declared.sort.Sort.TheVariants as s
use Rattle.core_scan.specs.Sorts.{sort, fits}
use Rattle.core_scan.proofs.SortLaws.{fits_no_other}
use Rattle.core_ast.specs.declared.syntax.FunName.{FunName}
use Rattle.core_parse_grammar.specs.declared.fault.PartFault.{PartFault}
use Rattle.core_parse_grammar.specs.declared.notes.Constant.{Constant}
use Rattle.core_parse_grammar.specs.declared.notes.Constant.TheVariants.{Number, Another}
use Rattle.core_parse_grammar.specs.Begins.{depth_limit}
use Rattle.core_parse_grammar.specs.Build.{value, text, atom_constant, tuple_constant}
use Rattle.core_parse_grammar.specs.Grammar.{a, the, many, function_name, constant, other_constant, constant_list, constant_segment, constant_pair}
use Rattle.core_parse_grammar.specs.Track.{Goes, itself, Passes, Stops, Sinks, deeper_limit, next, Shallow}
use Rattle.core_parse_grammar.specs.Faults.{Refuses, Starts, Takes, Misses, RanOut, closing, too_deep, begins_constant, single_constant}
use Rattle.core_parse_grammar.specs.Readings.{ReadsConstant, ReadsOtherConstant, ReadsConstants, ReadsConstantSegments, ReadsConstantPairs, ReadsFunctionName}
use Rattle.core_parse_grammar.proofs.Moves.{◌>>◌, stay, expand, sink_at, Is_open, Deep}
use Rattle.core_parse_grammar.proofs.Places.{taken, halted, Shut, through, refused, lacking, ran_out, take_class, drop}
use Rattle.core_parse_grammar.proofs.Lists.{Closes, Before, list_nothing, list_none, list_before, item_bad, item_end, item_close, item_comma, item_other}

-- where a node isn't too deep its depth is within the limit
pub within_limit : (q : Sort) (d : ℕ) → too_deep q d ≡ false → d ≤ depth_limit
within_limit s.Text d e = let h : d + 1 ≤ depth_limit = ltb-false depth_limit (d + 1) e in omega arith
within_limit q d e = ltb-false depth_limit d e

module _ (d : ℕ) where
  pub constant_end : (ts : List Token) (f : PartFault) → RanOut ts f → Refuses (constant d) ts f
  constant_end ts f h = ran_out (constant d) (itself (constant d)) ts ts f (stay (constant d) (itself (constant d)) ts) tt refl h

  module _ (ts us : List Token) (t : Token) (q : Sort) (place : Place) (b : Starts ts t q place us) where
    -- no constant begins so
    pub constant_dull : (y : Bool) → y ≡ begins_constant q → y ≡ false → Stops (constant d) (itself (constant d)) ts place
    constant_dull y g p = subst (Stops (constant d) (itself (constant d)) ts) (sym b.place_is)
        (halted (constant d) _ _ ts ts us t (stay (constant d) (itself (constant d)) ts) b.are tt (go (sort t) (ap begins_constant (sym b.sort_is) ∙ sym g ∙ p)))
      where
        go : (q : Sort) → begins_constant q ≡ false → Shut (constant d) t q (itself (constant d))
        go s.Small p = absurd cc
        go s.Integer p = absurd cc
        go s.Float p = absurd cc
        go s.Char p = absurd cc
        go s.Atom p = absurd cc
        go s.EmptyText p = absurd cc
        go s.Text p = absurd cc
        go s.OpenSquare p = absurd cc
        go s.OpenCurly p = absurd cc
        go s.Fun p = absurd cc
        go s.OpenBinary p = absurd cc
        go s.OpenMap p = absurd cc
        go _ p = (refl, refl)

    -- a constant too deep
    pub constant_deep : (x : Bool) → x ≡ too_deep q d → x ≡ true → d ≤ 401 → (y : Bool) → y ≡ begins_constant q → y ≡ true → Sinks (constant d) (itself (constant d)) ts place
    constant_deep x e h r y g p = subst (Sinks (constant d) (itself (constant d)) ts) (sym b.place_is)
        (sink_at 12 (constant d) _ _ ts us t (subst (λ x. Goes (constant d) (itself (constant d)) (itself (constant d)) ts x) b.are (stay (constant d) (itself (constant d)) ts)) tt (deep (sort t) h_ p_) (shallow (sort t) p_)
        (on (sort t) p_))
      where
        h_ : too_deep (sort t) d ≡ true
        h_ = ap (λ z. too_deep z d) (sym b.sort_is) ∙ sym e ∙ h

        p_ : begins_constant (sort t) ≡ true
        p_ = ap begins_constant (sym b.sort_is) ∙ sym g ∙ p

        deep : (q : Sort) → too_deep q d ≡ true → begins_constant q ≡ true → Deep 12 (constant d) t q (itself (constant d)) depth_limit
        deep s.Small h p = ((ltb-true depth_limit d h, tt), tt)
        deep s.Integer h p = ((ltb-true depth_limit d h, tt), tt)
        deep s.Float h p = ((ltb-true depth_limit d h, tt), tt)
        deep s.Char h p = ((ltb-true depth_limit d h, tt), tt)
        deep s.Atom h p = ((ltb-true depth_limit d h, tt), tt)
        deep s.EmptyText h p = ((ltb-true depth_limit d h, tt), tt)
        deep s.Text h p = ((ltb-true depth_limit (d + 1) h, tt), tt)
        deep s.OpenSquare h p = ((ltb-true depth_limit d h, (ltb-true depth_limit d h, tt)), tt)
        deep s.OpenCurly h p = ((ltb-true depth_limit d h, tt), tt)
        deep s.Fun h p = ((ltb-true depth_limit d h, tt), tt)
        deep s.OpenBinary h p = ((ltb-true depth_limit d h, tt), tt)
        deep s.OpenMap h p = ((ltb-true depth_limit d h, tt), tt)
        deep _ h p = absurd cc

        one_below : d ≤ deeper_limit
        one_below = omega (arith, r)

        two_below : d + 1 ≤ deeper_limit
        two_below = omega (arith, r)

        shallow : (q : Sort) → begins_constant q ≡ true → Shallow 12 (constant d) t q (itself (constant d)) deeper_limit
        shallow s.Small p = ((one_below, tt), tt)
        shallow s.Integer p = ((one_below, tt), tt)
        shallow s.Float p = ((one_below, tt), tt)
        shallow s.Char p = ((one_below, tt), tt)
        shallow s.Atom p = ((one_below, tt), tt)
        shallow s.EmptyText p = ((one_below, tt), tt)
        shallow s.Text p = ((two_below, tt), tt)
        shallow s.OpenSquare p = ((one_below, (one_below, tt)), tt)
        shallow s.OpenCurly p = ((one_below, tt), tt)
        shallow s.Fun p = ((one_below, tt), tt)
        shallow s.OpenBinary p = ((one_below, tt), tt)
        shallow s.OpenMap p = ((one_below, tt), tt)
        shallow _ p = absurd cc

        on : (q : Sort) → begins_constant q ≡ true → Is_open (constant d) (next 12 (constant d) t q (itself (constant d)))
        on s.Small p = tt
        on s.Integer p = tt
        on s.Float p = tt
        on s.Char p = tt
        on s.Atom p = tt
        on s.EmptyText p = tt
        on s.Text p = tt
        on s.OpenSquare p = tt
        on s.OpenCurly p = tt
        on s.Fun p = tt
        on s.OpenBinary p = tt
        on s.OpenMap p = tt
        on _ p = absurd cc

    pub constant_text : (x : Bool) → x ≡ too_deep q d → x ≡ false → q ≡ s.Text → ReadsConstant d ts Another us
    constant_text x e h g = record { says = Another; passes = taken (constant d) (itself (constant d)) ts us t s.Text b.are (sym b.sort_is ∙ g) refl ((w, tt), tt); agrees = refl }
      where
        w : d + 1 ≤ depth_limit
        w = ltb-false depth_limit (d + 1) (ap (λ z. too_deep z d) (sym g) ∙ sym e ∙ h)

    -- neither a string nor a list
    module _ (g : q ≡ s.Text → ⊥) (h : q ≡ s.OpenSquare → ⊥) where
      constant_0 : Goes (constant d) (itself (constant d)) (record { parts = the (other_constant d) ∷ []; build = λ x. x } ∷ []) ts ts
      constant_0 = expand (constant d) (constant d) [] (λ x. x) [] ts
          >> expand (constant d) (constant_list d) [] (λ _. Another) _ ts
          >> drop _ _ _ ts us t b.are (fits_no_other s.Text (sort t) (λ z. absurd cc) (λ z. g (b.sort_is ∙ z)))
          >> drop _ _ _ ts us t b.are (fits_no_other s.OpenSquare (sort t) (λ z. absurd cc) (λ z. h (b.sort_is ∙ z)))

      pub constant_other : (vs : List Token) (x : Constant) → ReadsOtherConstant d ts x vs → ReadsConstant d ts x vs
      constant_other vs x z = record { says = z.says; passes = constant_0 >> through _ _ [] (λ x. x) ts vs z.says z.passes ((λ t x. refl), (λ t x. refl), tt); agrees = z.agrees }

      pub constant_bad : (f : PartFault) → Refuses (other_constant d) ts f → Refuses (constant d) ts f
      constant_bad f z = refused _ _ [] (λ x. x) ts ts f constant_0 ((λ t x. refl), (λ t x. refl), tt) z

-- neither a list with elements nor a string
module _ (d : ℕ) (ts us : List Token) (t : Token) (q : Sort) (place : Place) (b : Starts ts t q place us) (w : d ≤ depth_limit) where
  pub other_single : (x : Constant) (o : Option Constant) → o ≡ single_constant q t → o ≡ Some x → ReadsOtherConstant d ts x us
  other_single x o e h = go (sort t) refl (ap (λ z. single_constant z t) (sym b.sort_is) ∙ sym e ∙ h)
    where
      read : (y : Constant) → Passes (other_constant d) ts y us → Some y ≡ Some x → ReadsOtherConstant d ts x us
      read y p g = record { says = y; passes = p; agrees = cc }

      go : (q : Sort) → sort t ≡ q → single_constant q t ≡ Some x → ReadsOtherConstant d ts x us
      go s.Small h g = read (Number (value t)) (taken (other_constant d) (itself (other_constant d)) ts us t s.Small b.are h refl ((w, tt), tt)) g
      go s.Integer h g = read (Number (value t)) (taken (other_constant d) (itself (other_constant d)) ts us t s.Integer b.are h refl ((w, tt), tt)) g
      go s.Char h g = read (Number (value t)) (taken (other_constant d) (itself (other_constant d)) ts us t s.Char b.are h refl ((w, tt), tt)) g
      go s.Atom h g = read (atom_constant (text t)) (taken (other_constant d) (itself (other_constant d)) ts us t s.Atom b.are h refl ((w, tt), tt)) g
      go s.Float h g = read Another (taken (other_constant d) (itself (other_constant d)) ts us t s.Float b.are h refl ((w, tt), tt)) g
      go s.EmptyText h g = read Another (taken (other_constant d) (itself (other_constant d)) ts us t s.EmptyText b.are h refl ((w, tt), tt)) g
      go _ h g = absurd cc

  module _ (h : q ≡ s.OpenCurly) where
    curly_0 : Goes (other_constant d) (itself (other_constant d)) (record { parts = the (many s.CloseCurly (the (constant (d + 1)))) ∷ []; build = λ cs. tuple_constant cs } ∷ []) ts us
    curly_0 = taken (other_constant d) (itself (other_constant d)) ts us t s.OpenCurly b.are (sym b.sort_is ∙ h) refl ((w, tt), tt)

    pub curly_bad : (f : PartFault) → Refuses (many s.CloseCurly (the (constant (d + 1)))) us f → Refuses (other_constant d) ts f
    curly_bad f z = refused _ _ [] (λ cs. tuple_constant cs) ts us f curly_0 ((λ t x. refl), (λ t x. refl), tt) z

    pub curly_ok : (vs : List Token) (xs ys : List Constant) (v : Constant) → ReadsConstants s.CloseCurly (d + 1) us xs vs → v ≡ tuple_constant ys → ys ≡ xs → ReadsOtherConstant d ts v vs
    curly_ok vs xs ys v z e g = record {
      says = tuple_constant z.says;
      passes = curly_0 >> through _ _ [] (λ cs. tuple_constant cs) us vs z.says z.passes ((λ t x. refl), (λ t x. refl), tt);
      agrees = ap tuple_constant (z.agrees ∙ sym g) ∙ sym e;
    }

  module _ (h : q ≡ s.OpenBinary) where
    binary_0 : Goes (other_constant d) (itself (other_constant d)) (record { parts = the (many s.CloseBinary (the (constant_segment (d + 1)))) ∷ []; build = λ _. Another } ∷ []) ts us
    binary_0 = taken (other_constant d) (itself (other_constant d)) ts us t s.OpenBinary b.are (sym b.sort_is ∙ h) refl ((w, tt), tt)

    pub binary_bad : (f : PartFault) → Refuses (many s.CloseBinary (the (constant_segment (d + 1)))) us f → Refuses (other_constant d) ts f
    binary_bad f z = refused _ _ [] (λ _. Another) ts us f binary_0 ((λ t x. refl), (λ t x. refl), tt) z

    pub binary_ok : (vs : List Token) (v : Constant) → ReadsConstantSegments (d + 1) us vs → v ≡ Another → (ws : List Token) → ws ≡ vs → ReadsOtherConstant d ts v ws
    binary_ok vs v z e ws g = subst (λ y. ReadsOtherConstant d ts v y) (sym g) (record { says = Another; passes = binary_0 >> through _ _ [] (λ _. Another) us vs z.says z.passes ((λ t x. refl), (λ t x. refl), tt); agrees = sym e })

  module _ (h : q ≡ s.OpenMap) where
    map_0 : Goes (other_constant d) (itself (other_constant d)) (record { parts = the (many s.CloseMap (the (constant_pair (d + 1)))) ∷ []; build = λ _. Another } ∷ []) ts us
    map_0 = taken (other_constant d) (itself (other_constant d)) ts us t s.OpenMap b.are (sym b.sort_is ∙ h) refl ((w, tt), tt)

    pub map_bad : (f : PartFault) → Refuses (many s.CloseMap (the (constant_pair (d + 1)))) us f → Refuses (other_constant d) ts f
    map_bad f z = refused _ _ [] (λ _. Another) ts us f map_0 ((λ t x. refl), (λ t x. refl), tt) z

    pub map_ok : (vs : List Token) (v : Constant) → ReadsConstantPairs (d + 1) us vs → v ≡ Another → (ws : List Token) → ws ≡ vs → ReadsOtherConstant d ts v ws
    map_ok vs v z e ws g = subst (λ y. ReadsOtherConstant d ts v y) (sym g) (record { says = Another; passes = map_0 >> through _ _ [] (λ _. Another) us vs z.says z.passes ((λ t x. refl), (λ t x. refl), tt); agrees = sym e })

  module _ (h : q ≡ s.Fun) where
    fun_0 : Goes (other_constant d) (itself (other_constant d)) (record { parts = a s.Atom ∷ a s.Colon ∷ the function_name ∷ []; build = λ _ _ _. Another } ∷ []) ts us
    fun_0 = taken (other_constant d) (itself (other_constant d)) ts us t s.Fun b.are (sym b.sort_is ∙ h) refl ((w, tt), tt)

    pub fun_atom_bad : (f : PartFault) → Misses s.Atom us f → Refuses (other_constant d) ts f
    fun_atom_bad f z = lacking _ s.Atom (a s.Colon ∷ the function_name ∷ []) (λ _ _ _. Another) ts us f fun_0 z

    module _ (us1 : List Token) (y : Takes s.Atom us us1) where
      fun_1 : Goes (other_constant d) (itself (other_constant d)) (record { parts = a s.Colon ∷ the function_name ∷ []; build = λ _ _. Another } ∷ []) ts us1
      fun_1 = fun_0 >> take_class _ s.Atom (a s.Colon ∷ the function_name ∷ []) (λ _ _ _. Another) us us1 y

      pub fun_colon_bad : (f : PartFault) → Misses s.Colon us1 f → Refuses (other_constant d) ts f
      fun_colon_bad f z = lacking _ s.Colon (the function_name ∷ []) (λ _ _. Another) ts us1 f fun_1 z

      module _ (us2 : List Token) (x : Takes s.Colon us1 us2) where
        fun_2 : Goes (other_constant d) (itself (other_constant d)) (record { parts = the function_name ∷ []; build = λ _. Another } ∷ []) ts us2
        fun_2 = fun_1 >> take_class _ s.Colon (the function_name ∷ []) (λ _ _. Another) us1 us2 x

        pub fun_name_bad : (f : PartFault) → Refuses function_name us2 f → Refuses (other_constant d) ts f
        fun_name_bad f z = refused _ _ [] (λ _. Another) ts us2 f fun_2 ((λ t x. refl), (λ t x. refl), tt) z

        pub fun_ok : (vs : List Token) (p : Place) (n : FunName) (v : Constant) → ReadsFunctionName us2 p n vs → v ≡ Another → (ws : List Token) → ws ≡ vs → ReadsOtherConstant d ts v ws
        fun_ok vs p n v z e ws g = record {
          says = Another;
          passes = fun_2 >> through _ _ [] (λ _. Another) us2 ws z.says (subst (λ k. Passes function_name us2 z.says k) (sym g) z.passes) ((λ t x. refl), (λ t x. refl), tt);
          agrees = sym e;
        }

  pub other_stuck : (o : Option Constant) → o ≡ single_constant q t → o ≡ None → (q ≡ s.OpenSquare → ⊥) → (q ≡ s.OpenCurly → ⊥) → (q ≡ s.Fun → ⊥) → (q ≡ s.OpenBinary → ⊥) → (q ≡ s.OpenMap → ⊥)
      → Stops (other_constant d) (itself (other_constant d)) ts place
  other_stuck o e h a1 a2 a3 a4 a5 = subst (Stops (other_constant d) (itself (other_constant d)) ts) (sym b.place_is)
      (halted (other_constant d) _ _ ts ts us t (stay (other_constant d) (itself (other_constant d)) ts) b.are tt
      (go (sort t) (ap (λ z. single_constant z t) (sym b.sort_is) ∙ sym e ∙ h) (λ z. a1 (b.sort_is ∙ z)) (λ z. a2 (b.sort_is ∙ z)) (λ z. a3 (b.sort_is ∙ z)) (λ z. a4 (b.sort_is ∙ z)) (λ z. a5 (b.sort_is ∙ z))))
    where
      go : (q : Sort) → single_constant q t ≡ None → (q ≡ s.OpenSquare → ⊥) → (q ≡ s.OpenCurly → ⊥) → (q ≡ s.Fun → ⊥) → (q ≡ s.OpenBinary → ⊥) → (q ≡ s.OpenMap → ⊥)
          → Shut (other_constant d) t q (itself (other_constant d))
      go s.Small e a1 a2 a3 a4 a5 = absurd cc
      go s.Integer e a1 a2 a3 a4 a5 = absurd cc
      go s.Char e a1 a2 a3 a4 a5 = absurd cc
      go s.Atom e a1 a2 a3 a4 a5 = absurd cc
      go s.Float e a1 a2 a3 a4 a5 = absurd cc
      go s.EmptyText e a1 a2 a3 a4 a5 = absurd cc
      go s.OpenSquare e a1 a2 a3 a4 a5 = absurd (a1 refl)
      go s.OpenCurly e a1 a2 a3 a4 a5 = absurd (a2 refl)
      go s.Fun e a1 a2 a3 a4 a5 = absurd (a3 refl)
      go s.OpenBinary e a1 a2 a3 a4 a5 = absurd (a4 refl)
      go s.OpenMap e a1 a2 a3 a4 a5 = absurd (a5 refl)
      go _ e a1 a2 a3 a4 a5 = (refl, refl)

-- lists of constants
pub constants_closed : (d : ℕ) (c : Sort) → closing c ≡ true → Closes c (constant d)
constants_closed d s.CloseRound k = record {
  empty = λ ts left t e h. taken _ (itself _) ts left t s.CloseRound e h refl (tt, tt);
  guarded = λ b. ((λ t x. refl), (λ t x. refl), tt);
  exact = λ z. absurd cc;
  own = refl;
  no_comma = λ z. absurd cc;
}
constants_closed d s.CloseCurly k = record {
  empty = λ ts left t e h. taken _ (itself _) ts left t s.CloseCurly e h refl (tt, tt);
  guarded = λ b. ((λ t x. refl), (λ t x. refl), tt);
  exact = λ z. absurd cc;
  own = refl;
  no_comma = λ z. absurd cc;
}
constants_closed d s.CloseSquare k = record {
  empty = λ ts left t e h. taken _ (itself _) ts left t s.CloseSquare e h refl (tt, tt);
  guarded = λ b. ((λ t x. refl), (λ t x. refl), tt);
  exact = λ z. absurd cc;
  own = refl;
  no_comma = λ z. absurd cc;
}
constants_closed d s.Greater k = record {
  empty = λ ts left t e h. taken _ (itself _) ts left t s.Greater e h refl (tt, tt);
  guarded = λ b. ((λ t x. refl), (λ t x. refl), tt);
  exact = λ z. absurd cc;
  own = refl;
  no_comma = λ z. absurd cc;
}
constants_closed d s.CloseBinary k = record {
  empty = λ ts left t e h. taken _ (itself _) ts left t s.CloseBinary e h refl (tt, tt);
  guarded = λ b. ((λ t x. refl), (λ t x. refl), tt);
  exact = λ z. absurd cc;
  own = refl;
  no_comma = λ z. absurd cc;
}
constants_closed d s.CloseMap k = record {
  empty = λ ts left t e h. taken _ (itself _) ts left t s.CloseMap e h refl (tt, tt);
  guarded = λ b. ((λ t x. refl), (λ t x. refl), tt);
  exact = λ z. absurd cc;
  own = refl;
  no_comma = λ z. absurd cc;
}
constants_closed d _ k = absurd cc

module _ (c : Sort) (d : ℕ) (k : closing c ≡ true) where
  pub constants_end : (ts : List Token) (f : PartFault) → RanOut ts f → Refuses (many c (the (constant d))) ts f
  constants_end ts f h = list_nothing c (constant d) (constants_closed d c k) ts f h

  module _ (ts us : List Token) (t : Token) (q : Sort) (place : Place) (b : Starts ts t q place us) (x : Bool) (e : x ≡ fits c q) where
    pub constants_none : x ≡ true → (items : List Constant) → items ≡ [] → ReadsConstants c d ts items us
    constants_none h items i = record { says = []; passes = list_none c (constant d) (constants_closed d c k) ts us t b.are (ap (fits c) (sym b.sort_is) ∙ sym e ∙ h); agrees = sym i }

    pub constants_some : x ≡ false → (items : List Constant) → items ≡ [] → Before c (constant d) ts ts items
    constants_some h items i = subst (λ z. Before c (constant d) ts ts z) (sym i) (list_before c (constant d) (constants_closed d c k) ts us t b.are (ap (fits c) (sym b.sort_is) ∙ sym e ∙ h))

  module _ (ts from : List Token) (items : List Constant) (u : Before c (constant d) ts from items) where
    pub constants_bad : (f : PartFault) → Refuses (constant d) from f → Refuses (many c (the (constant d))) ts f
    constants_bad f z = item_bad c (constant d) (constants_closed d c k) ts from items u f z

    module _ (us : List Token) (x : Constant) (r : ReadsConstant d from x us) where
      pub constants_ended : (f : PartFault) → RanOut us f → Refuses (many c (the (constant d))) ts f
      constants_ended f z = item_end c (constant d) (constants_closed d c k) ts from items u us r.says r.passes f z

      module _ (more : List Constant) (i : more ≡ items ++ x ∷ []) where
        more_is : items ++ r.says ∷ [] ≡ more
        more_is = ap (λ z. items ++ z ∷ []) r.agrees ∙ sym i

        module _ (vs : List Token) (t : Token) (q : Sort) (place : Place) (b : Starts us t q place vs) (x_ : Bool) (e : x_ ≡ fits c q) where
          pub constants_close : x_ ≡ true → ReadsConstants c d ts more vs
          constants_close h = record {
            says = items ++ r.says ∷ [];
            passes = item_close c (constant d) (constants_closed d c k) ts from items u us r.says r.passes vs t b.are (ap (fits c) (sym b.sort_is) ∙ sym e ∙ h);
            agrees = more_is;
          }

          module _ (h : x_ ≡ false) (y : Bool) (g : y ≡ fits s.Comma q) where
            pub constants_other : y ≡ false → Stops (many c (the (constant d))) (itself (many c (the (constant d)))) ts place
            constants_other l = subst (Stops (many c (the (constant d))) (itself (many c (the (constant d)))) ts) (sym b.place_is)
                (item_other c (constant d) (constants_closed d c k) ts from items u us r.says r.passes vs t b.are (ap (fits c) (sym b.sort_is) ∙ sym e ∙ h) (ap (fits s.Comma) (sym b.sort_is) ∙ sym g ∙ l))

            pub constants_comma : y ≡ true → Before c (constant d) ts vs more
            constants_comma l = subst (λ z. Before c (constant d) ts vs z) more_is (item_comma c (constant d) (constants_closed d c k) ts from items u us r.says r.passes vs t b.are (ap (fits s.Comma) (sym b.sort_is) ∙ sym g ∙ l))
