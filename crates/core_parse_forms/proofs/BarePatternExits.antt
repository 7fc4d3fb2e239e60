-- Patterns without annotation brackets, and those that may have them: each way out.
use Rattle.std.proofs.Common.{◌≡◌, ℕ, ◌+◌, ◌≤◌, ◌<◌, List, [], ◌∷◌, Bool, true, false, refl, sym, ap, ◌∙◌, subst, arith}
use Rattle.std.proofs.lemmas.Bool.{ltb-true, ltb-false}
use Rattle.type_kinds.specs.declared.place.Place.{Place}
use Rattle.core_scan.specs.declared.token.Token.{Token}
use Rattle.core_scan.specs.declared.sort.Sort.{Sort}
use Rattle.core_scan.specs.declared.sort.Sort.TheVariants as s
use Rattle.core_scan.specs.Sorts.{sort, fits}
use Rattle.core_scan.proofs.SortLaws.{fits_no_other}
use Rattle.core_ast.specs.declared.syntax.Note.{Note}
use Rattle.core_ast.specs.declared.syntax.Mark.{Mark}
use Rattle.core_ast.specs.declared.syntax.VarName.{VarName}
use Rattle.core_ast.specs.declared.syntax.Literal.{Literal}
use Rattle.core_ast.specs.declared.syntax.Literal.TheVariants as l
use Rattle.core_ast.specs.Model as m
use Rattle.core_ast.specs.Tree as lists
use Rattle.core_parse_grammar.specs.declared.fault.PartFault.{PartFault}
use Rattle.core_parse_grammar.specs.declared.fault.PartFault.TheVariants.{Syntax}
use Rattle.core_parse_grammar.specs.Begins.{depth_limit}
use Rattle.core_parse_grammar.specs.Build.{at, text, value, no_note, variable_name}
use Rattle.core_parse_grammar.specs.Grammar.{a, first, the, noted_, annotation, pattern, bare_pattern, other_pattern, pattern_list}
use Rattle.core_parse_grammar.specs.Track.{Branch, Goes, itself, said, Stops, Sinks, next, Shallow, Then, deeper_limit}
use Rattle.core_parse_grammar.specs.Faults.{Refuses, Starts, Takes, Misses, RanOut, too_deep}
use Rattle.core_parse_grammar.specs.Readings.{mark, ReadsAnnotation, ReadsPattern, ReadsBarePattern}
use Rattle.core_parse_forms.specs.steps.Patterns.{in_brackets, closed, ReadsOtherPattern, ReadsInBrackets, RefusesInBrackets, ReadsNamed}
use Rattle.core_parse_grammar.specs.Starters.{literal_sort, starts_pattern, opens_with, literal_of}
use Rattle.core_parse_grammar.proofs.Moves.{◌>>◌, stay, expand, sink_at, Is_open, Deep}
use Rattle.core_parse_grammar.proofs.Places.{taken, halted, Shut, through, refused, ran_out, lacking, lacking_first, take_class, drop, drop_second}
use Rattle.core_parse_forms.proofs.Branches.{swapped, drop_rest, taken_sort, opens_not}
use Rattle.core_parse_forms.proofs.LiteralKinds.{literal_by, literal_is}
use Rattle.core_parse_forms.proofs.PatternExits.{alias_made}

-- the code's mark has the token's place
pub made_at : (r : ℕ) (f : Mark → m.Pattern) (n : ℕ) (p q : Place) → p ≡ q → (e : m.Pattern) → e ≡ f (mark n p) → (let z : m.Pattern × ℕ = (f (mark n q), r) in z) ≡ (e, r)
made_at r f n p q h e g = ap (λ x. let z : m.Pattern × ℕ = (x, r) in z) (ap (λ x. f (mark n x)) (sym h) ∙ sym g)

-- the bytes of a string are one deeper
pub bare_text_limit : (q : Sort) (d : ℕ) → q ≡ s.Text → too_deep q d ≡ false → d ≤ 399
bare_text_limit q d h e = let z : d + 1 ≤ depth_limit = ltb-false depth_limit (d + 1) (ap (λ x. too_deep x d) (sym h) ∙ e) in omega (arith, z)

pub bare_once : (ts us : List Token) (t : Token) (q : Sort) (place : Place) → Starts ts t q place us → (q ≡ s.OpenRound → ⊥) → opens_with s.OpenRound ts ≡ false
bare_once ts us t q place b h = opens_not s.OpenRound ts us t b.are (λ z. absurd cc) (λ z. h (b.sort_is ∙ z))

pub other_no_bracket : (ts us : List Token) (t : Token) (q : Sort) (place : Place) → Starts ts t q place us → opens_with s.OpenRound ts ≡ false → q ≡ s.OpenRound → ⊥
other_no_bracket ts us t q place b h e = let z : fits s.OpenRound q ≡ false = ap (fits s.OpenRound) b.sort_is ∙ sym (ap (opens_with s.OpenRound) b.are) ∙ h in
    let w : true ≡ false = sym (ap (fits s.OpenRound) e) ∙ z in absurd cc

module _ (d n : ℕ) where
  pub pattern_none : (ts : List Token) (f : PartFault) → RanOut ts f → Refuses (pattern d) ts f
  pattern_none ts f h = ran_out (pattern d) (itself (pattern d)) ts ts f (stay (pattern d) (itself (pattern d)) ts) tt refl h

  pub bare_pattern_none : (ts : List Token) (f : PartFault) → RanOut ts f → Refuses (bare_pattern d) ts f
  bare_pattern_none ts f h = ran_out (bare_pattern d) (itself (bare_pattern d)) ts ts f (stay (bare_pattern d) (itself (bare_pattern d)) ts) tt refl h

  pub other_pattern_none : (ts : List Token) (f : PartFault) → RanOut ts f → Refuses (other_pattern d) ts f
  other_pattern_none ts f h = ran_out (other_pattern d) (itself (other_pattern d)) ts ts f (stay (other_pattern d) (itself (other_pattern d)) ts) tt refl h

  module _ (ts us : List Token) (t : Token) (q : Sort) (place : Place) (b : Starts ts t q place us) where
    -- a bracket comes first
    module _ (h : q ≡ s.OpenRound) where
      abbrev whole : Then (pattern d) (pattern d)
      whole = record { parts = []; build = λ x. x }

      pattern_opened : Goes (pattern d) (itself (pattern d)) (in_brackets d place (pattern d) whole (whole ∷ [])) ts us
      pattern_opened = subst (λ p. Goes (pattern d) (itself (pattern d)) (in_brackets d p (pattern d) whole (whole ∷ [])) ts us) (sym b.place_is)
          (taken (pattern d) (itself (pattern d)) ts us t s.OpenRound b.are (sym b.sort_is ∙ h) refl (tt, tt) >> swapped (pattern d) _ _ [] us)

      pub pattern_brackets_bad : (f : PartFault) → RefusesInBrackets d place us f → Refuses (pattern d) ts f
      pattern_brackets_bad f z = z (pattern d) whole whole [] ((λ t x. refl), (λ t x. refl), ((λ t x. refl), (λ t x. refl), tt)) ts pattern_opened

      closed_whole : (alone : Bool) (x : m.Pattern) → closed d (pattern d) alone x whole (whole ∷ []) ≡ said (pattern d) x
      closed_whole true x = refl
      closed_whole false x = refl

      pub pattern_brackets : (left : List Token) (made : m.Pattern) (alone : Bool) (p : ℕ) → ReadsInBrackets d n place us made alone left p → ReadsPattern d n ts made left p
      pattern_brackets left made alone p z = record {
        says = z.says;
        passes = pattern_opened >> subst (λ bs. Goes (pattern d) (in_brackets d place (pattern d) whole (whole ∷ [])) bs us left) (closed_whole alone z.says)
            (z.goes (pattern d) whole (whole ∷ []) ((λ t x. refl), (λ t x. refl), ((λ t x. refl), (λ t x. refl), tt)));
        agrees = z.agrees;
      }

    -- no bracket comes first
    module _ (h : q ≡ s.OpenRound → ⊥) where
      pattern_bare : Goes (pattern d) (itself (pattern d)) (record { parts = the (bare_pattern d) ∷ []; build = λ x. x } ∷ []) ts ts
      pattern_bare = expand (pattern d) (pattern d) [] (λ x. x) [] ts >> expand (pattern d) (noted_ (the (bare_pattern d))) [] _ [] ts
          >> drop_second _ _ _ _ ts us t b.are (fits_no_other s.OpenRound (sort t) (λ z. absurd cc) (λ z. h (b.sort_is ∙ z)))

      pub pattern_bare_bad : (f : PartFault) → Refuses (bare_pattern d) ts f → Refuses (pattern d) ts f
      pattern_bare_bad f z = refused _ _ [] (λ x. x) ts ts f pattern_bare ((λ t x. refl), (λ t x. refl), tt) z

      pub pattern_bare_ok : (vs : List Token) (e : m.Pattern) (p : ℕ) → ReadsBarePattern d n ts e vs p → ReadsPattern d n ts e vs p
      pattern_bare_ok vs e p z = record { says = z.says; passes = pattern_bare >> through _ _ [] (λ x. x) ts vs z.says z.passes ((λ t x. refl), (λ t x. refl), tt); agrees = z.agrees }

    -- a variable in annotation brackets, which names a pattern
    module _ (h : q ≡ s.OpenRound) where
      abbrev bare_first : List (Branch (bare_pattern d))
      bare_first = record { parts = first d s.Variable ∷ the annotation ∷ a s.Equals ∷ the (pattern (d + 1)) ∷ []; build = λ v k _ p. m.alias (at t.place) (variable_name v.place v k) p } ∷ []

      bare_open : Goes (bare_pattern d) (itself (bare_pattern d)) bare_first ts us
      bare_open = taken (bare_pattern d) (itself (bare_pattern d)) ts us t s.OpenRound b.are (sym b.sort_is ∙ h) refl (tt, tt)

      pub bare_open_end : (f : PartFault) → RanOut us f → Refuses (bare_pattern d) ts f
      bare_open_end f z = ran_out (bare_pattern d) _ ts us f bare_open tt refl z

      module _ (vs : List Token) (u : Token) (r : Sort) (there : Place) (c : Starts us u r there vs) where
        pub bare_open_other : (r ≡ s.Variable → ⊥) → Stops (bare_pattern d) (itself (bare_pattern d)) ts there
        bare_open_other z = lacking_first (bare_pattern d) d s.Variable (the annotation ∷ a s.Equals ∷ the (pattern (d + 1)) ∷ []) (λ v k _ p. m.alias (at t.place) (variable_name v.place v k) p) ts us (Syntax there) bare_open
            (record { first = u; left = vs; are = c.are; place_is = c.place_is; other = fits_no_other s.Variable (sort u) (λ z. absurd cc) (λ w. z (c.sort_is ∙ w)) })

        module _ (z : r ≡ s.Variable) where
          pub bare_open_deep : depth_limit < d → d ≤ deeper_limit → Sinks (bare_pattern d) (itself (bare_pattern d)) ts there
          bare_open_deep w x = subst (Sinks (bare_pattern d) (itself (bare_pattern d)) ts) (sym c.place_is)
              (sink_at 12 (bare_pattern d) _ bare_first ts vs u (subst (λ y. Goes (bare_pattern d) (itself (bare_pattern d)) bare_first ts y) c.are bare_open) tt
              (subst (λ k. Deep 12 (bare_pattern d) u k bare_first depth_limit) (sym (sym c.sort_is ∙ z)) ((w, tt), tt))
              (subst (λ k. Shallow 12 (bare_pattern d) u k bare_first deeper_limit) (sym (sym c.sort_is ∙ z)) ((x, tt), tt))
              (subst (λ k. Is_open (bare_pattern d) (next 12 (bare_pattern d) u k bare_first)) (sym (sym c.sort_is ∙ z)) tt))

          module _ (w : d ≤ depth_limit) where
            bare_variable : Goes (bare_pattern d) (itself (bare_pattern d)) (record { parts = the annotation ∷ a s.Equals ∷ the (pattern (d + 1)) ∷ []; build = λ k _ p. m.alias (at t.place) (variable_name u.place u k) p } ∷ []) ts
                vs
            bare_variable = bare_open >> taken (bare_pattern d) _ us vs u s.Variable c.are (sym c.sort_is ∙ z) refl ((w, tt), tt)

            pub bare_note_bad : (f : PartFault) → Refuses annotation vs f → Refuses (bare_pattern d) ts f
            bare_note_bad f y = refused annotation _ (a s.Equals ∷ the (pattern (d + 1)) ∷ []) (λ k _ p. m.alias (at t.place) (variable_name u.place u k) p) ts vs f bare_variable ((λ t x. refl), (λ t x. refl), tt) y

            module _ (ws : List Token) (k : Note) (y : ReadsAnnotation vs k ws) where
              bare_noted : Goes (bare_pattern d) (itself (bare_pattern d)) (record { parts = a s.Equals ∷ the (pattern (d + 1)) ∷ []; build = λ _ p. m.alias (at t.place) (variable_name u.place u y.says) p } ∷ []) ts ws
              bare_noted = bare_variable >> through annotation _ (a s.Equals ∷ the (pattern (d + 1)) ∷ []) (λ k _ p. m.alias (at t.place) (variable_name u.place u k) p) vs ws y.says y.passes ((λ t x. refl), (λ t x. refl), tt)

              pub bare_equals_bad : (f : PartFault) → Misses s.Equals ws f → Refuses (bare_pattern d) ts f
              bare_equals_bad f x = lacking _ s.Equals (the (pattern (d + 1)) ∷ []) (λ _ p. m.alias (at t.place) (variable_name u.place u y.says) p) ts ws f bare_noted x

              module _ (xs : List Token) (e : Takes s.Equals ws xs) where
                bare_equals : Goes (bare_pattern d) (itself (bare_pattern d)) (record { parts = the (pattern (d + 1)) ∷ []; build = λ p. m.alias (at t.place) (variable_name u.place u y.says) p } ∷ []) ts xs
                bare_equals = bare_noted >> take_class _ s.Equals (the (pattern (d + 1)) ∷ []) (λ _ p. m.alias (at t.place) (variable_name u.place u y.says) p) ws xs e

                pub bare_named_bad : (f : PartFault) → Refuses (pattern (d + 1)) xs f → Refuses (bare_pattern d) ts f
                bare_named_bad f x = refused _ _ [] (λ p. m.alias (at t.place) (variable_name u.place u y.says) p) ts xs f bare_equals ((λ t x. refl), (λ t x. refl), tt) x

                pub bare_named : (left : List Token) (mk : Mark) (x : VarName) (made : m.Pattern) (p : ℕ) → mk ≡ mark n place → x ≡ record { name = text u; place = there; note = k } → ReadsNamed mk x d n xs made left p
                    → ReadsBarePattern d n ts made left p
                bare_named left mk x made p i j o = record {
                  says = m.alias (at t.place) (variable_name u.place u y.says) o.says;
                  passes = bare_equals >> through _ _ [] (λ p. m.alias (at t.place) (variable_name u.place u y.says) p) xs left o.says o.passes ((λ t x. refl), (λ t x. refl), tt);
                  agrees = alias_made n p (at t.place) mk (variable_name u.place u y.says) x o.says o.inner made (i ∙ ap (mark n) b.place_is)
                      (j ∙ ap (λ (g : Place). let r : VarName = record { name = text u; place = g; note = k } in r) c.place_is
                      ∙ ap (λ (g : Note). let r : VarName = record { name = text u; place = u.place; note = g } in r) (sym y.agrees)) o.made_is o.agrees;
                }

    -- what no pattern without brackets begins with, and a pattern too deep
    pub bare_pattern_dull : starts_pattern q ≡ false → (q ≡ s.OpenRound → ⊥) → Stops (bare_pattern d) (itself (bare_pattern d)) ts place
    bare_pattern_dull p h = subst (Stops (bare_pattern d) (itself (bare_pattern d)) ts) (sym b.place_is)
        (halted (bare_pattern d) _ _ ts ts us t (stay (bare_pattern d) (itself (bare_pattern d)) ts) b.are tt (go (sort t) (ap starts_pattern (sym b.sort_is) ∙ p) (λ z. h (b.sort_is ∙ z))))
      where
        go : (q : Sort) → starts_pattern q ≡ false → (q ≡ s.OpenRound → ⊥) → Shut (bare_pattern d) t q (itself (bare_pattern d))
        go s.Variable p h = absurd cc
        go s.Small p h = absurd cc
        go s.Integer p h = absurd cc
        go s.Float p h = absurd cc
        go s.Char p h = absurd cc
        go s.Atom p h = absurd cc
        go s.EmptyText p h = absurd cc
        go s.Text p h = absurd cc
        go s.OpenSquare p h = absurd cc
        go s.OpenCurly p h = absurd cc
        go s.OpenBinary p h = absurd cc
        go s.OpenMap p h = absurd cc
        go s.OpenRound p h = absurd (h refl)
        go _ p h = (refl, refl)

    pub bare_pattern_deep : too_deep q d ≡ true → d ≤ depth_limit + 1 → starts_pattern q ≡ true → Sinks (bare_pattern d) (itself (bare_pattern d)) ts place
    bare_pattern_deep p r h = subst (Sinks (bare_pattern d) (itself (bare_pattern d)) ts) (sym b.place_is)
        (sink_at 12 (bare_pattern d) _ _ ts us t (subst (λ x. Goes (bare_pattern d) (itself (bare_pattern d)) (itself (bare_pattern d)) ts x) b.are (stay (bare_pattern d) (itself (bare_pattern d)) ts)) tt (deep (sort t) o' h')
        (shallow (sort t) h') (on (sort t) h'))
      where
        h' : starts_pattern (sort t) ≡ true
        h' = ap starts_pattern (sym b.sort_is) ∙ h

        o' : too_deep (sort t) d ≡ true
        o' = ap (λ z. too_deep z d) (sym b.sort_is) ∙ p

        r' : d ≤ deeper_limit
        r' = omega (arith, r)

        deep : (q : Sort) → too_deep q d ≡ true → starts_pattern q ≡ true → Deep 12 (bare_pattern d) t q (itself (bare_pattern d)) depth_limit
        deep s.Variable o h = ((ltb-true depth_limit d o, (ltb-true depth_limit d o, tt)), tt)
        deep s.Small o h = ((ltb-true depth_limit d o, tt), tt)
        deep s.Integer o h = ((ltb-true depth_limit d o, tt), tt)
        deep s.Float o h = ((ltb-true depth_limit d o, tt), tt)
        deep s.Char o h = ((ltb-true depth_limit d o, tt), tt)
        deep s.Atom o h = ((ltb-true depth_limit d o, tt), tt)
        deep s.EmptyText o h = ((ltb-true depth_limit d o, tt), tt)
        deep s.OpenSquare o h = ((ltb-true depth_limit d o, (ltb-true depth_limit d o, tt)), tt)
        deep s.OpenCurly o h = ((ltb-true depth_limit d o, tt), tt)
        deep s.OpenBinary o h = ((ltb-true depth_limit d o, tt), tt)
        deep s.OpenMap o h = ((ltb-true depth_limit d o, tt), tt)
        deep s.Text o h = ((ltb-true depth_limit (d + 1) o, tt), tt)
        deep _ o h = absurd cc

        shallow : (q : Sort) → starts_pattern q ≡ true → Shallow 12 (bare_pattern d) t q (itself (bare_pattern d)) deeper_limit
        shallow s.Variable h = ((r', (r', tt)), tt)
        shallow s.Small h = ((r', tt), tt)
        shallow s.Integer h = ((r', tt), tt)
        shallow s.Float h = ((r', tt), tt)
        shallow s.Char h = ((r', tt), tt)
        shallow s.Atom h = ((r', tt), tt)
        shallow s.EmptyText h = ((r', tt), tt)
        shallow s.OpenSquare h = ((r', (r', tt)), tt)
        shallow s.OpenCurly h = ((r', tt), tt)
        shallow s.OpenBinary h = ((r', tt), tt)
        shallow s.OpenMap h = ((r', tt), tt)
        shallow s.Text h = ((omega (arith, r), tt), tt)
        shallow _ h = absurd cc

        on : (q : Sort) → starts_pattern q ≡ true → Is_open (bare_pattern d) (next 12 (bare_pattern d) t q (itself (bare_pattern d)))
        on s.Variable h = tt
        on s.Small h = tt
        on s.Integer h = tt
        on s.Float h = tt
        on s.Char h = tt
        on s.Atom h = tt
        on s.EmptyText h = tt
        on s.OpenSquare h = tt
        on s.OpenCurly h = tt
        on s.OpenBinary h = tt
        on s.OpenMap h = tt
        on s.Text h = tt
        on _ h = absurd cc

    -- no list with elements
    module _ (g : q ≡ s.Text → ⊥) (h : q ≡ s.OpenSquare → ⊥) where
      bare_else : Goes (bare_pattern d) (itself (bare_pattern d)) (record { parts = the (other_pattern d) ∷ []; build = λ x. x } ∷ []) ts ts
      bare_else = expand (bare_pattern d) (bare_pattern d) [] (λ x. x) [] ts >> expand (bare_pattern d) (pattern_list d) [] (λ x. m.list_of (at x.place) (lists.patterns x.items) x.tail) _ ts
          >> drop _ _ _ ts us t b.are (fits_no_other s.Text (sort t) (λ z. absurd cc) (λ z. g (b.sort_is ∙ z)))
          >> drop _ _ _ ts us t b.are (fits_no_other s.OpenSquare (sort t) (λ z. absurd cc) (λ z. h (b.sort_is ∙ z)))

      pub bare_else_bad : (f : PartFault) → Refuses (other_pattern d) ts f → Refuses (bare_pattern d) ts f
      bare_else_bad f z = refused _ _ [] (λ x. x) ts ts f bare_else ((λ t x. refl), (λ t x. refl), tt) z

      pub bare_else_ok : (vs : List Token) (e : m.Pattern) (p : ℕ) → ReadsOtherPattern d n ts e vs p → ReadsBarePattern d n ts e vs p
      bare_else_ok vs e p z = record { says = z.says; passes = bare_else >> through _ _ [] (λ x. x) ts vs z.says z.passes ((λ t x. refl), (λ t x. refl), tt); agrees = z.agrees }

    -- what no other pattern begins with
    pub other_pattern_dull : (q ≡ s.OpenRound → ⊥) → (q ≡ s.Variable → ⊥) → literal_sort q ≡ false → (q ≡ s.OpenSquare → ⊥) → (q ≡ s.OpenCurly → ⊥) → (q ≡ s.OpenBinary → ⊥)
        → (q ≡ s.OpenMap → ⊥) → Stops (other_pattern d) (itself (other_pattern d)) ts place
    other_pattern_dull p1 p2 p3 p4 p5 p6 p7 = subst (Stops (other_pattern d) (itself (other_pattern d)) ts) (sym b.place_is) (halted (other_pattern d) _ _ ts ts us t (stay (other_pattern d) (itself (other_pattern d)) ts) b.are tt
        (go (sort t) (λ z. p1 (b.sort_is ∙ z)) (λ z. p2 (b.sort_is ∙ z)) (ap literal_sort (sym b.sort_is) ∙ p3) (λ z. p4 (b.sort_is ∙ z)) (λ z. p5 (b.sort_is ∙ z)) (λ z. p6 (b.sort_is ∙ z)) (λ z. p7 (b.sort_is ∙ z))))
      where
        go : (q : Sort) → (q ≡ s.OpenRound → ⊥) → (q ≡ s.Variable → ⊥) → literal_sort q ≡ false → (q ≡ s.OpenSquare → ⊥) → (q ≡ s.OpenCurly → ⊥) → (q ≡ s.OpenBinary → ⊥)
            → (q ≡ s.OpenMap → ⊥) → Shut (other_pattern d) t q (itself (other_pattern d))
        go s.OpenRound p1 p2 p3 p4 p5 p6 p7 = absurd (p1 refl)
        go s.Variable p1 p2 p3 p4 p5 p6 p7 = absurd (p2 refl)
        go s.Atom p1 p2 p3 p4 p5 p6 p7 = absurd cc
        go s.Small p1 p2 p3 p4 p5 p6 p7 = absurd cc
        go s.Integer p1 p2 p3 p4 p5 p6 p7 = absurd cc
        go s.Float p1 p2 p3 p4 p5 p6 p7 = absurd cc
        go s.Char p1 p2 p3 p4 p5 p6 p7 = absurd cc
        go s.EmptyText p1 p2 p3 p4 p5 p6 p7 = absurd cc
        go s.OpenSquare p1 p2 p3 p4 p5 p6 p7 = absurd (p4 refl)
        go s.OpenCurly p1 p2 p3 p4 p5 p6 p7 = absurd (p5 refl)
        go s.OpenBinary p1 p2 p3 p4 p5 p6 p7 = absurd (p6 refl)
        go s.OpenMap p1 p2 p3 p4 p5 p6 p7 = absurd (p7 refl)
        go _ p1 p2 p3 p4 p5 p6 p7 = (refl, refl)

    module _ (w : d ≤ depth_limit) where
      pub other_pattern_small : q ≡ s.Small → (e : m.Pattern) → e ≡ m.equals (mark n place) (l.Int (value t)) → ReadsOtherPattern d n ts e us (n + 1)
      other_pattern_small h e g = record {
        says = m.equals (at t.place) (l.Int (value t));
        passes = taken (other_pattern d) (itself (other_pattern d)) ts us t s.Small b.are (sym b.sort_is ∙ h) refl ((w, tt), tt);
        agrees = made_at (n + 1) (λ k. m.equals k (l.Int (value t))) n place t.place b.place_is e g;
      }

      pub other_pattern_integer : q ≡ s.Integer → (e : m.Pattern) → e ≡ m.equals (mark n place) (l.Int (value t)) → ReadsOtherPattern d n ts e us (n + 1)
      other_pattern_integer h e g = record {
        says = m.equals (at t.place) (l.Int (value t));
        passes = taken (other_pattern d) (itself (other_pattern d)) ts us t s.Integer b.are (sym b.sort_is ∙ h) refl ((w, tt), tt);
        agrees = made_at (n + 1) (λ k. m.equals k (l.Int (value t))) n place t.place b.place_is e g;
      }

      pub other_pattern_float : q ≡ s.Float → (e : m.Pattern) → e ≡ m.equals (mark n place) (l.Float (text t)) → ReadsOtherPattern d n ts e us (n + 1)
      other_pattern_float h e g = record {
        says = m.equals (at t.place) (l.Float (text t));
        passes = taken (other_pattern d) (itself (other_pattern d)) ts us t s.Float b.are (sym b.sort_is ∙ h) refl ((w, tt), tt);
        agrees = made_at (n + 1) (λ k. m.equals k (l.Float (text t))) n place t.place b.place_is e g;
      }

      pub other_pattern_char : q ≡ s.Char → (e : m.Pattern) → e ≡ m.equals (mark n place) (l.Int (value t)) → ReadsOtherPattern d n ts e us (n + 1)
      other_pattern_char h e g = record {
        says = m.equals (at t.place) (l.Int (value t));
        passes = taken (other_pattern d) (itself (other_pattern d)) ts us t s.Char b.are (sym b.sort_is ∙ h) refl ((w, tt), tt);
        agrees = made_at (n + 1) (λ k. m.equals k (l.Int (value t))) n place t.place b.place_is e g;
      }

      pub other_pattern_atom : q ≡ s.Atom → (e : m.Pattern) → e ≡ m.equals (mark n place) (l.Atom (text t)) → ReadsOtherPattern d n ts e us (n + 1)
      other_pattern_atom h e g = record {
        says = m.equals (at t.place) (l.Atom (text t));
        passes = taken (other_pattern d) (itself (other_pattern d)) ts us t s.Atom b.are (sym b.sort_is ∙ h) refl ((w, tt), tt);
        agrees = made_at (n + 1) (λ k. m.equals k (l.Atom (text t))) n place t.place b.place_is e g;
      }

      pub other_pattern_empty_text : q ≡ s.EmptyText → (e : m.Pattern) → e ≡ m.equals (mark n place) (l.Nil) → ReadsOtherPattern d n ts e us (n + 1)
      other_pattern_empty_text h e g = record {
        says = m.equals (at t.place) (l.Nil);
        passes = taken (other_pattern d) (itself (other_pattern d)) ts us t s.EmptyText b.are (sym b.sort_is ∙ h) refl ((w, tt), tt);
        agrees = made_at (n + 1) (λ k. m.equals k (l.Nil)) n place t.place b.place_is e g;
      }

      -- any literal of one token
      pub other_pattern_literal : literal_sort q ≡ true → (x : Literal) → x ≡ literal_of t → (e : m.Pattern) → e ≡ m.equals (mark n place) x → ReadsOtherPattern d n ts e us (n + 1)
      other_pattern_literal h x f e g = go q refl h (g ∙ ap (m.equals (mark n place)) (f ∙ literal_is t q (sym b.sort_is) h))
        where
          go : (r : Sort) → q ≡ r → literal_sort r ≡ true → e ≡ m.equals (mark n place) (literal_by r t) → ReadsOtherPattern d n ts e us (n + 1)
          go s.Small z h i = other_pattern_small z e i
          go s.Integer z h i = other_pattern_integer z e i
          go s.Float z h i = other_pattern_float z e i
          go s.Char z h i = other_pattern_char z e i
          go s.Atom z h i = other_pattern_atom z e i
          go s.EmptyText z h i = other_pattern_empty_text z e i
          go _ z h i = absurd cc

      -- the empty list
      module _ (h : q ≡ s.OpenSquare) where
        other_square : Goes (other_pattern d) (itself (other_pattern d)) (record { parts = a s.CloseSquare ∷ []; build = λ _. m.equals (at t.place) l.Nil } ∷ []) ts us
        other_square = taken (other_pattern d) (itself (other_pattern d)) ts us t s.OpenSquare b.are (sym b.sort_is ∙ h) refl ((w, tt), tt)

        pub other_pattern_nil_bad : (f : PartFault) → Misses s.CloseSquare us f → Refuses (other_pattern d) ts f
        other_pattern_nil_bad f z = lacking _ s.CloseSquare [] (λ _. m.equals (at t.place) l.Nil) ts us f other_square z

        pub other_pattern_nil : (vs : List Token) → Takes s.CloseSquare us vs → (e : m.Pattern) → e ≡ m.equals (mark n place) l.Nil → ReadsOtherPattern d n ts e vs (n + 1)
        other_pattern_nil vs z e g = record {
          says = m.equals (at t.place) l.Nil;
          passes = other_square >> take_class _ s.CloseSquare [] (λ _. m.equals (at t.place) l.Nil) us vs z;
          agrees = made_at (n + 1) (λ k. m.equals k l.Nil) n place t.place b.place_is e g;
        }

      -- a variable, alone or before a pattern that it names
      module _ (h : q ≡ s.Variable) where
        other_variable : Goes (other_pattern d) (itself (other_pattern d)) (record { parts = []; build = m.binds (at t.place) (text t) } ∷ record {
          parts = a s.Equals ∷ the (pattern (d + 1)) ∷ [];
          build = λ _ p. m.alias (at t.place) (variable_name t.place t no_note) p;
        } ∷ []) ts us
        other_variable = taken (other_pattern d) (itself (other_pattern d)) ts us t s.Variable b.are (sym b.sort_is ∙ h) refl ((w, (w, tt)), tt)

        pub other_pattern_variable : opens_with s.Equals us ≡ false → (e : m.Pattern) → e ≡ m.binds (mark n place) (text t) → ReadsOtherPattern d n ts e us (n + 1)
        other_pattern_variable z e g = record {
          says = m.binds (at t.place) (text t);
          passes = other_variable >> drop_rest _ s.Equals _ _ us (refl, tt) z;
          agrees = made_at (n + 1) (λ k. m.binds k (text t)) n place t.place b.place_is e g;
        }

        module _ (vs : List Token) (e : Takes s.Equals us vs) where
          other_named : Goes (other_pattern d) (itself (other_pattern d)) (record { parts = the (pattern (d + 1)) ∷ []; build = λ p. m.alias (at t.place) (variable_name t.place t no_note) p } ∷ []) ts vs
          other_named = other_variable >> taken (other_pattern d) _ us vs e.first s.Equals e.are (taken_sort s.Equals us vs (λ z. absurd cc) e) refl (tt, (tt, tt))

          pub other_pattern_named_bad : (f : PartFault) → Refuses (pattern (d + 1)) vs f → Refuses (other_pattern d) ts f
          other_pattern_named_bad f z = refused _ _ [] (λ p. m.alias (at t.place) (variable_name t.place t no_note) p) ts vs f other_named ((λ t x. refl), (λ t x. refl), tt) z

          pub other_pattern_named : (left : List Token) (mk : Mark) (x : VarName) (made : m.Pattern) (p : ℕ) → mk ≡ mark n place → x ≡ record { name = text t; place = place; note = no_note } → ReadsNamed mk x d n vs made left p
              → ReadsOtherPattern d n ts made left p
          other_pattern_named left mk x made p i j o = record {
            says = m.alias (at t.place) (variable_name t.place t no_note) o.says;
            passes = other_named >> through _ _ [] (λ p. m.alias (at t.place) (variable_name t.place t no_note) p) vs left o.says o.passes ((λ t x. refl), (λ t x. refl), tt);
            agrees = alias_made n p (at t.place) mk (variable_name t.place t no_note) x o.says o.inner made (i ∙ ap (mark n) b.place_is)
                (j ∙ ap (λ (g : Place). let r : VarName = record { name = text t; place = g; note = no_note } in r) b.place_is) o.made_is o.agrees;
          }

-- The pattern that a variable names.
pub named_read : (d n : ℕ) (ts left : List Token) (k : Mark) (x : VarName) (made inner : m.Pattern) (p : ℕ) → ReadsPattern (d + 1) (n + 1) ts inner left p → made ≡ m.alias k x inner → ReadsNamed k x d n ts made left p
named_read d n ts left k x made inner p z e = record { says = z.says; passes = z.passes; inner = inner; made_is = e; agrees = z.agrees }
