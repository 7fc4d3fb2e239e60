-- Expressions, with and without annotation brackets: each way out.
use Rattle.std.proofs.Common.{◌≡◌, ℕ, ◌+◌, ◌≤◌, List, [], ◌∷◌, Bool, true, false, refl, sym, ap, ◌∙◌, subst, arith, length}
use Rattle.std.proofs.lemmas.Bool.{ltb-true}
use Rattle.type_kinds.specs.declared.place.Place.{Place}
use Rattle.core_scan.specs.declared.token.Token.{Token}
use Rattle.core_scan.specs.declared.sort.Sort.{Sort}
use Rattle.core_scan.specs.declared.sort.Sort.TheVariants as s
use Rattle.core_scan.specs.Sorts.{sort}
use Rattle.core_scan.proofs.SortLaws.{fits_no_other}
use Rattle.core_ast.specs.declared.syntax.Note.{Note}
use Rattle.core_ast.specs.declared.syntax.Mark.{Mark}
use Rattle.core_ast.specs.declared.syntax.Literal.{Literal}
use Rattle.core_ast.specs.declared.syntax.Literal.TheVariants as l
use Rattle.core_ast.specs.Model as m
use Rattle.core_ast.specs.Tree.{trees}
use Rattle.core_ast.specs.Notes.{note_tree}
use Rattle.core_parse_grammar.specs.declared.fault.PartFault.{PartFault}
use Rattle.core_parse_grammar.specs.declared.fault.PartFault.TheVariants.{Syntax, TooDeep}
use Rattle.core_parse_grammar.specs.Begins.{depth_limit}
use Rattle.core_parse_grammar.specs.Build.{text, value, fun_name, at, nil, is_chain, with_note}
use Rattle.core_parse_grammar.specs.Grammar.{a, the, noted_, annotation, expression, bare_expression, other_expression, list}
use Rattle.core_parse_grammar.specs.Labels.{number}
use Rattle.core_parse_grammar.specs.Track.{deeper_limit, Goes, itself, Passes, Stops, Sinks, next, Shallow}
use Rattle.core_parse_grammar.specs.Faults.{Refuses, Starts, Takes, Misses, RanOut, too_deep}
use Rattle.core_parse_grammar.specs.Readings.{mark, chain_sort, starts_chain, opens_chain, opens_chain_at, ReadsAnnotation, ReadsExpression, ReadsBareExpression, ReadsOtherExpression}
use Rattle.core_parse_grammar.specs.Starters.{starts_literal, starts_expression, literal_of}
use Rattle.core_parse_grammar.proofs.Moves.{◌>>◌, stay, expand, sink_at, Is_open, Deep}
use Rattle.core_parse_grammar.proofs.Places.{taken, halted, Shut, through, refused, lacking, ran_out, take_class, drop, drop_second, at_end}
use Rattle.core_parse_grammar.proofs.LeafExits.{none_left}
use Rattle.core_parse_forms.proofs.LiteralKinds.{literal_is}
use Rattle.core_parse_forms.proofs.ItemNumbers.{noted_tree_number}
use Rattle.core_parse_forms.proofs.FormExits.{made}

noted_single : (k : Note) (t : m.Tree) → is_chain t ≡ false → is_chain (note_tree k t) ≡ false
noted_single k (m.chain mark ss t) e = absurd cc
noted_single k (m.variable mark x) e = refl
noted_single k _ e = refl

opens_bare : (ts us : List Token) (t : Token) → ts ≡ t ∷ us → (sort t ≡ s.OpenRound → ⊥) → opens_chain ts ≡ false → starts_chain ts ≡ false
opens_bare ts us t e h k = ap starts_chain e ∙ go (sort t) h (sym (ap opens_chain e) ∙ k)
  where
    go : (q : Sort) → (q ≡ s.OpenRound → ⊥) → opens_chain_at q us ≡ false → chain_sort q ≡ false
    go s.OpenRound h k = absurd (h refl)
    go s.Apply h k = k
    go _ h k = k

opens_inside : (ts us : List Token) (t : Token) → ts ≡ t ∷ us → sort t ≡ s.OpenRound → opens_chain ts ≡ false → starts_chain us ≡ false
opens_inside ts us t e h k = sym (ap (λ q. opens_chain_at q us) h) ∙ sym (ap opens_chain e) ∙ k

-- the code's mark has the token's place
pub placed : (n : ℕ) (f : Mark → m.Tree) (p q : Place) → p ≡ q → (e : m.Tree) → e ≡ f (mark n p) → (let z : m.Tree × ℕ = (f (mark n q), n + 1) in z) ≡ (e, n + 1)
placed n f p q h e g = made (n + 1) f n p q h e g

-- what the code makes of a variable, a literal, and a function's name
pub variable_made : (e : m.Tree) (k j : Mark) (name made : List ℕ) → e ≡ m.variable k name → k ≡ j → name ≡ made → e ≡ m.variable j made
variable_made e k j name made g h i = g ∙ ap (λ x. m.variable x name) h ∙ ap (λ (x : List ℕ). m.variable j x) i

pub literal_made : (e : m.Tree) (k j : Mark) (value made : Literal) → e ≡ m.literal k value → k ≡ j → value ≡ made → e ≡ m.literal j made
literal_made e k j value made g h i = g ∙ ap (λ x. m.literal x value) h ∙ ap (λ x. m.literal j x) i

pub name_made : (e : m.Tree) (k j : Mark) (name made : List ℕ) (number arity : ℕ) → e ≡ m.local k (record { name = name; arity = number }) → k ≡ j → name ≡ made → number ≡ arity
    → e ≡ m.local j (record { name = made; arity = arity })
name_made e k j name made number arity g h i o = g ∙ ap (λ x. m.local x (record { name = name; arity = number })) h ∙ ap (λ (x : List ℕ). m.local j (record { name = x; arity = number })) i
    ∙ ap (λ (x : ℕ). m.local j (record { name = made; arity = x })) o

module _ (d n : ℕ) where
  pub expression_none : (ts : List Token) (f : PartFault) → RanOut ts f → Refuses (expression d) ts f
  expression_none ts f h = ran_out (expression d) (itself (expression d)) ts ts f (stay (expression d) (itself (expression d)) ts) tt refl h

  pub bare_none : (ts : List Token) (f : PartFault) → RanOut ts f → Refuses (bare_expression d) ts f
  bare_none ts f h = ran_out (bare_expression d) (itself (bare_expression d)) ts ts f (stay (bare_expression d) (itself (bare_expression d)) ts) tt refl h

  pub other_none : (ts : List Token) (f : PartFault) → RanOut ts f → Refuses (other_expression d) ts f
  other_none ts f h = ran_out (other_expression d) (itself (other_expression d)) ts ts f (stay (other_expression d) (itself (other_expression d)) ts) tt refl h

  module _ (ts us : List Token) (t : Token) (q : Sort) (place : Place) (b : Starts ts t q place us) where
    -- an expression in annotation brackets, and without
    module _ (h : q ≡ s.OpenRound) where
      open_0 : Goes (expression d) (itself (expression d)) (record { parts = the (bare_expression d) ∷ the annotation ∷ []; build = λ x k. note_tree k x } ∷ []) ts us
      open_0 = taken (expression d) (itself (expression d)) ts us t s.OpenRound b.are (sym b.sort_is ∙ h) refl (tt, tt)

      pub expression_in_bad : (f : PartFault) → Refuses (bare_expression d) us f → Refuses (expression d) ts f
      expression_in_bad f z = refused _ _ (the annotation ∷ []) (λ x k. note_tree k x) ts us f open_0 ((λ t x. refl), (λ t x. refl), tt) z

      module _ (vs : List Token) (e : m.Tree) (p : ℕ) (v : ReadsBareExpression d n us e vs p) where
        open_1 : Goes (expression d) (itself (expression d)) (record { parts = the annotation ∷ []; build = λ k. note_tree k v.says } ∷ []) ts vs
        open_1 = open_0 >> through _ _ (the annotation ∷ []) (λ x k. note_tree k x) us vs v.says v.passes ((λ t x. refl), (λ t x. refl), tt)

        pub expression_note_bad : (f : PartFault) → Refuses annotation vs f → Refuses (expression d) ts f
        expression_note_bad f z = refused _ _ [] (λ k. note_tree k v.says) ts vs f open_1 ((λ t x. refl), (λ t x. refl), tt) z

        pub expression_noted : (ws : List Token) (k : Note) (r : m.Tree) → r ≡ note_tree k e → ReadsAnnotation vs k ws → ReadsExpression d n ts r ws p
        expression_noted ws k r g z = record {
          says = note_tree z.says v.says;
          passes = open_1 >> through _ _ [] (λ k. note_tree k v.says) vs ws z.says z.passes ((λ t x. refl), (λ t x. refl), tt);
          agrees = ap (λ k. number n (note_tree k v.says)) z.agrees ∙ noted_tree_number n k v.says ∙ ap (λ (r : m.Tree × ℕ). let w : m.Tree × ℕ = (note_tree k r.0, r.1) in w) v.agrees
              ∙ ap (λ x. let w : m.Tree × ℕ = (x, p) in w) (sym g);
          single = λ o. noted_single z.says v.says (v.single (opens_inside ts us t b.are (sym b.sort_is ∙ h) o));
        }

    module _ (h : q ≡ s.OpenRound → ⊥) where
      bare_0 : Goes (expression d) (itself (expression d)) (record { parts = the (bare_expression d) ∷ []; build = λ x. x } ∷ []) ts ts
      bare_0 = expand (expression d) (expression d) [] (λ x. x) [] ts >> expand (expression d) (noted_ (the (bare_expression d))) [] (λ x. with_note note_tree x) [] ts
          >> drop_second _ _ _ _ ts us t b.are (fits_no_other s.OpenRound (sort t) (λ z. absurd cc) (λ z. h (b.sort_is ∙ z)))

      pub expression_bare_bad : (f : PartFault) → Refuses (bare_expression d) ts f → Refuses (expression d) ts f
      expression_bare_bad f z = refused _ _ [] (λ x. x) ts ts f bare_0 ((λ t x. refl), (λ t x. refl), tt) z

      pub expression_bare : (vs : List Token) (e : m.Tree) (p : ℕ) → ReadsBareExpression d n ts e vs p → ReadsExpression d n ts e vs p
      expression_bare vs e p z = record {
        says = z.says;
        passes = bare_0 >> through _ _ [] (λ x. x) ts vs z.says z.passes ((λ t x. refl), (λ t x. refl), tt);
        agrees = z.agrees;
        single = λ o. z.single (opens_bare ts us t b.are (λ w. h (b.sort_is ∙ w)) o);
      }

    -- no expression begins so
    pub bare_expression_dull : (y : Bool) → y ≡ starts_expression q → y ≡ false → Stops (bare_expression d) (itself (bare_expression d)) ts place
    bare_expression_dull y g p = subst (Stops (bare_expression d) (itself (bare_expression d)) ts) (sym b.place_is)
        (halted (bare_expression d) _ _ ts ts us t (stay (bare_expression d) (itself (bare_expression d)) ts) b.are tt (go (sort t) (ap starts_expression (sym b.sort_is) ∙ sym g ∙ p)))
      where
        go : (q : Sort) → starts_expression q ≡ false → Shut (bare_expression d) t q (itself (bare_expression d))
        go s.Small p = absurd cc
        go s.Integer p = absurd cc
        go s.Float p = absurd cc
        go s.Char p = absurd cc
        go s.EmptyText p = absurd cc
        go s.Variable p = absurd cc
        go s.OpenCurly p = absurd cc
        go s.Less p = absurd cc
        go s.OpenBinary p = absurd cc
        go s.OpenMap p = absurd cc
        go s.Let p = absurd cc
        go s.Do p = absurd cc
        go s.Case p = absurd cc
        go s.Letrec p = absurd cc
        go s.Apply p = absurd cc
        go s.Call p = absurd cc
        go s.Primop p = absurd cc
        go s.Try p = absurd cc
        go s.Receive p = absurd cc
        go s.Catch p = absurd cc
        go s.Atom p = absurd cc
        go s.OpenSquare p = absurd cc
        go s.Fun p = absurd cc
        go s.Text p = absurd cc
        go _ p = (refl, refl)

    -- an expression too deep
    pub bare_expression_deep : (x : Bool) → x ≡ too_deep q d → x ≡ true → d ≤ 401 → (y : Bool) → y ≡ starts_expression q → y ≡ true → Sinks (bare_expression d) (itself (bare_expression d)) ts place
    bare_expression_deep x e h r y g p = subst (Sinks (bare_expression d) (itself (bare_expression d)) ts) (sym b.place_is)
        (sink_at 12 (bare_expression d) _ _ ts us t (subst (λ x. Goes (bare_expression d) (itself (bare_expression d)) (itself (bare_expression d)) ts x) b.are (stay (bare_expression d) (itself (bare_expression d)) ts)) tt
        (deep (sort t) h_ p_) (shallow (sort t) p_) (on (sort t) p_))
      where
        h_ : too_deep (sort t) d ≡ true
        h_ = ap (λ z. too_deep z d) (sym b.sort_is) ∙ sym e ∙ h

        p_ : starts_expression (sort t) ≡ true
        p_ = ap starts_expression (sym b.sort_is) ∙ sym g ∙ p

        deep : (q : Sort) → too_deep q d ≡ true → starts_expression q ≡ true → Deep 12 (bare_expression d) t q (itself (bare_expression d)) depth_limit
        deep s.Small h p = ((ltb-true depth_limit d h, tt), tt)
        deep s.Integer h p = ((ltb-true depth_limit d h, tt), tt)
        deep s.Float h p = ((ltb-true depth_limit d h, tt), tt)
        deep s.Char h p = ((ltb-true depth_limit d h, tt), tt)
        deep s.EmptyText h p = ((ltb-true depth_limit d h, tt), tt)
        deep s.Variable h p = ((ltb-true depth_limit d h, tt), tt)
        deep s.OpenCurly h p = ((ltb-true depth_limit d h, tt), tt)
        deep s.Less h p = ((ltb-true depth_limit d h, tt), tt)
        deep s.OpenBinary h p = ((ltb-true depth_limit d h, tt), tt)
        deep s.OpenMap h p = ((ltb-true depth_limit d h, tt), tt)
        deep s.Let h p = ((ltb-true depth_limit d h, tt), tt)
        deep s.Do h p = ((ltb-true depth_limit d h, tt), tt)
        deep s.Case h p = ((ltb-true depth_limit d h, tt), tt)
        deep s.Letrec h p = ((ltb-true depth_limit d h, tt), tt)
        deep s.Apply h p = ((ltb-true depth_limit d h, tt), tt)
        deep s.Call h p = ((ltb-true depth_limit d h, tt), tt)
        deep s.Primop h p = ((ltb-true depth_limit d h, tt), tt)
        deep s.Try h p = ((ltb-true depth_limit d h, tt), tt)
        deep s.Receive h p = ((ltb-true depth_limit d h, tt), tt)
        deep s.Catch h p = ((ltb-true depth_limit d h, tt), tt)
        deep s.Atom h p = ((ltb-true depth_limit d h, (ltb-true depth_limit d h, tt)), tt)
        deep s.OpenSquare h p = ((ltb-true depth_limit d h, (ltb-true depth_limit d h, tt)), tt)
        deep s.Fun h p = ((ltb-true depth_limit d h, (ltb-true depth_limit d h, tt)), tt)
        deep s.Text h p = ((ltb-true depth_limit (d + 1) h, tt), tt)
        deep _ h p = absurd cc

        one_below : d ≤ deeper_limit
        one_below = omega (arith, r)

        two_below : d + 1 ≤ deeper_limit
        two_below = omega (arith, r)

        shallow : (q : Sort) → starts_expression q ≡ true → Shallow 12 (bare_expression d) t q (itself (bare_expression d)) deeper_limit
        shallow s.Small p = ((one_below, tt), tt)
        shallow s.Integer p = ((one_below, tt), tt)
        shallow s.Float p = ((one_below, tt), tt)
        shallow s.Char p = ((one_below, tt), tt)
        shallow s.EmptyText p = ((one_below, tt), tt)
        shallow s.Variable p = ((one_below, tt), tt)
        shallow s.OpenCurly p = ((one_below, tt), tt)
        shallow s.Less p = ((one_below, tt), tt)
        shallow s.OpenBinary p = ((one_below, tt), tt)
        shallow s.OpenMap p = ((one_below, tt), tt)
        shallow s.Let p = ((one_below, tt), tt)
        shallow s.Do p = ((one_below, tt), tt)
        shallow s.Case p = ((one_below, tt), tt)
        shallow s.Letrec p = ((one_below, tt), tt)
        shallow s.Apply p = ((one_below, tt), tt)
        shallow s.Call p = ((one_below, tt), tt)
        shallow s.Primop p = ((one_below, tt), tt)
        shallow s.Try p = ((one_below, tt), tt)
        shallow s.Receive p = ((one_below, tt), tt)
        shallow s.Catch p = ((one_below, tt), tt)
        shallow s.Atom p = ((one_below, (one_below, tt)), tt)
        shallow s.OpenSquare p = ((one_below, (one_below, tt)), tt)
        shallow s.Fun p = ((one_below, (one_below, tt)), tt)
        shallow s.Text p = ((two_below, tt), tt)
        shallow _ p = absurd cc

        on : (q : Sort) → starts_expression q ≡ true → Is_open (bare_expression d) (next 12 (bare_expression d) t q (itself (bare_expression d)))
        on s.Small p = tt
        on s.Integer p = tt
        on s.Float p = tt
        on s.Char p = tt
        on s.EmptyText p = tt
        on s.Variable p = tt
        on s.OpenCurly p = tt
        on s.Less p = tt
        on s.OpenBinary p = tt
        on s.OpenMap p = tt
        on s.Let p = tt
        on s.Do p = tt
        on s.Case p = tt
        on s.Letrec p = tt
        on s.Apply p = tt
        on s.Call p = tt
        on s.Primop p = tt
        on s.Try p = tt
        on s.Receive p = tt
        on s.Catch p = tt
        on s.Atom p = tt
        on s.OpenSquare p = tt
        on s.Fun p = tt
        on s.Text p = tt
        on _ p = absurd cc

    -- a list without annotation brackets
    module _ (h : q ≡ s.OpenSquare) where
      no_bracket : q ≡ s.OpenRound → ⊥
      no_bracket e = let z : s.OpenSquare ≡ s.OpenRound = sym h ∙ e in absurd cc

      pub expression_list_deep : (x : Bool) → x ≡ too_deep q d → x ≡ true → d ≤ 401 → Refuses (expression d) ts (TooDeep place)
      expression_list_deep x e i r = expression_bare_bad no_bracket (TooDeep place) (bare_expression_deep x e i r true (sym (ap starts_expression h)) refl)

      pub expression_list_bad : (f : PartFault) → Refuses (bare_expression d) ts f → Refuses (expression d) ts f
      expression_list_bad f z = expression_bare_bad no_bracket f z

      pub expression_list : (vs : List Token) (e : m.Tree) (p : ℕ) → ReadsBareExpression d n ts e vs p → ReadsExpression d n ts e vs p
      expression_list vs e p z = expression_bare no_bracket vs e p z

    -- neither a string nor a list
    module _ (g : q ≡ s.Text → ⊥) (h : q ≡ s.OpenSquare → ⊥) where
      other_0 : Goes (bare_expression d) (itself (bare_expression d)) (record { parts = the (other_expression d) ∷ []; build = λ x. x } ∷ []) ts ts
      other_0 = expand (bare_expression d) (bare_expression d) [] (λ x. x) [] ts
          >> expand (bare_expression d) (list d) [] (λ x. m.listed (at x.place) (trees x.items) x.tail) _ ts
          >> drop _ _ _ ts us t b.are (fits_no_other s.Text (sort t) (λ z. absurd cc) (λ z. g (b.sort_is ∙ z)))
          >> drop _ _ _ ts us t b.are (fits_no_other s.OpenSquare (sort t) (λ z. absurd cc) (λ z. h (b.sort_is ∙ z)))

      pub bare_other_bad : (f : PartFault) → Refuses (other_expression d) ts f → Refuses (bare_expression d) ts f
      bare_other_bad f z = refused _ _ [] (λ x. x) ts ts f other_0 ((λ t x. refl), (λ t x. refl), tt) z

      pub bare_other : (vs : List Token) (e : m.Tree) (p : ℕ) → ReadsOtherExpression d n ts e vs p → ReadsBareExpression d n ts e vs p
      bare_other vs e p z = record { says = z.says; passes = other_0 >> through _ _ [] (λ x. x) ts vs z.says z.passes ((λ t x. refl), (λ t x. refl), tt); agrees = z.agrees; single = z.single }

    -- no word or symbol that an expression begins with
    pub other_else : (y : Bool) → y ≡ starts_literal q → y ≡ false → (q ≡ s.Variable → ⊥) → (q ≡ s.Atom → ⊥) → (q ≡ s.OpenSquare → ⊥) → (q ≡ s.OpenCurly → ⊥) → (q ≡ s.Less → ⊥)
        → (q ≡ s.OpenBinary → ⊥) → (q ≡ s.OpenMap → ⊥) → (q ≡ s.Fun → ⊥) → (q ≡ s.Let → ⊥) → (q ≡ s.Do → ⊥) → (q ≡ s.Case → ⊥) → (q ≡ s.Letrec → ⊥) → (q ≡ s.Apply → ⊥)
        → (q ≡ s.Call → ⊥) → (q ≡ s.Primop → ⊥) → (q ≡ s.Try → ⊥) → (q ≡ s.Receive → ⊥) → (q ≡ s.Catch → ⊥) → Stops (other_expression d) (itself (other_expression d)) ts place
    other_else y e h a0 a1 a2 a3 a4 a5 a6 a7 a8 a9 a10 a11 a12 a13 a14 a15 a16 a17 =
        subst (Stops (other_expression d) (itself (other_expression d)) ts) (sym b.place_is) (halted (other_expression d) _ _ ts ts us t (stay (other_expression d) (itself (other_expression d)) ts) b.are tt
        (go (sort t) (ap starts_literal (sym b.sort_is) ∙ sym e ∙ h) (λ z. a0 (b.sort_is ∙ z)) (λ z. a1 (b.sort_is ∙ z)) (λ z. a2 (b.sort_is ∙ z)) (λ z. a3 (b.sort_is ∙ z)) (λ z. a4 (b.sort_is ∙ z))
        (λ z. a5 (b.sort_is ∙ z)) (λ z. a6 (b.sort_is ∙ z)) (λ z. a7 (b.sort_is ∙ z)) (λ z. a8 (b.sort_is ∙ z)) (λ z. a9 (b.sort_is ∙ z)) (λ z. a10 (b.sort_is ∙ z)) (λ z. a11 (b.sort_is ∙ z))
        (λ z. a12 (b.sort_is ∙ z)) (λ z. a13 (b.sort_is ∙ z)) (λ z. a14 (b.sort_is ∙ z)) (λ z. a15 (b.sort_is ∙ z)) (λ z. a16 (b.sort_is ∙ z)) (λ z. a17 (b.sort_is ∙ z))))
      where
        go : (q : Sort) → starts_literal q ≡ false → (q ≡ s.Variable → ⊥) → (q ≡ s.Atom → ⊥) → (q ≡ s.OpenSquare → ⊥) → (q ≡ s.OpenCurly → ⊥) → (q ≡ s.Less → ⊥) → (q ≡ s.OpenBinary → ⊥)
            → (q ≡ s.OpenMap → ⊥) → (q ≡ s.Fun → ⊥) → (q ≡ s.Let → ⊥) → (q ≡ s.Do → ⊥) → (q ≡ s.Case → ⊥) → (q ≡ s.Letrec → ⊥) → (q ≡ s.Apply → ⊥) → (q ≡ s.Call → ⊥)
            → (q ≡ s.Primop → ⊥) → (q ≡ s.Try → ⊥) → (q ≡ s.Receive → ⊥) → (q ≡ s.Catch → ⊥) → Shut (other_expression d) t q (itself (other_expression d))
        go s.Variable h a0 a1 a2 a3 a4 a5 a6 a7 a8 a9 a10 a11 a12 a13 a14 a15 a16 a17 = absurd (a0 refl)
        go s.Atom h a0 a1 a2 a3 a4 a5 a6 a7 a8 a9 a10 a11 a12 a13 a14 a15 a16 a17 = absurd (a1 refl)
        go s.OpenSquare h a0 a1 a2 a3 a4 a5 a6 a7 a8 a9 a10 a11 a12 a13 a14 a15 a16 a17 = absurd (a2 refl)
        go s.OpenCurly h a0 a1 a2 a3 a4 a5 a6 a7 a8 a9 a10 a11 a12 a13 a14 a15 a16 a17 = absurd (a3 refl)
        go s.Less h a0 a1 a2 a3 a4 a5 a6 a7 a8 a9 a10 a11 a12 a13 a14 a15 a16 a17 = absurd (a4 refl)
        go s.OpenBinary h a0 a1 a2 a3 a4 a5 a6 a7 a8 a9 a10 a11 a12 a13 a14 a15 a16 a17 = absurd (a5 refl)
        go s.OpenMap h a0 a1 a2 a3 a4 a5 a6 a7 a8 a9 a10 a11 a12 a13 a14 a15 a16 a17 = absurd (a6 refl)
        go s.Fun h a0 a1 a2 a3 a4 a5 a6 a7 a8 a9 a10 a11 a12 a13 a14 a15 a16 a17 = absurd (a7 refl)
        go s.Let h a0 a1 a2 a3 a4 a5 a6 a7 a8 a9 a10 a11 a12 a13 a14 a15 a16 a17 = absurd (a8 refl)
        go s.Do h a0 a1 a2 a3 a4 a5 a6 a7 a8 a9 a10 a11 a12 a13 a14 a15 a16 a17 = absurd (a9 refl)
        go s.Case h a0 a1 a2 a3 a4 a5 a6 a7 a8 a9 a10 a11 a12 a13 a14 a15 a16 a17 = absurd (a10 refl)
        go s.Letrec h a0 a1 a2 a3 a4 a5 a6 a7 a8 a9 a10 a11 a12 a13 a14 a15 a16 a17 = absurd (a11 refl)
        go s.Apply h a0 a1 a2 a3 a4 a5 a6 a7 a8 a9 a10 a11 a12 a13 a14 a15 a16 a17 = absurd (a12 refl)
        go s.Call h a0 a1 a2 a3 a4 a5 a6 a7 a8 a9 a10 a11 a12 a13 a14 a15 a16 a17 = absurd (a13 refl)
        go s.Primop h a0 a1 a2 a3 a4 a5 a6 a7 a8 a9 a10 a11 a12 a13 a14 a15 a16 a17 = absurd (a14 refl)
        go s.Try h a0 a1 a2 a3 a4 a5 a6 a7 a8 a9 a10 a11 a12 a13 a14 a15 a16 a17 = absurd (a15 refl)
        go s.Receive h a0 a1 a2 a3 a4 a5 a6 a7 a8 a9 a10 a11 a12 a13 a14 a15 a16 a17 = absurd (a16 refl)
        go s.Catch h a0 a1 a2 a3 a4 a5 a6 a7 a8 a9 a10 a11 a12 a13 a14 a15 a16 a17 = absurd (a17 refl)
        go s.Small h a0 a1 a2 a3 a4 a5 a6 a7 a8 a9 a10 a11 a12 a13 a14 a15 a16 a17 = absurd cc
        go s.Integer h a0 a1 a2 a3 a4 a5 a6 a7 a8 a9 a10 a11 a12 a13 a14 a15 a16 a17 = absurd cc
        go s.Float h a0 a1 a2 a3 a4 a5 a6 a7 a8 a9 a10 a11 a12 a13 a14 a15 a16 a17 = absurd cc
        go s.Char h a0 a1 a2 a3 a4 a5 a6 a7 a8 a9 a10 a11 a12 a13 a14 a15 a16 a17 = absurd cc
        go s.EmptyText h a0 a1 a2 a3 a4 a5 a6 a7 a8 a9 a10 a11 a12 a13 a14 a15 a16 a17 = absurd cc
        go _ h a0 a1 a2 a3 a4 a5 a6 a7 a8 a9 a10 a11 a12 a13 a14 a15 a16 a17 = (refl, refl)

    module _ (w : d ≤ depth_limit) where
      pub other_variable : q ≡ s.Variable → (e : m.Tree) → e ≡ m.variable (mark n place) (text t) → ReadsOtherExpression d n ts e us (n + 1)
      other_variable h e g = record {
        says = m.variable (at t.place) (text t);
        passes = taken (other_expression d) (itself (other_expression d)) ts us t s.Variable b.are (sym b.sort_is ∙ h) refl ((w, tt), tt);
        agrees = placed n (λ k. m.variable k (text t)) place t.place b.place_is e g;
        single = λ _. refl;
      }

      -- a literal of one token
      pub other_literal : (y : Bool) → y ≡ starts_literal q → y ≡ true → (e : m.Tree) → e ≡ m.literal (mark n place) (literal_of t) → ReadsOtherExpression d n ts e us (n + 1)
      other_literal y c h e g = go (sort t) refl (ap starts_literal (sym b.sort_is) ∙ sym c ∙ h)
        where
          read : (x : Literal) → literal_of t ≡ x → Passes (other_expression d) ts (m.literal (at t.place) x) us → ReadsOtherExpression d n ts e us (n + 1)
          read x i p = record { says = m.literal (at t.place) x; passes = p; agrees = placed n (λ k. m.literal k x) place t.place b.place_is e (g ∙ ap (λ z. m.literal (mark n place) z) i); single = λ _. refl }

          go : (q : Sort) → sort t ≡ q → starts_literal q ≡ true → ReadsOtherExpression d n ts e us (n + 1)
          go s.Small i j = read (l.Int (value t)) (literal_is t s.Small i refl) (taken (other_expression d) (itself (other_expression d)) ts us t s.Small b.are i refl ((w, tt), tt))
          go s.Integer i j = read (l.Int (value t)) (literal_is t s.Integer i refl) (taken (other_expression d) (itself (other_expression d)) ts us t s.Integer b.are i refl ((w, tt), tt))
          go s.Char i j = read (l.Int (value t)) (literal_is t s.Char i refl) (taken (other_expression d) (itself (other_expression d)) ts us t s.Char b.are i refl ((w, tt), tt))
          go s.Float i j = read (l.Float (text t)) (literal_is t s.Float i refl) (taken (other_expression d) (itself (other_expression d)) ts us t s.Float b.are i refl ((w, tt), tt))
          go s.EmptyText i j = read l.Nil (literal_is t s.EmptyText i refl) (taken (other_expression d) (itself (other_expression d)) ts us t s.EmptyText b.are i refl ((w, tt), tt))
          go _ i j = absurd cc

      -- the empty list
      module _ (h : q ≡ s.OpenSquare) where
        square_0 : Goes (other_expression d) (itself (other_expression d)) (record { parts = a s.CloseSquare ∷ []; build = λ _. nil t.place } ∷ []) ts us
        square_0 = taken (other_expression d) (itself (other_expression d)) ts us t s.OpenSquare b.are (sym b.sort_is ∙ h) refl ((w, tt), tt)

        pub other_nil_bad : (f : PartFault) → Misses s.CloseSquare us f → Refuses (other_expression d) ts f
        other_nil_bad f z = lacking _ s.CloseSquare [] (λ _. nil t.place) ts us f square_0 z

        pub other_nil : (vs : List Token) → Takes s.CloseSquare us vs → (e : m.Tree) → e ≡ m.literal (mark n place) l.Nil → ReadsOtherExpression d n ts e vs (n + 1)
        other_nil vs z e g = record {
          says = nil t.place;
          passes = square_0 >> take_class _ s.CloseSquare [] (λ _. nil t.place) us vs z;
          agrees = placed n (λ k. m.literal k l.Nil) place t.place b.place_is e g;
          single = λ _. refl;
        }

      -- an atom, or a function's name where a slash comes
      module _ (h : q ≡ s.Atom) where
        atom_0 : Goes (other_expression d) (itself (other_expression d)) (record { parts = a s.Slash ∷ a s.Small ∷ []; build = λ _ x. m.local (at t.place) (fun_name t x) } ∷ record {
          parts = [];
          build = m.literal (at t.place) (l.Atom (text t));
        } ∷ []) ts us
        atom_0 = taken (other_expression d) (itself (other_expression d)) ts us t s.Atom b.are (sym b.sort_is ∙ h) refl ((w, (w, tt)), tt)

        module _ (e : m.Tree) (g : e ≡ m.literal (mark n place) (l.Atom (text t))) where
          pub atom_last : length us ≡ 0 → ReadsOtherExpression d n ts e us (n + 1)
          atom_last z = record {
            says = m.literal (at t.place) (l.Atom (text t));
            passes = at_end atom_0 (none_left us z);
            agrees = placed n (λ k. m.literal k (l.Atom (text t))) place t.place b.place_is e g;
            single = λ _. refl;
          }

          pub atom_next : (vs : List Token) (u : Token) → us ≡ u ∷ vs → (sort u ≡ s.Slash → ⊥) → ReadsOtherExpression d n ts e us (n + 1)
          atom_next vs u k z = record {
            says = m.literal (at t.place) (l.Atom (text t));
            passes = atom_0 >> drop _ _ _ us vs u k (fits_no_other s.Slash (sort u) (λ z. absurd cc) z);
            agrees = placed n (λ k. m.literal k (l.Atom (text t))) place t.place b.place_is e g;
            single = λ _. refl;
          }

        module _ (vs : List Token) (u : Token) (k : us ≡ u ∷ vs) (z : sort u ≡ s.Slash) where
          slash_0 : Goes (other_expression d) (itself (other_expression d)) (record { parts = a s.Small ∷ []; build = λ x. m.local (at t.place) (fun_name t x) } ∷ []) ts vs
          slash_0 = atom_0 >> taken (other_expression d) _ us vs u s.Slash k z refl (tt, (tt, tt))

          pub name_end : (f : PartFault) → RanOut vs f → Refuses (other_expression d) ts f
          name_end f y = ran_out (other_expression d) _ ts vs f slash_0 tt refl y

          module _ (ws : List Token) (x : Token) (r : Sort) (at_ : Place) (c : Starts vs x r at_ ws) where
            pub name_bad : (r ≡ s.Small → ⊥) → Stops (other_expression d) (itself (other_expression d)) ts at_
            name_bad y = lacking _ s.Small [] (λ x. m.local (at t.place) (fun_name t x)) ts vs (Syntax at_) slash_0
                (record { first = x; left = ws; are = c.are; place_is = c.place_is; other = fits_no_other s.Small (sort x) (λ z. absurd cc) (λ v. y (c.sort_is ∙ v)) })

            pub name_ok : r ≡ s.Small → (e : m.Tree) → e ≡ m.local (mark n place) (fun_name t x) → ReadsOtherExpression d n ts e ws (n + 1)
            name_ok y e g = record {
              says = m.local (at t.place) (fun_name t x);
              passes = slash_0 >> taken (other_expression d) _ vs ws x s.Small c.are (sym c.sort_is ∙ y) refl (tt, tt);
              agrees = placed n (λ k. m.local k (fun_name t x)) place t.place b.place_is e g;
              single = λ _. refl;
            }
