-- Lists of expressions with elements, whose bare tails that are lists go into them: each way out.
use Rattle.std.proofs.Common.{◌≡◌, ℕ, zero, suc, ◌+◌, ◌≤◌, ◌<◌, List, [], ◌∷◌, ◌++◌, Bool, false, IsTrue, ◌↔◌, refl, sym, ap, ◌∙◌, subst, arith, append_assoc, append-nil, map, add-one, length}
use Rattle.std.proofs.lemmas.Bool.{both_ways}
use Rattle.type_kinds.specs.declared.place.Place.{Place}
use Rattle.core_scan.specs.declared.token.Token.{Token}
use Rattle.core_scan.specs.declared.sort.Sort.{Sort}
use Rattle.core_scan.specs.declared.sort.Sort.TheVariants as s
use Rattle.core_scan.specs.Sorts.{sort}
use Rattle.core_scan.proofs.SortLaws.{fits_no_other}
use Rattle.core_ast.specs.declared.syntax.Note.{Note}
use Rattle.core_ast.specs.declared.syntax.Mark.{Mark}
use Rattle.core_ast.specs.declared.syntax.Expr.{Expr}
use Rattle.core_ast.specs.declared.syntax.Literal.TheVariants as l
use Rattle.core_ast.specs.Model as m
use Rattle.core_ast.specs.Tree.{tree, trees, all_trees}
use Rattle.core_ast.specs.Notes.{note_tree}
use Rattle.core_parse_grammar.specs.declared.fault.PartFault.{PartFault}
use Rattle.core_parse_grammar.specs.Begins.{depth_limit}
use Rattle.core_parse_grammar.specs.Build.{at, text, nil, Items, byte_trees, next_item, only_tail, merged}
use Rattle.core_parse_grammar.specs.Grammar.{a, the, Action, annotation, expression, bare_expression, other_expression, list, list_rest, list_tail}
use Rattle.core_parse_grammar.specs.Labels.{number, labelled}
use Rattle.core_parse_grammar.specs.Track.{Goes, itself, Passes, Stops}
use Rattle.core_parse_grammar.specs.Faults.{Refuses, Starts, Takes, Misses, RanOut, closers}
use Rattle.core_parse_forms.specs.steps.Items.{number_each}
use Rattle.core_parse_grammar.specs.Strings.{labelled_bytes}
use Rattle.core_parse_grammar.specs.Readings.{mark, Ends, ReadsAnnotation, ReadsExpression, ReadsBareExpression, ReadsOtherExpression, ReadsElements}
use Rattle.core_parse_grammar.proofs.Moves.{◌>>◌, expand}
use Rattle.core_parse_grammar.proofs.Places.{taken, halted, Shut, through, refused, lacking, ran_out, take_class, drop, drop_second}
use Rattle.core_parse_forms.proofs.ItemNumbers.{each_append, each_pushed, trees_each, noted_tree_number}
use Rattle.core_parse_forms.proofs.ExpressionExits.{placed}
use Rattle.core_parse_forms.proofs.FormExits.{made}
use Rattle.core_parse_forms.proofs.StringExits.{bytes_are}

-- The elements of a list so far, with the lists that went into it, of which k have to be closed.
pub record Elements (d n : ℕ) (place : Place) (ts left : List Token) (k : ℕ) (items : List Expr) (p : ℕ) : Type 0 where
  pub build : Items m.Tree → Action (closers k) m.Tree
  pub goes : Goes (bare_expression d) (itself (bare_expression d)) (record { parts = the (list_rest d) ∷ closers k; build = build } ∷ []) ts left
  pub raw : List m.Tree
  pub ends : (r : Items m.Tree) → Ends k (build r) (m.listed (at place) (trees (raw ++ r.items)) r.tail)
  pub agrees : number_each number (n + 1) raw ≡ (map tree items, p)

-- one more element
grown_ends : (k : ℕ) (f : Action (closers k) m.Tree) (place : Place) (raw : List m.Tree) (x : m.Tree) (r : Items m.Tree) → Ends k f (m.listed (at place) (trees (raw ++ x ∷ r.items)) r.tail)
    → Ends k f (m.listed (at place) (trees ((raw ++ x ∷ []) ++ r.items)) r.tail)
grown_ends k f place raw x r h = subst (λ z. Ends k f (m.listed (at place) (trees z) r.tail)) (sym (append_assoc raw (x ∷ []) r.items)) h

listed_is : (n p q : ℕ) (k : Mark) (raw done : List m.Tree) (x y : m.Tree) → number_each number (n + 1) raw ≡ (done, p) → number p x ≡ (y, q) → number n (m.listed k (trees raw) x) ≡ (m.listed (labelled n k) (trees done) y, q)
listed_is n p q k raw done x y h e =
    ap (λ (r : m.Trees × ℕ). let z : m.Tree × ℕ = (m.listed (labelled n k) r.0 (number r.1 x).0, (number r.1 x).1) in z) (trees_each (n + 1) raw ∙ ap (λ (r : List m.Tree × ℕ). let z : m.Trees × ℕ = (trees r.0, r.1) in z) h)
    ∙ ap (λ (r : m.Tree × ℕ). let z : m.Tree × ℕ = (m.listed (labelled n k) (trees done) r.0, r.1) in z) e

-- A string that has bytes.
module _ (d n : ℕ) (ts us : List Token) (t : Token) (q : Sort) (place : Place) (b : Starts ts t q place us) (h : q ≡ s.Text) (w : d + 1 ≤ depth_limit) where
  pub string_ok : (none items : List Expr) (k : Mark) (x e : m.Tree) (p : ℕ) → none ≡ [] → map tree items ≡ map tree none ++ labelled_bytes (n + 1) t.place (text t) → p ≡ n + 1 + length (text t)
      → x ≡ m.literal (mark p place) l.Nil → k ≡ mark n place → e ≡ m.listed k (all_trees items) x → ReadsBareExpression d n ts e us (p + 1)
  string_ok none items k x e p o i j y f g = record {
    says = m.listed (at t.place) (trees (byte_trees t.place (text t))) (nil t.place);
    passes = taken (bare_expression d) (itself (bare_expression d)) ts us t s.Text b.are (sym b.sort_is ∙ h) refl ((w, tt), tt);
    agrees = listed_is n p (p + 1) (at t.place) (byte_trees t.place (text t)) (map tree items) (nil t.place) x
        (bytes_are (n + 1) p t.place (text t) (map tree items) (i ∙ ap (λ z. map tree z ++ labelled_bytes (n + 1) t.place (text t)) o) j)
        (placed p (λ k. m.literal k l.Nil) place t.place b.place_is x y)
        ∙ made (p + 1) (λ k. m.listed k (all_trees items) x) n place t.place b.place_is e (g ∙ ap (λ z. m.listed z (all_trees items) x) f);
    single = λ _. refl;
  }

module _ (d n : ℕ) (ts us : List Token) (t : Token) (q : Sort) (place : Place) (b : Starts ts t q place us) (h : q ≡ s.OpenSquare) (w : d ≤ depth_limit) where
  square_0 : Goes (bare_expression d) (itself (bare_expression d)) (record { parts = the (expression (d + 1)) ∷ the (list_rest d) ∷ []; build = λ x r. m.listed (at t.place) (trees (x ∷ r.items)) r.tail }
      ∷ record { parts = a s.CloseSquare ∷ []; build = λ _. nil t.place } ∷ []) ts us
  square_0 = taken (bare_expression d) (itself (bare_expression d)) ts us t s.OpenSquare b.are (sym b.sort_is ∙ h) refl ((w, (w, tt)), tt)

  pub list_open_end : (f : PartFault) → RanOut us f → Refuses (bare_expression d) ts f
  list_open_end f z = ran_out (bare_expression d) _ ts us f square_0 tt refl z

  module _ (vs : List Token) (u : Token) (r : Sort) (at_ : Place) (c : Starts us u r at_ vs) where
    pub list_nil : r ≡ s.CloseSquare → (e : m.Tree) → e ≡ m.literal (mark n place) l.Nil → ReadsBareExpression d n ts e vs (n + 1)
    list_nil z e g = record {
      says = nil t.place;
      passes = square_0 >> taken (bare_expression d) _ us vs u s.CloseSquare c.are (sym c.sort_is ∙ z) refl (tt, (tt, tt));
      agrees = placed n (λ k. m.literal k l.Nil) place t.place b.place_is e g;
      single = λ _. refl;
    }

    module _ (z : r ≡ s.CloseSquare → ⊥) where
      square_1 : Goes (bare_expression d) (itself (bare_expression d)) (record { parts = the (expression (d + 1)) ∷ the (list_rest d) ∷ []; build = λ x r. m.listed (at t.place) (trees (x ∷ r.items)) r.tail } ∷ []) ts us
      square_1 = square_0 >> drop_second _ _ _ _ us vs u c.are (fits_no_other s.CloseSquare (sort u) (λ y. absurd cc) (λ y. z (c.sort_is ∙ y)))

      pub list_first_bad : (f : PartFault) → Refuses (expression (d + 1)) us f → Refuses (bare_expression d) ts f
      list_first_bad f y = refused _ _ (the (list_rest d) ∷ []) (λ x r. m.listed (at t.place) (trees (x ∷ r.items)) r.tail) ts us f square_1 ((λ t x. refl), (λ t x. refl), tt) y

      pub list_first_item : (ws : List Token) (x : Expr) (items grown : List Expr) (p : ℕ) → items ≡ [] → grown ≡ items ++ x ∷ [] → ReadsExpression (d + 1) (n + 1) us (tree x) ws p → Elements d n place ts ws 0 grown p
      list_first_item ws x items grown p y g v = record {
        build = λ r. m.listed (at t.place) (trees (v.says ∷ r.items)) r.tail;
        goes = square_1 >> through _ _ (the (list_rest d) ∷ []) (λ x r. m.listed (at t.place) (trees (x ∷ r.items)) r.tail) us ws v.says v.passes ((λ t x. refl), (λ t x. refl), tt);
        raw = v.says ∷ [];
        ends = λ r. ap (λ z. m.listed (at z) (trees (v.says ∷ r.items)) r.tail) (sym b.place_is);
        agrees = each_pushed number tree (n + 1) (n + 1) p [] [] grown v.says x (g ∙ ap (λ z. z ++ x ∷ []) y) refl v.agrees;
      }

module _ (d n : ℕ) (place : Place) (ts us : List Token) (k : ℕ) (items : List Expr) (p : ℕ) (w : d + 1 ≤ depth_limit) (e : Elements d n place ts us k items p) where
  pub list_ran_out : (f : PartFault) → RanOut us f → Refuses (bare_expression d) ts f
  list_ran_out f z = ran_out (bare_expression d) _ ts us f e.goes tt refl z

  module _ (vs : List Token) (t : Token) (q : Sort) (here : Place) (b : Starts us t q here vs) where
    -- no token that a list goes on with
    pub list_stuck : (q ≡ s.CloseSquare → ⊥) → (q ≡ s.Comma → ⊥) → (q ≡ s.Bar → ⊥) → Stops (bare_expression d) (itself (bare_expression d)) ts here
    list_stuck x y z = subst (Stops (bare_expression d) (itself (bare_expression d)) ts) (sym b.place_is)
        (halted (bare_expression d) _ _ ts us vs t e.goes b.are tt (go (sort t) (λ v. x (b.sort_is ∙ v)) (λ v. y (b.sort_is ∙ v)) (λ v. z (b.sort_is ∙ v))))
      where
        go : (q : Sort) → (q ≡ s.CloseSquare → ⊥) → (q ≡ s.Comma → ⊥) → (q ≡ s.Bar → ⊥) → Shut (bare_expression d) t q (record { parts = the (list_rest d) ∷ closers k; build = e.build } ∷ [])
        go s.CloseSquare x y z = absurd (x refl)
        go s.Comma x y z = absurd (y refl)
        go s.Bar x y z = absurd (z refl)
        go _ x y z = (refl, refl)

    -- the list ends without a tail
    pub list_shut : q ≡ s.CloseSquare → (x : m.Tree) → x ≡ m.literal (mark p here) l.Nil → ReadsElements d n place ts k (all_trees items) x vs (p + 1)
    list_shut h x g = record {
      build = e.build (only_tail (nil t.place));
      goes = e.goes >> taken (bare_expression d) _ us vs t s.CloseSquare b.are (sym b.sort_is ∙ h) refl (tt, tt);
      raw = e.raw;
      raw_tail = nil t.place;
      ends = subst (λ z. Ends k (e.build (only_tail (nil t.place))) (m.listed (at place) (trees z) (nil t.place))) (append-nil e.raw) (e.ends (only_tail (nil t.place)));
      agrees = listed_is n p (p + 1) (at place) e.raw (map tree items) (nil t.place) x e.agrees (placed p (λ k. m.literal k l.Nil) here t.place b.place_is x g);
    }

    -- a comma, and one more element
    module _ (h : q ≡ s.Comma) where
      comma_0 : Goes (bare_expression d) (itself (bare_expression d)) (record { parts = the (expression (d + 1)) ∷ the (list_rest d) ∷ closers k; build = λ x r. e.build (next_item x r) } ∷ []) ts vs
      comma_0 = e.goes >> taken (bare_expression d) _ us vs t s.Comma b.are (sym b.sort_is ∙ h) refl (tt, tt)

      pub list_comma_bad : (f : PartFault) → Refuses (expression (d + 1)) vs f → Refuses (bare_expression d) ts f
      list_comma_bad f z = refused _ _ (the (list_rest d) ∷ closers k) (λ x r. e.build (next_item x r)) ts vs f comma_0 ((λ t x. refl), (λ t x. refl), tt) z

      pub list_item : (ws : List Token) (x : Expr) (grown : List Expr) (o : ℕ) → grown ≡ items ++ x ∷ [] → ReadsExpression (d + 1) p vs (tree x) ws o → Elements d n place ts ws k grown o
      list_item ws x grown o g v = record {
        build = λ r. e.build (next_item v.says r);
        goes = comma_0 >> through _ _ (the (list_rest d) ∷ closers k) (λ x r. e.build (next_item x r)) vs ws v.says v.passes ((λ t x. refl), (λ t x. refl), tt);
        raw = e.raw ++ v.says ∷ [];
        ends = λ r. grown_ends k (e.build (next_item v.says r)) place e.raw v.says r (e.ends (next_item v.says r));
        agrees = each_pushed number tree (n + 1) p o e.raw items grown v.says x g e.agrees v.agrees;
      }

    -- a bar, and a tail
    module _ (h : q ≡ s.Bar) where
      bar_0 : Goes (bare_expression d) (itself (bare_expression d)) (record { parts = the (list_tail d) ∷ a s.CloseSquare ∷ closers k; build = λ r _. e.build r } ∷ []) ts vs
      bar_0 = e.goes >> taken (bare_expression d) _ us vs t s.Bar b.are (sym b.sort_is ∙ h) refl (tt, tt)

      pub list_bar_end : (f : PartFault) → RanOut vs f → Refuses (bare_expression d) ts f
      list_bar_end f z = ran_out (bare_expression d) _ ts vs f bar_0 tt refl z

      module _ (ws : List Token) (u : Token) (r : Sort) (there : Place) (c : Starts vs u r there ws) where
        -- a string: its bytes go into the list
        module _ (g : r ≡ s.Text) where
          pub list_text : (grown : List Expr) (x : m.Tree) (o : ℕ) → map tree grown ≡ map tree items ++ labelled_bytes p u.place (text u) → o ≡ p + length (text u) → x ≡ m.literal (mark o there) l.Nil
              → ReadsElements d n place ts (suc k) (all_trees grown) x ws (o + 1)
          list_text grown x o i j y = record {
            build = λ _. e.build (record { items = byte_trees u.place (text u); tail = nil u.place });
            goes = bar_0 >> taken (bare_expression d) _ vs ws u s.Text c.are (sym c.sort_is ∙ g) refl ((w, tt), tt);
            raw = e.raw ++ byte_trees u.place (text u);
            raw_tail = nil u.place;
            ends = λ _. e.ends (record { items = byte_trees u.place (text u); tail = nil u.place });
            agrees = listed_is n o (o + 1) (at place) (e.raw ++ byte_trees u.place (text u)) (map tree grown) (nil u.place) x
                (each_append number (n + 1) p o e.raw (byte_trees u.place (text u)) (map tree items) (labelled_bytes p u.place (text u)) e.agrees
                (bytes_are p o u.place (text u) (labelled_bytes p u.place (text u)) refl j)
                ∙ ap (λ z. let v : List m.Tree × ℕ = (z, o) in v) (sym i))
                (placed o (λ k. m.literal k l.Nil) there u.place c.place_is x y);
          }

        -- a list: its elements go into the list
        module _ (g : r ≡ s.OpenSquare) where
          inner_0 : Goes (bare_expression d) (itself (bare_expression d)) (record { parts = the (expression (d + 1)) ∷ the (list_rest d) ∷ a s.CloseSquare ∷ closers k; build = λ x r _. e.build (next_item x r) }
              ∷ record { parts = a s.CloseSquare ∷ a s.CloseSquare ∷ closers k; build = λ _ _. e.build (only_tail (nil u.place)) } ∷ []) ts ws
          inner_0 = bar_0 >> taken (bare_expression d) _ vs ws u s.OpenSquare c.are (sym c.sort_is ∙ g) refl ((omega (arith, w), (w, tt)), tt)

          pub list_inner_end : (f : PartFault) → RanOut ws f → Refuses (bare_expression d) ts f
          list_inner_end f z = ran_out (bare_expression d) _ ts ws f inner_0 tt refl z

          module _ (xs : List Token) (v : Token) (o : Sort) (third : Place) (y : Starts ws v o third xs) where
            pub list_tail_nil : o ≡ s.CloseSquare → (x : m.Tree) → x ≡ m.literal (mark p there) l.Nil → ReadsElements d n place ts (suc k) (all_trees items) x xs (p + 1)
            list_tail_nil z x f = record {
              build = λ _. e.build (only_tail (nil u.place));
              goes = inner_0 >> taken (bare_expression d) _ ws xs v s.CloseSquare y.are (sym y.sort_is ∙ z) refl (tt, (tt, tt));
              raw = e.raw;
              raw_tail = nil u.place;
              ends = λ _. subst (λ z. Ends k (e.build (only_tail (nil u.place))) (m.listed (at place) (trees z) (nil u.place))) (append-nil e.raw) (e.ends (only_tail (nil u.place)));
              agrees = listed_is n p (p + 1) (at place) e.raw (map tree items) (nil u.place) x e.agrees (placed p (λ k. m.literal k l.Nil) there u.place c.place_is x f);
            }

            module _ (z : o ≡ s.CloseSquare → ⊥) where
              inner_1 : Goes (bare_expression d) (itself (bare_expression d)) (record { parts = the (expression (d + 1)) ∷ the (list_rest d) ∷ a s.CloseSquare ∷ closers k; build = λ x r _. e.build (next_item x r) } ∷ []) ts ws
              inner_1 = inner_0 >> drop_second _ _ _ _ ws xs v y.are (fits_no_other s.CloseSquare (sort v) (λ f. absurd cc) (λ f. z (y.sort_is ∙ f)))

              pub list_merge_bad : (f : PartFault) → Refuses (expression (d + 1)) ws f → Refuses (bare_expression d) ts f
              list_merge_bad f i = refused _ _ (the (list_rest d) ∷ a s.CloseSquare ∷ closers k) (λ x r _. e.build (next_item x r)) ts ws f inner_1 ((λ t x. refl), (λ t x. refl), tt) i

              pub list_merge : (zs : List Token) (x : Expr) (grown : List Expr) (i : ℕ) → grown ≡ items ++ x ∷ [] → ReadsExpression (d + 1) p ws (tree x) zs i → Elements d n place ts zs (suc k) grown i
              list_merge zs x grown i f j = record {
                build = λ r _. e.build (next_item j.says r);
                goes = inner_1 >> through _ _ (the (list_rest d) ∷ a s.CloseSquare ∷ closers k) (λ x r _. e.build (next_item x r)) ws zs j.says j.passes ((λ t x. refl), (λ t x. refl), tt);
                raw = e.raw ++ j.says ∷ [];
                ends = λ r _. grown_ends k (e.build (next_item j.says r)) place e.raw j.says r (e.ends (next_item j.says r));
                agrees = each_pushed number tree (n + 1) p i e.raw items grown j.says x f e.agrees j.agrees;
              }

        -- a tail in annotation brackets
        module _ (g : r ≡ s.OpenRound) where
          round_0 : Goes (bare_expression d) (itself (bare_expression d)) (record { parts = the (bare_expression (d + 1)) ∷ the annotation ∷ a s.CloseSquare ∷ closers k; build = λ x o _. e.build (only_tail (note_tree o x)) } ∷ [])
              ts ws
          round_0 = bar_0 >> taken (bare_expression d) _ vs ws u s.OpenRound c.are (sym c.sort_is ∙ g) refl (tt, tt)

          pub list_round_bad : (f : PartFault) → Refuses (bare_expression (d + 1)) ws f → Refuses (bare_expression d) ts f
          list_round_bad f z = refused _ _ (the annotation ∷ a s.CloseSquare ∷ closers k) (λ x o _. e.build (only_tail (note_tree o x))) ts ws f round_0 ((λ t x. refl), (λ t x. refl), tt) z

          module _ (xs : List Token) (x : m.Tree) (o : ℕ) (v : ReadsBareExpression (d + 1) p ws x xs o) where
            round_1 : Goes (bare_expression d) (itself (bare_expression d)) (record { parts = the annotation ∷ a s.CloseSquare ∷ closers k; build = λ o _. e.build (only_tail (note_tree o v.says)) } ∷ []) ts xs
            round_1 = round_0 >> through _ _ (the annotation ∷ a s.CloseSquare ∷ closers k) (λ x o _. e.build (only_tail (note_tree o x))) ws xs v.says v.passes ((λ t x. refl), (λ t x. refl), tt)

            pub list_note_bad : (f : PartFault) → Refuses annotation xs f → Refuses (bare_expression d) ts f
            list_note_bad f z = refused _ _ (a s.CloseSquare ∷ closers k) (λ o _. e.build (only_tail (note_tree o v.says))) ts xs f round_1 ((λ t x. refl), (λ t x. refl), tt) z

            pub list_noted : (zs : List Token) (i : Note) (y : m.Tree) → y ≡ note_tree i x → ReadsAnnotation xs i zs → ReadsElements d n place ts (suc k) (all_trees items) y zs o
            list_noted zs i y f z = record {
              build = λ _. e.build (only_tail (note_tree z.says v.says));
              goes = round_1 >> through _ _ (a s.CloseSquare ∷ closers k) (λ o _. e.build (only_tail (note_tree o v.says))) xs zs z.says z.passes ((λ t x. refl), (λ t x. refl), tt);
              raw = e.raw;
              raw_tail = note_tree z.says v.says;
              ends = λ _. subst (λ j. Ends k (e.build (only_tail (note_tree z.says v.says))) (m.listed (at place) (trees j) (note_tree z.says v.says))) (append-nil e.raw) (e.ends (only_tail (note_tree z.says v.says)));
              agrees = listed_is n p o (at place) e.raw (map tree items) (note_tree z.says v.says) y e.agrees
                  (ap (λ k. number p (note_tree k v.says)) z.agrees ∙ noted_tree_number p i v.says ∙ ap (λ (r : m.Tree × ℕ). let w : m.Tree × ℕ = (note_tree i r.0, r.1) in w) v.agrees
                  ∙ ap (λ x. let w : m.Tree × ℕ = (x, o) in w) (sym f));
            }

        -- any other tail
        module _ (g : r ≡ s.OpenSquare → ⊥) (z : r ≡ s.OpenRound → ⊥) (y : r ≡ s.Text → ⊥) where
          tail_0 : Goes (bare_expression d) (itself (bare_expression d)) (record { parts = the (other_expression (d + 1)) ∷ a s.CloseSquare ∷ closers k; build = λ x _. e.build (only_tail x) } ∷ []) ts vs
          tail_0 = bar_0 >> expand (bare_expression d) (list_tail d) (a s.CloseSquare ∷ closers k) (λ r _. e.build r) [] vs
              >> expand (bare_expression d) (list d) (a s.CloseSquare ∷ closers k) (λ r _. e.build (merged r)) _ vs
              >> drop _ _ _ vs ws u c.are (fits_no_other s.Text (sort u) (λ v. absurd cc) (λ v. y (c.sort_is ∙ v)))
              >> drop _ _ _ vs ws u c.are (fits_no_other s.OpenSquare (sort u) (λ v. absurd cc) (λ v. g (c.sort_is ∙ v)))
              >> drop_second _ _ _ _ vs ws u c.are (fits_no_other s.OpenRound (sort u) (λ v. absurd cc) (λ v. z (c.sort_is ∙ v)))

          pub list_tail_bad : (f : PartFault) → Refuses (other_expression (d + 1)) vs f → Refuses (bare_expression d) ts f
          list_tail_bad f i = refused _ _ (a s.CloseSquare ∷ closers k) (λ x _. e.build (only_tail x)) ts vs f tail_0 ((λ t x. refl), (λ t x. refl), tt) i

          pub list_tailed : (xs : List Token) (x : m.Tree) (o : ℕ) → ReadsOtherExpression (d + 1) p vs x xs o → ReadsElements d n place ts (suc k) (all_trees items) x xs o
          list_tailed xs x o v = record {
            build = λ _. e.build (only_tail v.says);
            goes = tail_0 >> through _ _ (a s.CloseSquare ∷ closers k) (λ x _. e.build (only_tail x)) vs xs v.says v.passes ((λ t x. refl), (λ t x. refl), tt);
            raw = e.raw;
            raw_tail = v.says;
            ends = λ _. subst (λ z. Ends k (e.build (only_tail v.says)) (m.listed (at place) (trees z) v.says)) (append-nil e.raw) (e.ends (only_tail v.says));
            agrees = listed_is n p o (at place) e.raw (map tree items) v.says x e.agrees v.agrees;
          }

-- The closing brackets.
module _ (d n : ℕ) (place : Place) (ts us : List Token) (items : m.Trees) (tail : m.Tree) (p : ℕ) where
  pub list_unclosed : (k : ℕ) → 0 < k → ReadsElements d n place ts k items tail us p → (f : PartFault) → Misses s.CloseSquare us f → Refuses (bare_expression d) ts f
  list_unclosed zero h e f z = absurd (omega arith)
  list_unclosed (suc k) h e f z = lacking _ s.CloseSquare (closers k) e.build ts us f e.goes z

  pub list_closes : (k j : ℕ) → j + 1 ≡ k → ReadsElements d n place ts k items tail us p → (vs : List Token) → Takes s.CloseSquare us vs → ReadsElements d n place ts j items tail vs p
  list_closes zero j h e vs z = absurd (omega arith)
  list_closes (suc k) j h e vs z = subst (λ i. ReadsElements d n place ts i items tail vs p) (omega arith) (record {
    build = e.build z.first;
    goes = e.goes >> take_class _ s.CloseSquare (closers k) e.build us vs z;
    raw = e.raw;
    raw_tail = e.raw_tail;
    ends = e.ends z.first;
    agrees = e.agrees;
  })

  pub list_done : (k : ℕ) → k ≡ 0 → ReadsElements d n place ts k items tail us p → (o : Mark) (x : m.Tree) → o ≡ mark n place → x ≡ m.listed o items tail → ReadsBareExpression d n ts x us p
  list_done (suc k) h e o x f g = absurd (omega arith)
  list_done zero h e o x f g = record {
    says = m.listed (at place) (trees e.raw) e.raw_tail;
    passes = subst (λ z. Passes (bare_expression d) ts z us) e.ends e.goes;
    agrees = e.agrees ∙ ap (λ z. let w : m.Tree × ℕ = (z, p) in w) (sym (g ∙ ap (λ z. m.listed z items tail) f));
    single = λ _. refl;
  }

-- the code's test on a sort
pub not_this_sort : {x : Bool} {p q : Sort} → x ≡ false → IsTrue x ↔ (p ≡ q) → p ≡ q → ⊥
not_this_sort e h g = both_ways _ e (h.1 g)

-- the code's count
pub one_more : {d n : ℕ} {place : Place} {ts left : List Token} (k : ℕ) {items : m.Trees} {tail : m.Tree} {p : ℕ} → ReadsElements d n place ts (suc k) items tail left p → ReadsElements d n place ts (k + 1) items tail left p
one_more {d} {n} {place} {ts} {left} k {items} {tail} {p} e = subst (λ j. ReadsElements d n place ts j items tail left p) (sym (add-one k)) e

pub one_deeper : {d n : ℕ} {place : Place} {ts left : List Token} (k : ℕ) {items : List Expr} {p : ℕ} → Elements d n place ts left (suc k) items p → Elements d n place ts left (k + 1) items p
one_deeper {d} {n} {place} {ts} {left} k {items} {p} e = subst (λ j. Elements d n place ts left j items p) (sym (add-one k)) e
