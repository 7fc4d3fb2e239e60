-- Patterns that are lists with elements, whose bare tails are merged: each way out.
use Rattle.std.proofs.Common.{◌≡◌, ℕ, zero, suc, ◌+◌, ◌≤◌, ◌<◌, List, [], ◌∷◌, ◌++◌, Bool, true, false, refl, sym, ap, ◌∙◌, subst, arith, append_assoc, append-nil, map, add-one, length}
use Rattle.type_kinds.specs.declared.place.Place.{Place}
use Rattle.core_scan.specs.declared.token.Token.{Token}
use Rattle.core_scan.specs.declared.sort.Sort.{Sort}
use Rattle.core_scan.specs.declared.sort.Sort.TheVariants as s
use Rattle.core_scan.specs.Sorts.{sort}
use Rattle.core_scan.proofs.SortLaws.{fits_no_other}
use Rattle.core_ast.specs.declared.syntax.Mark.{Mark}
use Rattle.core_ast.specs.declared.syntax.Pattern.{Pattern}
use Rattle.core_ast.specs.declared.syntax.Literal.TheVariants as l
use Rattle.core_ast.specs.Model as m
use Rattle.core_ast.specs.Tree as lists
use Rattle.core_ast.specs.Tree.{pattern_tree, all_patterns}
use Rattle.core_parse_grammar.specs.declared.fault.PartFault.{PartFault}
use Rattle.core_parse_grammar.specs.Begins.{depth_limit}
use Rattle.core_parse_grammar.specs.Build.{at, text, Items, nil_pattern, byte_patterns, string_patterns, next_item, only_tail, merged}
use Rattle.core_parse_grammar.specs.Grammar.{a, the, Action, pattern, bare_pattern, other_pattern, pattern_list, pattern_rest, pattern_tail}
use Rattle.core_parse_grammar.specs.Labels.{number_pattern}
use Rattle.core_parse_grammar.specs.Track.{Goes, itself, Passes, Stops, Sinks, next, Shallow, Then, passed, deeper_limit}
use Rattle.core_parse_grammar.specs.Faults.{Refuses, Starts, Takes, Misses, RanOut, closers}
use Rattle.core_parse_forms.specs.steps.Items.{number_each}
use Rattle.core_parse_grammar.specs.Readings.{mark, ReadsPattern, ReadsBarePattern, ReadsPatternElements, EndsPattern}
use Rattle.core_parse_forms.specs.steps.Patterns.{in_brackets, closed, ReadsOtherPattern, ReadsInBrackets, RefusesInBrackets}
use Rattle.core_parse_grammar.specs.Strings.{labelled_byte_patterns}
use Rattle.core_parse_grammar.proofs.Moves.{◌>>◌, stay, expand, sink_at, Is_open, Deep}
use Rattle.core_parse_grammar.proofs.Places.{taken, halted, Shut, through, refused, lacking, ran_out, take_class, drop, drop_second}
use Rattle.core_parse_forms.proofs.Branches.{swapped}
use Rattle.core_parse_forms.proofs.ItemNumbers.{each_pushed, each_append, list_of_is}
use Rattle.core_parse_forms.proofs.StringExits.{byte_patterns_are}

-- The elements of a list so far, with the lists merged into it, of which k have to be closed.
pub record PatternElements (d n : ℕ) (place : Place) (ts left : List Token) (k : ℕ) (items : List Pattern) (p : ℕ) : Type 0 where
  pub build : Items m.Pattern → Action (closers k) m.Pattern
  pub goes : Goes (bare_pattern d) (itself (bare_pattern d)) (record { parts = the (pattern_rest d) ∷ closers k; build = build } ∷ []) ts left
  pub raw : List m.Pattern
  pub ends : (r : Items m.Pattern) → EndsPattern k (build r) (m.list_of (at place) (lists.patterns (raw ++ r.items)) r.tail)
  pub agrees : number_each number_pattern (n + 1) raw ≡ (map pattern_tree items, p)

-- elements that move to the front of what is left
moved : (k : ℕ) (f : Action (closers k) m.Pattern) (place : Place) (raw more rest : List m.Pattern) (x : m.Pattern) → EndsPattern k f (m.list_of (at place) (lists.patterns (raw ++ (more ++ rest))) x)
    → EndsPattern k f (m.list_of (at place) (lists.patterns ((raw ++ more) ++ rest)) x)
moved k f place raw more rest x h = subst (λ z. EndsPattern k f (m.list_of (at place) (lists.patterns z) x)) (sym (append_assoc raw more rest)) h

placed : (n : ℕ) (f : Mark → m.Pattern) (p q : Place) → p ≡ q → (e : m.Pattern) → e ≡ f (mark n p) → (let z : m.Pattern × ℕ = (f (mark n q), n + 1) in z) ≡ (e, n + 1)
placed n f p q h e g = ap (λ x. let z : m.Pattern × ℕ = (x, n + 1) in z) (ap (λ x. f (mark n x)) (sym h) ∙ sym g)

module _ (d n : ℕ) (ts us : List Token) (t : Token) (q : Sort) (place : Place) (b : Starts ts t q place us) where
  -- a string
  module _ (h : q ≡ s.Text) where
    pub pattern_string_deep : d ≡ depth_limit → Sinks (bare_pattern d) (itself (bare_pattern d)) ts place
    pattern_string_deep w = subst (Sinks (bare_pattern d) (itself (bare_pattern d)) ts) (sym b.place_is)
        (sink_at 12 (bare_pattern d) (itself (bare_pattern d)) (itself (bare_pattern d)) ts us t
        (subst (λ x. Goes (bare_pattern d) (itself (bare_pattern d)) (itself (bare_pattern d)) ts x) b.are (stay (bare_pattern d) (itself (bare_pattern d)) ts)) tt
        (subst (λ k. Deep 12 (bare_pattern d) t k (itself (bare_pattern d)) depth_limit) (sym (sym b.sort_is ∙ h)) ((omega (arith, w), tt), tt))
        (subst (λ k. Shallow 12 (bare_pattern d) t k (itself (bare_pattern d)) deeper_limit) (sym (sym b.sort_is ∙ h)) ((omega (arith, w), tt), tt))
        (subst (λ k. Is_open (bare_pattern d) (next 12 (bare_pattern d) t k (itself (bare_pattern d)))) (sym (sym b.sort_is ∙ h)) tt))

    pub pattern_string : d + 1 ≤ depth_limit → (none items : List Pattern) (k : Mark) (tail made : m.Pattern) (r : ℕ) → none ≡ []
        → map pattern_tree items ≡ map pattern_tree none ++ labelled_byte_patterns (n + 1) t.place (text t) → r ≡ n + 1 + length (text t) → tail ≡ m.equals (mark r place) l.Nil
        → k ≡ mark n place → made ≡ m.list_of k (all_patterns items) tail → ReadsBarePattern d n ts made us (r + 1)
    pattern_string w none items k tail made r o i j f e g = record {
      says = m.list_of (at t.place) (lists.patterns (byte_patterns t.place (text t))) (nil_pattern t.place);
      passes = taken (bare_pattern d) (itself (bare_pattern d)) ts us t s.Text b.are (sym b.sort_is ∙ h) refl ((w, tt), tt);
      agrees = list_of_is n r (r + 1) (at t.place) (byte_patterns t.place (text t)) (map pattern_tree items) (nil_pattern t.place) tail
          (byte_patterns_are (n + 1) r t.place (text t) (map pattern_tree items) (i ∙ ap (λ z. map pattern_tree z ++ labelled_byte_patterns (n + 1) t.place (text t)) o) j)
          (placed r (λ k. m.equals k l.Nil) place t.place b.place_is tail f)
          ∙ ap (λ (z : Place). let w : m.Pattern × ℕ = (m.list_of (mark n z) (all_patterns items) tail, r + 1) in w) (sym b.place_is)
          ∙ ap (λ z. let w : m.Pattern × ℕ = (z, r + 1) in w) (sym (g ∙ ap (λ z. m.list_of z (all_patterns items) tail) e));
    }

  module _ (h : q ≡ s.OpenSquare) (w : d ≤ depth_limit) where
    list_square : Goes (bare_pattern d) (itself (bare_pattern d)) (record { parts = the (pattern (d + 1)) ∷ the (pattern_rest d) ∷ []; build = λ x r. m.list_of (at t.place) (lists.patterns (x ∷ r.items)) r.tail }
        ∷ record { parts = a s.CloseSquare ∷ []; build = λ _. nil_pattern t.place } ∷ []) ts us
    list_square = taken (bare_pattern d) (itself (bare_pattern d)) ts us t s.OpenSquare b.are (sym b.sort_is ∙ h) refl ((w, (w, tt)), tt)

    pub pattern_list_open_end : (f : PartFault) → RanOut us f → Refuses (bare_pattern d) ts f
    pattern_list_open_end f z = ran_out (bare_pattern d) _ ts us f list_square tt refl z

    module _ (vs : List Token) (u : Token) (r : Sort) (at_ : Place) (c : Starts us u r at_ vs) where
      pub pattern_list_nil : r ≡ s.CloseSquare → (e : m.Pattern) → e ≡ m.equals (mark n place) l.Nil → ReadsBarePattern d n ts e vs (n + 1)
      pattern_list_nil z e g = record {
        says = nil_pattern t.place;
        passes = list_square >> taken (bare_pattern d) _ us vs u s.CloseSquare c.are (sym c.sort_is ∙ z) refl (tt, (tt, tt));
        agrees = placed n (λ k. m.equals k l.Nil) place t.place b.place_is e g;
      }

      module _ (z : r ≡ s.CloseSquare → ⊥) where
        list_items : Goes (bare_pattern d) (itself (bare_pattern d)) (record { parts = the (pattern (d + 1)) ∷ the (pattern_rest d) ∷ []; build = λ x r. m.list_of (at t.place) (lists.patterns (x ∷ r.items)) r.tail } ∷ []) ts us
        list_items = list_square >> drop_second _ _ _ _ us vs u c.are (fits_no_other s.CloseSquare (sort u) (λ y. absurd cc) (λ y. z (c.sort_is ∙ y)))

        pub pattern_list_first_bad : (f : PartFault) → Refuses (pattern (d + 1)) us f → Refuses (bare_pattern d) ts f
        pattern_list_first_bad f y = refused _ _ (the (pattern_rest d) ∷ []) (λ x r. m.list_of (at t.place) (lists.patterns (x ∷ r.items)) r.tail) ts us f list_items ((λ t x. refl), (λ t x. refl), tt) y

        pub pattern_list_first_item : (ws : List Token) (x : Pattern) (items grown : List Pattern) (p : ℕ) → items ≡ [] → grown ≡ items ++ x ∷ [] → ReadsPattern (d + 1) (n + 1) us (pattern_tree x) ws p
            → PatternElements d n place ts ws 0 grown p
        pattern_list_first_item ws x items grown p y g v = record {
          build = λ r. m.list_of (at t.place) (lists.patterns (v.says ∷ r.items)) r.tail;
          goes = list_items >> through _ _ (the (pattern_rest d) ∷ []) (λ x r. m.list_of (at t.place) (lists.patterns (x ∷ r.items)) r.tail) us ws v.says v.passes ((λ t x. refl), (λ t x. refl), tt);
          raw = v.says ∷ [];
          ends = λ r. ap (λ z. m.list_of (at z) (lists.patterns (v.says ∷ r.items)) r.tail) (sym b.place_is);
          agrees = each_pushed number_pattern pattern_tree (n + 1) (n + 1) p [] [] grown v.says x (g ∙ ap (λ z. z ++ x ∷ []) y) refl v.agrees;
        }

module _ (d n : ℕ) (place : Place) (ts us : List Token) (k : ℕ) (items : List Pattern) (p : ℕ) (e : PatternElements d n place ts us k items p) where
  -- the list ends in this tail
  ended_by : (j : ℕ) (xs : List Token) (o : ℕ) (build : Action (closers j) m.Pattern) (more : List m.Pattern) (all : m.Patterns) (x tail : m.Pattern)
      → Goes (bare_pattern d) (itself (bare_pattern d)) (record { parts = closers j; build = build } ∷ []) ts xs
      → EndsPattern j build (m.list_of (at place) (lists.patterns (e.raw ++ more)) x) → number_pattern n (m.list_of (at place) (lists.patterns (e.raw ++ more)) x) ≡ (m.list_of (mark n place) all tail, o)
      → ReadsPatternElements d n place ts j all tail xs o
  ended_by j xs o build more all x tail g h i = record { build = build; goes = g; raw = e.raw ++ more; raw_tail = x; ends = h; agrees = i }

  no_more : number_each number_pattern (n + 1) (e.raw ++ []) ≡ (map pattern_tree items, p)
  no_more = ap (number_each number_pattern (n + 1)) (append-nil e.raw) ∙ e.agrees

  pub pattern_list_end : (f : PartFault) → RanOut us f → Refuses (bare_pattern d) ts f
  pattern_list_end f z = ran_out (bare_pattern d) _ ts us f e.goes tt refl z

  module _ (vs : List Token) (t : Token) (q : Sort) (here : Place) (b : Starts us t q here vs) where
    -- the list ends without a tail
    pub pattern_list_shut : q ≡ s.CloseSquare → (x : Pattern) → pattern_tree x ≡ m.equals (mark p here) l.Nil → ReadsPatternElements d n place ts k (all_patterns items) (pattern_tree x) vs (p + 1)
    pattern_list_shut h x g = ended_by k vs (p + 1) (e.build (only_tail (nil_pattern t.place))) [] (all_patterns items) (nil_pattern t.place) (pattern_tree x)
        (e.goes >> taken (bare_pattern d) _ us vs t s.CloseSquare b.are (sym b.sort_is ∙ h) refl (tt, tt)) (e.ends (only_tail (nil_pattern t.place)))
        (list_of_is n p (p + 1) (at place) (e.raw ++ []) (map pattern_tree items) (nil_pattern t.place) (pattern_tree x) no_more (placed p (λ k. m.equals k l.Nil) here t.place b.place_is (pattern_tree x) g))

    -- a comma, and one element more
    module _ (h : q ≡ s.Comma) where
      list_comma : Goes (bare_pattern d) (itself (bare_pattern d)) (record { parts = the (pattern (d + 1)) ∷ the (pattern_rest d) ∷ closers k; build = λ x r. e.build (next_item x r) } ∷ []) ts vs
      list_comma = e.goes >> taken (bare_pattern d) _ us vs t s.Comma b.are (sym b.sort_is ∙ h) refl (tt, tt)

      pub pattern_list_comma_bad : (f : PartFault) → Refuses (pattern (d + 1)) vs f → Refuses (bare_pattern d) ts f
      pattern_list_comma_bad f z = refused _ _ (the (pattern_rest d) ∷ closers k) (λ x r. e.build (next_item x r)) ts vs f list_comma ((λ t x. refl), (λ t x. refl), tt) z

      pub pattern_list_item : (ws : List Token) (x : Pattern) (grown : List Pattern) (o : ℕ) → grown ≡ items ++ x ∷ [] → ReadsPattern (d + 1) p vs (pattern_tree x) ws o → PatternElements d n place ts ws k grown o
      pattern_list_item ws x grown o g v = record {
        build = λ r. e.build (next_item v.says r);
        goes = list_comma >> through _ _ (the (pattern_rest d) ∷ closers k) (λ x r. e.build (next_item x r)) vs ws v.says v.passes ((λ t x. refl), (λ t x. refl), tt);
        raw = e.raw ++ v.says ∷ [];
        ends = λ r. moved k (e.build (next_item v.says r)) place e.raw (v.says ∷ []) r.items r.tail (e.ends (next_item v.says r));
        agrees = each_pushed number_pattern pattern_tree (n + 1) p o e.raw items grown v.says x g e.agrees v.agrees;
      }

    -- a bar, and a tail
    module _ (h : q ≡ s.Bar) where
      list_bar : Goes (bare_pattern d) (itself (bare_pattern d)) (record { parts = the (pattern_tail d) ∷ a s.CloseSquare ∷ closers k; build = λ r _. e.build r } ∷ []) ts vs
      list_bar = e.goes >> taken (bare_pattern d) _ us vs t s.Bar b.are (sym b.sort_is ∙ h) refl (tt, tt)

      pub pattern_list_bar_end : (f : PartFault) → RanOut vs f → Refuses (bare_pattern d) ts f
      pattern_list_bar_end f z = ran_out (bare_pattern d) _ ts vs f list_bar tt refl z

      module _ (ws : List Token) (u : Token) (r : Sort) (there : Place) (c : Starts vs u r there ws) where
        -- a tail that is a list
        module _ (g : r ≡ s.OpenSquare) (w : d + 1 ≤ depth_limit) where
          list_inner : Goes (bare_pattern d) (itself (bare_pattern d)) (record { parts = the (pattern (d + 1)) ∷ the (pattern_rest d) ∷ a s.CloseSquare ∷ closers k; build = λ x r _. e.build (next_item x r) }
              ∷ record { parts = a s.CloseSquare ∷ a s.CloseSquare ∷ closers k; build = λ _ _. e.build (only_tail (nil_pattern u.place)) } ∷ []) ts ws
          list_inner = list_bar >> taken (bare_pattern d) _ vs ws u s.OpenSquare c.are (sym c.sort_is ∙ g) refl ((omega (arith, w), (w, tt)), tt)

          pub pattern_list_inner_end : (f : PartFault) → RanOut ws f → Refuses (bare_pattern d) ts f
          pattern_list_inner_end f z = ran_out (bare_pattern d) _ ts ws f list_inner tt refl z

          module _ (xs : List Token) (v : Token) (o : Sort) (third : Place) (y : Starts ws v o third xs) where
            pub pattern_list_tail_nil : o ≡ s.CloseSquare → (x : Pattern) → pattern_tree x ≡ m.equals (mark p there) l.Nil → ReadsPatternElements d n place ts (k + 1) (all_patterns items) (pattern_tree x) xs (p + 1)
            pattern_list_tail_nil z x f = subst (λ j. ReadsPatternElements d n place ts j (all_patterns items) (pattern_tree x) xs (p + 1)) (sym (add-one k))
                (ended_by (suc k) xs (p + 1) (λ _. e.build (only_tail (nil_pattern u.place))) [] (all_patterns items) (nil_pattern u.place) (pattern_tree x)
                (list_inner >> taken (bare_pattern d) _ ws xs v s.CloseSquare y.are (sym y.sort_is ∙ z) refl (tt, (tt, tt))) (λ _. e.ends (only_tail (nil_pattern u.place)))
                (list_of_is n p (p + 1) (at place) (e.raw ++ []) (map pattern_tree items) (nil_pattern u.place) (pattern_tree x) no_more (placed p (λ k. m.equals k l.Nil) there u.place c.place_is (pattern_tree x) f)))

            module _ (z : o ≡ s.CloseSquare → ⊥) where
              list_merges : Goes (bare_pattern d) (itself (bare_pattern d)) (record { parts = the (pattern (d + 1)) ∷ the (pattern_rest d) ∷ a s.CloseSquare ∷ closers k; build = λ x r _. e.build (next_item x r) } ∷ []) ts ws
              list_merges = list_inner >> drop_second _ _ _ _ ws xs v y.are (fits_no_other s.CloseSquare (sort v) (λ f. absurd cc) (λ f. z (y.sort_is ∙ f)))

              pub pattern_list_merge_bad : (f : PartFault) → Refuses (pattern (d + 1)) ws f → Refuses (bare_pattern d) ts f
              pattern_list_merge_bad f i = refused _ _ (the (pattern_rest d) ∷ a s.CloseSquare ∷ closers k) (λ x r _. e.build (next_item x r)) ts ws f list_merges ((λ t x. refl), (λ t x. refl), tt) i

              pub pattern_list_merge : (zs : List Token) (x : Pattern) (grown : List Pattern) (i : ℕ) → grown ≡ items ++ x ∷ [] → ReadsPattern (d + 1) p ws (pattern_tree x) zs i → PatternElements d n place ts zs (k + 1) grown i
              pattern_list_merge zs x grown i f j = subst (λ o. PatternElements d n place ts zs o grown i) (sym (add-one k)) inner
                where
                  inner : PatternElements d n place ts zs (suc k) grown i
                  inner = record {
                    build = λ r _. e.build (next_item j.says r);
                    goes = list_merges >> through _ _ (the (pattern_rest d) ∷ a s.CloseSquare ∷ closers k) (λ x r _. e.build (next_item x r)) ws zs j.says j.passes ((λ t x. refl), (λ t x. refl), tt);
                    raw = e.raw ++ j.says ∷ [];
                    ends = λ r _. moved k (e.build (next_item j.says r)) place e.raw (j.says ∷ []) r.items r.tail (e.ends (next_item j.says r));
                    agrees = each_pushed number_pattern pattern_tree (n + 1) p i e.raw items grown j.says x f e.agrees j.agrees;
                  }

        -- a tail that is a string
        pub pattern_list_string : r ≡ s.Text → d + 1 ≤ depth_limit → (grown : List Pattern) (x : Pattern) (o : ℕ) → map pattern_tree grown ≡ map pattern_tree items ++ labelled_byte_patterns p u.place (text u)
            → o ≡ p + length (text u)
            → pattern_tree x ≡ m.equals (mark o there) l.Nil → ReadsPatternElements d n place ts (k + 1) (all_patterns grown) (pattern_tree x) ws (o + 1)
        pattern_list_string g w grown x o i j f = subst (λ z. ReadsPatternElements d n place ts z (all_patterns grown) (pattern_tree x) ws (o + 1)) (sym (add-one k))
            (ended_by (suc k) ws (o + 1) (λ _. e.build (merged (string_patterns u))) (byte_patterns u.place (text u)) (all_patterns grown) (nil_pattern u.place) (pattern_tree x)
            (list_bar >> taken (bare_pattern d) _ vs ws u s.Text c.are (sym c.sort_is ∙ g) refl ((w, tt), tt)) (λ _. e.ends (merged (string_patterns u)))
            (list_of_is n o (o + 1) (at place) (e.raw ++ byte_patterns u.place (text u)) (map pattern_tree grown) (nil_pattern u.place) (pattern_tree x)
            (each_append number_pattern (n + 1) p o e.raw (byte_patterns u.place (text u)) (map pattern_tree items) (labelled_byte_patterns p u.place (text u)) e.agrees
            (byte_patterns_are p o u.place (text u) (labelled_byte_patterns p u.place (text u)) refl j)
            ∙ ap (λ z. let y : List m.Pattern × ℕ = (z, o) in y) (sym i))
            (placed o (λ k. m.equals k l.Nil) there u.place c.place_is (pattern_tree x) f)))

        -- a tail in brackets
        module _ (g : r ≡ s.OpenRound) where
          abbrev in_tail : Then (pattern (d + 1)) (bare_pattern d)
          in_tail = record { parts = a s.CloseSquare ∷ closers k; build = λ x _. e.build (only_tail x) }

          list_round : Goes (bare_pattern d) (itself (bare_pattern d)) (in_brackets (d + 1) there (bare_pattern d) in_tail (in_tail ∷ [])) ts ws
          list_round = subst (λ z. Goes (bare_pattern d) (itself (bare_pattern d)) (in_brackets (d + 1) z (bare_pattern d) in_tail (in_tail ∷ [])) ts ws) (sym c.place_is)
              (list_bar >> taken (bare_pattern d) _ vs ws u s.OpenRound c.are (sym c.sort_is ∙ g) refl (tt, tt) >> swapped (bare_pattern d) _ _ [] ws)

          pub pattern_list_round_bad : (f : PartFault) → RefusesInBrackets (d + 1) there ws f → Refuses (bare_pattern d) ts f
          pattern_list_round_bad f z = z (bare_pattern d) in_tail in_tail [] ((λ t x. refl), (λ t x. refl), ((λ t x. refl), (λ t x. refl), tt)) ts list_round

          closed_tail : (alone : Bool) (x : m.Pattern) → closed (d + 1) (bare_pattern d) alone x in_tail (in_tail ∷ []) ≡ passed (pattern (d + 1)) (bare_pattern d) x (in_tail ∷ [])
          closed_tail true x = refl
          closed_tail false x = refl

          pub pattern_list_round : (xs : List Token) (x : m.Pattern) (alone : Bool) (o : ℕ) → ReadsInBrackets (d + 1) p there ws x alone xs o → ReadsPatternElements d n place ts (k + 1) (all_patterns items) x xs o
          pattern_list_round xs x alone o v = subst (λ z. ReadsPatternElements d n place ts z (all_patterns items) x xs o) (sym (add-one k))
              (ended_by (suc k) xs o (λ _. e.build (only_tail v.says)) [] (all_patterns items) v.says x
              (list_round >> subst (λ bs. Goes (bare_pattern d) (in_brackets (d + 1) there (bare_pattern d) in_tail (in_tail ∷ [])) bs ws xs) (closed_tail alone v.says)
              (v.goes (bare_pattern d) in_tail (in_tail ∷ []) ((λ t x. refl), (λ t x. refl), ((λ t x. refl), (λ t x. refl), tt))))
              (λ _. e.ends (only_tail v.says)) (list_of_is n p o (at place) (e.raw ++ []) (map pattern_tree items) v.says x no_more v.agrees))

        -- another tail
        module _ (f : r ≡ s.Text → ⊥) (g : r ≡ s.OpenSquare → ⊥) (i : r ≡ s.OpenRound → ⊥) where
          list_other : Goes (bare_pattern d) (itself (bare_pattern d)) (record { parts = the (other_pattern (d + 1)) ∷ a s.CloseSquare ∷ closers k; build = λ x _. e.build (only_tail x) } ∷ []) ts vs
          list_other = list_bar >> expand (bare_pattern d) (pattern_tail d) (a s.CloseSquare ∷ closers k) (λ r _. e.build r) [] vs
              >> expand (bare_pattern d) (pattern_list d) (a s.CloseSquare ∷ closers k) (λ x _. e.build (merged x)) _ vs
              >> drop _ _ _ vs ws u c.are (fits_no_other s.Text (sort u) (λ z. absurd cc) (λ z. f (c.sort_is ∙ z)))
              >> drop _ _ _ vs ws u c.are (fits_no_other s.OpenSquare (sort u) (λ z. absurd cc) (λ z. g (c.sort_is ∙ z)))
              >> drop_second _ _ _ _ vs ws u c.are (fits_no_other s.OpenRound (sort u) (λ z. absurd cc) (λ z. i (c.sort_is ∙ z)))

          pub pattern_list_tail_bad : (j : PartFault) → Refuses (other_pattern (d + 1)) vs j → Refuses (bare_pattern d) ts j
          pattern_list_tail_bad j z = refused _ _ (a s.CloseSquare ∷ closers k) (λ x _. e.build (only_tail x)) ts vs j list_other ((λ t x. refl), (λ t x. refl), tt) z

          pub pattern_list_tail : (xs : List Token) (x : m.Pattern) (o : ℕ) → ReadsOtherPattern (d + 1) p vs x xs o → ReadsPatternElements d n place ts (k + 1) (all_patterns items) x xs o
          pattern_list_tail xs x o v = subst (λ z. ReadsPatternElements d n place ts z (all_patterns items) x xs o) (sym (add-one k))
              (ended_by (suc k) xs o (λ _. e.build (only_tail v.says)) [] (all_patterns items) v.says x
              (list_other >> through _ _ (a s.CloseSquare ∷ closers k) (λ x _. e.build (only_tail x)) vs xs v.says v.passes ((λ t x. refl), (λ t x. refl), tt))
              (λ _. e.ends (only_tail v.says)) (list_of_is n p o (at place) (e.raw ++ []) (map pattern_tree items) v.says x no_more v.agrees))

    pub pattern_list_stuck : (q ≡ s.CloseSquare → ⊥) → (q ≡ s.Comma → ⊥) → (q ≡ s.Bar → ⊥) → Stops (bare_pattern d) (itself (bare_pattern d)) ts here
    pattern_list_stuck x y z = subst (Stops (bare_pattern d) (itself (bare_pattern d)) ts) (sym b.place_is)
        (halted (bare_pattern d) _ _ ts us vs t e.goes b.are tt (go (sort t) (λ v. x (b.sort_is ∙ v)) (λ v. y (b.sort_is ∙ v)) (λ v. z (b.sort_is ∙ v))))
      where
        go : (q : Sort) → (q ≡ s.CloseSquare → ⊥) → (q ≡ s.Comma → ⊥) → (q ≡ s.Bar → ⊥) → Shut (bare_pattern d) t q (record { parts = the (pattern_rest d) ∷ closers k; build = e.build } ∷ [])
        go s.CloseSquare x y z = absurd (x refl)
        go s.Comma x y z = absurd (y refl)
        go s.Bar x y z = absurd (z refl)
        go _ x y z = (refl, refl)

-- the closing brackets
module _ (d n : ℕ) (place : Place) (ts us : List Token) (items : m.Patterns) (tail : m.Pattern) (p : ℕ) where
  pub pattern_list_unclosed : (k : ℕ) → 0 < k → ReadsPatternElements d n place ts k items tail us p → (f : PartFault) → Misses s.CloseSquare us f → Refuses (bare_pattern d) ts f
  pattern_list_unclosed zero h e f z = absurd (omega arith)
  pattern_list_unclosed (suc k) h e f z = lacking _ s.CloseSquare (closers k) e.build ts us f e.goes z

  pub pattern_list_closes : (k j : ℕ) → j + 1 ≡ k → ReadsPatternElements d n place ts k items tail us p → (vs : List Token) → Takes s.CloseSquare us vs → ReadsPatternElements d n place ts j items tail vs p
  pattern_list_closes zero j h e vs z = absurd (omega arith)
  pattern_list_closes (suc k) j h e vs z = subst (λ i. ReadsPatternElements d n place ts i items tail vs p) (omega arith) (record {
    build = e.build z.first;
    goes = e.goes >> take_class _ s.CloseSquare (closers k) e.build us vs z;
    raw = e.raw;
    raw_tail = e.raw_tail;
    ends = e.ends z.first;
    agrees = e.agrees;
  })

  pub pattern_list_done : (k : ℕ) → k ≡ 0 → ReadsPatternElements d n place ts k items tail us p → (o : Mark) (x : m.Pattern) → o ≡ mark n place → x ≡ m.list_of o items tail → ReadsBarePattern d n ts x us p
  pattern_list_done (suc k) h e o x f g = absurd (omega arith)
  pattern_list_done zero h e o x f g = record {
    says = m.list_of (at place) (lists.patterns e.raw) e.raw_tail;
    passes = subst (λ z. Passes (bare_pattern d) ts z us) e.ends e.goes;
    agrees = e.agrees ∙ ap (λ z. let w : m.Pattern × ℕ = (z, p) in w) (sym (g ∙ ap (λ z. m.list_of z items tail) f));
  }
