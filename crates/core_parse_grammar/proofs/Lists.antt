-- Items with commas between them, up to and with the token that closes them: for items of every kind.
use Rattle.std.proofs.Common.{◌≡◌, inl, inr, zero, List, [], ◌∷◌, ◌++◌, Bool, true, false, Some, None, refl, sym, ap, ◌∙◌, subst, append_assoc, append-nil, if◌then◌else◌}
use Rattle.core_scan.specs.declared.token.Token.{Token}
use Rattle.core_scan.specs.declared.sort.Sort.{Sort}
use Rattle.core_scan.specs.declared.sort.Sort.TheVariants as s
use Rattle.core_scan.specs.Sorts.{sort, fits}
use Rattle.core_parse_grammar.specs.declared.fault.PartFault.{PartFault}
use Rattle.core_parse_grammar.specs.Grammar.{a, the, Nonterminal, Said, Action, many, more}
use Rattle.core_parse_grammar.specs.Track.{Branch, Goes, itself, Passes, Stops, Guarded, look_fine, take_if, after_look}
use Rattle.core_parse_grammar.specs.Faults.{Refuses, RanOut}
use Rattle.core_parse_grammar.proofs.Moves.{◌>>◌, pass, stay, expand, stop_at}
use Rattle.core_parse_grammar.proofs.Places.{refused, ran_out, drop, drop_second, take_class}
use Rattle.core_scan.proofs.SortLaws.{fits_no_other, fitting}

-- what fits a sort other than an integer's is of that sort
pub fits_only : (c q : Sort) → (c ≡ s.Integer → ⊥) → fits c q ≡ true → q ≡ c
fits_only c q x h = elim (fitting c q h) [ inl e ↦ e | inr e ↦ absurd (x e.0) ]

pub unlike : (c q : Sort) → fits c c ≡ true → fits c q ≡ false → q ≡ c → ⊥
unlike c q o h e = let z : fits c c ≡ false = ap (fits c) (sym e) ∙ h in absurd cc

-- What is asked of a closing token and of the items before it.
pub record Closes (c : Sort) (m : Nonterminal) : Type 0 where
  pub empty : (ts left : List Token) (t : Token) → ts ≡ t ∷ left → sort t ≡ c → Passes (many c (the m)) ts [] left
  pub guarded : (b : Said m → Action (the (more c (the m)) ∷ []) (Said (many c (the m)))) → Guarded m (many c (the m)) (record { parts = the (more c (the m)) ∷ []; build = b } ∷ [])
  pub exact : c ≡ s.Integer → ⊥
  pub own : fits c c ≡ true
  pub no_comma : c ≡ s.Comma → ⊥

-- items under way
pub record Under (c : Sort) (m : Nonterminal) (ts left : List Token) (raw : List (Said m)) : Type 0 where
  pub build : List (Said m) → List (Said m)
  pub goes : Goes (many c (the m)) (itself (many c (the m))) (record { parts = the (more c (the m)) ∷ []; build = build } ∷ []) ts left
  pub builds : (xs : List (Said m)) → build xs ≡ raw ++ xs

-- in front of an item: in the list's beginning, or behind a comma
pub record Before (c : Sort) (m : Nonterminal) (ts left : List Token) (raw : List (Said m)) : Type 0 where
  pub build : List (Said m) → List (Said m)
  pub goes : Goes (many c (the m)) (itself (many c (the m))) (record { parts = the m ∷ the (more c (the m)) ∷ []; build = λ x xs. build (x ∷ xs) } ∷ []) ts left
  pub builds : (xs : List (Said m)) → build xs ≡ raw ++ xs

module _ (c : Sort) (m : Nonterminal) (k : Closes c m) where
  pub list_nothing : (ts : List Token) (e : PartFault) → RanOut ts e → Refuses (many c (the m)) ts e
  list_nothing ts e h = ran_out (many c (the m)) (itself (many c (the m))) ts ts e (stay (many c (the m)) (itself (many c (the m))) ts) tt refl h

  list_open : (ts left : List Token) (t : Token) → ts ≡ t ∷ left → (sort t ≡ c → ⊥)
      → Goes (many c (the m)) (itself (many c (the m))) (record { parts = the m ∷ the (more c (the m)) ∷ []; build = λ x xs. x ∷ xs } ∷ []) ts ts
  list_open ts left t e h = expand (many c (the m)) (many c (the m)) [] (λ x. x) [] ts >> drop _ _ _ ts left t e (fits_no_other c (sort t) k.exact h)

  pub list_bad : (ts left : List Token) (t : Token) (e : PartFault) → ts ≡ t ∷ left → (sort t ≡ c → ⊥) → Refuses m ts e → Refuses (many c (the m)) ts e
  list_bad ts left t e p h q = refused _ _ _ _ ts ts e (list_open ts left t p h) (k.guarded (λ x xs. x ∷ xs)) q

  pub list_first : (ts left us : List Token) (t : Token) (x : Said m) → ts ≡ t ∷ left → (sort t ≡ c → ⊥) → Passes m ts x us → Under c m ts us (x ∷ [])
  list_first ts left us t x e h p = record {
    build = λ xs. x ∷ xs;
    goes = list_open ts left t e h >> pass m (many c (the m)) (record { parts = the (more c (the m)) ∷ []; build = λ x xs. x ∷ xs } ∷ []) ts us x (k.guarded (λ x xs. x ∷ xs)) p;
    builds = λ xs. refl;
  }

  module _ (ts us : List Token) (raw : List (Said m)) (u : Under c m ts us raw) where
    pub list_end : (e : PartFault) → RanOut us e → Refuses (many c (the m)) ts e
    list_end e h = ran_out (many c (the m)) _ ts us e u.goes tt refl h

    -- either it closes or a comma comes
    abbrev either : List (Branch (many c (the m)))
    either = record { parts = a c ∷ []; build = λ _. u.build [] } ∷ record { parts = a s.Comma ∷ the m ∷ the (more c (the m)) ∷ []; build = λ _ x xs. u.build (x ∷ xs) } ∷ []

    list_more_ : Goes (many c (the m)) (itself (many c (the m))) either ts us
    list_more_ = u.goes >> expand (many c (the m)) (more c (the m)) [] u.build [] us

    module _ (vs : List Token) (t : Token) (e : us ≡ t ∷ vs) where
      pub list_close : sort t ≡ c → Passes (many c (the m)) ts raw vs
      list_close h = subst (λ xs. Passes (many c (the m)) ts xs vs) (u.builds [] ∙ append-nil raw)
          (list_more_ >> drop_second _ _ _ _ us vs t e (fits_no_other s.Comma (sort t) apart (λ z. k.no_comma (sym h ∙ z)))
          >> take_class _ c [] (λ _. u.build []) us vs (record { first = t; are = e; fits_it = ap (fits c) h ∙ k.own }))
        where
          apart : s.Comma ≡ s.Integer → ⊥
          apart z = absurd cc

      list_comma : sort t ≡ s.Comma → Goes (many c (the m)) (itself (many c (the m))) (record { parts = the m ∷ the (more c (the m)) ∷ []; build = λ x xs. u.build (x ∷ xs) } ∷ []) ts vs
      list_comma h = list_more_ >> drop _ _ _ us vs t e (fits_no_other c (sort t) k.exact (λ z. k.no_comma (sym z ∙ h)))
          >> take_class _ s.Comma _ _ us vs (record { first = t; are = e; fits_it = ap (fits s.Comma) h })

      pub list_worse : sort t ≡ s.Comma → (f : PartFault) → Refuses m vs f → Refuses (many c (the m)) ts f
      list_worse h f q = refused _ _ _ _ ts vs f (list_comma h) (k.guarded (λ x xs. u.build (x ∷ xs))) q

      pub list_more : sort t ≡ s.Comma → (ws : List Token) (x : Said m) → Passes m vs x ws → Under c m ts ws (raw ++ x ∷ [])
      list_more h ws x p = record {
        build = λ xs. u.build (x ∷ xs);
        goes = list_comma h >> pass m (many c (the m)) (record { parts = the (more c (the m)) ∷ []; build = λ x xs. u.build (x ∷ xs) } ∷ []) vs ws x (k.guarded (λ x xs. u.build (x ∷ xs))) p;
        builds = λ xs. u.builds (x ∷ xs) ∙ sym (append_assoc raw (x ∷ []) xs);
      }

      pub list_other : (sort t ≡ c → ⊥) → (sort t ≡ s.Comma → ⊥) → Stops (many c (the m)) (itself (many c (the m))) ts t.place
      list_other p q = stop_at zero (many c (the m)) (itself (many c (the m))) either ts vs t (subst (λ x. Goes (many c (the m)) (itself (many c (the m))) either ts x) e list_more_) tt
          (fine_it (fits c (sort t)) (fits s.Comma (sort t)) (fits_no_other c (sort t) k.exact p) (fits_no_other s.Comma (sort t) apart q))
          (next_it (fits c (sort t)) (fits s.Comma (sort t)) (fits_no_other c (sort t) k.exact p) (fits_no_other s.Comma (sort t) apart q))
        where
          apart : s.Comma ≡ s.Integer → ⊥
          apart z = absurd cc

          fine_it : (x y : Bool) → x ≡ false → y ≡ false
              → (if look_fine (many c (the m)) false (Some (take_if x None [] (u.build []))) then
              (if look_fine (many c (the m)) false (Some (take_if y None (the m ∷ the (more c (the m)) ∷ []) (λ x xs. u.build (x ∷ xs)))) then true else false) else false) ≡ true
          fine_it false false e f = refl
          fine_it true y e f = absurd cc
          fine_it false true e f = absurd cc

          next_it : (x y : Bool) → x ≡ false → y ≡ false
              → after_look (many c (the m)) (Some (take_if x None [] (u.build []))) ++ (after_look (many c (the m)) (Some (take_if y None (the m ∷ the (more c (the m)) ∷ []) (λ x xs. u.build (x ∷ xs)))) ++ []) ≡ []
          next_it false false e f = refl
          next_it true y e f = absurd cc
          next_it false true e f = absurd cc

  -- the same, item by item
  pub list_none : (ts left : List Token) (t : Token) → ts ≡ t ∷ left → fits c (sort t) ≡ true → Passes (many c (the m)) ts [] left
  list_none ts left t e h = k.empty ts left t e (fits_only c (sort t) k.exact h)

  pub list_before : (ts left : List Token) (t : Token) → ts ≡ t ∷ left → fits c (sort t) ≡ false → Before c m ts ts []
  list_before ts left t e h = record {
    build = λ xs. xs;
    goes = list_open ts left t e (λ z. unlike c (sort t) k.own h z);
    builds = λ xs. refl;
  }

  module _ (ts from : List Token) (raw : List (Said m)) (b : Before c m ts from raw) where
    pub item_bad : (f : PartFault) → Refuses m from f → Refuses (many c (the m)) ts f
    item_bad f q = refused _ _ _ _ ts from f b.goes (k.guarded (λ x xs. b.build (x ∷ xs))) q

    module _ (us : List Token) (x : Said m) (p : Passes m from x us) where
      abbrev item_under : Under c m ts us (raw ++ x ∷ [])
      item_under = record {
        build = λ xs. b.build (x ∷ xs);
        goes = b.goes >> pass m (many c (the m)) (record { parts = the (more c (the m)) ∷ []; build = λ x xs. b.build (x ∷ xs) } ∷ []) from us x (k.guarded (λ x xs. b.build (x ∷ xs))) p;
        builds = λ xs. b.builds (x ∷ xs) ∙ sym (append_assoc raw (x ∷ []) xs);
      }

      pub item_end : (e : PartFault) → RanOut us e → Refuses (many c (the m)) ts e
      item_end e h = list_end ts us (raw ++ x ∷ []) item_under e h

      module _ (vs : List Token) (t : Token) (e : us ≡ t ∷ vs) where
        pub item_close : fits c (sort t) ≡ true → Passes (many c (the m)) ts (raw ++ x ∷ []) vs
        item_close h = list_close ts us (raw ++ x ∷ []) item_under vs t e (fits_only c (sort t) k.exact h)

        pub item_comma : fits s.Comma (sort t) ≡ true → Before c m ts vs (raw ++ x ∷ [])
        item_comma h = record {
          build = λ xs. b.build (x ∷ xs);
          goes = list_comma ts us (raw ++ x ∷ []) item_under vs t e (fits_only s.Comma (sort t) (λ z. absurd cc) h);
          builds = item_under.builds;
        }

        pub item_other : fits c (sort t) ≡ false → fits s.Comma (sort t) ≡ false → Stops (many c (the m)) (itself (many c (the m))) ts t.place
        item_other h g = list_other ts us (raw ++ x ∷ []) item_under vs t e (λ z. unlike c (sort t) k.own h z) (λ z. unlike s.Comma (sort t) refl g z)
