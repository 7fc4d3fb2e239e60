-- A part with or without annotation brackets: each way out.
use Rattle.std.proofs.Common.{◌≡◌, List, [], ◌∷◌, Bool, true, false, None, Some, refl, sym, ap, ◌∙◌, subst}
use Rattle.type_kinds.specs.declared.place.Place.{Place}
use Rattle.core_scan.specs.declared.token.Token.{Token}
use Rattle.core_scan.specs.declared.sort.Sort.{Sort}
use Rattle.core_scan.specs.declared.sort.Sort.TheVariants as s
use Rattle.core_scan.specs.Sorts.{sort, fits}
use Rattle.core_ast.specs.declared.syntax.Note.{Note}
use Rattle.core_parse_grammar.specs.declared.fault.PartFault.{PartFault}
use Rattle.core_parse_grammar.specs.declared.fault.PartFault.TheVariants.{Syntax}
use Rattle.core_parse_grammar.specs.Grammar.{a, the, Nonterminal, Said, noted_, annotation}
use Rattle.core_parse_grammar.specs.Track.{Goes, itself, Passes, Stops, Guarded}
use Rattle.core_parse_grammar.specs.Faults.{Refuses, Starts, RanOut}
use Rattle.core_parse_grammar.specs.Readings.{ReadsAnnotatedAtom, ReadsAnnotation}
use Rattle.core_parse_grammar.proofs.Moves.{◌>>◌, stay, expand}
use Rattle.core_parse_grammar.proofs.Places.{taken, halted, Shut, through, refused, lacking, ran_out, drop_second}
use Rattle.core_parse_grammar.proofs.LeafExits.{take_not}
use Rattle.core_parse_grammar.proofs.Lists.{fits_only}

-- No such part begins with an opening bracket, and any token may follow one.
pub record Encloses (m : Nonterminal) : Type 0 where
  pub opens : (ts us : List Token) (t : Token) → ts ≡ t ∷ us → sort t ≡ s.OpenRound
      → Goes (noted_ (the m)) (itself (noted_ (the m))) (record { parts = the m ∷ the annotation ∷ []; build = λ x n. record { value = x; note = Some n } } ∷ []) ts us
  pub bare : Guarded m (noted_ (the m)) (record { parts = []; build = λ x. record { value = x; note = None } } ∷ [])
  pub noted : Guarded m (noted_ (the m)) (record { parts = the annotation ∷ []; build = λ x n. record { value = x; note = Some n } } ∷ [])

module _ (m : Nonterminal) (k : Encloses m) (ts : List Token) where
  pub noted_end : (f : PartFault) → RanOut ts f → Refuses (noted_ (the m)) ts f
  noted_end f z = ran_out (noted_ (the m)) (itself (noted_ (the m))) ts ts f (stay (noted_ (the m)) (itself (noted_ (the m))) ts) tt refl z

  module _ (us : List Token) (t : Token) (q : Sort) (place : Place) (b : Starts ts t q place us) (x : Bool) (e : x ≡ fits s.OpenRound q) where
    module _ (h : x ≡ false) where
      bare_0 : Goes (noted_ (the m)) (itself (noted_ (the m))) (record { parts = the m ∷ []; build = λ x. record { value = x; note = None } } ∷ []) ts ts
      bare_0 = expand (noted_ (the m)) (noted_ (the m)) [] (λ x. x) [] ts >> drop_second _ _ _ _ ts us t b.are (ap (fits s.OpenRound) (sym b.sort_is) ∙ sym e ∙ h)

      pub bare_bad : (f : PartFault) → Refuses m ts f → Refuses (noted_ (the m)) ts f
      bare_bad f z = refused m _ [] (λ x. record { value = x; note = None }) ts ts f bare_0 k.bare z

      pub bare_passes : (vs : List Token) (v : Said m) → Passes m ts v vs → Passes (noted_ (the m)) ts (record { value = v; note = None }) vs
      bare_passes vs v z = bare_0 >> through m _ [] (λ x. record { value = x; note = None }) ts vs v z k.bare

    module _ (h : x ≡ true) where
      noted_0 : Goes (noted_ (the m)) (itself (noted_ (the m))) (record { parts = the m ∷ the annotation ∷ []; build = λ x n. record { value = x; note = Some n } } ∷ []) ts us
      noted_0 = k.opens ts us t b.are (sym b.sort_is ∙ fits_only s.OpenRound q (λ z. absurd cc) (sym e ∙ h))

      pub noted_bad : (f : PartFault) → Refuses m us f → Refuses (noted_ (the m)) ts f
      noted_bad f z = refused m _ (the annotation ∷ []) (λ x n. record { value = x; note = Some n }) ts us f noted_0 k.noted z

      module _ (vs : List Token) (v : Said m) (z : Passes m us v vs) where
        noted_1 : Goes (noted_ (the m)) (itself (noted_ (the m))) (record { parts = the annotation ∷ []; build = λ n. record { value = v; note = Some n } } ∷ []) ts vs
        noted_1 = noted_0 >> through m _ (the annotation ∷ []) (λ x n. record { value = x; note = Some n }) us vs v z k.noted

        pub note_bad : (f : PartFault) → Refuses annotation vs f → Refuses (noted_ (the m)) ts f
        note_bad f y = refused annotation _ [] (λ n. record { value = v; note = Some n }) ts vs f noted_1 ((λ t x. refl), (λ t x. refl), tt) y

        pub noted_passes : (ws : List Token) (n : Note) → Passes annotation vs n ws → Passes (noted_ (the m)) ts (record { value = v; note = Some n }) ws
        noted_passes ws n y = noted_1 >> through annotation _ [] (λ n. record { value = v; note = Some n }) vs ws n y ((λ t x. refl), (λ t x. refl), tt)

-- an atom
pub atom_end : (ts : List Token) (f : PartFault) → RanOut ts f → Refuses (noted_ (a s.Atom)) ts f
atom_end ts f z = ran_out (noted_ (a s.Atom)) (itself (noted_ (a s.Atom))) ts ts f (stay (noted_ (a s.Atom)) (itself (noted_ (a s.Atom))) ts) tt refl z

module _ (ts us : List Token) (t : Token) (q : Sort) (place : Place) (b : Starts ts t q place us) (x : Bool) (e : x ≡ fits s.Atom q) where
  pub atom_bare : x ≡ true → ReadsAnnotatedAtom ts t us
  atom_bare h = record {
    says = record { value = t; note = None };
    passes = taken (noted_ (a s.Atom)) (itself (noted_ (a s.Atom))) ts us t s.Atom b.are (sym b.sort_is ∙ fits_only s.Atom q (λ z. absurd cc) (sym e ∙ h)) refl (tt, tt);
    agrees = refl;
  }

  module _ (h : x ≡ false) (y : Bool) (i : y ≡ fits s.OpenRound q) where
    pub atom_other : y ≡ false → Stops (noted_ (a s.Atom)) (itself (noted_ (a s.Atom))) ts place
    atom_other j = subst (Stops (noted_ (a s.Atom)) (itself (noted_ (a s.Atom))) ts) (sym b.place_is)
        (halted (noted_ (a s.Atom)) _ _ ts ts us t (stay (noted_ (a s.Atom)) (itself (noted_ (a s.Atom))) ts) b.are tt (go (sort t) (ap (fits s.Atom) (sym b.sort_is) ∙ sym e ∙ h) (ap (fits s.OpenRound) (sym b.sort_is) ∙ sym i ∙ j)))
      where
        go : (q : Sort) → fits s.Atom q ≡ false → fits s.OpenRound q ≡ false → Shut (noted_ (a s.Atom)) t q (itself (noted_ (a s.Atom)))
        go s.Atom x y = absurd cc
        go s.OpenRound x y = absurd cc
        go _ x y = (refl, refl)

    module _ (j : y ≡ true) where
      atom_round : Goes (noted_ (a s.Atom)) (itself (noted_ (a s.Atom))) (record { parts = a s.Atom ∷ the annotation ∷ []; build = λ u n. record { value = u; note = Some n } } ∷ []) ts us
      atom_round = taken (noted_ (a s.Atom)) (itself (noted_ (a s.Atom))) ts us t s.OpenRound b.are (sym b.sort_is ∙ fits_only s.OpenRound q (λ z. absurd cc) (sym i ∙ j)) refl (tt, tt)

      pub atom_round_end : (f : PartFault) → RanOut us f → Refuses (noted_ (a s.Atom)) ts f
      atom_round_end f z = ran_out (noted_ (a s.Atom)) _ ts us f atom_round tt refl z

      module _ (vs : List Token) (u : Token) (r : Sort) (there : Place) (c : Starts us u r there vs) (o : Bool) (k : o ≡ fits s.Atom r) where
        pub atom_round_other : o ≡ false → Stops (noted_ (a s.Atom)) (itself (noted_ (a s.Atom))) ts there
        atom_round_other l = lacking _ s.Atom (the annotation ∷ []) (λ u n. record { value = u; note = Some n }) ts us (Syntax there) atom_round (take_not s.Atom us vs u r there c o k l)

        module _ (l : o ≡ true) where
          atom_inner : Goes (noted_ (a s.Atom)) (itself (noted_ (a s.Atom))) (record { parts = the annotation ∷ []; build = λ n. record { value = u; note = Some n } } ∷ []) ts vs
          atom_inner = atom_round >> taken (noted_ (a s.Atom)) _ us vs u s.Atom c.are (sym c.sort_is ∙ fits_only s.Atom r (λ z. absurd cc) (sym k ∙ l)) refl (tt, tt)

          pub atom_round_bad : (f : PartFault) → Refuses annotation vs f → Refuses (noted_ (a s.Atom)) ts f
          atom_round_bad f z = refused _ _ [] (λ n. record { value = u; note = Some n }) ts vs f atom_inner ((λ t x. refl), (λ t x. refl), tt) z

          pub atom_round_ok : (ws : List Token) (n : Note) → ReadsAnnotation vs n ws → ReadsAnnotatedAtom ts u ws
          atom_round_ok ws n z = record {
            says = record { value = u; note = Some z.says };
            passes = atom_inner >> through _ _ [] (λ n. record { value = u; note = Some n }) vs ws z.says z.passes ((λ t x. refl), (λ t x. refl), tt);
            agrees = refl;
          }
