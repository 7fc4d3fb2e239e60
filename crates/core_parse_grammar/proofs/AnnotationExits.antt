-- Annotations: each way out.
use Rattle.std.proofs.Common.{◌≡◌, ◌≤◌, List, [], ◌∷◌, ◌++◌, refl, sym, ap, ◌∙◌, arith}
use Rattle.core_scan.specs.declared.token.Token.{Token}
use Rattle.core_scan.specs.declared.sort.Sort.TheVariants as s
use Rattle.core_ast.specs.declared.syntax.Note.{Note}
use Rattle.core_parse_grammar.specs.declared.fault.PartFault.{PartFault}
use Rattle.core_parse_grammar.specs.declared.notes.Constant.{Constant}
use Rattle.core_parse_grammar.specs.Build.{note_of}
use Rattle.core_parse_grammar.specs.Grammar.{Nonterminal, a, the, many, annotation, constant}
use Rattle.core_parse_grammar.specs.Track.{Branch, Goes, itself}
use Rattle.core_parse_grammar.specs.Faults.{Refuses, Takes, Misses}
use Rattle.core_parse_grammar.specs.Weights.{weight}
use Rattle.core_parse_grammar.specs.Readings.{ReadsConstants, ReadsAnnotation}
use Rattle.core_parse_grammar.proofs.Moves.{◌>>◌, expand}
use Rattle.core_parse_grammar.proofs.Places.{through, refused, lacking, take_class}

-- what is read is as light as the text that it is read from, at most
pub rest_lighter : (ts used left : List Token) → ts ≡ used ++ left → weight left ≤ weight ts
rest_lighter ts [] left e = omega (arith, ap (λ x. weight x) e)
rest_lighter ts (t ∷ used) left e = let h : weight left ≤ weight (used ++ left) = rest_lighter (used ++ left) used left refl in omega (arith, h, ap (λ x. weight x) e)

pub goes_lighter : {n : Nonterminal} {bs cs : List (Branch n)} {ts left : List Token} → Goes n bs cs ts left → weight left ≤ weight ts
goes_lighter {ts = ts} {left = left} g = rest_lighter ts g.used left g.split

module _ (ts : List Token) where
  note_0 : Goes annotation (itself annotation) (record { parts = a s.Noted ∷ a s.OpenSquare ∷ the (many s.CloseSquare (the (constant 1))) ∷ a s.CloseRound ∷ []; build = λ _ _ cs _. note_of cs } ∷ []) ts ts
  note_0 = expand annotation annotation [] (λ x. x) [] ts

  pub note_0_bad : (f : PartFault) → Misses s.Noted ts f → Refuses annotation ts f
  note_0_bad f z = lacking _ s.Noted (a s.OpenSquare ∷ the (many s.CloseSquare (the (constant 1))) ∷ a s.CloseRound ∷ []) (λ _ _ cs _. note_of cs) ts ts f note_0 z

  module _ (us : List Token) (z : Takes s.Noted ts us) where
    note_1 : Goes annotation (itself annotation) (record { parts = a s.OpenSquare ∷ the (many s.CloseSquare (the (constant 1))) ∷ a s.CloseRound ∷ []; build = λ _ cs _. note_of cs } ∷ []) ts us
    note_1 = note_0 >> take_class _ s.Noted (a s.OpenSquare ∷ the (many s.CloseSquare (the (constant 1))) ∷ a s.CloseRound ∷ []) (λ _ _ cs _. note_of cs) ts us z

    pub note_1_bad : (f : PartFault) → Misses s.OpenSquare us f → Refuses annotation ts f
    note_1_bad f y = lacking _ s.OpenSquare (the (many s.CloseSquare (the (constant 1))) ∷ a s.CloseRound ∷ []) (λ _ cs _. note_of cs) ts us f note_1 y

    module _ (vs : List Token) (y : Takes s.OpenSquare us vs) where
      note_2 : Goes annotation (itself annotation) (record { parts = the (many s.CloseSquare (the (constant 1))) ∷ a s.CloseRound ∷ []; build = λ cs _. note_of cs } ∷ []) ts vs
      note_2 = note_1 >> take_class _ s.OpenSquare (the (many s.CloseSquare (the (constant 1))) ∷ a s.CloseRound ∷ []) (λ _ cs _. note_of cs) us vs y

      pub note_2_bad : (f : PartFault) → Refuses (many s.CloseSquare (the (constant 1))) vs f → Refuses annotation ts f
      note_2_bad f x = refused _ _ (a s.CloseRound ∷ []) (λ cs _. note_of cs) ts vs f note_2 ((λ t x. refl), (λ t x. refl), tt) x

      module _ (ws : List Token) (xs : List Constant) (x : ReadsConstants s.CloseSquare 1 vs xs ws) where
        note_3 : Goes annotation (itself annotation) (record { parts = a s.CloseRound ∷ []; build = λ _. note_of x.says } ∷ []) ts ws
        note_3 = note_2 >> through _ _ (a s.CloseRound ∷ []) (λ cs _. note_of cs) vs ws x.says x.passes ((λ t x. refl), (λ t x. refl), tt)

        pub note_3_bad : (f : PartFault) → Misses s.CloseRound ws f → Refuses annotation ts f
        note_3_bad f w = lacking _ s.CloseRound [] (λ _. note_of x.says) ts ws f note_3 w

        pub note_ok : (rest : List Token) → Takes s.CloseRound ws rest → (n : Note) (ys : List Constant) → n ≡ note_of ys → ys ≡ xs → ReadsAnnotation ts n rest
        note_ok rest w n ys g h = record { says = note_of x.says; passes = note_3 >> take_class _ s.CloseRound [] (λ _. note_of x.says) ws rest w; agrees = ap note_of (x.agrees ∙ sym h) ∙ sym g }
