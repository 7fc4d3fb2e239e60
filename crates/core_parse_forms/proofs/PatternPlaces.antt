-- Where a pattern without annotation brackets begins, and an annotation.
use Rattle.std.proofs.Common.{◌≡◌, ℕ, List, [], ◌∷◌, ◌++◌, inl, true, refl, sym, ap, ◌∙◌, subst, arith}
use Rattle.core_scan.specs.declared.token.Token.{Token}
use Rattle.core_scan.specs.declared.sort.Sort.TheVariants as s
use Rattle.core_ast.specs.declared.syntax.Note.{Note}
use Rattle.core_ast.specs.Model as m
use Rattle.core_parse_grammar.specs.Begins.{depth_limit}
use Rattle.core_parse_grammar.specs.Build.{LiteralAt, VariableAt, ItemsAt, mark_of}
use Rattle.core_parse_grammar.specs.Grammar.{the, Nonterminal, Said, annotation, literal, alias_variable, pattern_list, other_pattern, bare_pattern}
use Rattle.core_parse_grammar.specs.Matches.{Extent, all, Matches, MatchesAll, token, node, part, here, later, none, one}
use Rattle.core_parse_grammar.specs.Track.{Passes}
use Rattle.core_parse_grammar.specs.Starters.{opens_with}
use Rattle.core_parse_grammar.proofs.Moves.{un_itself, no_part}

module _ (s_ : Extent) (l : ℕ) where
  -- behind the last part
  over : (n : Nonterminal) (v w : Said n) (ts us : List Token) → MatchesAll s_ l n [] v ts w us → w ≡ v
  over n v w ts us none = refl

  module _ (t : Token) (ts : List Token) where
    literal_place : (d : ℕ) (us : List Token) (x : LiteralAt) → Matches s_ l (the (literal d)) (t ∷ ts) x us → x.place ≡ t.place
    literal_place d us x (part (here (one (node h w) r))) = ap (λ (z : LiteralAt). z.place) (over _ _ x _ us r)
    literal_place d us x (part (later (here (one (node h w) r)))) = ap (λ (z : LiteralAt). z.place) (over _ _ x _ us r)
    literal_place d us x (part (later (later (here (one (node h w) r))))) = ap (λ (z : LiteralAt). z.place) (over _ _ x _ us r)
    literal_place d us x (part (later (later (later (here (one (node h w) r)))))) = ap (λ (z : LiteralAt). z.place) (over _ _ x _ us r)
    literal_place d us x (part (later (later (later (later (here (one (node h w) r))))))) = ap (λ (z : LiteralAt). z.place) (over _ _ x _ us r)
    literal_place d us x (part (later (later (later (later (later (here (one (node h w) (one k r))))))))) = ap (λ (z : LiteralAt). z.place) (over _ _ x _ us r)
    literal_place d us x (part (later (later (later (later (later (later z))))))) = elim z [ ]

    variable_place : (d : ℕ) (us : List Token) (x : VariableAt) → Matches s_ l (the (alias_variable d)) (t ∷ ts) x us → x.place ≡ t.place
    variable_place d us x (part (here (one (node h w) r))) = ap (λ (z : VariableAt). z.place) (over _ _ x _ us r)
    variable_place d us x (part (later (here (one (token h) (one q (one k r)))))) = ap (λ (z : VariableAt). z.place) (over _ _ x _ us r)
    variable_place d us x (part (later (later z))) = elim z [ ]

    list_place : (d : ℕ) (us : List Token) (x : ItemsAt m.Pattern) → Matches s_ l (the (pattern_list d)) (t ∷ ts) x us → x.place ≡ t.place
    list_place d us x (part (here (one (node h w) r))) = ap (λ (z : ItemsAt m.Pattern). z.place) (over _ _ x _ us r)
    list_place d us x (part (later (here (one (node h w) (one q (one k r)))))) = ap (λ (z : ItemsAt m.Pattern). z.place) (over _ _ x _ us r)
    list_place d us x (part (later (later z))) = elim z [ ]

    other_place : (d : ℕ) (us : List Token) (x : m.Pattern) → Matches s_ l (the (other_pattern d)) (t ∷ ts) x us → (mark_of x).place ≡ t.place
    other_place d us x (part (here (one (node h w) r))) = ap (λ (z : m.Pattern). (mark_of z).place) (over _ _ x _ us r)
    other_place d us x (part (later (here (one {x = y} {us = mid} q r)))) = ap (λ (z : m.Pattern). (mark_of z).place) (over _ _ x _ us r) ∙ literal_place d mid y q
    other_place d us x (part (later (later (here (one (node h w) (one q r)))))) = ap (λ (z : m.Pattern). (mark_of z).place) (over _ _ x _ us r)
    other_place d us x (part (later (later (later (here (one {x = y} {us = mid} q (one k (one o r)))))))) = ap (λ (z : m.Pattern). (mark_of z).place) (over _ _ x _ us r) ∙ variable_place d mid y q
    other_place d us x (part (later (later (later (later (here (one (node h w) (one q r)))))))) = ap (λ (z : m.Pattern). (mark_of z).place) (over _ _ x _ us r)
    other_place d us x (part (later (later (later (later (later (here (one (node h w) (one q r))))))))) = ap (λ (z : m.Pattern). (mark_of z).place) (over _ _ x _ us r)
    other_place d us x (part (later (later (later (later (later (later z))))))) = elim z [ ]

    bare_reading_place : (d : ℕ) (us : List Token) (x : m.Pattern) → Matches s_ l (the (bare_pattern d)) (t ∷ ts) x us → (mark_of x).place ≡ t.place
    bare_reading_place d us x (part (here (one {x = y} {us = mid} q r))) = ap (λ (z : m.Pattern). (mark_of z).place) (over _ _ x _ us r) ∙ list_place d mid y q
    bare_reading_place d us x (part (later (here (one {x = y} {us = mid} q r)))) = ap (λ (z : m.Pattern). (mark_of z).place) (over _ _ x _ us r) ∙ other_place d mid y q
    bare_reading_place d us x (part (later (later z))) = elim z [ ]

-- The mark of a pattern that is read has the place of the first token.
pub bare_place : (d : ℕ) (ts us left : List Token) (t : Token) (x : m.Pattern) → ts ≡ t ∷ us → Passes (bare_pattern d) ts x left → (mark_of x).place ≡ t.place
bare_place d ts us left t x e g = go g.used g.split (un_itself all depth_limit (bare_pattern d) (g.used ++ left) left x (g.there all depth_limit (omega arith) left x left (inl none)))
  where
    go : (used : List Token) → ts ≡ used ++ left → Matches all depth_limit (the (bare_pattern d)) (used ++ left) x left → (mark_of x).place ≡ t.place
    go used h r = bare_reading_place all depth_limit t us d left x (subst (λ y. Matches all depth_limit (the (bare_pattern d)) y x left) (sym h ∙ e) r)

annotation_begins : (l : ℕ) (ts us : List Token) (k : Note) → Matches all l (the annotation) ts k us → opens_with s.Noted ts ≡ true
annotation_begins l [] us k r = absurd (no_part l (the annotation) k us r)
annotation_begins l (t ∷ ts) us k (part (here (one (token h) r))) = h
annotation_begins l (t ∷ ts) us k (part (later z)) = elim z [ ]

-- An annotation that is read has its sign first.
pub annotation_first : (ts left : List Token) (k : Note) → Passes annotation ts k left → opens_with s.Noted ts ≡ true
annotation_first ts left k g = annotation_begins depth_limit ts left k (subst (λ y. Matches all depth_limit (the annotation) y k left) (sym g.split)
    (un_itself all depth_limit annotation (g.used ++ left) left k (g.there all depth_limit (omega arith) left k left (inl none))))
