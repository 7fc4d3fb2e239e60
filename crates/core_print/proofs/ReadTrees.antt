-- Trees that fit are read from their words: expressions.
use Rattle.std.proofs.Common.{◌≡◌, ℕ, pos, ◌+◌, ◌≤◌, List, [], ◌∷◌, map, Bool, true, false, Option, Some, None, IsTrue, codes, refl, sym, ap, ◌∙◌, subst, true≢false}
use Rattle.std.specs.Prelude.{if◌then◌else◌}
use Rattle.type_kinds.specs.declared.place.Place.{Place}
use Rattle.core_ast.specs.declared.syntax.VarName.{VarName}
use Rattle.core_ast.specs.declared.syntax.FunName.{FunName}
use Rattle.core_ast.specs.declared.syntax.Literal.TheVariants as lit
use Rattle.core_ast.specs.declared.syntax.Note.{Note}
use Rattle.core_ast.specs.declared.syntax.Mark.{Mark}
use Rattle.core_ast.specs.Model as m
use Rattle.core_ast.specs.Tree.{trees, segments, defs, clauses, patterns, pairs, pat_pairs, pat_segments, ClauseParts}
use Rattle.core_ast.specs.Same.{nowhere, bare_variable}
use Rattle.core_ast.specs.Notes.{note_tree, noted_pattern, noted_clause}
use Rattle.core_scan.specs.declared.sort.Sort.{Sort}
use Rattle.core_scan.specs.declared.sort.Sort.TheVariants as s
use Rattle.core_scan.specs.Sorts.{fits, kind_sort}
use Rattle.core_parse_grammar.specs.Build.{no_note, note_or_none, with_note, kind_text, is_chain, before, let_, do_, at, and_step, StepParts, MapParts, map_tree, FunctionParts, note_function}
use Rattle.core_parse_grammar.specs.Grammar.{Part, the, SaidBy, many, more, expression as expression_part, bare_expression, other_expression, list, list_rest, list_tail, pattern as pattern_part, bare_pattern, other_pattern, pattern_list}
use Rattle.core_parse_grammar.specs.Grammar.{pattern_rest, pattern_tail, pattern_segment, pattern_pair, segment, pairs as pairs_part, more_pairs, pair, clauses_to, clause, bare_clause, definitions, definition, function, alias_variable}
use Rattle.core_print.specs.Words.{Word, reserved, symbol, integer, atom}
use Rattle.core_print.specs.Words as w
use Rattle.core_print.specs.Canonical as c
use Rattle.core_print.specs.Tokens.{kind_of}
use Rattle.core_print.specs.steps.Blank.{blank_mark, blank, blank_all, blank_segments, blank_defs, blank_clauses, blank_pairs, blank_steps, blank_pattern, blank_patterns, blank_pat_pairs, blank_pat_segments}
use Rattle.core_print.specs.Fits.{NoteFits, NameFits, VariableFits, VariablesFit, Fits, AllFit, SegmentsFit, DefsFit, ClausesFit, PairsFit, StepsFit, PatternFits, PatternsFit, PatPairsFit, PatSegmentsFit}
use Rattle.core_print.proofs.Readings.{Reading, word, node, done, go, alone, this_way, next_way, by_ways, weaker}
use Rattle.core_print.proofs.ReadForms.{arity_is, small_fits, noted_read, annotation_read, name_read, variables_read, in_angles, literal_read, quiet}

-- the note that stands around a tree, and what it stands around: those of a chain are its first step's
abbrev pub own_note : m.Tree → Note
own_note (m.chain k (m.and_let j xs e ss) t) = j.note
own_note (m.chain k (m.and_do j e ss) t) = j.note
own_note t = c.note_of t

abbrev inner : m.Tree → c.Words
inner (m.chain k (m.and_let j xs e ss) t) rest = reserved (codes "let") ∷ symbol (codes "<")
    ∷ c.variables true xs (symbol (codes ">") ∷ symbol (codes "=") ∷ c.expression e (reserved (codes "in") ∷ c.steps ss (c.expression t) rest))
inner (m.chain k (m.and_do j e ss) t) rest = reserved (codes "do") ∷ c.expression e (c.steps ss (c.expression t) rest)
inner t rest = c.plain t rest

pub renote : (t : m.Tree) → note_tree (own_note t) t ≡ t
renote (m.chain k (m.and_let j xs e ss) t) = refl
renote (m.chain k (m.and_do j e ss) t) = refl
renote (m.chain k m.no_step t) = refl
renote t = refl

-- a tree but for its note, places and labels
abbrev Like : m.Tree → m.Tree → Type 0
Like t v = ((n : Note) → blank (note_tree n v) ≡ blank (note_tree n t)) × (blank v ≡ blank (note_tree no_note t))

like_noted : (t v : m.Tree) (o : Option Note) → Like t v → note_or_none o ≡ own_note t → blank (with_note note_tree (record { value = v; note = o })) ≡ blank t
like_noted t v None like e = like.1 ∙ ap (λ n. blank (note_tree n t)) e ∙ ap blank (renote t)
like_noted t v (Some n) like e = like.0 n ∙ ap (λ n. blank (note_tree n t)) e ∙ ap blank (renote t)

-- ---- chains

-- what the rest of a chain gives: what comes last alone, or a chain of the steps that are left
abbrev rest_of : m.Steps → m.Tree → m.Tree
rest_of m.no_step t = blank t
rest_of (m.and_let k xs e ss) t = m.chain (record { label = 0; place = nowhere; note = no_note }) (blank_steps (m.and_let k xs e ss)) (blank t)
rest_of (m.and_do k e ss) t = m.chain (record { label = 0; place = nowhere; note = no_note }) (blank_steps (m.and_do k e ss)) (blank t)

blank_chain : (t : m.Tree) → is_chain (blank t) ≡ is_chain t
blank_chain (m.chain k ss t) = refl
blank_chain (m.variable k x) = refl
blank_chain t = refl

steps_left : (ks : m.Steps) (ss : m.Steps) (k : Mark) (u t : m.Tree) → is_chain t ≡ false → m.chain k ks u ≡ rest_of ss t → (ks ≡ blank_steps ss) × (u ≡ blank t)
steps_left ks m.no_step k u t plain e = absurd (true≢false (ap is_chain e ∙ blank_chain t ∙ plain))
steps_left ks (m.and_let j xs x ss) k u t plain e = let a : ks ≡ blank_steps (m.and_let j xs x ss) = cc in let b : u ≡ blank t = cc in (a, b)
steps_left ks (m.and_do j x ss) k u t plain e = let a : ks ≡ blank_steps (m.and_do j x ss) = cc in let b : u ≡ blank t = cc in (a, b)

other_than_chain : (b : m.Tree) (ss : m.Steps) (t : m.Tree) → is_chain b ≡ false → blank b ≡ rest_of ss t → (blank_steps ss ≡ m.no_step) × (blank b ≡ blank t)
other_than_chain b m.no_step t plain e = (refl, e)
other_than_chain b (m.and_let j xs x ss) t plain e = absurd (true≢false (sym (ap is_chain e) ∙ blank_chain b ∙ plain))
other_than_chain b (m.and_do j x ss) t plain e = absurd (true≢false (sym (ap is_chain e) ∙ blank_chain b ∙ plain))

alone_last : (p : Place) (x : StepParts) (b : m.Tree) (ss : m.Steps) (t : m.Tree) → is_chain b ≡ false → before p x b ≡ m.chain (at p) (and_step (at p) x m.no_step) b → is_chain t ≡ false → blank b ≡ rest_of ss t
    → (ks : m.Steps) × (u : m.Tree) × (before p x b ≡ m.chain (at p) (and_step (at p) x ks) u) × (blank_steps ks ≡ blank_steps ss) × (blank u ≡ blank t)
alone_last p x b ss t other is plain e = let r = other_than_chain b ss t other e in (m.no_step, b, is, sym r.0, r.1)

-- a step in front of what was read
put_before : (p : Place) (x : StepParts) (b : m.Tree) (ss : m.Steps) (t : m.Tree) → is_chain t ≡ false → blank b ≡ rest_of ss t
    → (ks : m.Steps) × (u : m.Tree) × (before p x b ≡ m.chain (at p) (and_step (at p) x ks) u) × (blank_steps ks ≡ blank_steps ss) × (blank u ≡ blank t)
put_before p x (m.chain k ks u) ss t plain e = let r = steps_left (blank_steps ks) ss (blank_mark k) (blank u) t plain e in (ks, u, refl, r.0, r.1)
put_before p x (m.variable k a1) ss t plain e = alone_last p x (m.variable k a1) ss t refl refl plain e
put_before p x (m.local k a1) ss t plain e = alone_last p x (m.local k a1) ss t refl refl plain e
put_before p x (m.external k a1 a2) ss t plain e = alone_last p x (m.external k a1 a2) ss t refl refl plain e
put_before p x (m.literal k a1) ss t plain e = alone_last p x (m.literal k a1) ss t refl refl plain e
put_before p x (m.function k a1 a2) ss t plain e = alone_last p x (m.function k a1 a2) ss t refl refl plain e
put_before p x (m.listed k a1 a2) ss t plain e = alone_last p x (m.listed k a1 a2) ss t refl refl plain e
put_before p x (m.tuple k a1) ss t plain e = alone_last p x (m.tuple k a1) ss t refl refl plain e
put_before p x (m.new_map k a1) ss t plain e = alone_last p x (m.new_map k a1) ss t refl refl plain e
put_before p x (m.updated_map k a1 a2) ss t plain e = alone_last p x (m.updated_map k a1 a2) ss t refl refl plain e
put_before p x (m.binary k a1) ss t plain e = alone_last p x (m.binary k a1) ss t refl refl plain e
put_before p x (m.values k a1) ss t plain e = alone_last p x (m.values k a1) ss t refl refl plain e
put_before p x (m.case k a1 a2) ss t plain e = alone_last p x (m.case k a1 a2) ss t refl refl plain e
put_before p x (m.letrec k a1 a2) ss t plain e = alone_last p x (m.letrec k a1 a2) ss t refl refl plain e
put_before p x (m.apply k a1 a2) ss t plain e = alone_last p x (m.apply k a1 a2) ss t refl refl plain e
put_before p x (m.call k a1 a2 a3) ss t plain e = alone_last p x (m.call k a1 a2 a3) ss t refl refl plain e
put_before p x (m.primop k a1 a2) ss t plain e = alone_last p x (m.primop k a1 a2) ss t refl refl plain e
put_before p x (m.try k a1 a2 a3 a4 a5) ss t plain e = alone_last p x (m.try k a1 a2 a3 a4 a5) ss t refl refl plain e
put_before p x (m.receive k a1 a2 a3) ss t plain e = alone_last p x (m.receive k a1 a2 a3) ss t refl refl plain e
put_before p x (m.catch k a1) ss t plain e = alone_last p x (m.catch k a1) ss t refl refl plain e

-- what a chain is without its first note
abbrev step_like : m.Steps → m.Tree → m.Tree → Type 0
step_like ss t v = Like (m.chain (record { label = 0; place = nowhere; note = no_note }) ss t) v

let_like : (p : Place) (ys xs : List VarName) (y x b : m.Tree) (j : Mark) (ss : m.Steps) (t : m.Tree) → is_chain t ≡ false → map bare_variable ys ≡ map bare_variable xs → blank y ≡ blank x → blank b ≡ rest_of ss t
    → step_like (m.and_let j xs x ss) t (before p (let_ ys y) b)
let_like p ys xs y x b j ss t plain e g h =
    let r = put_before p (let_ ys y) b ss t plain h in (
      λ n. ap (λ z. blank (note_tree n z)) r.2 ∙ (λ i. m.chain (record { label = 0; place = nowhere; note = no_note }) (m.and_let (record { label = 0; place = nowhere; note = n }) (e i) (g i) (r.3 i)) (r.4 i)),
      ap blank r.2 ∙ (λ i. m.chain (record { label = 0; place = nowhere; note = no_note }) (m.and_let (record { label = 0; place = nowhere; note = no_note }) (e i) (g i) (r.3 i)) (r.4 i)),
    )

do_like : (p : Place) (y x b : m.Tree) (j : Mark) (ss : m.Steps) (t : m.Tree) → is_chain t ≡ false → blank y ≡ blank x → blank b ≡ rest_of ss t → step_like (m.and_do j x ss) t (before p (do_ y) b)
do_like p y x b j ss t plain g h =
    let r = put_before p (do_ y) b ss t plain h in (
      λ n. ap (λ z. blank (note_tree n z)) r.2 ∙ (λ i. m.chain (record { label = 0; place = nowhere; note = no_note }) (m.and_do (record { label = 0; place = nowhere; note = n }) (g i) (r.3 i)) (r.4 i)),
      ap blank r.2 ∙ (λ i. m.chain (record { label = 0; place = nowhere; note = no_note }) (m.and_do (record { label = 0; place = nowhere; note = no_note }) (g i) (r.3 i)) (r.4 i)),
    )

-- ---- patterns without their notes

pattern_renote : (p : m.Pattern) → noted_pattern (c.pattern_note_of p) p ≡ p
pattern_renote (m.binds k x) = refl
pattern_renote p = refl

abbrev PatternLike : m.Pattern → m.Pattern → Type 0
PatternLike p v = ((n : Note) → blank_pattern (noted_pattern n v) ≡ blank_pattern (noted_pattern n p)) × (blank_pattern v ≡ blank_pattern (noted_pattern no_note p))

pattern_like_noted : (p v : m.Pattern) (o : Option Note) → PatternLike p v → note_or_none o ≡ c.pattern_note_of p → blank_pattern (with_note noted_pattern (record { value = v; note = o })) ≡ blank_pattern p
pattern_like_noted p v None like e = like.1 ∙ ap (λ n. blank_pattern (noted_pattern n p)) e ∙ ap blank_pattern (pattern_renote p)
pattern_like_noted p v (Some n) like e = like.0 n ∙ ap (λ n. blank_pattern (noted_pattern n p)) e ∙ ap blank_pattern (pattern_renote p)

module _ (l : ℕ) (one : 1 ≤ l) where
  -- how a tree is read without its note: a list with elements, or any other
  abbrev FormRead : ℕ → m.Tree → Type 0
  FormRead d (m.listed k ts t) = Reading l (the (list d)) (λ x. (blank_all (trees x.items) ≡ blank_all ts) × (blank x.tail ≡ blank t)) (c.plain (m.listed k ts t))
  FormRead d t = Reading l (the (other_expression d)) (Like t) (inner t)

  bare_read : (t : m.Tree) (d : ℕ) → FormRead d t → Reading l (the (bare_expression d)) (Like t) (inner t)
  bare_read (m.listed k ts t) d h = by_ways l (alone l h (λ x e. (λ n i. m.listed (record { label = 0; place = nowhere; note = n }) (e.0 i) (e.1 i), λ i. m.listed (record { label = 0; place = nowhere; note = no_note }) (e.0 i) (e.1 i))))
  bare_read t d h = by_ways l (next_way l (alone l h (λ x e. e)))

  own_fits : (t : m.Tree) (d : ℕ) → Fits l d t → NoteFits (own_note t)
  own_fits (m.chain k (m.and_let j xs e ss) t) d h = h.3.0
  own_fits (m.chain k (m.and_do j e ss) t) d h = h.3.0
  own_fits (m.chain k m.no_step t) d h = absurd h.2
  own_fits (m.variable k x) d h = h.1
  own_fits t d h = h.1

  around : (t : m.Tree) (d : ℕ) → Fits l d t → (rest : List Word) → c.noted (own_note t) (inner t) rest ≡ c.expression t rest
  around (m.chain k (m.and_let j xs e ss) t) d h rest = ap (λ n. c.noted n (c.plain (m.chain k (m.and_let j xs e ss) t)) rest) (sym h.1)
  around (m.chain k (m.and_do j e ss) t) d h rest = ap (λ n. c.noted n (c.plain (m.chain k (m.and_do j e ss) t)) rest) (sym h.1)
  around (m.chain k m.no_step t) d h rest = absurd h.2
  around (m.variable k x) d h rest = refl
  around t d h rest = refl

  expression_read : (t : m.Tree) (d : ℕ) → Fits l d t → FormRead d t → Reading l (the (expression_part d)) (λ v. blank v ≡ blank t) (c.expression t)
  expression_read t d fits_ h = other_words (around t d fits_)
      (by_ways l (alone l (noted_read l one (the (bare_expression d)) (Like t) (own_note t) (inner t) (own_fits t d fits_) (bare_read t d h)) (λ x e. like_noted t x.value x.note e.0 e.1)))
    where
      other_words : {f g : c.Words} → ((rest : List Word) → f rest ≡ g rest) → Reading l (the (expression_part d)) (λ v. blank v ≡ blank t) f → Reading l (the (expression_part d)) (λ v. blank v ≡ blank t) g
      other_words {f} {g} same r place rest = subst (λ ws. Rattle.core_print.proofs.Readings.Read l (the (expression_part d)) (λ v. blank v ≡ blank t) place ws rest) (same rest) (r place rest)

  -- ---- tails

  bracket_tail : (t : m.Tree) (d : ℕ) → NoteFits (own_note t) → Reading l (the (bare_expression (d + 1))) (Like t) (inner t)
      → Reading l (the (list_tail d)) (λ x. (x.items ≡ []) × (blank x.tail ≡ blank t)) (λ rest. symbol (codes "(") ∷ inner t (c.annotation (own_note t) rest))
  bracket_tail t d fits_ h = by_ways l (next_way l (next_way l
      (this_way l (go l (word l s.OpenRound (symbol (codes "(")) refl) (λ u q. go l h
      (λ v g. go l (annotation_read l one (own_note t) fits_) (λ n k. done l (refl, g.0 n ∙ ap (λ j. blank (note_tree j t)) k ∙ ap blank (renote t)))))))))

  bare_tail : (t : m.Tree) (d : ℕ) → c.is_written (own_note t).line (own_note t).generated ≡ false → Reading l (the (other_expression (d + 1))) (Like t) (inner t)
      → Reading l (the (list_tail d)) (λ x. (x.items ≡ []) × (blank x.tail ≡ blank t)) (inner t)
  bare_tail t d e h = by_ways l (next_way l (this_way l (go l h (λ v g. done l (refl, g.1 ∙ ap (λ j. blank (note_tree j t)) (quiet (own_note t).line (own_note t).generated e) ∙ ap blank (renote t))))))

  abbrev TailIs : m.Tree → ℕ → c.Words → Type 0
  TailIs t d ws = Reading l (the (list_rest d)) (λ x. (blank_all (trees x.items) ≡ m.no_tree) × (blank x.tail ≡ blank t)) ws

  -- behind the bar, and the bracket
  after_bar : (t : m.Tree) (d : ℕ) (ws : c.Words) → Reading l (the (list_tail d)) (λ x. (x.items ≡ []) × (blank x.tail ≡ blank t)) ws → TailIs t d (λ rest. symbol (codes "|") ∷ ws (symbol (codes "]") ∷ rest))
  after_bar t d ws h = by_ways l (next_way l (next_way l (this_way l (go l (word l s.Bar (symbol (codes "|")) refl)
      (λ u q. go l h (λ x g. go l (word l s.CloseSquare (symbol (codes "]")) refl) (λ v k. done l ((λ i. blank_all (trees (g.0 i))), g.1))))))))

  no_tail : (k : Mark) (d : ℕ) → c.is_written k.note.line k.note.generated ≡ false → TailIs (m.literal k lit.Nil) d (λ rest. symbol (codes "]") ∷ rest)
  no_tail k d e = by_ways l (this_way l (go l (word l s.CloseSquare (symbol (codes "]")) refl) (λ u q. done l (refl, λ i. m.literal (record { label = 0; place = nowhere; note = quiet k.note.line k.note.generated e i }) lit.Nil))))

  any_tail : (t : m.Tree) (d : ℕ) → NoteFits (own_note t) → Reading l (the (other_expression (d + 1))) (Like t) (inner t) → TailIs t d (λ rest. symbol (codes "|") ∷ c.noted (own_note t) (inner t) (symbol (codes "]") ∷ rest))
  any_tail t d fits_ h = by (c.is_written (own_note t).line (own_note t).generated) refl
    where
      by : (b : Bool) → c.is_written (own_note t).line (own_note t).generated ≡ b
          → TailIs t d (λ rest. symbol (codes "|") ∷ (if b then symbol (codes "(")
          ∷ inner t (if b then c.annotation (own_note t) (symbol (codes "]") ∷ rest) else symbol (codes "]") ∷ rest) else inner t (if b then c.annotation (own_note t) (symbol (codes "]") ∷ rest) else symbol (codes "]") ∷ rest)))
      by true e = after_bar t d (λ rest. symbol (codes "(") ∷ inner t (c.annotation (own_note t) rest)) (bracket_tail t d fits_ (by_ways l (next_way l (alone l h (λ x g. g)))))
      by false e = after_bar t d (inner t) (bare_tail t d e h)

  -- ---- patterns

  abbrev PatternFormRead : ℕ → m.Pattern → Type 0
  PatternFormRead d (m.list_of k ps p) = Reading l (the (pattern_list d)) (λ x. (blank_patterns (patterns x.items) ≡ blank_patterns ps) × (blank_pattern x.tail ≡ blank_pattern p)) (c.plain_pattern (m.list_of k ps p))
  PatternFormRead d p = Reading l (the (other_pattern d)) (PatternLike p) (c.plain_pattern p)

  bare_pattern_read : (p : m.Pattern) (d : ℕ) → PatternFormRead d p → Reading l (the (bare_pattern d)) (PatternLike p) (c.plain_pattern p)
  bare_pattern_read (m.list_of k ps p) d h = by_ways l (alone l h (λ x e. (
    λ n i. m.list_of (record { label = 0; place = nowhere; note = n }) (e.0 i) (e.1 i),
    λ i. m.list_of (record { label = 0; place = nowhere; note = no_note }) (e.0 i) (e.1 i),
  )))
  bare_pattern_read p d h = by_ways l (next_way l (alone l h (λ x e. e)))

  pattern_note_fits : (p : m.Pattern) (d : ℕ) → PatternFits l d p → NoteFits (c.pattern_note_of p)
  pattern_note_fits (m.binds k x) d h = h.1
  pattern_note_fits p d h = h.1

  pattern_read : (p : m.Pattern) (d : ℕ) → PatternFits l d p → PatternFormRead d p → Reading l (the (pattern_part d)) (λ v. blank_pattern v ≡ blank_pattern p) (c.pattern p)
  pattern_read p d fits_ h = by_ways l (alone l (noted_read l one (the (bare_pattern d)) (PatternLike p) (c.pattern_note_of p) (c.plain_pattern p) (pattern_note_fits p d fits_) (bare_pattern_read p d h))
      (λ x e. pattern_like_noted p x.value x.note e.0 e.1))

  bracket_pattern_tail : (t : m.Pattern) (d : ℕ) → NoteFits (c.pattern_note_of t) → Reading l (the (bare_pattern (d + 1))) (PatternLike t) (c.plain_pattern t)
      → Reading l (the (pattern_tail d)) (λ x. (x.items ≡ []) × (blank_pattern x.tail ≡ blank_pattern t)) (λ rest. symbol (codes "(") ∷ c.plain_pattern t (c.annotation (c.pattern_note_of t) rest))
  bracket_pattern_tail t d fits_ h = by_ways l (next_way l (next_way l (this_way l
      (go l (word l s.OpenRound (symbol (codes "(")) refl) (λ u q. go l h (λ v g.
      go l (annotation_read l one (c.pattern_note_of t) fits_) (λ n k. done l (refl, g.0 n ∙ ap (λ j. blank_pattern (noted_pattern j t)) k ∙ ap blank_pattern (pattern_renote t)))))))))

  bare_pattern_tail : (t : m.Pattern) (d : ℕ) → c.is_written (c.pattern_note_of t).line (c.pattern_note_of t).generated ≡ false → Reading l (the (other_pattern (d + 1))) (PatternLike t) (c.plain_pattern t)
      → Reading l (the (pattern_tail d)) (λ x. (x.items ≡ []) × (blank_pattern x.tail ≡ blank_pattern t)) (c.plain_pattern t)
  bare_pattern_tail t d e h = by_ways l (next_way l (this_way l
      (go l h (λ v g. done l (refl, g.1 ∙ ap (λ j. blank_pattern (noted_pattern j t)) (quiet (c.pattern_note_of t).line (c.pattern_note_of t).generated e) ∙ ap blank_pattern (pattern_renote t))))))

  abbrev PatternTailIs : m.Pattern → ℕ → c.Words → Type 0
  PatternTailIs t d ws = Reading l (the (pattern_rest d)) (λ x. (blank_patterns (patterns x.items) ≡ m.no_pattern) × (blank_pattern x.tail ≡ blank_pattern t)) ws

  after_pattern_bar : (t : m.Pattern) (d : ℕ) (ws : c.Words) → Reading l (the (pattern_tail d)) (λ x. (x.items ≡ []) × (blank_pattern x.tail ≡ blank_pattern t)) ws
      → PatternTailIs t d (λ rest. symbol (codes "|") ∷ ws (symbol (codes "]") ∷ rest))
  after_pattern_bar t d ws h = by_ways l (next_way l (next_way l
      (this_way l (go l (word l s.Bar (symbol (codes "|")) refl) (λ u q. go l h (λ x g. go l (word l s.CloseSquare (symbol (codes "]")) refl) (λ v k. done l ((λ i. blank_patterns (patterns (g.0 i))), g.1))))))))

  no_pattern_tail : (k : Mark) (d : ℕ) → c.is_written k.note.line k.note.generated ≡ false → PatternTailIs (m.equals k lit.Nil) d (λ rest. symbol (codes "]") ∷ rest)
  no_pattern_tail k d e = by_ways l (this_way l (go l (word l s.CloseSquare (symbol (codes "]")) refl) (λ u q. done l (refl, λ i. m.equals (record { label = 0; place = nowhere; note = quiet k.note.line k.note.generated e i }) lit.Nil))))

  any_pattern_tail : (t : m.Pattern) (d : ℕ) → NoteFits (c.pattern_note_of t) → Reading l (the (other_pattern (d + 1))) (PatternLike t) (c.plain_pattern t)
      → PatternTailIs t d (λ rest. symbol (codes "|") ∷ c.noted (c.pattern_note_of t) (c.plain_pattern t) (symbol (codes "]") ∷ rest))
  any_pattern_tail t d fits_ h = by (c.is_written (c.pattern_note_of t).line (c.pattern_note_of t).generated) refl
    where
      by : (b : Bool) → c.is_written (c.pattern_note_of t).line (c.pattern_note_of t).generated ≡ b
          → PatternTailIs t d (λ rest. symbol (codes "|") ∷ (if b then symbol (codes "(")
          ∷ c.plain_pattern t (if b then c.annotation (c.pattern_note_of t) (symbol (codes "]") ∷ rest) else symbol (codes "]") ∷ rest) else c.plain_pattern t
          (if b then c.annotation (c.pattern_note_of t) (symbol (codes "]") ∷ rest) else symbol (codes "]") ∷ rest)))
      by true e = after_pattern_bar t d (λ rest. symbol (codes "(") ∷ c.plain_pattern t (c.annotation (c.pattern_note_of t) rest)) (bracket_pattern_tail t d fits_ (by_ways l (next_way l (alone l h (λ x g. g)))))
      by false e = after_pattern_bar t d (c.plain_pattern t) (bare_pattern_tail t d e h)

  -- ---- all together

  new_map_like : (p : Place) (k : Mark) (x : MapParts) (ps : m.Pairs) → blank_pairs (pairs x.pairs) ≡ blank_pairs ps → x.updated ≡ None → Like (m.new_map k ps) (map_tree (at p) (pairs x.pairs) x.updated)
  new_map_like p k x ps e g = (
    λ n. ap (λ o. blank (note_tree n (map_tree (at p) (pairs x.pairs) o))) g ∙ (λ i. m.new_map (record { label = 0; place = nowhere; note = n }) (e i)),
    ap (λ o. blank (map_tree (at p) (pairs x.pairs) o)) g ∙ (λ i. m.new_map (record { label = 0; place = nowhere; note = no_note }) (e i)),
  )

  abbrev Updates : m.Tree → Option m.Tree → Type 0
  Updates t o = (y : m.Tree) × (o ≡ Some y) × (blank y ≡ blank t)

  abbrev UpdatedIs : Option m.Tree → Option m.Tree → Type 0
  UpdatedIs None o = o ≡ None
  UpdatedIs (Some t) o = Updates t o

  updated_map_like : (p : Place) (k : Mark) (x : MapParts) (ps : m.Pairs) (t : m.Tree) → blank_pairs (pairs x.pairs) ≡ blank_pairs ps → Updates t x.updated → Like (m.updated_map k ps t) (map_tree (at p) (pairs x.pairs) x.updated)
  updated_map_like p k x ps t e g = (
    λ n. ap (λ o. blank (note_tree n (map_tree (at p) (pairs x.pairs) o))) g.1 ∙ (λ i. m.updated_map (record { label = 0; place = nowhere; note = n }) (e i) (g.2 i)),
    ap (λ o. blank (map_tree (at p) (pairs x.pairs) o)) g.1 ∙ (λ i. m.updated_map (record { label = 0; place = nowhere; note = no_note }) (e i) (g.2 i)),
  )

  chain_of_let : (k j : Mark) (xs : List VarName) (e : m.Tree) (ss : m.Steps) (t : m.Tree) → k.note ≡ no_note → (v : m.Tree) → step_like (m.and_let j xs e ss) t v → Like (m.chain k (m.and_let j xs e ss) t) v
  chain_of_let k j xs e ss t q v z = (
    λ n. z.0 n ∙ (λ i. m.chain (record { label = 0; place = nowhere; note = sym q i }) (m.and_let (record { label = 0; place = nowhere; note = n }) (map bare_variable xs) (blank e) (blank_steps ss)) (blank t)),
    z.1 ∙ (λ i. m.chain (record { label = 0; place = nowhere; note = sym q i }) (m.and_let (record { label = 0; place = nowhere; note = no_note }) (map bare_variable xs) (blank e) (blank_steps ss)) (blank t)),
  )

  chain_of_do : (k j : Mark) (e : m.Tree) (ss : m.Steps) (t : m.Tree) → k.note ≡ no_note → (v : m.Tree) → step_like (m.and_do j e ss) t v → Like (m.chain k (m.and_do j e ss) t) v
  chain_of_do k j e ss t q v z = (
    λ n. z.0 n ∙ (λ i. m.chain (record { label = 0; place = nowhere; note = sym q i }) (m.and_do (record { label = 0; place = nowhere; note = n }) (blank e) (blank_steps ss)) (blank t)),
    z.1 ∙ (λ i. m.chain (record { label = 0; place = nowhere; note = sym q i }) (m.and_do (record { label = 0; place = nowhere; note = no_note }) (blank e) (blank_steps ss)) (blank t)),
  )

  other_words : {p : Part} {Is : SaidBy p → Type 0} {f g : c.Words} → ((rest : List Word) → f rest ≡ g rest) → Reading l p Is f → Reading l p Is g
  other_words {p} {Is} {f} {g} same r place rest = subst (λ ws. Rattle.core_print.proofs.Readings.Read l p Is place ws rest) (same rest) (r place rest)

  tail_of : (t : m.Tree) (d : ℕ) → Fits l (d + 1) t → FormRead (d + 1) t → TailIs t d (λ rest. c.tail t (c.plain t) (symbol (codes "]") ∷ rest))
  tail_of (m.literal k lit.Nil) d h f = by (c.is_written k.note.line k.note.generated) refl
    where
      by : (b : Bool) → c.is_written k.note.line k.note.generated ≡ b → TailIs (m.literal k lit.Nil) d
          (λ rest. if b then symbol (codes "|") ∷ c.noted k.note (c.literal lit.Nil) (symbol (codes "]") ∷ rest) else symbol (codes "]") ∷ rest)
      by true e = any_tail (m.literal k lit.Nil) d h.1 f
      by false e = no_tail k d e
  tail_of (m.literal k (lit.Int n)) d h f = any_tail (m.literal k (lit.Int n)) d h.1 f
  tail_of (m.literal k (lit.Float n)) d h f = any_tail (m.literal k (lit.Float n)) d h.1 f
  tail_of (m.literal k (lit.Atom n)) d h f = any_tail (m.literal k (lit.Atom n)) d h.1 f
  tail_of (m.listed k ts t) d h f = after_bar (m.listed k ts t) d (λ rest. symbol (codes "(") ∷ c.plain (m.listed k ts t) (c.annotation k.note rest)) (bracket_tail (m.listed k ts t) d h.1 (bare_read (m.listed k ts t) (d + 1) f))
  tail_of t d h f = other_words (λ rest. ap (λ ws. symbol (codes "|") ∷ ws) (around t (d + 1) h (symbol (codes "]") ∷ rest))) (any_tail t d (own_fits t (d + 1) h) f)

  pattern_tail_of : (t : m.Pattern) (d : ℕ) → PatternFits l (d + 1) t → PatternFormRead (d + 1) t → PatternTailIs t d (λ rest. c.pattern_tail t (c.plain_pattern t) (symbol (codes "]") ∷ rest))
  pattern_tail_of (m.equals k lit.Nil) d h f = by (c.is_written k.note.line k.note.generated) refl
    where
      by : (b : Bool) → c.is_written k.note.line k.note.generated ≡ b → PatternTailIs (m.equals k lit.Nil) d
          (λ rest. if b then symbol (codes "|") ∷ c.noted k.note (c.literal lit.Nil) (symbol (codes "]") ∷ rest) else symbol (codes "]") ∷ rest)
      by true e = any_pattern_tail (m.equals k lit.Nil) d h.1 f
      by false e = no_pattern_tail k d e
  pattern_tail_of (m.equals k (lit.Int n)) d h f = any_pattern_tail (m.equals k (lit.Int n)) d h.1 f
  pattern_tail_of (m.equals k (lit.Float n)) d h f = any_pattern_tail (m.equals k (lit.Float n)) d h.1 f
  pattern_tail_of (m.equals k (lit.Atom n)) d h f = any_pattern_tail (m.equals k (lit.Atom n)) d h.1 f
  pattern_tail_of (m.list_of k ts t) d h f = after_pattern_bar (m.list_of k ts t) d (λ rest. symbol (codes "(") ∷ c.plain_pattern (m.list_of k ts t) (c.annotation k.note rest))
      (bracket_pattern_tail (m.list_of k ts t) d h.1 (bare_pattern_read (m.list_of k ts t) (d + 1) f))
  pattern_tail_of (m.binds k x) d h f = any_pattern_tail (m.binds k x) d h.1 f
  pattern_tail_of (m.tuple_of k x) d h f = any_pattern_tail (m.tuple_of k x) d h.1 f
  pattern_tail_of (m.map_of k x) d h f = any_pattern_tail (m.map_of k x) d h.1 f
  pattern_tail_of (m.binary_of k x) d h f = any_pattern_tail (m.binary_of k x) d h.1 f
  pattern_tail_of (m.alias k x p) d h f = any_pattern_tail (m.alias k x p) d h.1 f

  -- the parts of clauses and definitions, but for places and labels
  abbrev ClauseIs : Note → m.Patterns → m.Tree → m.Tree → ClauseParts → Type 0
  ClauseIs n ps g t x = (x.mark.note ≡ n) × (blank_patterns x.patterns ≡ blank_patterns ps) × (blank x.guard ≡ blank g) × (blank x.body ≡ blank t)

  clause_noted : (n : Note) (ps : m.Patterns) (g t : m.Tree) (v : ClauseParts) (o : Option Note) → ClauseIs no_note ps g t v → note_or_none o ≡ n → ClauseIs n ps g t (with_note noted_clause (record { value = v; note = o }))
  clause_noted n ps g t v None h e = (h.0 ∙ e, h.1, h.2, h.3)
  clause_noted n ps g t v (Some j) h e = (e, h.1, h.2, h.3)

  abbrev FunctionIs : Note → List VarName → m.Tree → FunctionParts → Type 0
  FunctionIs n xs t f = (f.mark.note ≡ n) × (map bare_variable f.params ≡ map bare_variable xs) × (blank f.body ≡ blank t)

  function_noted : (n : Note) (xs : List VarName) (t : m.Tree) (v : FunctionParts) (o : Option Note) → FunctionIs no_note xs t v → note_or_none o ≡ n → FunctionIs n xs t (with_note note_function (record { value = v; note = o }))
  function_noted n xs t v None h e = (h.0 ∙ e, h.1, h.2)
  function_noted n xs t v (Some j) h e = (e, h.1, h.2)

  alias_variable_read : (d : ℕ) → d ≤ l → (x : VarName) → VariableFits x → Reading l (the (alias_variable d)) (λ y. bare_variable y.name ≡ bare_variable x) (λ rest. c.variable_in_list x rest)
  alias_variable_read d deep x fits_ = by (c.is_written x.note.line x.note.generated) refl
    where
      by : (b : Bool) → c.is_written x.note.line x.note.generated ≡ b → Reading l (the (alias_variable d)) (λ y. bare_variable y.name ≡ bare_variable x)
          (λ rest. if b then symbol (codes "(") ∷ w.variable x.name ∷ (if b then c.annotation x.note rest else rest) else w.variable x.name ∷ (if b then c.annotation x.note rest else rest))
      by true e = by_ways l (next_way l (this_way l (go l (word l s.OpenRound (symbol (codes "(")) refl)
          (λ u q. go l (node l d s.Variable (w.variable x.name) deep refl) (λ t g. go l (annotation_read l one x.note fits_.1) (λ n k. done l (λ i. record { name = kind_text (g i); place = nowhere; note = k i })))))))
      by false e = by_ways l (this_way l (go l (node l d s.Variable (w.variable x.name) deep refl) (λ t g. done l (λ i. record { name = kind_text (g i); place = nowhere; note = quiet x.note.line x.note.generated e i }))))

  segment_read : (t : m.Tree) (ts : m.Trees) (d : ℕ) → Reading l (the (expression_part d)) (λ v. blank v ≡ blank t) (c.expression t)
      → Reading l (the (many s.CloseRound (the (expression_part d)))) (λ xs. blank_all (trees xs) ≡ blank_all ts) (λ rest. c.expressions true ts (symbol (codes ")") ∷ rest))
      → Reading l (the (segment d)) (λ x. (blank x.value ≡ blank t) × (blank_all x.args ≡ blank_all ts))
      (λ rest. symbol (codes "#<") ∷ c.expression t (symbol (codes ">") ∷ symbol (codes "(") ∷ c.expressions true ts (symbol (codes ")") ∷ rest)))
  segment_read t ts d h g = by_ways l (this_way l (go l (word l s.OpenSegment (symbol (codes "#<")) refl)
      (λ u q. go l h (λ x e. go l (word l s.Greater (symbol (codes ">")) refl) (λ u1 q1. go l (word l s.OpenRound (symbol (codes "(")) refl) (λ u2 q2. go l g (λ xs k. done l (e, k))))))))

  pair_read : (b : Bool) (t u : m.Tree) (d : ℕ) → Reading l (the (expression_part d)) (λ v. blank v ≡ blank t) (c.expression t) → Reading l (the (expression_part d)) (λ v. blank v ≡ blank u) (c.expression u)
      → Reading l (the (pair d)) (λ x. (x.exact ≡ b) × (blank x.key ≡ blank t) × (blank x.value ≡ blank u)) (λ rest. c.expression t (symbol (if b then codes ":=" else codes "=>") ∷ c.expression u rest))
  pair_read false t u d h g = by_ways l (alone l (by_ways l (alone l (by_ways l (this_way l (go l h (λ x e. go l (word l s.Assoc (symbol (codes "=>")) refl) (λ z q. go l g (λ y k. done l (refl, e, k))))))) (λ x k. k))) (λ x k. k))
  pair_read true t u d h g = by_ways l (alone l (by_ways l (alone l (by_ways l (next_way l (this_way l (go l h (λ x e. go l (word l s.Exact (symbol (codes ":=")) refl) (λ z q. go l g (λ y k. done l (refl, e, k)))))))) (λ x k. k)))
      (λ x k. k))

  clause_read : (k : Mark) (ps : m.Patterns) (g b : m.Tree) (d : ℕ) → NoteFits k.note
      → Reading l (the (many s.Greater (the (pattern_part d)))) (λ xs. blank_patterns (patterns xs) ≡ blank_patterns ps) (λ rest. c.patterns true ps (symbol (codes ">") ∷ rest))
      → Reading l (the (expression_part d)) (λ v. blank v ≡ blank g) (c.expression g) → Reading l (the (expression_part d)) (λ v. blank v ≡ blank b) (c.expression b)
      → Reading l (the (clause d)) (ClauseIs k.note ps g b) (λ rest. c.noted k.note
      (λ rest. symbol (codes "<") ∷ c.patterns true ps (symbol (codes ">") ∷ reserved (codes "when") ∷ c.expression g (symbol (codes "->") ∷ c.expression b rest))) rest)
  clause_read k ps g b d hn hp hg hb = by_ways l (alone l (noted_read l one (the (bare_clause d)) (ClauseIs no_note ps g b) k.note _ hn
      (by_ways l (this_way l (go l (by_ways l (next_way l (next_way l (this_way l (go l (word l s.Less (symbol (codes "<")) refl) (λ u q. go l hp (λ xs e. done l (e))))))))
      (λ x e. go l (word l s.When (reserved (codes "when")) refl) (λ u q. go l hg (λ y k. go l (word l s.Arrow (symbol (codes "->")) refl) (λ u1 q1. go l hb (λ z j. done l (refl, e, k, j))))))))))
      (λ x z. clause_noted k.note ps g b x.value x.note z.0 z.1))

  definition_read : (f : FunName) (k : Mark) (xs : List VarName) (t : m.Tree) (d : ℕ) → NameFits f → NoteFits k.note → VariablesFit xs → Reading l (the (expression_part d)) (λ v. blank v ≡ blank t) (c.expression t)
      → Reading l (the (definition d)) (λ x. (x.name ≡ f) × (x.mark.note ≡ k.note) × (map bare_variable x.fun.params ≡ map bare_variable xs) × (blank x.fun.body ≡ blank t))
      (λ rest. c.function_name f (symbol (codes "=") ∷ c.noted k.note (λ rest. reserved (codes "fun") ∷ symbol (codes "(") ∷ c.variables true xs (symbol (codes ")") ∷ symbol (codes "->") ∷ c.expression t rest)) rest))
  definition_read f k xs t d hf hn hv ht = by_ways l (this_way l (go l (by_ways l (alone l (name_read l one f hf) (λ x e. e)))
      (λ x e. go l (word l s.Equals (symbol (codes "=")) refl)
      (λ u q. go l (weaker l (λ x z. function_noted k.note xs t x.value x.note z.0 z.1)
      (noted_read l one (the (function d)) (FunctionIs no_note xs t) k.note _ hn
      (by_ways l (this_way l (go l (word l s.Fun (reserved (codes "fun")) refl) (λ u q.
      go l (word l s.OpenRound (symbol (codes "(")) refl) (λ u1 q1. go l (variables_read l one s.CloseRound (symbol (codes ")")) refl xs hv)
      (λ ys e. go l (word l s.Arrow (symbol (codes "->")) refl) (λ u2 q2. go l ht (λ y k. done l (refl, e, k))))))))))) (λ y g. done l (e, g.0, g.1, g.2))))))

  pat_segment_read : (t : m.Pattern) (ts : m.Trees) (d : ℕ) → Reading l (the (pattern_part d)) (λ v. blank_pattern v ≡ blank_pattern t) (c.pattern t)
      → Reading l (the (many s.CloseRound (the (expression_part d)))) (λ xs. blank_all (trees xs) ≡ blank_all ts) (λ rest. c.expressions true ts (symbol (codes ")") ∷ rest))
      → Reading l (the (pattern_segment d)) (λ x. (blank_pattern x.value ≡ blank_pattern t) × (blank_all x.args ≡ blank_all ts))
      (λ rest. symbol (codes "#<") ∷ c.pattern t (symbol (codes ">") ∷ symbol (codes "(") ∷ c.expressions true ts (symbol (codes ")") ∷ rest)))
  pat_segment_read t ts d h g = by_ways l (this_way l (go l (word l s.OpenSegment (symbol (codes "#<")) refl)
      (λ u q. go l h (λ x e. go l (word l s.Greater (symbol (codes ">")) refl) (λ u1 q1. go l (word l s.OpenRound (symbol (codes "(")) refl) (λ u2 q2. go l g (λ xs k. done l (e, k))))))))

  pat_pair_read : (t : m.Tree) (p : m.Pattern) (d : ℕ) → Reading l (the (expression_part d)) (λ v. blank v ≡ blank t) (c.expression t) → Reading l (the (pattern_part d)) (λ v. blank_pattern v ≡ blank_pattern p) (c.pattern p)
      → Reading l (the (pattern_pair d)) (λ x. (blank x.key ≡ blank t) × (blank_pattern x.value ≡ blank_pattern p)) (λ rest. c.expression t (symbol (codes ":=") ∷ c.pattern p rest))
  pat_pair_read t p d h g = by_ways l (alone l (by_ways l (alone l (by_ways l (this_way l (go l h (λ x e. go l (word l s.Exact (symbol (codes ":=")) refl) (λ z q. go l g (λ y k. done l (e, k))))))) (λ x k. k))) (λ x k. k))

  mutual
    pub form_read : (t : m.Tree) (d : ℕ) → Fits l d t → FormRead d t
    form_read (m.variable k x) d h = by_ways l (this_way l (go l (node l d s.Variable (w.variable x) h.0 refl)
        (λ t e. done l (λ n i. m.variable (record { label = 0; place = nowhere; note = n }) (kind_text (e i)), λ i. m.variable (record { label = 0; place = nowhere; note = no_note }) (kind_text (e i))))))
    form_read (m.local k f) d h = by_ways l (next_way l (this_way l (go l (node l d s.Atom (atom f.name) h.0 refl)
        (λ t e. go l (word l s.Slash (symbol (codes "/")) refl) (λ u q. go l (word l s.Small (integer (pos f.arity)) (small_fits f.arity h.2))
        (λ v g. done l (
          λ n i. m.local (record { label = 0; place = nowhere; note = n }) (record { name = kind_text (e i); arity = arity_is v f.arity h.2 g i }),
          λ i. m.local (record { label = 0; place = nowhere; note = no_note }) (record { name = kind_text (e i); arity = arity_is v f.arity h.2 g i }),
        )))))))
    form_read (m.literal k x) d h = by_ways l (next_way l (next_way l (this_way l
        (go l (literal_read l one d h.0 x h.2) (λ y e. done l (λ n i. m.literal (record { label = 0; place = nowhere; note = n }) (e i), λ i. m.literal (record { label = 0; place = nowhere; note = no_note }) (e i)))))))
    form_read (m.function k xs t) d h = by_ways l (next_way l
        (next_way l (next_way l (this_way l (go l (node l d s.Fun (reserved (codes "fun")) h.0 refl)
        (λ u a1. go l (word l s.OpenRound (symbol (codes "(")) refl) (λ u1 a2. go l (variables_read l one s.CloseRound (symbol (codes ")")) refl xs h.2)
        (λ ys e. go l (word l s.Arrow (symbol (codes "->")) refl) (λ u2 a3. go l (expression_read t (d + 1) h.3 (form_read t (d + 1) h.3))
        (λ v g. done l (λ n i. m.function (record { label = 0; place = nowhere; note = n }) (e i) (g i), λ i. m.function (record { label = 0; place = nowhere; note = no_note }) (e i) (g i))))))))))))
    form_read (m.external k x f) d h = by_ways l (next_way l
        (next_way l (next_way l (next_way l (this_way l (go l (node l d s.Fun (reserved (codes "fun")) h.0 refl)
        (λ u a1. go l (word l s.Atom (atom x) refl) (λ v e. go l (word l s.Colon (symbol (codes ":")) refl)
        (λ u1 a2. go l (name_read l one f h.2) (λ y g. done l (
          λ n i. m.external (record { label = 0; place = nowhere; note = n }) (kind_text (e i)) (g i),
          λ i. m.external (record { label = 0; place = nowhere; note = no_note }) (kind_text (e i)) (g i),
        )))))))))))
    form_read (m.tuple k ts) d h = by_ways l (next_way l (next_way l (next_way l
        (next_way l (next_way l (this_way l (go l (node l d s.OpenCurly (symbol (codes "{")) h.0 refl)
        (λ u a1. go l (items_read s.CloseCurly (symbol (codes "}")) refl ts (d + 1) h.2)
        (λ xs e. done l (λ n i. m.tuple (record { label = 0; place = nowhere; note = n }) (e i), λ i. m.tuple (record { label = 0; place = nowhere; note = no_note }) (e i)))))))))))
    form_read (m.values k ts) d h = by_ways l (next_way l (next_way l (next_way l
        (next_way l (next_way l (next_way l (this_way l (go l (node l d s.Less (symbol (codes "<")) h.0 refl)
        (λ u a1. go l (items_read s.Greater (symbol (codes ">")) refl ts (d + 1) h.2)
        (λ xs e. done l (λ n i. m.values (record { label = 0; place = nowhere; note = n }) (e i), λ i. m.values (record { label = 0; place = nowhere; note = no_note }) (e i))))))))))))
    form_read (m.binary k ss) d h = by_ways l (next_way l (next_way l (next_way l
        (next_way l (next_way l (next_way l (next_way l (this_way l (go l (node l d s.OpenBinary (symbol (codes "#{")) h.0 refl)
        (λ u a1. go l (segments_read ss (d + 1) h.2) (λ xs e. done l (λ n i. m.binary (record { label = 0; place = nowhere; note = n }) (e i), λ i. m.binary (record { label = 0; place = nowhere; note = no_note }) (e i)))))))))))))
    form_read (m.letrec k ds t) d h = by_ways l (next_way l (next_way l (next_way l
        (next_way l (next_way l (next_way l (next_way l (next_way l
        (next_way l (next_way l (next_way l (next_way l (this_way l (go l (node l d s.Letrec (reserved (codes "letrec")) h.0 refl)
        (λ u a1. go l (defs_read s.In (reserved (codes "in")) refl ds (d + 1) h.2)
        (λ xs e. go l (expression_read t (d + 1) h.3 (form_read t (d + 1) h.3)) (λ v g.
        done l (λ n i. m.letrec (record { label = 0; place = nowhere; note = n }) (e i) (g i), λ i. m.letrec (record { label = 0; place = nowhere; note = no_note }) (e i) (g i)))))))))))))))))))
    form_read (m.apply k t ts) d h = by_ways l (next_way l (next_way l (next_way l
        (next_way l (next_way l (next_way l (next_way l (next_way l
        (next_way l (next_way l (next_way l (next_way l (next_way l
        (this_way l (go l (node l d s.Apply (reserved (codes "apply")) h.0 refl)
        (λ u a1. go l (expression_read t (d + 1) h.2 (form_read t (d + 1) h.2)) (λ v e.
        go l (word l s.OpenRound (symbol (codes "(")) refl) (λ u1 a2. go l (items_read s.CloseRound (symbol (codes ")")) refl ts (d + 1) h.3)
        (λ xs g. done l (λ n i. m.apply (record { label = 0; place = nowhere; note = n }) (e i) (g i), λ i. m.apply (record { label = 0; place = nowhere; note = no_note }) (e i) (g i)))))))))))))))))))))
    form_read (m.call k t u ts) d h = by_ways l (next_way l (next_way l (next_way l
        (next_way l (next_way l (next_way l (next_way l (next_way l
        (next_way l (next_way l (next_way l (next_way l (next_way l
        (next_way l (this_way l (go l (node l d s.Call (reserved (codes "call")) h.0 refl)
        (λ z a1. go l (expression_read t (d + 1) h.2 (form_read t (d + 1) h.2)) (λ v e.
        go l (word l s.Colon (symbol (codes ":")) refl) (λ z1 a2. go l (expression_read u (d + 1) h.3 (form_read u (d + 1) h.3))
        (λ y g. go l (word l s.OpenRound (symbol (codes "(")) refl) (λ z2 a3. go l (items_read s.CloseRound (symbol (codes ")")) refl ts (d + 1) h.4)
        (λ xs q. done l (λ n i. m.call (record { label = 0; place = nowhere; note = n }) (e i) (g i) (q i), λ i. m.call (record { label = 0; place = nowhere; note = no_note }) (e i) (g i) (q i))))))))))))))))))))))))
    form_read (m.primop k x ts) d h = by_ways l (next_way l (next_way l (next_way l
        (next_way l (next_way l (next_way l (next_way l (next_way l
        (next_way l (next_way l (next_way l (next_way l (next_way l
        (next_way l (next_way l (this_way l (go l (node l d s.Primop (reserved (codes "primop")) h.0 refl)
        (λ z a1. go l (word l s.Atom (atom x) refl) (λ v e. go l (word l s.OpenRound (symbol (codes "(")) refl)
        (λ z2 a3. go l (items_read s.CloseRound (symbol (codes ")")) refl ts (d + 1) h.2)
        (λ xs q. done l (λ n i. m.primop (record { label = 0; place = nowhere; note = n }) (kind_text (e i)) (q i), λ i. m.primop (record { label = 0; place = nowhere; note = no_note }) (kind_text (e i)) (q i)))))))))))))))))))))))
    form_read (m.try k t xs u ys w9) d h = by_ways l (next_way l
        (next_way l (next_way l (next_way l (next_way l (next_way l
        (next_way l (next_way l (next_way l (next_way l (next_way l
        (next_way l (next_way l (next_way l (next_way l (next_way l
        (this_way l (go l (node l d s.Try (reserved (codes "try")) h.0 refl) (λ z a1.
        go l (expression_read t (d + 1) h.2 (form_read t (d + 1) h.2)) (λ v e. go l (word l s.Of (reserved (codes "of")) refl)
        (λ z1 a2. go l (in_angles l one xs h.3) (λ vs b1. go l (word l s.Arrow (symbol (codes "->")) refl)
        (λ z2 a3. go l (expression_read u (d + 1) h.4 (form_read u (d + 1) h.4))
        (λ y g. go l (word l s.Catch (reserved (codes "catch")) refl) (λ z3 a4. go l (in_angles l one ys h.5)
        (λ us b2. go l (word l s.Arrow (symbol (codes "->")) refl) (λ z4 a5. go l (expression_read w9 (d + 1) h.6 (form_read w9 (d + 1) h.6))
        (λ x q. done l (
          λ n i. m.try (record { label = 0; place = nowhere; note = n }) (e i) (b1 i) (g i) (b2 i) (q i),
          λ i. m.try (record { label = 0; place = nowhere; note = no_note }) (e i) (b1 i) (g i) (b2 i) (q i),
        )))))))))))))))))))))))))))))
    form_read (m.receive k cs t u) d h = by_ways l (next_way l
        (next_way l (next_way l (next_way l (next_way l (next_way l
        (next_way l (next_way l (next_way l (next_way l (next_way l
        (next_way l (next_way l (next_way l (next_way l (next_way l
        (next_way l (this_way l (go l (node l d s.Receive (reserved (codes "receive")) h.0 refl)
        (λ z a1. go l (clauses_read s.After (reserved (codes "after")) refl cs (d + 1) h.2)
        (λ xs e. go l (expression_read t (d + 1) h.3 (form_read t (d + 1) h.3)) (λ v g.
        go l (word l s.Arrow (symbol (codes "->")) refl) (λ z2 a3. go l (expression_read u (d + 1) h.4 (form_read u (d + 1) h.4))
        (λ y q. done l (λ n i. m.receive (record { label = 0; place = nowhere; note = n }) (e i) (g i) (q i), λ i. m.receive (record { label = 0; place = nowhere; note = no_note }) (e i) (g i) (q i))))))))))))))))))))))))))
    form_read (m.catch k t) d h = by_ways l (next_way l (next_way l
        (next_way l (next_way l (next_way l (next_way l (next_way l
        (next_way l (next_way l (next_way l (next_way l (next_way l
        (next_way l (next_way l (next_way l (next_way l (next_way l
        (next_way l (this_way l (go l (node l d s.Catch (reserved (codes "catch")) h.0 refl)
        (λ u a1. go l (expression_read t (d + 1) h.2 (form_read t (d + 1) h.2)) (λ v g.
        done l (λ n i. m.catch (record { label = 0; place = nowhere; note = n }) (g i), λ i. m.catch (record { label = 0; place = nowhere; note = no_note }) (g i))))))))))))))))))))))))
    form_read (m.new_map k ps) d h = by_ways l (next_way l (next_way l (next_way l
        (next_way l (next_way l (next_way l (next_way l (next_way l
        (this_way l (go l (node l d s.OpenMap (symbol (codes "~{")) h.0 refl) (λ u a1.
        go l (pairs_read None (λ r. symbol (codes "}~") ∷ r) ps (d + 1) h.2 (by_ways l (this_way l (go l (word l s.CloseMap (symbol (codes "}~")) refl) (λ v q. done l (refl, refl)))))
        (by_ways l (this_way l (go l (word l s.CloseMap (symbol (codes "}~")) refl) (λ v q. done l (refl, refl)))))) (λ x e. done l (new_map_like u.place k x ps e.0 e.1)))))))))))))
    form_read (m.updated_map k ps t) d h = by_ways l (next_way l
        (next_way l (next_way l (next_way l (next_way l (next_way l
        (next_way l (next_way l (this_way l (go l (node l d s.OpenMap (symbol (codes "~{")) h.0 refl)
        (λ u a1. go l (pairs_read (Some t) (λ r. symbol (codes "|") ∷ c.expression t (symbol (codes "}~") ∷ r)) ps (d + 1) h.2
        (by_ways l (next_way l (this_way l (go l (word l s.Bar (symbol (codes "|")) refl)
        (λ v q. go l (expression_read t (d + 1) h.3 (form_read t (d + 1) h.3)) (λ y g. go l (word l s.CloseMap (symbol (codes "}~")) refl) (λ v2 q2. done l (refl, (y, refl, g)))))))))
        (by_ways l (next_way l (this_way l (go l (word l s.Bar (symbol (codes "|")) refl)
        (λ v q. go l (expression_read t (d + 1) h.3 (form_read t (d + 1) h.3)) (λ y g. go l (word l s.CloseMap (symbol (codes "}~")) refl) (λ v2 q2. done l (refl, (y, refl, g))))))))))
        (λ x e. done l (updated_map_like u.place k x ps t e.0 e.1)))))))))))))
    form_read (m.case k t m.no_clause) d h = absurd h.2
    form_read (m.case k t (m.and_clause j ps g b cs)) d h = by_ways l (next_way l
        (next_way l (next_way l (next_way l (next_way l (next_way l
        (next_way l (next_way l (next_way l (next_way l (next_way l
        (this_way l (go l (node l d s.Case (reserved (codes "case")) h.0 refl) (λ u a1.
        go l (expression_read t (d + 1) h.3 (form_read t (d + 1) h.3)) (λ v e. go l (word l s.Of (reserved (codes "of")) refl)
        (λ u1 a2. go l (clause_read j ps g b (d + 1) h.4.0 (patterns_read s.Greater (symbol (codes ">")) refl ps (d + 1) h.4.1) (expression_read g (d + 1) h.4.2 (form_read g (d + 1) h.4.2))
        (expression_read b (d + 1) h.4.3 (form_read b (d + 1) h.4.3))) (λ x q. go l (clauses_read s.End (reserved (codes "end")) refl cs (d + 1) h.4.4)
        (λ xs y. done l (
          λ n i. m.case (record { label = 0; place = nowhere; note = n }) (e i) (m.and_clause (record { label = 0; place = nowhere; note = q.0 i }) (q.1 i) (q.2 i) (q.3 i) (y i)),
          λ i. m.case (record { label = 0; place = nowhere; note = no_note }) (e i) (m.and_clause (record { label = 0; place = nowhere; note = q.0 i }) (q.1 i) (q.2 i) (q.3 i) (y i)),
        )))))))))))))))))))
    form_read (m.chain k m.no_step t) d h = absurd h.2
    form_read (m.chain k (m.and_let j xs e ss) t) d h = by_ways l
        (next_way l (next_way l (next_way l (next_way l (next_way l
        (next_way l (next_way l (next_way l (next_way l (this_way l (go l (node l d s.Let (reserved (codes "let")) h.0 refl)
        (λ u a1. go l (in_angles l one xs h.3.1) (λ ys e1. go l (word l s.Equals (symbol (codes "=")) refl)
        (λ u1 a2. go l (expression_read e (d + 1) h.3.2 (form_read e (d + 1) h.3.2))
        (λ y g. go l (word l s.In (reserved (codes "in")) refl) (λ u2 a3. go l (steps_read ss t d h.3.3 h.0 h.4 (expression_read t d h.5 (form_read t d h.5)))
        (λ b q. done l (chain_of_let k j xs e ss t h.1 _ (let_like u.place ys xs y e b j ss t h.4 e1 g q)))))))))))))))))))
    form_read (m.chain k (m.and_do j e ss) t) d h = by_ways l
        (next_way l (next_way l (next_way l (next_way l (next_way l
        (next_way l (next_way l (next_way l (next_way l (next_way l
        (this_way l (go l (node l d s.Do (reserved (codes "do")) h.0 refl) (λ u a1.
        go l (expression_read e (d + 1) h.3.1 (form_read e (d + 1) h.3.1)) (λ y g.
        go l (steps_read ss t d h.3.2 h.0 h.4 (expression_read t d h.5 (form_read t d h.5))) (λ b q. done l (chain_of_do k j e ss t h.1 _ (do_like u.place y e b j ss t h.4 g q)))))))))))))))))
    form_read (m.listed k m.no_tree tl) d h = absurd h.2
    form_read (m.listed k (m.and_tree t ts) tl) d h = by_ways l
        (next_way l (this_way l (go l (node l d s.OpenSquare (symbol (codes "[")) h.0 refl)
        (λ u a1. go l (expression_read t (d + 1) h.3.0 (form_read t (d + 1) h.3.0)) (λ x e. go l (rest_read ts tl d h.3.1 (tail_of tl d h.4 (form_read tl (d + 1) h.4))) (λ r g. done l ((λ i. m.and_tree (e i) (g.0 i)), g.1)))))))

    rest_read : (ts : m.Trees) (tl : m.Tree) (d : ℕ) → AllFit l (d + 1) ts → TailIs tl d (λ rest. c.tail tl (c.plain tl) (symbol (codes "]") ∷ rest))
        → Reading l (the (list_rest d)) (λ x. (blank_all (trees x.items) ≡ blank_all ts) × (blank x.tail ≡ blank tl)) (λ rest. c.expressions false ts (c.tail tl (c.plain tl) (symbol (codes "]") ∷ rest)))
    rest_read m.no_tree tl d h r = r
    rest_read (m.and_tree t ts) tl d h r = by_ways l (next_way l
        (this_way l (go l (word l s.Comma (symbol (codes ",")) refl) (λ u q. go l (expression_read t (d + 1) h.0 (form_read t (d + 1) h.0))
        (λ x e. go l (rest_read ts tl d h.1 r) (λ y g. done l ((λ i. m.and_tree (e i) (g.0 i)), g.1)))))))

    items_read : (close : Sort) (end : Word) → IsTrue (fits close (kind_sort (kind_of end))) → (ts : m.Trees) (d : ℕ) → AllFit l d ts
        → Reading l (the (many close (the (expression_part d)))) (λ xs. blank_all (trees xs) ≡ blank_all ts) (λ rest. c.expressions true ts (end ∷ rest))
    items_read close end closes m.no_tree d h = by_ways l (alone l (word l close end closes) (λ t e. refl))
    items_read close end closes (m.and_tree t ts) d h = by_ways l
        (next_way l (this_way l (go l (expression_read t d h.0 (form_read t d h.0)) (λ x e. go l (more_read close end closes ts d h.1) (λ xs g. done l (λ i. m.and_tree (e i) (g i)))))))

    more_read : (close : Sort) (end : Word) → IsTrue (fits close (kind_sort (kind_of end))) → (ts : m.Trees) (d : ℕ) → AllFit l d ts
        → Reading l (the (more close (the (expression_part d)))) (λ xs. blank_all (trees xs) ≡ blank_all ts) (λ rest. c.expressions false ts (end ∷ rest))
    more_read close end closes m.no_tree d h = by_ways l (alone l (word l close end closes) (λ t e. refl))
    more_read close end closes (m.and_tree t ts) d h = by_ways l
        (next_way l (this_way l (go l (word l s.Comma (symbol (codes ",")) refl)
        (λ u q. go l (expression_read t d h.0 (form_read t d h.0)) (λ x e. go l (more_read close end closes ts d h.1) (λ xs g. done l (λ i. m.and_tree (e i) (g i))))))))

    segments_read : (ss : m.Segments) (d : ℕ) → SegmentsFit l d ss → Reading l (the (many s.CloseBinary (the (segment d)))) (λ xs. blank_segments (segments xs) ≡ blank_segments ss)
        (λ rest. c.segments true ss (symbol (codes "}#") ∷ rest))
    segments_read m.no_segment d h = by_ways l (alone l (word l s.CloseBinary (symbol (codes "}#")) refl) (λ t e. refl))
    segments_read (m.and_segment t ts ss) d h = by_ways l (next_way l (this_way l
        (go l (segment_read t ts d (expression_read t d h.0 (form_read t d h.0)) (items_read s.CloseRound (symbol (codes ")")) refl ts d h.1))
        (λ x e. go l (more_segments_read ss d h.2) (λ xs g. done l (λ i. m.and_segment (e.0 i) (e.1 i) (g i)))))))

    more_segments_read : (ss : m.Segments) (d : ℕ) → SegmentsFit l d ss → Reading l (the (more s.CloseBinary (the (segment d)))) (λ xs. blank_segments (segments xs) ≡ blank_segments ss)
        (λ rest. c.segments false ss (symbol (codes "}#") ∷ rest))
    more_segments_read m.no_segment d h = by_ways l (alone l (word l s.CloseBinary (symbol (codes "}#")) refl) (λ t e. refl))
    more_segments_read (m.and_segment t ts ss) d h = by_ways l
        (next_way l (this_way l (go l (word l s.Comma (symbol (codes ",")) refl)
        (λ u q. go l (segment_read t ts d (expression_read t d h.0 (form_read t d h.0)) (items_read s.CloseRound (symbol (codes ")")) refl ts d h.1))
        (λ x e. go l (more_segments_read ss d h.2) (λ xs g. done l (λ i. m.and_segment (e.0 i) (e.1 i) (g i))))))))

    pairs_read : (old : Option m.Tree) (end : c.Words) (ps : m.Pairs) (d : ℕ) → PairsFit l d ps → Reading l (the (pairs_part d)) (λ x. (x.pairs ≡ []) × UpdatedIs old x.updated) end
        → Reading l (the (more_pairs d)) (λ x. (x.pairs ≡ []) × UpdatedIs old x.updated) end
        → Reading l (the (pairs_part d)) (λ x. (blank_pairs (pairs x.pairs) ≡ blank_pairs ps) × UpdatedIs old x.updated) (λ rest. c.pairs true ps (end rest))
    pairs_read old end m.no_pair d h r0 r1 = weaker l (λ x e. ((λ i. blank_pairs (pairs (e.0 i))), e.1)) r0
    pairs_read old end (m.and_pair b t u ps) d h r0 r1 = by_ways l
        (next_way l (next_way l (this_way l (go l (pair_read b t u d (expression_read t d h.0 (form_read t d h.0)) (expression_read u d h.1 (form_read u d h.1)))
        (λ x e. go l (more_pairs_read old end ps d h.2 r1) (λ y g. done l ((λ i. m.and_pair (e.0 i) (e.1 i) (e.2 i) (g.0 i)), g.1)))))))

    more_pairs_read : (old : Option m.Tree) (end : c.Words) (ps : m.Pairs) (d : ℕ) → PairsFit l d ps → Reading l (the (more_pairs d)) (λ x. (x.pairs ≡ []) × UpdatedIs old x.updated) end
        → Reading l (the (more_pairs d)) (λ x. (blank_pairs (pairs x.pairs) ≡ blank_pairs ps) × UpdatedIs old x.updated) (λ rest. c.pairs false ps (end rest))
    more_pairs_read old end m.no_pair d h r1 = weaker l (λ x e. ((λ i. blank_pairs (pairs (e.0 i))), e.1)) r1
    more_pairs_read old end (m.and_pair b t u ps) d h r1 = by_ways l (next_way l
        (next_way l (this_way l (go l (word l s.Comma (symbol (codes ",")) refl)
        (λ z q. go l (pair_read b t u d (expression_read t d h.0 (form_read t d h.0)) (expression_read u d h.1 (form_read u d h.1)))
        (λ x e. go l (more_pairs_read old end ps d h.2 r1) (λ y g. done l ((λ i. m.and_pair (e.0 i) (e.1 i) (e.2 i) (g.0 i)), g.1))))))))

    steps_read : (ss : m.Steps) (t : m.Tree) (d : ℕ) → StepsFit l (d + 1) ss → d ≤ l → is_chain t ≡ false → Reading l (the (expression_part d)) (λ v. blank v ≡ blank t) (c.expression t)
        → Reading l (the (expression_part d)) (λ v. blank v ≡ rest_of ss t) (λ rest. c.steps ss (c.expression t) rest)
    steps_read m.no_step t d h deep plain r = r
    steps_read (m.and_let j xs e ss) t d h deep plain r = by_ways l
        (alone l (noted_read l one (the (bare_expression d)) (Like (m.chain (record { label = 0; place = nowhere; note = no_note }) (m.and_let j xs e ss) t)) j.note
        (inner (m.chain (record { label = 0; place = nowhere; note = no_note }) (m.and_let j xs e ss) t)) h.0
        (by_ways l (next_way l (alone l (by_ways l (next_way l
        (next_way l (next_way l (next_way l (next_way l (next_way l
        (next_way l (next_way l (next_way l (this_way l (go l (node l d s.Let (reserved (codes "let")) deep refl)
        (λ u a1. go l (in_angles l one xs h.1) (λ ys e1. go l (word l s.Equals (symbol (codes "=")) refl)
        (λ u1 a2. go l (expression_read e (d + 1) h.2 (form_read e (d + 1) h.2))
        (λ y g. go l (word l s.In (reserved (codes "in")) refl) (λ u2 a3. go l (steps_read ss t d h.3 deep plain r) (λ b q. done l (let_like u.place ys xs y e b j ss t plain e1 g q))))))))))))))))))) (λ v z. z)))))
        (λ x z. like_noted (m.chain (record { label = 0; place = nowhere; note = no_note }) (m.and_let j xs e ss) t) x.value x.note z.0 z.1))
    steps_read (m.and_do j e ss) t d h deep plain r = by_ways l
        (alone l (noted_read l one (the (bare_expression d)) (Like (m.chain (record { label = 0; place = nowhere; note = no_note }) (m.and_do j e ss) t)) j.note
        (inner (m.chain (record { label = 0; place = nowhere; note = no_note }) (m.and_do j e ss) t)) h.0
        (by_ways l (next_way l (alone l (by_ways l (next_way l
        (next_way l (next_way l (next_way l (next_way l (next_way l
        (next_way l (next_way l (next_way l (next_way l (this_way l (go l (node l d s.Do (reserved (codes "do")) deep refl)
        (λ u a1. go l (expression_read e (d + 1) h.1 (form_read e (d + 1) h.1)) (λ y g. go l (steps_read ss t d h.2 deep plain r) (λ b q. done l (do_like u.place y e b j ss t plain g q))))))))))))))))) (λ v z. z)))))
        (λ x z. like_noted (m.chain (record { label = 0; place = nowhere; note = no_note }) (m.and_do j e ss) t) x.value x.note z.0 z.1))

    clauses_read : (close : Sort) (end : Word) → IsTrue (fits close (kind_sort (kind_of end))) → (cs : m.Clauses) (d : ℕ) → ClausesFit l d cs
        → Reading l (the (clauses_to close d)) (λ xs. blank_clauses (clauses xs) ≡ blank_clauses cs) (λ rest. c.clauses cs (end ∷ rest))
    clauses_read close end closes m.no_clause d h = by_ways l (alone l (word l close end closes) (λ t e. refl))
    clauses_read close end closes (m.and_clause j ps g b cs) d h =
        by_ways l (next_way l (this_way l (go l (clause_read j ps g b d h.0 (patterns_read s.Greater (symbol (codes ">")) refl ps d h.1) (expression_read g d h.2 (form_read g d h.2)) (expression_read b d h.3 (form_read b d h.3)))
        (λ x q. go l (clauses_read close end closes cs d h.4) (λ xs y. done l (λ i. m.and_clause (record { label = 0; place = nowhere; note = q.0 i }) (q.1 i) (q.2 i) (q.3 i) (y i)))))))

    pub defs_read : (close : Sort) (end : Word) → IsTrue (fits close (kind_sort (kind_of end))) → (ds : m.Defs) (d : ℕ) → DefsFit l d ds
        → Reading l (the (definitions close d)) (λ xs. blank_defs (defs xs) ≡ blank_defs ds) (λ rest. c.definitions ds (end ∷ rest))
    defs_read close end closes m.no_def d h = by_ways l (alone l (word l close end closes) (λ t e. refl))
    defs_read close end closes (m.and_def f k xs t ds) d h =
        by_ways l (next_way l (this_way l (go l (definition_read f k xs t d h.0 h.1 h.2 (expression_read t d h.3 (form_read t d h.3)))
        (λ x q. go l (defs_read close end closes ds d h.4) (λ ys y. done l (λ i. m.and_def (q.0 i) (record { label = 0; place = nowhere; note = q.1 i }) (q.2 i) (q.3 i) (y i)))))))

    pattern_form_read : (p : m.Pattern) (d : ℕ) → PatternFits l d p → PatternFormRead d p
    pattern_form_read (m.binds k x) d h = by_ways l (this_way l (go l (node l d s.Variable (w.variable x) h.0 refl)
        (λ t e. done l (λ n i. m.binds (record { label = 0; place = nowhere; note = n }) (kind_text (e i)), λ i. m.binds (record { label = 0; place = nowhere; note = no_note }) (kind_text (e i))))))
    pattern_form_read (m.equals k x) d h = by_ways l (next_way l
        (this_way l (go l (literal_read l one d h.0 x h.2) (λ y e. done l (λ n i. m.equals (record { label = 0; place = nowhere; note = n }) (e i), λ i. m.equals (record { label = 0; place = nowhere; note = no_note }) (e i))))))
    pattern_form_read (m.tuple_of k ps) d h = by_ways l (next_way l
        (next_way l (this_way l (go l (node l d s.OpenCurly (symbol (codes "{")) h.0 refl)
        (λ u a1. go l (patterns_read s.CloseCurly (symbol (codes "}")) refl ps (d + 1) h.2)
        (λ xs e. done l (λ n i. m.tuple_of (record { label = 0; place = nowhere; note = n }) (e i), λ i. m.tuple_of (record { label = 0; place = nowhere; note = no_note }) (e i))))))))
    pattern_form_read (m.alias k x p) d h = by_ways l (next_way l
        (next_way l (next_way l (this_way l (go l (alias_variable_read d h.0 x h.2)
        (λ y e. go l (word l s.Equals (symbol (codes "=")) refl) (λ u q. go l (pattern_read p (d + 1) h.3 (pattern_form_read p (d + 1) h.3))
        (λ v g. done l (λ n i. m.alias (record { label = 0; place = nowhere; note = n }) (e i) (g i), λ i. m.alias (record { label = 0; place = nowhere; note = no_note }) (e i) (g i))))))))))
    pattern_form_read (m.binary_of k ss) d h = by_ways l (next_way l (next_way l
        (next_way l (next_way l (this_way l (go l (node l d s.OpenBinary (symbol (codes "#{")) h.0 refl)
        (λ u a1. go l (pat_segments_read ss (d + 1) h.2) (λ xs e. done l (
          λ n i. m.binary_of (record { label = 0; place = nowhere; note = n }) (e i),
          λ i. m.binary_of (record { label = 0; place = nowhere; note = no_note }) (e i),
        )))))))))
    pattern_form_read (m.map_of k ps) d h = by_ways l (next_way l
        (next_way l (next_way l (next_way l (next_way l (this_way l (go l (node l d s.OpenMap (symbol (codes "~{")) h.0 refl)
        (λ u a1. go l (pat_pairs_read ps (d + 1) h.2) (λ xs e. done l (λ n i. m.map_of (record { label = 0; place = nowhere; note = n }) (e i), λ i. m.map_of (record { label = 0; place = nowhere; note = no_note }) (e i)))))))))))
    pattern_form_read (m.list_of k m.no_pattern tl) d h = absurd h.2
    pattern_form_read (m.list_of k (m.and_pattern t ts) tl) d h =
        by_ways l (next_way l (this_way l (go l (node l d s.OpenSquare (symbol (codes "[")) h.0 refl)
        (λ u a1. go l (pattern_read t (d + 1) h.3.0 (pattern_form_read t (d + 1) h.3.0))
        (λ x e. go l (pattern_rest_read ts tl d h.3.1 (pattern_tail_of tl d h.4 (pattern_form_read tl (d + 1) h.4))) (λ r g. done l ((λ i. m.and_pattern (e i) (g.0 i)), g.1)))))))

    pattern_rest_read : (ts : m.Patterns) (tl : m.Pattern) (d : ℕ) → PatternsFit l (d + 1) ts → PatternTailIs tl d (λ rest. c.pattern_tail tl (c.plain_pattern tl) (symbol (codes "]") ∷ rest))
        → Reading l (the (pattern_rest d)) (λ x. (blank_patterns (patterns x.items) ≡ blank_patterns ts) × (blank_pattern x.tail ≡ blank_pattern tl))
        (λ rest. c.patterns false ts (c.pattern_tail tl (c.plain_pattern tl) (symbol (codes "]") ∷ rest)))
    pattern_rest_read m.no_pattern tl d h r = r
    pattern_rest_read (m.and_pattern t ts) tl d h r = by_ways l
        (next_way l (this_way l (go l (word l s.Comma (symbol (codes ",")) refl)
        (λ u q. go l (pattern_read t (d + 1) h.0 (pattern_form_read t (d + 1) h.0)) (λ x e. go l (pattern_rest_read ts tl d h.1 r) (λ y g. done l ((λ i. m.and_pattern (e i) (g.0 i)), g.1)))))))

    patterns_read : (close : Sort) (end : Word) → IsTrue (fits close (kind_sort (kind_of end))) → (ts : m.Patterns) (d : ℕ) → PatternsFit l d ts
        → Reading l (the (many close (the (pattern_part d)))) (λ xs. blank_patterns (patterns xs) ≡ blank_patterns ts) (λ rest. c.patterns true ts (end ∷ rest))
    patterns_read close end closes m.no_pattern d h = by_ways l (alone l (word l close end closes) (λ t e. refl))
    patterns_read close end closes (m.and_pattern t ts) d h =
        by_ways l (next_way l (this_way l (go l (pattern_read t d h.0 (pattern_form_read t d h.0)) (λ x e. go l (more_patterns_read close end closes ts d h.1) (λ xs g. done l (λ i. m.and_pattern (e i) (g i)))))))

    more_patterns_read : (close : Sort) (end : Word) → IsTrue (fits close (kind_sort (kind_of end))) → (ts : m.Patterns) (d : ℕ) → PatternsFit l d ts
        → Reading l (the (more close (the (pattern_part d)))) (λ xs. blank_patterns (patterns xs) ≡ blank_patterns ts) (λ rest. c.patterns false ts (end ∷ rest))
    more_patterns_read close end closes m.no_pattern d h = by_ways l (alone l (word l close end closes) (λ t e. refl))
    more_patterns_read close end closes (m.and_pattern t ts) d h =
        by_ways l (next_way l (this_way l (go l (word l s.Comma (symbol (codes ",")) refl)
        (λ u q. go l (pattern_read t d h.0 (pattern_form_read t d h.0)) (λ x e. go l (more_patterns_read close end closes ts d h.1) (λ xs g. done l (λ i. m.and_pattern (e i) (g i))))))))

    pat_segments_read : (ss : m.PatSegments) (d : ℕ) → PatSegmentsFit l d ss → Reading l (the (many s.CloseBinary (the (pattern_segment d)))) (λ xs. blank_pat_segments (pat_segments xs) ≡ blank_pat_segments ss)
        (λ rest. c.pat_segments true ss (symbol (codes "}#") ∷ rest))
    pat_segments_read m.no_pat_segment d h = by_ways l (alone l (word l s.CloseBinary (symbol (codes "}#")) refl) (λ t e. refl))
    pat_segments_read (m.and_pat_segment t ts ss) d h = by_ways l
        (next_way l (this_way l (go l (pat_segment_read t ts d (pattern_read t d h.0 (pattern_form_read t d h.0)) (items_read s.CloseRound (symbol (codes ")")) refl ts d h.1))
        (λ x e. go l (more_pat_segments_read ss d h.2) (λ xs g. done l (λ i. m.and_pat_segment (e.0 i) (e.1 i) (g i)))))))

    more_pat_segments_read : (ss : m.PatSegments) (d : ℕ) → PatSegmentsFit l d ss
        → Reading l (the (more s.CloseBinary (the (pattern_segment d)))) (λ xs. blank_pat_segments (pat_segments xs) ≡ blank_pat_segments ss) (λ rest. c.pat_segments false ss (symbol (codes "}#") ∷ rest))
    more_pat_segments_read m.no_pat_segment d h = by_ways l (alone l (word l s.CloseBinary (symbol (codes "}#")) refl) (λ t e. refl))
    more_pat_segments_read (m.and_pat_segment t ts ss) d h =
        by_ways l (next_way l (this_way l (go l (word l s.Comma (symbol (codes ",")) refl)
        (λ u q. go l (pat_segment_read t ts d (pattern_read t d h.0 (pattern_form_read t d h.0)) (items_read s.CloseRound (symbol (codes ")")) refl ts d h.1))
        (λ x e. go l (more_pat_segments_read ss d h.2) (λ xs g. done l (λ i. m.and_pat_segment (e.0 i) (e.1 i) (g i))))))))

    pat_pairs_read : (ps : m.PatPairs) (d : ℕ) → PatPairsFit l d ps → Reading l (the (many s.CloseMap (the (pattern_pair d)))) (λ xs. blank_pat_pairs (pat_pairs xs) ≡ blank_pat_pairs ps)
        (λ rest. c.pat_pairs true ps (symbol (codes "}~") ∷ rest))
    pat_pairs_read m.no_pat_pair d h = by_ways l (alone l (word l s.CloseMap (symbol (codes "}~")) refl) (λ t e. refl))
    pat_pairs_read (m.and_pat_pair t p ps) d h = by_ways l (next_way l (this_way l
        (go l (pat_pair_read t p d (expression_read t d h.0 (form_read t d h.0)) (pattern_read p d h.1 (pattern_form_read p d h.1)))
        (λ x e. go l (more_pat_pairs_read ps d h.2) (λ xs g. done l (λ i. m.and_pat_pair (e.0 i) (e.1 i) (g i)))))))

    more_pat_pairs_read : (ps : m.PatPairs) (d : ℕ) → PatPairsFit l d ps → Reading l (the (more s.CloseMap (the (pattern_pair d)))) (λ xs. blank_pat_pairs (pat_pairs xs) ≡ blank_pat_pairs ps)
        (λ rest. c.pat_pairs false ps (symbol (codes "}~") ∷ rest))
    more_pat_pairs_read m.no_pat_pair d h = by_ways l (alone l (word l s.CloseMap (symbol (codes "}~")) refl) (λ t e. refl))
    more_pat_pairs_read (m.and_pat_pair t p ps) d h = by_ways l
        (next_way l (this_way l (go l (word l s.Comma (symbol (codes ",")) refl)
        (λ u q. go l (pat_pair_read t p d (expression_read t d h.0 (form_read t d h.0)) (pattern_read p d h.1 (pattern_form_read p d h.1)))
        (λ x e. go l (more_pat_pairs_read ps d h.2) (λ xs g. done l (λ i. m.and_pat_pair (e.0 i) (e.1 i) (g i))))))))
