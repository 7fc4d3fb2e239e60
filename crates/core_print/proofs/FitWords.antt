-- The words of a module that fits are words of the language.
use Rattle.std.proofs.Common.{ℕ, pos, ◌+◌, ◌≤◌, ◌<◌, List, [], ◌∷◌, Bool, true, false, Option, Some, None, codes, refl, sym, subst, inl, inr, arith}
use Rattle.std.specs.Prelude.{if◌then◌else◌}
use Rattle.core_ast.specs.declared.syntax.Note.{Note}
use Rattle.core_ast.specs.declared.syntax.VarName.{VarName}
use Rattle.core_ast.specs.declared.syntax.FunName.{FunName}
use Rattle.core_ast.specs.declared.syntax.Literal.{Literal}
use Rattle.core_ast.specs.declared.syntax.Literal.TheVariants as lit
use Rattle.core_ast.specs.Model as m
use Rattle.core_print.specs.Words.{Word, symbol, variable, integer}
use Rattle.core_print.specs.Canonical.{Words, note_items, annotation, opened, closed, noted, comma, function_name, literal, literal_tail, variable_in_list, variables, exports, note_of, pattern_note_of, tail}
use Rattle.core_print.specs.Canonical.{pattern_tail, module_words, plain_module, is_written, plain, expressions, pairs, segments, steps, clauses, definitions, plain_pattern, patterns, pat_pairs, pat_segments}
use Rattle.core_print.specs.Tokens.{AreWords, IsWord}
use Rattle.core_print.specs.Fits.{LineFits, NoteFits, LiteralFits, NameFits, NamesFit, VariableFits, VariablesFit, ModuleFits, Fits, AllFit}
use Rattle.core_print.specs.Fits.{PairsFit, SegmentsFit, StepsFit, ClausesFit, DefsFit, PatternFits, PatternsFit, PatPairsFit, PatSegmentsFit}

-- Words in front of words of the language are words of the language.
abbrev Keep : Words → Type 0
Keep ws = (rest : List Word) → AreWords rest → AreWords (ws rest)

arity_word : (n : ℕ) → n ≤ 255 → IsWord (integer (pos n))
arity_word n h = omega arith

line_word : (n : ℕ) → n < 2147483648 → IsWord (integer (pos n))
line_word n h = omega arith

items_keep : (line : Option ℕ) (flag : Bool) → LineFits line → Keep (note_items line flag)
items_keep None false h rest hr = hr
items_keep None true h rest hr = (tt, hr)
items_keep (Some n) false h rest hr = (line_word n h.1, hr)
items_keep (Some n) true h rest hr = (line_word n h.1, ((inr (inr (inr (inr (inr (inr (inr (inr (inr (inl refl)))))))))), (tt, hr)))

annotation_keep : (n : Note) → NoteFits n → Keep (annotation n)
annotation_keep n h rest hr = (
  (inr (inr (inr (inr (inr (inr (inr (inr (inr (inr (inr (inr (inr (inr (inl refl))))))))))))))),
  ((inr (inr (inr (inr (inl refl))))), items_keep n.line n.generated h _ ((inr (inr (inr (inr (inr (inl refl)))))), ((inr (inl refl)), hr))),
)

opened_keep : (n : Note) → Keep (opened n)
opened_keep n rest hr = by (is_written n.line n.generated)
  where
    by : (b : Bool) → AreWords (if b then symbol (codes "(") ∷ rest else rest)
    by true = ((inl refl), hr)
    by false = hr

closed_keep : (n : Note) → NoteFits n → Keep (closed n)
closed_keep n h rest hr = by (is_written n.line n.generated)
  where
    by : (b : Bool) → AreWords (if b then annotation n rest else rest)
    by true = annotation_keep n h rest hr
    by false = hr

noted_keep : (n : Note) (ws : Words) → NoteFits n → Keep ws → Keep (noted n ws)
noted_keep n ws h k rest hr = opened_keep n _ (k _ (closed_keep n h rest hr))

comma_keep : (first : Bool) → Keep (comma first)
comma_keep true rest hr = hr
comma_keep false rest hr = ((inr (inr (inr (inr (inr (inr (inr (inr (inr (inl refl)))))))))), hr)

name_keep : (f : FunName) → NameFits f → Keep (function_name f)
name_keep f h rest hr = (tt, ((inr (inr (inr (inr (inr (inr (inr (inr (inr (inr (inr (inl refl)))))))))))), (arity_word f.arity h, hr)))

literal_keep : (x : Literal) → LiteralFits x → Keep (literal x)
literal_keep (lit.Int n) h rest hr = (h, hr)
literal_keep (lit.Float s) h rest hr = (h, hr)
literal_keep (lit.Atom x) h rest hr = (tt, hr)
literal_keep lit.Nil h rest hr = ((inr (inr (inr (inr (inl refl))))), ((inr (inr (inr (inr (inr (inl refl)))))), hr))

literal_tail_keep : (n : Note) (x : Literal) → NoteFits n → LiteralFits x → Keep (literal_tail n x)
literal_tail_keep n lit.Nil k h rest hr = by (is_written n.line n.generated)
  where
    by : (b : Bool) → AreWords (if b then symbol (codes "|") ∷ noted n (literal lit.Nil) rest else rest)
    by true = ((inr (inr (inr (inr (inr (inr (inr (inr (inl refl))))))))), noted_keep n (literal lit.Nil) k (literal_keep lit.Nil h) rest hr)
    by false = hr
literal_tail_keep n (lit.Int x) k h rest hr = ((inr (inr (inr (inr (inr (inr (inr (inr (inl refl))))))))), noted_keep n (literal (lit.Int x)) k (literal_keep (lit.Int x) h) rest hr)
literal_tail_keep n (lit.Float x) k h rest hr = ((inr (inr (inr (inr (inr (inr (inr (inr (inl refl))))))))), noted_keep n (literal (lit.Float x)) k (literal_keep (lit.Float x) h) rest hr)
literal_tail_keep n (lit.Atom x) k h rest hr = ((inr (inr (inr (inr (inr (inr (inr (inr (inl refl))))))))), noted_keep n (literal (lit.Atom x)) k (literal_keep (lit.Atom x) h) rest hr)

listed_variable_keep : (x : VarName) → VariableFits x → Keep (variable_in_list x)
listed_variable_keep x h = noted_keep x.note (λ rest. variable x.name ∷ rest) h.1 (λ rest hr. (h.0, hr))

variables_keep : (first : Bool) (xs : List VarName) → VariablesFit xs → Keep (variables first xs)
variables_keep first [] h rest hr = hr
variables_keep first (x ∷ xs) h rest hr = comma_keep first _ (listed_variable_keep x h.0 _ (variables_keep false xs h.1 rest hr))

exports_keep : (first : Bool) (xs : List FunName) → NamesFit xs → Keep (exports first xs)
exports_keep first [] h rest hr = hr
exports_keep first (x ∷ xs) h rest hr = comma_keep first _ (name_keep x h.0 _ (exports_keep false xs h.1 rest hr))

arrow_word : (exact : Bool) → IsWord (symbol (if exact then codes ":=" else codes "=>"))
arrow_word true = (inr (inr (inr (inr (inr (inr (inr (inr (inr (inr (inr (inr (inr (inr (inr (inr (inr (inr (inr (inr (inr (inl refl))))))))))))))))))))))
arrow_word false = (inr (inr (inr (inr (inr (inr (inr (inr (inr (inr (inr (inr (inr (inr (inr (inr (inr (inr (inr (inr (inl refl)))))))))))))))))))))

module _ (l : ℕ) where
  note_fits : (d : ℕ) (t : m.Tree) → Fits l d t → NoteFits (note_of t)
  note_fits d (m.chain k ss t) h = subst NoteFits (sym h.1) tt
  note_fits d (m.variable k x) h = h.1
  note_fits d t h = h.1

  pattern_note_fits : (d : ℕ) (t : m.Pattern) → PatternFits l d t → NoteFits (pattern_note_of t)
  pattern_note_fits d (m.binds k x) h = h.1
  pattern_note_fits d t h = h.1

  tail_keep : (d : ℕ) (t : m.Tree) → Fits l d t → Keep (plain t) → Keep (tail t (plain t))
  tail_keep d (m.literal k x) h p rest hr = literal_tail_keep k.note x h.1 h.2 rest hr
  tail_keep d (m.listed k ts t) h p rest hr = ((inr (inr (inr (inr (inr (inr (inr (inr (inl refl))))))))), ((inl refl), p _ (annotation_keep k.note h.1 rest hr)))
  tail_keep d t h p rest hr = ((inr (inr (inr (inr (inr (inr (inr (inr (inl refl))))))))), noted_keep (note_of t) (plain t) (note_fits d t h) p rest hr)

  pattern_tail_keep : (d : ℕ) (t : m.Pattern) → PatternFits l d t → Keep (plain_pattern t) → Keep (pattern_tail t (plain_pattern t))
  pattern_tail_keep d (m.equals k x) h p rest hr = literal_tail_keep k.note x h.1 h.2 rest hr
  pattern_tail_keep d (m.list_of k ts t) h p rest hr = ((inr (inr (inr (inr (inr (inr (inr (inr (inl refl))))))))), ((inl refl), p _ (annotation_keep k.note h.1 rest hr)))
  pattern_tail_keep d t h p rest hr = ((inr (inr (inr (inr (inr (inr (inr (inr (inl refl))))))))), noted_keep (pattern_note_of t) (plain_pattern t) (pattern_note_fits d t h) p rest hr)

  mutual
    plain_words : (d : ℕ) (t : m.Tree) → Fits l d t → Keep (plain t)
    plain_words d (m.variable k x) h rest hr = (h.2, hr)
    plain_words d (m.local k f) h rest hr = (tt, ((inr (inr (inr (inr (inr (inr (inr (inr (inr (inr (inr (inl refl)))))))))))), (arity_word f.arity h.2, hr)))
    plain_words d (m.external k x f) h rest hr = (
      (inr (inr (inr (inr (inr (inr (inr (inr (inl refl))))))))),
      (tt, ((inr (inr (inr (inr (inr (inr (inr (inr (inr (inr (inl refl))))))))))), (tt, ((inr (inr (inr (inr (inr (inr (inr (inr (inr (inr (inr (inl refl)))))))))))), (arity_word f.arity h.2, hr))))),
    )
    plain_words d (m.literal k l) h rest hr = literal_keep l h.2 _ hr
    plain_words d (m.function k xs t) h rest hr = (
      (inr (inr (inr (inr (inr (inr (inr (inr (inl refl))))))))),
      (
        (inl refl),
        variables_keep true xs h.2 _ ((
          (inr (inl refl)),
          (
            (inr (inr (inr (inr (inr (inr (inr (inr (inr (inr (inr (inr (inr (inl refl)))))))))))))),
            noted_keep (note_of t) (plain t) (note_fits (d + 1) t h.3) (plain_words (d + 1) t h.3) _ hr,
          ),
        )),
      ),
    )
    plain_words d (m.listed k ts t) h rest hr = ((inr (inr (inr (inr (inl refl))))), expressions_words (d + 1) true ts h.3 _ (tail_keep (d + 1) t h.4 (plain_words (d + 1) t h.4) _ (((inr (inr (inr (inr (inr (inl refl)))))), hr))))
    plain_words d (m.tuple k ts) h rest hr = ((inr (inr (inl refl))), expressions_words (d + 1) true ts h.2 _ (((inr (inr (inr (inl refl)))), hr)))
    plain_words d (m.new_map k ps) h rest hr = (
      (inr (inr (inr (inr (inr (inr (inr (inr (inr (inr (inr (inr (inr (inr (inr (inr (inr (inr (inl refl))))))))))))))))))),
      pairs_words (d + 1) true ps h.2 _ (((inr (inr (inr (inr (inr (inr (inr (inr (inr (inr (inr (inr (inr (inr (inr (inr (inr (inr (inr (inl refl)))))))))))))))))))), hr)),
    )
    plain_words d (m.updated_map k ps t) h rest hr = (
      (inr (inr (inr (inr (inr (inr (inr (inr (inr (inr (inr (inr (inr (inr (inr (inr (inr (inr (inl refl))))))))))))))))))),
      pairs_words (d + 1) true ps h.2 _ ((
        (inr (inr (inr (inr (inr (inr (inr (inr (inl refl))))))))),
        noted_keep (note_of t) (plain t) (note_fits (d + 1) t h.3) (plain_words (d + 1) t h.3) _ (((inr (inr (inr (inr (inr (inr (inr (inr (inr (inr (inr (inr (inr (inr (inr (inr (inr (inr (inr (inl refl)))))))))))))))))))), hr)),
      )),
    )
    plain_words d (m.binary k ss) h rest hr = (
      (inr (inr (inr (inr (inr (inr (inr (inr (inr (inr (inr (inr (inr (inr (inr (inl refl)))))))))))))))),
      segments_words (d + 1) true ss h.2 _ (((inr (inr (inr (inr (inr (inr (inr (inr (inr (inr (inr (inr (inr (inr (inr (inr (inl refl))))))))))))))))), hr)),
    )
    plain_words d (m.values k ts) h rest hr = ((inr (inr (inr (inr (inr (inr (inl refl))))))), expressions_words (d + 1) true ts h.2 _ (((inr (inr (inr (inr (inr (inr (inr (inl refl)))))))), hr)))
    plain_words d (m.chain k ss t) h rest hr = steps_words (d + 1) ss h.3 (noted (note_of t) (plain t)) (noted_keep (note_of t) (plain t) (note_fits d t h.5) (plain_words d t h.5)) _ hr
    plain_words d (m.case k t cs) h rest hr = (
      (inr (inr (inr (inr (inl refl))))),
      noted_keep (note_of t) (plain t) (note_fits (d + 1) t h.3) (plain_words (d + 1) t h.3) _
          (((inr (inr (inr (inr (inr (inr (inr (inr (inr (inr (inr (inr (inr (inl refl)))))))))))))), clauses_words (d + 1) cs h.4 _ (((inr (inr (inr (inr (inr (inr (inr (inl refl)))))))), hr)))),
    )
    plain_words d (m.letrec k ds t) h rest hr = (
      (inr (inr (inr (inr (inr (inr (inr (inr (inr (inr (inr (inl refl)))))))))))),
      definitions_words (d + 1) ds h.2 _ (((inr (inr (inr (inr (inr (inr (inr (inr (inr (inl refl)))))))))), noted_keep (note_of t) (plain t) (note_fits (d + 1) t h.3) (plain_words (d + 1) t h.3) _ hr)),
    )
    plain_words d (m.apply k t ts) h rest hr = ((inr (inl refl)), noted_keep (note_of t) (plain t) (note_fits (d + 1) t h.2) (plain_words (d + 1) t h.2) _ (((inl refl), expressions_words (d + 1) true ts h.3 _ (((inr (inl refl)), hr)))))
    plain_words d (m.call k t u ts) h rest hr = (
      (inr (inr (inr (inl refl)))),
      noted_keep (note_of t) (plain t) (note_fits (d + 1) t h.2) (plain_words (d + 1) t h.2) _
          ((
            (inr (inr (inr (inr (inr (inr (inr (inr (inr (inr (inl refl))))))))))),
            noted_keep (note_of u) (plain u) (note_fits (d + 1) u h.3) (plain_words (d + 1) u h.3) _ (((inl refl), expressions_words (d + 1) true ts h.4 _ (((inr (inl refl)), hr)))),
          )),
    )
    plain_words d (m.primop k x ts) h rest hr = ((inr (inr (inr (inr (inr (inr (inr (inr (inr (inr (inr (inr (inr (inr (inl refl))))))))))))))), (tt, ((inl refl), expressions_words (d + 1) true ts h.2 _ (((inr (inl refl)), hr)))))
    plain_words d (m.try k t xs u ys w) h rest hr = (
      (inr (inr (inr (inr (inr (inr (inr (inr (inr (inr (inr (inr (inr (inr (inr (inr (inl refl))))))))))))))))),
      noted_keep (note_of t) (plain t) (note_fits (d + 1) t h.2) (plain_words (d + 1) t h.2) _
          ((
            (inr (inr (inr (inr (inr (inr (inr (inr (inr (inr (inr (inr (inr (inl refl)))))))))))))),
            (
              (inr (inr (inr (inr (inr (inr (inl refl))))))),
              variables_keep true xs h.3 _
                  ((
                    (inr (inr (inr (inr (inr (inr (inr (inl refl)))))))),
                    (
                      (inr (inr (inr (inr (inr (inr (inr (inr (inr (inr (inr (inr (inr (inl refl)))))))))))))),
                      noted_keep (note_of u) (plain u) (note_fits (d + 1) u h.4) (plain_words (d + 1) u h.4) _
                          ((
                            (inr (inr (inr (inr (inr (inl refl)))))),
                            (
                              (inr (inr (inr (inr (inr (inr (inl refl))))))),
                              variables_keep true ys h.5 _ ((
                                (inr (inr (inr (inr (inr (inr (inr (inl refl)))))))),
                                ((inr (inr (inr (inr (inr (inr (inr (inr (inr (inr (inr (inr (inr (inl refl)))))))))))))), noted_keep (note_of w) (plain w) (note_fits (d + 1) w h.6) (plain_words (d + 1) w h.6) _ hr),
                              )),
                            ),
                          )),
                    ),
                  )),
            ),
          )),
    )
    plain_words d (m.receive k cs t u) h rest hr = (
      (inr (inr (inr (inr (inr (inr (inr (inr (inr (inr (inr (inr (inr (inr (inr (inl refl)))))))))))))))),
      clauses_words (d + 1) cs h.2 _ ((
        (inl refl),
        noted_keep (note_of t) (plain t) (note_fits (d + 1) t h.3) (plain_words (d + 1) t h.3) _
            (((inr (inr (inr (inr (inr (inr (inr (inr (inr (inr (inr (inr (inr (inl refl)))))))))))))), noted_keep (note_of u) (plain u) (note_fits (d + 1) u h.4) (plain_words (d + 1) u h.4) _ hr)),
      )),
    )
    plain_words d (m.catch k t) h rest hr = ((inr (inr (inr (inr (inr (inl refl)))))), noted_keep (note_of t) (plain t) (note_fits (d + 1) t h.2) (plain_words (d + 1) t h.2) _ hr)

    expressions_words : (d : ℕ) (first : Bool) (t : m.Trees) → AllFit l d t → Keep (expressions first t)
    expressions_words d first m.no_tree h rest hr = hr
    expressions_words d first (m.and_tree t ts) h rest hr = comma_keep first _ (noted_keep (note_of t) (plain t) (note_fits d t h.0) (plain_words d t h.0) _ (expressions_words d false ts h.1 _ hr))

    pairs_words : (d : ℕ) (first : Bool) (t : m.Pairs) → PairsFit l d t → Keep (pairs first t)
    pairs_words d first m.no_pair h rest hr = hr
    pairs_words d first (m.and_pair exact t u ps) h rest hr = comma_keep first _
        (noted_keep (note_of t) (plain t) (note_fits d t h.0) (plain_words d t h.0) _ ((arrow_word exact, noted_keep (note_of u) (plain u) (note_fits d u h.1) (plain_words d u h.1) _ (pairs_words d false ps h.2 _ hr))))

    segments_words : (d : ℕ) (first : Bool) (t : m.Segments) → SegmentsFit l d t → Keep (segments first t)
    segments_words d first m.no_segment h rest hr = hr
    segments_words d first (m.and_segment t ts ss) h rest hr = comma_keep first _
        ((
          (inr (inr (inr (inr (inr (inr (inr (inr (inr (inr (inr (inr (inr (inr (inr (inr (inr (inl refl)))))))))))))))))),
          noted_keep (note_of t) (plain t) (note_fits d t h.0) (plain_words d t h.0) _
              (((inr (inr (inr (inr (inr (inr (inr (inl refl)))))))), ((inl refl), expressions_words d true ts h.1 _ (((inr (inl refl)), segments_words d false ss h.2 _ hr))))),
        ))

    steps_words : (d : ℕ) (t : m.Steps) → StepsFit l d t → (last : Words) → Keep last → Keep (steps t last)
    steps_words d m.no_step h last kl rest hr = kl _ hr
    steps_words d (m.and_let k xs t ss) h last kl rest hr = opened_keep k.note _
        ((
          (inr (inr (inr (inr (inr (inr (inr (inr (inr (inr (inl refl))))))))))),
          (
            (inr (inr (inr (inr (inr (inr (inl refl))))))),
            variables_keep true xs h.1 _
                ((
                  (inr (inr (inr (inr (inr (inr (inr (inl refl)))))))),
                  (
                    (inr (inr (inr (inr (inr (inr (inr (inr (inr (inr (inr (inr (inl refl))))))))))))),
                    noted_keep (note_of t) (plain t) (note_fits d t h.2) (plain_words d t h.2) _ (((inr (inr (inr (inr (inr (inr (inr (inr (inr (inl refl)))))))))), steps_words d ss h.3 last kl _ (closed_keep k.note h.0 _ hr))),
                  ),
                )),
          ),
        ))
    steps_words d (m.and_do k t ss) h last kl rest hr = opened_keep k.note _ ((
      (inr (inr (inr (inr (inr (inr (inl refl))))))),
      noted_keep (note_of t) (plain t) (note_fits d t h.1) (plain_words d t h.1) _ (steps_words d ss h.2 last kl _ (closed_keep k.note h.0 _ hr)),
    ))

    clauses_words : (d : ℕ) (t : m.Clauses) → ClausesFit l d t → Keep (clauses t)
    clauses_words d m.no_clause h rest hr = hr
    clauses_words d (m.and_clause k ps g t cs) h rest hr = opened_keep k.note _ ((
      (inr (inr (inr (inr (inr (inr (inl refl))))))),
      patterns_words d true ps h.1 _ ((
        (inr (inr (inr (inr (inr (inr (inr (inl refl)))))))),
        (
          (inr (inr (inr (inr (inr (inr (inr (inr (inr (inr (inr (inr (inr (inr (inr (inr (inr (inl refl)))))))))))))))))),
          noted_keep (note_of g) (plain g) (note_fits d g h.2) (plain_words d g h.2) _
              ((
                (inr (inr (inr (inr (inr (inr (inr (inr (inr (inr (inr (inr (inr (inl refl)))))))))))))),
                noted_keep (note_of t) (plain t) (note_fits d t h.3) (plain_words d t h.3) _ (closed_keep k.note h.0 _ (clauses_words d cs h.4 _ hr)),
              )),
        ),
      )),
    ))

    definitions_words : (d : ℕ) (t : m.Defs) → DefsFit l d t → Keep (definitions t)
    definitions_words d m.no_def h rest hr = hr
    definitions_words d (m.and_def f k xs t ds) h rest hr = (
      tt,
      (
        (inr (inr (inr (inr (inr (inr (inr (inr (inr (inr (inr (inl refl)))))))))))),
        (
          arity_word f.arity h.0,
          ((
            (inr (inr (inr (inr (inr (inr (inr (inr (inr (inr (inr (inr (inl refl))))))))))))),
            opened_keep k.note _ ((
              (inr (inr (inr (inr (inr (inr (inr (inr (inl refl))))))))),
              (
                (inl refl),
                variables_keep true xs h.2 _ ((
                  (inr (inl refl)),
                  (
                    (inr (inr (inr (inr (inr (inr (inr (inr (inr (inr (inr (inr (inr (inl refl)))))))))))))),
                    noted_keep (note_of t) (plain t) (note_fits d t h.3) (plain_words d t h.3) _ (closed_keep k.note h.1 _ (definitions_words d ds h.4 _ hr)),
                  ),
                )),
              ),
            )),
          )),
        ),
      ),
    )

    plain_pattern_words : (d : ℕ) (t : m.Pattern) → PatternFits l d t → Keep (plain_pattern t)
    plain_pattern_words d (m.binds k x) h rest hr = (h.2, hr)
    plain_pattern_words d (m.equals k l) h rest hr = literal_keep l h.2 _ hr
    plain_pattern_words d (m.list_of k ps p) h rest hr = (
      (inr (inr (inr (inr (inl refl))))),
      patterns_words (d + 1) true ps h.3 _ (pattern_tail_keep (d + 1) p h.4 (plain_pattern_words (d + 1) p h.4) _ (((inr (inr (inr (inr (inr (inl refl)))))), hr))),
    )
    plain_pattern_words d (m.tuple_of k ps) h rest hr = ((inr (inr (inl refl))), patterns_words (d + 1) true ps h.2 _ (((inr (inr (inr (inl refl)))), hr)))
    plain_pattern_words d (m.map_of k ps) h rest hr = (
      (inr (inr (inr (inr (inr (inr (inr (inr (inr (inr (inr (inr (inr (inr (inr (inr (inr (inr (inl refl))))))))))))))))))),
      pat_pairs_words (d + 1) true ps h.2 _ (((inr (inr (inr (inr (inr (inr (inr (inr (inr (inr (inr (inr (inr (inr (inr (inr (inr (inr (inr (inl refl)))))))))))))))))))), hr)),
    )
    plain_pattern_words d (m.binary_of k ss) h rest hr = (
      (inr (inr (inr (inr (inr (inr (inr (inr (inr (inr (inr (inr (inr (inr (inr (inl refl)))))))))))))))),
      pat_segments_words (d + 1) true ss h.2 _ (((inr (inr (inr (inr (inr (inr (inr (inr (inr (inr (inr (inr (inr (inr (inr (inr (inl refl))))))))))))))))), hr)),
    )
    plain_pattern_words d (m.alias k x p) h rest hr = listed_variable_keep x h.2 _
        (((inr (inr (inr (inr (inr (inr (inr (inr (inr (inr (inr (inr (inl refl))))))))))))), noted_keep (pattern_note_of p) (plain_pattern p) (pattern_note_fits (d + 1) p h.3) (plain_pattern_words (d + 1) p h.3) _ hr))

    patterns_words : (d : ℕ) (first : Bool) (t : m.Patterns) → PatternsFit l d t → Keep (patterns first t)
    patterns_words d first m.no_pattern h rest hr = hr
    patterns_words d first (m.and_pattern p ps) h rest hr = comma_keep first _ (noted_keep (pattern_note_of p) (plain_pattern p) (pattern_note_fits d p h.0) (plain_pattern_words d p h.0) _ (patterns_words d false ps h.1 _ hr))

    pat_pairs_words : (d : ℕ) (first : Bool) (t : m.PatPairs) → PatPairsFit l d t → Keep (pat_pairs first t)
    pat_pairs_words d first m.no_pat_pair h rest hr = hr
    pat_pairs_words d first (m.and_pat_pair t p ps) h rest hr = comma_keep first _
        (noted_keep (note_of t) (plain t) (note_fits d t h.0) (plain_words d t h.0) _
        ((
          (inr (inr (inr (inr (inr (inr (inr (inr (inr (inr (inr (inr (inr (inr (inr (inr (inr (inr (inr (inr (inr (inl refl)))))))))))))))))))))),
          noted_keep (pattern_note_of p) (plain_pattern p) (pattern_note_fits d p h.1) (plain_pattern_words d p h.1) _ (pat_pairs_words d false ps h.2 _ hr),
        )))

    pat_segments_words : (d : ℕ) (first : Bool) (t : m.PatSegments) → PatSegmentsFit l d t → Keep (pat_segments first t)
    pat_segments_words d first m.no_pat_segment h rest hr = hr
    pat_segments_words d first (m.and_pat_segment p ts ss) h rest hr = comma_keep first _
        ((
          (inr (inr (inr (inr (inr (inr (inr (inr (inr (inr (inr (inr (inr (inr (inr (inr (inr (inl refl)))))))))))))))))),
          noted_keep (pattern_note_of p) (plain_pattern p) (pattern_note_fits d p h.0) (plain_pattern_words d p h.0) _
              (((inr (inr (inr (inr (inr (inr (inr (inl refl)))))))), ((inl refl), expressions_words d true ts h.1 _ (((inr (inl refl)), pat_segments_words d false ss h.2 _ hr))))),
        ))

  pub module_are_words : (x : m.Module) → ModuleFits l x → AreWords (module_words x)
  module_are_words x h = noted_keep x.note (plain_module x) h.note (λ rest hr. (
    (inr (inr (inr (inr (inr (inr (inr (inr (inr (inr (inr (inr (inl refl))))))))))))),
    (
      tt,
      (
        (inr (inr (inr (inr (inl refl))))),
        exports_keep true x.exports h.exports _ (
          (inr (inr (inr (inr (inr (inl refl)))))),
          ((inr (inr (inl refl))), ((inr (inr (inr (inr (inl refl))))), ((inr (inr (inr (inr (inr (inl refl)))))), definitions_words 1 x.defs h.defs _ ((inr (inr (inr (inr (inr (inr (inr (inl refl)))))))), hr)))),
        ),
      ),
    ),
  )) [] tt
