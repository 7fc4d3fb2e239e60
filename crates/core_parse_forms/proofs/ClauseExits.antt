-- Clauses: each way out. Where a bracket comes first, it is the clause's, that of its pattern, or that of
-- the variable which names the pattern: the branches that are open are followed until a token picks one.
use Rattle.std.proofs.Common.{◌≡◌, ℕ, ◌+◌, ◌≤◌, ◌<◌, List, [], ◌∷◌, Bool, true, false, refl, sym, ap, ◌∙◌, subst}
use Rattle.type_kinds.specs.declared.place.Place.{Place}
use Rattle.core_scan.specs.declared.token.Token.{Token}
use Rattle.core_scan.specs.declared.sort.Sort.{Sort}
use Rattle.core_scan.specs.declared.sort.Sort.TheVariants as s
use Rattle.core_scan.specs.Sorts.{sort, fits}
use Rattle.core_scan.proofs.SortLaws.{fits_no_other}
use Rattle.core_ast.specs.declared.syntax.Note.{Note}
use Rattle.core_ast.specs.declared.syntax.Mark.{Mark}
use Rattle.core_ast.specs.declared.syntax.VarName.{VarName}
use Rattle.core_ast.specs.Model as m
use Rattle.core_ast.specs.Notes.{marked, noted_clause, noted_pattern}
use Rattle.core_ast.specs.Tree as lists
use Rattle.core_parse_grammar.specs.declared.fault.PartFault.{PartFault}
use Rattle.core_parse_grammar.specs.declared.fault.PartFault.TheVariants.{Syntax, End, TooDeep, Memory}
use Rattle.core_parse_grammar.specs.Begins.{depth_limit}
use Rattle.core_parse_grammar.specs.Build.{at, text, no_note, mark_of, variable_name}
use Rattle.core_parse_grammar.specs.Grammar.{a, first, the, noted_, many, annotation, expression, clause, bare_clause, clause_patterns, pattern, bare_pattern}
use Rattle.core_parse_grammar.specs.Labels.{number, number_clauses, number_pattern, number_patterns}
use Rattle.core_parse_forms.specs.steps.Clauses.{noted_end, clause_end, ReadsHead, ReadsSeveral, RefusesSeveral, ReadsEither, RefusesEither, in_patterns, no_when, neither, memory, in_annotation, no_when_behind}
use Rattle.core_parse_grammar.specs.Track.{Branch, Goes, itself, Passes, Stops, Sinks, next, Shallow, Then, opened, Guarded, deeper_limit}
use Rattle.core_parse_grammar.specs.Faults.{Refuses, Starts, Takes, Misses, MissesOrMemory, RanOut}
use Rattle.core_parse_grammar.specs.Readings.{mark, ReadsAnnotation, ReadsExpression, ReadsBarePattern, ReadsClause}
use Rattle.core_parse_forms.specs.steps.Patterns.{in_brackets, closed, ReadsInBrackets, RefusesInBrackets, variable_noted, alias_behind, ReadsNotedVariable, RefusesNotedVariable, ReadsNamed}
use Rattle.core_parse_grammar.specs.Starters.{opens_with}
use Rattle.core_parse_grammar.proofs.Moves.{◌>>◌, pass, stay, expand, sink_at, Is_open, Deep}
use Rattle.core_parse_grammar.proofs.Places.{taken, halted, Shut, through, refused, refused_in, ran_out, lacking, take_class, drop, drop_second}
use Rattle.core_parse_forms.proofs.Branches.{pruned, swapped, turned, taken_sort}
use Rattle.core_parse_forms.proofs.PatternExits.{alias_made, noted_is}
use Rattle.core_parse_forms.proofs.PatternPlaces.{bare_place, annotation_first}

-- a clause whose patterns are these
abbrev clause_of : Place → m.Patterns → m.Tree → m.Tree → lists.ClauseParts
clause_of place ps g b = record { mark = at place; patterns = ps; guard = g; body = b }

abbrev one : m.Pattern → m.Patterns
one x = lists.patterns (x ∷ [])

-- the numbers of one pattern
one_is : (n p : ℕ) (says x : m.Pattern) → number_pattern n says ≡ (x, p) → number_patterns n (one says) ≡ (one x, p)
one_is n p says x e = ap (λ (r : m.Pattern × ℕ). let z : m.Patterns × ℕ = (one r.0, r.1) in z) e

-- Behind the patterns of a clause, up to the word `when`.
module _ (d : ℕ) where
  abbrev before_when : Bool → Place → List m.Pattern → Branch (clause d)
  before_when noted place ps = record { parts = a s.When ∷ the (expression d) ∷ a s.Arrow ∷ the (expression d) ∷ noted_end noted; build = λ _ g _ b. clause_end noted (clause_of place (lists.patterns ps) g b) }

  module _ (noted : Bool) (place : Place) (ps : List m.Pattern) (ts us : List Token) (g : Goes (clause d) (itself (clause d)) (before_when noted place ps ∷ []) ts us) where
    pub when_bad : (f : PartFault) → MissesOrMemory s.When us f → Refuses (clause d) ts f
    when_bad Memory z = tt
    when_bad (Syntax p) z = lacking (clause d) s.When (the (expression d) ∷ a s.Arrow ∷ the (expression d) ∷ noted_end noted) (λ _ g _ b. clause_end noted (clause_of place (lists.patterns ps) g b)) ts us (Syntax p) g z
    when_bad End z = lacking (clause d) s.When (the (expression d) ∷ a s.Arrow ∷ the (expression d) ∷ noted_end noted) (λ _ g _ b. clause_end noted (clause_of place (lists.patterns ps) g b)) ts us End g z
    when_bad (TooDeep p) z = absurd z

    pub when_read : (left : List Token) (n p : ℕ) (made : m.Patterns) → Takes s.When us left → number_patterns n (lists.patterns ps) ≡ (made, p) → ReadsHead d n ts made place noted left p
    when_read left n p made z e = record {
      says = ps;
      goes = g >> take_class (clause d) s.When (the (expression d) ∷ a s.Arrow ∷ the (expression d) ∷ noted_end noted)
          (λ _ g _ b. clause_end noted (clause_of place (lists.patterns ps) g b)) us left z;
      agrees = e;
    }

  -- Behind one pattern: its annotation in brackets, or the word `when` of a clause in brackets.
  abbrev two_heads : m.Pattern → Place → Place → List (Branch (clause d))
  two_heads x outer inner = record { parts = the annotation ∷ a s.When ∷ the (expression d) ∷ a s.Arrow ∷ the (expression d) ∷ []; build = λ k _ g _ b. clause_of outer (one (noted_pattern k x)) g b }
      ∷ before_when true inner (x ∷ []) ∷ []

  module _ (x : m.Pattern) (outer inner : Place) (ts us : List Token) (g : Goes (clause d) (itself (clause d)) (two_heads x outer inner) ts us) where
    either_noted : opens_with s.Noted us ≡ true → Goes (clause d) (itself (clause d))
        (record { parts = the annotation ∷ a s.When ∷ the (expression d) ∷ a s.Arrow ∷ the (expression d) ∷ []; build = λ k _ g _ b. clause_of outer (one (noted_pattern k x)) g b } ∷ []) ts us
    either_noted e = go us refl e
      where
        apart : (q : Sort) → fits s.Noted q ≡ true → fits s.When q ≡ false
        apart q e = fits_no_other s.When q (λ z. absurd cc) (λ z. let y : fits s.Noted s.When ≡ true = ap (fits s.Noted) (sym z) ∙ e in absurd cc)

        go : (vs : List Token) → us ≡ vs → opens_with s.Noted vs ≡ true → Goes (clause d) (itself (clause d))
            (record { parts = the annotation ∷ a s.When ∷ the (expression d) ∷ a s.Arrow ∷ the (expression d) ∷ []; build = λ k _ g _ b. clause_of outer (one (noted_pattern k x)) g b } ∷ []) ts us
        go [] h e = absurd cc
        go (t ∷ vs) h e = g >> drop_second (clause d) _ _ [] us vs t h (apart (sort t) e)

    note_first : (k : Note) (vs : List Token) → ReadsAnnotation us k vs → opens_with s.Noted us ≡ true
    note_first k vs y = annotation_first us vs y.says y.passes

    behind_note : (k : Note) (vs : List Token) (y : ReadsAnnotation us k vs) → Goes (clause d) (itself (clause d)) (before_when false outer (noted_pattern y.says x ∷ []) ∷ []) ts vs
    behind_note k vs y = either_noted (note_first k vs y) >> through annotation (clause d) (a s.When ∷ the (expression d) ∷ a s.Arrow ∷ the (expression d) ∷ [])
        (λ k _ g _ b. clause_of outer (one (noted_pattern k x)) g b) us vs y.says y.passes ((λ t x. refl), (λ t x. refl), tt)

    stuck : (t : Token) (vs : List Token) → us ≡ t ∷ vs → fits s.When (sort t) ≡ false → fits s.Noted (sort t) ≡ false → Stops (clause d) (itself (clause d)) ts t.place
    stuck t vs e h i = halted (clause d) (itself (clause d)) (two_heads x outer inner) ts us vs t g e tt (go (sort t) h i)
      where
        go : (q : Sort) → fits s.When q ≡ false → fits s.Noted q ≡ false → Shut (clause d) t q (two_heads x outer inner)
        go s.When h i = absurd cc
        go s.Noted h i = absurd cc
        go _ h i = (refl, refl)

    lacks_both : (f : PartFault) → MissesOrMemory s.When us f → Misses s.Noted us f → Refuses (clause d) ts f
    lacks_both (Syntax p) h i = subst (Stops (clause d) (itself (clause d)) ts) (sym h.place_is)
        (stuck h.first h.left h.are h.other (let z : i.first ≡ h.first = same_first (sym i.are ∙ h.are) in subst (λ (t : Token). fits s.Noted (sort t) ≡ false) z i.other))
      where
        same_first : {t u : Token} {vs ws : List Token} → t ∷ vs ≡ u ∷ ws → t ≡ u
        same_first e = cc
    lacks_both End h i = ran_out (clause d) (two_heads x outer inner) ts us End g tt refl h
    lacks_both (TooDeep p) h i = absurd h
    lacks_both Memory h i = tt

    pub either_bad : (f : PartFault) → RefusesEither us f → Refuses (clause d) ts f
    either_bad f (neither h i) = lacks_both f h i
    either_bad f (memory e) = subst (Refuses (clause d) ts) (sym e) tt
    either_bad f (in_annotation h e) = refused annotation (clause d) (a s.When ∷ the (expression d) ∷ a s.Arrow ∷ the (expression d) ∷ []) (λ k _ g _ b. clause_of outer (one (noted_pattern k x)) g b) ts us f (either_noted e)
        ((λ t x. refl), (λ t x. refl), tt) h
    either_bad f (no_when_behind k vs y h) = when_bad false outer (noted_pattern y.says x ∷ []) ts vs (behind_note k vs y) f h

    pub either_read : (n p : ℕ) (y : m.Pattern) (made : m.Patterns) (place : Place) (noted : Bool) (left : List Token) → number_pattern n x ≡ (y, p) → ReadsEither us y outer inner made place noted left
        → ReadsHead d n ts made place noted left p
    either_read n p y made place true left e (h, i, j) = subst (λ q. ReadsHead d n ts made q true left p) (sym i) (record {
      says = x ∷ [];
      goes = g >> taken (clause d) (two_heads x outer inner) us left j.first s.When j.are (taken_sort s.When us left (λ z. absurd cc) j) refl (tt, (tt, tt));
      agrees = one_is n p x y e ∙ ap (λ q. let z : m.Patterns × ℕ = (q, p) in z) (sym h);
    })
    either_read n p y made place false left e (k, vs, h, i, r, j) = subst (λ q. ReadsHead d n ts made q false left p) (sym i)
        (when_read false outer (noted_pattern r.says x ∷ []) ts vs (behind_note k vs r) left n p made j
        (one_is n p (noted_pattern r.says x) (noted_pattern k y) (noted_is n p r.says k x y r.agrees e) ∙ ap (λ q. let z : m.Patterns × ℕ = (q, p) in z) (sym h)))

-- The patterns of a clause, up to and with the word `when`.
module _ (d n : ℕ) where
  pub clause_none : (ts : List Token) (f : PartFault) → RanOut ts f → Refuses (clause d) ts f
  clause_none ts f h = ran_out (clause d) (itself (clause d)) ts ts f (stay (clause d) (itself (clause d)) ts) tt refl h

  module _ (ts us : List Token) (t : Token) (q : Sort) (place : Place) (b : Starts ts t q place us) where
    -- patterns in angle brackets
    module _ (h : q ≡ s.Less) where
      head_less : Goes (clause d) (itself (clause d)) (record {
        parts = the (many s.Greater (the (pattern d))) ∷ a s.When ∷ the (expression d) ∷ a s.Arrow ∷ the (expression d) ∷ [];
        build = λ ps _ g _ b. clause_of t.place (lists.patterns ps) g b;
      } ∷ []) ts us
      head_less = taken (clause d) (itself (clause d)) ts us t s.Less b.are (sym b.sort_is ∙ h) refl (tt, tt)

      several_through : (says : List m.Pattern) (between : List Token) → Passes (many s.Greater (the (pattern d))) us says between → Goes (clause d) (itself (clause d)) (before_when d false t.place says ∷ []) ts between
      several_through says between z = head_less >> through (many s.Greater (the (pattern d))) (clause d) (a s.When ∷ the (expression d) ∷ a s.Arrow ∷ the (expression d) ∷ [])
          (λ ps _ g _ b. clause_of t.place (lists.patterns ps) g b) us between says z ((λ t x. refl), (λ t x. refl), tt)

      pub head_several_bad : (f : PartFault) → RefusesSeveral d us f → Refuses (clause d) ts f
      head_several_bad f (in_patterns z) = refused (many s.Greater (the (pattern d))) (clause d) (a s.When ∷ the (expression d) ∷ a s.Arrow ∷ the (expression d) ∷ [])
          (λ ps _ g _ b. clause_of t.place (lists.patterns ps) g b) ts us f head_less ((λ t x. refl), (λ t x. refl), tt) z
      head_several_bad f (no_when says between z w) = when_bad d false t.place says ts between (several_through says between z) f w

      pub head_several : (made : m.Patterns) (there : Place) (noted : Bool) (left : List Token) (p : ℕ) → there ≡ place → noted ≡ false → ReadsSeveral d n us made left p → ReadsHead d n ts made there noted left p
      head_several made there noted left p i j z = subst (λ x. ReadsHead d n ts made there x left p) (sym j) (subst (λ x. ReadsHead d n ts made x false left p) (sym (i ∙ b.place_is))
          (when_read d false t.place z.says ts z.between (several_through z.says z.between z.passes) left n p made z.then_when z.agrees))

    -- one pattern, without brackets before it
    module _ (h : q ≡ s.Less → ⊥) (g : q ≡ s.OpenRound → ⊥) where
      head_bare : Goes (clause d) (itself (clause d)) (record { parts = the (bare_pattern d) ∷ a s.When ∷ the (expression d) ∷ a s.Arrow ∷ the (expression d) ∷ []; build = λ x _ g _ b. clause_of (mark_of x).place (one x) g b }
          ∷ []) ts ts
      head_bare = expand (clause d) (clause d) [] (λ x. x) [] ts >> expand (clause d) (noted_ (the (bare_clause d))) [] _ [] ts
          >> drop_second _ _ _ _ ts us t b.are (fits_no_other s.OpenRound (sort t) (λ z. absurd cc) (λ z. g (b.sort_is ∙ z)))
          >> expand (clause d) (bare_clause d) [] (λ x. x) [] ts >> expand (clause d) (clause_patterns d) (a s.When ∷ the (expression d) ∷ a s.Arrow ∷ the (expression d) ∷ [])
          (λ ps _ g _ b. clause_of ps.place (lists.patterns ps.patterns) g b) [] ts
          >> drop_second _ _ _ _ ts us t b.are (fits_no_other s.OpenRound (sort t) (λ z. absurd cc) (λ z. g (b.sort_is ∙ z)))
          >> drop_second _ _ _ _ ts us t b.are (fits_no_other s.Less (sort t) (λ z. absurd cc) (λ z. h (b.sort_is ∙ z)))

      pub head_bare_bad : (f : PartFault) → Refuses (bare_pattern d) ts f → Refuses (clause d) ts f
      head_bare_bad f z = refused (bare_pattern d) (clause d) (a s.When ∷ the (expression d) ∷ a s.Arrow ∷ the (expression d) ∷ []) (λ x _ g _ b. clause_of (mark_of x).place (one x) g b) ts ts f head_bare (
        (λ t x. refl),
        (λ t x. refl),
        tt,
      ) z

      module _ (vs : List Token) (x : m.Pattern) (p : ℕ) (y : ReadsBarePattern d n ts x vs p) where
        head_one : Goes (clause d) (itself (clause d)) (before_when d false place (y.says ∷ []) ∷ []) ts vs
        head_one = subst (λ z. Goes (clause d) (itself (clause d)) (before_when d false z (y.says ∷ []) ∷ []) ts vs) (bare_place d ts us vs t y.says b.are y.passes ∙ sym b.place_is)
            (head_bare >> through (bare_pattern d) (clause d) (a s.When ∷ the (expression d) ∷ a s.Arrow ∷ the (expression d) ∷ []) (λ x _ g _ b. clause_of (mark_of x).place (one x) g b) ts vs y.says y.passes (
              (λ t x. refl),
              (λ t x. refl),
              tt,
            ))

        pub head_one_bad : (f : PartFault) → MissesOrMemory s.When vs f → Refuses (clause d) ts f
        head_one_bad f z = when_bad d false place (y.says ∷ []) ts vs head_one f z

        pub head_one_read : (left : List Token) (made : m.Patterns) → made ≡ one x → Takes s.When vs left → ReadsHead d n ts made place false left p
        head_one_read left made e z = when_read d false place (y.says ∷ []) ts vs head_one left n p made z (one_is n p y.says x y.agrees ∙ ap (λ q. let w : m.Patterns × ℕ = (q, p) in w) (sym e))

    -- a bracket comes first
    module _ (h : q ≡ s.OpenRound) where
      -- what comes behind the pattern: in brackets that are its variable's, its own, or the clause's
      abbrev when_then : Then (pattern d) (clause d)
      when_then = record { parts = a s.When ∷ the (expression d) ∷ a s.Arrow ∷ the (expression d) ∷ []; build = λ x _ g _ b. clause_of t.place (one x) g b }

      abbrev clause_noted : Branch (clause d)
      clause_noted = record { parts = the (bare_clause d) ∷ the annotation ∷ []; build = λ c k. noted_clause k c }

      abbrev head_branches : List (Branch (clause d))
      head_branches = record { parts = first d s.Variable ∷ the annotation ∷ a s.Equals ∷ the (pattern (d + 1)) ∷ when_then.parts; build = λ v k _ x. when_then.build (m.alias (at t.place) (variable_name v.place v k) x) }
          ∷ record { parts = the (bare_pattern d) ∷ the annotation ∷ when_then.parts; build = λ x k. when_then.build (noted_pattern k x) } ∷ clause_noted ∷ []

      head_open : Goes (clause d) (itself (clause d)) head_branches ts us
      head_open = taken (clause d) (itself (clause d)) ts us t s.OpenRound b.are (sym b.sort_is ∙ h) refl (tt, tt)

      pub head_open_end : (f : PartFault) → RanOut us f → Refuses (clause d) ts f
      head_open_end f z = ran_out (clause d) head_branches ts us f head_open tt refl z

      module _ (vs : List Token) (u : Token) (r : Sort) (there : Place) (c : Starts us u r there vs) where
        -- the clause's, before patterns in angle brackets
        module _ (i : r ≡ s.Less) where
          inner_less : Goes (clause d) (itself (clause d)) (record {
            parts = the (many s.Greater (the (pattern d))) ∷ a s.When ∷ the (expression d) ∷ a s.Arrow ∷ the (expression d) ∷ the annotation ∷ [];
            build = λ ps _ g _ b k. noted_clause k (clause_of u.place (lists.patterns ps) g b);
          } ∷ []) ts vs
          inner_less = head_open >> taken (clause d) head_branches us vs u s.Less c.are (sym c.sort_is ∙ i) refl (tt, (tt, (tt, tt)))

          inner_through : (says : List m.Pattern) (between : List Token) → Passes (many s.Greater (the (pattern d))) vs says between → Goes (clause d) (itself (clause d)) (before_when d true u.place says ∷ []) ts between
          inner_through says between z = inner_less >> through (many s.Greater (the (pattern d))) (clause d) (a s.When ∷ the (expression d) ∷ a s.Arrow ∷ the (expression d) ∷ the annotation ∷ [])
              (λ ps _ g _ b k. noted_clause k (clause_of u.place (lists.patterns ps) g b)) vs between says z ((λ t x. refl), (λ t x. refl), tt)

          pub inner_several_bad : (f : PartFault) → RefusesSeveral d vs f → Refuses (clause d) ts f
          inner_several_bad f (in_patterns z) = refused (many s.Greater (the (pattern d))) (clause d) (a s.When ∷ the (expression d) ∷ a s.Arrow ∷ the (expression d) ∷ the annotation ∷ [])
              (λ ps _ g _ b k. noted_clause k (clause_of u.place (lists.patterns ps) g b)) ts vs f inner_less ((λ t x. refl), (λ t x. refl), tt) z
          inner_several_bad f (no_when says between z w) = when_bad d true u.place says ts between (inner_through says between z) f w

          pub inner_several : (made : m.Patterns) (place_ : Place) (noted : Bool) (left : List Token) (p : ℕ) → place_ ≡ there → noted ≡ true → ReadsSeveral d n vs made left p → ReadsHead d n ts made place_ noted left p
          inner_several made place_ noted left p e j z = subst (λ x. ReadsHead d n ts made place_ x left p) (sym j) (subst (λ x. ReadsHead d n ts made x true left p) (sym (e ∙ c.place_is))
              (when_read d true u.place z.says ts z.between (inner_through z.says z.between z.passes) left n p made z.then_when z.agrees))

        -- one pattern, without a bracket and not a variable: the brackets are its own or the clause's
        module _ (i : r ≡ s.Less → ⊥) (j : r ≡ s.Variable → ⊥) (k : r ≡ s.OpenRound → ⊥) where
          inner_two : Goes (clause d) (itself (clause d)) (record { parts = the (bare_pattern d) ∷ the annotation ∷ when_then.parts; build = λ x k. when_then.build (noted_pattern k x) }
              ∷ record { parts = the (bare_pattern d) ∷ a s.When ∷ the (expression d) ∷ a s.Arrow ∷ the (expression d) ∷ the annotation ∷ []; build = λ x _ g _ b k. noted_clause k (clause_of (mark_of x).place (one x) g b) }
              ∷ []) ts us
          inner_two = head_open >> drop _ _ _ us vs u c.are (fits_no_other s.Variable (sort u) (λ z. absurd cc) (λ z. j (c.sort_is ∙ z)))
              >> swapped _ _ _ [] us >> expand (clause d) (bare_clause d) (the annotation ∷ []) (λ c k. noted_clause k c) _ us
              >> expand (clause d) (clause_patterns d) (a s.When ∷ the (expression d) ∷ a s.Arrow ∷ the (expression d) ∷ the annotation ∷ [])
              (λ ps _ g _ b k. noted_clause k (clause_of ps.place (lists.patterns ps.patterns) g b)) _ us
              >> drop_second _ _ _ _ us vs u c.are (fits_no_other s.OpenRound (sort u) (λ z. absurd cc) (λ z. k (c.sort_is ∙ z)))
              >> drop_second _ _ _ _ us vs u c.are (fits_no_other s.Less (sort u) (λ z. absurd cc) (λ z. i (c.sort_is ∙ z)))
              >> swapped _ _ _ [] us

          abbrev inner_thens : List (Then (bare_pattern d) (clause d))
          inner_thens = record { parts = the annotation ∷ when_then.parts; build = λ x k. when_then.build (noted_pattern k x) }
              ∷ record { parts = a s.When ∷ the (expression d) ∷ a s.Arrow ∷ the (expression d) ∷ the annotation ∷ []; build = λ x _ g _ b k. noted_clause k (clause_of (mark_of x).place (one x) g b) } ∷ []

          pub inner_bare_bad : (f : PartFault) → Refuses (bare_pattern d) us f → Refuses (clause d) ts f
          inner_bare_bad f z = refused_in (bare_pattern d) (clause d) inner_thens ts us f inner_two tt ((λ t x. refl), (λ t x. refl), ((λ t x. refl), (λ t x. refl), tt)) z

          module _ (ws : List Token) (x : m.Pattern) (p : ℕ) (y : ReadsBarePattern d n us x ws p) where
            inner_bare : Goes (clause d) (itself (clause d)) (two_heads d y.says place there) ts ws
            inner_bare = subst (λ z. Goes (clause d) (itself (clause d)) (two_heads d y.says z there) ts ws) (sym b.place_is)
                (subst (λ z. Goes (clause d) (itself (clause d)) (two_heads d y.says t.place z) ts ws) (bare_place d us vs ws u y.says c.are y.passes ∙ sym c.place_is)
                (inner_two >> pass (bare_pattern d) (clause d) inner_thens us ws y.says ((λ t x. refl), (λ t x. refl), ((λ t x. refl), (λ t x. refl), tt)) y.passes))

            pub inner_either_bad : (f : PartFault) → RefusesEither ws f → Refuses (clause d) ts f
            inner_either_bad f z = either_bad d y.says place there ts ws inner_bare f z

            pub inner_either : (made : m.Patterns) (place_ : Place) (noted : Bool) (left : List Token) → ReadsEither ws x place there made place_ noted left → ReadsHead d n ts made place_ noted left p
            inner_either made place_ noted left z = either_read d y.says place there ts ws inner_bare n p x made place_ noted left y.agrees z

        -- a second bracket
        module _ (i : r ≡ s.OpenRound) where
          abbrev inner_then : Then (pattern d) (clause d)
          inner_then = record { parts = a s.When ∷ the (expression d) ∷ a s.Arrow ∷ the (expression d) ∷ the annotation ∷ []; build = λ x _ g _ b k. noted_clause k (clause_of there (one x) g b) }

          abbrev outer_then : Then (pattern d) (clause d)
          outer_then = record { parts = the annotation ∷ a s.When ∷ the (expression d) ∷ a s.Arrow ∷ the (expression d) ∷ []; build = λ x k _ g _ b. clause_of place (one (noted_pattern k x)) g b }

          second_open : Goes (clause d) (itself (clause d)) (in_brackets d there (clause d) inner_then (outer_then ∷ inner_then ∷ [])) ts vs
          second_open = subst (λ z. Goes (clause d) (itself (clause d)) (in_brackets d there (clause d) inner_then
              (record { parts = the annotation ∷ a s.When ∷ the (expression d) ∷ a s.Arrow ∷ the (expression d) ∷ []; build = λ x k _ g _ b. clause_of z (one (noted_pattern k x)) g b } ∷ inner_then ∷ [])) ts vs)
              (sym b.place_is)
              (subst (λ z. Goes (clause d) (itself (clause d)) (in_brackets d z (clause d)
              (record { parts = a s.When ∷ the (expression d) ∷ a s.Arrow ∷ the (expression d) ∷ the annotation ∷ []; build = λ x _ g _ b k. noted_clause k (clause_of z (one x) g b) })
              (record { parts = the annotation ∷ a s.When ∷ the (expression d) ∷ a s.Arrow ∷ the (expression d) ∷ []; build = λ x k _ g _ b. clause_of t.place (one (noted_pattern k x)) g b }
              ∷ record { parts = a s.When ∷ the (expression d) ∷ a s.Arrow ∷ the (expression d) ∷ the annotation ∷ []; build = λ x _ g _ b k. noted_clause k (clause_of z (one x) g b) } ∷ [])) ts vs) (sym c.place_is)
              (head_open >> taken (clause d) head_branches us vs u s.OpenRound c.are (sym c.sort_is ∙ i) refl (tt, (tt, (tt, tt))) >> turned (clause d) _ _ _ vs))

          thens_guarded : Guarded (pattern d) (clause d) (inner_then ∷ outer_then ∷ inner_then ∷ [])
          thens_guarded = ((λ t x. refl), (λ t x. refl), ((λ t x. refl), (λ t x. refl), ((λ t x. refl), (λ t x. refl), tt)))

          pub second_bad : (f : PartFault) → RefusesInBrackets d there vs f → Refuses (clause d) ts f
          second_bad f z = z (clause d) inner_then outer_then (inner_then ∷ []) thens_guarded ts second_open

          module _ (ws : List Token) (x : m.Pattern) (p : ℕ) where
            -- brackets of the variable that names the pattern: those before them may be either's
            module _ (y : ReadsInBrackets d n there vs x true ws p) where
              second_alone : Goes (clause d) (itself (clause d)) (two_heads d y.says place there) ts ws
              second_alone = second_open >> y.goes (clause d) inner_then (outer_then ∷ inner_then ∷ []) thens_guarded

              pub second_either_bad : (f : PartFault) → RefusesEither ws f → Refuses (clause d) ts f
              second_either_bad f z = either_bad d y.says place there ts ws second_alone f z

              pub second_either : (made : m.Patterns) (place_ : Place) (noted : Bool) (left : List Token) → ReadsEither ws x place there made place_ noted left → ReadsHead d n ts made place_ noted left p
              second_either made place_ noted left z = either_read d y.says place there ts ws second_alone n p x made place_ noted left y.agrees z

            -- brackets of an annotation: those before them are the clause's
            module _ (y : ReadsInBrackets d n there vs x false ws p) where
              second_noted : Goes (clause d) (itself (clause d)) (before_when d true there (y.says ∷ []) ∷ []) ts ws
              second_noted = second_open >> y.goes (clause d) inner_then (outer_then ∷ inner_then ∷ []) thens_guarded

              pub second_when_bad : (f : PartFault) → MissesOrMemory s.When ws f → Refuses (clause d) ts f
              second_when_bad f z = when_bad d true there (y.says ∷ []) ts ws second_noted f z

              pub second_when : (left : List Token) (made : m.Patterns) → made ≡ one x → Takes s.When ws left → ReadsHead d n ts made there true left p
              second_when left made e z = when_read d true there (y.says ∷ []) ts ws second_noted left n p made z (one_is n p y.says x y.agrees ∙ ap (λ q. let w : m.Patterns × ℕ = (q, p) in w) (sym e))

        -- a variable: five branches are open behind it
        module _ (i : r ≡ s.Variable) where
          pub head_variable_deep : depth_limit < d → d ≤ deeper_limit → Sinks (clause d) (itself (clause d)) ts there
          head_variable_deep w x = subst (Sinks (clause d) (itself (clause d)) ts) (sym c.place_is)
              (sink_at 12 (clause d) (itself (clause d)) head_branches ts vs u (subst (λ y. Goes (clause d) (itself (clause d)) head_branches ts y) c.are head_open) tt
              (subst (λ k. Deep 12 (clause d) u k head_branches depth_limit) (sym (sym c.sort_is ∙ i)) ((w, tt), ((w, (w, tt)), ((w, (w, tt)), tt))))
              (subst (λ k. Shallow 12 (clause d) u k head_branches deeper_limit) (sym (sym c.sort_is ∙ i)) ((x, tt), ((x, (x, tt)), ((x, (x, tt)), tt))))
              (subst (λ k. Is_open (clause d) (next 12 (clause d) u k head_branches)) (sym (sym c.sort_is ∙ i)) tt))

          module _ (w : d ≤ depth_limit) where
            abbrev binds : m.Pattern
            binds = m.binds (at u.place) (text u)

            abbrev names : m.Pattern → m.Pattern
            names x = m.alias (at u.place) (variable_name u.place u no_note) x

            -- the variable's brackets, those of the pattern that is it or that it names, and the clause's before
            -- either
            abbrev five : List (Branch (clause d))
            five = record { parts = the annotation ∷ a s.Equals ∷ the (pattern (d + 1)) ∷ when_then.parts; build = λ k _ x. when_then.build (m.alias (at t.place) (variable_name u.place u k) x) }
                ∷ record { parts = the annotation ∷ when_then.parts; build = λ k. when_then.build (noted_pattern k binds) }
                ∷ record { parts = a s.Equals ∷ the (pattern (d + 1)) ∷ the annotation ∷ when_then.parts; build = λ _ x k. when_then.build (noted_pattern k (names x)) }
                ∷ before_when d true u.place (binds ∷ [])
                ∷ record {
                  parts = a s.Equals ∷ the (pattern (d + 1)) ∷ a s.When ∷ the (expression d) ∷ a s.Arrow ∷ the (expression d) ∷ the annotation ∷ [];
                  build = λ _ x _ g _ b k. noted_clause k (clause_of u.place (one (names x)) g b);
                } ∷ []

            head_variable : Goes (clause d) (itself (clause d)) five ts vs
            head_variable = head_open >> taken (clause d) head_branches us vs u s.Variable c.are (sym c.sort_is ∙ i) refl ((w, tt), ((w, (w, tt)), ((w, (w, tt)), tt)))

            pub head_variable_end : (f : PartFault) → RanOut vs f → Refuses (clause d) ts f
            head_variable_end f z = ran_out (clause d) five ts vs f head_variable tt refl z

            -- an annotation: the brackets are the variable's, or those of the pattern that it is
            module _ (ws : List Token) (x : Token) (o : Sort) (third : Place) (e : Starts vs x o third ws) where
              module _ (j : o ≡ s.Noted) where
                abbrev place_then : Then (pattern d) (clause d)
                place_then = record { parts = a s.When ∷ the (expression d) ∷ a s.Arrow ∷ the (expression d) ∷ []; build = λ x _ g _ b. clause_of place (one x) g b }

                variable_two : Goes (clause d) (itself (clause d)) (variable_noted d u (clause d) place_then ∷ alias_behind d place u (clause d) (place_then ∷ [])) ts vs
                variable_two = subst (λ z. Goes (clause d) (itself (clause d)) (variable_noted d u (clause d)
                    (record { parts = a s.When ∷ the (expression d) ∷ a s.Arrow ∷ the (expression d) ∷ []; build = λ x _ g _ b. clause_of z (one x) g b })
                    ∷ alias_behind d z u (clause d) (record { parts = a s.When ∷ the (expression d) ∷ a s.Arrow ∷ the (expression d) ∷ []; build = λ x _ g _ b. clause_of z (one x) g b } ∷ [])) ts vs) (sym b.place_is)
                    (head_variable >> pruned (clause d) five vs ws x s.Noted e.are (sym e.sort_is ∙ j) >> swapped _ _ _ [] vs)

                place_guarded : Guarded (pattern d) (clause d) (place_then ∷ place_then ∷ [])
                place_guarded = ((λ t x. refl), (λ t x. refl), ((λ t x. refl), (λ t x. refl), tt))

                pub head_noted_bad : (f : PartFault) → RefusesNotedVariable d place u vs f → Refuses (clause d) ts f
                head_noted_bad f z = z (clause d) place_then place_then [] place_guarded ts variable_two

                module _ (xs : List Token) (y : m.Pattern) (alone : Bool) (p : ℕ) (v : ReadsNotedVariable d n place u vs y alone xs p) where
                  closed_either : (alone : Bool) → closed d (clause d) alone v.says place_then (place_then ∷ []) ≡ before_when d false place (v.says ∷ []) ∷ []
                  closed_either true = refl
                  closed_either false = refl

                  head_noted : Goes (clause d) (itself (clause d)) (before_when d false place (v.says ∷ []) ∷ []) ts xs
                  head_noted = subst (λ bs. Goes (clause d) (itself (clause d)) bs ts xs) (closed_either alone) (variable_two >> v.goes (clause d) place_then (place_then ∷ []) place_guarded)

                  pub head_noted_when_bad : (f : PartFault) → MissesOrMemory s.When xs f → Refuses (clause d) ts f
                  head_noted_when_bad f z = when_bad d false place (v.says ∷ []) ts xs head_noted f z

                  pub head_noted_when : (left : List Token) (made : m.Patterns) → made ≡ one y → Takes s.When xs left → ReadsHead d n ts made place false left p
                  head_noted_when left made g z = when_read d false place (v.says ∷ []) ts xs head_noted left n p made z (one_is n p v.says y v.agrees ∙ ap (λ q. let w : m.Patterns × ℕ = (q, p) in w) (sym g))

              -- a pattern that it names
              module _ (j : o ≡ s.Equals) where
                abbrev named_thens : List (Then (pattern (d + 1)) (clause d))
                named_thens = record { parts = the annotation ∷ when_then.parts; build = λ x k. when_then.build (noted_pattern k (names x)) }
                    ∷ record { parts = a s.When ∷ the (expression d) ∷ a s.Arrow ∷ the (expression d) ∷ the annotation ∷ []; build = λ x _ g _ b k. noted_clause k (clause_of u.place (one (names x)) g b) } ∷ []

                named_open : Goes (clause d) (itself (clause d)) (opened (pattern (d + 1)) (clause d) named_thens) ts ws
                named_open = head_variable >> taken (clause d) five vs ws x s.Equals e.are (sym e.sort_is ∙ j) refl (tt, (tt, (tt, (tt, (tt, tt)))))

                pub head_named_bad : (f : PartFault) → Refuses (pattern (d + 1)) ws f → Refuses (clause d) ts f
                head_named_bad f z = refused_in (pattern (d + 1)) (clause d) named_thens ts ws f named_open tt ((λ t x. refl), (λ t x. refl), ((λ t x. refl), (λ t x. refl), tt)) z

                module _ (xs : List Token) (mk : Mark) (name : VarName) (y : m.Pattern) (p : ℕ) (mk_is : mk ≡ mark n there) (name_is : name ≡ record { name = text u; place = there; note = no_note })
                    (v : ReadsNamed mk name d n ws y xs p) where
                  head_named : Goes (clause d) (itself (clause d)) (two_heads d (names v.says) place there) ts xs
                  head_named = subst (λ z. Goes (clause d) (itself (clause d)) (two_heads d (names v.says) z there) ts xs) (sym b.place_is)
                      (subst (λ z. Goes (clause d) (itself (clause d)) (two_heads d (names v.says) t.place z) ts xs) (sym c.place_is)
                      (named_open >> pass (pattern (d + 1)) (clause d) named_thens ws xs v.says ((λ t x. refl), (λ t x. refl), ((λ t x. refl), (λ t x. refl), tt)) v.passes))

                  pub head_named_either_bad : (f : PartFault) → RefusesEither xs f → Refuses (clause d) ts f
                  head_named_either_bad f z = either_bad d (names v.says) place there ts xs head_named f z

                  pub head_named_either : (made : m.Patterns) (place_ : Place) (noted : Bool) (left : List Token) → ReadsEither xs y place there made place_ noted left → ReadsHead d n ts made place_ noted left p
                  head_named_either made place_ noted left z = either_read d (names v.says) place there ts xs head_named n p y made place_ noted left
                      (alias_made n p (at u.place) mk (variable_name u.place u no_note) name v.says v.inner y (mk_is ∙ ap (mark n) c.place_is)
                      (name_is ∙ ap (λ (g : Place). let r : VarName = record { name = text u; place = g; note = no_note } in r) c.place_is) v.made_is v.agrees) z

              -- neither: the brackets are the clause's, and `when` comes
              module _ (j : o ≡ s.Noted → ⊥) (k : o ≡ s.Equals → ⊥) where
                five_stuck : fits s.When (sort x) ≡ false → Stops (clause d) (itself (clause d)) ts x.place
                five_stuck z = halted (clause d) (itself (clause d)) five ts vs ws x head_variable e.are tt (go (sort x) z (λ y. j (e.sort_is ∙ y)) (λ y. k (e.sort_is ∙ y)))
                  where
                    go : (q : Sort) → fits s.When q ≡ false → (q ≡ s.Noted → ⊥) → (q ≡ s.Equals → ⊥) → Shut (clause d) x q five
                    go s.When z j k = absurd cc
                    go s.Noted z j k = absurd (j refl)
                    go s.Equals z j k = absurd (k refl)
                    go _ z j k = (refl, refl)

                pub head_variable_bad : (f : PartFault) → MissesOrMemory s.When vs f → Refuses (clause d) ts f
                head_variable_bad (Syntax p) z = subst (Stops (clause d) (itself (clause d)) ts) (sym z.place_is) (let y : z.first ≡ x = same_first (sym z.are ∙ e.are) in
                    subst (λ (v : Token). Stops (clause d) (itself (clause d)) ts v.place) (sym y) (five_stuck (subst (λ (v : Token). fits s.When (sort v) ≡ false) y z.other)))
                  where
                    same_first : {t u : Token} {vs ws : List Token} → t ∷ vs ≡ u ∷ ws → t ≡ u
                    same_first e = cc
                head_variable_bad End z = ran_out (clause d) five ts vs End head_variable tt refl z
                head_variable_bad (TooDeep p) z = absurd z
                head_variable_bad Memory z = tt

                pub head_variable_when : (left : List Token) (made : m.Patterns) (y : m.Pattern) → y ≡ m.binds (mark n there) (text u) → made ≡ one y → Takes s.When vs left → ReadsHead d n ts made there true left (n + 1)
                head_variable_when left made y f g z = subst (λ q. ReadsHead d n ts made q true left (n + 1)) (sym c.place_is) (record {
                  says = binds ∷ [];
                  goes = head_variable >> taken (clause d) five vs left z.first s.When z.are (taken_sort s.When vs left (λ z. absurd cc) z) refl (tt, (tt, (tt, (tt, (tt, tt)))));
                  agrees = ap (λ (q : Place). let r : m.Patterns × ℕ = (one (m.binds (mark n q) (text u)), n + 1) in r) (sym c.place_is) ∙ ap (λ q. let r : m.Patterns × ℕ = (one q, n + 1) in r) (sym f)
                      ∙ ap (λ q. let r : m.Patterns × ℕ = (q, n + 1) in r) (sym g);
                })

-- A clause, behind the word `when`.
module _ (d n : ℕ) (ts us : List Token) (patterns : m.Patterns) (place : Place) (p : ℕ) where
  module _ (noted : Bool) (e : ReadsHead d (n + 1) ts patterns place noted us p) where
    pub guard_bad : (f : PartFault) → Refuses (expression d) us f → Refuses (clause d) ts f
    guard_bad f z = refused (expression d) (clause d) (a s.Arrow ∷ the (expression d) ∷ noted_end noted) (λ g _ b. clause_end noted (clause_of place (lists.patterns e.says) g b)) ts us f e.goes ((λ t x. refl), (λ t x. refl), tt) z

    module _ (vs : List Token) (g : m.Tree) (q : ℕ) (y : ReadsExpression d p us g vs q) where
      guarded_by : Goes (clause d) (itself (clause d)) (record { parts = a s.Arrow ∷ the (expression d) ∷ noted_end noted; build = λ _ b. clause_end noted (clause_of place (lists.patterns e.says) y.says b) } ∷ []) ts vs
      guarded_by = e.goes >> through (expression d) (clause d) (a s.Arrow ∷ the (expression d) ∷ noted_end noted) (λ g _ b. clause_end noted (clause_of place (lists.patterns e.says) g b)) us vs y.says y.passes (
        (λ t x. refl),
        (λ t x. refl),
        tt,
      )

      pub arrow_bad : (f : PartFault) → Misses s.Arrow vs f → Refuses (clause d) ts f
      arrow_bad f z = lacking (clause d) s.Arrow (the (expression d) ∷ noted_end noted) (λ _ b. clause_end noted (clause_of place (lists.patterns e.says) y.says b)) ts vs f guarded_by z

      module _ (ws : List Token) (z : Takes s.Arrow vs ws) where
        arrowed : Goes (clause d) (itself (clause d)) (record { parts = the (expression d) ∷ noted_end noted; build = λ b. clause_end noted (clause_of place (lists.patterns e.says) y.says b) } ∷ []) ts ws
        arrowed = guarded_by >> take_class (clause d) s.Arrow (the (expression d) ∷ noted_end noted) (λ _ b. clause_end noted (clause_of place (lists.patterns e.says) y.says b)) vs ws z

        body_guarded : (noted : Bool) → Guarded (expression d) (clause d) (record { parts = noted_end noted; build = λ b. clause_end noted (clause_of place (lists.patterns e.says) y.says b) } ∷ [])
        body_guarded true = ((λ t x. refl), (λ t x. refl), tt)
        body_guarded false = ((λ t x. refl), (λ t x. refl), tt)

        pub body_bad : (f : PartFault) → Refuses (expression d) ws f → Refuses (clause d) ts f
        body_bad f i = refused (expression d) (clause d) (noted_end noted) (λ b. clause_end noted (clause_of place (lists.patterns e.says) y.says b)) ts ws f arrowed (body_guarded noted) i

        module _ (xs : List Token) (b : m.Tree) (o : ℕ) (i : ReadsExpression d q ws b xs o) where
          bodied : Goes (clause d) (itself (clause d)) (record { parts = noted_end noted; build = clause_end noted (clause_of place (lists.patterns e.says) y.says i.says) } ∷ []) ts xs
          bodied = arrowed >> through (expression d) (clause d) (noted_end noted) (λ b. clause_end noted (clause_of place (lists.patterns e.says) y.says b)) ws xs i.says i.passes (body_guarded noted)

          clause_numbers : (k : Note) → number_clauses n (m.and_clause (marked k (at place)) (lists.patterns e.says) y.says i.says m.no_clause) ≡ (m.and_clause (marked k (mark n place)) patterns g b m.no_clause, o)
          clause_numbers k = ap (λ (r : m.Patterns × ℕ). let v = number r.1 y.says in let w = number v.1 i.says in let z : m.Clauses × ℕ = (m.and_clause (marked k (mark n place)) r.0 v.0 w.0 m.no_clause, w.1) in z) e.agrees
              ∙ ap (λ (v : m.Tree × ℕ). let w = number v.1 i.says in let z : m.Clauses × ℕ = (m.and_clause (marked k (mark n place)) patterns v.0 w.0 m.no_clause, w.1) in z) y.agrees
              ∙ ap (λ (w : m.Tree × ℕ). let z : m.Clauses × ℕ = (m.and_clause (marked k (mark n place)) patterns g w.0 m.no_clause, w.1) in z) i.agrees

  module _ (e : ReadsHead d (n + 1) ts patterns place false us p) (vs : List Token) (g : m.Tree) (q : ℕ) (y : ReadsExpression d p us g vs q) (ws : List Token) (z : Takes s.Arrow vs ws) (xs : List Token) (b : m.Tree) (o : ℕ)
      (i : ReadsExpression d q ws b xs o) where
    pub clause_read : (made : lists.ClauseParts) → made ≡ record { mark = mark n place; patterns = patterns; guard = g; body = b } → ReadsClause d n ts made xs o
    clause_read made j = record {
      says = clause_of place (lists.patterns e.says) y.says i.says;
      passes = bodied false e vs g q y ws z xs b o i;
      agrees = clause_numbers false e vs g q y ws z xs b o i no_note ∙ ap (λ (c : lists.ClauseParts). let r : m.Clauses × ℕ = (lists.clauses (c ∷ []), o) in r) (sym j);
    }

  module _ (e : ReadsHead d (n + 1) ts patterns place true us p) (vs : List Token) (g : m.Tree) (q : ℕ) (y : ReadsExpression d p us g vs q) (ws : List Token) (z : Takes s.Arrow vs ws) (xs : List Token) (b : m.Tree) (o : ℕ)
      (i : ReadsExpression d q ws b xs o) where
    pub clause_note_bad : (f : PartFault) → Refuses annotation xs f → Refuses (clause d) ts f
    clause_note_bad f j = refused annotation (clause d) [] (λ k. noted_clause k (clause_of place (lists.patterns e.says) y.says i.says)) ts xs f (bodied true e vs g q y ws z xs b o i) ((λ t x. refl), (λ t x. refl), tt) j

    pub clause_noted_read : (left : List Token) (k : Note) (c made : lists.ClauseParts) → c ≡ record { mark = mark n place; patterns = patterns; guard = g; body = b } → made ≡ noted_clause k c → ReadsAnnotation xs k left
        → ReadsClause d n ts made left o
    clause_noted_read left k c made j l v = record {
      says = noted_clause v.says (clause_of place (lists.patterns e.says) y.says i.says);
      passes = bodied true e vs g q y ws z xs b o i >> through annotation (clause d) [] (λ k. noted_clause k (clause_of place (lists.patterns e.says) y.says i.says)) xs left v.says v.passes ((λ t x. refl), (λ t x. refl), tt);
      agrees = clause_numbers true e vs g q y ws z xs b o i v.says ∙ ap (λ (k : Note). let r : m.Clauses × ℕ = (m.and_clause (marked k (mark n place)) patterns g b m.no_clause, o) in r) v.agrees
          ∙ ap (λ (c : lists.ClauseParts). let r : m.Clauses × ℕ = (lists.clauses (c ∷ []), o) in r) (sym (l ∙ ap (noted_clause k) j));
    }
