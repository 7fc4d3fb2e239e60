-- Segments, definitions and their funs, whose parts stand in a row: each way out, in the order of the parts.
use Rattle.std.proofs.Common.{◌≡◌, ℕ, ◌+◌, Option, None, Some, List, [], ◌∷◌, ◌++◌, true, refl, sym, ap, ◌∙◌, subst, map}
use Rattle.std.proofs.lemmas.List.{map-append}
use Rattle.type_kinds.specs.declared.place.Place.{Place}
use Rattle.core_scan.specs.declared.token.Token.{Token}
use Rattle.core_scan.specs.declared.sort.Sort.{Sort}
use Rattle.core_scan.specs.declared.sort.Sort.TheVariants as s
use Rattle.core_scan.specs.Sorts.{sort}
use Rattle.core_scan.proofs.SortLaws.{fits_no_other}
use Rattle.core_ast.specs.declared.syntax.Note.{Note}
use Rattle.core_ast.specs.declared.syntax.Mark.{Mark}
use Rattle.core_ast.specs.declared.syntax.VarName.{VarName}
use Rattle.core_ast.specs.declared.syntax.FunName.{FunName}
use Rattle.core_ast.specs.declared.syntax.Expr.{Expr}
use Rattle.core_ast.specs.declared.syntax.FunDefOf.{FunDefOf}
use Rattle.core_ast.specs.Model as m
use Rattle.core_ast.specs.Tree as lists
use Rattle.core_ast.specs.Notes.{marked}
use Rattle.core_parse_grammar.specs.declared.fault.PartFault.{PartFault}
use Rattle.core_parse_grammar.specs.declared.fault.PartFault.TheVariants.{Syntax}
use Rattle.core_parse_grammar.specs.Build.{Noted, FunctionParts, at, note_option, with_note, note_function, definition_of}
use Rattle.core_parse_grammar.specs.Grammar.{a, the, noted_, many, annotation, function_name, function, definition, variable, segment, expression}
use Rattle.core_parse_grammar.specs.Labels.{labelled, number, number_all, number_defs}
use Rattle.core_parse_grammar.specs.Track.{Goes, itself, Stops}
use Rattle.core_parse_grammar.specs.Faults.{Refuses, Starts, Takes, Misses, RanOut}
use Rattle.core_parse_forms.specs.steps.Clauses.{ends_definitions}
use Rattle.core_parse_forms.specs.steps.Definitions.{ReadsFunction, ReadsNotedFunction, RefusesNotedFunction, fun_branch}
use Rattle.core_parse_grammar.specs.Readings.{mark, ReadsAnnotation, ReadsExport, ReadsVariablesTo, ReadsExpression, ReadsExpressions, ReadsSegment, ReadsDefinition}
use Rattle.core_parse_grammar.proofs.Moves.{◌>>◌, stay, expand}
use Rattle.core_parse_grammar.proofs.Places.{taken, through, refused, lacking, ran_out, take_class, drop_second}
use Rattle.core_parse_forms.proofs.RunExits.{DefinitionsSoFar, definitions_begin, definitions_more}

-- a segment of these parts
abbrev segment_of : m.Tree → List m.Tree → lists.SegmentParts
segment_of x xs = record { value = x; args = lists.trees xs }

-- #< expression > ( expressions )
module _ (d n : ℕ) (ts : List Token) where
  segment_0 : Goes (segment d) (itself (segment d)) (record { parts = a s.OpenSegment ∷ the (expression d) ∷ a s.Greater ∷ a s.OpenRound ∷ the (many s.CloseRound (the (expression d))) ∷ []; build = λ _ x _ _ xs. segment_of x xs }
      ∷ []) ts ts
  segment_0 = expand (segment d) (segment d) [] (λ x. x) [] ts

  pub segment_0_bad : (f : PartFault) → Misses s.OpenSegment ts f → Refuses (segment d) ts f
  segment_0_bad f z = lacking _ s.OpenSegment (the (expression d) ∷ a s.Greater ∷ a s.OpenRound ∷ the (many s.CloseRound (the (expression d))) ∷ []) (λ _ x _ _ xs. segment_of x xs) ts ts f segment_0 z

  module _ (us0 : List Token) (y0 : Takes s.OpenSegment ts us0) where
    segment_1 : Goes (segment d) (itself (segment d)) (record { parts = the (expression d) ∷ a s.Greater ∷ a s.OpenRound ∷ the (many s.CloseRound (the (expression d))) ∷ []; build = λ x _ _ xs. segment_of x xs } ∷ []) ts us0
    segment_1 = segment_0 >> take_class _ s.OpenSegment (the (expression d) ∷ a s.Greater ∷ a s.OpenRound ∷ the (many s.CloseRound (the (expression d))) ∷ []) (λ _ x _ _ xs. segment_of x xs) ts us0 y0

    pub segment_1_bad : (f : PartFault) → Refuses (expression d) us0 f → Refuses (segment d) ts f
    segment_1_bad f z = refused _ _ (a s.Greater ∷ a s.OpenRound ∷ the (many s.CloseRound (the (expression d))) ∷ []) (λ x _ _ xs. segment_of x xs) ts us0 f segment_1 ((λ t x. refl), (λ t x. refl), tt) z

    module _ (us1 : List Token) (o1 : m.Tree) (p1 : ℕ) (y1 : ReadsExpression d n us0 o1 us1 p1) where
      segment_2 : Goes (segment d) (itself (segment d)) (record { parts = a s.Greater ∷ a s.OpenRound ∷ the (many s.CloseRound (the (expression d))) ∷ []; build = λ _ _ xs. segment_of y1.says xs } ∷ []) ts us1
      segment_2 = segment_1 >> through _ _ (a s.Greater ∷ a s.OpenRound ∷ the (many s.CloseRound (the (expression d))) ∷ []) (λ x _ _ xs. segment_of x xs) us0 us1 y1.says y1.passes ((λ t x. refl), (λ t x. refl), tt)

      pub segment_2_bad : (f : PartFault) → Misses s.Greater us1 f → Refuses (segment d) ts f
      segment_2_bad f z = lacking _ s.Greater (a s.OpenRound ∷ the (many s.CloseRound (the (expression d))) ∷ []) (λ _ _ xs. segment_of y1.says xs) ts us1 f segment_2 z

      module _ (us2 : List Token) (y2 : Takes s.Greater us1 us2) where
        segment_3 : Goes (segment d) (itself (segment d)) (record { parts = a s.OpenRound ∷ the (many s.CloseRound (the (expression d))) ∷ []; build = λ _ xs. segment_of y1.says xs } ∷ []) ts us2
        segment_3 = segment_2 >> take_class _ s.Greater (a s.OpenRound ∷ the (many s.CloseRound (the (expression d))) ∷ []) (λ _ _ xs. segment_of y1.says xs) us1 us2 y2

        pub segment_3_bad : (f : PartFault) → Misses s.OpenRound us2 f → Refuses (segment d) ts f
        segment_3_bad f z = lacking _ s.OpenRound (the (many s.CloseRound (the (expression d))) ∷ []) (λ _ xs. segment_of y1.says xs) ts us2 f segment_3 z

        module _ (us3 : List Token) (y3 : Takes s.OpenRound us2 us3) where
          segment_4 : Goes (segment d) (itself (segment d)) (record { parts = the (many s.CloseRound (the (expression d))) ∷ []; build = λ xs. segment_of y1.says xs } ∷ []) ts us3
          segment_4 = segment_3 >> take_class _ s.OpenRound (the (many s.CloseRound (the (expression d))) ∷ []) (λ _ xs. segment_of y1.says xs) us2 us3 y3

          pub segment_4_bad : (f : PartFault) → Refuses (many s.CloseRound (the (expression d))) us3 f → Refuses (segment d) ts f
          segment_4_bad f z = refused _ _ [] (λ xs. segment_of y1.says xs) ts us3 f segment_4 ((λ t x. refl), (λ t x. refl), tt) z

          pub segment_ok : (us4 : List Token) (o4 : m.Trees) (p4 : ℕ) → ReadsExpressions s.CloseRound d p1 us3 o4 us4 p4 → (x : lists.SegmentParts) → x ≡ record { value = o1; args = o4 } → ReadsSegment d n ts x us4 p4
          segment_ok us4 o4 p4 y4 x g = record {
            says = segment_of y1.says y4.says;
            passes = segment_4 >> through _ _ [] (λ xs. segment_of y1.says xs) us3 us4 y4.says y4.passes ((λ t x. refl), (λ t x. refl), tt);
            agrees = ap (λ (r : m.Tree × ℕ). let z : m.Segments × ℕ = (m.and_segment r.0 (number_all r.1 (lists.trees y4.says)).0 m.no_segment, (number_all r.1 (lists.trees y4.says)).1) in z) y1.agrees
                ∙ ap (λ (r : m.Trees × ℕ). let z : m.Segments × ℕ = (m.and_segment o1 r.0 m.no_segment, r.1) in z) y4.agrees
                ∙ ap (λ (r : lists.SegmentParts). let z : m.Segments × ℕ = (lists.segments (r ∷ []), p4) in z) (sym g);
          }

-- the fun of these parts
abbrev function_of : Place → List VarName → m.Tree → FunctionParts
function_of place xs e = record { mark = at place; params = xs; body = e }

-- The fun of a definition: fun ( variables ) -> expression
module _ (d n : ℕ) (ts us : List Token) (t : Token) (q : Sort) (place : Place) (b : Starts ts t q place us) where
  pub function_dull : (q ≡ s.Fun → ⊥) → Stops (function d) (itself (function d)) ts place
  function_dull h = subst (Stops (function d) (itself (function d)) ts) (sym b.place_is)
      (lacking _ s.Fun (a s.OpenRound ∷ the (many s.CloseRound (the variable)) ∷ a s.Arrow ∷ the (expression d) ∷ []) (λ t _ xs _ e. function_of t.place xs e) ts ts (Syntax t.place)
      (expand (function d) (function d) [] (λ x. x) [] ts) (record { first = t; left = us; are = b.are; place_is = refl; other = fits_no_other s.Fun (sort t) (λ z. absurd cc) (λ z. h (b.sort_is ∙ z)) }))

  module _ (h : q ≡ s.Fun) where
    function_1 : Goes (function d) (itself (function d)) (record { parts = a s.OpenRound ∷ the (many s.CloseRound (the variable)) ∷ a s.Arrow ∷ the (expression d) ∷ []; build = λ _ xs _ e. function_of t.place xs e } ∷ []) ts us
    function_1 = taken (function d) (itself (function d)) ts us t s.Fun b.are (sym b.sort_is ∙ h) refl (tt, tt)

    pub function_1_bad : (f : PartFault) → Misses s.OpenRound us f → Refuses (function d) ts f
    function_1_bad f z = lacking _ s.OpenRound (the (many s.CloseRound (the variable)) ∷ a s.Arrow ∷ the (expression d) ∷ []) (λ _ xs _ e. function_of t.place xs e) ts us f function_1 z

    module _ (us1 : List Token) (y1 : Takes s.OpenRound us us1) where
      function_2 : Goes (function d) (itself (function d)) (record { parts = the (many s.CloseRound (the variable)) ∷ a s.Arrow ∷ the (expression d) ∷ []; build = λ xs _ e. function_of t.place xs e } ∷ []) ts us1
      function_2 = function_1 >> take_class _ s.OpenRound (the (many s.CloseRound (the variable)) ∷ a s.Arrow ∷ the (expression d) ∷ []) (λ _ xs _ e. function_of t.place xs e) us us1 y1

      pub function_2_bad : (f : PartFault) → Refuses (many s.CloseRound (the variable)) us1 f → Refuses (function d) ts f
      function_2_bad f z = refused _ _ (a s.Arrow ∷ the (expression d) ∷ []) (λ xs _ e. function_of t.place xs e) ts us1 f function_2 ((λ t x. refl), (λ t x. refl), tt) z

      module _ (us2 : List Token) (o2 : List VarName) (y2 : ReadsVariablesTo s.CloseRound us1 o2 us2) where
        function_3 : Goes (function d) (itself (function d)) (record { parts = a s.Arrow ∷ the (expression d) ∷ []; build = λ _ e. function_of t.place y2.says e } ∷ []) ts us2
        function_3 = function_2 >> through _ _ (a s.Arrow ∷ the (expression d) ∷ []) (λ xs _ e. function_of t.place xs e) us1 us2 y2.says y2.passes ((λ t x. refl), (λ t x. refl), tt)

        pub function_3_bad : (f : PartFault) → Misses s.Arrow us2 f → Refuses (function d) ts f
        function_3_bad f z = lacking _ s.Arrow (the (expression d) ∷ []) (λ _ e. function_of t.place y2.says e) ts us2 f function_3 z

        module _ (us3 : List Token) (y3 : Takes s.Arrow us2 us3) where
          function_4 : Goes (function d) (itself (function d)) (record { parts = the (expression d) ∷ []; build = λ e. function_of t.place y2.says e } ∷ []) ts us3
          function_4 = function_3 >> take_class _ s.Arrow (the (expression d) ∷ []) (λ _ e. function_of t.place y2.says e) us2 us3 y3

          pub function_4_bad : (f : PartFault) → Refuses (expression d) us3 f → Refuses (function d) ts f
          function_4_bad f z = refused _ _ [] (λ e. function_of t.place y2.says e) ts us3 f function_4 ((λ t x. refl), (λ t x. refl), tt) z

          pub function_ok : (us4 : List Token) (o4 : m.Tree) (p : ℕ) → ReadsExpression d (n + 1) us3 o4 us4 p → (k : Mark) → k ≡ mark n place → ReadsFunction d n ts k o2 o4 us4 p
          function_ok us4 o4 p y4 k g = record {
            says = function_of t.place y2.says y4.says;
            passes = function_4 >> through _ _ [] (λ e. function_of t.place y2.says e) us3 us4 y4.says y4.passes ((λ t x. refl), (λ t x. refl), tt);
            mark_is = ap (mark n) (sym b.place_is) ∙ sym g;
            params_are = y2.agrees;
            agrees = y4.agrees;
          }

pub function_none : (d : ℕ) (ts : List Token) (f : PartFault) → RanOut ts f → Refuses (function d) ts f
function_none d ts f h = ran_out (function d) (itself (function d)) ts ts f (stay (function d) (itself (function d)) ts) tt refl h

-- The fun of a definition, with or without annotation brackets
pub noted_function_none : (d : ℕ) (ts : List Token) (f : PartFault) → RanOut ts f → RefusesNotedFunction d ts f
noted_function_none d ts f h = λ b vs g. ran_out (definition d) (fun_branch d b ∷ []) vs ts f g tt refl h

module _ (d n : ℕ) (ts us : List Token) (t : Token) (q : Sort) (place : Place) (b : Starts ts t q place us) where
  module _ (h : q ≡ s.OpenRound → ⊥) where
    whole_fun : (f : Noted FunctionParts → FunDefOf m.Tree) → Goes (definition d) (fun_branch d f ∷ []) (record { parts = the (function d) ∷ []; build = λ x. f (record { value = x; note = None }) } ∷ []) ts ts
    whole_fun f = expand (definition d) (noted_ (the (function d))) [] f [] ts >> drop_second _ _ _ _ ts us t b.are (fits_no_other s.OpenRound (sort t) (λ z. absurd cc) (λ z. h (b.sort_is ∙ z)))

    pub function_bare_bad : (e : PartFault) → Refuses (function d) ts e → RefusesNotedFunction d ts e
    function_bare_bad e z = λ f vs g. refused _ _ [] (λ x. f (record { value = x; note = None })) vs ts e (g >> whole_fun f) ((λ t x. refl), (λ t x. refl), tt) z

    pub function_bare : (vs : List Token) (k : Mark) (xs : List VarName) (e : m.Tree) (p : ℕ) → ReadsFunction d n ts k xs e vs p → ReadsNotedFunction d n ts k xs e vs p
    function_bare vs k xs e p z = record {
      says = record { value = z.says; note = None };
      goes = λ f. whole_fun f >> through _ _ [] (λ x. f (record { value = x; note = None })) ts vs z.says z.passes ((λ t x. refl), (λ t x. refl), tt);
      mark_is = z.mark_is;
      params_are = z.params_are;
      agrees = z.agrees;
    }

  module _ (h : q ≡ s.OpenRound) where
    inner_fun : (f : Noted FunctionParts → FunDefOf m.Tree) → Goes (definition d) (fun_branch d f ∷ [])
        (record { parts = the (function d) ∷ the annotation ∷ []; build = λ x k. f (record { value = x; note = Some k }) } ∷ []) ts us
    inner_fun f = taken (definition d) (fun_branch d f ∷ []) ts us t s.OpenRound b.are (sym b.sort_is ∙ h) refl (tt, tt)

    pub function_in_bad : (e : PartFault) → Refuses (function d) us e → RefusesNotedFunction d ts e
    function_in_bad e z = λ f vs g. refused _ _ (the annotation ∷ []) (λ x k. f (record { value = x; note = Some k })) vs us e (g >> inner_fun f) ((λ t x. refl), (λ t x. refl), tt) z

    module _ (vs : List Token) (k : Mark) (xs : List VarName) (e : m.Tree) (p : ℕ) (z : ReadsFunction d n us k xs e vs p) where
      inner_read : (f : Noted FunctionParts → FunDefOf m.Tree) → Goes (definition d) (fun_branch d f ∷ []) (record { parts = the annotation ∷ []; build = λ k. f (record { value = z.says; note = Some k }) } ∷ []) ts vs
      inner_read f = inner_fun f >> through _ _ (the annotation ∷ []) (λ x k. f (record { value = x; note = Some k })) us vs z.says z.passes ((λ t x. refl), (λ t x. refl), tt)

      pub function_note_bad : (o : PartFault) → Refuses annotation vs o → RefusesNotedFunction d ts o
      function_note_bad o y = λ f ws g. refused _ _ [] (λ k. f (record { value = z.says; note = Some k })) ws vs o (g >> inner_read f) ((λ t x. refl), (λ t x. refl), tt) y

      pub function_noted : (ws : List Token) (note : Note) → ReadsAnnotation vs note ws → (r : Mark) → r ≡ marked note k → ReadsNotedFunction d n ts r xs e ws p
      function_noted ws note y r g = record {
        says = record { value = z.says; note = Some y.says };
        goes = λ f. inner_read f >> through _ _ [] (λ k. f (record { value = z.says; note = Some k })) vs ws y.says y.passes ((λ t x. refl), (λ t x. refl), tt);
        mark_is = ap (marked y.says) z.mark_is ∙ ap (λ i. marked i k) y.agrees ∙ sym g;
        params_are = z.params_are;
        agrees = z.agrees;
      }

-- A definition: function_name = fun, each with or without annotation brackets
module _ (d n : ℕ) (ts : List Token) where
  definition_0 : Goes (definition d) (itself (definition d)) (record {
    parts = the (noted_ (the function_name)) ∷ a s.Equals ∷ the (noted_ (the (function d))) ∷ [];
    build = λ x _ f. definition_of x.value.name (with_note note_function f);
  } ∷ []) ts ts
  definition_0 = expand (definition d) (definition d) [] (λ x. x) [] ts

  pub definition_0_bad : (f : PartFault) → Refuses (noted_ (the function_name)) ts f → Refuses (definition d) ts f
  definition_0_bad f z = refused _ _ (a s.Equals ∷ the (noted_ (the (function d))) ∷ []) (λ x _ f. definition_of x.value.name (with_note note_function f)) ts ts f definition_0 ((λ t x. refl), (λ t x. refl), tt) z

  module _ (us0 : List Token) (o0 : FunName) (at0 : Place) (y0 : ReadsExport ts at0 o0 us0) where
    definition_1 : Goes (definition d) (itself (definition d)) (record { parts = a s.Equals ∷ the (noted_ (the (function d))) ∷ []; build = λ _ f. definition_of y0.says.value.name (with_note note_function f) } ∷ []) ts us0
    definition_1 = definition_0 >> through _ _ (a s.Equals ∷ the (noted_ (the (function d))) ∷ []) (λ x _ f. definition_of x.value.name (with_note note_function f)) ts us0 y0.says y0.passes ((λ t x. refl), (λ t x. refl), tt)

    pub definition_1_bad : (f : PartFault) → Misses s.Equals us0 f → Refuses (definition d) ts f
    definition_1_bad f z = lacking _ s.Equals (the (noted_ (the (function d))) ∷ []) (λ _ f. definition_of y0.says.value.name (with_note note_function f)) ts us0 f definition_1 z

    module _ (us1 : List Token) (y1 : Takes s.Equals us0 us1) where
      definition_2 : Goes (definition d) (itself (definition d)) (record { parts = the (noted_ (the (function d))) ∷ []; build = λ f. definition_of y0.says.value.name (with_note note_function f) } ∷ []) ts us1
      definition_2 = definition_1 >> take_class _ s.Equals (the (noted_ (the (function d))) ∷ []) (λ _ f. definition_of y0.says.value.name (with_note note_function f)) us0 us1 y1

      pub definition_2_bad : (f : PartFault) → RefusesNotedFunction d us1 f → Refuses (definition d) ts f
      definition_2_bad f z = z (λ f. definition_of y0.says.value.name (with_note note_function f)) ts definition_2

      pub definition_ok : (us2 : List Token) (k : Mark) (xs : List VarName) (o2 : m.Tree) (p : ℕ) → ReadsNotedFunction d n us1 k xs o2 us2 p → (x : FunDefOf m.Tree)
          → x ≡ record { name = o0; mark = k; fun = record { params = xs; body = o2 } } → ReadsDefinition d n ts x us2 p
      definition_ok us2 k xs o2 p y2 x g = record {
        says = definition_of y0.says.value.name (with_note note_function y2.says);
        passes = definition_2 >> y2.goes (λ f. definition_of y0.says.value.name (with_note note_function f));
        agrees = body_is y2.says.value y2.says.note
            ∙ ap (λ (r : m.Tree × ℕ). let z : m.Defs × ℕ = (m.and_def y0.says.value.name (labelled n (with_note note_function y2.says).mark) y2.says.value.params r.0 m.no_def, r.1) in z) y2.agrees
            ∙ ap (λ i. let z : m.Defs × ℕ = (m.and_def i (labelled n (with_note note_function y2.says).mark) y2.says.value.params o2 m.no_def, p) in z) y0.name_is
            ∙ ap (λ i. let z : m.Defs × ℕ = (m.and_def o0 i y2.says.value.params o2 m.no_def, p) in z) y2.mark_is
            ∙ ap (λ i. let z : m.Defs × ℕ = (m.and_def o0 k i o2 m.no_def, p) in z) y2.params_are
            ∙ ap (λ (r : FunDefOf m.Tree). let z : m.Defs × ℕ = (lists.defs (r ∷ []), p) in z) (sym g);
      }
        where
          body_is : (v : FunctionParts) (o : Option Note) → number_defs n (lists.defs (definition_of y0.says.value.name (note_option note_function v o) ∷ []))
              ≡ (let r = number (n + 1) v.body in let z : m.Defs × ℕ = (m.and_def y0.says.value.name (labelled n (note_option note_function v o).mark) v.params r.0 m.no_def, r.1) in z)
          body_is v None = refl
          body_is v (Some k) = refl

-- Definitions one behind another, in the words of the code
pub definitions_start : (c : Sort) (d n : ℕ) (ts : List Token) (items : List (FunDefOf Expr)) → items ≡ [] → DefinitionsSoFar c d n ts ts (map lists.def_tree items) n
definitions_start c d n ts items e = subst (λ (xs : List (FunDefOf Expr)). DefinitionsSoFar c d n ts ts (map lists.def_tree xs) n) (sym e) (definitions_begin c d n ts)

pub definitions_next : (c : Sort) (d n : ℕ) (k : ends_definitions c ≡ true) (ts us : List Token) (items : List (FunDefOf Expr)) (p : ℕ) → DefinitionsSoFar c d n ts us (map lists.def_tree items) p
    → (vs : List Token) (t : Token) (q : Sort) (place : Place) → Starts us t q place vs → (q ≡ c → ⊥) → (ws : List Token) (x : FunDefOf Expr) (o : ℕ) → ReadsDefinition d p us (lists.def_tree x) ws o
    → (grown : List (FunDefOf Expr)) → grown ≡ items ++ x ∷ [] → DefinitionsSoFar c d n ts ws (map lists.def_tree grown) o
definitions_next c d n k ts us items p e vs t q place b h ws x o z grown g = subst (λ (xs : List (FunDefOf m.Tree)). DefinitionsSoFar c d n ts ws xs o) (sym (ap (map lists.def_tree) g ∙ map-append lists.def_tree items (x ∷ [])))
    (definitions_more c d n k ts us (map lists.def_tree items) p e vs t q place b h ws (lists.def_tree x) o z)
