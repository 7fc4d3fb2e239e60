-- Patterns that begin with a bracket, in whatever part they stand, and what comes behind a variable there:
-- each way out.
use Rattle.std.proofs.Common.{◌≡◌, ℕ, suc, ◌+◌, ◌≤◌, ◌<◌, List, [], ◌∷◌, Bool, true, false, IsTrue, ◌↔◌, refl, sym, ap, ◌∙◌, subst}
use Rattle.type_kinds.specs.declared.place.Place.{Place}
use Rattle.core_scan.specs.declared.token.Token.{Token}
use Rattle.core_scan.specs.declared.sort.Sort.{Sort}
use Rattle.core_scan.specs.declared.sort.Sort.TheVariants as s
use Rattle.core_scan.specs.Sorts.{sort}
use Rattle.core_scan.proofs.SortLaws.{fits_no_other}
use Rattle.core_ast.specs.declared.syntax.Note.{Note}
use Rattle.core_ast.specs.declared.syntax.Mark.{Mark}
use Rattle.core_ast.specs.declared.syntax.VarName.{VarName}
use Rattle.core_ast.specs.declared.syntax.Literal.{Literal}
use Rattle.core_ast.specs.Model as m
use Rattle.core_ast.specs.Notes.{marked, noted_pattern}
use Rattle.core_parse_grammar.specs.declared.fault.PartFault.{PartFault}
use Rattle.core_parse_grammar.specs.declared.fault.PartFault.TheVariants.{TooDeep}
use Rattle.core_parse_grammar.specs.Begins.{depth_limit}
use Rattle.core_parse_grammar.specs.Build.{at, text, no_note, variable_name}
use Rattle.core_parse_grammar.specs.Grammar.{a, the, Nonterminal, annotation, pattern, bare_pattern}
use Rattle.core_parse_grammar.specs.Labels.{labelled, number_pattern}
use Rattle.core_parse_grammar.specs.Track.{Branch, Goes, itself, Sinks, next, fine, Shallow, Then, opened, passed, Guarded, deeper_limit}
use Rattle.core_parse_grammar.specs.Faults.{Refuses, Starts, Takes, RanOut}
use Rattle.core_parse_grammar.specs.Readings.{mark, ReadsAnnotation, ReadsBarePattern}
use Rattle.core_parse_forms.specs.steps.Patterns.{in_annotation, alias_in_brackets, in_brackets, ReadsInBrackets, RefusesInBrackets, variable_noted, alias_behind, ReadsNotedVariable, RefusesNotedVariable, ReadsNamed}
use Rattle.core_parse_grammar.specs.Starters.{opens_with}
use Rattle.core_parse_grammar.proofs.Moves.{◌>>◌, stay, pass, sink_at, Is_open, Deep, ended}
use Rattle.core_parse_grammar.proofs.Places.{taken, through, refused, refused_in, ran_out, drop_second}
use Rattle.core_parse_forms.proofs.Branches.{All_want, drop_rest, drop_guarded, taken_sort}
use Rattle.core_parse_forms.proofs.ItemNumbers.{noted_pattern_number}

-- What the code tests and makes, in the words of the exits.
pub sort_differs : (q k : Sort) → IsTrue false ↔ (q ≡ k) → q ≡ k → ⊥
sort_differs q k h e = let z : IsTrue false = h.1 e in absurd cc

pub name_made : (x y : List ℕ) (p q : Place) (n k : Note) → x ≡ y → p ≡ q → n ≡ k → (let r : VarName = record { name = x; place = p; note = n } in r) ≡ record { name = y; place = q; note = k }
name_made x y p q n k f g h = ap (λ w. let r : VarName = record { name = w; place = p; note = n } in r) f ∙ ap (λ w. let r : VarName = record { name = y; place = w; note = n } in r) g
    ∙ ap (λ w. let r : VarName = record { name = y; place = q; note = w } in r) h

pub binds_made : (o k : Mark) (x y : List ℕ) (e : m.Pattern) → e ≡ m.binds o x → o ≡ k → x ≡ y → e ≡ m.binds k y
binds_made o k x y e f g h = f ∙ ap (λ w. m.binds w x) g ∙ ap (λ w. m.binds k w) h

pub equals_made : (o k : Mark) (x : Literal) (e : m.Pattern) → e ≡ m.equals o x → o ≡ k → e ≡ m.equals k x
equals_made o k x e f g = f ∙ ap (λ w. m.equals w x) g

pub tuple_made : (o k : Mark) (x : m.Patterns) (e : m.Pattern) → e ≡ m.tuple_of o x → o ≡ k → e ≡ m.tuple_of k x
tuple_made o k x e f g = f ∙ ap (λ w. m.tuple_of w x) g

-- The branches of several parts that a pattern may stand in.
module _ (d : ℕ) (place : Place) (o : Nonterminal) where
  abbrev Standing : Type 0
  Standing = List (Then (pattern d) o)

  in_brackets_end : (hs : Standing) → ended o (alias_in_brackets d place o hs) ≡ []
  in_brackets_end [] = refl
  in_brackets_end (h ∷ hs) = in_brackets_end hs

  module _ (t : Token) where
    variable_next : (hs : Standing) → next 12 o t s.Variable (alias_in_brackets d place o hs) ≡ alias_behind d place t o hs
    variable_next [] = refl
    variable_next (h ∷ hs) = ap (λ (bs : List (Branch o)). record { parts = the annotation ∷ a s.Equals ∷ the (pattern (d + 1)) ∷ h.parts; build = λ k _ p. h.build (m.alias (at place) (variable_name t.place t k) p) } ∷ bs)
        (variable_next hs)

    variable_fine : (hs : Standing) → fine 12 o t s.Variable (alias_in_brackets d place o hs) ≡ true
    variable_fine [] = refl
    variable_fine (h ∷ hs) = variable_fine hs

    variable_shallow : (l : ℕ) → d ≤ l → (hs : Standing) → Shallow 12 o t s.Variable (alias_in_brackets d place o hs) l
    variable_shallow l w [] = tt
    variable_shallow l w (h ∷ hs) = ((w, tt), variable_shallow l w hs)

    variable_deep : (l : ℕ) → suc l ≤ d → (hs : Standing) → Deep 12 o t s.Variable (alias_in_brackets d place o hs) l
    variable_deep l w [] = tt
    variable_deep l w (h ∷ hs) = ((w, tt), variable_deep l w hs)

    behind_end : (hs : Standing) → ended o (alias_behind d place t o hs) ≡ []
    behind_end [] = refl
    behind_end (h ∷ hs) = behind_end hs

    -- an equals sign behind the variable is none behind its annotation
    equals_next : (u : Token) (hs : Standing) → next 12 o u s.Equals (alias_behind d place t o hs) ≡ []
    equals_next u [] = refl
    equals_next u (h ∷ hs) = equals_next u hs

    equals_fine : (u : Token) (hs : Standing) → fine 12 o u s.Equals (alias_behind d place t o hs) ≡ true
    equals_fine u [] = refl
    equals_fine u (h ∷ hs) = equals_fine u hs

    equals_shallow : (u : Token) (hs : Standing) → Shallow 12 o u s.Equals (alias_behind d place t o hs) depth_limit
    equals_shallow u [] = tt
    equals_shallow u (h ∷ hs) = (tt, equals_shallow u hs)

    -- what comes behind the annotation
    abbrev alias_then : Standing → List (Then annotation o)
    alias_then [] = []
    alias_then (h ∷ hs) = record { parts = a s.Equals ∷ the (pattern (d + 1)) ∷ h.parts; build = λ k _ p. h.build (m.alias (at place) (variable_name t.place t k) p) } ∷ alias_then hs

    alias_opened : (hs : Standing) → alias_behind d place t o hs ≡ opened annotation o (alias_then hs)
    alias_opened [] = refl
    alias_opened (h ∷ hs) = ap (λ (bs : List (Branch o)). record { parts = the annotation ∷ a s.Equals ∷ the (pattern (d + 1)) ∷ h.parts; build = λ k _ p. h.build (m.alias (at place) (variable_name t.place t k) p) } ∷ bs)
        (alias_opened hs)

    alias_guarded : (hs : Standing) → Guarded annotation o (alias_then hs)
    alias_guarded [] = tt
    alias_guarded (h ∷ hs) = ((λ t x. refl), (λ t x. refl), alias_guarded hs)

    module _ (k : Note) where
      -- behind the annotation and the equals sign
      abbrev named_then : Standing → List (Then (pattern (d + 1)) o)
      named_then [] = []
      named_then (h ∷ hs) = record { parts = h.parts; build = λ p. h.build (m.alias (at place) (variable_name t.place t k) p) } ∷ named_then hs

      named_guarded : (hs : Standing) → Guarded (pattern d) o hs → Guarded (pattern (d + 1)) o (named_then hs)
      named_guarded [] g = tt
      named_guarded (h ∷ hs) g = ((λ u x. refl), (λ u x. g.1 u (m.alias (at place) (variable_name t.place t k) x)), named_guarded hs g.2)

      named_passed : (x : m.Pattern) (hs : Standing) → passed (pattern (d + 1)) o x (named_then hs) ≡ passed (pattern d) o (m.alias (at place) (variable_name t.place t k) x) hs
      named_passed x [] = refl
      named_passed x (h ∷ hs) = ap (λ (bs : List (Branch o)). record { parts = h.parts; build = h.build (m.alias (at place) (variable_name t.place t k) x) } ∷ bs) (named_passed x hs)

      then_next : (u : Token) (hs : Standing) → next 12 o u s.Equals (passed annotation o k (alias_then hs)) ≡ opened (pattern (d + 1)) o (named_then hs)
      then_next u [] = refl
      then_next u (h ∷ hs) = ap (λ (bs : List (Branch o)). record { parts = the (pattern (d + 1)) ∷ h.parts; build = λ p. h.build (m.alias (at place) (variable_name t.place t k) p) } ∷ bs) (then_next u hs)

      then_fine : (u : Token) (hs : Standing) → fine 12 o u s.Equals (passed annotation o k (alias_then hs)) ≡ true
      then_fine u [] = refl
      then_fine u (h ∷ hs) = then_fine u hs

      then_shallow : (u : Token) (hs : Standing) → Shallow 12 o u s.Equals (passed annotation o k (alias_then hs)) depth_limit
      then_shallow u [] = tt
      then_shallow u (h ∷ hs) = (tt, then_shallow u hs)

      then_wants : (hs : Standing) → All_want o s.Equals (passed annotation o k (alias_then hs))
      then_wants [] = tt
      then_wants (h ∷ hs) = (refl, then_wants hs)

pub alias_is : (n p : ℕ) (k : Mark) (x : VarName) (says inner : m.Pattern) → number_pattern (n + 1) says ≡ (inner, p) → number_pattern n (m.alias k x says) ≡ (m.alias (labelled n k) x inner, p)
alias_is n p k x says inner e = ap (λ (r : m.Pattern × ℕ). let z : m.Pattern × ℕ = (m.alias (labelled n k) x r.0, r.1) in z) e

pub alias_made : (n p : ℕ) (k mk : Mark) (x y : VarName) (says inner made : m.Pattern) → mk ≡ labelled n k → y ≡ x → made ≡ m.alias mk y inner → number_pattern (n + 1) says ≡ (inner, p)
    → number_pattern n (m.alias k x says) ≡ (made, p)
alias_made n p k mk x y says inner made e f g h = alias_is n p k x says inner h ∙ ap (λ q. let w : m.Pattern × ℕ = (q, p) in w) (sym (g ∙ ap (λ q. m.alias q y inner) e ∙ ap (λ q. m.alias (labelled n k) q inner) f))

pub noted_is : (n p : ℕ) (k l : Note) (says x : m.Pattern) → k ≡ l → number_pattern n says ≡ (x, p) → number_pattern n (noted_pattern k says) ≡ (noted_pattern l x, p)
noted_is n p k l says x e h = noted_pattern_number n k says ∙ ap (λ (r : m.Pattern × ℕ). let z : m.Pattern × ℕ = (noted_pattern k r.0, r.1) in z) h ∙ ap (λ q. let z : m.Pattern × ℕ = (noted_pattern q x, p) in z) e

-- A variable in annotation brackets, behind the variable.
module _ (d n : ℕ) (place : Place) (t : Token) (us : List Token) where
  abbrev variable_then : (o : Nonterminal) → Then (pattern d) o → Then annotation o
  variable_then o h = record { parts = h.parts; build = λ k. h.build (noted_pattern k (m.binds (at t.place) (text t))) }

  noted_opened : (o : Nonterminal) (h : Then (pattern d) o) (hs : List (Then (pattern d) o)) → variable_noted d t o h ∷ alias_behind d place t o hs ≡ opened annotation o (variable_then o h ∷ alias_then d place o t hs)
  noted_opened o h hs = ap (λ (bs : List (Branch o)). variable_noted d t o h ∷ bs) (alias_opened d place o t hs)

  pub noted_variable_bad : (f : PartFault) → Refuses annotation us f → RefusesNotedVariable d place t us f
  noted_variable_bad f z = λ o h i hs g ts r. refused_in annotation o (variable_then o h ∷ alias_then d place o t (i ∷ hs)) ts us f
      (subst (λ bs. Goes o (itself o) bs ts us) (noted_opened o h (i ∷ hs)) r) tt ((λ t x. refl), (λ t x. refl), alias_guarded d place o t (i ∷ hs)) z

  module _ (vs : List Token) (k : Note) (y : ReadsAnnotation us k vs) where
    behind_note : (o : Nonterminal) (h : Then (pattern d) o) (hs : List (Then (pattern d) o))
        → Goes o (variable_noted d t o h ∷ alias_behind d place t o hs) (passed annotation o y.says (variable_then o h ∷ alias_then d place o t hs)) us vs
    behind_note o h hs = subst (λ bs. Goes o bs (passed annotation o y.says (variable_then o h ∷ alias_then d place o t hs)) us vs) (sym (noted_opened o h hs))
        (pass annotation o (variable_then o h ∷ alias_then d place o t hs) us vs y.says ((λ t x. refl), (λ t x. refl), alias_guarded d place o t hs) y.passes)

    -- no equals sign comes
    pub noted_variable_last : opens_with s.Equals vs ≡ false → (made : m.Pattern) → made ≡ m.binds (marked k (mark n t.place)) (text t) → ReadsNotedVariable d n place t us made false vs (n + 1)
    noted_variable_last e made g = record {
      says = noted_pattern y.says (m.binds (at t.place) (text t));
      goes = λ o h hs q. behind_note o h hs >> drop_rest o s.Equals (record { parts = h.parts; build = h.build (noted_pattern y.says (m.binds (at t.place) (text t))) }) (passed annotation o y.says (alias_then d place o t hs)) vs
          (then_wants d place o t y.says hs) e;
      agrees = ap (λ o. let z : m.Pattern × ℕ = (m.binds (marked o (mark n t.place)) (text t), n + 1) in z) y.agrees ∙ ap (λ x. let z : m.Pattern × ℕ = (x, n + 1) in z) (sym g);
    }

    -- the variable names a pattern
    module _ (ws : List Token) (e : Takes s.Equals vs ws) where
      behind_equals : (o : Nonterminal) (h : Then (pattern d) o) (hs : List (Then (pattern d) o)) → Guarded (pattern d) o (h ∷ hs)
          → Goes o (variable_noted d t o h ∷ alias_behind d place t o hs) (opened (pattern (d + 1)) o (named_then d place o t y.says hs)) us ws
      behind_equals o h hs g = behind_note o h hs
          >> drop_guarded s.Equals (pattern d) o h (noted_pattern y.says (m.binds (at t.place) (text t))) (passed annotation o y.says (alias_then d place o t hs)) vs ws e.first e.are is refl g.1
          >> subst (λ bs. Goes o (passed annotation o y.says (alias_then d place o t hs)) bs vs ws) (then_next d place o t y.says e.first hs)
          (taken o (passed annotation o y.says (alias_then d place o t hs)) vs ws e.first s.Equals e.are is (then_fine d place o t y.says e.first hs) (then_shallow d place o t y.says e.first hs))
        where
          is : sort e.first ≡ s.Equals
          is = taken_sort s.Equals vs ws (λ z. absurd cc) e

      pub noted_alias_bad : (f : PartFault) → Refuses (pattern (d + 1)) ws f → RefusesNotedVariable d place t us f
      noted_alias_bad f z = λ o h i hs g ts r. refused_in (pattern (d + 1)) o (named_then d place o t y.says (i ∷ hs)) ts ws f (r >> behind_equals o h (i ∷ hs) g) tt (named_guarded d place o t y.says (i ∷ hs) g.2) z

      pub noted_alias : (left : List Token) (o : Mark) (x : VarName) (made : m.Pattern) (p : ℕ) → o ≡ mark n place → x ≡ record { name = text t; place = t.place; note = k } → ReadsNamed o x d n ws made left p
          → ReadsNotedVariable d n place t us made true left p
      noted_alias left o x made p i j z = record {
        says = m.alias (at place) (variable_name t.place t y.says) z.says;
        goes = λ o h hs g. behind_equals o h hs g >> subst (λ bs. Goes o (opened (pattern (d + 1)) o (named_then d place o t y.says hs)) bs ws left) (named_passed d place o t y.says z.says hs)
            (pass (pattern (d + 1)) o (named_then d place o t y.says hs) ws left z.says (named_guarded d place o t y.says hs g.2) z.passes);
        agrees = alias_is n p (at place) (variable_name t.place t y.says) z.says z.inner z.agrees ∙ ap (λ (q : Note). let w : m.Pattern × ℕ = (m.alias (mark n place) (variable_name t.place t q) z.inner, p) in w) y.agrees
            ∙ ap (λ q. let w : m.Pattern × ℕ = (q, p) in w) (sym (z.made_is ∙ ap (λ q. m.alias q x z.inner) i ∙ ap (λ q. m.alias (mark n place) q z.inner) j));
      }

-- Behind a bracket at this place.
module _ (d n : ℕ) (place : Place) (us : List Token) where
  pub brackets_end : (f : PartFault) → RanOut us f → RefusesInBrackets d place us f
  brackets_end f z = λ o h i hs g ts r. ran_out o (in_brackets d place o h (i ∷ hs)) ts us f r tt (in_brackets_end d place o (i ∷ hs)) z

  module _ (vs : List Token) (u : Token) (q : Sort) (there : Place) (b : Starts us u q there vs) where
    -- no variable: the brackets are those of an annotation
    module _ (h : q ≡ s.Variable → ⊥) where
      only_noted : (o : Nonterminal) (i : Then (pattern d) o) (hs : List (Then (pattern d) o)) → Goes o (in_brackets d place o i hs) (in_annotation d o i ∷ []) us us
      only_noted o i [] = stay o (in_annotation d o i ∷ []) us
      only_noted o i (k ∷ hs) = drop_second o (in_annotation d o i) _ (alias_in_brackets d place o hs) us vs u b.are (fits_no_other s.Variable (sort u) (λ z. absurd cc) (λ z. h (b.sort_is ∙ z))) >> only_noted o i hs

      pub brackets_bad : (f : PartFault) → Refuses (bare_pattern d) us f → RefusesInBrackets d place us f
      brackets_bad f z = λ o i j hs g ts r. refused (bare_pattern d) o (the annotation ∷ i.parts) (λ x k. i.build (noted_pattern k x)) ts us f (r >> only_noted o i (j ∷ hs)) ((λ t x. refl), (λ t x. refl), tt) z

      module _ (ws : List Token) (x : m.Pattern) (p : ℕ) (y : ReadsBarePattern d n us x ws p) where
        inside : (o : Nonterminal) (i : Then (pattern d) o) (hs : List (Then (pattern d) o))
            → Goes o (in_brackets d place o i hs) (record { parts = the annotation ∷ i.parts; build = λ k. i.build (noted_pattern k y.says) } ∷ []) us ws
        inside o i hs = only_noted o i hs >> through (bare_pattern d) o (the annotation ∷ i.parts) (λ x k. i.build (noted_pattern k x)) us ws y.says y.passes ((λ t x. refl), (λ t x. refl), tt)

        pub brackets_note_bad : (f : PartFault) → Refuses annotation ws f → RefusesInBrackets d place us f
        brackets_note_bad f z = λ o i j hs g ts r. refused annotation o i.parts (λ k. i.build (noted_pattern k y.says)) ts ws f (r >> inside o i (j ∷ hs)) ((λ t x. refl), (λ t x. refl), tt) z

        pub brackets_noted : (left : List Token) (k : Note) (made : m.Pattern) → made ≡ noted_pattern k x → ReadsAnnotation ws k left → ReadsInBrackets d n place us made false left p
        brackets_noted left k made g z = record {
          says = noted_pattern z.says y.says;
          goes = λ o i hs g. inside o i hs >> through annotation o i.parts (λ k. i.build (noted_pattern k y.says)) ws left z.says z.passes ((λ t x. refl), (λ t x. refl), tt);
          agrees = noted_is n p z.says k y.says x z.agrees y.agrees ∙ ap (λ w. let r : m.Pattern × ℕ = (w, p) in r) (sym g);
        }

    -- a variable: its annotation's brackets, those of a pattern that it names, or those of an annotation
    module _ (h : q ≡ s.Variable) where
      is_variable : sort u ≡ s.Variable
      is_variable = sym b.sort_is ∙ h

      abbrev alias_then_note : (o : Nonterminal) → Then (pattern d) o → Branch o
      alias_then_note o i = record { parts = a s.Equals ∷ the (pattern (d + 1)) ∷ the annotation ∷ i.parts; build = λ _ x k. i.build (noted_pattern k (m.alias (at u.place) (variable_name u.place u no_note) x)) }

      pub brackets_deep : depth_limit < d → d ≤ deeper_limit → RefusesInBrackets d place us (TooDeep there)
      brackets_deep w x = λ o i j hs g ts r. subst (Sinks o (itself o) ts) (sym b.place_is)
          (sink_at 12 o (itself o) (in_brackets d place o i (j ∷ hs)) ts vs u (subst (λ y. Goes o (itself o) (in_brackets d place o i (j ∷ hs)) ts y) b.are r) tt
          (subst (λ k. Deep 12 o u k (in_brackets d place o i (j ∷ hs)) depth_limit) (sym is_variable) ((w, (w, tt)), variable_deep d place o u depth_limit w (j ∷ hs)))
          (subst (λ k. Shallow 12 o u k (in_brackets d place o i (j ∷ hs)) deeper_limit) (sym is_variable) ((x, (x, tt)), variable_shallow d place o u deeper_limit x (j ∷ hs)))
          (subst (λ k. Is_open o (next 12 o u k (in_brackets d place o i (j ∷ hs)))) (sym is_variable) tt))

      module _ (w : d ≤ depth_limit) where
        variable_in : (o : Nonterminal) (i : Then (pattern d) o) (hs : List (Then (pattern d) o)) → Goes o (in_brackets d place o i hs) (variable_noted d u o i ∷ alias_then_note o i ∷ alias_behind d place u o hs) us vs
        variable_in o i hs = subst (λ bs. Goes o (in_brackets d place o i hs) (variable_noted d u o i ∷ alias_then_note o i ∷ bs) us vs) (variable_next d place o u hs)
            (taken o (in_brackets d place o i hs) us vs u s.Variable b.are is_variable (variable_fine d place o u hs) ((w, (w, tt)), variable_shallow d place o u depth_limit w hs))

        pub brackets_variable_end : (f : PartFault) → RanOut vs f → RefusesInBrackets d place us f
        brackets_variable_end f z = λ o i j hs g ts r. ran_out o _ ts vs f (r >> variable_in o i (j ∷ hs)) tt (behind_end d place o u (j ∷ hs)) z

        module _ (ws : List Token) (t : Token) (k : Sort) (third : Place) (c : Starts vs t k third ws) where
          -- no equals sign behind it
          module _ (e : k ≡ s.Equals → ⊥) where
            variable_alone : (o : Nonterminal) (i : Then (pattern d) o) (hs : List (Then (pattern d) o)) → Goes o (in_brackets d place o i hs) (variable_noted d u o i ∷ alias_behind d place u o hs) us vs
            variable_alone o i hs = variable_in o i hs >> drop_second o (variable_noted d u o i) (alias_then_note o i) (alias_behind d place u o hs) vs ws t c.are
                (fits_no_other s.Equals (sort t) (λ z. absurd cc) (λ z. e (c.sort_is ∙ z)))

            pub brackets_variable_bad : (f : PartFault) → RefusesNotedVariable d place u vs f → RefusesInBrackets d place us f
            brackets_variable_bad f z = λ o i j hs g ts r. z o i j hs g ts (r >> variable_alone o i (j ∷ hs))

            pub brackets_variable : (left : List Token) (made : m.Pattern) (alone : Bool) (p : ℕ) → ReadsNotedVariable d n place u vs made alone left p → ReadsInBrackets d n place us made alone left p
            brackets_variable left made alone p z = record { says = z.says; goes = λ o i hs g. variable_alone o i hs >> z.goes o i hs g; agrees = z.agrees }

          -- a pattern that it names
          module _ (e : k ≡ s.Equals) where
            alias_in : (o : Nonterminal) (i : Then (pattern d) o) (hs : List (Then (pattern d) o)) → Goes o (in_brackets d place o i hs)
                (record { parts = the (pattern (d + 1)) ∷ the annotation ∷ i.parts; build = λ x k. i.build (noted_pattern k (m.alias (at u.place) (variable_name u.place u no_note) x)) } ∷ []) us ws
            alias_in o i hs = variable_in o i hs >> subst (λ bs. Goes o (variable_noted d u o i ∷ alias_then_note o i ∷ alias_behind d place u o hs)
                (record { parts = the (pattern (d + 1)) ∷ the annotation ∷ i.parts; build = λ x k. i.build (noted_pattern k (m.alias (at u.place) (variable_name u.place u no_note) x)) } ∷ bs) vs ws) (equals_next d place o u t hs)
                (taken o (variable_noted d u o i ∷ alias_then_note o i ∷ alias_behind d place u o hs) vs ws t s.Equals c.are (sym c.sort_is ∙ e) (equals_fine d place o u t hs) (tt, (tt, equals_shallow d place o u t hs)))

            pub brackets_alias_bad : (f : PartFault) → Refuses (pattern (d + 1)) ws f → RefusesInBrackets d place us f
            brackets_alias_bad f z = λ o i j hs g ts r. refused (pattern (d + 1)) o (the annotation ∷ i.parts) (λ x k. i.build (noted_pattern k (m.alias (at u.place) (variable_name u.place u no_note) x))) ts ws f
                (r >> alias_in o i (j ∷ hs)) ((λ t x. refl), (λ t x. refl), tt) z

            module _ (xs : List Token) (mk : Mark) (x : VarName) (made : m.Pattern) (p : ℕ) (mk_is : mk ≡ mark n u.place) (x_is : x ≡ record { name = text u; place = u.place; note = no_note })
                (y : ReadsNamed mk x d n ws made xs p) where
              alias_read : (o : Nonterminal) (i : Then (pattern d) o) (hs : List (Then (pattern d) o)) → Goes o (in_brackets d place o i hs)
                  (record { parts = the annotation ∷ i.parts; build = λ k. i.build (noted_pattern k (m.alias (at u.place) (variable_name u.place u no_note) y.says)) } ∷ []) us xs
              alias_read o i hs = alias_in o i hs >> through (pattern (d + 1)) o (the annotation ∷ i.parts) (λ x k. i.build (noted_pattern k (m.alias (at u.place) (variable_name u.place u no_note) x))) ws xs y.says y.passes
                  ((λ t x. refl), (λ t x. refl), tt)

              pub brackets_alias_note_bad : (f : PartFault) → Refuses annotation xs f → RefusesInBrackets d place us f
              brackets_alias_note_bad f z = λ o i j hs g ts r. refused annotation o i.parts (λ k. i.build (noted_pattern k (m.alias (at u.place) (variable_name u.place u no_note) y.says))) ts xs f (r >> alias_read o i (j ∷ hs))
                  ((λ t x. refl), (λ t x. refl), tt) z

              pub brackets_alias_noted : (left : List Token) (l : Note) (noted : m.Pattern) → noted ≡ noted_pattern l made → ReadsAnnotation xs l left → ReadsInBrackets d n place us noted false left p
              brackets_alias_noted left l noted g z = record {
                says = noted_pattern z.says (m.alias (at u.place) (variable_name u.place u no_note) y.says);
                goes = λ o i hs g. alias_read o i hs >> through annotation o i.parts (λ k. i.build (noted_pattern k (m.alias (at u.place) (variable_name u.place u no_note) y.says))) xs left z.says z.passes (
                  (λ t x. refl),
                  (λ t x. refl),
                  tt,
                );
                agrees = noted_is n p z.says l (m.alias (at u.place) (variable_name u.place u no_note) y.says) made z.agrees
                    (alias_made n p (at u.place) mk (variable_name u.place u no_note) x y.says y.inner made mk_is x_is y.made_is y.agrees) ∙ ap (λ w. let r : m.Pattern × ℕ = (w, p) in r) (sym g);
              }
