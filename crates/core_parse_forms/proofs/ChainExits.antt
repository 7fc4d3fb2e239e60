-- Chains: each way out of a step, of the loop over steps, and of the loop over their annotations.
use Rattle.std.proofs.Common.{◌≡◌, ℕ, ◌+◌, ◌≤◌, ◌<◌, List, [], ◌∷◌, ◌++◌, reverse, map, length, Bool, true, false, refl, sym, ap, ◌∙◌, subst, arith}
use Rattle.std.proofs.lemmas.List.{reverse-append, same_from_push}
use Rattle.std.proofs.lemmas.Bool.{both_ways}
use Rattle.type_kinds.specs.declared.place.Place.{Place}
use Rattle.core_scan.specs.declared.token.Token.{Token}
use Rattle.core_scan.specs.declared.sort.Sort.{Sort}
use Rattle.core_scan.specs.declared.sort.Sort.TheVariants as s
use Rattle.core_scan.specs.Sorts.{sort}
use Rattle.core_parse_grammar.proofs.Lists.{fits_only}
use Rattle.core_ast.specs.declared.syntax.Note.{Note}
use Rattle.core_ast.specs.declared.syntax.Expr.{Expr}
use Rattle.core_ast.specs.declared.syntax.Mark.{Mark}
use Rattle.core_ast.specs.declared.syntax.VarName.{VarName}
use Rattle.core_ast.specs.declared.syntax.StepOf.{StepOf}
use Rattle.core_ast.specs.declared.syntax.StepOf.TheVariants.{Let, Do}
use Rattle.core_ast.specs.Model as m
use Rattle.core_ast.specs.Notes.{marked, note_tree, note_steps, noted_step}
use Rattle.core_ast.specs.Tree.{steps, step_tree, all_steps}
use Rattle.core_parse_forms.specs.declared.chains.Frame.{Frame}
use Rattle.core_parse_grammar.specs.declared.fault.PartFault.{PartFault}
use Rattle.core_parse_grammar.specs.declared.fault.PartFault.TheVariants as fault
use Rattle.core_parse_grammar.specs.Begins.{depth_limit}
use Rattle.core_parse_grammar.specs.Build.{at, is_chain, StepParts, let_, do_, before, and_step}
use Rattle.core_parse_grammar.specs.Grammar.{Part, a, the, Nonterminal, Said, Action, annotation, variables, expression, bare_expression, other_expression}
use Rattle.core_parse_grammar.specs.Labels.{number, number_steps, labelled}
use Rattle.core_parse_grammar.specs.Track.{Goes, itself, Passes, Guarded, only_ends, look}
use Rattle.core_parse_grammar.specs.Faults.{Refuses, Starts, Takes, Misses}
use Rattle.core_parse_grammar.specs.Readings.{mark, chain_sort, starts_chain, opens_chain, ReadsAnnotation, ReadsVariables, ReadsExpression, ReadsOtherExpression}
use Rattle.core_parse_forms.specs.steps.Chains.{Raw, raw_step, pend, pend_one, wrap, fold, outer, filled, step_branch, ReadsStep, RefusesStep, BeginsStep, Agree, empty, grown, ReadsSteps}
use Rattle.core_parse_grammar.proofs.Moves.{◌>>◌}
use Rattle.core_parse_grammar.proofs.Places.{taken, through, refused, lacking, take_class}

-- A step, behind its word, in whatever part it stands.
module _ (d n : ℕ) (place : Place) (us : List Token) (q : Sort) where
  module _ (h : q ≡ s.Do) where
    pub step_do_bad : (f : PartFault) → Refuses (expression (d + 1)) us f → RefusesStep q d us f
    step_do_bad f z = subst (λ k. RefusesStep k d us f) (sym h) (λ o qs b ts g. refused (expression (d + 1)) o (the (expression d) ∷ qs) (λ e. b (do_ e)) ts us f g ((λ t x. refl), (λ t x. refl), tt) z)

    pub step_do : (vs : List Token) (e : m.Tree) (p : ℕ) (y : StepOf m.Tree) → ReadsExpression (d + 1) (n + 1) us e vs p → (k : Mark) → k ≡ mark n place → y ≡ Do k e → ReadsStep q d n place us y vs p
    step_do vs e p y r k i g = subst (λ k. ReadsStep k d n place us y vs p) (sym h) (record {
      says = do_ r.says;
      goes = λ o qs b. through (expression (d + 1)) o (the (expression d) ∷ qs) (λ e. b (do_ e)) us vs r.says r.passes ((λ t x. refl), (λ t x. refl), tt);
      agrees = ap (λ (i : m.Tree × ℕ). let z : m.Steps × ℕ = (m.and_do (mark n place) i.0 m.no_step, i.1) in z) r.agrees
          ∙ ap (λ (i : StepOf m.Tree). let z : m.Steps × ℕ = (steps (i ∷ []), p) in z) (sym (g ∙ ap (λ k. Do k e) i));
    })

  module _ (h : q ≡ s.Let) where
    pub step_vars_bad : (f : PartFault) → Refuses variables us f → RefusesStep q d us f
    step_vars_bad f z = subst (λ k. RefusesStep k d us f) (sym h) (λ o qs b ts g.
        refused variables o (a s.Equals ∷ the (expression (d + 1)) ∷ a s.In ∷ the (expression d) ∷ qs) (λ xs _ e _. b (let_ xs e)) ts us f g ((λ t x. refl), (λ t x. refl), tt) z)

    module _ (us0 : List Token) (o0 : List VarName) (y0 : ReadsVariables us o0 us0) where
      let_1 : (o : Nonterminal) (qs : List Part) (b : StepParts → m.Tree → Action qs (Said o))
          → Goes o (step_branch s.Let d o qs b ∷ []) (record { parts = a s.Equals ∷ the (expression (d + 1)) ∷ a s.In ∷ the (expression d) ∷ qs; build = λ _ e _. b (let_ y0.says e) } ∷ []) us us0
      let_1 o qs b = through variables o (a s.Equals ∷ the (expression (d + 1)) ∷ a s.In ∷ the (expression d) ∷ qs) (λ xs _ e _. b (let_ xs e)) us us0 y0.says y0.passes ((λ t x. refl), (λ t x. refl), tt)

      pub step_equals_bad : (f : PartFault) → Misses s.Equals us0 f → RefusesStep q d us f
      step_equals_bad f z = subst (λ k. RefusesStep k d us f) (sym h) (λ o qs b ts g. lacking o s.Equals (the (expression (d + 1)) ∷ a s.In ∷ the (expression d) ∷ qs) (λ _ e _. b (let_ y0.says e)) ts us0 f (g >> let_1 o qs b) z)

      module _ (us1 : List Token) (y1 : Takes s.Equals us0 us1) where
        let_2 : (o : Nonterminal) (qs : List Part) (b : StepParts → m.Tree → Action qs (Said o))
            → Goes o (step_branch s.Let d o qs b ∷ []) (record { parts = the (expression (d + 1)) ∷ a s.In ∷ the (expression d) ∷ qs; build = λ e _. b (let_ y0.says e) } ∷ []) us us1
        let_2 o qs b = let_1 o qs b >> take_class o s.Equals (the (expression (d + 1)) ∷ a s.In ∷ the (expression d) ∷ qs) (λ _ e _. b (let_ y0.says e)) us0 us1 y1

        pub step_value_bad : (f : PartFault) → Refuses (expression (d + 1)) us1 f → RefusesStep q d us f
        step_value_bad f z = subst (λ k. RefusesStep k d us f) (sym h) (λ o qs b ts g.
            refused (expression (d + 1)) o (a s.In ∷ the (expression d) ∷ qs) (λ e _. b (let_ y0.says e)) ts us1 f (g >> let_2 o qs b) ((λ t x. refl), (λ t x. refl), tt) z)

        module _ (us2 : List Token) (o2 : m.Tree) (p : ℕ) (y2 : ReadsExpression (d + 1) (n + 1) us1 o2 us2 p) where
          let_3 : (o : Nonterminal) (qs : List Part) (b : StepParts → m.Tree → Action qs (Said o))
              → Goes o (step_branch s.Let d o qs b ∷ []) (record { parts = a s.In ∷ the (expression d) ∷ qs; build = λ _. b (let_ y0.says y2.says) } ∷ []) us us2
          let_3 o qs b = let_2 o qs b >> through (expression (d + 1)) o (a s.In ∷ the (expression d) ∷ qs) (λ e _. b (let_ y0.says e)) us1 us2 y2.says y2.passes ((λ t x. refl), (λ t x. refl), tt)

          pub step_in_bad : (f : PartFault) → Misses s.In us2 f → RefusesStep q d us f
          step_in_bad f z = subst (λ k. RefusesStep k d us f) (sym h) (λ o qs b ts g. lacking o s.In (the (expression d) ∷ qs) (λ _. b (let_ y0.says y2.says)) ts us2 f (g >> let_3 o qs b) z)

          pub step_let : (us3 : List Token) → Takes s.In us2 us3 → (y : StepOf m.Tree) (k : Mark) → k ≡ mark n place → y ≡ Let k o0 o2 → ReadsStep q d n place us y us3 p
          step_let us3 y3 y k i g = subst (λ k. ReadsStep k d n place us y us3 p) (sym h) (record {
            says = let_ y0.says y2.says;
            goes = λ o qs b. let_3 o qs b >> take_class o s.In (the (expression d) ∷ qs) (λ _. b (let_ y0.says y2.says)) us2 us3 y3;
            agrees = ap (λ (i : m.Tree × ℕ). let z : m.Steps × ℕ = (m.and_let (mark n place) y0.says i.0 m.no_step, i.1) in z) y2.agrees
                ∙ ap (λ xs. let z : m.Steps × ℕ = (m.and_let (mark n place) xs o2 m.no_step, p) in z) y0.agrees
                ∙ ap (λ (i : StepOf m.Tree). let z : m.Steps × ℕ = (steps (i ∷ []), p) in z) (sym (g ∙ ap (λ k. Let k o0 o2) i));
          })

pub is_let : (q : Sort) → chain_sort q ≡ true → (q ≡ s.Do → ⊥) → q ≡ s.Let
is_let s.Let e h = refl
is_let s.Do e h = absurd (h refl)
is_let _ e h = absurd cc

-- The first step.
module _ (d n : ℕ) (w : d ≤ depth_limit) (ts us : List Token) (t : Token) (q : Sort) (place : Place) (b : Starts ts t q place us) (h : chain_sort q ≡ true) where
  chain_0 : Goes (other_expression d) (itself (other_expression d)) (step_branch q d (other_expression d) [] (λ x r. before t.place x r) ∷ []) ts us
  chain_0 = subst (λ k. Goes (other_expression d) (itself (other_expression d)) (step_branch k d (other_expression d) [] (λ x r. before t.place x r) ∷ []) ts us) (sym b.sort_is) (go (sort t) refl (sym (ap chain_sort b.sort_is) ∙ h))
    where
      go : (k : Sort) → sort t ≡ k → chain_sort k ≡ true → Goes (other_expression d) (itself (other_expression d)) (step_branch k d (other_expression d) [] (λ x r. before t.place x r) ∷ []) ts us
      go s.Let e i = taken (other_expression d) (itself (other_expression d)) ts us t s.Let b.are e refl ((w, tt), tt)
      go s.Do e i = taken (other_expression d) (itself (other_expression d)) ts us t s.Do b.are e refl ((w, tt), tt)
      go _ e i = absurd cc

  pub chain_first_bad : (f : PartFault) → RefusesStep q d us f → Refuses (other_expression d) ts f
  chain_first_bad f z = z (other_expression d) [] (λ x r. before t.place x r) ts chain_0

  pub chain_first : (vs : List Token) (x : Frame) (p : ℕ) (fs gs : List Frame) → fs ≡ [] → gs ≡ fs ++ x ∷ [] → x.noted ≡ false → ReadsStep q d (n + 1) place us (step_tree x.step) vs p → ReadsSteps d n place ts gs vs p
  chain_first vs x p fs gs i g j r = record {
    raw = raw_step false place r.says ∷ [];
    goes = subst (λ z. Goes (other_expression d) (itself (other_expression d)) (record { parts = the (expression d) ∷ []; build = λ r_. before z r.says r_ } ∷ []) ts vs) (sym b.place_is)
        (chain_0 >> r.goes (other_expression d) [] (λ x r. before t.place x r));
    agrees = grown x empty r.agrees j (g ∙ ap (λ z. z ++ x ∷ []) i);
    outer_is = λ any. refl;
    some = refl;
  }

-- what follows a chain's last expression is no slash
ends_one : (d : ℕ) (b : Bool) (ps : List Part) → ((r : Action ps m.Tree) (t : Token) → only_ends (other_expression d) true (look 12 (other_expression d) t s.Slash ps r) ≡ true)
    → (r : Action (pend_one b ps) m.Tree) (t : Token) → only_ends (other_expression d) true (look 12 (other_expression d) t s.Slash (pend_one b ps) r) ≡ true
ends_one d true ps h r t = refl
ends_one d false ps h r t = h r t

ends : (d : ℕ) (fs : List Raw) (r : Action (pend fs) m.Tree) (t : Token) → only_ends (other_expression d) true (look 12 (other_expression d) t s.Slash (pend fs) r) ≡ true
ends d [] r t = refl
ends d (f ∷ fs) r t = ends_one d f.noted (pend fs) (ends d fs) r t

guarded : (d : ℕ) (fs : List Raw) → Guarded (expression d) (other_expression d) (record { parts = pend fs; build = fold fs } ∷ [])
guarded d fs = ((λ t x. ends d fs (fold fs x) t), (λ t x. refl), tt)

-- A further step.
module _ (d n : ℕ) (place : Place) (w : d ≤ depth_limit) (ts us : List Token) (fs : List Frame) (p : ℕ) (c : ReadsSteps d n place ts fs us p) where
  pub chain_last_bad : (f : PartFault) → Refuses (expression d) us f → Refuses (other_expression d) ts f
  chain_last_bad f z = refused _ _ (pend c.raw) (fold c.raw) ts us f c.goes (guarded d c.raw) z

  next_1 : (vs : List Token) (t : Token) (q : Sort) (here : Place) (noted : Bool) → BeginsStep us t q here vs noted
      → Goes (other_expression d) (itself (other_expression d)) (step_branch q d (other_expression d) (pend_one noted (pend c.raw)) (λ x r. wrap noted t.place x (pend c.raw) (fold c.raw) r) ∷ []) ts vs
  next_1 vs t q here false (b, h) = c.goes >> subst (λ k. Goes (other_expression d) (record { parts = the (expression d) ∷ pend c.raw; build = fold c.raw } ∷ [])
      (step_branch k d (other_expression d) (pend c.raw) (λ x r. fold c.raw (before t.place x r)) ∷ []) us vs) (sym b.sort_is) (go (sort t) refl (sym (ap chain_sort b.sort_is) ∙ h))
    where
      go : (k : Sort) → sort t ≡ k → chain_sort k ≡ true → Goes (other_expression d) (record { parts = the (expression d) ∷ pend c.raw; build = fold c.raw } ∷ [])
          (step_branch k d (other_expression d) (pend c.raw) (λ x r. fold c.raw (before t.place x r)) ∷ []) us vs
      go s.Let e i = taken (other_expression d) _ us vs t s.Let b.are e refl ((w, tt), tt)
      go s.Do e i = taken (other_expression d) _ us vs t s.Do b.are e refl ((w, tt), tt)
      go _ e i = absurd cc
  next_1 vs t q here true (ws, y, b, h) = c.goes >> taken (other_expression d) _ us ws y.first s.OpenRound y.are (fits_only s.OpenRound (sort y.first) (λ z. absurd cc) y.fits_it) refl (tt, tt)
      >> subst (λ k. Goes (other_expression d) (record { parts = the (bare_expression d) ∷ the annotation ∷ pend c.raw; build = λ x k. fold c.raw (note_tree k x) } ∷ [])
      (step_branch k d (other_expression d) (the annotation ∷ pend c.raw) (λ x r k. fold c.raw (note_tree k (before t.place x r))) ∷ []) ws vs) (sym b.sort_is) (go (sort t) refl (sym (ap chain_sort b.sort_is) ∙ h))
    where
      go : (k : Sort) → sort t ≡ k → chain_sort k ≡ true → Goes (other_expression d) (record { parts = the (bare_expression d) ∷ the annotation ∷ pend c.raw; build = λ x k. fold c.raw (note_tree k x) } ∷ [])
          (step_branch k d (other_expression d) (the annotation ∷ pend c.raw) (λ x r k. fold c.raw (note_tree k (before t.place x r))) ∷ []) ws vs
      go s.Let e i = taken (other_expression d) _ ws vs t s.Let b.are e refl ((w, tt), tt)
      go s.Do e i = taken (other_expression d) _ ws vs t s.Do b.are e refl ((w, tt), tt)
      go _ e i = absurd cc

  step_place : (vs : List Token) (t : Token) (q : Sort) (here : Place) (noted : Bool) → BeginsStep us t q here vs noted → here ≡ t.place
  step_place vs t q here false (b, h) = b.place_is
  step_place vs t q here true (ws, y, b, h) = b.place_is

  module _ (vs : List Token) (t : Token) (q : Sort) (here : Place) (noted : Bool) (b : BeginsStep us t q here vs noted) where
    pub chain_step_bad : (f : PartFault) → RefusesStep q d vs f → Refuses (other_expression d) ts f
    chain_step_bad f z = z (other_expression d) (pend_one noted (pend c.raw)) (λ x r. wrap noted t.place x (pend c.raw) (fold c.raw) r) ts (next_1 vs t q here noted b)

    pub chain_step : (ws : List Token) (x : Frame) (o : ℕ) (gs : List Frame) → gs ≡ fs ++ x ∷ [] → x.noted ≡ noted → ReadsStep q d p here vs (step_tree x.step) ws o → ReadsSteps d n place ts gs ws o
    chain_step ws x o gs g i r = record {
      raw = raw_step noted here r.says ∷ c.raw;
      goes = subst (λ z. Goes (other_expression d) (itself (other_expression d)) (record { parts = the (expression d) ∷ pend_one noted (pend c.raw); build = λ r_. wrap noted z r.says (pend c.raw) (fold c.raw) r_ } ∷ []) ts ws)
          (sym (step_place vs t q here noted b))
          (next_1 vs t q here noted b >> r.goes (other_expression d) (pend_one noted (pend c.raw)) (λ x r. wrap noted t.place x (pend c.raw) (fold c.raw) r));
      agrees = grown x c.agrees r.agrees i g;
      outer_is = λ any. c.outer_is here;
      some = refl;
    }

-- a step's word is one
pub begins_sort : (ts us : List Token) (t : Token) (q : Sort) (place : Place) (noted : Bool) → BeginsStep ts t q place us noted → chain_sort q ≡ true
begins_sort ts us t q place false (b, h) = h
begins_sort ts us t q place true (vs, y, b, h) = h

-- which word begins a step
pub step_found : (ts us : List Token) (t : Token) (q : Sort) (place : Place) (y : Bool) → Starts ts t q place us → y ≡ chain_sort q → y ≡ true → BeginsStep ts t q place us false
step_found ts us t q place y b e h = (b, sym e ∙ h)

-- the steps that are closed, before the last expression
abbrev built : Place → m.Steps → m.Tree → m.Tree
built place m.no_step last = last
built place ss last = m.chain (at place) ss last

before_built : (here place : Place) (x : StepParts) (ss : m.Steps) (last : m.Tree) → is_chain last ≡ false → before here x (built place ss last) ≡ built here (and_step (at here) x ss) last
before_built here place x m.no_step (m.chain k ss t) e = absurd cc
before_built here place (do_ x) m.no_step (m.variable k y) e = refl
before_built here place (let_ xs x) m.no_step (m.variable k y) e = refl
before_built here place (do_ x) m.no_step _ e = refl
before_built here place (let_ xs x) m.no_step _ e = refl
before_built here place (do_ x) (m.and_let k ys t ss) last e = refl
before_built here place (let_ xs x) (m.and_let k ys t ss) last e = refl
before_built here place (do_ x) (m.and_do k t ss) last e = refl
before_built here place (let_ xs x) (m.and_do k t ss) last e = refl

-- The last expression is read, and these frames aren't closed yet.
pub record Closing (d n : ℕ) (place : Place) (ts left : List Token) (fs : List Frame) (done : List (StepOf Expr)) (e : m.Tree) (r : ℕ) : Type 0 where
  pub raw : List Raw
  pub closed : m.Steps
  pub last : m.Tree
  pub here : Place
  pub p : ℕ
  pub q : ℕ
  pub goes : Goes (other_expression d) (itself (other_expression d)) (record { parts = pend raw; build = fold raw (built here closed last) } ∷ []) ts left
  pub single : is_chain last ≡ false
  pub agrees : Agree (n + 1) raw fs p
  pub steps_are : number_steps p closed ≡ (all_steps (reverse done), q)
  pub last_is : number q last ≡ (e, r)
  pub outer_is : outer raw here ≡ place
  pub some : filled raw closed ≡ true

pub chain_over : (d n : ℕ) (place : Place) (ts us vs : List Token) (fs : List Frame) (p r : ℕ) (e : m.Tree) → ReadsSteps d n place ts fs us p → opens_chain us ≡ false → ReadsExpression d p us e vs r
    → (done : List (StepOf Expr)) → done ≡ [] → Closing d n place ts vs fs done e r
chain_over d n place ts us vs fs p r e c h x done g = record {
  raw = c.raw;
  closed = m.no_step;
  last = x.says;
  here = place;
  p = p;
  q = p;
  goes = c.goes >> through _ _ (pend c.raw) (fold c.raw) us vs x.says x.passes (guarded d c.raw);
  single = x.single h;
  agrees = c.agrees;
  steps_are = ap (λ (ys : List (StepOf Expr)). let z : m.Steps × ℕ = (all_steps (reverse ys), p) in z) (sym g);
  last_is = x.agrees;
  outer_is = c.outer_is place;
  some = c.some;
}

pub frames_fewer : (cs fs : List Frame) (x : Frame) → fs ≡ cs ++ x ∷ [] → length cs < length fs
frames_fewer cs fs x e = subst (λ (gs : List Frame). length cs < length gs) (sym e) (go cs)
  where
    go : (gs : List Frame) → length gs < length (gs ++ x ∷ [])
    go [] = omega arith
    go (g ∷ gs) = omega (arith, go gs)

-- The last frame.
record Popped (n : ℕ) (fs : List Raw) (cs : List Frame) (x : Frame) (p : ℕ) : Type 0 where
  rest : List Raw
  place : Place
  value : StepParts
  before_ : ℕ
  fs_are : fs ≡ raw_step x.noted place value ∷ rest
  agrees : Agree n rest cs before_
  value_is : number_steps before_ (and_step (at place) value m.no_step) ≡ (steps (step_tree x.step ∷ []), p)

no_end : {A : Type 0} (zs : List A) (z : A) → [] ≡ zs ++ z ∷ [] → ⊥
no_end [] z e = absurd cc
no_end (z0 ∷ zs) z e = absurd cc

popped : (n : ℕ) (fs : List Raw) (cs ds : List Frame) (x : Frame) (p : ℕ) → Agree n fs ds p → ds ≡ cs ++ x ∷ [] → Popped n fs cs x p
popped n [] cs ds x p empty e = absurd (no_end cs x e)
popped n _ cs ds x p (grown {fs = fs} {cs = as_} {p = o} {b = b} {place = place} {x = v} made ag h i g) e =
    let z = same_from_push as_ cs made x (sym g ∙ e) in
    record {
      rest = fs;
      place = place;
      value = v;
      before_ = o;
      fs_are = ap (λ k. raw_step k place v ∷ fs) (sym i ∙ ap (λ (f : Frame). f.noted) z.1);
      agrees = subst (λ ws. Agree n fs ws o) z.0 ag;
      value_is = h ∙ ap (λ (f : Frame). let r : m.Steps × ℕ = (steps (step_tree f.step ∷ []), p) in r) z.1;
    }

gone : (n : ℕ) (fs : List Raw) (ds : List Frame) (p : ℕ) → Agree n fs ds p → ds ≡ [] → (fs ≡ []) × (p ≡ n)
gone n [] ds p empty e = (refl, refl)
gone n _ ds p (grown {cs = as_} made ag h i g) e = absurd (no_end as_ _ (sym e ∙ g))

-- the first step, with others behind it
abbrev on_top : m.Steps → m.Steps → m.Steps
on_top (m.and_let k xs t ss) zs = m.and_let k xs t zs
on_top (m.and_do k t ss) zs = m.and_do k t zs
on_top m.no_step zs = zs

one_step : (p q r : ℕ) (k : Mark) (v : StepParts) (y : StepOf m.Tree) (ss : m.Steps) (ys : List (StepOf m.Tree)) → number_steps p (and_step k v m.no_step) ≡ (steps (y ∷ []), q) → number_steps q ss ≡ (steps ys, r)
    → number_steps p (and_step k v ss) ≡ (steps (y ∷ ys), r)
one_step p q r k v y ss ys e h = go v ∙ ap (λ (i : m.Steps × ℕ). let z : m.Steps × ℕ = (on_top i.0 (number_steps i.1 ss).0, (number_steps i.1 ss).1) in z) e
    ∙ ap (λ (i : m.Steps × ℕ). let z : m.Steps × ℕ = (on_top (steps (y ∷ [])) i.0, i.1) in z) h ∙ ap (λ i. let z : m.Steps × ℕ = (i, r) in z) (top y)
  where
    go : (v : StepParts) → number_steps p (and_step k v ss) ≡ (let i = number_steps p (and_step k v m.no_step) in (on_top i.0 (number_steps i.1 ss).0, (number_steps i.1 ss).1))
    go (let_ xs t) = refl
    go (do_ t) = refl

    top : (y : StepOf m.Tree) → on_top (steps (y ∷ [])) (steps ys) ≡ steps (y ∷ ys)
    top (Let k xs t) = refl
    top (Do k t) = refl

-- a step with a note
noted_one : (p q : ℕ) (n : Note) (k : Mark) (v : StepParts) (y : StepOf m.Tree) → number_steps p (and_step k v m.no_step) ≡ (steps (y ∷ []), q)
    → number_steps p (and_step (marked n k) v m.no_step) ≡ (steps (noted_step n y ∷ []), q)
noted_one p q n k v y e = go v ∙ ap (λ (i : m.Steps × ℕ). let z : m.Steps × ℕ = (note_steps n i.0, i.1) in z) e ∙ ap (λ i. let z : m.Steps × ℕ = (i, q) in z) (top y)
  where
    go : (v : StepParts) → number_steps p (and_step (marked n k) v m.no_step) ≡ (let i = number_steps p (and_step k v m.no_step) in (note_steps n i.0, i.1))
    go (let_ xs t) = refl
    go (do_ t) = refl

    top : (y : StepOf m.Tree) → note_steps n (steps (y ∷ [])) ≡ steps (noted_step n y ∷ [])
    top (Let k xs t) = refl
    top (Do k t) = refl

filled_step : (fs : List Raw) (k : Mark) (v : StepParts) (ss : m.Steps) → filled fs (and_step k v ss) ≡ true
filled_step [] k (let_ xs t) ss = refl
filled_step [] k (do_ t) ss = refl
filled_step (f ∷ fs) k (let_ xs t) ss = refl
filled_step (f ∷ fs) k (do_ t) ss = refl

note_before : (n : Note) (here place : Place) (x : StepParts) (ss : m.Steps) (last : m.Tree) → is_chain last ≡ false → note_tree n (before here x (built place ss last)) ≡ built here (and_step (marked n (at here)) x ss) last
note_before n here place x ss last e = ap (note_tree n) (before_built here place x ss last e) ∙ go x
  where
    go : (x : StepParts) → note_tree n (built here (and_step (at here) x ss) last) ≡ built here (and_step (marked n (at here)) x ss) last
    go (let_ xs t) = refl
    go (do_ t) = refl

-- the steps that are done, with one more in front
done_steps : (xs : List (StepOf Expr)) (x : StepOf Expr) → all_steps (reverse (xs ++ x ∷ [])) ≡ steps (step_tree x ∷ map step_tree (reverse xs))
done_steps xs x = ap all_steps (reverse-append xs (x ∷ []))

module _ (d n : ℕ) (place : Place) (ts us : List Token) (fs cs : List Frame) (x : Frame) (done : List (StepOf Expr)) (e : m.Tree) (r : ℕ) (c : Closing d n place ts us fs done e r) (g : fs ≡ cs ++ x ∷ []) where
  z : Popped (n + 1) c.raw cs x c.p
  z = popped (n + 1) c.raw cs fs x c.p c.agrees g

  raw_goes : Goes (other_expression d) (itself (other_expression d)) (record { parts = pend (raw_step x.noted z.place z.value ∷ z.rest); build = fold (raw_step x.noted z.place z.value ∷ z.rest) (built c.here c.closed c.last) } ∷ [])
      ts us
  raw_goes = subst (λ (ws : List Raw). Goes (other_expression d) (itself (other_expression d)) (record { parts = pend ws; build = fold ws (built c.here c.closed c.last) } ∷ []) ts us) z.fs_are c.goes

  outer_too : outer z.rest z.place ≡ place
  outer_too = sym (ap (λ (ws : List Raw). outer ws c.here) z.fs_are) ∙ c.outer_is

  -- a step without annotation brackets
  module _ (h : x.noted ≡ false) where
    bare_goes : Goes (other_expression d) (itself (other_expression d)) (record { parts = pend z.rest; build = fold z.rest (before z.place z.value (built c.here c.closed c.last)) } ∷ []) ts us
    bare_goes = subst (λ b. Goes (other_expression d) (itself (other_expression d))
        (record { parts = pend (raw_step b z.place z.value ∷ z.rest); build = fold (raw_step b z.place z.value ∷ z.rest) (built c.here c.closed c.last) } ∷ []) ts us) h raw_goes

    pub chain_bare : (more : List (StepOf Expr)) → more ≡ done ++ x.step ∷ [] → Closing d n place ts us cs more e r
    chain_bare more i = record {
      raw = z.rest;
      closed = and_step (at z.place) z.value c.closed;
      last = c.last;
      here = z.place;
      p = z.before_;
      q = c.q;
      goes = subst (λ y. Goes (other_expression d) (itself (other_expression d)) (record { parts = pend z.rest; build = fold z.rest y } ∷ []) ts us) (before_built z.place c.here z.value c.closed c.last c.single) bare_goes;
      single = c.single;
      agrees = z.agrees;
      steps_are = one_step z.before_ c.p c.q (at z.place) z.value (step_tree x.step) c.closed (map step_tree (reverse done)) z.value_is c.steps_are
          ∙ ap (λ y. let w : m.Steps × ℕ = (y, c.q) in w) (sym (ap (λ y. all_steps (reverse y)) i ∙ done_steps done x.step));
      last_is = c.last_is;
      outer_is = outer_too;
      some = filled_step z.rest (at z.place) z.value c.closed;
    }

  -- a step in annotation brackets
  module _ (h : x.noted ≡ true) where
    noted_goes : Goes (other_expression d) (itself (other_expression d)) (record { parts = the annotation ∷ pend z.rest; build = λ k. fold z.rest (note_tree k (before z.place z.value (built c.here c.closed c.last))) } ∷ []) ts us
    noted_goes = subst (λ b. Goes (other_expression d) (itself (other_expression d))
        (record { parts = pend (raw_step b z.place z.value ∷ z.rest); build = fold (raw_step b z.place z.value ∷ z.rest) (built c.here c.closed c.last) } ∷ []) ts us) h raw_goes

    pub chain_note_bad : (f : PartFault) → Refuses annotation us f → Refuses (other_expression d) ts f
    chain_note_bad f i = refused _ _ (pend z.rest) (λ k. fold z.rest (note_tree k (before z.place z.value (built c.here c.closed c.last)))) ts us f noted_goes ((λ t x. refl), (λ t x. refl), tt) i

    pub chain_noted : (vs : List Token) (k : Note) (y : StepOf Expr) (more : List (StepOf Expr)) → ReadsAnnotation us k vs → step_tree y ≡ noted_step k (step_tree x.step) → more ≡ done ++ y ∷ []
        → Closing d n place ts vs cs more e r
    chain_noted vs k y more i j l = record {
      raw = z.rest;
      closed = and_step (marked k (at z.place)) z.value c.closed;
      last = c.last;
      here = z.place;
      p = z.before_;
      q = c.q;
      goes = subst (λ y. Goes (other_expression d) (itself (other_expression d)) (record { parts = pend z.rest; build = fold z.rest y } ∷ []) ts vs)
          (ap (λ o. note_tree o (before z.place z.value (built c.here c.closed c.last))) i.agrees ∙ note_before k z.place c.here z.value c.closed c.last c.single)
          (noted_goes >> through _ _ (pend z.rest) (λ k. fold z.rest (note_tree k (before z.place z.value (built c.here c.closed c.last)))) us vs i.says i.passes ((λ t x. refl), (λ t x. refl), tt));
      single = c.single;
      agrees = z.agrees;
      steps_are = one_step z.before_ c.p c.q (marked k (at z.place)) z.value (noted_step k (step_tree x.step)) c.closed (map step_tree (reverse done))
          (noted_one z.before_ c.p k (at z.place) z.value (step_tree x.step) z.value_is) c.steps_are
          ∙ ap (λ y. let w : m.Steps × ℕ = (y, c.q) in w) (sym (ap (λ y. all_steps (reverse y)) l ∙ done_steps done y ∙ ap (λ y. steps (y ∷ map step_tree (reverse done))) j));
      last_is = c.last_is;
      outer_is = outer_too;
      some = filled_step z.rest (marked k (at z.place)) z.value c.closed;
    }

-- all is closed
chain_is : (n q r : ℕ) (k : Mark) (ss zs : m.Steps) (x y : m.Tree) → number_steps (n + 1) ss ≡ (zs, q) → number q x ≡ (y, r) → number n (m.chain k ss x) ≡ (m.chain (labelled n k) zs y, r)
chain_is n q r k ss zs x y e h = ap (λ (i : m.Steps × ℕ). let z : m.Tree × ℕ = (m.chain (labelled n k) i.0 (number i.1 x).0, (number i.1 x).1) in z) e
    ∙ ap (λ (i : m.Tree × ℕ). let z : m.Tree × ℕ = (m.chain (labelled n k) zs i.0, i.1) in z) h

starts_word : (ts us : List Token) (t : Token) → ts ≡ t ∷ us → chain_sort (sort t) ≡ true → starts_chain ts ≡ false → ⊥
starts_word ts us t e h k = both_ways _ (sym (ap starts_chain e) ∙ k) h

built_filled : (place : Place) (ss : m.Steps) (last : m.Tree) → filled [] ss ≡ true → built place ss last ≡ m.chain (at place) ss last
built_filled place m.no_step last e = absurd cc
built_filled place (m.and_let k xs t ss) last e = refl
built_filled place (m.and_do k t ss) last e = refl

module _ (d n : ℕ) (place : Place) (ts us : List Token) (fs : List Frame) (done : List (StepOf Expr)) (e : m.Tree) (r : ℕ) (c : Closing d n place ts us fs done e r) (g : fs ≡ []) where
  end_goes : (ws : List Raw) → c.raw ≡ ws → ws ≡ [] → Passes (other_expression d) ts (built c.here c.closed c.last) us
  end_goes [] h i = subst (λ (ws : List Raw). Goes (other_expression d) (itself (other_expression d)) (record { parts = pend ws; build = fold ws (built c.here c.closed c.last) } ∷ []) ts us) h c.goes
  end_goes (w ∷ ws) h i = absurd cc

  pub chain_done : (vs : List Token) (t : Token) (q : Sort) → Starts ts t q place vs → chain_sort q ≡ true → (x : m.Tree) (ys : List (StepOf Expr)) → ys ≡ reverse done → (o : Mark) → o ≡ mark n place
      → x ≡ m.chain o (all_steps ys) e → ReadsOtherExpression d n ts x us r
  chain_done vs t q b h x ys j o l k =
      let i = gone (n + 1) c.raw fs c.p c.agrees g in
      let full : built c.here c.closed c.last ≡ m.chain (at place) c.closed c.last =
      built_filled c.here c.closed c.last (sym (ap (λ (ws : List Raw). filled ws c.closed) i.0) ∙ c.some) ∙ ap (λ o. m.chain (at o) c.closed c.last) (sym (ap (λ (ws : List Raw). outer ws c.here) i.0) ∙ c.outer_is) in
      record {
        says = m.chain (at place) c.closed c.last;
        passes = subst (λ o. Passes (other_expression d) ts o us) full (end_goes c.raw refl i.0);
        agrees = chain_is n c.q r (at place) c.closed (all_steps (reverse done)) c.last e (sym (ap (λ o. number_steps o c.closed) i.1) ∙ c.steps_are) c.last_is
            ∙ ap (λ o. let w : m.Tree × ℕ = (o, r) in w) (ap (λ o. m.chain (mark n place) (all_steps o) e) (sym j) ∙ sym (k ∙ ap (λ o. m.chain o (all_steps ys) e) l));
        single = λ o. absurd (starts_word ts vs t b.are (sym (ap chain_sort b.sort_is) ∙ h) o);
      }
