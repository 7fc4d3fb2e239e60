-- How the steps of the walk go together.
use Rattle.std.proofs.Common.{◌≡◌, ◌⊎◌, inl, inr, ℕ, List, [], ◌∷◌, ◌++◌, length, map, take, refl, sym, ap, ◌∙◌, subst}
use Rattle.std.proofs.Math.Seq.{take-append_seam}
use Rattle.std.proofs.lemmas.List.{append_assoc, append-nil, map-append}
use Rattle.type_kinds.specs.declared.atom.Atom.{Atom}
use Rattle.core_meaning.specs.Programs.{Program}
use Rattle.fun_flow_places.specs.Naming.{rule_named}
use Rattle.fun_flow_places.specs.declared.places.FlowPlace.{FlowPlace}
use Rattle.fun_flow_places.specs.declared.places.FlowRule.{FlowRule}
use Rattle.fun_flow_rules.specs.declared.walk.RuleWalk.{RuleWalk}
use Rattle.fun_flow_rules.specs.steps.Walking.{Adds, Binding, Binds, Entering, Gives, GivesOne, Going, Makes, Part, PlacesOf, Sees, no_rules, with_rules, with_variables}
use Rattle.fun_flow_sets.specs.Items as s
use Rattle.fun_flow_sets.specs.Rules.{IsAmong}
use Rattle.fun_flow_sets.specs.Scopes.{Scope}
use Rattle.fun_flow_sets.proofs.RulesOf.{among_left, among_right}

-- ---- lists of rules

among_either : (xs ys : List s.Rule) (r : s.Rule) → IsAmong (xs ++ ys) r → IsAmong xs r ⊎ IsAmong ys r
among_either [] ys r h = inr h
among_either (x ∷ xs) ys r (inl e) = inl (inl e)
among_either (x ∷ xs) ys r (inr h) = elim (among_either xs ys r h) [ inl k ↦ inl (inr k) | inr k ↦ inr k ]

pub adds_none : (U : Program) (rs : List FlowRule) → Adds U rs rs []
adds_none U rs r = (λ h. inl h, λ h. elim h [ inl k ↦ k | inr k ↦ absurd k ])

pub adds_one : (U : Program) (old : List FlowRule) (r : FlowRule) → Adds U old (old ++ r ∷ []) (rule_named U r ∷ [])
adds_one U old r q =
    let e : map (rule_named U) (old ++ r ∷ []) ≡ map (rule_named U) old ++ rule_named U r ∷ [] = map-append (rule_named U) old (r ∷ []) in (
      λ h. among_either (map (rule_named U) old) (rule_named U r ∷ []) q (subst (λ l. IsAmong l q) e h),
      λ h. subst (λ l. IsAmong l q) (sym e) (elim h [ inl k ↦ among_left (map (rule_named U) old) (rule_named U r ∷ []) q k | inr k ↦ among_right (map (rule_named U) old) (rule_named U r ∷ []) q k ]),
    )

pub adds_then : (U : Program) (a b c : List FlowRule) (xs ys : List s.Rule) → Adds U a b xs → Adds U b c ys → Adds U a c (xs ++ ys)
adds_then U a b c xs ys f g r = (
  λ h. elim ((g r).0 h) [ inl k ↦ (elim ((f r).0 k) [ inl j ↦ inl j | inr j ↦ inr (among_left xs ys r j) ]) | inr k ↦ inr (among_right xs ys r k) ],
  λ h. elim h [ inl k ↦ (g r).1 (inl ((f r).1 (inl k))) | inr k ↦ (elim (among_either xs ys r k) [ inl j ↦ (g r).1 (inl ((f r).1 (inr j))) | inr j ↦ (g r).1 (inr j) ]) ],
)

pub adds_before : (U : Program) (a b c : List FlowRule) (xs ys : List s.Rule) → Adds U a b xs → Adds U b c ys → Adds U a c (ys ++ xs)
adds_before U a b c xs ys f g r = (
  λ h. elim ((g r).0 h) [ inl k ↦ (elim ((f r).0 k) [ inl j ↦ inl j | inr j ↦ inr (among_right ys xs r j) ]) | inr k ↦ inr (among_left ys xs r k) ],
  λ h. elim h [ inl k ↦ (g r).1 (inl ((f r).1 (inl k))) | inr k ↦ (elim (among_either ys xs r k) [ inl j ↦ (g r).1 (inr j) | inr j ↦ (g r).1 (inl ((f r).1 (inr j))) ]) ],
)

-- ---- what is seen

sees_with : (U : Program) (home : Atom) (sc : Scope) (w : RuleWalk) (rs : List FlowRule) → Sees U home sc w → Sees U home sc (with_rules w rs)
sees_with U home sc w rs h = record { apart = h.apart; table = h.table; at_home = h.at_home; variables = h.variables; functions = h.functions }

pub sees_on : (U : Program) (home : Atom) (sc : Scope) (old new : RuleWalk) → new ≡ with_rules old new.rules → Sees U home sc old → Sees U home sc new
sees_on U home sc old new e h = subst (Sees U home sc) (sym e) (sees_with U home sc old new.rules h)

pub sees_back : (U : Program) (home : Atom) (sc : Scope) (old new : RuleWalk) → new ≡ with_rules old new.rules → Sees U home sc new → Sees U home sc old
sees_back U home sc old new e h = sees_with U home sc (with_rules old new.rules) old.rules (subst (Sees U home sc) e h)

-- ---- steps that make rules

pub makes_none : (w : RuleWalk) → Makes w w no_rules
makes_none w = record { rest = refl; adds = λ U home sc h. adds_none U w.rules }

pub makes_one : (old new : RuleWalk) (r : FlowRule) (to : Program → Atom → Scope → s.Rule) → new ≡ with_rules old (old.rules ++ r ∷ [])
    → ((U : Program) (home : Atom) (sc : Scope) → Sees U home sc old → rule_named U r ≡ to U home sc)
    → Makes old new (λ U home sc. to U home sc ∷ [])
makes_one old new r to e f =
    let rules_are : new.rules ≡ old.rules ++ r ∷ [] = ap (λ w. w.rules) e in
    record {
      rest = e ∙ ap (with_rules old) (sym rules_are);
      adds = λ U home sc h. subst (λ l. Adds U old.rules l (to U home sc ∷ [])) (sym rules_are) (subst (λ q. Adds U old.rules (old.rules ++ r ∷ []) (q ∷ [])) (f U home sc h) (adds_one U old.rules r));
    }

pub makes_as : (old new : RuleWalk) (f g : Part) → Makes old new f → ((U : Program) (home : Atom) (sc : Scope) → Sees U home sc old → f U home sc ≡ g U home sc) → Makes old new g
makes_as old new f g h same = record { rest = h.rest; adds = λ U home sc k. subst (Adds U old.rules new.rules) (same U home sc k) (h.adds U home sc k) }

rest_then : (a b c : RuleWalk) → b ≡ with_rules a b.rules → c ≡ with_rules b c.rules → c ≡ with_rules a c.rules
rest_then a b c f g = g ∙ ap (λ w. with_rules w c.rules) f

pub makes_then : (a b c : RuleWalk) (f g : Part) → Makes a b f → Makes b c g → Makes a c (λ U home sc. f U home sc ++ g U home sc)
makes_then a b c f g x y = record { rest = rest_then a b c x.rest y.rest; adds = λ U home sc h. adds_then U a.rules b.rules c.rules (f U home sc) (g U home sc) (x.adds U home sc h) (y.adds U home sc (sees_on U home sc a b x.rest h)) }

pub makes_before : (a b c : RuleWalk) (f g : Part) → Makes a b f → Makes b c g → Makes a c (λ U home sc. g U home sc ++ f U home sc)
makes_before a b c f g x y = record { rest = rest_then a b c x.rest y.rest; adds = λ U home sc h. adds_before U a.rules b.rules c.rules (f U home sc) (g U home sc) (x.adds U home sc h) (y.adds U home sc (sees_on U home sc a b x.rest h)) }

-- places that were given before are still those
pub gives_on : (old new : RuleWalk) (ps : List FlowPlace) (f : PlacesOf) → new ≡ with_rules old new.rules → Gives old ps f → Gives new ps f
gives_on old new ps f e g U home sc h = g U home sc (sees_back U home sc old new e h)

pub gives_one_on : (old new : RuleWalk) (p : FlowPlace) (f : Program → Atom → Scope → s.Place) → new ≡ with_rules old new.rules → GivesOne old p f → GivesOne new p f
gives_one_on old new p f e g U home sc h = g U home sc (sees_back U home sc old new e h)

-- ---- steps that bind variables

pub binds_none : (w : RuleWalk) → Binds w w no_rules (λ U home sc. sc)
binds_none w = record { rest = refl; inner = []; outer = sym (append-nil w.variables); adds = λ U home sc h. adds_none U w.rules; sees = λ U home sc h. h }

rest_binds : (a b c : RuleWalk) → b ≡ record a { rules = b.rules; variables = b.variables } → c ≡ record b { rules = c.rules; variables = c.variables } → c ≡ record a { rules = c.rules; variables = c.variables }
rest_binds a b c f g = g ∙ ap (λ (w : RuleWalk). record w { rules = c.rules; variables = c.variables }) f

pub binds_then : (a b c : RuleWalk) (f g : Part) (x y : Binding) → Binds a b f x → Binds b c g y → Binds a c (λ U home sc. f U home sc ++ g U home (x U home sc)) (λ U home sc. y U home (x U home sc))
binds_then a b c f g x y h k =
    record {
      rest = rest_binds a b c h.rest k.rest;
      inner = h.inner ++ k.inner;
      outer = k.outer ∙ ap (λ l. l ++ k.inner) h.outer ∙ append_assoc a.variables h.inner k.inner;
      adds = λ U home sc s. adds_then U a.rules b.rules c.rules (f U home sc) (g U home (x U home sc)) (h.adds U home sc s) (k.adds U home (x U home sc) (h.sees U home sc s));
      sees = λ U home sc s. k.sees U home (x U home sc) (h.sees U home sc s);
    }

pub binds_as : (old new : RuleWalk) (f g : Part) (x y : Binding) → Binds old new f x → ((U : Program) (home : Atom) (sc : Scope) → Sees U home sc old → f U home sc ≡ g U home sc)
    → ((U : Program) (home : Atom) (sc : Scope) → Sees U home sc old → x U home sc ≡ y U home sc) → Binds old new g y
binds_as old new f g x y h same also =
    record {
      rest = h.rest;
      inner = h.inner;
      outer = h.outer;
      adds = λ U home sc k. subst (Adds U old.rules new.rules) (same U home sc k) (h.adds U home sc k);
      sees = λ U home sc k. subst (λ z. Sees U home z new) (also U home sc k) (h.sees U home sc k);
    }

-- a step that makes rules binds nothing
pub makes_binds : (old new : RuleWalk) (f : Part) → Makes old new f → Binds old new f (λ U home sc. sc)
makes_binds old new f h =
    let same : new.variables ≡ old.variables = ap (λ w. w.variables) h.rest in
    record {
      rest = h.rest ∙ ap (λ v. record old { rules = new.rules; variables = v }) (sym same);
      inner = [];
      outer = same ∙ sym (append-nil old.variables);
      adds = h.adds;
      sees = λ U home sc s. sees_on U home sc old new h.rest s;
    }

-- the variables end
pub binds_leave : (old new left : RuleWalk) (f : Part) (x : Binding) (n : ℕ) → Binds old new f x → n ≡ length old.variables → left ≡ with_variables new (take n new.variables) → Makes old left f
binds_leave old new left f x n h at e =
    let back : take n new.variables ≡ old.variables = ap (λ k. take k new.variables) at ∙ ap (take (length old.variables)) h.outer ∙ take-append_seam old.variables h.inner in
    let rules_are : left.rules ≡ new.rules = ap (λ w. w.rules) e in
    record {
      rest = e ∙ ap (with_variables new) back ∙ ap (λ w. with_variables w old.variables) h.rest ∙ ap (with_rules old) (sym rules_are);
      adds = λ U home sc s. subst (λ l. Adds U old.rules l (f U home sc)) (sym rules_are) (h.adds U home sc s);
    }

-- ---- loops

pub going_begins : (w : RuleWalk) (all : Part) → Going w w all all
going_begins w all = record { rest = refl; then = λ U home sc s rs h. h }

pub going_on : (old now new : RuleWalk) (left part left' all : Part) → Going old now left all → Makes now new part → ((U : Program) (home : Atom) (sc : Scope) → left U home sc ≡ part U home sc ++ left' U home sc)
    → Going old new left' all
going_on old now new left part left' all h k e =
    record {
      rest = rest_then old now new h.rest k.rest;
      then = λ U home sc s rs g. h.then U home sc s rs (subst (Adds U now.rules rs) (sym (e U home sc)) (adds_then U now.rules new.rules rs (part U home sc) (left' U home sc) (k.adds U home sc (sees_on U home sc old now h.rest s)) g));
    }

pub going_ends : (old now : RuleWalk) (left all : Part) → Going old now left all → ((U : Program) (home : Atom) (sc : Scope) → left U home sc ≡ []) → Makes old now all
going_ends old now left all h e = record { rest = h.rest; adds = λ U home sc s. h.then U home sc s now.rules (subst (Adds U now.rules now.rules) (sym (e U home sc)) (adds_none U now.rules)) }

pub entering_begins : (w : RuleWalk) (all : Part) (whole : Binding) → Entering w w all all whole whole
entering_begins w all whole =
    record { rest = refl; inner = []; outer = sym (append-nil w.variables); going = λ U home sc s. record { scope = sc; sees = s; binds = refl; then = λ rs h. h } }

pub entering_on : (old now new : RuleWalk) (left part left' all : Part) (bind step bind' whole : Binding) → Entering old now left all bind whole → Binds now new part step
    → ((U : Program) (home : Atom) (sc : Scope) → left U home sc ≡ part U home sc ++ left' U home (step U home sc))
    → ((U : Program) (home : Atom) (sc : Scope) → bind U home sc ≡ bind' U home (step U home sc)) → Entering old new left' all bind' whole
entering_on old now new left part left' all bind step bind' whole h k e d =
    record {
      rest = rest_binds old now new h.rest k.rest;
      inner = h.inner ++ k.inner;
      outer = k.outer ∙ ap (λ l. l ++ k.inner) h.outer ∙ append_assoc old.variables h.inner k.inner;
      going = λ U home sc s.
          let g = h.going U home sc s in
          record {
            scope = step U home g.scope;
            sees = k.sees U home g.scope g.sees;
            binds = sym (d U home g.scope) ∙ g.binds;
            then = λ rs a. g.then rs (subst (Adds U now.rules rs) (sym (e U home g.scope)) (adds_then U now.rules new.rules rs (part U home g.scope) (left' U home (step U home g.scope)) (k.adds U home g.scope g.sees) a));
          };
    }

pub entering_ends : (old now : RuleWalk) (left all : Part) (bind whole : Binding) → Entering old now left all bind whole → ((U : Program) (home : Atom) (sc : Scope) → left U home sc ≡ [])
    → ((U : Program) (home : Atom) (sc : Scope) → bind U home sc ≡ sc) → Binds old now all whole
entering_ends old now left all bind whole h e d =
    record {
      rest = h.rest;
      inner = h.inner;
      outer = h.outer;
      adds = λ U home sc s. (let g = h.going U home sc s in g.then now.rules (subst (Adds U now.rules now.rules) (sym (e U home g.scope)) (adds_none U now.rules)));
      sees = λ U home sc s. (let g = h.going U home sc s in subst (λ z. Sees U home z now) (sym (d U home g.scope) ∙ g.binds) g.sees);
    }
