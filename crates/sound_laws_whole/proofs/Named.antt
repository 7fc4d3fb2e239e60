-- Functions by their names: each name of accepted modules with distinct names is that of one function.
use Rattle.std.proofs.Common.{◌≡◌, ℕ, zero, suc, Bool, true, false, ◌&&◌, ◌||◌, List, [], ◌∷◌, ◌++◌, map, ◌⊎◌, inl, inr, Some, None, Contains, refl, sym, ap, ap₂, ◌∙◌, subst, true≢false}
use Rattle.std.specs.Prelude.{slice_get, if◌then◌else◌}
use Rattle.std.proofs.lemmas.List.{map-append}
use Rattle.std.proofs.lemmas.Bool.{and_parts}
use Rattle.std.proofs.Math.Bool.{or-true}
use Rattle.core_scope.proofs.NameLaws.{not_same, function_is}
use Rattle.type_kinds.proofs.Lists.{contains_none, contains_first, contains_later, contains_cases}
use Rattle.type_kinds.specs.declared.atom.Atom.{Atom}
use Rattle.core_ast.specs.declared.syntax.FunName.{FunName}
use Rattle.core_ast.specs.Model as m
use Rattle.core_scope.specs.Names.{Distinct, defined_names, same_atom, same_function, has_function}
use Rattle.cons_tree.specs.Callees.{same_home, same_name}
use Rattle.cons_tree.proofs.NameLaws.{home_is, home_itself, name_is, name_itself}
use Rattle.call_graph.specs.Calls.{functions_in, module_functions, functions_of}
use Rattle.comp_rounds.specs.Rounds.{Function, is_named, is_member}
use Rattle.core_meaning.specs.Programs.{module_named, exports_in}
use Rattle.sound_laws.specs.Summaries.{definition_named, definition_in}
use Rattle.sound_laws_rounds.specs.Whole.{IsFunctionOf}
use Rattle.analysis_summaries.specs.Functions.{summarized, all_functions}
use Rattle.analysis_summaries.specs.Known.{module_names}
use Rattle.sound_laws_whole.specs.Once.{NamedOnce}

-- ---- lists

-- something holds of each function
abbrev pub Each : (Function → Type 0) → List Function → Type 0
Each P [] = Unit {0}
Each P (g ∷ gs) = P g × Each P gs

pub each_weaker : (P Q : Function → Type 0) → ((g : Function) → P g → Q g) → (gs : List Function) → Each P gs → Each Q gs
each_weaker P Q w [] h = tt
each_weaker P Q w (g ∷ gs) h = (w g h.0, each_weaker P Q w gs h.1)

pub each_append : (P : Function → Type 0) (gs ks : List Function) → Each P gs → Each P ks → Each P (gs ++ ks)
each_append P [] ks a b = b
each_append P (g ∷ gs) ks a b = (a.0, each_append P gs ks a.1 b)

pub each_at : (P : Function → Type 0) (gs : List Function) (i : ℕ) (g : Function) → Each P gs → slice_get gs i ≡ Some g → P g
each_at P [] i g h e = absurd cc
each_at P (k ∷ gs) zero g h e = let same : k ≡ g = cc in subst P same h.0
each_at P (k ∷ gs) (suc i) g h e = each_at P gs i g h.1 e

-- ---- names that are one

pub named_is : (g : Function) (h : Atom) (f : FunName) → is_named g h f ≡ true → (h ≡ g.home) × (f ≡ g.name)
named_is g h f e =
    let both = and_parts (same_home h g.home) (same_name f g.name) e in
    (home_is h g.home both.0, name_is f g.name both.1)

pub named_itself : (g : Function) → is_named g g.home g.name ≡ true
named_itself g = ap (λ b. b && same_name g.name g.name) (home_itself g.home) ∙ name_itself g.name

-- a function of these names, at its position, or none
pub record Positioned (gs : List Function) (h : Atom) (f : FunName) : Type 0 where
  pub position : ℕ
  pub function : Function
  pub there : slice_get gs position ≡ Some function
  pub home_is : h ≡ function.home
  pub name_is : f ≡ function.name

pub search_named : (gs : List Function) (h : Atom) (f : FunName) → Positioned gs h f ⊎ (is_member gs h f ≡ false)
search_named [] h f = inr refl
search_named (g ∷ gs) h f = by (is_named g h f) refl (search_named gs h f)
  where
    by : (b : Bool) → is_named g h f ≡ b → Positioned gs h f ⊎ (is_member gs h f ≡ false) → Positioned (g ∷ gs) h f ⊎ ((is_named g h f || is_member gs h f) ≡ false)
    by true e rest = let names = named_is g h f e in inl (record { position = zero; function = g; there = refl; home_is = names.0; name_is = names.1 })
    by false e (inl r) = inl (record { position = suc r.position; function = r.function; there = r.there; home_is = r.home_is; name_is = r.name_is })
    by false e (inr none) = inr (ap (λ b. b || is_member gs h f) e ∙ none)

pub member_at : (gs : List Function) (i : ℕ) (g : Function) → slice_get gs i ≡ Some g → is_member gs g.home g.name ≡ true
member_at [] i g e = absurd cc
member_at (k ∷ gs) zero g e =
    let same : k ≡ g = cc in
    ap (λ b. b || is_member gs g.home g.name) (subst (λ x. is_named x g.home g.name ≡ true) (sym same) (named_itself g))
member_at (k ∷ gs) (suc i) g e = ap (λ b. is_named k g.home g.name || b) (member_at gs i g e) ∙ or-true (is_named k g.home g.name)

pub member_append : (gs ks : List Function) (h : Atom) (f : FunName) → is_member (gs ++ ks) h f ≡ (is_member gs h f || is_member ks h f)
member_append [] ks h f = refl
member_append (g ∷ gs) ks h f = ap (λ b. is_named g h f || b) (member_append gs ks h f) ∙ or_assoc (is_named g h f) (is_member gs h f) (is_member ks h f)
  where
    or_assoc : (a b c : Bool) → (a || (b || c)) ≡ ((a || b) || c)
    or_assoc true b c = refl
    or_assoc false b c = refl

-- ---- names that stand once

pub not_member : (gs : List Function) (h : Atom) (f : FunName) → (is_member gs h f ≡ true → ⊥) → is_member gs h f ≡ false
not_member gs h f lacks = by (is_member gs h f) refl
  where
    by : (b : Bool) → is_member gs h f ≡ b → is_member gs h f ≡ false
    by true e = absurd (lacks e)
    by false e = e

pub one_position : (gs : List Function) → NamedOnce gs → (i j : ℕ) (g k : Function) → slice_get gs i ≡ Some g → slice_get gs j ≡ Some k → g.home ≡ k.home → g.name ≡ k.name → i ≡ j
one_position [] once i j g k a b home name = absurd cc
one_position (x ∷ gs) once zero zero g k a b home name = refl
one_position (x ∷ gs) once zero (suc j) g k a b home name =
    let same : x ≡ g = cc in
    absurd (true≢false
    (sym (ap₂ (is_member gs) (ap (λ y. y.home) same ∙ home) (ap (λ y. y.name) same ∙ name) ∙ member_at gs j k b) ∙ once.0))
one_position (x ∷ gs) once (suc i) zero g k a b home name =
    let same : x ≡ k = cc in
    absurd (true≢false
    (sym (ap₂ (is_member gs) (ap (λ y. y.home) same ∙ sym home) (ap (λ y. y.name) same ∙ sym name) ∙ member_at gs i g a) ∙ once.0))
one_position (x ∷ gs) once (suc i) (suc j) g k a b home name = ap suc (one_position gs once.1 i j g k a b home name)

once_append : (gs ks : List Function) → NamedOnce gs → NamedOnce ks → Each (λ g. is_member ks g.home g.name ≡ false) gs → NamedOnce (gs ++ ks)
once_append [] ks a b apart = b
once_append (g ∷ gs) ks a b apart = (
  member_append gs ks g.home g.name ∙ ap (λ b. b || is_member ks g.home g.name) a.0 ∙ apart.0,
  once_append gs ks a.1 b apart.1,
)

-- ---- the functions of one module

-- what a function of these definitions is
pub record InModule (home : Atom) (exports : List FunName) (ds : m.Defs) (g : Function) : Type 0 where
  pub at_home : g.home ≡ home
  pub named : Contains (defined_names ds) g.name
  pub defined : definition_named ds g.name ≡ Some (record { parameters = g.parameters; body = g.body })
  pub exported : g.exported ≡ has_function exports g.name

abbrev functions_from : Atom → List FunName → m.Defs → List Function
functions_from home exports ds = map summarized (functions_in home exports ds)

other_function : (f g : FunName) → (f ≡ g → ⊥) → same_function f g ≡ false
other_function f g differs = by (same_function f g) refl
  where
    by : (b : Bool) → same_function f g ≡ b → same_function f g ≡ false
    by true e = absurd (differs (function_is f g e))
    by false e = e

pub all_in_module : (home : Atom) (exports : List FunName) (ds : m.Defs) → Distinct (defined_names ds) → Each (InModule home exports ds) (functions_from home exports ds)
all_in_module home exports m.no_def d = tt
all_in_module home exports (m.and_def f i xs t ds) d = (
  record {
    at_home = refl;
    named = contains_first f (defined_names ds);
    defined = ap (λ b. if b then Some (record { parameters = xs; body = t }) else definition_named ds f) (name_itself f);
    exported = refl;
  },
  each_weaker (InModule home exports ds) (InModule home exports (m.and_def f i xs t ds)) one_more (functions_from home exports ds) (all_in_module home exports ds d.1),
)
  where
    one_more : (g : Function) → InModule home exports ds g → InModule home exports (m.and_def f i xs t ds) g
    one_more g h = record {
      at_home = h.at_home;
      named = contains_later f g.name (defined_names ds) h.named;
      defined =
          ap (λ b. if b then Some (record { parameters = xs; body = t }) else definition_named ds g.name)
          (other_function f g.name (λ e. d.0 (subst (Contains (defined_names ds)) (sym e) h.named)))
          ∙ h.defined;
      exported = h.exported;
    }

-- a name of functions of definitions is defined there
pub member_from : (home : Atom) (exports : List FunName) (ds : m.Defs) (h : Atom) (f : FunName) → is_member (functions_from home exports ds) h f ≡ true
    → (h ≡ home) × Contains (defined_names ds) f
member_from home exports m.no_def h f e = absurd (true≢false (sym e))
member_from home exports (m.and_def g i xs t ds) h f e = by (same_home h home && same_name f g) refl (member_from home exports ds h f)
  where
    by : (b : Bool) → (same_home h home && same_name f g) ≡ b → (is_member (functions_from home exports ds) h f ≡ true → (h ≡ home) × Contains (defined_names ds) f)
        → (h ≡ home) × Contains (defined_names (m.and_def g i xs t ds)) f
    by true is later =
        let both = and_parts (same_home h home) (same_name f g) is in
        (home_is h home both.0, subst (Contains (g ∷ defined_names ds)) (sym (name_is f g both.1)) (contains_first g (defined_names ds)))
    by false is later =
        let r = later (ap (λ b. b || is_member (functions_from home exports ds) h f) (sym is) ∙ e) in
        (r.0, contains_later g f (defined_names ds) r.1)

-- and a name that is defined there is that of a function
pub from_member : (home : Atom) (exports : List FunName) (ds : m.Defs) (f : FunName) → Contains (defined_names ds) f → is_member (functions_from home exports ds) home f ≡ true
from_member home exports m.no_def f h = absurd (contains_none f h)
from_member home exports (m.and_def g i xs t ds) f h =
    elim (contains_cases g f (defined_names ds) h) [
      | inl is ↦ ap (λ b. b || is_member (functions_from home exports ds) home f) (ap₂ (λ a b. a && b) (home_itself home) (subst (λ x. same_name f x ≡ true) (sym is) (name_itself f)))
      | inr more ↦ ap (λ b. (same_home home home && same_name f g) || b) (from_member home exports ds f more) ∙ or-true (same_home home home && same_name f g)
    ]

pub once_from : (home : Atom) (exports : List FunName) (ds : m.Defs) → Distinct (defined_names ds) → NamedOnce (functions_from home exports ds)
once_from home exports m.no_def d = tt
once_from home exports (m.and_def f i xs t ds) d = (
  not_member (functions_from home exports ds) home f (λ e. d.0 (member_from home exports ds home f e).1),
  once_from home exports ds d.1,
)

-- ---- the functions of all modules

-- each module defines each of its names once
abbrev pub DefineOnce : List m.Module → Type 0
DefineOnce [] = Unit {0}
DefineOnce (x ∷ xs) = Distinct (defined_names x.defs) × DefineOnce xs

all_of : (x : m.Module) (xs : List m.Module) → all_functions (x ∷ xs) ≡ functions_from x.name x.exports x.defs ++ all_functions xs
all_of x xs = map-append summarized (module_functions x) (functions_of xs)

-- the home of a function is a module
pub home_of_member : (xs : List m.Module) (h : Atom) (f : FunName) → is_member (all_functions xs) h f ≡ true → Contains (module_names xs) h
home_of_member [] h f e = absurd (true≢false (sym e))
home_of_member (x ∷ xs) h f e = by (is_member (functions_from x.name x.exports x.defs) h f) refl (home_of_member xs h f)
  where
    split : (is_member (functions_from x.name x.exports x.defs) h f || is_member (all_functions xs) h f) ≡ true
    split = sym (ap (λ gs. is_member gs h f) (all_of x xs) ∙ member_append (functions_from x.name x.exports x.defs) (all_functions xs) h f) ∙ e

    by : (b : Bool) → is_member (functions_from x.name x.exports x.defs) h f ≡ b → (is_member (all_functions xs) h f ≡ true → Contains (module_names xs) h) → Contains (x.name ∷ module_names xs) h
    by true is later = subst (Contains (x.name ∷ module_names xs)) (sym (member_from x.name x.exports x.defs h f is).0) (contains_first x.name (module_names xs))
    by false is later = contains_later x.name h (module_names xs) (later (ap (λ b. b || is_member (all_functions xs) h f) (sym is) ∙ split))

pub all_once : (xs : List m.Module) → Distinct (module_names xs) → DefineOnce xs → NamedOnce (all_functions xs)
all_once [] d once = tt
all_once (x ∷ xs) d once =
    subst NamedOnce (sym (all_of x xs))
    (once_append (functions_from x.name x.exports x.defs) (all_functions xs) (once_from x.name x.exports x.defs once.0) (all_once xs d.1 once.1)
    (each_weaker (InModule x.name x.exports x.defs) (λ g. is_member (all_functions xs) g.home g.name ≡ false) apart
    (functions_from x.name x.exports x.defs) (all_in_module x.name x.exports x.defs once.0)))
  where
    apart : (g : Function) → InModule x.name x.exports x.defs g → is_member (all_functions xs) g.home g.name ≡ false
    apart g h = not_member (all_functions xs) g.home g.name (λ e. d.0 (subst (Contains (module_names xs)) h.at_home (home_of_member xs g.home g.name e)))

-- ---- modules by their names

first_module : (x : m.Module) (xs : List m.Module) → module_named (x ∷ xs) x.name ≡ Some x
first_module x xs = ap (λ b. if b then Some x else module_named xs x.name) (home_itself x.name)

later_module : (x : m.Module) (xs : List m.Module) (h : Atom) → (x.name ≡ h → ⊥) → module_named (x ∷ xs) h ≡ module_named xs h
later_module x xs h differs = ap (λ b. if b then Some x else module_named xs h) (not_same x.name h differs)

-- what a function of modules is
pub record InModules (xs : List m.Module) (g : Function) : Type 0 where
  pub at_home : Contains (module_names xs) g.home
  pub is : IsFunctionOf xs g

pub all_in_modules : (xs : List m.Module) → Distinct (module_names xs) → DefineOnce xs → Each (InModules xs) (all_functions xs)
all_in_modules [] d once = tt
all_in_modules (x ∷ xs) d once =
    subst (Each (InModules (x ∷ xs))) (sym (all_of x xs))
    (each_append (InModules (x ∷ xs)) (functions_from x.name x.exports x.defs) (all_functions xs)
    (each_weaker (InModule x.name x.exports x.defs) (InModules (x ∷ xs)) here (functions_from x.name x.exports x.defs) (all_in_module x.name x.exports x.defs once.0))
    (each_weaker (InModules xs) (InModules (x ∷ xs)) later (all_functions xs) (all_in_modules xs d.1 once.1)))
  where
    here : (g : Function) → InModule x.name x.exports x.defs g → InModules (x ∷ xs) g
    here g h =
        let found : module_named (x ∷ xs) g.home ≡ Some x = ap (module_named (x ∷ xs)) h.at_home ∙ first_module x xs in
        record {
          at_home = subst (Contains (x.name ∷ module_names xs)) (sym h.at_home) (contains_first x.name (module_names xs));
          is = record {
            defined = ap (λ o. definition_in o g.name) found ∙ h.defined;
            exported = h.exported ∙ sym (ap (λ o. exports_in o g.name) found);
          };
        }

    later : (g : Function) → InModules xs g → InModules (x ∷ xs) g
    later g h =
        let found : module_named (x ∷ xs) g.home ≡ module_named xs g.home =
        later_module x xs g.home (λ e. d.0 (subst (Contains (module_names xs)) (sym e) h.at_home)) in
        record {
          at_home = contains_later x.name g.home (module_names xs) h.at_home;
          is = record {
            defined = ap (λ o. definition_in o g.name) found ∙ h.is.defined;
            exported = h.is.exported ∙ sym (ap (λ o. exports_in o g.name) found);
          };
        }

-- a module that is found stands among the modules under its name, and its functions are theirs
pub record IsAmong (xs : List m.Module) (h : Atom) (p : m.Module) : Type 0 where
  pub there : Contains xs p
  pub names : Contains (module_names xs) h
  pub member : (f : FunName) → Contains (defined_names p.defs) f → is_member (all_functions xs) h f ≡ true

pub module_there : (xs : List m.Module) (h : Atom) (p : m.Module) → module_named xs h ≡ Some p → IsAmong xs h p
module_there [] h p e = absurd cc
module_there (x ∷ xs) h p e = by (same_atom x.name h) refl (module_there xs h p)
  where
    in_front : (f : FunName) (b : Bool) → is_member (functions_from x.name x.exports x.defs) h f ≡ b → (b ≡ true) ⊎ (is_member (all_functions xs) h f ≡ true) → is_member (all_functions (x ∷ xs)) h f ≡ true
    in_front f b is (inl t) =
        ap (λ gs. is_member gs h f) (all_of x xs) ∙ member_append (functions_from x.name x.exports x.defs) (all_functions xs) h f
        ∙ ap (λ b. b || is_member (all_functions xs) h f) (is ∙ t)
    in_front f b is (inr t) =
        ap (λ gs. is_member gs h f) (all_of x xs) ∙ member_append (functions_from x.name x.exports x.defs) (all_functions xs) h f
        ∙ ap (λ b. is_member (functions_from x.name x.exports x.defs) h f || b) t ∙ or-true (is_member (functions_from x.name x.exports x.defs) h f)

    by : (b : Bool) → same_atom x.name h ≡ b → (module_named xs h ≡ Some p → IsAmong xs h p) → IsAmong (x ∷ xs) h p
    by true is later =
        let some : Some x ≡ Some p = sym (ap (λ b. if b then Some x else module_named xs h) is) ∙ e in
        let same : x ≡ p = cc in
        let home : x.name ≡ h = home_is x.name h is in
        record {
          there = subst (Contains (x ∷ xs)) same (contains_first x xs);
          names = subst (Contains (x.name ∷ module_names xs)) home (contains_first x.name (module_names xs));
          member = λ f has.
              in_front f (is_member (functions_from x.name x.exports x.defs) h f) refl
              (inl (subst (λ k. is_member (functions_from x.name x.exports x.defs) k f ≡ true) home
              (from_member x.name x.exports x.defs f (subst (λ q. Contains (defined_names q.defs) f) (sym same) has))));
        }
    by false is later =
        let r = later (sym (ap (λ b. if b then Some x else module_named xs h) is) ∙ e) in
        record {
          there = contains_later x p xs r.there;
          names = contains_later x.name h (module_names xs) r.names;
          member = λ f has. in_front f (is_member (functions_from x.name x.exports x.defs) h f) refl (inr (r.member f has));
        }

-- a name that is none of a module's
pub no_module : (xs : List m.Module) (h : Atom) → module_named xs h ≡ None → Contains (module_names xs) h → ⊥
no_module [] h e has = contains_none h has
no_module (x ∷ xs) h e has = by (same_atom x.name h) refl (no_module xs h)
  where
    by : (b : Bool) → same_atom x.name h ≡ b → (module_named xs h ≡ None → Contains (module_names xs) h → ⊥) → ⊥
    by true is later = let k : Some x ≡ None = sym (ap (λ b. if b then Some x else module_named xs h) is) ∙ e in absurd cc
    by false is later =
        elim (contains_cases x.name h (module_names xs) has) [
          | inl same ↦ absurd (true≢false (sym (ap (same_atom x.name) (sym same) ∙ home_itself x.name) ∙ is))
          | inr more ↦ later (sym (ap (λ b. if b then Some x else module_named xs h) is) ∙ e) more
        ]
