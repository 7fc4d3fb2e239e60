-- What breaks no rule has no part that does: the parts of a form, and what each test says where it passes.
-- A form's parts are opened by the law for their number, since `breaks` computes on the form.
use Rattle.std.proofs.Common.{◌≡◌, ℕ, ◌⊎◌, inl, inr, ◌||◌, Bool, true, false, not, List, [], ◌∷◌, ◌++◌, Contains, length, eqb, eqb-true, refl, sym, ap, ◌∙◌, subst, arith}
use Rattle.std.specs.List.{list_any}
use Rattle.std.proofs.lemmas.List.Folds.{list_any-append}
use Rattle.std.proofs.lemmas.Bool.{or_parts, not-true, or_cases}
use Rattle.core_scope.proofs.NameLaws.{function_itself, contained_has}
use Rattle.type_kinds.proofs.Lists.{contains_none, contains_cases}
use Rattle.type_kinds.specs.declared.place.Place.{Place}
use Rattle.core_ast.specs.declared.syntax.Mark.{Mark}
use Rattle.core_ast.specs.declared.syntax.VarName.{VarName}
use Rattle.core_ast.specs.declared.syntax.FunName.{FunName}
use Rattle.core_ast.specs.Model as m
use Rattle.core_ast.specs.Lengths.{how_many_patterns}
use Rattle.core_scope.specs.declared.ask.Ask.{Ask}
use Rattle.core_scope.specs.declared.fault.ScopeRule.{ScopeRule}
use Rattle.core_scope.specs.declared.fault.ScopeRule.TheVariants.{DefinedExports}
use Rattle.core_scope.specs.Names.{Distinct, same_function, has_function, defined_names}
use Rattle.core_scope.specs.Asks.{gives, suffices}
use Rattle.core_scope.specs.Breaks.{unless, degree, new_functions, next_place, other_places, export_breaks, arity_of, width_of, catches, module_breaks}

pub open_two : {X : Type 0} (a b : List X) → a ++ b ≡ [] → (a ≡ []) × (b ≡ [])
open_two [] b e = (refl, e)
open_two (x ∷ a) b e = absurd cc

pub open_three : {X : Type 0} (a b c : List X) → a ++ b ++ c ≡ [] → (a ≡ []) × (b ≡ []) × (c ≡ [])
open_three a b c e = let r = open_two (a ++ b) c e in let s = open_two a b r.0 in (s.0, s.1, r.1)

pub open_four : {X : Type 0} (a b c d : List X) → a ++ b ++ c ++ d ≡ [] → (a ≡ []) × (b ≡ []) × (c ≡ []) × (d ≡ [])
open_four a b c d e = let r = open_two (a ++ b ++ c) d e in let s = open_three a b c r.0 in (s.0, s.1, s.2, r.1)

pub open_five : {X : Type 0} (a b c d f : List X) → a ++ b ++ c ++ d ++ f ≡ [] → (a ≡ []) × (b ≡ []) × (c ≡ []) × (d ≡ []) × (f ≡ [])
open_five a b c d f e = let r = open_two (a ++ b ++ c ++ d) f e in let s = open_four a b c d r.0 in (s.0, s.1, s.2, s.3, r.1)

pub open_seven : {X : Type 0} (a b c d f g h : List X) → a ++ b ++ c ++ d ++ f ++ g ++ h ≡ [] → (a ≡ []) × (b ≡ []) × (c ≡ []) × (d ≡ []) × (f ≡ []) × (g ≡ []) × (h ≡ [])
open_seven a b c d f g h e = let r = open_three (a ++ b ++ c ++ d ++ f) g h e in let s = open_five a b c d f r.0 in (s.0, s.1, s.2, s.3, s.4, r.1, r.2)

pub ruleset unbroken = (open_two, open_three, open_four, open_five, open_seven)

-- ---- what a test says that passes

pub holds : (b : Bool) (rule : ScopeRule) (place : Place) → unless b rule place ≡ [] → b ≡ true
holds true rule place e = refl
holds false rule place e = absurd cc

-- An expression satisfies its place.
pub place_is_satisfied : (k : Ask) (i : Mark) (t : m.Tree) → degree k i t ≡ [] → suffices k (gives t) ≡ true
place_is_satisfied k i t e = holds _ _ i.place e

-- A definition has its name's arity.
pub arity_is : (f : FunName) (i : Mark) (xs : List VarName) → arity_of f i xs ≡ [] → length xs ≡ f.arity
arity_is f i xs e = eqb-true (length xs) f.arity (holds _ _ i.place e)

-- A clause has as many patterns as its place wants.
pub width_is : (n : ℕ) (i : Mark) (ps : m.Patterns) → width_of n i ps ≡ [] → how_many_patterns ps ≡ n
width_is n i ps e = eqb-true (how_many_patterns ps) n (holds _ _ i.place e)

-- A `try` has two catch variables, or three.
pub catches_are : (i : Mark) (ys : List VarName) → catches i ys ≡ [] → (length ys ≡ 2) ⊎ (length ys ≡ 3)
catches_are i ys e = elim (or_cases (eqb (length ys) 2) (eqb (length ys) 3) (holds _ _ i.place e)) [ inl h ↦ inl (eqb-true (length ys) 2 h) | inr h ↦ inr (eqb-true (length ys) 3 h) ]

-- ---- names are defined once

-- a name that is defined here isn't one of those before
none_before : (before : List FunName) (ds : m.Defs) → new_functions before ds ≡ [] → (x : FunName) → Contains (defined_names ds) x → has_function before x ≡ false
none_before before m.no_def e x (k, within, is) = absurd (omega arith)
none_before before (m.and_def f i xs t ds) e x h =
    let r = open_two (unless (not (has_function before f)) _ i.place) (new_functions (before ++ f ∷ []) ds) e in
    elim (contains_cases f x (defined_names ds) h) [
      | inl here ↦ ap (has_function before) (sym here) ∙ not-true (has_function before f) (holds (not (has_function before f)) _ i.place r.0)
      | inr later ↦ (or_parts (has_function before x) (list_any (same_function x) (f ∷ [])) (sym (list_any-append (same_function x) before (f ∷ [])) ∙ none_before (before ++ f ∷ []) ds r.1 x later)).0
    ]

pub defined_once : (before : List FunName) (ds : m.Defs) → new_functions before ds ≡ [] → Distinct (defined_names ds)
defined_once before m.no_def e = tt
defined_once before (m.and_def f i xs t ds) e =
    let r = open_two (unless (not (has_function before f)) _ i.place) (new_functions (before ++ f ∷ []) ds) e in (
      λ h. again (or_parts (has_function before f) (list_any (same_function f) (f ∷ [])) (sym (list_any-append (same_function f) before (f ∷ [])) ∙ none_before (before ++ f ∷ []) ds r.1 f h)).1,
      defined_once (before ++ f ∷ []) ds r.1,
    )
  where
    again : list_any (same_function f) (f ∷ []) ≡ false → ⊥
    again failing = let itself = ap (λ b. b || false) (function_itself f) in absurd cc

pub module_defined_once : (x : m.Module) → module_breaks x ≡ [] → Distinct (defined_names x.defs)
module_defined_once x e = defined_once [] x.defs (open_three (new_functions [] x.defs) _ _ e).0

-- what a module exports it defines
pub exports_stand : (fs : List FunName) (gs : List FunName) (places : List Place) → export_breaks fs gs places ≡ [] → (f : FunName) → Contains gs f → Contains fs f
exports_stand fs [] places e f h = absurd (contains_none f h)
exports_stand fs (g ∷ gs) places e f h =
    let r = open_two (unless (has_function fs g) DefinedExports (next_place places)) (export_breaks fs gs (other_places places)) e in
    elim (contains_cases g f gs h) [
      | inl same ↦ subst (λ x. Contains fs x) same (contained_has fs g (holds (has_function fs g) DefinedExports (next_place places) r.0))
      | inr later ↦ exports_stand fs gs (other_places places) r.1 f later
    ]
