-- Applications and calls: the rules that their steps make together, and their places.
use Rattle.std.proofs.Common.{◌≡◌, ℕ, Bool, true, false, if◌then◌else◌, List, [], ◌∷◌, ◌++◌, map, Option, Some, None, nat_eq, eq-eqb, eqb-true, refl, sym, ap, ◌∙◌}
use Rattle.std.proofs.lemmas.Bool.{false_from_ne_true}
use Rattle.type_kinds.specs.declared.atom.Atom.{Atom}
use Rattle.core_ast.specs.Lengths.{how_many}
use Rattle.core_ast.specs.Named.{literal_atom, local_name}
use Rattle.core_ast.specs.declared.syntax.FunName.{FunName}
use Rattle.core_ast.specs.declared.syntax.Mark.{Mark}
use Rattle.core_ast.specs.Model as m
use Rattle.core_scope.specs.Asks.{function_name, one_value}
use Rattle.core_scope.specs.Names.{has_function}
use Rattle.type_lattice_model.specs.Values.{Local}
use Rattle.core_meaning.specs.Programs.{Program, Found, built_in, exported, hidden, outside, found}
use Rattle.fun_flow_places.specs.Naming.{name_of, place_named}
use Rattle.fun_flow_places.specs.Tables.{Finds, label_of}
use Rattle.fun_flow_places.specs.declared.places.FlowPlace.{FlowPlace}
use Rattle.fun_flow_places.specs.declared.places.FlowPlace.TheVariants as p
use Rattle.fun_flow_places.specs.declared.places.FlowRule.TheVariants.{Applies}
use Rattle.fun_flow_places.specs.declared.table.FoundFunction.{FoundFunction}
use Rattle.fun_flow_places.specs.declared.table.FoundFunction.TheVariants as hit
use Rattle.fun_flow_rules.specs.declared.walk.RuleWalk.{RuleWalk}
use Rattle.fun_flow_rules.specs.steps.Walking.{Gives, GivesOne, Makes, Sees, no_rules, with_rules}
use Rattle.fun_flow_rules.proofs.Steps.{makes_as, makes_before, makes_none, makes_one, makes_then, sees_back}
use Rattle.fun_flow_rules.proofs.Forms.{none_found, part_named}
use Rattle.fun_flow_sets.specs.Items as s
use Rattle.fun_flow_sets.specs.Items.{defined_at}
use Rattle.fun_flow_sets.specs.Rules.{all_into, application_place, application_rules, argument_rules, call_place, call_rules, found_place, found_rules, given_by, handing_on, into_parameters, places, places_of_all, rules, rules_of_all}
use Rattle.fun_flow_sets.specs.Scopes.{Scope, definition_of, first}

-- ---- applications of names

different : (a n : ℕ) → (a ≡ n → ⊥) → nat_eq a n ≡ false
different a n h = false_from_ne_true (nat_eq a n) (λ e. h (eqb-true a n e))

no_arguments : (home : Atom) (o : Option Local) (a n : ℕ) (ps : List s.Place) → nat_eq a n ≡ false → argument_rules home o a n ps ≡ []
no_arguments home None a n ps e = refl
no_arguments home (Some d) a n ps e = ap (λ b. if b then into_parameters home d.label 0 ps else []) e

module _ (w0 w1 : RuleWalk) (i j : Mark) (f : FunName) (ts : m.Trees) where
  -- with a wrong number of arguments
  pub wrong_makes : (f.arity ≡ how_many ts → ⊥) → Makes w0 w1 (λ U home sc. rules_of_all U home sc ts) → Makes w0 w1 (λ U home sc. rules U home sc one_value (m.apply i (m.local j f) ts))
  wrong_makes other one =
      makes_as w0 w1 (λ U home sc. rules_of_all U home sc ts) (λ U home sc. rules U home sc one_value (m.apply i (m.local j f) ts)) one
      (λ U home sc h. ap (λ l. l ++ rules_of_all U home sc ts) (sym (no_arguments home (definition_of U home sc f) f.arity (how_many ts) (places_of_all U home sc ts) (different f.arity (how_many ts) other))))

  pub wrong_place : (f.arity ≡ how_many ts → ⊥) → (U : Program) (home : Atom) (sc : Scope) → s.nowhere ∷ [] ≡ places U home sc one_value (m.apply i (m.local j f) ts)
  wrong_place other U home sc = ap (λ b. (if b then given_by home (definition_of U home sc f) else s.nowhere) ∷ []) (sym (different f.arity (how_many ts) other))

  -- of a function that isn't defined
  pub undefined_makes : ((U : Program) (home : Atom) (sc : Scope) → Sees U home sc w0 → None ≡ label_of (definition_of U home sc f)) → Makes w0 w1 (λ U home sc. rules_of_all U home sc ts)
      → Makes w0 w1 (λ U home sc. rules U home sc one_value (m.apply i (m.local j f) ts))
  undefined_makes none one =
      makes_as w0 w1 (λ U home sc. rules_of_all U home sc ts) (λ U home sc. rules U home sc one_value (m.apply i (m.local j f) ts)) one
      (λ U home sc h. ap (λ o. argument_rules home o f.arity (how_many ts) (places_of_all U home sc ts) ++ rules_of_all U home sc ts) (sym (none_found (definition_of U home sc f) (none U home sc h))))

  pub undefined_place : (U : Program) (home : Atom) (sc : Scope) → None ≡ label_of (definition_of U home sc f) → s.nowhere ∷ [] ≡ places U home sc one_value (m.apply i (m.local j f) ts)
  undefined_place U home sc none = by (nat_eq f.arity (how_many ts)) ∙ ap (λ o. (if nat_eq f.arity (how_many ts) then given_by home o else s.nowhere) ∷ []) (sym (none_found (definition_of U home sc f) none))
    where
      by : (b : Bool) → s.nowhere ∷ [] ≡ (if b then given_by home None else s.nowhere) ∷ []
      by true = refl
      by false = refl

  module _ (label : ℕ) (same : f.arity ≡ how_many ts) (some : (U : Program) (home : Atom) (sc : Scope) → Sees U home sc w0 → Some label ≡ label_of (definition_of U home sc f)) where
    flowing : (home : Atom) (o : Option Local) (ps : List s.Place) → Some label ≡ label_of o → into_parameters home label 0 ps ≡ argument_rules home o f.arity (how_many ts) ps
    flowing home None ps e = absurd cc
    flowing home (Some d) ps e =
        let is : label ≡ d.label = cc in
        ap (λ l. into_parameters home l 0 ps) is ∙ ap (λ b. if b then into_parameters home d.label 0 ps else []) (sym (eq-eqb f.arity (how_many ts) same))

    pub named_makes : (w2 : RuleWalk) (ps : List FlowPlace) → Makes w0 w1 (λ U home sc. rules_of_all U home sc ts) → Gives w0 ps (λ U home sc. places_of_all U home sc ts)
        → Makes w1 w2 (λ U home sc. into_parameters home label 0 (map (place_named U) ps))
        → Makes w0 w2 (λ U home sc. rules U home sc one_value (m.apply i (m.local j f) ts))
    named_makes w2 ps one given two =
        makes_before w0 w1 w2 (λ U home sc. rules_of_all U home sc ts) (λ U home sc. argument_rules home (definition_of U home sc f) f.arity (how_many ts) (places_of_all U home sc ts)) one
        (makes_as w1 w2 (λ U home sc. into_parameters home label 0 (map (place_named U) ps)) (λ U home sc. argument_rules home (definition_of U home sc f) f.arity (how_many ts) (places_of_all U home sc ts)) two
        (λ U home sc h. (let k = sees_back U home sc w0 w1 one.rest h in ap (into_parameters home label 0) (given U home sc k) ∙ flowing home (definition_of U home sc f) (places_of_all U home sc ts) (some U home sc k))))

    given : (home : Atom) (o : Option Local) → Some label ≡ label_of o → s.returned home label ≡ given_by home o
    given home None e = absurd cc
    given home (Some d) e = let is : label ≡ d.label = cc in ap (s.returned home) is

    pub named_place : (U : Program) (home : Atom) (sc : Scope) → Sees U home sc w0 → s.returned home label ∷ [] ≡ places U home sc one_value (m.apply i (m.local j f) ts)
    named_place U home sc h = ap (λ q. q ∷ []) (given home (definition_of U home sc f) (some U home sc h))
        ∙ ap (λ b. (if b then given_by home (definition_of U home sc f) else s.nowhere) ∷ []) (sym (eq-eqb f.arity (how_many ts) same))

-- ---- applications of values

pub value_makes : (w0 w1 w2 w3 : RuleWalk) (i : Mark) (t : m.Tree) (ts : m.Trees) (n : ℕ) (place : FlowPlace) → local_name t ≡ None → n ≡ how_many ts → Makes w0 w1 (λ U home sc. rules U home sc one_value t)
    → GivesOne w0 place (λ U home sc. first (places U home sc one_value t))
    → w2 ≡ with_rules w1 (w1.rules ++ Applies place n w1.home i.label ∷ []) → Makes w2 w3 (λ U home sc. rules_of_all U home sc ts) → Makes w0 w3 (λ U home sc. rules U home sc one_value (m.apply i t ts))
value_makes w0 w1 w2 w3 i t ts n place value count one given applied two =
    makes_as w0 w3 (λ U home sc. ((s.applies (first (places U home sc one_value t)) n home i.label ∷ []) ++ rules U home sc one_value t) ++ rules_of_all U home sc ts) (λ U home sc. rules U home sc one_value (m.apply i t ts))
    (makes_then w0 w2 w3 (λ U home sc. (s.applies (first (places U home sc one_value t)) n home i.label ∷ []) ++ rules U home sc one_value t) (λ U home sc. rules_of_all U home sc ts)
    (makes_before w0 w1 w2 (λ U home sc. rules U home sc one_value t) (λ U home sc. s.applies (first (places U home sc one_value t)) n home i.label ∷ []) one
    (makes_one w1 w2 (Applies place n w1.home i.label) (λ U home sc. s.applies (first (places U home sc one_value t)) n home i.label) applied
    (λ U home sc h. ap (λ q. s.applies q n (name_of U w1.home) i.label) (given U home sc (sees_back U home sc w0 w1 one.rest h)) ∙ ap (λ x. s.applies (first (places U home sc one_value t)) n x i.label) h.at_home))) two)
    (λ U home sc h. ap (λ k. ((s.applies (first (places U home sc one_value t)) k home i.label ∷ []) ++ rules U home sc one_value t) ++ rules_of_all U home sc ts) count
    ∙ ap (λ o. application_rules U home sc i.label o (places U home sc one_value t) (rules U home sc one_value t) (how_many ts) (places_of_all U home sc ts) ++ rules_of_all U home sc ts) (sym value))

pub value_place : (U : Program) (home : Atom) (sc : Scope) (i : Mark) (t : m.Tree) (ts : m.Trees) → local_name t ≡ None → s.part home i.label 0 ∷ [] ≡ places U home sc one_value (m.apply i t ts)
value_place U home sc i t ts value = ap (λ o. application_place U home sc i.label o (how_many ts) ∷ []) (sym value)

-- ---- calls

pub call_makes : (w0 w1 w2 w3 w4 : RuleWalk) (i : Mark) (t u : m.Tree) (ts : m.Trees) (n : ℕ) (ps : List FlowPlace) → n ≡ how_many ts → Makes w0 w1 (λ U home sc. rules U home sc one_value t)
    → Makes w1 w2 (λ U home sc. rules U home sc one_value u) → Makes w2 w3 (λ U home sc. rules_of_all U home sc ts)
    → Gives w2 ps (λ U home sc. places_of_all U home sc ts) → Makes w3 w4 (λ U home sc. call_rules U home i.label (literal_atom t) (literal_atom u) n (map (place_named U) ps))
    → Makes w0 w4 (λ U home sc. rules U home sc one_value (m.call i t u ts))
call_makes w0 w1 w2 w3 w4 i t u ts n ps count one two three given four =
    let both : Makes w0 w2 (λ U home sc. rules U home sc one_value t ++ rules U home sc one_value u) = makes_then w0 w1 w2 (λ U home sc. rules U home sc one_value t) (λ U home sc. rules U home sc one_value u) one two in
    makes_as w0 w4 (λ U home sc. call_rules U home i.label (literal_atom t) (literal_atom u) n (places_of_all U home sc ts) ++ (rules U home sc one_value t ++ (rules U home sc one_value u ++ rules_of_all U home sc ts)))
    (λ U home sc. rules U home sc one_value (m.call i t u ts))
    (makes_before w0 w3 w4 (λ U home sc. rules U home sc one_value t ++ (rules U home sc one_value u ++ rules_of_all U home sc ts)) (λ U home sc. call_rules U home i.label (literal_atom t) (literal_atom u) n (places_of_all U home sc ts))
    (makes_then w0 w1 w3 (λ U home sc. rules U home sc one_value t) (λ U home sc. rules U home sc one_value u ++ rules_of_all U home sc ts) one
    (makes_then w1 w2 w3 (λ U home sc. rules U home sc one_value u) (λ U home sc. rules_of_all U home sc ts) two three))
    (makes_as w3 w4 (λ U home sc. call_rules U home i.label (literal_atom t) (literal_atom u) n (map (place_named U) ps)) (λ U home sc. call_rules U home i.label (literal_atom t) (literal_atom u) n (places_of_all U home sc ts)) four
    (λ U home sc h. ap (call_rules U home i.label (literal_atom t) (literal_atom u) n) (given U home sc (sees_back U home sc w2 w3 three.rest h)))))
    (λ U home sc h. ap (λ k. call_rules U home i.label (literal_atom t) (literal_atom u) k (places_of_all U home sc ts) ++ (rules U home sc one_value t ++ (rules U home sc one_value u ++ rules_of_all U home sc ts))) count)

-- ---- what literal names find

module _ (w0 : RuleWalk) (label : ℕ) (x : Atom) (f : FunName) (ps : List FlowPlace) where
  abbrev FoundRules : RuleWalk → Type 0
  FoundRules w1 = Makes w0 w1 (λ U home sc. found_rules home label (found U x f) f (map (place_named U) ps))

  abbrev FoundPlace : FlowPlace → Type 0
  FoundPlace q = GivesOne w0 q (λ U home sc. found_place U home label (found U x f) x f)

  -- what is found by the table
  abbrev HasFound : FoundFunction → Type 0
  HasFound r = (U : Program) (home : Atom) (sc : Scope) → Sees U home sc w0 → Finds U x f r

  no_found : (k : Found) → ((U : Program) (home : Atom) (sc : Scope) → Sees U home sc w0 → found U x f ≡ k) → ((home : Atom) (qs : List s.Place) → [] ≡ found_rules home label k f qs) → FoundRules w0
  no_found k e none = makes_as w0 w0 no_rules (λ U home sc. found_rules home label (found U x f) f (map (place_named U) ps)) (makes_none w0)
      (λ U home sc h. none home (map (place_named U) ps) ∙ ap (λ z. found_rules home label z f (map (place_named U) ps)) (sym (e U home sc h)))

  pub built_in_other : has_function handing_on f ≡ false → HasFound hit.BuiltIn → FoundRules w0 × FoundPlace p.Anywhere
  built_in_other other h = (
    no_found built_in h (λ home qs. sym (ap (λ b. if b then all_into qs (s.part home label 0) else []) other)),
    λ U home sc k. ap (λ b. if b then s.part home label 0 else s.anywhere) (sym other) ∙ ap (λ z. found_place U home label z x f) (sym (h U home sc k)),
  )

  pub handed_on : (w1 : RuleWalk) (place : FlowPlace) → has_function handing_on f ≡ true → HasFound hit.BuiltIn → place ≡ p.Part w0.home label 0
      → Makes w0 w1 (λ U home sc. all_into (map (place_named U) ps) (place_named U place))
      → FoundRules w1 × FoundPlace place
  handed_on w1 place on h at one = (
    makes_as w0 w1 (λ U home sc. all_into (map (place_named U) ps) (place_named U place)) (λ U home sc. found_rules home label (found U x f) f (map (place_named U) ps)) one
        (λ U home sc k. ap (all_into (map (place_named U) ps)) (part_named w0 label place at U home sc k) ∙ ap (λ b. if b then all_into (map (place_named U) ps) (s.part home label 0) else []) (sym on)
        ∙ ap (λ z. found_rules home label z f (map (place_named U) ps)) (sym (h U home sc k))),
    λ U home sc k. part_named w0 label place at U home sc k ∙ ap (λ b. if b then s.part home label 0 else s.anywhere) (sym on) ∙ ap (λ z. found_place U home label z x f) (sym (h U home sc k)),
  )

  pub found_outside : HasFound hit.Outside → FoundRules w0 × FoundPlace p.Anywhere
  found_outside h = (no_found outside h (λ home qs. refl), λ U home sc k. ap (λ z. found_place U home label z x f) (sym (h U home sc k)))

  pub found_hidden : HasFound hit.Hidden → FoundRules w0 × FoundPlace p.Anywhere
  found_hidden h = (no_found hidden h (λ home qs. refl), λ U home sc k. ap (λ z. found_place U home label z x f) (sym (h U home sc k)))

  given_label : (home : Atom) (o : Option Local) (l : ℕ) → label_of o ≡ Some l → s.returned home l ≡ given_by home o
  given_label home None l e = absurd cc
  given_label home (Some d) l e = let same : d.label ≡ l = cc in ap (s.returned home) (sym same)

  pub found_exported : (at l : ℕ) → HasFound (hit.Exported at (Some l)) → FoundRules w0 × FoundPlace (p.Returned at l)
  found_exported at l h = (
    no_found exported (λ U home sc k. (h U home sc k).0) (λ home qs. refl),
    λ U home sc k. ap (λ y. s.returned y l) (h U home sc k).1.0 ∙ given_label x (defined_at U x f) l (h U home sc k).1.1 ∙ ap (λ z. found_place U home label z x f) (sym (h U home sc k).0),
  )

  pub found_undefined : (at : ℕ) → HasFound (hit.Exported at None) → FoundRules w0 × FoundPlace p.Nowhere
  found_undefined at h = (
    no_found exported (λ U home sc k. (h U home sc k).0) (λ home qs. refl),
    λ U home sc k. ap (given_by x) (sym (none_found (defined_at U x f) (sym (h U home sc k).1.1))) ∙ ap (λ z. found_place U home label z x f) (sym (h U home sc k).0),
  )

-- ---- calls whose names are computed

module _ (w : RuleWalk) (label n : ℕ) (ps : List FlowPlace) where
  pub computed_home : (x y : Option Atom) → x ≡ None → Makes w w (λ U home sc. call_rules U home label x y n (map (place_named U) ps)) × GivesOne w p.Anywhere (λ U home sc. call_place U home label x y n)
  computed_home x y e = (
    makes_as w w no_rules (λ U home sc. call_rules U home label x y n (map (place_named U) ps)) (makes_none w) (λ U home sc h. ap (λ o. call_rules U home label o y n (map (place_named U) ps)) (sym e)),
    λ U home sc h. ap (λ o. call_place U home label o y n) (sym e),
  )

  pub computed_name : (a : Atom) (x y : Option Atom) → x ≡ Some a → y ≡ None → Makes w w (λ U home sc. call_rules U home label x y n (map (place_named U) ps)) × GivesOne w p.Anywhere (λ U home sc. call_place U home label x y n)
  computed_name a x y e d = (
    makes_as w w no_rules (λ U home sc. call_rules U home label x y n (map (place_named U) ps)) (makes_none w)
        (λ U home sc h. ap (λ o. call_rules U home label (Some a) o n (map (place_named U) ps)) (sym d) ∙ ap (λ o. call_rules U home label o y n (map (place_named U) ps)) (sym e)),
    λ U home sc h. ap (λ o. call_place U home label (Some a) o n) (sym d) ∙ ap (λ o. call_place U home label o y n) (sym e),
  )

-- a call by literal names is what these find
pub named_call : (w0 w1 : RuleWalk) (label n : ℕ) (ps : List FlowPlace) (a b : Atom) (x y : Option Atom) (f : FunName) (q : FlowPlace) → x ≡ Some a → y ≡ Some b → f ≡ function_name b n
    → Makes w0 w1 (λ U home sc. found_rules home label (found U a f) f (map (place_named U) ps)) × GivesOne w0 q (λ U home sc. found_place U home label (found U a f) a f)
    → Makes w0 w1 (λ U home sc. call_rules U home label x y n (map (place_named U) ps)) × GivesOne w0 q (λ U home sc. call_place U home label x y n)
named_call w0 w1 label n ps a b x y f q e d is h = (
  makes_as w0 w1 (λ U home sc. found_rules home label (found U a f) f (map (place_named U) ps)) (λ U home sc. call_rules U home label x y n (map (place_named U) ps)) h.0
      (λ U home sc k. ap (λ g. found_rules home label (found U a g) g (map (place_named U) ps)) is ∙ ap (λ o. call_rules U home label (Some a) o n (map (place_named U) ps)) (sym d)
      ∙ ap (λ o. call_rules U home label o y n (map (place_named U) ps)) (sym e)),
  λ U home sc k. h.1 U home sc k ∙ ap (λ g. found_place U home label (found U a g) a g) is ∙ ap (λ o. call_place U home label (Some a) o n) (sym d) ∙ ap (λ o. call_place U home label o y n) (sym e),
)

-- the operator that is a name
pub operator_is : (t : m.Tree) (f : FunName) → local_name t ≡ Some f → (j : Mark) × (m.local j f ≡ t)
operator_is (m.local j g) f e = let same : g ≡ f = cc in (j, ap (m.local j) (sym same))
operator_is t f e = absurd cc
