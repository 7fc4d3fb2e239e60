-- The forms of expressions: the rules that their steps make together, and their places.
use Rattle.std.proofs.Common.{◌≡◌, ℕ, List, [], ◌∷◌, ◌++◌, length, map, take, Option, Some, None, Result, IfOk, refl, sym, ap, ◌∙◌}
use Rattle.std.proofs.lemmas.Result.{IfOk-weaker}
use Rattle.type_kinds.specs.declared.atom.Atom.{Atom}
use Rattle.type_kinds.specs.declared.memory.Memory.{Memory}
use Rattle.core_ast.specs.declared.syntax.FunName.{FunName}
use Rattle.core_ast.specs.declared.syntax.Mark.{Mark}
use Rattle.core_ast.specs.declared.syntax.VarName.{VarName}
use Rattle.core_ast.specs.Model as m
use Rattle.core_scope.specs.Asks.{one_value}
use Rattle.core_scope.specs.declared.ask.Ask.{Ask}
use Rattle.type_lattice_model.specs.Values.{Local}
use Rattle.core_meaning.proofs.FunctionLaws.{named_arity}
use Rattle.core_meaning.specs.Programs.{Program, function_named, locals_of}
use Rattle.fun_flow_places.specs.Naming.{item_named, place_named}
use Rattle.fun_flow_places.specs.Tables.{label_of}
use Rattle.fun_flow_places.specs.declared.places.Item.{Item}
use Rattle.fun_flow_places.specs.declared.places.Item.TheVariants.{Closure, External}
use Rattle.fun_flow_places.specs.declared.places.FlowPlace.{FlowPlace}
use Rattle.fun_flow_places.specs.declared.places.FlowPlace.TheVariants as p
use Rattle.fun_flow_places.specs.declared.places.FlowRule.TheVariants.{Flows, Holds}
use Rattle.fun_flow_rules.specs.declared.walk.RuleWalk.{RuleWalk}
use Rattle.fun_flow_rules.specs.steps.Walking.{Binds, Gives, GivesOne, Makes, Part, PlacesOf, Sees, Walks, body_rules, no_rules, with_rules, with_variables}
use Rattle.fun_flow_rules.proofs.Steps.{binds_leave, binds_then, gives_on, gives_one_on, makes_as, makes_before, makes_binds, makes_none, makes_one, makes_then, sees_on}
use Rattle.fun_flow_sets.specs.Items as s
use Rattle.fun_flow_sets.specs.Items.{defined_at, defined_in}
use Rattle.fun_flow_sets.specs.Rules.{all_into, in_function, kept, name_rules, opens, parts, places, rules}
use Rattle.fun_flow_sets.specs.Scopes.{Scope, and_place, definition_of, first, in_frame, local_definition, no_place, or_else}

-- one place of a part
abbrev OnePlace : Type 0
OnePlace = Program → Atom → Scope → s.Place

-- ---- small steps, in the words of the rules

pub part_named : (w : RuleWalk) (label : ℕ) (place : FlowPlace) → place ≡ p.Part w.home label 0 → GivesOne w place (λ U home sc. s.part home label 0)
part_named w label place e U home sc h = ap (place_named U) e ∙ ap (λ x. s.part x label 0) h.at_home

pub hold_makes : (old new : RuleWalk) (place : FlowPlace) (x : Item) (to : OnePlace) (it : Program → Atom → Scope → s.Item) → new ≡ with_rules old (old.rules ++ Holds place x ∷ []) → GivesOne old place to
    → ((U : Program) (home : Atom) (sc : Scope) → Sees U home sc old → item_named U x ≡ it U home sc)
    → Makes old new (λ U home sc. s.holds (to U home sc) (it U home sc) ∷ [])
hold_makes old new place x to it e f g = makes_one old new (Holds place x) (λ U home sc. s.holds (to U home sc) (it U home sc)) e
    (λ U home sc h. ap (λ q. s.holds q (item_named U x)) (f U home sc h) ∙ ap (s.holds (to U home sc)) (g U home sc h))

pub flow_makes : (old new : RuleWalk) (from place : FlowPlace) (q to : OnePlace) → new ≡ with_rules old (old.rules ++ Flows from place ∷ []) → GivesOne old from q → GivesOne old place to
    → Makes old new (λ U home sc. s.flows (q U home sc) (to U home sc) ∷ [])
flow_makes old new from place q to e f g = makes_one old new (Flows from place) (λ U home sc. s.flows (q U home sc) (to U home sc)) e
    (λ U home sc h. ap (λ z. s.flows z (place_named U place)) (f U home sc h) ∙ ap (s.flows (q U home sc)) (g U home sc h))

pub all_makes : (old new : RuleWalk) (ps : List FlowPlace) (place : FlowPlace) (f : PlacesOf) (to : OnePlace) → Makes old new (λ U home sc. all_into (map (place_named U) ps) (place_named U place)) → Gives old ps f
    → GivesOne old place to
    → Makes old new (λ U home sc. all_into (f U home sc) (to U home sc))
all_makes old new ps place f to h g k = makes_as old new (λ U home sc. all_into (map (place_named U) ps) (place_named U place)) (λ U home sc. all_into (f U home sc) (to U home sc)) h
    (λ U home sc e. ap (λ l. all_into l (place_named U place)) (g U home sc e) ∙ ap (all_into (f U home sc)) (k U home sc e))

-- ---- answers

module _ (r : Result (List FlowPlace) Memory) (w0 w1 : RuleWalk) (k : Ask) (t : m.Tree) where
  -- the rules of the expression were made, and one place is given
  pub one_exit : (place : FlowPlace) (to : OnePlace) → Makes w0 w1 (λ U home sc. rules U home sc k t) → GivesOne w0 place to
      → ((U : Program) (home : Atom) (sc : Scope) → Sees U home sc w0 → to U home sc ∷ [] ≡ places U home sc k t)
      → IfOk r (λ ps. ps ≡ place ∷ []) → Walks w0 w1 k t r
  one_exit place to h g same = IfOk-weaker r _ _ (λ ps e. (h, λ U home sc s. ap (map (place_named U)) e ∙ ap (λ q. q ∷ []) (g U home sc s) ∙ same U home sc s))

  -- so are the places of its values
  pub parts_exit : (label : ℕ) (ask : Ask) → Makes w0 w1 (λ U home sc. rules U home sc k t) → ((U : Program) (home : Atom) (sc : Scope) → parts home label 0 (kept ask) ≡ places U home sc k t)
      → IfOk r (λ ps. Gives w1 ps (λ U home sc. parts home label 0 (kept ask))) → Walks w0 w1 k t r
  parts_exit label ask h same = IfOk-weaker r _ _ (λ ps g. (h, λ U home sc s. g U home sc (sees_on U home sc w0 w1 h.rest s) ∙ same U home sc))

-- ---- names

-- all definitions with a name have its arity
abbrev HaveArity : FunName → Option Local → Type 0
HaveArity f o = (d : Local) → o ≡ Some d → d.arity ≡ f.arity

either_arity : (f : FunName) (a b : Option Local) → HaveArity f a → HaveArity f b → HaveArity f (or_else a b)
either_arity f None b h g = g
either_arity f (Some c) b h g = h

local_arity : (sc : Scope) (f : FunName) → HaveArity f (local_definition sc f)
local_arity no_place f = λ d e. absurd cc
local_arity (and_place x q sc) f = local_arity sc f
local_arity (in_frame ls sc) f = either_arity f (function_named ls f) (local_definition sc f) (named_arity ls f) (local_arity sc f)

in_arity : (o : Option m.Module) (f : FunName) → HaveArity f (defined_in o f)
in_arity None f = λ d e. absurd cc
in_arity (Some x) f = named_arity (locals_of x.defs) f

pub definition_arity : (U : Program) (home : Atom) (sc : Scope) (f : FunName) → HaveArity f (definition_of U home sc f)
definition_arity U home sc f = either_arity f (local_definition sc f) (defined_at U home f) (local_arity sc f) (in_arity _ f)

-- what is found by its label
pub none_found : (o : Option Local) → None ≡ label_of o → o ≡ None
none_found None e = refl
none_found (Some d) e = absurd cc

pub name_none : (w : RuleWalk) (i : Mark) (f : FunName) → ((U : Program) (home : Atom) (sc : Scope) → Sees U home sc w → None ≡ label_of (definition_of U home sc f))
    → Makes w w (λ U home sc. rules U home sc one_value (m.local i f))
name_none w i f e = makes_as w w no_rules (λ U home sc. rules U home sc one_value (m.local i f)) (makes_none w) (λ U home sc h. sym (ap (name_rules home i.label) (none_found (definition_of U home sc f) (e U home sc h))))

found_rules : (home : Atom) (at label : ℕ) (f : FunName) (o : Option Local) → HaveArity f o → Some label ≡ label_of o
    → (s.holds (s.part home at 0) (s.closure_at home label f.arity) ∷ []) ++ opens home label 0 f.arity ≡ name_rules home at o
found_rules home at label f None h e = absurd cc
found_rules home at label f (Some d) h e =
    let same : label ≡ d.label = cc in
    ap (λ l. (s.holds (s.part home at 0) (s.closure_at home l f.arity) ∷ []) ++ opens home l 0 f.arity) same ∙ ap (λ n. (s.holds (s.part home at 0) (s.closure_at home d.label n) ∷ []) ++ opens home d.label 0 n) (sym (h d refl))

pub name_some : (w0 w1 w2 : RuleWalk) (i : Mark) (f : FunName) (label arity : ℕ) (place : FlowPlace) → place ≡ p.Part w0.home i.label 0 → arity ≡ f.arity
    → ((U : Program) (home : Atom) (sc : Scope) → Sees U home sc w0 → Some label ≡ label_of (definition_of U home sc f))
    → w1 ≡ with_rules w0 (w0.rules ++ Holds place (Closure w0.home label arity) ∷ []) → Makes w1 w2 (λ U home sc. opens home label 0 arity) → Makes w0 w2 (λ U home sc. rules U home sc one_value (m.local i f))
name_some w0 w1 w2 i f label arity place at count e one two =
    makes_as w0 w2 (λ U home sc. (s.holds (s.part home i.label 0) (s.closure_at home label arity) ∷ []) ++ opens home label 0 arity) (λ U home sc. rules U home sc one_value (m.local i f))
    (makes_then w0 w1 w2 (λ U home sc. s.holds (s.part home i.label 0) (s.closure_at home label arity) ∷ []) (λ U home sc. opens home label 0 arity)
    (hold_makes w0 w1 place (Closure w0.home label arity) (λ U home sc. s.part home i.label 0) (λ U home sc. s.closure_at home label arity) one (part_named w0 i.label place at)
    (λ U home sc h. ap (λ x. s.closure_at x label arity) h.at_home)) two)
    (λ U home sc h. ap (λ n. (s.holds (s.part home i.label 0) (s.closure_at home label n) ∷ []) ++ opens home label 0 n) count
    ∙ found_rules home i.label label f (definition_of U home sc f) (definition_arity U home sc f) (e U home sc h))

pub external_makes : (w0 w1 : RuleWalk) (i : Mark) (x : Atom) (f : FunName) (place : FlowPlace) → place ≡ p.Part w0.home i.label 0 → w1 ≡ with_rules w0 (w0.rules ++ Holds place (External x f) ∷ [])
    → Makes w0 w1 (λ U home sc. rules U home sc one_value (m.external i x f))
external_makes w0 w1 i x f place at one = hold_makes w0 w1 place (External x f) (λ U home sc. s.part home i.label 0) (λ U home sc. s.external_function x f.name f.arity) one (part_named w0 i.label place at) (λ U home sc h. refl)

-- ---- functions

pub body_makes : (w0 w1 w2 w3 w4 : RuleWalk) (around label : ℕ) (xs : List VarName) (t : m.Tree) (place : FlowPlace) → around ≡ length w0.variables → Binds w0 w1 no_rules (λ U home sc. in_function U home label xs sc)
    → Makes w1 w2 (λ U home sc. rules U home sc one_value t) → GivesOne w1 place (λ U home sc. first (places U home sc one_value t))
    → w3 ≡ with_rules w2 (w2.rules ++ Flows place (p.Returned w2.home label) ∷ []) → w4 ≡ with_variables w3 (take around w3.variables) → Makes w0 w4 (λ U home sc. body_rules U home sc label xs t)
body_makes w0 w1 w2 w3 w4 around label xs t place at bound one given flowed left =
    binds_leave w0 w3 w4 (λ U home sc. body_rules U home sc label xs t) (λ U home sc. in_function U home label xs sc) around
    (binds_then w0 w1 w3 no_rules (λ U home sc. (s.flows (first (places U home sc one_value t)) (s.returned home label) ∷ []) ++ rules U home sc one_value t) (λ U home sc. in_function U home label xs sc) (λ U home sc. sc) bound
    (makes_binds w1 w3 (λ U home sc. (s.flows (first (places U home sc one_value t)) (s.returned home label) ∷ []) ++ rules U home sc one_value t)
    (makes_before w1 w2 w3 (λ U home sc. rules U home sc one_value t) (λ U home sc. s.flows (first (places U home sc one_value t)) (s.returned home label) ∷ []) one
    (flow_makes w2 w3 place (p.Returned w2.home label) (λ U home sc. first (places U home sc one_value t)) (λ U home sc. s.returned home label) flowed
    (gives_one_on w1 w2 place (λ U home sc. first (places U home sc one_value t)) one.rest given) (λ U home sc h. ap (λ x. s.returned x label) h.at_home)))))
    at left

pub fun_makes : (w0 w1 w2 w3 : RuleWalk) (i : Mark) (xs : List VarName) (t : m.Tree) (arity : ℕ) (place : FlowPlace) → place ≡ p.Part w0.home i.label 0 → arity ≡ length xs → w1
    ≡ with_rules w0 (w0.rules ++ Holds place (Closure w0.home i.label arity) ∷ []) → Makes w1 w2 (λ U home sc. opens home i.label 0 arity)
    → Makes w2 w3 (λ U home sc. body_rules U home sc i.label xs t) → Makes w0 w3 (λ U home sc. rules U home sc one_value (m.function i xs t))
fun_makes w0 w1 w2 w3 i xs t arity place at count one two three =
    makes_as w0 w3 (λ U home sc. (s.holds (s.part home i.label 0) (s.closure_at home i.label arity) ∷ []) ++ (opens home i.label 0 arity ++ body_rules U home sc i.label xs t)) (λ U home sc. rules U home sc one_value (m.function i xs t))
    (makes_then w0 w1 w3 (λ U home sc. s.holds (s.part home i.label 0) (s.closure_at home i.label arity) ∷ []) (λ U home sc. opens home i.label 0 arity ++ body_rules U home sc i.label xs t)
    (hold_makes w0 w1 place (Closure w0.home i.label arity) (λ U home sc. s.part home i.label 0) (λ U home sc. s.closure_at home i.label arity) one (part_named w0 i.label place at)
    (λ U home sc h. ap (λ x. s.closure_at x i.label arity) h.at_home))
    (makes_then w1 w2 w3 (λ U home sc. opens home i.label 0 arity) (λ U home sc. body_rules U home sc i.label xs t) two three))
    (λ U home sc h. ap (λ n. (s.holds (s.part home i.label 0) (s.closure_at home i.label n) ∷ []) ++ (opens home i.label 0 n ++ body_rules U home sc i.label xs t)) count)

-- ---- data

-- parts that flow into the place of the expression at a label
pub joined_makes : (w0 w1 w2 : RuleWalk) (label : ℕ) (f : Part) (g : PlacesOf) (ps : List FlowPlace) (place : FlowPlace) → place ≡ p.Part w0.home label 0 → Makes w0 w1 f → Gives w0 ps g
    → Makes w1 w2 (λ U home sc. all_into (map (place_named U) ps) (place_named U place)) → Makes w0 w2 (λ U home sc. all_into (g U home sc) (s.part home label 0) ++ f U home sc)
joined_makes w0 w1 w2 label f g ps place at one given two =
    makes_before w0 w1 w2 f (λ U home sc. all_into (g U home sc) (s.part home label 0)) one
    (all_makes w1 w2 ps place g (λ U home sc. s.part home label 0) two (gives_on w0 w1 ps g one.rest given) (gives_one_on w0 w1 place (λ U home sc. s.part home label 0) one.rest (part_named w0 label place at)))

-- so do the last part and they
pub tail_makes : (w0 w1 w2 w3 w4 : RuleWalk) (label : ℕ) (f : Part) (g : PlacesOf) (t : m.Tree) (ps : List FlowPlace) (q place : FlowPlace) → place ≡ p.Part w0.home label 0 → Makes w0 w1 f → Gives w0 ps g
    → Makes w1 w2 (λ U home sc. rules U home sc one_value t) → GivesOne w1 q (λ U home sc. first (places U home sc one_value t))
    → w3 ≡ with_rules w2 (w2.rules ++ Flows q place ∷ []) → Makes w3 w4 (λ U home sc. all_into (map (place_named U) ps) (place_named U place))
    → Makes w0 w4 (λ U home sc. all_into (g U home sc) (s.part home label 0) ++ (s.flows (first (places U home sc one_value t)) (s.part home label 0) ∷ (f U home sc ++ rules U home sc one_value t)))
tail_makes w0 w1 w2 w3 w4 label f g t ps q place at one given two last flowed three =
    let both : Makes w0 w2 (λ U home sc. f U home sc ++ rules U home sc one_value t) = makes_then w0 w1 w2 f (λ U home sc. rules U home sc one_value t) one two in
    let here : GivesOne w2 place (λ U home sc. s.part home label 0) = gives_one_on w0 w2 place (λ U home sc. s.part home label 0) both.rest (part_named w0 label place at) in
    let tail : GivesOne w2 q (λ U home sc. first (places U home sc one_value t)) = gives_one_on w0 w2 q (λ U home sc. first (places U home sc one_value t)) both.rest (λ U home sc h. last U home sc (sees_on U home sc w0 w1 one.rest h)) in
    joined_makes w0 w3 w4 label (λ U home sc. (s.flows (first (places U home sc one_value t)) (s.part home label 0) ∷ []) ++ (f U home sc ++ rules U home sc one_value t)) g ps place at
    (makes_before w0 w2 w3 (λ U home sc. f U home sc ++ rules U home sc one_value t) (λ U home sc. s.flows (first (places U home sc one_value t)) (s.part home label 0) ∷ []) both
    (flow_makes w2 w3 q place (λ U home sc. first (places U home sc one_value t)) (λ U home sc. s.part home label 0) flowed tail here))
    given three
