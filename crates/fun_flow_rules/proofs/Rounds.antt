-- The small steps of the walk: what each round of a loop keeps.
use Rattle.std.proofs.Common.{◌≡◌, ℕ, zero, suc, ◌+◌, ◌-◌, ◌<◌, ◌≤◌, Bool, true, false, if◌then◌else◌, List, [], ◌∷◌, ◌++◌, length, map, drop, get_or, Some, refl, sym, ap, ◌∙◌, subst, arith}
use Rattle.std.proofs.Math.ListN.{drop_of_length-le}
use Rattle.std.proofs.Math.Seq.{drop-nil}
use Rattle.std.proofs.lemmas.List.{append_assoc, append-nil, drop_more, map-append}
use Rattle.std.proofs.lemmas.Cmp.{nat_list_eq_equiv}
use Rattle.type_kinds.specs.declared.atom.Atom.{Atom}
use Rattle.core_ast.specs.declared.syntax.VarName.{VarName}
use Rattle.core_meaning.specs.Programs.{Program}
use Rattle.core_scope.specs.Names.{same_atom, wildcard}
use Rattle.fun_flow_places.specs.Bindings.{value_of}
use Rattle.fun_flow_places.proofs.TableLaws.{value_more}
use Rattle.fun_flow_places.specs.Naming.{place_named}
use Rattle.fun_flow_places.specs.declared.places.FlowPlace.{FlowPlace}
use Rattle.fun_flow_places.specs.declared.places.FlowPlace.TheVariants.{Part, Parameter}
use Rattle.fun_flow_places.specs.declared.places.Item.TheVariants.{Anything}
use Rattle.fun_flow_places.specs.declared.places.FlowRule.TheVariants.{Flows, Holds}
use Rattle.fun_flow_rules.specs.declared.walk.RuleWalk.{RuleWalk}
use Rattle.fun_flow_rules.specs.steps.Walking as w
use Rattle.fun_flow_rules.specs.steps.Walking.{Binding, Binds, Entering, Going, Makes, Sees, no_rules, or_nowhere, place_in, with_rules, with_variables}
use Rattle.fun_flow_rules.proofs.Steps.{adds_none, binds_as, binds_none, entering_begins, entering_ends, entering_on, going_begins, going_ends, going_on, makes_one}
use Rattle.fun_flow_sets.specs.Items as s
use Rattle.fun_flow_sets.specs.Rules.{all_into, in_function, into_parameters, into_parts, opens, parts}
use Rattle.fun_flow_sets.specs.Scopes.{Scope, and_place, first, fit, parameters, rest, with_place, with_places}

-- ---- lists of places

pub rest_drop : (U : Program) (ps : List FlowPlace) (i : ℕ) → rest (map (place_named U) (drop i ps)) ≡ map (place_named U) (drop (i + 1) ps)
rest_drop U [] i = ap (λ l. rest (map (place_named U) l)) (drop-nil i) ∙ ap (map (place_named U)) (sym (drop-nil (i + 1)))
rest_drop U (p ∷ ps) zero = refl
rest_drop U (p ∷ ps) (suc i) = rest_drop U ps i ∙ ap (λ n. map (place_named U) (drop n (p ∷ ps))) (let e : suc (i + 1) ≡ suc i + 1 = omega arith in e)

next_place : (ps : List FlowPlace) (i : ℕ) (p : FlowPlace) → i < length ps → p ≡ get_or ps i p → drop i ps ≡ p ∷ drop (i + 1) ps
next_place ps i p within is = drop_more ps i p within ∙ ap (λ x. x ∷ drop (i + 1) ps) (sym is)

-- ---- rules

pub into_round : (old now new : RuleWalk) (ps : List FlowPlace) (i : ℕ) (p to : FlowPlace) (all : w.Part) → i < length ps → p ≡ get_or ps i p → new ≡ with_rules now (now.rules ++ Flows p to ∷ [])
    → Going old now (λ U home sc. all_into (map (place_named U) (drop i ps)) (place_named U to)) all
    → Going old new (λ U home sc. all_into (map (place_named U) (drop (i + 1) ps)) (place_named U to)) all
into_round old now new ps i p to all within is step before =
    going_on old now new (λ U home sc. all_into (map (place_named U) (drop i ps)) (place_named U to)) (λ U home sc. s.flows (place_named U p) (place_named U to) ∷ [])
    (λ U home sc. all_into (map (place_named U) (drop (i + 1) ps)) (place_named U to)) all
    before (makes_one now new (Flows p to) (λ U home sc. s.flows (place_named U p) (place_named U to)) step (λ U home sc h. refl))
    (λ U home sc. ap (λ l. all_into (map (place_named U) l) (place_named U to)) (next_place ps i p within is))

pub parameters_round : (old now new : RuleWalk) (ps : List FlowPlace) (i label : ℕ) (p : FlowPlace) (all : w.Part) → i < length ps → p ≡ get_or ps i p
    → new ≡ with_rules now (now.rules ++ Flows p (Parameter now.home label i) ∷ [])
    → Going old now (λ U home sc. into_parameters home label i (map (place_named U) (drop i ps))) all
    → Going old new (λ U home sc. into_parameters home label (i + 1) (map (place_named U) (drop (i + 1) ps))) all
parameters_round old now new ps i label p all within is step before =
    going_on old now new (λ U home sc. into_parameters home label i (map (place_named U) (drop i ps))) (λ U home sc. s.flows (place_named U p) (s.parameter home label i) ∷ [])
    (λ U home sc. into_parameters home label (i + 1) (map (place_named U) (drop (i + 1) ps))) all
    before (makes_one now new (Flows p (Parameter now.home label i)) (λ U home sc. s.flows (place_named U p) (s.parameter home label i)) step (λ U home sc h. ap (λ x. s.flows (place_named U p) (s.parameter x label i)) h.at_home))
    (λ U home sc. ap (λ l. into_parameters home label i (map (place_named U) l)) (next_place ps i p within is))

pub parts_round : (old now new : RuleWalk) (ps : List FlowPlace) (n i label : ℕ) (p : FlowPlace) (all : w.Part) → i < n → ((U : Program) → place_named U p ≡ first (map (place_named U) (drop i ps))) → new
    ≡ with_rules now (now.rules ++ Flows p (Part now.home label i) ∷ [])
    → Going old now (λ U home sc. into_parts home label i (fit (n - i) (map (place_named U) (drop i ps)))) all
    → Going old new (λ U home sc. into_parts home label (i + 1) (fit (n - (i + 1)) (map (place_named U) (drop (i + 1) ps)))) all
parts_round old now new ps n i label p all within is step before =
    let left : ℕ = n - (i + 1) in
    let count : n - i ≡ suc left = omega arith in
    going_on old now new (λ U home sc. into_parts home label i (fit (n - i) (map (place_named U) (drop i ps)))) (λ U home sc. s.flows (place_named U p) (s.part home label i) ∷ [])
    (λ U home sc. into_parts home label (i + 1) (fit left (map (place_named U) (drop (i + 1) ps)))) all
    before (makes_one now new (Flows p (Part now.home label i)) (λ U home sc. s.flows (place_named U p) (s.part home label i)) step (λ U home sc h. ap (λ x. s.flows (place_named U p) (s.part x label i)) h.at_home))
    (λ U home sc. ap (λ k. into_parts home label i (fit k (map (place_named U) (drop i ps)))) count
    ∙ ap (λ x. s.flows x (s.part home label i) ∷ into_parts home label (i + 1) (fit left (rest (map (place_named U) (drop i ps))))) (sym (is U))
    ∙ ap (λ l. s.flows (place_named U p) (s.part home label i) ∷ into_parts home label (i + 1) (fit left l)) (rest_drop U ps i))

pub opens_round : (old now new : RuleWalk) (n i label : ℕ) (all : w.Part) → i < n → new ≡ with_rules now (now.rules ++ Holds (Parameter now.home label i) Anything ∷ [])
    → Going old now (λ U home sc. opens home label i (n - i)) all
    → Going old new (λ U home sc. opens home label (i + 1) (n - (i + 1))) all
opens_round old now new n i label all within step before =
    let left : ℕ = n - (i + 1) in
    let count : n - i ≡ suc left = omega arith in
    going_on old now new (λ U home sc. opens home label i (n - i)) (λ U home sc. s.holds (s.parameter home label i) s.anything ∷ []) (λ U home sc. opens home label (i + 1) left) all
    before (makes_one now new (Holds (Parameter now.home label i) Anything) (λ U home sc. s.holds (s.parameter home label i) s.anything) step (λ U home sc h. ap (λ x. s.holds (s.parameter x label i) s.anything) h.at_home))
    (λ U home sc. ap (opens home label i) count)

-- the places of an expression's values
pub given_round : (w0 : RuleWalk) (n i label : ℕ) (ps qs : List FlowPlace) → i < n → qs ≡ ps ++ Part w0.home label i ∷ []
    → ((U : Program) (home : Atom) (sc : Scope) → Sees U home sc w0 → map (place_named U) ps ++ parts home label i (n - i) ≡ parts home label 0 n)
    → (U : Program) (home : Atom) (sc : Scope) → Sees U home sc w0 → map (place_named U) qs ++ parts home label (i + 1) (n - (i + 1)) ≡ parts home label 0 n
given_round w0 n i label ps qs within pushed before U home sc h =
    let left : List s.Place = parts home label (i + 1) (n - (i + 1)) in
    let count : n - i ≡ suc (n - (i + 1)) = omega arith in
    ap (λ l. map (place_named U) l ++ left) pushed ∙ ap (λ l. l ++ left) (map-append (place_named U) ps (Part w0.home label i ∷ [])) ∙ append_assoc (map (place_named U) ps) (place_named U (Part w0.home label i) ∷ []) left
    ∙ ap (λ x. map (place_named U) ps ++ s.part x label i ∷ left) h.at_home ∙ ap (λ k. map (place_named U) ps ++ parts home label i k) (sym count) ∙ before U home sc h

pub given_end : (w0 : RuleWalk) (n i label : ℕ) (ps : List FlowPlace) → n ≤ i → ((U : Program) (home : Atom) (sc : Scope) → Sees U home sc w0 → map (place_named U) ps ++ parts home label i (n - i) ≡ parts home label 0 n)
    → w.Gives w0 ps (λ U home sc. parts home label 0 n)
given_end w0 n i label ps past before U home sc h = sym (append-nil (map (place_named U) ps)) ∙ ap (λ k. map (place_named U) ps ++ parts home label i k) (let e : 0 ≡ n - i = omega arith in e) ∙ before U home sc h

-- ---- variables

pub bind_nothing : (w : RuleWalk) (x : Atom) (p : FlowPlace) → same_atom x wildcard ≡ true → Binds w w no_rules (λ U home sc. with_place x (place_named U p) sc)
bind_nothing w x p e = binds_as w w no_rules no_rules (λ U home sc. sc) (λ U home sc. with_place x (place_named U p) sc) (binds_none w) (λ U home sc h. refl)
    (λ U home sc h. sym (ap (λ b. if b then sc else and_place x (place_named U p) sc) e))

place_more : (U : Program) (vs : List (Atom × FlowPlace)) (x : Atom) (p : FlowPlace) (y : Atom) → place_named U (place_in (vs ++ (x, p) ∷ []) y) ≡ (if same_atom x y then place_named U p else place_named U (place_in vs y))
place_more U vs x p y = ap (λ o. place_named U (or_nowhere o)) (value_more same_atom vs x p y) ∙ by (same_atom y x) (same_atom x y) (nat_list_eq_equiv.symm y x)
  where
    by : (a b : Bool) → a ≡ b → place_named U (or_nowhere (if a then Some p else value_of same_atom vs y)) ≡ (if b then place_named U p else place_named U (place_in vs y))
    by true true e = refl
    by true false e = absurd cc
    by false true e = absurd cc
    by false false e = refl

sees_place : (U : Program) (home : Atom) (sc : Scope) (w : RuleWalk) (x : Atom) (p : FlowPlace) → Sees U home sc w → Sees U home (and_place x (place_named U p) sc) (with_variables w (w.variables ++ (x, p) ∷ []))
sees_place U home sc w x p h =
    record {
      apart = h.apart;
      table = h.table;
      at_home = h.at_home;
      variables = λ y. place_more U w.variables x p y ∙ ap (λ q. if same_atom x y then place_named U p else q) (h.variables y);
      functions = h.functions;
    }

pub bind_one : (old new : RuleWalk) (x : Atom) (p : FlowPlace) → same_atom x wildcard ≡ false → new ≡ with_variables old (old.variables ++ (x, p) ∷ []) → Binds old new no_rules (λ U home sc. with_place x (place_named U p) sc)
bind_one old new x p e is =
    let rules_are : new.rules ≡ old.rules = ap (λ w. w.rules) is in
    let variables_are : new.variables ≡ old.variables ++ (x, p) ∷ [] = ap (λ w. w.variables) is in
    record {
      rest = is ∙ (λ i. record old { rules = sym rules_are i; variables = sym variables_are i });
      inner = (x, p) ∷ [];
      outer = variables_are;
      adds = λ U home sc h. subst (λ l. w.Adds U old.rules l []) (sym rules_are) (adds_none U old.rules);
      sees = λ U home sc h.
          subst (λ z. Sees U home z new) (sym (ap (λ b. if b then sc else and_place x (place_named U p) sc) e)) (subst (Sees U home (and_place x (place_named U p) sc)) (sym is) (sees_place U home sc old x p h));
    }

-- variables that stand for places, one after another
pub places_round : (old now new : RuleWalk) (xs : List VarName) (ps : List FlowPlace) (i : ℕ) (x : VarName) (p : FlowPlace) (all : Binding) → i < length xs → x ≡ get_or xs i x
    → ((U : Program) → place_named U p ≡ first (map (place_named U) (drop i ps))) → Binds now new no_rules (λ U home sc. with_place x.name (place_named U p) sc)
    → Entering old now no_rules no_rules (λ U home sc. with_places (drop i xs) (map (place_named U) (drop i ps)) sc) all
    → Entering old new no_rules no_rules (λ U home sc. with_places (drop (i + 1) xs) (map (place_named U) (drop (i + 1) ps)) sc) all
places_round old now new xs ps i x p all within is at step before =
    entering_on old now new no_rules no_rules no_rules no_rules (λ U home sc. with_places (drop i xs) (map (place_named U) (drop i ps)) sc) (λ U home sc. with_place x.name (place_named U p) sc)
    (λ U home sc. with_places (drop (i + 1) xs) (map (place_named U) (drop (i + 1) ps)) sc) all
    before step (λ U home sc. refl)
    (λ U home sc. ap (λ l. with_places l (map (place_named U) (drop i ps)) sc) (drop_more xs i x within ∙ ap (λ y. y ∷ drop (i + 1) xs) (sym is))
    ∙ ap (λ l. with_places (drop (i + 1) xs) l (with_place x.name (first (map (place_named U) (drop i ps))) sc)) (rest_drop U ps i)
    ∙ ap (λ q. with_places (drop (i + 1) xs) (map (place_named U) (drop (i + 1) ps)) (with_place x.name q sc)) (sym (at U)))

pub function_round : (old now new : RuleWalk) (xs : List VarName) (i label : ℕ) (x : VarName) (all : Binding) → i < length xs → x ≡ get_or xs i x
    → Binds now new no_rules (λ U home sc. with_place x.name (place_named U (Parameter now.home label i)) sc)
    → Entering old now no_rules no_rules (λ U home sc. with_places (drop i xs) (parameters home label i (length xs - i)) sc) all
    → Entering old new no_rules no_rules (λ U home sc. with_places (drop (i + 1) xs) (parameters home label (i + 1) (length xs - (i + 1))) sc) all
function_round old now new xs i label x all within is step before =
    let left : ℕ = length xs - (i + 1) in
    let count : length xs - i ≡ suc left = omega arith in
    entering_on old now new no_rules no_rules no_rules no_rules (λ U home sc. with_places (drop i xs) (parameters home label i (length xs - i)) sc) (λ U home sc. with_place x.name (s.parameter home label i) sc)
    (λ U home sc. with_places (drop (i + 1) xs) (parameters home label (i + 1) left) sc) all
    before (binds_as now new no_rules no_rules (λ U home sc. with_place x.name (place_named U (Parameter now.home label i)) sc) (λ U home sc. with_place x.name (s.parameter home label i) sc) step (λ U home sc h. refl)
    (λ U home sc h. ap (λ y. with_place x.name (s.parameter y label i) sc) h.at_home)) (λ U home sc. refl)
    (λ U home sc. ap (λ l. with_places l (parameters home label i (length xs - i)) sc) (drop_more xs i x within ∙ ap (λ y. y ∷ drop (i + 1) xs) (sym is))
    ∙ ap (λ k. with_places (x ∷ drop (i + 1) xs) (parameters home label i k) sc) count)

-- ---- the ends of these loops

pub into_ends : (old now : RuleWalk) (ps : List FlowPlace) (i : ℕ) (to : FlowPlace) (all : w.Part) → length ps ≤ i → Going old now (λ U home sc. all_into (map (place_named U) (drop i ps)) (place_named U to)) all
    → Makes old now all
into_ends old now ps i to all past h = going_ends old now (λ U home sc. all_into (map (place_named U) (drop i ps)) (place_named U to)) all h
    (λ U home sc. ap (λ l. all_into (map (place_named U) l) (place_named U to)) (drop_of_length-le ps past))

pub parameters_end : (old now : RuleWalk) (ps : List FlowPlace) (i label : ℕ) (all : w.Part) → length ps ≤ i → Going old now (λ U home sc. into_parameters home label i (map (place_named U) (drop i ps))) all → Makes old now all
parameters_end old now ps i label all past h = going_ends old now (λ U home sc. into_parameters home label i (map (place_named U) (drop i ps))) all h
    (λ U home sc. ap (λ l. into_parameters home label i (map (place_named U) l)) (drop_of_length-le ps past))

pub parts_end : (old now : RuleWalk) (ps : List FlowPlace) (n i label : ℕ) (all : w.Part) → n ≤ i → Going old now (λ U home sc. into_parts home label i (fit (n - i) (map (place_named U) (drop i ps)))) all → Makes old now all
parts_end old now ps n i label all past h =
    going_ends old now (λ U home sc. into_parts home label i (fit (n - i) (map (place_named U) (drop i ps)))) all h
    (λ U home sc. ap (λ k. into_parts home label i (fit k (map (place_named U) (drop i ps)))) (let e : n - i ≡ 0 = omega arith in e))

pub opens_end : (old now : RuleWalk) (n i label : ℕ) (all : w.Part) → n ≤ i → Going old now (λ U home sc. opens home label i (n - i)) all → Makes old now all
opens_end old now n i label all past h = going_ends old now (λ U home sc. opens home label i (n - i)) all h (λ U home sc. ap (opens home label i) (let e : n - i ≡ 0 = omega arith in e))

pub places_end : (old now : RuleWalk) (xs : List VarName) (ps : List FlowPlace) (i : ℕ) (all : Binding) → length xs ≤ i
    → Entering old now no_rules no_rules (λ U home sc. with_places (drop i xs) (map (place_named U) (drop i ps)) sc) all
    → Binds old now no_rules all
places_end old now xs ps i all past h =
    entering_ends old now no_rules no_rules (λ U home sc. with_places (drop i xs) (map (place_named U) (drop i ps)) sc) all h (λ U home sc. refl)
    (λ U home sc. ap (λ l. with_places l (map (place_named U) (drop i ps)) sc) (drop_of_length-le xs past))

pub function_ends : (old now : RuleWalk) (xs : List VarName) (i label : ℕ) (all : Binding) → length xs ≤ i → Entering old now no_rules no_rules (λ U home sc. with_places (drop i xs) (parameters home label i (length xs - i)) sc) all
    → Binds old now no_rules all
function_ends old now xs i label all past h =
    entering_ends old now no_rules no_rules (λ U home sc. with_places (drop i xs) (parameters home label i (length xs - i)) sc) all h (λ U home sc. refl)
    (λ U home sc. ap (λ l. with_places l (parameters home label i (length xs - i)) sc) (drop_of_length-le xs past))

-- ---- the beginnings of those that count

pub opens_begin : (w : RuleWalk) (n label : ℕ) → Going w w (λ U home sc. opens home label 0 (n - 0)) (λ U home sc. opens home label 0 n)
opens_begin w n label = subst (λ k. Going w w (λ U home sc. opens home label 0 k) (λ U home sc. opens home label 0 n)) (let e : n ≡ n - 0 = omega arith in e) (going_begins w (λ U home sc. opens home label 0 n))

pub parts_begin : (w : RuleWalk) (ps : List FlowPlace) (n label : ℕ) → Going w w (λ U home sc. into_parts home label 0 (fit (n - 0) (map (place_named U) (drop 0 ps))))
    (λ U home sc. into_parts home label 0 (fit n (map (place_named U) ps)))
parts_begin w ps n label =
    subst (λ k. Going w w (λ U home sc. into_parts home label 0 (fit k (map (place_named U) (drop 0 ps)))) (λ U home sc. into_parts home label 0 (fit n (map (place_named U) ps)))) (let e : n ≡ n - 0 = omega arith in e)
    (going_begins w (λ U home sc. into_parts home label 0 (fit n (map (place_named U) ps))))

pub function_begins : (w : RuleWalk) (xs : List VarName) (label : ℕ) → Entering w w no_rules no_rules (λ U home sc. with_places (drop 0 xs) (parameters home label 0 (length xs - 0)) sc) (λ U home sc. in_function U home label xs sc)
function_begins w xs label =
    subst (λ k. Entering w w no_rules no_rules (λ U home sc. with_places (drop 0 xs) (parameters home label 0 k) sc) (λ U home sc. in_function U home label xs sc)) (let e : length xs ≡ length xs - 0 = omega arith in e)
    (entering_begins w no_rules (λ U home sc. in_function U home label xs sc))

pub given_begins : (U : Program) (home : Atom) (label n : ℕ) (ps : List FlowPlace) → ps ≡ [] → map (place_named U) ps ++ parts home label 0 (n - 0) ≡ parts home label 0 n
given_begins U home label n ps e = ap (λ l. map (place_named U) l ++ parts home label 0 (n - 0)) e ∙ ap (parts home label 0) (let d : n - 0 ≡ n = omega arith in d)
