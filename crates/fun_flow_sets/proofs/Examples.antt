-- The modules worked by hand: what their applications may enter, and nothing else.
use Rattle.std.proofs.Common.{◌≡◌, Bool, true, false, ◌&&◌, if◌then◌else◌, nat_eq, eqb-true, inl, inr, refl, subst}
use Rattle.std.proofs.lemmas.Bool.{and_parts}
use Rattle.std.specs.Cmp.Lexicographic.{bytes_decides}
use Rattle.core_parse_grammar.specs.Labels.{numbered}
use Rattle.core_scope.specs.Names.{same_atom}
use Rattle.fun_flow_sets.specs.Items.{Item, anything, closure_at, external_function, Place, nowhere, anywhere, part, parameter, returned, Rule, holds, flows, applies}
use Rattle.fun_flow_sets.specs.Rules.{rules_of}
use Rattle.fun_flow_sets.specs.Sets.{IsMet, Meets, MayEnter, may_hold}
use Rattle.fun_flow_sets.specs.Worked.{applies_identity, applies_atom, with_identity, with_atom, q_name, identity_item}
use Rattle.fun_flow_sets.proofs.Each.{Each, of_each}
use Rattle.fun_flow_sets.proofs.Least.{are_least}

-- the labels of the trees are those that reading their texts gives
labels_are_in_order : numbered applies_identity ≡ applies_identity
labels_are_in_order = refl

labels_are_in_order_too : numbered applies_atom ≡ applies_atom
labels_are_in_order_too = refl

-- ---- sets that meet the rules: the fun alone at its own place, nothing where nothing is, and everything elsewhere

abbrev is_identity : Item → Bool
is_identity anything = false
is_identity (closure_at home label arity) = same_atom home q_name && (nat_eq label 3 && nat_eq arity 1)
is_identity (external_function home name arity) = false

abbrev has : Place → Item → Bool
has nowhere x = false
has anywhere x = true
has (part home label n) x = if nat_eq label 3 then is_identity x else true
has (parameter home label n) x = true
has (returned home label) x = true

identity_is : (x : Item) → is_identity x ≡ true → x ≡ identity_item
identity_is anything e = absurd cc
identity_is (closure_at home label arity) e =
    let b = and_parts (same_atom home q_name) (nat_eq label 3 && nat_eq arity 1) e in
    let d = and_parts (nat_eq label 3) (nat_eq arity 1) b.1 in
    let h : home ≡ q_name = (bytes_decides home q_name).0 b.0 in
    let l : label ≡ 3 = eqb-true label 3 d.0 in
    let n : arity ≡ 1 = eqb-true arity 1 d.1 in
    λ i. closure_at (h i) (l i) (n i)
identity_is (external_function home name arity) e = absurd cc

met : Each (IsMet with_identity has) (rules_of with_identity)
met = (refl, (λ x e. refl, (refl, (refl, (λ x e. refl, (λ x e. refl, (λ x e. refl, (λ x e. (λ q y i j. refl, λ i. refl), (λ x e. (λ q y i j. refl, λ i. refl), tt)))))))))

met_too : Each (IsMet with_atom has) (rules_of with_atom)
met_too = (refl, (λ x e. refl, (refl, (refl, (λ x e. refl, (λ x e. refl, (λ x e. refl, (λ x e. (λ q y i j. refl, λ i. refl), (λ x e. (λ q y i j. refl, λ i. refl), tt)))))))))

-- ---- what stands at label 6

abbrev Operates : Place → Rule → Type 0
Operates p (holds q x) = Unit {0}
Operates p (flows q r) = Unit {0}
Operates p (applies q n home label) = nat_eq label 6 ≡ true → q ≡ p

operator : Each (Operates (part q_name 3 0)) (rules_of with_identity)
operator = (tt, (tt, (tt, (tt, (tt, (tt, (tt, (λ e. refl, (λ e. absurd cc, tt)))))))))

operator_too : Each (Operates nowhere) (rules_of with_atom)
operator_too = (tt, (tt, (tt, (tt, (tt, (tt, (tt, (λ e. refl, (λ e. absurd cc, tt)))))))))

pub the_fun : MayEnter with_identity q_name 6 identity_item
the_fun = (part q_name 3 0, (1, (inr (inr (inr (inr (inr (inr (inr (inl refl))))))), may_hold (inr (inr (inl refl))))))

pub no_other : (x : Item) → MayEnter with_identity q_name 6 x → x ≡ identity_item
no_other x h =
    let here : h.0 ≡ part q_name 3 0 = of_each (Operates (part q_name 3 0)) (rules_of with_identity) (applies h.0 h.1.0 q_name 6) operator h.1.1.0 refl in
    let all : Meets with_identity has = record { all_anywhere = refl; met = λ r i. of_each (IsMet with_identity has) (rules_of with_identity) r met i } in
    let e = are_least with_identity has all h.0 x h.1.1.1 in
    identity_is x (subst (λ p. has p x ≡ true) here e)

pub of_parameter : MayEnter with_identity q_name 9 anything
of_parameter = (parameter q_name 0 0, (1, (inr (inr (inr (inr (inr (inr (inr (inr (inl refl)))))))), may_hold (inl refl))))

pub of_atom : (x : Item) → MayEnter with_atom q_name 6 x → ⊥
of_atom x h =
    let here : h.0 ≡ nowhere = of_each (Operates nowhere) (rules_of with_atom) (applies h.0 h.1.0 q_name 6) operator_too h.1.1.0 refl in
    let all : Meets with_atom has = record { all_anywhere = refl; met = λ r i. of_each (IsMet with_atom has) (rules_of with_atom) r met_too i } in
    let e = are_least with_atom has all h.0 x h.1.1.1 in
    let no : has nowhere x ≡ true = subst (λ p. has p x ≡ true) here e in
    absurd cc
