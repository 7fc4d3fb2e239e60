-- The list of the module that is worked by hand.
use Rattle.std.proofs.Common.{◌≡◌, ℕ, zero, suc, ◌⊎◌, inl, inr, List, [], ◌∷◌, Some, refl, sym, ap, subst}
use Rattle.std.specs.Prelude.{Contains, slice_get}
use Rattle.std.specs.List.Sorted.{IsStrictlySortedBy}
use Rattle.std.proofs.lemmas.Option.{same_Some}
use Rattle.type_kinds.proofs.Lists.{contains_none, contains_first, contains_later, contains_cases}
use Rattle.core_ast.specs.Model as m
use Rattle.fun_flow_sets.specs.Items.{Item, anything, Place, part, parameter, Rule, holds, flows, applies}
use Rattle.fun_flow_sets.specs.Rules.{IsAmong, IsRule, rules_of}
use Rattle.fun_flow_sets.specs.Sets.{Holds, MayEnter, may_hold}
use Rattle.fun_flow_sets.specs.Worked.{applies_identity, identity_item, q_name, with_identity}
use Rattle.fun_flow_answers.specs.declared.target.AppliedCall.{AppliedCall}
use Rattle.fun_flow_answers.specs.declared.target.Target.{Target}
use Rattle.fun_flow_answers.specs.declared.target.Target.TheVariants.{Fun}
use Rattle.fun_flow_answers.specs.Answers.{AreCalls, any_function, only_these, IsCall, IsListed}
use Rattle.fun_flow_answers.specs.Listed.{target_of}
use Rattle.fun_flow_answers.specs.Order.{call_cmp, target_cmp}
use Rattle.fun_flow_answers.specs.Worked.{first_call, second_call, identity_calls}

-- where the operator of the first application is, and that of the second
abbrev fun_place : Place
fun_place = part q_name 3 0

abbrev parameter_place : Place
parameter_place = parameter q_name 0 0

first_stands : IsRule with_identity (applies fun_place 1 q_name 6)
first_stands = inr (inr (inr (inr (inr (inr (inr (inl refl)))))))

second_stands : IsRule with_identity (applies parameter_place 1 q_name 9)
second_stands = inr (inr (inr (inr (inr (inr (inr (inr (inl refl))))))))

fun_held : Holds with_identity fun_place identity_item
fun_held = may_hold (inr (inr (inl refl)))

anything_held : Holds with_identity parameter_place anything
anything_held = may_hold (inl refl)

abbrev NoOther : Type 0
NoOther = (x : Item) → MayEnter with_identity q_name 6 x → x ≡ identity_item

only_fun : NoOther → (x : Item) → Holds with_identity fun_place x → x ≡ identity_item
only_fun other x h = other x (fun_place, (1, (first_stands, h)))

one_ascends : IsStrictlySortedBy target_cmp (Fun 0 3 2 ∷ [])
unfolding IsStrictlySortedBy
one_ascends = (tt, tt)

calls_ascend : IsStrictlySortedBy call_cmp identity_calls
unfolding IsStrictlySortedBy
calls_ascend = ((refl, tt), (tt, tt))

first_is : NoOther → IsCall with_identity first_call
first_is other = record {
  home = applies_identity;
  at = refl;
  operator = fun_place;
  stands = first_stands;
  line = refl;
  targets = only_these (Fun 0 3 2 ∷ []) (λ h. let e = only_fun other anything h in absurd cc) one_ascends (λ t. (there t, back t));
}
  where
    there : (t : Target) → Contains (Fun 0 3 2 ∷ []) t → IsListed with_identity (Holds with_identity fun_place) 1 t
    there t h = elim (contains_cases (Fun 0 3 2) t [] h) [
      | inl e ↦ (identity_item, fun_held, refl, ap Some e)
      | inr k ↦ absurd (contains_none t k)
    ]

    back : (t : Target) → IsListed with_identity (Holds with_identity fun_place) 1 t → Contains (Fun 0 3 2 ∷ []) t
    back t h =
        let e : target_of with_identity identity_item ≡ Some t = subst (λ x. target_of with_identity x ≡ Some t) (only_fun other h.0 h.1) h.3 in
        subst (Contains (Fun 0 3 2 ∷ [])) (same_Some (Fun 0 3 2) t e) (contains_first (Fun 0 3 2) [])

second_is : IsCall with_identity second_call
second_is = record { home = applies_identity; at = refl; operator = parameter_place; stands = second_stands; line = refl; targets = any_function anything_held }

-- the rule, where it is an application, has one of the two labels
abbrev HasLabel : Rule → Type 0
HasLabel (holds p x) = Unit {0}
HasLabel (flows p q) = Unit {0}
HasLabel (applies p n home l) = (l ≡ 6) ⊎ (l ≡ 9)

data Each : List Rule → Type 0 where
  none_each : Each []
  more_each : {r : Rule} {rs : List Rule} → HasLabel r → Each rs → Each (r ∷ rs)

of_each : (rs : List Rule) (r : Rule) → Each rs → IsAmong rs r → HasLabel r
of_each [] r none_each h = absurd h
of_each (q ∷ rs) r (more_each a k) (inl e) = subst HasLabel (sym e) a
of_each (q ∷ rs) r (more_each a k) (inr h) = of_each rs r k h

all_rules : Each (rules_of with_identity)
all_rules = more_each tt (more_each tt (more_each tt (more_each tt (more_each tt (more_each tt (more_each tt (more_each (inl refl) (more_each (inr refl) none_each))))))))

only_module : (i : ℕ) (x : m.Module) → slice_get with_identity i ≡ Some x → 0 ≡ i
only_module zero x e = refl
only_module (suc i) x e = absurd cc

listed_at : (i l : ℕ) → 0 ≡ i → (l ≡ 6) ⊎ (l ≡ 9) → (c : AppliedCall) × Contains identity_calls c × (c.«module» ≡ i) × (c.label ≡ l)
listed_at i l e (inl f) = (first_call, contains_first first_call (second_call ∷ []), e, sym f)
listed_at i l e (inr f) = (second_call, contains_later first_call second_call (second_call ∷ []) (contains_first second_call []), e, sym f)

pub worked_list : NoOther → AreCalls with_identity identity_calls
worked_list other = record {
  ascending = calls_ascend;
  each = one;
  all = λ i x p n l at stands. listed_at i l (only_module i x at) (of_each (rules_of with_identity) (applies p n x.name l) all_rules stands);
}
  where
    one : (c : AppliedCall) → Contains identity_calls c → IsCall with_identity c
    one c h = elim (contains_cases first_call c (second_call ∷ []) h) [
      | inl e ↦ subst (IsCall with_identity) e (first_is other)
      | inr k ↦ elim (contains_cases second_call c [] k) [
        | inl e ↦ subst (IsCall with_identity) e second_is
        | inr gone ↦ absurd (contains_none c gone)
      ]
    ]
