-- Applications in order, one at each label of a module.
use Rattle.std.proofs.Common.{◌≡◌, ℕ, Bool, ◌&&◌, true, nat_eq, List, Some, refl, sym, ap, ◌∙◌, subst, arith}
use Rattle.std.specs.Prelude.{Contains}
use Rattle.std.specs.Cmp.{IsTotalOrder, eq_by_cmp_equiv, nat_cmp_total, on_total, then_total}
use Rattle.std.specs.List.{dedup, filter_map}
use Rattle.std.specs.List.Sorted.{IsPermutation, IsSorted}
use Rattle.std.specs.Ordering.{eq_by_cmp, is_eq, nat_cmp, ordering_then}
use Rattle.std.proofs.lemmas.List.Kept.{Any-dedup, Contains-from_dedup, IsStrictlySortedBy-dedup}
use Rattle.std.proofs.lemmas.List.Sorted.{Contains-permutation, IsPermutation-sym}
use Rattle.fun_flow_places.specs.declared.places.FlowRule.{FlowRule}
use Rattle.fun_flow_applied.specs.declared.applications.AppliedValue.{AppliedValue}
use Rattle.fun_flow_applied.specs.steps.Applications.{AreApplications, IsThere, application_cmp, application_in}
use Rattle.fun_flow_applied.proofs.Filtered.{is_kept, kept_of}

application_total : IsTotalOrder application_cmp
application_total = then_total (on_total (λ (a : AppliedValue). a.«module») nat_cmp_total) (on_total (λ (a : AppliedValue). a.label) nat_cmp_total)

-- two numbers are the same where each of them is
same_keys : (a b c d : ℕ) → nat_eq a c && nat_eq b d ≡ is_eq (ordering_then (nat_cmp a c) (nat_cmp b d))
same_keys a b c d = grind arith

tied_keys : (a b c d : ℕ) → is_eq (ordering_then (nat_cmp a c) (nat_cmp b d)) ≡ true → (c ≡ a) × (d ≡ b)
tied_keys a b c d e = (grind (arith, e), grind (arith, e))

-- at one label of one module
abbrev pub same_place : AppliedValue → AppliedValue → Bool
same_place a b = nat_eq a.«module» b.«module» && nat_eq a.label b.label

pub in_order : (n : ℕ) (rs : List FlowRule) (found sorted kept : List AppliedValue) → found ≡ filter_map (application_in n) rs → IsPermutation found sorted → IsSorted application_cmp sorted → kept ≡ dedup same_place sorted
    → AreApplications n rs kept
in_order n rs found sorted kept all moved up is = subst (AreApplications n rs) (sym (is ∙ ap (λ e. dedup e sorted) (λ i a b. same_keys a.«module» a.label b.«module» b.label i))) (record {
  ascending = IsStrictlySortedBy-dedup application_total (λ x y. refl) sorted up;
  each = λ a has. kept_of (application_in n) rs a (subst (λ xs. Contains xs a) all (Contains-permutation _ _ a (IsPermutation-sym _ _ moved) (Contains-from_dedup _ sorted a has)));
  all = there;
})
  where
    there : (r : FlowRule) (a : AppliedValue) → Contains rs r → application_in n r ≡ Some a → IsThere (dedup (eq_by_cmp application_cmp) sorted) a
    there r a has e =
        let first : Contains sorted a = Contains-permutation _ _ a moved (subst (λ xs. Contains xs a) (sym all) (is_kept (application_in n) rs r a has e)) in
        let k = Any-dedup (eq_by_cmp_equiv application_total) sorted a first in
        let same = tied_keys a.«module» a.label k.1.«module» k.1.label k.4 in
        (k.1, (k.0, k.2, k.3), same.0, same.1)
