-- The applications of values among rules.
use Rattle.std.specs.Prelude.{◌≡◌, ℕ, List, Contains, Option, Some, None, if◌then◌else◌, nat_lt}
use Rattle.std.specs.List.Sorted.{IsStrictlySortedBy}
use Rattle.std.specs.declared.cmp.Ordering.{Ordering}
use Rattle.std.specs.Ordering.{nat_cmp, on, then_cmp}
use Rattle.fun_flow_places.specs.declared.places.FlowRule.{FlowRule}
use Rattle.fun_flow_places.specs.declared.places.FlowRule.TheVariants.{Holds, Flows, Applies}
use Rattle.fun_flow_applied.specs.declared.applications.AppliedValue.{AppliedValue}

-- the application that a rule is, where its module is one of the first n
abbrev pub application_in : (n : ℕ) → FlowRule → Option AppliedValue
application_in n (Holds p x) = None
application_in n (Flows p q) = None
application_in n (Applies p k home l) = if nat_lt home n then Some (record { «module» = home; label = l; operator = p; arity = k }) else None

-- by module and label
abbrev pub application_cmp : AppliedValue → AppliedValue → Ordering
application_cmp = then_cmp (on (λ (a : AppliedValue). a.«module») nat_cmp) (on (λ (a : AppliedValue). a.label) nat_cmp)

-- There is one of this module and label.
abbrev pub IsThere : List AppliedValue → AppliedValue → Type 0
IsThere found a = (b : AppliedValue) × Contains found b × (b.«module» ≡ a.«module») × (b.label ≡ a.label)

-- The applications among rules of the first n modules, one at each label of a module.
pub record AreApplications (n : ℕ) (rs : List FlowRule) (found : List AppliedValue) : Type 0 where
  pub ascending : IsStrictlySortedBy application_cmp found
  pub each : (a : AppliedValue) → Contains found a → (r : FlowRule) × Contains rs r × (application_in n r ≡ Some a)
  pub all : (r : FlowRule) (a : AppliedValue) → Contains rs r → application_in n r ≡ Some a → IsThere found a
