-- Looking up what a place holds.
use Rattle.std.proofs.Common.{◌≡◌, ◌↔◌, ℕ, ◌≤◌, List, [], Contains, Some, length, slice_get, sym, ap, ◌∙◌, subst}
use Rattle.std.proofs.lemmas.List.{get_or_past}
use Rattle.type_kinds.proofs.Lists.{contains_at, contains_none}
use Rattle.components.specs.Graph.{targets}
use Rattle.fun_flow_places.specs.declared.places.FlowPlace.{FlowPlace}
use Rattle.fun_flow_numbers.specs.Held.{HeldNumbers, HoldsNumber}

-- past the end there is nothing
pub nothing_past : (sets : List (List ℕ)) (number : ℕ) → length sets ≤ number → [] ≡ targets sets number
nothing_past sets number past = sym (get_or_past sets number [] past)

pub held_missing : (held : HeldNumbers) (p : FlowPlace) → (Contains held.places p → ⊥) → (x : ℕ) → Contains [] x ↔ HoldsNumber held p x
held_missing held p missing x = (λ c. absurd (contains_none x c), λ h. absurd (missing (contains_at held.places h.0 p h.1)))

module _ (held : HeldNumbers) (p : FlowPlace) (number : ℕ) (there : slice_get held.places number ≡ Some p) (only : (other : ℕ) → slice_get held.places other ≡ Some p → other ≡ number) where
  pub held_found : (xs : List ℕ) → xs ≡ targets held.sets number → (x : ℕ) → Contains xs x ↔ HoldsNumber held p x
  held_found xs is x = (λ c. (number, there, subst (λ l. Contains l x) is c), λ h. subst (λ l. Contains l x) (ap (targets held.sets) (only h.0 h.1) ∙ sym is) h.2)
