-- What the search has found at its end.
use Rattle.std.proofs.Common.{◌≡◌, ℕ, ◌<◌, ◌≤◌, List, [], length, refl, sym, ◌∙◌, ap, arith}
use Rattle.std.specs.Prelude.{slice_index}
use Rattle.components.specs.declared.search.Block.{Block}
use Rattle.components.specs.declared.search.NodeState.{NodeState}
use Rattle.components.specs.declared.search.NodeState.TheVariants.{Unseen, Open, Closed}
use Rattle.components.specs.Graph.{IsGraph, Leads}
use Rattle.components.specs.steps.Phases.{StrongComponents}
use Rattle.components.specs.steps.Search.{state_of, Sound}
use Rattle.components.specs.steps.State.{AllClosed, ComponentsAre}
use Rattle.components.proofs.Orders.{leads_low}

module _ (graph : List (List ℕ)) (states : List NodeState) (path pending : List ℕ) (blocks : List Block) (cursor count : ℕ)
    (s : Sound graph states path pending blocks cursor count) (empty : path ≡ []) (all : length graph ≤ cursor) where
  pub closed : AllClosed states
  closed f under = go (state_of states f) refl
    where
      go : (m : NodeState) → state_of states f ≡ m → (c : ℕ) × (state_of states f ≡ Closed c)
      go Unseen e = absurd (s.passed f (omega (arith, s.sizes)) e)
      go (Open p) e = absurd (let position = s.open_position f p e in omega (arith, position.0, ap length empty))
      go (Closed c) e = (c, e)

module _ (graph : List (List ℕ)) (states : List NodeState) (path pending : List ℕ) (blocks : List Block) (cursor count : ℕ) (component_of : List ℕ)
    (g : IsGraph graph) (s : Sound graph states path pending blocks cursor count) (h : ComponentsAre states component_of) where
  at_component : (f : ℕ) → f < length graph → state_of states f ≡ Closed (slice_index component_of f)
  at_component f under = h.1 f (omega (arith, s.sizes))

  downward : (f t : ℕ) → Leads graph f t → slice_index component_of t ≤ slice_index component_of f
  downward f t leads =
      let next = s.closed_leads f t (slice_index component_of f) (at_component f (leads_low graph f t leads)) leads in
      let same : Closed next.0 ≡ Closed (slice_index component_of t) = sym next.1 ∙ at_component t (g.inside f t leads) in
      let is : next.0 ≡ slice_index component_of t = cc in
      omega (arith, next.2)

  pub strong : StrongComponents graph component_of count
  strong = record {
    sizes = h.0 ∙ s.sizes;
    below = λ f under. s.closed_below f (slice_index component_of f) (at_component f under);
    joined = λ f t under_f under_t e. s.closed_together f t (slice_index component_of f) (at_component f under_f) (at_component t under_t ∙ ap Closed (sym e));
    downward = downward;
  }
