-- The numbers in ready order, from the ordinals of the strong components and the order of the ordinals.
use Rattle.std.proofs.Common.{◌≡◌, ℕ, ◌<◌, ◌≤◌, ◌⊎◌, inl, inr, List, length, refl, sym, ◌∙◌, ap, subst, arith}
use Rattle.std.specs.Prelude.{slice_index}
use Rattle.std.proofs.lemmas.Bool.{cases_lt, cases_eq}
use Rattle.components.specs.steps.ComponentLists.{IsMembers, CalleesTo}
use Rattle.components.specs.Graph.{IsGraph, Leads, Reaches, by_pair, by_pairs, Together}
use Rattle.components.specs.steps.Ordinals.{HasOrdinals}
use Rattle.components.specs.Numbering.{ComponentCalls, InReady, IsNumbering}
use Rattle.components.specs.steps.Phases.{StrongComponents, ReadyComponents}
use Rattle.components.specs.steps.Order.{IsAcyclic, IsInside, InReadyOrder}
use Rattle.components.proofs.Orders.{leads_low}

module _ (graph : List (List ℕ)) (found ordinals : List ℕ) (found_count ordinal_count : ℕ) (callees : List (List ℕ))
    (g : IsGraph graph) (st : StrongComponents graph found found_count) (lb : HasOrdinals found ordinals ordinal_count) (cs : CalleesTo graph ordinals callees ordinal_count) where
  ordinal_low : (f : ℕ) → f < length graph → slice_index ordinals f < ordinal_count
  ordinal_low f low = lb.below f (omega (arith, st.sizes))

  -- the component of a node with the ordinal
  abbrev level_by : (c : ℕ) → (c < ordinal_count) ⊎ (ordinal_count ≤ c) → ℕ
  level_by c (inl low) = slice_index found (lb.used c low).0
  level_by c (inr high) = 0

  level_is : (f : ℕ) → f < length graph → (d : (slice_index ordinals f < ordinal_count) ⊎ (ordinal_count ≤ slice_index ordinals f)) → level_by (slice_index ordinals f) d ≡ slice_index found f
  level_is f low (inl under) =
      let other = lb.used (slice_index ordinals f) under in
      (lb.same other.0 f other.1 (omega (arith, st.sizes))).1 other.2
  level_is f low (inr over) = absurd (omega (arith, ordinal_low f low))

  calls : (c e : ℕ) → Leads callees c e → ComponentCalls graph ordinals c e
  calls c e leads = (cs.exact c e (omega (arith, leads_low callees c e leads, cs.sizes))).0 leads

  pub inside : IsInside callees
  inside c e leads =
      let pair = (calls c e leads).1 in
      omega (arith, cs.sizes, ordinal_low pair.1 (g.inside pair.0 pair.1 pair.3), pair.4)

  level_falls : (c e : ℕ) → Leads callees c e → level_by e (cases_lt e ordinal_count) < level_by c (cases_lt c ordinal_count)
  level_falls c e leads =
      let call = calls c e leads in
      let f = call.1.0 in
      let t = call.1.1 in
      let low_f : f < length graph = leads_low graph f t call.1.3 in
      let low_t : t < length graph = g.inside f t call.1.3 in
      let at_c : level_by c (cases_lt c ordinal_count) ≡ slice_index found f = subst (λ k. level_by k (cases_lt k ordinal_count) ≡ slice_index found f) call.1.2 (level_is f low_f (cases_lt (slice_index ordinals f) ordinal_count)) in
      let at_e : level_by e (cases_lt e ordinal_count) ≡ slice_index found t = subst (λ k. level_by k (cases_lt k ordinal_count) ≡ slice_index found t) call.1.4 (level_is t low_t (cases_lt (slice_index ordinals t) ordinal_count)) in
      let most : slice_index found t ≤ slice_index found f = st.downward f t call.1.3 in
      let ne : slice_index found t ≡ slice_index found f → ⊥ =
      λ same. call.0 (sym call.1.4 ∙ (lb.same t f (omega (arith, st.sizes)) (omega (arith, st.sizes))).0 same ∙ call.1.2) in
      elim (cases_lt (slice_index found t) (slice_index found f)) [
        | inl less ↦ omega (arith, at_c, at_e)
        | inr over ↦ absurd (ne (omega arith))
      ]

  pub acyclic : IsAcyclic callees
  acyclic = ((λ c. level_by c (cases_lt c ordinal_count)), level_falls)

  module _ (numbers component_of : List ℕ) (count : ℕ) (ro : InReadyOrder callees numbers count) (same_length : length component_of ≡ length ordinals)
      (are : (f : ℕ) → f < length ordinals → slice_index component_of f ≡ slice_index numbers (slice_index ordinals f)) where
    component_is : (f : ℕ) → f < length graph → slice_index component_of f ≡ slice_index numbers (slice_index ordinals f)
    component_is f low = are f (omega (arith, lb.sizes, st.sizes))

    below_callees : (f : ℕ) → f < length graph → slice_index ordinals f < length callees
    below_callees f low = omega (arith, ordinal_low f low, cs.sizes)

    joined' : (f t : ℕ) → f < length graph → t < length graph → slice_index component_of f ≡ slice_index component_of t → Together graph f t
    joined' f t low_f low_t e =
        let ordinals_same : slice_index ordinals f ≡ slice_index ordinals t =
        ro.apart (slice_index ordinals f) (slice_index ordinals t) (below_callees f low_f) (below_callees t low_t) (sym (component_is f low_f) ∙ e ∙ component_is t low_t) in
        st.joined f t low_f low_t ((lb.same f t (omega (arith, st.sizes)) (omega (arith, st.sizes))).1 ordinals_same)

    downward' : (f t : ℕ) → Leads graph f t → slice_index component_of t ≤ slice_index component_of f
    downward' f t leads =
        let low_f = leads_low graph f t leads in
        let low_t = g.inside f t leads in
        elim (cases_eq (slice_index ordinals t) (slice_index ordinals f)) [
          | inl same ↦ omega (arith, component_is f low_f, component_is t low_t, ap (slice_index numbers) same)
          | inr ne ↦
              let call : Leads callees (slice_index ordinals f) (slice_index ordinals t) =
              (cs.exact (slice_index ordinals f) (slice_index ordinals t) (ordinal_low f low_f)).1 (ne, (f, t, refl, leads, refl)) in
              omega (arith, component_is f low_f, component_is t low_t, ro.callees_first (slice_index ordinals f) (slice_index ordinals t) call)
        ]

    falls' : (f t : ℕ) → Reaches graph f t → slice_index component_of t ≤ slice_index component_of f
    falls' f t (by_pair _ _ leads) = downward' f t leads
    falls' f t (by_pairs _ m _ leads more) = omega (arith, downward' f m leads, falls' m t more)

    together' : (f t : ℕ) → f < length graph → t < length graph → Together graph f t → slice_index component_of f ≡ slice_index component_of t
    together' f t low_f low_t (inl e) = ap (slice_index component_of) e
    together' f t low_f low_t (inr both) = omega (arith, falls' f t both.0, falls' t f both.1)

    used' : (n : ℕ) → n < count → (f : ℕ) × (f < length graph) × (slice_index component_of f ≡ n)
    used' n under =
        let component = ro.used n under in
        let node = lb.used component.0 (omega (arith, component.1, cs.sizes)) in
        let low : node.0 < length graph = omega (arith, node.1, st.sizes) in
        (node.0, low, component_is node.0 low ∙ ap (slice_index numbers) node.2 ∙ component.2)

    ready' : InReady graph component_of count
    ready' n f under low most all =
        let component = ro.used n under in
        let least : component.0 ≤ slice_index ordinals f =
        ro.least_first (slice_index ordinals f) component.0 (below_callees f low) component.1 (omega (arith, component.2, component_is f low)) before in
        let node = lb.by_least f component.0 (omega (arith, st.sizes)) least in
        let node_low : node.0 < length graph = omega (arith, node.1) in
        (node.0, node.1, component_is node.0 node_low ∙ ap (slice_index numbers) node.2 ∙ component.2)
      where
        before : (e : ℕ) → Leads callees (slice_index ordinals f) e → slice_index numbers e < slice_index numbers (ro.used n under).0
        before e leads =
            let call = calls (slice_index ordinals f) e leads in
            let a = call.1.0 in
            let b = call.1.1 in
            let low_a = leads_low graph a b call.1.3 in
            let low_b = g.inside a b call.1.3 in
            let component_a : slice_index component_of a ≡ slice_index component_of f = component_is a low_a ∙ ap (slice_index numbers) call.1.2 ∙ sym (component_is f low) in
            let component_b : slice_index component_of b ≡ slice_index numbers e = component_is b low_b ∙ ap (slice_index numbers) call.1.4 in
            elim (all a b component_a call.1.3) [
              | inl same ↦ absurd (call.0 (ro.apart e (slice_index ordinals f) (inside (slice_index ordinals f) e leads) (below_callees f low) (sym component_b ∙ same ∙ component_is f low)))
              | inr less ↦ omega (arith, component_b, (ro.used n under).2)
            ]

    pub ready_order_components : ReadyComponents graph component_of count
    ready_order_components = record {
      strong = record {
        sizes = same_length ∙ lb.sizes ∙ st.sizes;
        below = λ f low. subst (λ n. n < count) (sym (component_is f low)) (ro.below (slice_index ordinals f) (below_callees f low));
        joined = joined';
        downward = downward';
      };
      together = together';
      used = used';
      ready = ready';
    }

-- what a numbering keeps
pub kept_numbering : (graph : List (List ℕ)) (component_of : List ℕ) (count : ℕ) (members callees : List (List ℕ)) → ReadyComponents graph component_of count
    → IsMembers component_of members count → CalleesTo graph component_of callees count → IsNumbering (record { component_of = component_of; count = count; members = members; callees = callees })
kept_numbering graph component_of count members callees r ms cs =
    record {
      members_sizes = ms.sizes;
      callees_sizes = cs.sizes;
      members_sorted = λ n under. ms.sorted n;
      callees_sorted = λ n under. cs.sorted n under;
      callees_below = λ n m under has.
          let call = (cs.exact n m under).0 has in
          let most = r.strong.downward call.1.0 call.1.1 call.1.3 in
          elim (cases_lt m n) [
            | inl less ↦ less
            | inr high ↦ absurd (call.0 (omega (arith, most, call.1.2, call.1.4)))
          ];
    }
