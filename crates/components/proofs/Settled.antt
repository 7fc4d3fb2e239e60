-- The last pending target is closed, or stands on the path in the last block: so nothing waits for it.
use Rattle.std.proofs.Common.{◌≡◌, ℕ, ◌<◌, ◌≤◌, ◌⊎◌, inl, inr, List, [], ◌∷◌, ◌++◌, length, get_or, sym, ◌∙◌, subst, arith}
use Rattle.std.specs.Prelude.{All, slice_index}
use Rattle.std.proofs.lemmas.List.{length_push, get_or_append_left}
use Rattle.std.proofs.lemmas.List.Elements.{All-push}
use Rattle.components.specs.declared.search.NodeState.{NodeState}
use Rattle.components.specs.declared.search.NodeState.TheVariants.{Open, Closed}
use Rattle.components.specs.declared.search.Block.{Block}
use Rattle.components.specs.Graph.{Leads}
use Rattle.components.specs.steps.Search.{state_of, Settled, Awaits, HasSource, Before, Sound}
use Rattle.components.proofs.Appended.{push_cases}
use Rattle.components.proofs.Walks.{before_end}

module _ (graph : List (List ℕ)) (states : List NodeState) (path pending : List ℕ) (w : ℕ) (rest : List Block) (t : Block) (cursor count : ℕ)
    (s : Sound graph states path (pending ++ w ∷ []) (rest ++ t ∷ []) cursor count) (enough : t.below ≤ length pending)
    (known : ((c : ℕ) × (state_of states w ≡ Closed c)) ⊎ ((p : ℕ) × (state_of states w ≡ Open p) × (t.first ≤ p))) where
  earlier : All (λ b. Before b t) rest
  earlier = before_end rest t path (pending ++ w ∷ []) s.cut

  settles : (i : ℕ) → Settled states (rest ++ t ∷ []) i w
  settles i =
      elim known [
        | inl shut ↦ inl shut
        | inr up ↦ inr (
          up.0,
          up.1,
          All-push (λ b. b.first ≤ i → b.first ≤ up.0) rest t
              (λ k d under _. let old : ((get_or rest k d).first < t.first) × ((get_or rest k d).below ≤ t.below) = earlier k d under in omega (arith, up.2))
              (λ _. up.2),
        )
      ]

  open_leads' : (i g : ℕ) → i < length path → Leads graph (slice_index path i) g → Settled states (rest ++ t ∷ []) i g ⊎ Awaits pending (rest ++ t ∷ []) i g
  open_leads' i g under leads =
      elim (s.open_leads i g under leads) [
        | inl settled ↦ inl settled
        | inr pends ↦ elim (push_cases pending w 0 pends.0 pends.1) [
          | inl front ↦ inr (pends.0, front.0, sym front.1 ∙ pends.2, pends.3)
          | inr end ↦ inl (subst (λ v. Settled states (rest ++ t ∷ []) i v) (sym end.1 ∙ pends.2) (settles i))
        ]
      ]

  sources' : (k : ℕ) → k < length pending → HasSource graph path (rest ++ t ∷ []) k (slice_index pending k)
  sources' k under =
      subst (λ v. HasSource graph path (rest ++ t ∷ []) k v) (get_or_append_left pending (w ∷ []) 0 k under) (s.sources k (omega (arith, length_push pending w)))

  firsts : All (λ b. b.first < length path) (rest ++ t ∷ [])
  firsts k d under = (s.cut.within k d under).0

  within' : All (λ b. (b.first < length path) × (b.below ≤ length pending)) (rest ++ t ∷ [])
  within' k d under = (firsts k d under, belows k d under)
    where
      belows : All (λ b. b.below ≤ length pending) (rest ++ t ∷ [])
      belows = All-push (λ b. b.below ≤ length pending) rest t
          (λ q e low. let old : ((get_or rest q e).first < t.first) × ((get_or rest q e).below ≤ t.below) = earlier q e low in omega arith)
          enough

  pub settled : Sound graph states path pending (rest ++ t ∷ []) cursor count
  settled = record {
    sizes = s.sizes;
    on_path = s.on_path;
    open_position = s.open_position;
    closed_below = s.closed_below;
    closed_leads = s.closed_leads;
    closed_together = s.closed_together;
    closed_used = s.closed_used;
    joined = s.joined;
    open_leads = open_leads';
    sources = sources';
    cut = record { ascending = s.cut.ascending; within = within'; whole = s.cut.whole };
    passed = s.passed;
    fits = s.fits;
  }
