-- The last pending target stands on the path below the last block: so the last block and the one before it
-- are parts of one component, and become one block.
use Rattle.std.proofs.Common.{◌≡◌, ℕ, ◌<◌, ◌≤◌, ◌-◌, ◌⊎◌, inl, inr, List, [], ◌∷◌, ◌++◌, length, get_or, sym, ◌∙◌, ap, subst, arith}
use Rattle.std.specs.Prelude.{All, slice_index, slice_index_or}
use Rattle.std.proofs.lemmas.List.{length_push}
use Rattle.std.proofs.lemmas.List.Elements.{All-push}
use Rattle.std.proofs.lemmas.Bool.{cases_lt}
use Rattle.components.specs.declared.search.NodeState.{NodeState}
use Rattle.components.specs.declared.search.NodeState.TheVariants.{Open}
use Rattle.components.specs.declared.search.Block.{Block}
use Rattle.components.specs.Graph.{Leads}
use Rattle.components.specs.steps.Search.{state_of, Walk, FromBlock, Settled, Awaits, HasSource, Before, bottom, Sound}
use Rattle.components.proofs.Appended.{All-front, All-end, push_cases}
use Rattle.components.proofs.Walks.{walk_on, walk_pair, before_end, front_ascending}

module _ (graph : List (List ℕ)) (states : List NodeState) (path pending : List ℕ) (rest : List Block) (t : Block) (cursor count p : ℕ)
    (s : Sound graph states path pending (rest ++ t ∷ []) cursor count) (busy : t.below < length pending)
    (here : state_of states (slice_index pending (length pending - 1)) ≡ Open p) (low : p < t.first) where
  earlier : All (λ b. Before b t) rest
  earlier = before_end rest t path pending s.cut

  source : HasSource graph path (rest ++ t ∷ []) (length pending - 1) (slice_index pending (length pending - 1))
  source = s.sources (length pending - 1) (omega arith)

  source_high : t.first ≤ source.0
  source_high = (All-end (λ b. (b.first ≤ source.0 → b.below ≤ length pending - 1) × (b.below ≤ length pending - 1 → b.first ≤ source.0)) rest t source.3).1 (omega arith)

  -- from the last block down to the block of the pending target, and on
  down : (i j : ℕ) → i < length path → j < length path → t.first ≤ i → FromBlock rest i j → Walk graph (slice_index path i) (slice_index path j)
  down i j under_i under_j high from =
      let position = s.open_position (slice_index pending (length pending - 1)) p here in
      walk_on graph (slice_index path i) (slice_index path source.0) (slice_index path j)
      (s.joined i source.0 under_i source.1
      (All-push (λ b. b.first ≤ i → b.first ≤ source.0) rest t
      (λ k d under _. let old : ((get_or rest k d).first < t.first) × ((get_or rest k d).below ≤ t.below) = earlier k d under in omega (arith, source_high))
      (λ _. source_high)))
      (walk_on graph (slice_index path source.0) (slice_index path p) (slice_index path j)
      (subst (λ v. Walk graph (slice_index path source.0) v) (sym position.1) (walk_pair graph (slice_index path source.0) (slice_index pending (length pending - 1)) source.2))
      (s.joined p j position.0 under_j
      (All-push (λ b. b.first ≤ p → b.first ≤ j) rest t
      (λ k d under _. let old : ((get_or rest k d).first < t.first) × ((get_or rest k d).below ≤ t.below) = earlier k d under in from k d under (omega arith))
      (λ no. absurd (omega arith)))))

  joined' : (i j : ℕ) → i < length path → j < length path → FromBlock rest i j → Walk graph (slice_index path i) (slice_index path j)
  joined' i j under_i under_j from =
      elim (cases_lt i t.first) [
        | inl below_i ↦ s.joined i j under_i under_j (All-push (λ b. b.first ≤ i → b.first ≤ j) rest t from (λ no. absurd (omega arith)))
        | inr high ↦ down i j under_i under_j high from
      ]

  open_leads' : (i g : ℕ) → i < length path → Leads graph (slice_index path i) g → Settled states rest i g ⊎ Awaits pending rest i g
  open_leads' i g under leads =
      elim (s.open_leads i g under leads) [
        | inl settled ↦ inl (elim settled [
          | inl shut ↦ inl shut
          | inr up ↦ inr (up.0, up.1, All-front (λ b. b.first ≤ i → b.first ≤ up.0) rest t up.2)
        ])
        | inr pends ↦ inr (pends.0, pends.1, pends.2, All-front (λ b. b.first ≤ i → b.below ≤ pends.0) rest t pends.3)
      ]

  sources' : (k : ℕ) → k < length pending → HasSource graph path rest k (slice_index pending k)
  sources' k under =
      let old = s.sources k under in
      (old.0, old.1, old.2, All-front (λ b. (b.first ≤ old.0 → b.below ≤ k) × (b.below ≤ k → b.first ≤ old.0)) rest t old.3)

  whole' : 0 < length path → (k : ℕ) × (k < length rest) × ((slice_index_or rest k bottom).first ≡ 0)
  whole' some =
      let old = s.cut.whole some in
      elim (push_cases rest t bottom old.0 old.1) [
        | inl front ↦ (old.0, front.0, ap (λ (b : Block). b.first) (sym front.1) ∙ old.2)
        | inr end ↦ absurd (let zero_first : t.first ≡ 0 = ap (λ (b : Block). b.first) (sym end.1) ∙ old.2 in omega arith)
      ]

  pub merged : Sound graph states path pending rest cursor count
  merged = record {
    sizes = s.sizes;
    on_path = s.on_path;
    open_position = s.open_position;
    closed_below = s.closed_below;
    closed_leads = s.closed_leads;
    closed_together = s.closed_together;
    closed_used = s.closed_used;
    joined = joined';
    open_leads = open_leads';
    sources = sources';
    cut = record {
      ascending = front_ascending rest t path pending s.cut;
      within = All-front (λ b. (b.first < length path) × (b.below ≤ length pending)) rest t s.cut.within;
      whole = whole';
    };
    passed = s.passed;
    fits = omega (arith, s.fits, length_push rest t);
  }
