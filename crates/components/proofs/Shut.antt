-- No pair of the last block is pending: so it is a whole component, and gets the next number.
use Rattle.std.proofs.Common.{◌≡◌, ℕ, ◌+◌, ◌<◌, ◌≤◌, ◌⊎◌, inl, inr, List, [], ◌∷◌, ◌++◌, length, get_or, take, refl, sym, ◌∙◌, ap, subst, arith}
use Rattle.std.specs.Prelude.{All, slice_index, slice_index_or}
use Rattle.std.proofs.lemmas.List.{length_push, length-take-le, get_or-take}
use Rattle.std.proofs.lemmas.List.Elements.{All-push}
use Rattle.std.proofs.lemmas.Bool.{cases_lt}
use Rattle.components.specs.declared.search.NodeState.{NodeState}
use Rattle.components.specs.declared.search.NodeState.TheVariants.{Unseen, Open, Closed}
use Rattle.components.specs.declared.search.Block.{Block}
use Rattle.components.specs.Graph.{Leads, Together}
use Rattle.components.specs.steps.Search.{state_of, Walk, FromBlock, Settled, Awaits, HasSource, Before, bottom, Sound, Closes}
use Rattle.components.proofs.Appended.{All-front, All-end, push_cases}
use Rattle.components.proofs.Walks.{both_walk, before_end, front_ascending}

module _ (graph : List (List ℕ)) (states states' : List NodeState) (path pending : List ℕ) (rest : List Block) (t : Block) (cursor count : ℕ)
    (s : Sound graph states path pending (rest ++ t ∷ []) cursor count) (idle : length pending ≤ t.below)
    (c : Closes states states' path t.first (length path) count) where
  earlier : All (λ b. Before b t) rest
  earlier = before_end rest t path pending s.cut

  on_start : t.first < length path
  on_start = (All-end (λ b. (b.first < length path) × (b.below ≤ length pending)) rest t s.cut.within).0

  kept_length : length (take t.first path) ≡ t.first
  kept_length = length-take-le t.first path (omega (arith, on_start))

  kept_at : (p : ℕ) → p < t.first → slice_index (take t.first path) p ≡ slice_index path p
  kept_at p under = get_or-take t.first path p 0 under

  -- a node is of the block that is closed, or its state stays
  cases : (f : ℕ) → ((p : ℕ) × (state_of states f ≡ Open p) × (t.first ≤ p) × (state_of states' f ≡ Closed count))
      ⊎ ((state_of states' f ≡ state_of states f) × ((p : ℕ) → state_of states f ≡ Open p → p < t.first))
  cases f = go (state_of states f) refl
    where
      apart : (m : NodeState) → state_of states f ≡ m → ((p : ℕ) → t.first ≤ p → m ≡ Open p → ⊥) → state_of states' f ≡ state_of states f
      apart m e never = c.others f (λ p high under is. never p high (sym e ∙ ap (state_of states) (sym is) ∙ s.on_path p under))

      go : (m : NodeState) → state_of states f ≡ m → ((p : ℕ) × (state_of states f ≡ Open p) × (t.first ≤ p) × (state_of states' f ≡ Closed count))
          ⊎ ((state_of states' f ≡ state_of states f) × ((p : ℕ) → state_of states f ≡ Open p → p < t.first))
      go Unseen e = inr (apart Unseen e (λ p high no. cc), λ p no. absurd (let bad : Unseen ≡ Open p = sym e ∙ no in cc))
      go (Closed d) e = inr (apart (Closed d) e (λ p high no. cc), λ p no. absurd (let bad : Closed d ≡ Open p = sym e ∙ no in cc))
      go (Open q) e =
          elim (cases_lt q t.first) [
            | inl under ↦ inr (
              apart (Open q) e (λ p high is. let same : q ≡ p = cc in omega arith),
              λ p is. let both : Open q ≡ Open p = sym e ∙ is in let same : q ≡ p = cc in omega arith,
            )
            | inr high ↦
                let position = s.open_position f q e in
                inl (q, e, high, ap (state_of states') (sym position.1) ∙ c.shut q high position.0)
          ]

  stays : (f d : ℕ) → state_of states f ≡ Closed d → state_of states' f ≡ Closed d
  stays f d e =
      elim (cases f) [
        | inl block ↦ absurd (let bad : Open block.0 ≡ Closed d = sym block.1 ∙ e in cc)
        | inr other ↦ other.0 ∙ e
      ]

  on_path' : (p : ℕ) → p < length (take t.first path) → state_of states' (slice_index (take t.first path) p) ≡ Open p
  on_path' p under =
      let low : p < t.first = omega (arith, kept_length) in
      let old : state_of states (slice_index path p) ≡ Open p = s.on_path p (omega (arith, on_start)) in
      ap (state_of states') (kept_at p low) ∙ elim (cases (slice_index path p)) [
        | inl block ↦ absurd (let bad : Open block.0 ≡ Open p = sym block.1 ∙ old in let same : block.0 ≡ p = cc in omega (arith, block.2))
        | inr other ↦ other.0 ∙ old
      ]

  open_position' : (f p : ℕ) → state_of states' f ≡ Open p → (p < length (take t.first path)) × (slice_index (take t.first path) p ≡ f)
  open_position' f p e =
      elim (cases f) [
        | inl block ↦ absurd (let bad : Closed count ≡ Open p = sym block.3 ∙ e in cc)
        | inr other ↦
            let was : state_of states f ≡ Open p = sym other.0 ∙ e in
            let old = s.open_position f p was in
            let low : p < t.first = other.1 p was in
            (omega (arith, kept_length), kept_at p low ∙ old.1)
      ]

  -- a closed node is of the block, with the new number, or was closed before
  closed_cases : (f d : ℕ) → state_of states' f ≡ Closed d → ((p : ℕ) × (state_of states f ≡ Open p) × (t.first ≤ p) × (d ≡ count)) ⊎ (state_of states f ≡ Closed d)
  closed_cases f d e =
      elim (cases f) [
        | inl block ↦ inl (block.0, block.1, block.2, let both : Closed d ≡ Closed count = sym e ∙ block.3 in cc)
        | inr other ↦ inr (sym other.0 ∙ e)
      ]

  closed_below' : (f d : ℕ) → state_of states' f ≡ Closed d → d < count + 1
  closed_below' f d e =
      elim (closed_cases f d e) [
        | inl block ↦ omega (arith, block.3)
        | inr old ↦ omega (arith, s.closed_below f d old)
      ]

  closed_leads' : (f g d : ℕ) → state_of states' f ≡ Closed d → Leads graph f g → (n : ℕ) × (state_of states' g ≡ Closed n) × (n ≤ d)
  closed_leads' f g d e leads =
      elim (closed_cases f d e) [
        | inl block ↦
            let position = s.open_position f block.0 block.1 in
            elim (s.open_leads block.0 g position.0 (subst (λ v. Leads graph v g) (sym position.1) leads)) [
              | inl settled ↦ elim settled [
                | inl shut ↦ (shut.0, stays g shut.0 shut.1, omega (arith, block.3, s.closed_below g shut.0 shut.1))
                | inr up ↦
                    let to = s.open_position g up.0 up.1 in
                    let high : t.first ≤ up.0 = All-end (λ b. b.first ≤ block.0 → b.first ≤ up.0) rest t up.2 block.2 in
                    (count, ap (state_of states') (sym to.1) ∙ c.shut up.0 high to.0, omega (arith, block.3))
              ]
              | inr pends ↦ absurd (let at : t.below ≤ pends.0 = All-end (λ b. b.first ≤ block.0 → b.below ≤ pends.0) rest t pends.3 block.2 in omega (arith, pends.1))
            ]
        | inr old ↦ let was = s.closed_leads f g d old leads in (was.0, stays g was.0 was.1, was.2)
      ]

  walk_in : (i j : ℕ) → i < length path → j < length path → t.first ≤ j → Walk graph (slice_index path i) (slice_index path j)
  walk_in i j under_i under_j high =
      s.joined i j under_i under_j
      (All-push (λ b. b.first ≤ i → b.first ≤ j) rest t
      (λ k d under _. let old : ((get_or rest k d).first < t.first) × ((get_or rest k d).below ≤ t.below) = earlier k d under in omega arith)
      (λ _. high))

  together_in : (f g p q : ℕ) → state_of states f ≡ Open p → state_of states g ≡ Open q → t.first ≤ p → t.first ≤ q → Together graph f g
  together_in f g p q at_f at_g high_p high_q =
      let from = s.open_position f p at_f in
      let to = s.open_position g q at_g in
      let there : Walk graph f g = subst (λ v. Walk graph v g) from.1 (subst (λ v. Walk graph (slice_index path p) v) to.1 (walk_in p q from.0 to.0 high_q)) in
      let back : Walk graph g f = subst (λ v. Walk graph v f) to.1 (subst (λ v. Walk graph (slice_index path q) v) from.1 (walk_in q p to.0 from.0 high_p)) in
      both_walk graph f g there back

  closed_together' : (f g d : ℕ) → state_of states' f ≡ Closed d → state_of states' g ≡ Closed d → Together graph f g
  closed_together' f g d e_f e_g =
      elim (closed_cases f d e_f) [
        | inl block_f ↦ elim (closed_cases g d e_g) [
          | inl block_g ↦ together_in f g block_f.0 block_g.0 block_f.1 block_g.1 block_f.2 block_g.2
          | inr old_g ↦ absurd (omega (arith, block_f.3, s.closed_below g d old_g))
        ]
        | inr old_f ↦ elim (closed_cases g d e_g) [
          | inl block_g ↦ absurd (omega (arith, block_g.3, s.closed_below f d old_f))
          | inr old_g ↦ s.closed_together f g d old_f old_g
        ]
      ]

  closed_used' : (d : ℕ) → d < count + 1 → (f : ℕ) × (state_of states' f ≡ Closed d)
  closed_used' d under =
      elim (cases_lt d count) [
        | inl low ↦ let old = s.closed_used d low in (old.0, stays old.0 d old.1)
        | inr high ↦
            let is : count ≡ d = omega arith in
            (slice_index path t.first, c.shut t.first (omega arith) on_start ∙ ap Closed is)
      ]

  joined' : (i j : ℕ) → i < length (take t.first path) → j < length (take t.first path) → FromBlock rest i j
      → Walk graph (slice_index (take t.first path) i) (slice_index (take t.first path) j)
  joined' i j under_i under_j from =
      let low_i : i < t.first = omega (arith, kept_length) in
      let low_j : j < t.first = omega (arith, kept_length) in
      rw (kept_at i low_i, kept_at j low_j) (s.joined i j (omega (arith, on_start)) (omega (arith, on_start))
      (All-push (λ b. b.first ≤ i → b.first ≤ j) rest t from (λ no. absurd (omega arith))))

  open_leads' : (i g : ℕ) → i < length (take t.first path) → Leads graph (slice_index (take t.first path) i) g → Settled states' rest i g ⊎ Awaits pending rest i g
  open_leads' i g under leads =
      let low : i < t.first = omega (arith, kept_length) in
      elim (s.open_leads i g (omega (arith, on_start)) (subst (λ v. Leads graph v g) (kept_at i low) leads)) [
        | inl settled ↦ inl (elim settled [
          | inl shut ↦ inl (shut.0, stays g shut.0 shut.1)
          | inr up ↦ elim (cases g) [
            | inl block ↦ inl (count, block.3)
            | inr other ↦ inr (up.0, other.0 ∙ up.1, All-front (λ b. b.first ≤ i → b.first ≤ up.0) rest t up.2)
          ]
        ])
        | inr pends ↦ inr (pends.0, pends.1, pends.2, All-front (λ b. b.first ≤ i → b.below ≤ pends.0) rest t pends.3)
      ]

  sources' : (k : ℕ) → k < length pending → HasSource graph (take t.first path) rest k (slice_index pending k)
  sources' k under =
      let old = s.sources k under in
      let at = All-end (λ b. (b.first ≤ old.0 → b.below ≤ k) × (b.below ≤ k → b.first ≤ old.0)) rest t old.3 in
      let low : old.0 < t.first = elim (cases_lt old.0 t.first) [ inl under_it ↦ under_it | inr over ↦ absurd (let bad : t.below ≤ k = at.0 over in omega arith) ] in (
        old.0,
        omega (arith, kept_length),
        subst (λ v. Leads graph v (slice_index pending k)) (sym (kept_at old.0 low)) old.2,
        All-front (λ b. (b.first ≤ old.0 → b.below ≤ k) × (b.below ≤ k → b.first ≤ old.0)) rest t old.3,
      )

  within' : All (λ b. (b.first < length (take t.first path)) × (b.below ≤ length pending)) rest
  within' k d under =
      let old : ((get_or rest k d).first < t.first) × ((get_or rest k d).below ≤ t.below) = earlier k d under in
      let all : ((get_or rest k d).first < length path) × ((get_or rest k d).below ≤ length pending) = All-front (λ b. (b.first < length path) × (b.below ≤ length pending)) rest t s.cut.within k d under in
      (omega (arith, kept_length), all.1)

  whole' : 0 < length (take t.first path) → (k : ℕ) × (k < length rest) × ((slice_index_or rest k bottom).first ≡ 0)
  whole' some =
      let old = s.cut.whole (omega (arith, on_start)) in
      elim (push_cases rest t bottom old.0 old.1) [
        | inl front ↦ (old.0, front.0, ap (λ (b : Block). b.first) (sym front.1) ∙ old.2)
        | inr end ↦ absurd (let zero_first : t.first ≡ 0 = ap (λ (b : Block). b.first) (sym end.1) ∙ old.2 in omega (arith, kept_length))
      ]

  passed' : (f : ℕ) → f < cursor → state_of states' f ≡ Unseen → ⊥
  passed' f under e =
      elim (cases f) [
        | inl block ↦ let bad : Closed count ≡ Unseen = sym block.3 ∙ e in cc
        | inr other ↦ s.passed f under (sym other.0 ∙ e)
      ]

  pub shut : Sound graph states' (take t.first path) pending rest cursor (count + 1)
  shut = record {
    sizes = c.same_length ∙ s.sizes;
    on_path = on_path';
    open_position = open_position';
    closed_below = closed_below';
    closed_leads = closed_leads';
    closed_together = closed_together';
    closed_used = closed_used';
    joined = joined';
    open_leads = open_leads';
    sources = sources';
    cut = record { ascending = front_ascending rest t path pending s.cut; within = within'; whole = whole' };
    passed = passed';
    fits = omega (arith, s.fits, c.same_fresh, length_push rest t);
  }
