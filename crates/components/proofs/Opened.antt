-- A node that the search hasn't seen is opened: it comes last on the path, as a block of its own, and its
-- targets are pending.
use Rattle.std.proofs.Common.{◌≡◌, ℕ, ◌+◌, ◌<◌, ◌≤◌, ◌-◌, ◌⊎◌, inl, inr, List, [], ◌∷◌, ◌++◌, length, get_or, set, refl, sym, ◌∙◌, ap, subst, arith}
use Rattle.std.specs.Prelude.{sum_by, slice_index, slice_index_or}
use Rattle.std.proofs.lemmas.List.{length-append, length_push, length-set, get_or_append_left, get_or_push, get_or-append-add, get_or_default}
use Rattle.std.proofs.lemmas.List.Elements.{All-push}
use Rattle.std.proofs.lemmas.List.Sums.{sum_by-set}
use Rattle.std.proofs.lemmas.Bool.{cases_lt}
use Rattle.components.specs.declared.search.NodeState.{NodeState}
use Rattle.components.specs.declared.search.NodeState.TheVariants.{Unseen, Open, Closed}
use Rattle.components.specs.declared.search.Block.{Block}
use Rattle.components.specs.Graph.{targets, Leads}
use Rattle.components.specs.steps.Search.{state_of, fresh, Walk, FromBlock, Settled, Awaits, HasSource, Before, bottom, Cut, Sound}
use Rattle.components.proofs.Appended.{All-front, All-end, push_cases, append_cases, state_cases}

-- the block of the new node
abbrev pub block_of : List ℕ → List ℕ → Block
block_of path pending = record { first = length path; below = length pending }

module _ (graph : List (List ℕ)) (states : List NodeState) (path pending : List ℕ) (blocks : List Block) (cursor count w : ℕ)
    (s : Sound graph states path pending blocks cursor count) (low : w < length graph) (new : state_of states w ≡ Unseen)
    (reached : (i : ℕ) → i < length path → Walk graph (slice_index path i) w) where
  has_mark : w < length states
  has_mark = omega (arith, s.sizes)

  marked : (f : ℕ) → ((f ≡ w) × (state_of (set states w (Open (length path))) f ≡ Open (length path))) ⊎ ((f ≡ w → ⊥) × (state_of (set states w (Open (length path))) f ≡ state_of states f))
  marked f = state_cases states w (Open (length path)) f has_mark

  -- a state that was made before stays
  stays : (f : ℕ) (m : NodeState) → (m ≡ Unseen → ⊥) → state_of states f ≡ m → state_of (set states w (Open (length path))) f ≡ m
  stays f m seen e =
      elim (marked f) [
        | inl here ↦ absurd (seen (sym e ∙ ap (state_of states) here.0 ∙ new))
        | inr other ↦ other.1 ∙ e
      ]

  -- a closed node was closed before
  was_closed : (f c : ℕ) → state_of (set states w (Open (length path))) f ≡ Closed c → state_of states f ≡ Closed c
  was_closed f c e = elim (marked f) [ inl here ↦ absurd (let no : Open (length path) ≡ Closed c = sym here.1 ∙ e in cc) | inr other ↦ sym other.1 ∙ e ]

  sizes' : length (set states w (Open (length path))) ≡ length graph
  sizes' = length-set states w _ ∙ s.sizes

  on_path' : (p : ℕ) → p < length (path ++ w ∷ []) → state_of (set states w (Open (length path))) (slice_index (path ++ w ∷ []) p) ≡ Open p
  on_path' p under =
      elim (push_cases path w 0 p under) [
        | inl old ↦ rw old.1 (stays (slice_index path p) (Open p) (λ e. cc) (s.on_path p old.0))
        | inr end ↦
            rw end.1 (elim (marked w) [
              | inl here ↦ here.1 ∙ ap Open (sym end.0)
              | inr other ↦ absurd (other.0 refl)
            ])
      ]

  open_position' : (f p : ℕ) → state_of (set states w (Open (length path))) f ≡ Open p → (p < length (path ++ w ∷ [])) × (slice_index (path ++ w ∷ []) p ≡ f)
  open_position' f p e =
      elim (marked f) [
        | inl here ↦
            let same : Open (length path) ≡ Open p = sym here.1 ∙ e in
            let is : length path ≡ p = cc in
            (omega (arith, length_push path w), get_or_push path w 0 p is ∙ sym here.0)
        | inr other ↦
            let old = s.open_position f p (sym other.1 ∙ e) in
            (omega (arith, length_push path w), get_or_append_left path (w ∷ []) 0 p old.0 ∙ old.1)
      ]

  closed_leads' : (f g c : ℕ) → state_of (set states w (Open (length path))) f ≡ Closed c → Leads graph f g → (d : ℕ) × (state_of (set states w (Open (length path))) g ≡ Closed d) × (d ≤ c)
  closed_leads' f g c e leads =
      let old = s.closed_leads f g c (was_closed f c e) leads in
      (old.0, stays g (Closed old.0) (λ e. cc) old.1, old.2)

  closed_used' : (c : ℕ) → c < count → (f : ℕ) × (state_of (set states w (Open (length path))) f ≡ Closed c)
  closed_used' c under =
      let old = s.closed_used c under in
      (old.0, stays old.0 (Closed c) (λ e. cc) old.1)

  -- the new block is that of the new position alone
  not_new : (i j : ℕ) → i ≡ length path → j < length path → FromBlock (blocks ++ block_of path pending ∷ []) i j → ⊥
  not_new i j e under from =
      let at = All-end (λ b. b.first ≤ i → b.first ≤ j) blocks (block_of path pending) from in
      let too_low : length path ≤ j = at (omega arith) in
      omega arith

  joined' : (i j : ℕ) → i < length (path ++ w ∷ []) → j < length (path ++ w ∷ []) → FromBlock (blocks ++ block_of path pending ∷ []) i j → Walk graph (slice_index (path ++ w ∷ []) i) (slice_index (path ++ w ∷ []) j)
  joined' i j under_i under_j from =
      elim (push_cases path w 0 i under_i) [
        | inl old_i ↦ elim (push_cases path w 0 j under_j) [
          | inl old_j ↦ rw (old_i.1, old_j.1) (s.joined i j old_i.0 old_j.0 (All-front (λ b. b.first ≤ i → b.first ≤ j) blocks (block_of path pending) from))
          | inr end_j ↦ rw (old_i.1, end_j.1) (reached i old_i.0)
        ]
        | inr end_i ↦ elim (push_cases path w 0 j under_j) [
          | inl old_j ↦ absurd (not_new i j end_i.0 old_j.0 from)
          | inr end_j ↦ inl (end_i.1 ∙ sym end_j.1)
        ]
      ]

  settles : (i g : ℕ) → i < length path → Settled states blocks i g → Settled (set states w (Open (length path))) (blocks ++ block_of path pending ∷ []) i g
  settles i g under old =
      elim old [
        | inl shut ↦ inl (shut.0, stays g (Closed shut.0) (λ e. cc) shut.1)
        | inr up ↦ inr (
          up.0,
          stays g (Open up.0) (λ e. cc) up.1,
          All-push (λ b. b.first ≤ i → b.first ≤ up.0) blocks (block_of path pending) up.2 (λ no. absurd (omega arith)),
        )
      ]

  awaits : (i g : ℕ) → i < length path → Awaits pending blocks i g → Awaits (pending ++ targets graph w) (blocks ++ block_of path pending ∷ []) i g
  awaits i g under old = (
    old.0,
    omega (arith, length-append pending (targets graph w)),
    get_or_append_left pending (targets graph w) 0 old.0 old.1 ∙ old.2,
    All-push (λ b. b.first ≤ i → b.below ≤ old.0) blocks (block_of path pending) old.3 (λ no. absurd (omega arith)),
  )

  awaits_new : (i g : ℕ) → Leads graph w g → Awaits (pending ++ targets graph w) (blocks ++ block_of path pending ∷ []) i g
  awaits_new i g (k, under, is) = (
    length pending + k,
    omega (arith, length-append pending (targets graph w)),
    get_or-append-add pending (targets graph w) k 0 ∙ get_or_default (targets graph w) k 0 g under ∙ is,
    All-push (λ b. b.first ≤ i → b.below ≤ length pending + k) blocks (block_of path pending)
        (λ q d in_blocks _. let w : (get_or blocks q d).below ≤ length pending = (s.cut.within q d in_blocks).1 in omega arith)
        (λ _. omega arith),
  )

  open_leads' : (i g : ℕ) → i < length (path ++ w ∷ []) → Leads graph (slice_index (path ++ w ∷ []) i) g
      → Settled (set states w (Open (length path))) (blocks ++ block_of path pending ∷ []) i g ⊎ Awaits (pending ++ targets graph w) (blocks ++ block_of path pending ∷ []) i g
  open_leads' i g under leads =
      elim (push_cases path w 0 i under) [
        | inl old ↦ elim (s.open_leads i g old.0 (subst (λ v. Leads graph v g) old.1 leads)) [
          | inl settled ↦ inl (settles i g old.0 settled)
          | inr pends ↦ inr (awaits i g old.0 pends)
        ]
        | inr end ↦ inr (awaits_new i g (subst (λ v. Leads graph v g) end.1 leads))
      ]

  source_old : (k g : ℕ) → k < length pending → HasSource graph path blocks k g → HasSource graph (path ++ w ∷ []) (blocks ++ block_of path pending ∷ []) k g
  source_old k g under (i, on, leads, at) = (
    i,
    omega (arith, length_push path w),
    subst (λ v. Leads graph v g) (sym (get_or_append_left path (w ∷ []) 0 i on)) leads,
    All-push (λ b. (b.first ≤ i → b.below ≤ k) × (b.below ≤ k → b.first ≤ i)) blocks (block_of path pending) at
        ((λ no. absurd (omega arith)), (λ no. absurd (omega arith))),
  )

  source_new : (k g : ℕ) → length pending ≤ k → Leads graph w g → HasSource graph (path ++ w ∷ []) (blocks ++ block_of path pending ∷ []) k g
  source_new k g over leads = (
    length path,
    omega (arith, length_push path w),
    subst (λ v. Leads graph v g) (sym (get_or_push path w 0 (length path) refl)) leads,
    All-push (λ b. (b.first ≤ length path → b.below ≤ k) × (b.below ≤ k → b.first ≤ length path)) blocks (block_of path pending)
        (λ q d under.
        let inside : ((get_or blocks q d).first < length path) × ((get_or blocks q d).below ≤ length pending) = s.cut.within q d under in
        ((λ _. omega arith), (λ _. omega arith)))
        ((λ _. omega arith), (λ _. omega arith)),
  )

  leads_to : (j : ℕ) → j < length (targets graph w) → Leads graph w (slice_index (targets graph w) j)
  leads_to j under = (j, under, get_or_default (targets graph w) j _ 0 under)

  sources' : (k : ℕ) → k < length (pending ++ targets graph w) → HasSource graph (path ++ w ∷ []) (blocks ++ block_of path pending ∷ []) k (slice_index (pending ++ targets graph w) k)
  sources' k under =
      elim (append_cases pending (targets graph w) 0 k under) [
        | inl old ↦ rw old.1 (source_old k (slice_index pending k) old.0 (s.sources k old.0))
        | inr fresh_one ↦ rw fresh_one.2 (source_new k (slice_index (targets graph w) (k - length pending)) fresh_one.0 (leads_to (k - length pending) fresh_one.1))
      ]

  ascending' : (i j : ℕ) → i < j → j < length (blocks ++ block_of path pending ∷ [])
      → Before (slice_index_or (blocks ++ block_of path pending ∷ []) i bottom) (slice_index_or (blocks ++ block_of path pending ∷ []) j bottom)
  ascending' i j less under =
      elim (push_cases blocks (block_of path pending) bottom j under) [
        | inl old ↦
            rw (old.1, get_or_append_left blocks (block_of path pending ∷ []) bottom i (omega arith)) (s.cut.ascending i j less old.0)
        | inr end ↦
            rw (end.1, get_or_append_left blocks (block_of path pending ∷ []) bottom i (omega arith)) (s.cut.within i bottom (omega arith))
      ]

  cut' : Cut (blocks ++ block_of path pending ∷ []) (path ++ w ∷ []) (pending ++ targets graph w)
  cut' = record {
    ascending = ascending';
    within = All-push (λ b. (b.first < length (path ++ w ∷ [])) × (b.below ≤ length (pending ++ targets graph w))) blocks (block_of path pending)
        (λ k d under.
        let old : ((get_or blocks k d).first < length path) × ((get_or blocks k d).below ≤ length pending) = s.cut.within k d under in
        (omega (arith, length_push path w), omega (arith, length-append pending (targets graph w))))
        (omega (arith, length_push path w), omega (arith, length-append pending (targets graph w)));
    whole = λ _. whole' (cases_lt 0 (length path));
  }
    where
      whole' : (0 < length path) ⊎ (length path ≤ 0) → (k : ℕ) × (k < length (blocks ++ block_of path pending ∷ [])) × ((slice_index_or (blocks ++ block_of path pending ∷ []) k bottom).first ≡ 0)
      whole' (inl some) =
          let old = s.cut.whole some in (
            old.0,
            omega (arith, length_push blocks (block_of path pending)),
            ap (λ (b : Block). b.first) (get_or_append_left blocks (block_of path pending ∷ []) bottom old.0 old.1) ∙ old.2,
          )
      whole' (inr none) = (
        length blocks,
        omega (arith, length_push blocks (block_of path pending)),
        ap (λ (b : Block). b.first) (get_or_push blocks (block_of path pending) bottom (length blocks) refl) ∙ omega arith,
      )

  passed' : (f : ℕ) → f < cursor → state_of (set states w (Open (length path))) f ≡ Unseen → ⊥
  passed' f under e =
      elim (marked f) [
        | inl here ↦ absurd (let no : Open (length path) ≡ Unseen = sym here.1 ∙ e in cc)
        | inr other ↦ s.passed f under (sym other.1 ∙ e)
      ]

  pub fresh_falls : sum_by fresh (set states w (Open (length path))) + 1 ≡ sum_by fresh states
  fresh_falls =
      let sum : sum_by fresh (set states w (Open (length path))) + fresh (state_of states w) ≡ sum_by fresh states + 0 = sum_by-set fresh states w (Open (length path)) Unseen has_mark in
      let one : fresh (state_of states w) ≡ 1 = ap fresh new in
      omega arith

  pub opened : Sound graph (set states w (Open (length path))) (path ++ w ∷ []) (pending ++ targets graph w) (blocks ++ block_of path pending ∷ []) cursor count
  opened = record {
    sizes = sizes';
    on_path = on_path';
    open_position = open_position';
    closed_below = λ f c e. s.closed_below f c (was_closed f c e);
    closed_leads = closed_leads';
    closed_together = λ f g c a b. s.closed_together f g c (was_closed f c a) (was_closed g c b);
    closed_used = closed_used';
    joined = joined';
    open_leads = open_leads';
    sources = sources';
    cut = cut';
    passed = passed';
    fits = omega (arith, s.fits, fresh_falls, length_push blocks (block_of path pending));
  }
