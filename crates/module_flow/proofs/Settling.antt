-- The rounds of a flow end: a round behind the first ones that leaves a state as it is leaves it so for good.
use Rattle.std.proofs.Common.{◌≡◌, ℕ, zero, suc, ◌+◌, ◌-◌, ◌<◌, ◌≤◌, ◌⊎◌, inl, inr, Bool, true, false, cond, length, refl, sym, ap, ◌∙◌, subst, le-ltb, ltb-true, ltb-false, add-one, arith}
use Rattle.std.specs.Prelude.{IsTrue, ◌↔◌, nat_lt}
use Rattle.core_ast.specs.Model as m
use Rattle.type_lattice.specs.Types.{Type4}
use Rattle.type_lattice.specs.Inclusion.{is_same}
use Rattle.module_flow.specs.Flow.{Callees, after_rounds, first_state, last_round, last_state, made_of, world}
use Rattle.module_flow_walk.specs.Contributions.{contributions_of_functions}
use Rattle.module_flow_state.specs.Scopes.{outermost}
use Rattle.module_flow_state.specs.Settled.{labels_of}
use Rattle.module_flow_state.specs.States.{FlowState, joined_rounds, next_state, widened}
use Rattle.module_flow_state.proofs.Labels.{next_labels, same_length, takes_labels, takes_length}
use Rattle.module_flow_state.proofs.Widening.{Turn, narrow_count, count_within, turns, widened_itself, all_wide}

module _ (same : (s t : Type4) → IsTrue (is_same s t) ↔ (s ≡ t)) where
  -- a state that a round leaves as it is, is left so by later rounds
  pub next_still : (k j : ℕ) (st made : FlowState) → k ≤ j → next_state k st made ≡ st → next_state j st made ≡ st
  next_still k j st made h e = by (nat_lt k joined_rounds) (nat_lt j joined_rounds) refl refl
    where
      by : (a b : Bool) → nat_lt k joined_rounds ≡ a → nat_lt j joined_rounds ≡ b → next_state j st made ≡ st
      by true true p q =
          let was : made ≡ st = ap (λ x. cond x made (widened st made)) (sym p) ∙ e in
          ap (λ x. cond x made (widened st made)) q ∙ was
      by true false p q =
          let was : made ≡ st = ap (λ x. cond x made (widened st made)) (sym p) ∙ e in
          ap (λ x. cond x made (widened st made)) q ∙ ap (widened st) was ∙ widened_itself same st
      by false true p q =
          let late : joined_rounds ≤ k = ltb-false k joined_rounds p in
          let early : j < joined_rounds = ltb-true j joined_rounds q in
          absurd (omega arith)
      by false false p q =
          let was : widened st made ≡ st = ap (λ x. cond x made (widened st made)) (sym p) ∙ e in
          ap (λ x. cond x made (widened st made)) q ∙ was

  module _ (callees : Callees) (x : m.Module) where
    -- the state after k rounds, and what the next one makes of it
    abbrev pub states : ℕ → FlowState
    states = after_rounds callees x

    abbrev pub made : ℕ → FlowState
    made k = made_of callees x (after_rounds callees x k)

    pub round_labels : (k : ℕ) → labels_of (states k) ≡ labels_of (first_state x)
    round_labels zero = refl
    round_labels (suc k) =
        next_labels k (states k) (made k) (takes_labels (states k) (contributions_of_functions (world callees x (states k)) outermost x.defs))
        ∙ round_labels k

    pub round_length : (k : ℕ) → length (states k) ≡ length (first_state x)
    round_length k = same_length (first_state x) (states k) (round_labels k)

    made_length : (k : ℕ) → length (made k) ≡ length (states k)
    made_length k = takes_length (states k) (contributions_of_functions (world callees x (states k)) outermost x.defs)

    -- ---- where a round changes nothing

    module _ (k : ℕ) (still : states (suc k) ≡ states k) where
      later : (j n : ℕ) → n ≡ j + k → states n ≡ states k
      later zero n e = ap states (e ∙ nothing_more k)
        where
          nothing_more : (i : ℕ) → 0 + i ≡ i
          nothing_more i = omega arith
      later (suc j) n e =
          ap states (e ∙ one_more j k)
          ∙ ap (λ st. next_state (j + k) st (made_of callees x st)) (later j (j + k) refl)
          ∙ next_still k (j + k) (states k) (made k) (omega arith) still
        where
          one_more : (a b : ℕ) → suc a + b ≡ suc (a + b)
          one_more a b = omega arith

      pub stays : (n : ℕ) → k ≤ n → states n ≡ states k
      stays n e = later (n - k) n (there n k e)
        where
          there : (a b : ℕ) → b ≤ a → a ≡ a - b + b
          there a b h = omega arith

    -- ---- that rounds come to that

    -- a late round leaves the state as it is
    abbrev pub Still : ℕ → Type 0
    Still k = widened (states k) (made k) ≡ states k

    late : (j : ℕ) → nat_lt (joined_rounds + j) joined_rounds ≡ false
    late j = le-ltb (joined_rounds + j) joined_rounds (omega arith)

    widens : (j : ℕ) → states (suc (joined_rounds + j)) ≡ widened (states (joined_rounds + j)) (made (joined_rounds + j))
    widens j = ap (λ b. cond b (made (joined_rounds + j)) (widened (states (joined_rounds + j)) (made (joined_rounds + j)))) (late j)

    next_same : (j : ℕ) → Still (joined_rounds + j) → Still (suc (joined_rounds + j))
    next_same j h = subst (λ st. widened st (made_of callees x st) ≡ st) (sym (widens j ∙ h)) h

    -- all that may change yet
    abbrev pub bound : ℕ
    bound = length (first_state x) + length (first_state x)

    widening : (j : ℕ) → Still (joined_rounds + j) ⊎ (narrow_count (states (joined_rounds + j)) + j ≤ bound)
    widening zero =
        let few = count_within (states (joined_rounds + 0)) in
        let all = round_length (joined_rounds + 0) in
        inr (omega (arith, few, all))
    widening (suc j) = subst (λ k. Still k ⊎ (narrow_count (states k) + suc j ≤ bound)) (one_more j) (by (widening j))
      where
        one_more : (i : ℕ) → suc (joined_rounds + i) ≡ joined_rounds + suc i
        one_more i = omega arith

        next : narrow_count (states (joined_rounds + j)) + j ≤ bound
            → Turn narrow_count (states (joined_rounds + j)) (widened (states (joined_rounds + j)) (made (joined_rounds + j)))
            → Still (suc (joined_rounds + j)) ⊎ (narrow_count (states (suc (joined_rounds + j))) + suc j ≤ bound)
        next h (inl t) = inl (next_same j t)
        next h (inr t) = let e = ap narrow_count (widens j) in inr (omega (arith, h, t, e))

        by : Still (joined_rounds + j) ⊎ (narrow_count (states (joined_rounds + j)) + j ≤ bound)
            → Still (suc (joined_rounds + j)) ⊎ (narrow_count (states (suc (joined_rounds + j))) + suc j ≤ bound)
        by (inl h) = inl (next_same j h)
        by (inr h) = next h (turns same (states (joined_rounds + j)) (made (joined_rounds + j)) (made_length (joined_rounds + j)))

    pub last_still : widened (last_state callees x) (made_of callees x (last_state callees x)) ≡ last_state callees x
    last_still = by (widening bound)
      where
        by : Still (joined_rounds + bound) ⊎ (narrow_count (states (joined_rounds + bound)) + bound ≤ bound) → Still (joined_rounds + bound)
        by (inl h) = h
        by (inr h) =
            all_wide same (states (joined_rounds + bound)) (made (joined_rounds + bound)) (made_length (joined_rounds + bound)) (omega (arith, h))

    -- a late round leaves the last state as it is
    pub last_unchanged : (k : ℕ) → joined_rounds ≤ k → next_state k (last_state callees x) (made_of callees x (last_state callees x)) ≡ last_state callees x
    last_unchanged k h =
        ap (λ b. cond b (made_of callees x (last_state callees x)) (widened (last_state callees x) (made_of callees x (last_state callees x)))) (le-ltb k joined_rounds h)
        ∙ last_still

    pub ends : (k : ℕ) → last_round callees x ≤ k → states k ≡ last_state callees x
    ends k h = stays (last_round callees x) (last_unchanged (last_round callees x) (omega arith)) k h

    -- the first state that a round leaves unchanged is the last one
    pub first_still : (k : ℕ) (st next : FlowState) → k ≤ last_round callees x → st ≡ states k → next ≡ next_state k st (made_of callees x st) → next ≡ st → next ≡ last_state callees x
    first_still k st next h at made_so unchanged =
        unchanged ∙ at ∙ sym (stays k (sym (made_so ∙ ap (λ s. next_state k s (made_of callees x s)) at) ∙ unchanged ∙ at) (last_round callees x) h)

    -- one round more
    pub next_round : (k : ℕ) (st next : FlowState) → st ≡ states k → next ≡ next_state k st (made_of callees x st) → next ≡ states (k + 1)
    next_round k st next at made_so =
        made_so ∙ ap (λ s. next_state k s (made_of callees x s)) at ∙ ap states (sym (add-one k))
