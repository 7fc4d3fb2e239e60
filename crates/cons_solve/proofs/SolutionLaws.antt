-- What narrowing again and again reaches is the greatest solution, and there is only one.
use Rattle.std.proofs.Common.{◌≡◌, ℕ, zero, suc, ◌<◌, Option, Some, None, refl, sym, ap, ◌∙◌, subst, arith, inl, inr, ◌⊎◌}
use Rattle.cons_tree.specs.Constraints.{Cons, ConsList, only, all_of, any_of, no_cons, and_cons}
use Rattle.cons_solve.specs.Solutions.{Space, on_some, turns, State, greatest}
use Rattle.cons_solve.specs.Solutions as W
use Rattle.cons_solve.specs.steps.Passes as P

module _ (S : Space) (laws : W.Laws S) where
  open S use {Env, Part, Leq, join, rank, narrow}

  abbrev Under : State S → State S → Type 0
  Under r s = W.Under S r s

  abbrev joined : State S → State S → State S
  joined r s = W.joined S r s

  abbrev Solves : Cons Part → Env → Type 0
  Solves c e = W.Solves S c e

  abbrev SolvesEach : ConsList Part → Env → Type 0
  SolvesEach cs e = W.SolvesEach S cs e

  abbrev IsJoin : ConsList Part → Env → State S → Type 0
  IsJoin cs e j = W.IsJoin S cs e j

  abbrev IsGreatest : (Env → Type 0) → Env → State S → Type 0
  IsGreatest Q e s = W.IsGreatest S Q e s

  -- ---- states in order

  pub below_self : (s : State S) → Under s s
  below_self None = tt
  below_self (Some e) = laws.self e

  pub below_through : (r s t : State S) → Under r s → Under s t → Under r t
  below_through None s t h k = tt
  below_through (Some e) None t h k = absurd h
  below_through (Some e) (Some f) None h k = k
  below_through (Some e) (Some f) (Some g) h k = laws.through e f g h k

  pub below_both : (r s : State S) → Under r s → Under s r → r ≡ s
  below_both None None h k = refl
  below_both None (Some e) h k = absurd k
  below_both (Some e) None h k = absurd h
  below_both (Some e) (Some f) h k = ap Some (laws.same e f h k)

  pub join_left : (r s : State S) (e : Env) → Under r (Some e) → Under s (Some e) → Under r (joined r s)
  join_left None s e h k = tt
  join_left (Some f) None e h k = laws.self f
  join_left (Some f) (Some g) e h k = laws.left f g e h k

  pub join_right : (r s : State S) (e : Env) → Under r (Some e) → Under s (Some e) → Under s (joined r s)
  join_right None s e h k = below_self s
  join_right (Some f) None e h k = tt
  join_right (Some f) (Some g) e h k = laws.right f g e h k

  join_least : (r s : State S) (e : Env) → Under r (Some e) → Under s (Some e) → Under (joined r s) (Some e)
  join_least None s e h k = k
  join_least (Some f) None e h k = h
  join_least (Some f) (Some g) e h k = laws.least f g e h k

  -- the join is below each bound of both, also where that is Bottom
  join_under : (r s t : State S) → Under r t → Under s t → Under (joined r s) t
  join_under None s t h k = k
  join_under (Some f) None t h k = h
  join_under (Some f) (Some g) None h k = absurd h
  join_under (Some f) (Some g) (Some e) h k = laws.least f g e h k

  on_below : (r : State S) (f : Env → State S) (t : State S) → Under r t → ((e : Env) → Under (Some e) t → Under (f e) t) → Under (on_some r f) t
  on_below None f t h k = tt
  on_below (Some e) f t h k = k e h

  on_above : (x : Env) (r : State S) (f : Env → State S) → Under (Some x) r → ((y : Env) → Leq x y → Under (Some x) (f y)) → Under (Some x) (on_some r f)
  on_above x None f h k = absurd h
  on_above x (Some y) f h k = k y h

  -- ---- turns

  turns_below : (n : ℕ) (f : Env → State S) (e : Env) (t : State S) → ((x : Env) → Under (f x) (Some x)) → Under (Some e) t → Under (turns n f e) t
  turns_below zero f e t k h = h
  turns_below (suc n) f e t k h =
      on_below (f e) (turns n f) t (below_through (f e) (Some e) t (k e) h) (λ x g. turns_below n f x t k g)

  turns_above : (x : Env) (n : ℕ) (f : Env → State S) → ((y : Env) → Leq x y → Under (Some x) (f y)) → (y : Env) → Leq x y → Under (Some x) (turns n f y)
  turns_above x zero f k y h = h
  turns_above x (suc n) f k y h = on_above x (f y) (turns n f) (k y h) (λ z g. turns_above x n f k z g)

  stays : (n : ℕ) (f : Env → State S) (x : Env) → f x ≡ Some x → turns n f x ≡ Some x
  stays zero f x h = refl
  stays (suc n) f x h = subst (λ o. on_some o (turns n f) ≡ Some x) (sym h) (stays n f x h)

  some_is : {A : Type 0} {x y : A} → ◌≡◌ {A = Option A} (Some x) (Some y) → x ≡ y
  some_is h = cc

  none_some : {A : Type 0} {y : A} → ◌≡◌ {A = Option A} None (Some y) → ⊥
  none_some h = cc

  -- after more turns than the rank, one more changes nothing
  settles : (n : ℕ) (f : Env → State S) → ((x : Env) → Under (f x) (Some x)) → (x y : Env) → rank x < n → turns n f x ≡ Some y → f y ≡ Some y
  settles zero f k x y l e = absurd (omega (arith, l))
  settles (suc n) f k x y l e = go (f x) refl e (λ z. settles n f k z y)
    where
      at : (z : Env) → f x ≡ Some z → turns n f z ≡ Some y → (rank z < n → turns n f z ≡ Some y → f y ≡ Some y) → (z ≡ x) ⊎ (rank z < rank x) → f y ≡ Some y
      at z h e' ih (inl s) =
          let fx : f x ≡ Some x = subst (λ w. f x ≡ Some w) s h in
          let tx : turns n f x ≡ Some y = subst (λ w. turns n f w ≡ Some y) s e' in
          let same : x ≡ y = some_is (sym (stays n f x fx) ∙ tx) in
          subst (λ w. f w ≡ Some w) same fx
      at z h e' ih (inr d) = ih (omega (arith, l, d)) e'

      go : (o : State S) → f x ≡ o → on_some o (turns n f) ≡ Some y → ((z : Env) → rank z < n → turns n f z ≡ Some y → f y ≡ Some y) → f y ≡ Some y
      go None h e' ih = absurd (none_some e')
      go (Some z) h e' ih = at z h e' (ih z) (laws.falls x z (subst (λ o. Under o (Some x)) h (k x)))

  rank_below : (x y : Env) (n : ℕ) → Leq y x → rank x < n → rank y < n
  rank_below x y n h l = go (laws.falls x y h)
    where
      go : (y ≡ x) ⊎ (rank y < rank x) → rank y < n
      go (inl e) = subst (λ z. rank z < n) (sym e) l
      go (inr d) = omega (arith, d, l)

  -- ---- what is reached

  module _ (limit : ℕ) where
    abbrev reached : Cons Part → Env → State S
    reached c e = W.reached S limit c e

    abbrev sweep : ConsList Part → Env → State S
    sweep cs e = W.sweep S limit cs e

    abbrev alternatives : ConsList Part → Env → State S
    alternatives cs e = W.alternatives S limit cs e

    mutual
      pub reached_below : (c : Cons Part) (e : Env) → Under (reached c e) (Some e)
      reached_below (only p) e = turns_below limit (narrow p) e (Some e) (laws.narrow_below p) (laws.self e)
      reached_below (all_of cs) e = turns_below limit (W.sweep S limit cs) e (Some e) (λ x. sweep_below cs x) (laws.self e)
      reached_below (any_of cs) e = alternatives_below cs e

      sweep_below : (cs : ConsList Part) (e : Env) → Under (sweep cs e) (Some e)
      sweep_below no_cons e = laws.self e
      sweep_below (and_cons c cs) e =
          on_below (reached c e) (W.sweep S limit cs) (Some e) (reached_below c e) (λ x h. below_through (sweep cs x) (Some x) (Some e) (sweep_below cs x) h)

      pub alternatives_below : (cs : ConsList Part) (e : Env) → Under (alternatives cs e) (Some e)
      alternatives_below no_cons e = tt
      alternatives_below (and_cons c cs) e =
          join_least (reached c e) (alternatives cs e) e (reached_below c e) (alternatives_below cs e)
      -- each solution below the environment is below what is reached, whatever the limit

    mutual
      reached_above : (c : Cons Part) (x e : Env) → Leq x e → Solves c x → Under (Some x) (reached c e)
      reached_above (only p) x e h s =
          turns_above x limit (narrow p) (λ y k. subst (λ o. Under o (narrow p y)) s (laws.narrow_grows p x y k)) e h
      reached_above (all_of cs) x e h s = turns_above x limit (W.sweep S limit cs) (λ y k. sweep_above cs x y k s) e h
      reached_above (any_of cs) x e h s = alternatives_above cs x e (Some x) h s

      sweep_above : (cs : ConsList Part) (x e : Env) → Leq x e → SolvesEach cs x → Under (Some x) (sweep cs e)
      sweep_above no_cons x e h s = h
      sweep_above (and_cons c cs) x e h s =
          on_above x (reached c e) (W.sweep S limit cs) (reached_above c x e h s.0) (λ y k. sweep_above cs x y k s.1)

      alternatives_above : (cs : ConsList Part) (x e : Env) (j : State S) → Leq x e → IsJoin cs x j → Under j (alternatives cs e)
      alternatives_above no_cons x e j h s = subst (λ t. Under t None) (sym s) tt
      alternatives_above (and_cons c cs) x e j h w =
          let best = w.2 in
          let up : (r : State S) → Under r (Some x) → W.Holds S (W.Solves S c) r → Under r (reached c e) = λ r.
          elim r as (λ r. Under r (Some x) → W.Holds S (W.Solves S c) r → Under r (reached c e)) [
            | None ↦ λ _ _. tt
            | Some z ↦ λ b q. reached_above c z e (laws.through z x e b h) q
          ] in
          let first = below_through w.0 (reached c e) (joined (reached c e) (alternatives cs e)) (up w.0 best.below best.holds) (join_left (reached c e) (alternatives cs e) e (reached_below c e) (alternatives_below cs e)) in
          let rest = below_through w.1 (alternatives cs e) (joined (reached c e) (alternatives cs e)) (alternatives_above cs x e w.1 h w.3) (join_right (reached c e) (alternatives cs e) e (reached_below c e) (alternatives_below cs e)) in
          subst (λ t. Under t (joined (reached c e) (alternatives cs e))) (sym w.4) (join_under w.0 w.1 (joined (reached c e) (alternatives cs e)) first rest)

    -- with a limit above the rank, what is reached solves
    settled : (f : Env → State S) → ((x : Env) → Under (f x) (Some x)) → (e : Env) → rank e < limit → (Q : Env → Type 0) → ((y : Env) → Leq y e → f y ≡ Some y → Q y) → W.Holds S Q (turns limit f e)
    settled f k e l Q g = at (turns limit f e) refl
      where
        at : (r : State S) → turns limit f e ≡ r → W.Holds S Q r
        at None h = tt
        at (Some y) h =
            g y (subst (λ r. Under r (Some e)) h (turns_below limit f e (Some e) k (laws.self e))) (settles limit f k e y l h)

    on_same : (r : State S) (f : Env → State S) (y : Env) → Under r (Some y) → ((x : Env) → Under (f x) (Some x)) → on_some r f ≡ Some y → r ≡ Some y
    on_same None f y h k e = absurd (none_some e)
    on_same (Some z) f y h k e = ap Some (laws.same z y h (subst (λ r. Under r (Some z)) e (k z)))

    mutual
      reached_solve : (c : Cons Part) (e : Env) → rank e < limit → W.Holds S (W.Solves S c) (reached c e)
      reached_solve (only p) e l =
          settled (narrow p) (laws.narrow_below p) e l (W.Solves S (only p)) (λ y h q. q)
      reached_solve (all_of cs) e l =
          settled (W.sweep S limit cs) (λ x. sweep_below cs x) e l (W.Solves S (all_of cs)) (λ y h q. each_solves cs y (rank_below e y limit h l) q)
      reached_solve (any_of cs) e l =
          at (alternatives cs e) refl (λ y k. joins cs y k) (λ y h b. again cs e y l h b)
        where
          at : (r : State S) → alternatives cs e ≡ r → ((y : Env) → rank y < limit → IsJoin cs y (alternatives cs y))
              → ((y : Env) → Leq y e → Under (alternatives cs e) (Some y) → Under (alternatives cs e) (alternatives cs y)) → W.Holds S (W.Solves S (any_of cs)) r
          at None q j g = tt
          at (Some y) q j g =
              let h : Leq y e = subst (λ r. Under r (Some e)) q (alternatives_below cs e) in
              let up = subst (λ r. Under r (alternatives cs y)) q (g y h (subst (λ r. Under r (Some y)) (sym q) (laws.self y))) in
              let fixed : alternatives cs y ≡ Some y = below_both (alternatives cs y) (Some y) (alternatives_below cs y) up in
              subst (λ r. IsJoin cs y r) fixed (j y (rank_below e y limit h l))

      each_solves : (cs : ConsList Part) (y : Env) → rank y < limit → sweep cs y ≡ Some y → SolvesEach cs y
      each_solves no_cons y l q = tt
      each_solves (and_cons c cs) y l q =
          let first : reached c y ≡ Some y = on_same (reached c y) (W.sweep S limit cs) y (reached_below c y) (λ x. sweep_below cs x) q in
          let rest : sweep cs y ≡ Some y = subst (λ r. on_some r (W.sweep S limit cs) ≡ Some y) first q in
          (subst (λ r. W.Holds S (W.Solves S c) r) first (reached_solve c y l), each_solves cs y l rest)

      joins : (cs : ConsList Part) (y : Env) → rank y < limit → IsJoin cs y (alternatives cs y)
      joins no_cons y l = refl
      joins (and_cons c cs) y l =
          (reached c y, alternatives cs y, record { below = reached_below c y; holds = reached_solve c y l; above = λ x h s. reached_above c x y h s }, joins cs y l, refl)

      again : (cs : ConsList Part) (e y : Env) → rank e < limit → Leq y e → Under (alternatives cs e) (Some y) → Under (alternatives cs e) (alternatives cs y)
      again no_cons e y l h b = tt
      again (and_cons c cs) e y l h b =
          let r = reached c e in
          let s = alternatives cs e in
          let whole = joined (reached c y) (alternatives cs y) in
          let r_in = below_through r (joined r s) (Some y) (join_left r s e (reached_below c e) (alternatives_below cs e)) b in
          let s_in = below_through s (joined r s) (Some y) (join_right r s e (reached_below c e) (alternatives_below cs e)) b in
          let first = below_through r (reached c y) whole (up r r_in (reached_solve c e l) (λ z g q. reached_above c z y g q)) (join_left (reached c y) (alternatives cs y) y (reached_below c y) (alternatives_below cs y)) in
          let rest = below_through s (alternatives cs y) whole (again cs e y l h s_in) (join_right (reached c y) (alternatives cs y) y (reached_below c y) (alternatives_below cs y)) in
          join_under r s whole first rest
        where
          up : (r : State S) → Under r (Some y) → W.Holds S (W.Solves S c) r → ((z : Env) → Leq z y → Solves c z → Under (Some z) (reached c y)) → Under r (reached c y)
          up None b q g = tt
          up (Some z) b q g = g z b q

  -- ---- the laws of the greatest solution

  pub is_greatest : (c : Cons Part) (e : Env) → IsGreatest (W.Solves S c) e (greatest S c e)
  unfolding greatest
  is_greatest c e = record {
    below = reached_below (suc (rank e)) c e;
    holds = reached_solve (suc (rank e)) c e (omega arith);
    above = λ x h s. reached_above (suc (rank e)) c x e h s;
  }

  pub one_greatest : (Q : Env → Type 0) (e : Env) (r s : State S) → IsGreatest Q e r → IsGreatest Q e s → r ≡ s
  one_greatest Q e r s g h = below_both r s (up r s g.below g.holds h.above) (up s r h.below h.holds g.above)
    where
      up : (r s : State S) → Under r (Some e) → W.Holds S Q r → ((x : Env) → Leq x e → Q x → Under (Some x) s) → Under r s
      up None s b q g = tt
      up (Some x) s b q g = g x b q

  -- a greatest state is the function's
  pub greatest_is : (c : Cons Part) (e : Env) (s : State S) → IsGreatest (W.Solves S c) e s → greatest S c e ≡ s
  greatest_is c e s g = one_greatest (W.Solves S c) e (greatest S c e) s (is_greatest c e) g

  pub greatest_grows : (c : Cons Part) (x y : Env) → Leq x y → Under (greatest S c x) (greatest S c y)
  greatest_grows c x y h = at (greatest S c x) (is_greatest c x).below (is_greatest c x).holds
    where
      at : (r : State S) → Under r (Some x) → W.Holds S (W.Solves S c) r → Under r (greatest S c y)
      at None b q = tt
      at (Some z) b q = (is_greatest c y).above z (laws.through z x y b h) q

  -- ---- a step of the code keeps the greatest solution

  -- below an environment and above all solutions below it, the greatest solution is the same
  pub moved : (Q : Env → Type 0) (e f : Env) (s : State S) → Leq f e → ((x : Env) → Leq x e → Q x → Leq x f) → IsGreatest Q f s → IsGreatest Q e s
  moved Q e f s h k g = record {
    below = below_through s (Some f) (Some e) g.below h;
    holds = g.holds;
    above = λ x b q. g.above x (k x b q) q;
  }

  pub no_solution : (Q : Env → Type 0) (e : Env) → ((x : Env) → Leq x e → Q x → ⊥) → IsGreatest Q e None
  no_solution Q e k = record { below = tt; holds = tt; above = k }

  pub own_solution : (Q : Env → Type 0) (e : Env) → Q e → IsGreatest Q e (Some e)
  own_solution Q e q = record { below = laws.self e; holds = q; above = λ x b _. b }

  -- ---- on from what is known of the solutions

  -- below an environment that is above each solution, the greatest solution is the same
  pub solved_on : (c : Cons Part) (e f : Env) → Leq f e → ((x : Env) → Leq x e → Solves c x → Leq x f) → greatest S c f ≡ greatest S c e
  solved_on c e f h k = sym (greatest_is c e (greatest S c f) (moved (W.Solves S c) e f _ h k (is_greatest c f)))

  -- each solution is below the greatest one
  pub stays_under : (c : Cons Part) (e : Env) (s : State S) → greatest S c e ≡ s → (x : Env) → Leq x e → Solves c x → Under (Some x) s
  stays_under c e s h x b q = subst (Under (Some x)) h ((is_greatest c e).above x b q)

  pub part_moves : (p : Part) (e f : Env) → narrow p e ≡ Some f → greatest S (only p) f ≡ greatest S (only p) e
  part_moves p e f h =
      sym (greatest_is (only p) e (greatest S (only p) f) (moved (W.Solves S (only p)) e f _ (subst (λ r. Under r (Some e)) h (laws.narrow_below p e))
      (λ x b q. subst (Under (Some x)) h (subst (λ r. Under r (narrow p e)) q (laws.narrow_grows p x e b))) (is_greatest (only p) f)))

  pub part_stays : (p : Part) (e : Env) → narrow p e ≡ Some e → greatest S (only p) e ≡ Some e
  part_stays p e h = greatest_is (only p) e (Some e) (own_solution (W.Solves S (only p)) e h)

  pub part_dies : (p : Part) (e : Env) → narrow p e ≡ None → greatest S (only p) e ≡ None
  part_dies p e h =
      greatest_is (only p) e None (no_solution (W.Solves S (only p)) e (λ x b q. subst (Under (Some x)) h (subst (λ r. Under r (narrow p e)) q (laws.narrow_grows p x e b))))

  passes_below : (cs : ConsList Part) (e : Env) → Under (P.passes S cs e) (Some e)
  passes_below no_cons e = laws.self e
  passes_below (and_cons c cs) e =
      on_below (greatest S c e) (P.passes S cs) (Some e) (is_greatest c e).below (λ x h. below_through (P.passes S cs x) (Some x) (Some e) (passes_below cs x) h)

  passes_above : (cs : ConsList Part) (x e : Env) → Leq x e → SolvesEach cs x → Under (Some x) (P.passes S cs e)
  passes_above no_cons x e h q = h
  passes_above (and_cons c cs) x e h q =
      on_above x (greatest S c e) (P.passes S cs) ((is_greatest c e).above x h q.0) (λ y k. passes_above cs x y k q.1)

  passes_solve : (cs : ConsList Part) (e : Env) → P.passes S cs e ≡ Some e → SolvesEach cs e
  passes_solve no_cons e h = tt
  passes_solve (and_cons c cs) e h =
      let first : greatest S c e ≡ Some e = on_same 0 (greatest S c e) (P.passes S cs) e (is_greatest c e).below (λ x. passes_below cs x) h in
      let rest : P.passes S cs e ≡ Some e = subst (λ r. on_some r (P.passes S cs) ≡ Some e) first h in
      (subst (λ r. W.Holds S (W.Solves S c) r) first (is_greatest c e).holds, passes_solve cs e rest)

  pub all_moves : (cs : ConsList Part) (e f : Env) → P.passes S cs e ≡ Some f → greatest S (all_of cs) f ≡ greatest S (all_of cs) e
  all_moves cs e f h =
      sym (greatest_is (all_of cs) e (greatest S (all_of cs) f) (moved (W.Solves S (all_of cs)) e f _ (subst (λ r. Under r (Some e)) h (passes_below cs e)) (λ x b q. subst (Under (Some x)) h (passes_above cs x e b q))
      (is_greatest (all_of cs) f)))

  pub all_stays : (cs : ConsList Part) (e : Env) → P.passes S cs e ≡ Some e → greatest S (all_of cs) e ≡ Some e
  all_stays cs e h =
      greatest_is (all_of cs) e (Some e) (own_solution (W.Solves S (all_of cs)) e (passes_solve cs e h))

  pub all_dies : (cs : ConsList Part) (e : Env) → P.passes S cs e ≡ None → greatest S (all_of cs) e ≡ None
  all_dies cs e h =
      greatest_is (all_of cs) e None (no_solution (W.Solves S (all_of cs)) e (λ x b q. subst (Under (Some x)) h (passes_above cs x e b q)))

  -- whatever the limit above the rank, the same is reached
  pub reached_are : (limit : ℕ) (c : Cons Part) (e : Env) → rank e < limit → W.reached S limit c e ≡ greatest S c e
  reached_are limit c e l =
      sym (greatest_is c e (W.reached S limit c e) (record { below = reached_below limit c e; holds = reached_solve limit c e l; above = λ x h s. reached_above limit c x e h s }))

  alternatives_are : (limit : ℕ) (cs : ConsList Part) (e : Env) → rank e < limit → W.alternatives S limit cs e ≡ P.unions S cs e
  alternatives_are limit no_cons e l = refl
  alternatives_are limit (and_cons c cs) e l =
      ap (λ r. joined r (W.alternatives S limit cs e)) (reached_are limit c e l) ∙ ap (joined (greatest S c e)) (alternatives_are limit cs e l)

  unions_below : (cs : ConsList Part) (e : Env) → Under (P.unions S cs e) (Some e)
  unions_below no_cons e = tt
  unions_below (and_cons c cs) e =
      join_least (greatest S c e) (P.unions S cs e) e (is_greatest c e).below (unions_below cs e)

  pub any_is : (cs : ConsList Part) (e : Env) → greatest S (any_of cs) e ≡ P.unions S cs e
  unfolding greatest
  any_is cs e = alternatives_are (suc (rank e)) cs e (omega arith)

  joined_thrice : (r s t : State S) (e : Env) → Under r (Some e) → Under s (Some e) → Under t (Some e) → joined (joined r s) t ≡ joined r (joined s t)
  joined_thrice r s t e f g h =
      let rs = join_least r s e f g in
      let st = join_least s t e g h in
      let r_in = join_left r (joined s t) e f st in
      let st_in = join_right r (joined s t) e f st in
      let rs_in = join_left (joined r s) t e rs h in
      let t_in = join_right (joined r s) t e rs h in
      let whole = joined r (joined s t) in
      let other = joined (joined r s) t in
      let s_in = below_through s (joined s t) whole (join_left s t e g h) st_in in
      let t_in' = below_through t (joined s t) whole (join_right s t e g h) st_in in
      below_both other whole
      (join_under (joined r s) t whole (join_under r s whole r_in s_in) t_in')
      (join_under r (joined s t) other (below_through r (joined r s) other (join_left r s e f g) rs_in) (join_under s t other (below_through s (joined r s) other (join_right r s e f g) rs_in) t_in))

  merged_is : (s : State S) (cs : ConsList Part) (e : Env) → Under s (Some e) → P.merged S s cs e ≡ joined s (P.unions S cs e)
  merged_is s no_cons e h = nothing s
    where
      nothing : (s : State S) → s ≡ joined s None
      nothing None = refl
      nothing (Some x) = refl
  merged_is s (and_cons c cs) e h =
      merged_is (joined s (greatest S c e)) cs e (join_least s (greatest S c e) e h (is_greatest c e).below) ∙ joined_thrice s (greatest S c e) (P.unions S cs e) e h (is_greatest c e).below (unions_below cs e)

  pub merged_unions : (cs : ConsList Part) (e : Env) → P.merged S None cs e ≡ P.unions S cs e
  merged_unions cs e = merged_is None cs e tt

  -- ---- what parts and joins keep, solving keeps

  module _ (F : Env → Type 0) (part : (p : Part) (x : Env) → F x → W.Holds S F (narrow p x)) (join_keeps : (x y : Env) → F x → F y → F (join x y)) where
    on_keeps : (r : State S) (f : Env → State S) → W.Holds S F r → ((x : Env) → F x → W.Holds S F (f x)) → W.Holds S F (on_some r f)
    on_keeps None f h k = tt
    on_keeps (Some x) f h k = k x h

    turns_keep : (n : ℕ) (f : Env → State S) → ((x : Env) → F x → W.Holds S F (f x)) → (x : Env) → F x → W.Holds S F (turns n f x)
    turns_keep zero f k x h = h
    turns_keep (suc n) f k x h = on_keeps (f x) (turns n f) (k x h) (λ y g. turns_keep n f k y g)

    joined_keeps : (r s : State S) → W.Holds S F r → W.Holds S F s → W.Holds S F (joined r s)
    joined_keeps None s h k = k
    joined_keeps (Some x) None h k = h
    joined_keeps (Some x) (Some y) h k = join_keeps x y h k

    mutual
      reached_keep : (n : ℕ) (c : Cons Part) (x : Env) → F x → W.Holds S F (W.reached S n c x)
      reached_keep n (only p) x h = turns_keep n (narrow p) (part p) x h
      reached_keep n (all_of cs) x h = turns_keep n (W.sweep S n cs) (λ y g. sweep_keeps n cs y g) x h
      reached_keep n (any_of cs) x h = alternatives_keep n cs x h

      sweep_keeps : (n : ℕ) (cs : ConsList Part) (x : Env) → F x → W.Holds S F (W.sweep S n cs x)
      sweep_keeps n no_cons x h = h
      sweep_keeps n (and_cons c cs) x h =
          on_keeps (W.reached S n c x) (W.sweep S n cs) (reached_keep n c x h) (λ y g. sweep_keeps n cs y g)

      alternatives_keep : (n : ℕ) (cs : ConsList Part) (x : Env) → F x → W.Holds S F (W.alternatives S n cs x)
      alternatives_keep n no_cons x h = tt
      alternatives_keep n (and_cons c cs) x h =
          joined_keeps (W.reached S n c x) (W.alternatives S n cs x) (reached_keep n c x h) (alternatives_keep n cs x h)

    pub greatest_keeps : (c : Cons Part) (x : Env) → F x → W.Holds S F (greatest S c x)
    unfolding greatest
    greatest_keeps c x h = reached_keep (suc (rank x)) c x h
