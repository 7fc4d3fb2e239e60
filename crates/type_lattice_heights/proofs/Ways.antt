-- Ways down, from a set to a smaller one at each step, with where they end.
use Rattle.std.proofs.Common.{◌≡◌, ℕ, zero, suc, ◌+◌, refl, sym, ap, ◌∙◌, subst, arith}
use Rattle.type_lattice_model.specs.Laws.{BelowBy}

module _ {V P : Type 0} (Has : V → P → Type 0) (Normal : P → Type 0) where
  -- from t one comes down to s in n steps
  unfoldable pub Way : ℕ → P → P → Type 0
  Way zero s t = s ≡ t
  Way (suc n) s t = (u : P) × (Normal u × BelowBy Has u t × (u ≡ t → ⊥) × Way n s u)

  pub no_step : (s t : P) → s ≡ t → Way 0 s t
  unfolding Way
  no_step s t e = e

  pub one_step : (s t : P) → Normal s → BelowBy Has s t → (s ≡ t → ⊥) → Way 1 s t
  unfolding Way
  one_step s t k b other = (s, (k, b, other, refl))

  pub way_is : (s t : P) → Way 0 s t → s ≡ t
  unfolding Way
  way_is s t w = w

  pub way_as : (m n : ℕ) (s t : P) → m ≡ n → Way m s t → Way n s t
  way_as m n s t e = subst (λ i. Way i s t) e

  pub way_then : (m n : ℕ) (r s t : P) → Way m r s → Way n s t → Way (n + m) r t
  unfolding Way
  way_then m zero r s t w e = way_as m (0 + m) r t (omega arith) (subst (Way m r) e w)
  way_then m (suc n) r s t w v = way_as (suc (n + m)) (suc n + m) r t (omega arith) (v.0, (v.1.0, v.1.1, v.1.2, way_then m n r s v.0 w v.1.3))

  pub way_below : (n : ℕ) (s t : P) → Way n s t → BelowBy Has s t
  unfolding Way
  way_below zero s t e = subst (BelowBy Has s) e (λ v h. h)
  way_below (suc n) s t w = λ v h. w.1.1 v (way_below n s w.0 w.1.3 v h)

  -- the last step by itself
  pub way_last : (n : ℕ) (s t : P) → Normal t → Way (suc n) s t → (u : P) × (Normal u × BelowBy Has s u × (s ≡ u → ⊥) × Way n u t)
  unfolding Way
  way_last zero s t k w = (t, (k, subst (λ x. BelowBy Has x t) (sym w.1.3) w.1.1, λ e. w.1.2 (sym w.1.3 ∙ e), refl))
  way_last (suc n) s t k w =
      let r = way_last n s w.0 w.1.0 w.1.3 in
      (r.0, (r.1.0, r.1.1, r.1.2, (w.0, (w.1.0, w.1.1, w.1.2, r.1.3))))

-- a way in a part is a way in the whole
module _ {V P : Type 0} {Has : V → P → Type 0} {Normal : P → Type 0} {W Q : Type 0} (HasQ : W → Q → Type 0) (NormalQ : Q → Type 0) (f : P → Q) (s : P)
    (normal : (u : P) → Normal u → BelowBy Has s u → NormalQ (f u)) (below : (u v : P) → BelowBy Has u v → BelowBy HasQ (f u) (f v)) (same : (u v : P) → f u ≡ f v → u ≡ v) where
  pub way_lift : (n : ℕ) (t : P) → Way Has Normal n s t → Way HasQ NormalQ n (f s) (f t)
  unfolding Way
  way_lift zero t e = ap f e
  way_lift (suc n) t w = (f w.0, (normal w.0 w.1.0 (way_below Has Normal n s w.0 w.1.3), below w.0 t w.1.1, λ e. w.1.2 (same w.0 t e), way_lift n w.0 w.1.3))
