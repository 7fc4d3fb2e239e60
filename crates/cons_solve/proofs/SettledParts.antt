-- Parts by which narrowing twice is narrowing once: types, and equalities of two slots.
use Rattle.std.proofs.Common.{◌≡◌, ℕ, ◌<◌, Bool, true, false, cond, Some, None, length, set, refl, sym, ap, ap₂, ◌∙◌, subst}
use Rattle.std.proofs.lemmas.List.{get_or-set_other, get_or-set_same, length-set, set-get_or}
use Rattle.type_lattice.specs.Types.{Type4, Below, any, is_none, meet}
use Rattle.cons_tree.specs.Environments.{Types, State, lowered, on_types, type_at}
use Rattle.cons_tree.specs.Facts.{TypeFacts}
use Rattle.cons_tree.specs.Narrowing.{alike, narrowed}
use Rattle.cons_tree.specs.declared.parts.Part.{Part}
use Rattle.cons_tree.specs.declared.parts.Part.TheVariants.{Bound, Equal}

-- ---- one slot

-- what a slot is lowered to, where it has a value then
lowered_told : (xs : Types) (s : ℕ) (t : Type4) (ys : Types) → lowered xs s t ≡ Some ys → (is_none (meet (type_at xs s) t) ≡ false) × (ys ≡ set xs s (meet (type_at xs s) t))
unfolding lowered
lowered_told xs s t ys h = by (is_none (meet (type_at xs s) t)) refl h
  where
    by : (b : Bool) → is_none (meet (type_at xs s) t) ≡ b → cond b None (Some (set xs s (meet (type_at xs s) t))) ≡ Some ys → (is_none (meet (type_at xs s) t) ≡ false) × (ys ≡ set xs s (meet (type_at xs s) t))
    by true e q = absurd cc
    by false e q = (e, let r : set xs s (meet (type_at xs s) t) ≡ ys = cc in sym r)

on_told : (o : State) (f : Types → State) (zs : Types) → on_types o f ≡ Some zs → (ys : Types) × ((o ≡ Some ys) × (f ys ≡ Some zs))
on_told None f zs h = absurd cc
on_told (Some ys) f zs h = (ys, (refl, h))

at_set : (xs : Types) (s : ℕ) (t : Type4) → s < length xs → type_at (set xs s t) s ≡ t
at_set xs s t h = get_or-set_same xs s t any h

at_other : (xs : Types) (s r : ℕ) (t : Type4) → (s ≡ r → ⊥) → type_at (set xs s t) r ≡ type_at xs r
at_other xs s r t h = get_or-set_other xs s r t any (λ e. h (sym e))

module _ (F : TypeFacts) where
  meet_right : (t u : Type4) → Below (meet t u) u
  meet_right t u v h = ((F.both t u v).0 h).1

  meet_is : (t u : Type4) → Below t u → meet t u ≡ t
  meet_is t u b = F.same (meet t u) t (λ v h. ((F.both t u v).0 h).0) (λ v h. (F.both t u v).1 (h, b v h))

  meet_turned : (t u : Type4) → Below u t → meet t u ≡ u
  meet_turned t u b = F.same (meet t u) u (meet_right t u) (λ v h. (F.both t u v).1 (b v h, h))

  -- a slot that has a value and is below the type stays
  stays : (zs : Types) (s : ℕ) (t : Type4) → Below (type_at zs s) t → is_none (type_at zs s) ≡ false → lowered zs s t ≡ Some zs
  unfolding lowered
  stays zs s t b e =
      ap (λ m. cond (is_none m) None (Some (set zs s m))) (meet_is (type_at zs s) t b)
      ∙ ap (λ c. cond c None (Some (set zs s (type_at zs s)))) e
      ∙ ap Some (set-get_or zs s any)

  pub bound_once : (xs ys : Types) (v : ℕ) (t : Type4) → v < length xs → narrowed (Bound v t) xs ≡ Some ys → narrowed (Bound v t) ys ≡ Some ys
  unfolding narrowed
  bound_once xs ys v t h is =
      let m = meet (type_at xs v) t in
      let told = lowered_told xs v t ys is in
      let here : type_at ys v ≡ m = ap (λ zs. type_at zs v) told.1 ∙ at_set xs v m h in
      stays ys v t (subst (λ x. Below x t) (sym here) (meet_right (type_at xs v) t)) (ap is_none here ∙ told.0)

  alike_once : (xs zs : Types) (v w : ℕ) → (v ≡ w → ⊥) → v < length xs → w < length xs → alike v w xs ≡ Some zs → alike v w zs ≡ Some zs
  unfolding alike
  alike_once xs zs v w apart hv hw is =
      let first = on_told (lowered xs v (type_at xs w)) (λ ys. lowered ys w (type_at ys v)) zs is in
      let ys = first.0 in
      let m = meet (type_at xs v) (type_at xs w) in
      let one = lowered_told xs v (type_at xs w) ys first.1.0 in
      let two = lowered_told ys w (type_at ys v) zs first.1.1 in
      let v_then : type_at ys v ≡ m = ap (λ es. type_at es v) one.1 ∙ at_set xs v m hv in
      let w_then : type_at ys w ≡ type_at xs w = ap (λ es. type_at es w) one.1 ∙ at_other xs v w m apart in
      let long : length ys ≡ length xs = ap length one.1 ∙ length-set xs v m in
      let both : meet (type_at ys w) (type_at ys v) ≡ m = ap₂ meet w_then v_then ∙ meet_turned (type_at xs w) m (meet_right (type_at xs v) (type_at xs w)) in
      let w_now : type_at zs w ≡ m = ap (λ es. type_at es w) two.1 ∙ at_set ys w (meet (type_at ys w) (type_at ys v)) (subst (λ n. w < n) (sym long) hw) ∙ both in
      let v_now : type_at zs v ≡ m = ap (λ es. type_at es v) two.1 ∙ at_other ys w v (meet (type_at ys w) (type_at ys v)) (λ e. apart (sym e)) ∙ v_then in
      let below : (t u : Type4) → t ≡ m → u ≡ m → Below t u = λ t u e f. subst (λ x. Below x u) (sym e) (subst (λ x. Below m x) (sym f) (λ a i. i)) in
      ap (λ o. on_types o (λ es. lowered es w (type_at es v))) (stays zs v (type_at zs w) (below (type_at zs v) (type_at zs w) v_now w_now) (ap is_none v_now ∙ one.0))
      ∙ stays zs w (type_at zs v) (below (type_at zs w) (type_at zs v) w_now v_now) (ap is_none w_now ∙ one.0)

  pub equal_once : (xs zs : Types) (v w : ℕ) → (v ≡ w → ⊥) → v < length xs → w < length xs → narrowed (Equal v w) xs ≡ Some zs → narrowed (Equal v w) zs ≡ Some zs
  unfolding narrowed
  equal_once xs zs v w apart hv hw is = alike_once xs zs v w apart hv hw is

  -- ---- what the test of a part tells

  abbrev pub IsOnce : Part → ℕ → Type 0
  IsOnce p n = (xs ys : Types) → length xs ≡ n → narrowed p xs ≡ Some ys → narrowed p ys ≡ Some ys

  pub bound_is_once : (p : Part) (v : ℕ) (t : Type4) (n : ℕ) → p ≡ Bound v t → v < n → IsOnce p n
  bound_is_once p v t n e h xs ys long is =
      ap (λ q. narrowed q ys) e ∙ bound_once xs ys v t (subst (λ m. v < m) (sym long) h) (ap (λ q. narrowed q xs) (sym e) ∙ is)

  pub equal_is_once : (p : Part) (v w n : ℕ) → p ≡ Equal v w → (v ≡ w → ⊥) → v < n → w < n → IsOnce p n
  equal_is_once p v w n e apart hv hw xs ys long is =
      ap (λ q. narrowed q ys) e ∙ equal_once xs ys v w apart (subst (λ m. v < m) (sym long) hv) (subst (λ m. w < m) (sym long) hw) (ap (λ q. narrowed q xs) (sym e) ∙ is)
