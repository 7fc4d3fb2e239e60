-- What stands in a slot that a part doesn't name is left alone, and doesn't matter.
use Rattle.std.proofs.Common.{◌≡◌, ℕ, suc, Bool, true, false, cond, List, [], ◌∷◌, length, map, set, Some, None, refl, sym, ap, ◌∙◌}
use Rattle.std.proofs.lemmas.List.{get_or-set_other, set_comm}
use Rattle.type_lattice.specs.Types.{Type4, any, none, is_none, meet, tuple, cons, project, elem, tail}
use Rattle.type_lattice.specs.Inclusion.{leq}
use Rattle.cons_tree.specs.Environments.{Types, State, type_at, on_types, lowered}
use Rattle.cons_tree.specs.Frames.{IsNone, slots_of, with_slot}
use Rattle.cons_tree.specs.Named.{just_true, just_false, arithmetic, absolute, selected, tested, tested_some, same_values, other_values}
use Rattle.cons_tree.specs.Narrowing.{and_then, only_where, meets, alike, each_typed, each_projected, is_true, is_false, transferred, narrowed}
use Rattle.cons_tree.specs.declared.parts.Part.{Part}
use Rattle.cons_tree.specs.declared.parts.Part.TheVariants.{Bound, Equal, Tuple, Cons, Builtin, Call}
use Rattle.cons_tree.specs.declared.parts.Transfer.{Transfer}
use Rattle.cons_tree.specs.declared.parts.Transfer.TheVariants.{Plain, Arith, Abs, Head, Tail, Element, Test, TestSome, Same, Differ, Never}

module _ (s : ℕ) where
  -- the step leaves the slot alone
  abbrev Frees : (Types → State) → Type 0
  Frees f = (t : Type4) (xs : Types) → f (set xs s t) ≡ with_slot s t (f xs)

  at_other : (r : ℕ) → (r ≡ s → ⊥) → (t : Type4) (xs : Types) → type_at (set xs s t) r ≡ type_at xs r
  at_other r d t xs = get_or-set_other xs s r t any d

  types_other : (rs : List ℕ) → IsNone s rs → (t : Type4) (xs : Types) → map (type_at (set xs s t)) rs ≡ map (type_at xs) rs
  types_other [] d t xs = refl
  types_other (r ∷ rs) d t xs = λ i. at_other r d.0 t xs i ∷ types_other rs d.1 t xs i

  free_skip : Frees (λ xs. Some xs)
  free_skip t xs = refl

  free_meets : (r : ℕ) (f : Types → Type4) → (r ≡ s → ⊥) → ((t : Type4) (xs : Types) → f (set xs s t) ≡ f xs) → Frees (meets r f)
  unfolding lowered
  free_meets r f d e t xs =
      ap (λ m. cond (is_none m) None (Some (set (set xs s t) r m))) (λ i. meet (at_other r d t xs i) (e t xs i)) ∙ by (is_none (meet (type_at xs r) (f xs)))
    where
      by : (b : Bool) → cond b None (Some (set (set xs s t) r (meet (type_at xs r) (f xs)))) ≡ with_slot s t (cond b None (Some (set xs r (meet (type_at xs r) (f xs)))))
      by true = refl
      by false = ap Some (set_comm xs s r t (meet (type_at xs r) (f xs)) (λ i. d (sym i)))

  free_then : (f g : Types → State) → Frees f → Frees g → Frees (and_then f g)
  free_then f g h k t xs = ap (λ r. on_types r g) (h t xs) ∙ by (f xs)
    where
      by : (r : State) → on_types (with_slot s t r) g ≡ with_slot s t (on_types r g)
      by None = refl
      by (Some ys) = k t ys

  free_where : (c : Types → Bool) (f : Types → State) → ((t : Type4) (xs : Types) → c (set xs s t) ≡ c xs) → Frees f → Frees (only_where c f)
  free_where c f e k t xs = ap (λ b. cond b (f (set xs s t)) (Some (set xs s t))) (e t xs) ∙ by (c xs)
    where
      by : (b : Bool) → cond b (f (set xs s t)) (Some (set xs s t)) ≡ with_slot s t (cond b (f xs) (Some xs))
      by true = k t xs
      by false = refl

  free_alike : (v w : ℕ) → (v ≡ s → ⊥) → (w ≡ s → ⊥) → Frees (alike v w)
  unfolding alike
  free_alike v w d e =
      free_then (meets v (λ xs. type_at xs w)) (meets w (λ xs. type_at xs v)) (free_meets v (λ xs. type_at xs w) d (at_other w e)) (free_meets w (λ xs. type_at xs v) e (at_other v d))

  free_typed : (vs : List ℕ) (ts : List Type4) → IsNone s vs → Frees (each_typed vs ts)
  unfolding each_typed
  free_typed [] ts d = free_skip
  free_typed (v ∷ vs) [] d = free_skip
  free_typed (v ∷ vs) (u ∷ ts) d = free_then (meets v (λ xs. u)) (each_typed vs ts) (free_meets v (λ xs. u) d.0 (λ t xs. refl)) (free_typed vs ts d.1)

  free_projected : (v n i : ℕ) (ws : List ℕ) → (v ≡ s → ⊥) → IsNone s ws → Frees (each_projected v n i ws)
  unfolding each_projected
  free_projected v n i [] d e = free_skip
  free_projected v n i (w ∷ ws) d e =
      free_then (meets w (λ xs. project (type_at xs v) n i)) (each_projected v n (suc i) ws)
      (free_meets w (λ xs. project (type_at xs v) n i) e.0 (λ t xs. ap (λ u. project u n i) (at_other v d t xs)))
      (free_projected v n (suc i) ws d e.1)

  free_transfer : (f : Transfer) (v : ℕ) (args : List ℕ) → (v ≡ s → ⊥) → IsNone s args → Frees (transferred f v args)
  unfolding transferred
  free_transfer (Plain u) v args d e = free_meets v (λ xs. u) d (λ t xs. refl)
  free_transfer Arith v args d e = free_meets v (λ xs. arithmetic (map (type_at xs) args)) d (λ t xs. ap arithmetic (types_other args e t xs))
  free_transfer Abs v [] d e = free_skip
  free_transfer Abs v (a ∷ args) d e = free_meets v (λ xs. absolute (type_at xs a)) d (λ t xs. ap absolute (at_other a e.0 t xs))
  free_transfer Head v [] d e = free_skip
  free_transfer Head v (a ∷ args) d e = free_meets v (λ xs. elem (type_at xs a)) d (λ t xs. ap elem (at_other a e.0 t xs))
  free_transfer Tail v [] d e = free_skip
  free_transfer Tail v (a ∷ args) d e = free_meets v (λ xs. tail (type_at xs a)) d (λ t xs. ap tail (at_other a e.0 t xs))
  free_transfer Element v [] d e = free_skip
  free_transfer Element v (a ∷ []) d e = free_skip
  free_transfer Element v (a ∷ b ∷ args) d e =
      free_meets v (λ xs. selected (type_at xs a) (type_at xs b)) d (λ t xs. λ i. selected (at_other a e.0 t xs i) (at_other b e.1.0 t xs i))
  free_transfer (Test u) v [] d e = free_skip
  free_transfer (Test u) v (a ∷ args) d e =
      free_then (meets v (λ xs. tested u (type_at xs a))) (only_where (is_true v) (meets a (λ xs. u)))
      (free_meets v (λ xs. tested u (type_at xs a)) d (λ t xs. ap (tested u) (at_other a e.0 t xs)))
      (free_where (is_true v) (meets a (λ xs. u)) (λ t xs. ap (λ w. leq w just_true) (at_other v d t xs)) (free_meets a (λ xs. u) e.0 (λ t xs. refl)))
  free_transfer (TestSome u) v [] d e = free_skip
  free_transfer (TestSome u) v (a ∷ args) d e =
      free_then (meets v (λ xs. tested_some u (type_at xs a))) (only_where (is_true v) (meets a (λ xs. u)))
      (free_meets v (λ xs. tested_some u (type_at xs a)) d (λ t xs. ap (tested_some u) (at_other a e.0 t xs)))
      (free_where (is_true v) (meets a (λ xs. u)) (λ t xs. ap (λ w. leq w just_true) (at_other v d t xs)) (free_meets a (λ xs. u) e.0 (λ t xs. refl)))
  free_transfer Same v [] d e = free_skip
  free_transfer Same v (a ∷ []) d e = free_skip
  free_transfer Same v (a ∷ b ∷ args) d e =
      free_then (meets v (λ xs. same_values (type_at xs a) (type_at xs b))) (only_where (is_true v) (alike a b))
      (free_meets v (λ xs. same_values (type_at xs a) (type_at xs b)) d (λ t xs. λ i. same_values (at_other a e.0 t xs i) (at_other b e.1.0 t xs i)))
      (free_where (is_true v) (alike a b) (λ t xs. ap (λ w. leq w just_true) (at_other v d t xs)) (free_alike a b e.0 e.1.0))
  free_transfer Differ v [] d e = free_skip
  free_transfer Differ v (a ∷ []) d e = free_skip
  free_transfer Differ v (a ∷ b ∷ args) d e =
      free_then (meets v (λ xs. other_values (type_at xs a) (type_at xs b))) (only_where (is_false v) (alike a b))
      (free_meets v (λ xs. other_values (type_at xs a) (type_at xs b)) d (λ t xs. λ i. other_values (at_other a e.0 t xs i) (at_other b e.1.0 t xs i)))
      (free_where (is_false v) (alike a b) (λ t xs. ap (λ w. leq w just_false) (at_other v d t xs)) (free_alike a b e.0 e.1.0))
  free_transfer Never v args d e = free_meets v (λ xs. none) d (λ t xs. refl)

  pub free_part : (p : Part) → IsNone s (slots_of p) → Frees (narrowed p)
  unfolding narrowed
  free_part (Bound v u) d = free_meets v (λ xs. u) d.0 (λ t xs. refl)
  free_part (Equal v w) d = free_alike v w d.0 d.1.0
  free_part (Tuple v ws) d =
      free_then (meets v (λ xs. tuple (map (type_at xs) ws))) (each_projected v (length ws) 1 ws)
      (free_meets v (λ xs. tuple (map (type_at xs) ws)) d.0 (λ t xs. ap tuple (types_other ws d.1 t xs)))
      (free_projected v (length ws) 1 ws d.0 d.1)
  free_part (Cons v h u) d =
      free_then (meets v (λ xs. cons (type_at xs h) (type_at xs u) true)) (and_then (meets h (λ xs. elem (type_at xs v))) (meets u (λ xs. tail (type_at xs v))))
      (free_meets v (λ xs. cons (type_at xs h) (type_at xs u) true) d.0 (λ t xs. λ i. cons (at_other h d.1.0 t xs i) (at_other u d.1.1.0 t xs i) true))
      (free_then (meets h (λ xs. elem (type_at xs v))) (meets u (λ xs. tail (type_at xs v)))
      (free_meets h (λ xs. elem (type_at xs v)) d.1.0 (λ t xs. ap elem (at_other v d.0 t xs)))
      (free_meets u (λ xs. tail (type_at xs v)) d.1.1.0 (λ t xs. ap tail (at_other v d.0 t xs))))
  free_part (Call v args sig) d =
      free_then (each_typed args sig.args) (meets v (λ xs. sig.result)) (free_typed args sig.args d.1) (free_meets v (λ xs. sig.result) d.0 (λ t xs. refl))
  free_part (Builtin v args ts f) d =
      free_then (each_typed args ts) (transferred f v args) (free_typed args ts d.1) (free_transfer f v args d.0 d.1)
