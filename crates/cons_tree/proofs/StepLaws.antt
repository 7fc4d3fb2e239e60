-- How steps narrow: each is below where it began, is monotone, leaves no slot at none, and keeps assignments.
use Rattle.std.proofs.Common.{◌≡◌, ℕ, zero, suc, ◌+◌, ◌≤◌, Bool, true, false, cond, List, [], ◌∷◌, length, set, slice_get, Some, None, refl, sym, ap, ◌∙◌, subst, arith, inl, inr, true≢false}
use Rattle.std.specs.Prelude.{nat_lt, ◌-◌}
use Rattle.std.specs.List.{list_any}
use Rattle.std.proofs.lemmas.Bool.{ltb-true, ltb-false, cases_eq, or_from}
use Rattle.std.proofs.lemmas.List.{length-set, get_or-set_same, get_or-set_other, get_or_past}
use Rattle.cons_tree.proofs.SlotLaws.{at_below, set_grows}
use Rattle.type_lattice.proofs.ListOrder.{are_self, are_through}
use Rattle.type_kinds.proofs.Truths.{not_first, not_second}
use Rattle.type_lattice_model.specs.Parts.{value_at}
use Rattle.type_lattice_model.specs.Values.{Value, Values, count, tuple as tuple_value}
use Rattle.type_lattice.specs.Types.{Type4, HasType, HasTypes, Below, AreBelow, none, any, is_none, meet, project}
use Rattle.cons_tree.specs.Environments.{Types, State, Assignment, type_at, on_types, with_type, lowered, IsBelow, LiesIn, LiesInState}
use Rattle.cons_tree.specs.Facts.{TypeFacts}
use Rattle.cons_tree.specs.Narrowing.{and_then, only_where, meets, alike, each_typed, each_projected}
use Rattle.cons_tree.specs.Satisfied.{values_of}
use Rattle.cons_tree.specs.Signatures.{has_none}

-- what every step owes
pub record IsLawful (f : Types → State) : Type 0 where
  pub sinks : (xs : Types) → IsBelow (f xs) (Some xs)
  pub grows : (xs ys : Types) → AreBelow xs ys → IsBelow (f xs) (f ys)
  pub lives : (xs ys : Types) → has_none xs ≡ false → f xs ≡ Some ys → has_none ys ≡ false

-- the step keeps the assignment
abbrev pub Keeps : Assignment → (Types → State) → Type 0
Keeps a f = (xs : Types) → LiesIn a xs → LiesInState a (f xs)

-- ---- environments, slot by slot

set_below : (xs : Types) (s : ℕ) (t : Type4) → Below t (type_at xs s) → AreBelow (set xs s t) xs
set_below [] s t h = tt
set_below (x ∷ xs) zero t h = (h, are_self xs)
set_below (x ∷ xs) (suc s) t h = ((λ v k. k), set_below xs s t h)

none_set : (xs : Types) (s : ℕ) (t : Type4) → list_any is_none xs ≡ false → is_none t ≡ false → list_any is_none (set xs s t) ≡ false
none_set [] s t h k = refl
none_set (x ∷ xs) zero t h k = or_from (is_none t) (list_any is_none xs) k (not_second (is_none x) (list_any is_none xs) h)
none_set (x ∷ xs) (suc s) t h k =
    or_from (is_none x) (list_any is_none (set xs s t)) (not_first (is_none x) (list_any is_none xs) h) (none_set xs s t (not_second (is_none x) (list_any is_none xs) h) k)

pub below_through : (r s t : State) → IsBelow r s → IsBelow s t → IsBelow r t
below_through None s t h k = tt
below_through (Some xs) None t h k = absurd h
below_through (Some xs) (Some ys) None h k = k
below_through (Some xs) (Some ys) (Some zs) h k = are_through xs ys zs h k

-- ---- steps one after another

on_sinks : (r : State) (xs : Types) (g : Types → State) → IsBelow r (Some xs) → IsLawful g → IsBelow (on_types r g) (Some xs)
on_sinks None xs g h k = tt
on_sinks (Some ys) xs g h k = below_through (g ys) (Some ys) (Some xs) (k.sinks ys) h

on_grows : (r s : State) (g : Types → State) → IsBelow r s → IsLawful g → IsBelow (on_types r g) (on_types s g)
on_grows None s g h k = tt
on_grows (Some xs) None g h k = absurd h
on_grows (Some xs) (Some ys) g h k = k.grows xs ys h

on_lives : (r : State) (g : Types → State) (ys : Types) → ((zs : Types) → r ≡ Some zs → has_none zs ≡ false) → IsLawful g → on_types r g ≡ Some ys → has_none ys ≡ false
on_lives None g ys h k e = absurd cc
on_lives (Some zs) g ys h k e = k.lives zs ys (h zs refl) e

pub lawful_then : (f g : Types → State) → IsLawful f → IsLawful g → IsLawful (and_then f g)
lawful_then f g h k = record {
  sinks = λ xs. on_sinks (f xs) xs g (h.sinks xs) k;
  grows = λ xs ys l. on_grows (f xs) (f ys) g (h.grows xs ys l) k;
  lives = λ xs ys l e. on_lives (f xs) g ys (λ zs i. h.lives xs zs l i) k e;
}

pub lawful_skip : IsLawful (λ xs. Some xs)
lawful_skip = record {
  sinks = are_self;
  grows = λ xs ys h. h;
  lives = λ xs ys h e. let same : xs ≡ ys = cc in subst (λ zs. has_none zs ≡ false) same h;
}

pub lawful_where : (c : Types → Bool) (f : Types → State) → ((xs ys : Types) → AreBelow xs ys → c ys ≡ true → c xs ≡ true) → IsLawful f → IsLawful (only_where c f)
lawful_where c f falls k = record {
  sinks = λ xs. sinking xs (c xs);
  grows = λ xs ys h. growing xs ys h (c xs) (c ys) (falls xs ys h);
  lives = λ xs ys h e. living xs ys h (c xs) e;
}
  where
    sinking : (xs : Types) (b : Bool) → IsBelow (cond b (f xs) (Some xs)) (Some xs)
    sinking xs true = k.sinks xs
    sinking xs false = are_self xs

    growing : (xs ys : Types) → AreBelow xs ys → (b d : Bool) → (d ≡ true → b ≡ true) → IsBelow (cond b (f xs) (Some xs)) (cond d (f ys) (Some ys))
    growing xs ys h true true i = k.grows xs ys h
    growing xs ys h true false i = below_through (f xs) (Some xs) (Some ys) (k.sinks xs) h
    growing xs ys h false true i = absurd (true≢false (sym (i refl)))
    growing xs ys h false false i = h

    living : (xs ys : Types) → has_none xs ≡ false → (b : Bool) → cond b (f xs) (Some xs) ≡ Some ys → has_none ys ≡ false
    living xs ys h true e = k.lives xs ys h e
    living xs ys h false e = lawful_skip.lives xs ys h e

pub keeps_then : (a : Assignment) (f g : Types → State) → Keeps a f → Keeps a g → Keeps a (and_then f g)
keeps_then a f g h k xs l = by (f xs) (h xs l)
  where
    by : (r : State) → LiesInState a r → LiesInState a (on_types r g)
    by None i = i
    by (Some ys) i = k ys i

pub keeps_where : (a : Assignment) (c : Types → Bool) (f : Types → State) → ((xs : Types) → LiesIn a xs → c xs ≡ true → LiesInState a (f xs)) → Keeps a (only_where c f)
keeps_where a c f h xs l = by (c xs) refl
  where
    by : (b : Bool) → c xs ≡ b → LiesInState a (cond b (f xs) (Some xs))
    by true e = h xs l e
    by false e = l

-- ---- one slot

module _ (F : TypeFacts) where
  pub none_under : (t u : Type4) → Below t u → is_none u ≡ true → is_none t ≡ true
  none_under t u h e =
      let is : u ≡ none = (F.tells_none u).0 e in
      (F.tells_none t).1 (F.same t none (λ v k. subst (HasType v) is (h v k)) (λ v k. absurd (F.empty v k)))

  pub not_none : (t : Type4) (v : Value) → HasType v t → is_none t ≡ false
  not_none t v h = by (is_none t) refl
    where
      by : (b : Bool) → is_none t ≡ b → b ≡ false
      by true e = absurd (F.empty v (subst (HasType v) ((F.tells_none t).0 e) h))
      by false e = refl

  with_below : (xs : Types) (s : ℕ) (t : Type4) → Below t (type_at xs s) → IsBelow (with_type xs s t) (Some xs)
  with_below xs s t h = by (is_none t)
    where
      by : (b : Bool) → IsBelow (cond b None (Some (set xs s t))) (Some xs)
      by true = tt
      by false = set_below xs s t h

  with_grows : (xs ys : Types) (s : ℕ) (t u : Type4) → AreBelow xs ys → Below t u → IsBelow (with_type xs s t) (with_type ys s u)
  with_grows xs ys s t u h k = by (is_none t) (is_none u) refl refl
    where
      by : (b c : Bool) → is_none t ≡ b → is_none u ≡ c → IsBelow (cond b None (Some (set xs s t))) (cond c None (Some (set ys s u)))
      by true c e f = tt
      by false true e f = absurd (true≢false (sym (none_under t u k f) ∙ e))
      by false false e f = set_grows xs ys s t u h k

  with_lives : (xs ys : Types) (s : ℕ) (t : Type4) → has_none xs ≡ false → with_type xs s t ≡ Some ys → has_none ys ≡ false
  with_lives xs ys s t h e = by (is_none t) refl e
    where
      by : (b : Bool) → is_none t ≡ b → cond b None (Some (set xs s t)) ≡ Some ys → has_none ys ≡ false
      by true k i = absurd cc
      by false k i = let same : set xs s t ≡ ys = cc in subst (λ zs. has_none zs ≡ false) same (none_set xs s t h k)

  meet_below : (t u : Type4) → Below (meet t u) t
  meet_below t u v h = ((F.both t u v).0 h).0

  pub lawful_meets : (s : ℕ) (f : Types → Type4) → ((xs ys : Types) → AreBelow xs ys → Below (f xs) (f ys)) → IsLawful (meets s f)
  unfolding lowered
  lawful_meets s f grows = record {
    sinks = λ xs. with_below xs s (meet (type_at xs s) (f xs)) (meet_below (type_at xs s) (f xs));
    grows = λ xs ys h. with_grows xs ys s (meet (type_at xs s) (f xs)) (meet (type_at ys s) (f ys)) h (F.meet_grows (type_at xs s) (f xs) (type_at ys s) (f ys) (at_below xs ys s h) (grows xs ys h));
    lives = λ xs ys h e. with_lives xs ys s (meet (type_at xs s) (f xs)) h e;
  }

  -- what a slot that was set has, also past the end
  set_has : (a : Assignment) (xs : Types) (s : ℕ) (m : Type4) → LiesIn a xs → HasType (a s) m → LiesIn a (set xs s m)
  set_has a xs s m l h i = elim (cases_eq i s) [
    | inl e ↦ subst (λ n. HasType (a n) (type_at (set xs s m) n)) (sym e) (there (nat_lt s (length xs)) refl)
    | inr d ↦ subst (HasType (a i)) (sym (get_or-set_other xs s i m any d)) (l i)
  ]
    where
      there : (b : Bool) → nat_lt s (length xs) ≡ b → HasType (a s) (type_at (set xs s m) s)
      there true e = subst (HasType (a s)) (sym (get_or-set_same xs s m any (ltb-true s (length xs) e))) h
      there false e =
          let far : length xs ≤ s = ltb-false s (length xs) e in
          let long = length-set xs s m in
          subst (HasType (a s)) (sym (get_or_past (set xs s m) s any (omega (arith, far, long)))) (F.every (a s))

  pub keeps_lowered : (a : Assignment) (xs : Types) (s : ℕ) (t : Type4) → LiesIn a xs → HasType (a s) t → LiesInState a (lowered xs s t)
  unfolding lowered
  keeps_lowered a xs s t l h =
      let both = (F.both (type_at xs s) t (a s)).1 (l s, h) in
      subst (λ b. LiesInState a (cond b None (Some (set xs s (meet (type_at xs s) t))))) (sym (not_none (meet (type_at xs s) t) (a s) both)) (set_has a xs s (meet (type_at xs s) t) l both)

  pub keeps_meets : (a : Assignment) (s : ℕ) (f : Types → Type4) → ((xs : Types) → LiesIn a xs → HasType (a s) (f xs)) → Keeps a (meets s f)
  keeps_meets a s f h xs l = keeps_lowered a xs s (f xs) l (h xs l)

  -- ---- several slots

  pub lawful_alike : (v w : ℕ) → IsLawful (alike v w)
  unfolding alike
  lawful_alike v w =
      lawful_then (meets v (λ xs. type_at xs w)) (meets w (λ xs. type_at xs v))
      (lawful_meets v (λ xs. type_at xs w) (λ xs ys h. at_below xs ys w h))
      (lawful_meets w (λ xs. type_at xs v) (λ xs ys h. at_below xs ys v h))

  pub keeps_alike : (a : Assignment) (v w : ℕ) → a v ≡ a w → Keeps a (alike v w)
  unfolding alike
  keeps_alike a v w e =
      keeps_then a (meets v (λ xs. type_at xs w)) (meets w (λ xs. type_at xs v))
      (keeps_meets a v (λ xs. type_at xs w) (λ xs l. subst (λ x. HasType x (type_at xs w)) (sym e) (l w)))
      (keeps_meets a w (λ xs. type_at xs v) (λ xs l. subst (λ x. HasType x (type_at xs v)) e (l v)))

  pub lawful_typed : (vs : List ℕ) (ts : List Type4) → IsLawful (each_typed vs ts)
  unfolding each_typed
  lawful_typed [] ts = lawful_skip
  lawful_typed (v ∷ vs) [] = lawful_skip
  lawful_typed (v ∷ vs) (t ∷ ts) =
      lawful_then (meets v (λ xs. t)) (each_typed vs ts) (lawful_meets v (λ xs. t) (λ xs ys h u k. k)) (lawful_typed vs ts)

  pub keeps_typed : (a : Assignment) (vs : List ℕ) (ts : List Type4) → HasTypes (values_of a vs) ts → Keeps a (each_typed vs ts)
  unfolding each_typed
  keeps_typed a [] ts h xs l = l
  keeps_typed a (v ∷ vs) [] h xs l = l
  keeps_typed a (v ∷ vs) (t ∷ ts) h xs l =
      keeps_then a (meets v (λ ys. t)) (each_typed vs ts) (keeps_meets a v (λ ys. t) (λ ys k. h.0)) (keeps_typed a vs ts h.1) xs l

  pub lawful_projected : (v n i : ℕ) (ws : List ℕ) → IsLawful (each_projected v n i ws)
  unfolding each_projected
  lawful_projected v n i [] = lawful_skip
  lawful_projected v n i (w ∷ ws) =
      lawful_then (meets w (λ xs. project (type_at xs v) n i)) (each_projected v n (suc i) ws)
      (lawful_meets w (λ xs. project (type_at xs v) n i) (λ xs ys h. F.project_grows (type_at xs v) (type_at ys v) n i (at_below xs ys v h)))
      (lawful_projected v n (suc i) ws)

  -- the slots stand from position j on in the tuple
  abbrev Stand : Assignment → Values → ℕ → List ℕ → Type 0
  Stand a es j ws = (k w : ℕ) → slice_get ws k ≡ Some w → value_at es (j + k) ≡ Some (a w)

  keeps_standing : (a : Assignment) (v : ℕ) (es : Values) → a v ≡ tuple_value es → (j : ℕ) (ws : List ℕ) → Stand a es j ws → Keeps a (each_projected v (count es) (suc j) ws)
  unfolding each_projected
  keeps_standing a v es e j [] h xs l = l
  keeps_standing a v es e j (w ∷ ws) h xs l =
      let first : j + 0 ≡ suc j - 1 = omega arith in
      let here : value_at es (suc j - 1) ≡ Some (a w) = subst (λ n. value_at es n ≡ Some (a w)) first (h 0 w refl) in
      let next : (k : ℕ) → j + suc k ≡ suc j + k = λ k. omega arith in
      let rest : Stand a es (suc j) ws = λ k u i. subst (λ n. value_at es n ≡ Some (a u)) (next k) (h (suc k) u i) in
      keeps_then a (meets w (λ ys. project (type_at ys v) (count es) (suc j))) (each_projected v (count es) (suc (suc j)) ws)
      (keeps_meets a w (λ ys. project (type_at ys v) (count es) (suc j)) (λ ys k. F.project_has (type_at ys v) (count es) (suc j) es (a w) (subst (λ x. HasType x (type_at ys v)) e (k v)) refl here))
      (keeps_standing a v es e (suc j) ws rest) xs l

  stands : (a : Assignment) (ws : List ℕ) (k w : ℕ) → slice_get ws k ≡ Some w → value_at (values_of a ws) k ≡ Some (a w)
  stands a [] k w i = absurd cc
  stands a (u ∷ ws) zero w i = let same : u ≡ w = cc in ap (λ x. Some (a x)) same
  stands a (u ∷ ws) (suc k) w i = stands a ws k w i

  stand : (a : Assignment) (ws : List ℕ) → Stand a (values_of a ws) 0 ws
  stand a ws k w i =
      let same : k ≡ 0 + k = omega arith in
      subst (λ n. value_at (values_of a ws) n ≡ Some (a w)) same (stands a ws k w i)

  counted : (a : Assignment) (ws : List ℕ) → count (values_of a ws) ≡ length ws
  counted a [] = refl
  counted a (w ∷ ws) = ap suc (counted a ws)

  pub keeps_projected : (a : Assignment) (v : ℕ) (ws : List ℕ) → a v ≡ tuple_value (values_of a ws) → Keeps a (each_projected v (length ws) 1 ws)
  keeps_projected a v ws e = subst (λ n. Keeps a (each_projected v n 1 ws)) (counted a ws) (keeps_standing a v (values_of a ws) e 0 ws (stand a ws))
