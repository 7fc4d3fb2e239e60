-- The loop that walks functions again, and where it begins.
use Rattle.std.proofs.Common.{◌≡◌, ℕ, zero, suc, ◌+◌, ◌≤◌, true, false, cond, List, [], ◌∷◌, ◌++◌, length, set, drop}
use Rattle.std.proofs.Common.{take, map, slice_get, Some, refl, sym, ap, ap₂, ◌∙◌, subst, arith, append_assoc, append-nil}
use Rattle.std.proofs.lemmas.List.{drop-set-lt, take_more_set, drop_all}
use Rattle.std.proofs.lemmas.Option.{slice_get_within}
use Rattle.module_flow_state.specs.declared.states.Contribution.{Contribution}
use Rattle.module_flow.specs.declared.visits.Visit.{Visit}
use Rattle.module_flow_state.specs.World.{World}
use Rattle.module_flow_state.specs.steps.Reading.{labels_given}
use Rattle.module_flow_state.specs.steps.Changes.{Rounds}
use Rattle.module_flow.specs.steps.Visits.{AreSettled, Definition, first_visit, contributions_again, contributions_of_one, is_touched, visits_again}

next_is : {X : Type 0} (xs : List X) (i : ℕ) (x : X) → slice_get xs i ≡ Some x → drop i xs ≡ x ∷ drop (suc i) xs
next_is [] zero x e = absurd cc
next_is [] (suc i) x e = absurd cc
next_is (y ∷ xs) zero x e = let q : y ≡ x = cc in ap (λ z. z ∷ xs) q
next_is (y ∷ xs) (suc i) x e = next_is xs i x e

next_at : {X : Type 0} (xs : List X) (i : ℕ) (x : X) → slice_get xs i ≡ Some x → drop i xs ≡ x ∷ drop (i + 1) xs
next_at xs i x e = next_is xs i x e ∙ ap (λ n. x ∷ drop n xs) (let k : suc i ≡ i + 1 = omega arith in k)

taken_more : {X : Type 0} (xs : List X) (i : ℕ) (x : X) → slice_get xs i ≡ Some x → take (i + 1) xs ≡ take i xs ++ x ∷ []
taken_more {X = X} xs i x e = ap (λ n. take n xs) (let k : i + 1 ≡ suc i = omega arith in k) ∙ by xs i e
  where
    by : (ys : List X) (j : ℕ) → slice_get ys j ≡ Some x → take (suc j) ys ≡ take j ys ++ x ∷ []
    by [] zero f = absurd cc
    by [] (suc j) f = absurd cc
    by (y ∷ ys) zero f = let q : y ≡ x = cc in ap (λ z. z ∷ []) q
    by (y ∷ ys) (suc j) f = ap (λ zs. y ∷ zs) (by ys j f)

all_taken : {X : Type 0} (xs : List X) (i : ℕ) → length xs ≤ i → take i xs ≡ xs
all_taken [] zero h = refl
all_taken [] (suc i) h = refl
all_taken (x ∷ xs) zero h = absurd (omega arith)
all_taken (x ∷ xs) (suc i) h = ap (λ ys. x ∷ ys) (all_taken xs i (omega arith))

module _ (W : World) (rounds : Rounds) (k : ℕ) where
  abbrev contributions_from : List Definition → List Visit → List Contribution
  contributions_from ds vs = contributions_again W rounds k ds vs

  abbrev visits_from : List Definition → List Visit → List Visit
  visits_from ds vs = visits_again W rounds k ds vs

  -- a function that isn't walked
  pub contributions_off : (ds : List Definition) (vs : List Visit) (i : ℕ) (d : Definition) (v : Visit) (gs goal : List Contribution) → slice_get ds i ≡ Some d → slice_get vs i ≡ Some v → is_touched rounds k v ≡ false
      → gs ++ contributions_from (drop i ds) (drop i vs) ≡ goal → gs ++ contributions_from (drop (i + 1) ds) (drop (i + 1) vs) ≡ goal
  contributions_off ds vs i d v gs goal a b off before =
      sym (ap₂ (λ xs ys. gs ++ contributions_from xs ys) (next_at ds i d a) (next_at vs i v b)
      ∙ ap (λ c. gs ++ (cond c (contributions_of_one W d) [] ++ contributions_from (drop (i + 1) ds) (drop (i + 1) vs))) off)
      ∙ before

  pub visits_off : (ds : List Definition) (vs : List Visit) (i : ℕ) (d : Definition) (v : Visit) (goal : List Visit) → slice_get ds i ≡ Some d → slice_get vs i ≡ Some v → is_touched rounds k v ≡ false
      → take i vs ++ visits_from (drop i ds) (drop i vs) ≡ goal → take (i + 1) vs ++ visits_from (drop (i + 1) ds) (drop (i + 1) vs) ≡ goal
  visits_off ds vs i d v goal a b off before =
      let rest = visits_from (drop (i + 1) ds) (drop (i + 1) vs) in
      ap (λ xs. xs ++ rest) (taken_more vs i v b)
      ∙ append_assoc (take i vs) (v ∷ []) rest
      ∙ sym (ap₂ (λ xs ys. take i vs ++ visits_from xs ys) (next_at ds i d a) (next_at vs i v b)
      ∙ ap (λ c. take i vs ++ (cond c (record { own = v.own; given = labels_given (contributions_of_one W d) }) v ∷ rest)) off)
      ∙ before

  -- and one that is
  pub contributions_on : (ds : List Definition) (vs new : List Visit) (i : ℕ) (d : Definition) (v w : Visit) (gs hs goal : List Contribution) → slice_get ds i ≡ Some d → slice_get vs i ≡ Some v → is_touched rounds k v ≡ true
      → hs ≡ gs ++ contributions_of_one W d → new ≡ set vs i w → gs ++ contributions_from (drop i ds) (drop i vs) ≡ goal → hs ++ contributions_from (drop (i + 1) ds) (drop (i + 1) new) ≡ goal
  contributions_on ds vs new i d v w gs hs goal a b on given is before =
      let rest = contributions_from (drop (i + 1) ds) (drop (i + 1) vs) in
      let left : drop (i + 1) new ≡ drop (i + 1) vs = ap (drop (i + 1)) is ∙ drop-set-lt (i + 1) vs i w (omega arith) in
      ap₂ (λ xs ys. xs ++ contributions_from (drop (i + 1) ds) ys) given left
      ∙ append_assoc gs (contributions_of_one W d) rest
      ∙ sym (ap₂ (λ xs ys. gs ++ contributions_from xs ys) (next_at ds i d a) (next_at vs i v b)
      ∙ ap (λ c. gs ++ (cond c (contributions_of_one W d) [] ++ rest)) on)
      ∙ before

  pub visits_on : (ds : List Definition) (vs new : List Visit) (i : ℕ) (d : Definition) (v : Visit) (goal : List Visit) → slice_get ds i ≡ Some d → slice_get vs i ≡ Some v → is_touched rounds k v ≡ true
      → new ≡ set vs i (record { own = v.own; given = labels_given (contributions_of_one W d) }) → take i vs ++ visits_from (drop i ds) (drop i vs) ≡ goal
      → take (i + 1) new ++ visits_from (drop (i + 1) ds) (drop (i + 1) new) ≡ goal
  visits_on ds vs new i d v goal a b on is before =
      let w : Visit = record { own = v.own; given = labels_given (contributions_of_one W d) } in
      let rest = visits_from (drop (i + 1) ds) (drop (i + 1) vs) in
      let left : drop (i + 1) new ≡ drop (i + 1) vs = ap (drop (i + 1)) is ∙ drop-set-lt (i + 1) vs i w (omega arith) in
      let passed : take (i + 1) new ≡ take i vs ++ w ∷ [] = ap (take (i + 1)) is ∙ take_more_set vs i w (slice_get_within vs i v b) in
      ap₂ (λ xs ys. xs ++ visits_from (drop (i + 1) ds) ys) passed left
      ∙ append_assoc (take i vs) (w ∷ []) rest
      ∙ sym (ap₂ (λ xs ys. take i vs ++ visits_from xs ys) (next_at ds i d a) (next_at vs i v b)
      ∙ ap (λ c. take i vs ++ (cond c w v ∷ rest)) on)
      ∙ before

  -- where none is left
  pub contributions_end : (ds : List Definition) (vs : List Visit) (i : ℕ) (gs goal : List Contribution) → length ds ≤ i → gs ++ contributions_from (drop i ds) (drop i vs) ≡ goal → gs ≡ goal
  contributions_end ds vs i gs goal h before = sym (append-nil gs) ∙ ap (λ xs. gs ++ contributions_from xs (drop i vs)) (sym (drop_all i ds h)) ∙ before

  pub visits_end : (ds : List Definition) (vs : List Visit) (i : ℕ) (goal : List Visit) → length ds ≤ i → length vs ≡ length ds → take i vs ++ visits_from (drop i ds) (drop i vs) ≡ goal → vs ≡ goal
  visits_end ds vs i goal h e before =
      sym (all_taken vs i (omega arith)) ∙ sym (append-nil (take i vs)) ∙ ap (λ xs. take i vs ++ visits_from xs (drop i vs)) (sym (drop_all i ds h)) ∙ before

  pub settled_long : (ds : List Definition) (vs : List Visit) → AreSettled W rounds k ds vs → length vs ≡ length ds
  settled_long [] [] s = refl
  settled_long [] (v ∷ vs) s = absurd s
  settled_long (d ∷ ds) [] s = absurd s
  settled_long (d ∷ ds) (v ∷ vs) s = ap suc (settled_long ds vs s.1)

-- where the rounds begin, each function is to be walked
first_touched : (d : Definition) → is_touched ([], []) 0 (first_visit d) ≡ true
first_touched d = refl

first_settled_from : (W : World) (ds : List Definition) → AreSettled W ([], []) 0 ds (map first_visit ds)
first_settled_from W [] = tt
first_settled_from W (d ∷ ds) = (
  record {
    own = refl;
    given = λ e. absurd (let t = first_touched d in cc);
    kept = λ e. absurd (let t = first_touched d in cc);
  },
  first_settled_from W ds,
)

pub first_settled : (W : World) (rounds : Rounds) (ds : List Definition) (vs : List Visit) → rounds ≡ ([], []) → vs ≡ map first_visit ds → AreSettled W rounds 0 ds vs
first_settled W rounds ds vs e f =
    subst (λ r. AreSettled W r 0 ds vs) (sym e) (subst (λ us. AreSettled W ([], []) 0 ds us) (sym f) (first_settled_from W ds))
