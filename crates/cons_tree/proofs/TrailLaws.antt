-- Trails: what was added to one gives back what was there.
use Rattle.std.proofs.Common.{◌≡◌, ℕ, zero, suc, ◌+◌, ◌<◌, ◌≤◌, Bool, true, false, cond, List, [], ◌∷◌, ◌++◌, length, set}
use Rattle.std.proofs.Common.{take, drop, slice_get, Some, None, refl, sym, ap, ◌∙◌, subst, arith, append_assoc, length-append}
use Rattle.std.specs.Prelude.{Result, Ok, Err, IfOk, not, ◌↔◌}
use Rattle.std.proofs.lemmas.Option.{get_or_from_slice_get}
use Rattle.std.proofs.lemmas.List.{length-set, set-set, set-get_or, drop-append-le, take-append-le}
use Rattle.type_lattice_model.specs.Values.{Value}
use Rattle.type_lattice.specs.Types.{Type4, Below, HasType, any, is_none, join, meet}
use Rattle.cons_tree.specs.Environments.{Types, State, type_at, on_types, with_type, lowered}
use Rattle.cons_tree.specs.Trails.{answer, laid, Within, summed, Trailed}
use Rattle.cons_tree.specs.declared.slots.TrailEntry.{TrailEntry}
use Rattle.cons_tree.specs.declared.slots.Slots.{Slots}

pub laid_append : (fs gs : List TrailEntry) (xs : Types) → laid (fs ++ gs) xs ≡ laid fs (laid gs xs)
laid_append [] gs xs = refl
laid_append (f ∷ fs) gs xs = ap (λ ys. set ys f.slot f.ty) (laid_append fs gs xs)

pub laid_length : (fs : List TrailEntry) (xs : Types) → length (laid fs xs) ≡ length xs
laid_length [] xs = refl
laid_length (f ∷ fs) xs = length-set (laid fs xs) f.slot f.ty ∙ laid_length fs xs

within_append : (n : ℕ) (fs gs : List TrailEntry) → Within n fs → Within n gs → Within n (fs ++ gs)
within_append n [] gs h k = k
within_append n (f ∷ fs) gs h k = (h.0, within_append n fs gs h.1 k)

pub trailed_length : (old new : Slots) → Trailed old new → length new.types ≡ length old.types
trailed_length old new t = sym (laid_length t.added new.types) ∙ ap length t.back

pub trailed_then : (r s t : Slots) → Trailed r s → Trailed s t → Trailed r t
trailed_then r s t h k = record {
  added = h.added ++ k.added;
  trail = k.trail ∙ ap (λ l. l ++ k.added) h.trail ∙ append_assoc r.trail h.added k.added;
  back = laid_append h.added k.added t.types ∙ ap (laid h.added) k.back ∙ h.back;
  within = within_append (length t.types) h.added k.added (subst (λ n. Within n h.added) (sym (trailed_length s t k)) h.within) k.within;
  paid = λ m f. let e = length-append h.added k.added in omega (arith, h.paid m f, k.paid m f, e);
}

summed_set : (h : Type4 → ℕ) (xs : Types) (s : ℕ) (t : Type4) → s < length xs → summed h (set xs s t) + h (type_at xs s) ≡ summed h xs + h t
summed_set h [] s t l = absurd (omega (arith, l))
summed_set h (x ∷ xs) zero t l = omega arith
summed_set h (x ∷ xs) (suc s) t l = let e = summed_set h xs s t (omega (arith, l)) in omega (arith, e)

-- one slot was lowered
pub trailed_one : (old new : Slots) (s : ℕ) (t u : Type4) → new.types ≡ set old.types s t → new.trail ≡ old.trail ++ (record { slot = s; ty = u }) ∷ [] → s < length old.types → u ≡ type_at old.types s → Below t u
    → (Below u t → ⊥) → Trailed old new
trailed_one old new s t u types trail l is k n = record {
  added = (record { slot = s; ty = u }) ∷ [];
  trail = trail;
  back = ap (λ xs. set xs s u) types ∙ set-set old.types s t u ∙ ap (set old.types s) is ∙ set-get_or old.types s any;
  within = (subst (λ xs. s < length xs) (sym types) (omega (arith, l, length-set old.types s t)), tt);
  paid = λ m f.
      let less = f t u k (λ e. n (subst (λ v. Below v t) e (λ v i. i))) in
      let e = summed_set m old.types s t l in
      let same : m u ≡ m (type_at old.types s) = ap m is in
      let there : summed m new.types ≡ summed m (set old.types s t) = ap (summed m) types in
      omega (arith, less, e, same, there);
}

-- ---- one slot

pub at_is : (xs : Types) (s : ℕ) (u : Type4) → slice_get xs s ≡ Some u → u ≡ type_at xs s
at_is xs s u h = sym (get_or_from_slice_get xs s u any h)

pub at_past : (xs : Types) (s : ℕ) → slice_get xs s ≡ None → any ≡ type_at xs s
at_past [] s h = refl
at_past (x ∷ xs) zero h = absurd cc
at_past (x ∷ xs) (suc s) h = at_past xs s h

pub with_none : (xs : Types) (s : ℕ) (t : Type4) → is_none t ≡ true → with_type xs s t ≡ None
with_none xs s t h = ap (λ b. cond b None (Some (set xs s t))) h

pub with_set : (xs ys : Types) (s : ℕ) (t : Type4) → is_none t ≡ false → ys ≡ set xs s t → with_type xs s t ≡ Some ys
with_set xs ys s t h e = ap (λ b. cond b None (Some (set xs s t))) h ∙ ap Some (sym e)

pub with_same : (xs : Types) (s : ℕ) (t : Type4) → is_none t ≡ false → t ≡ type_at xs s → with_type xs s t ≡ Some xs
with_same xs s t h e = with_set xs xs s t h (sym (ap (set xs s) e ∙ set-get_or xs s any))

-- ---- answers

pub no_answer : (b : Bool) (r : State) (xs : Types) → b ≡ false → r ≡ answer b xs → r ≡ None
no_answer b r xs e h = h ∙ ap (λ a. answer a xs) e

pub an_answer : (b : Bool) (r : State) (xs : Types) → b ≡ true → r ≡ answer b xs → r ≡ Some xs
an_answer b r xs e h = h ∙ ap (λ a. answer a xs) e

-- the first of two steps ends in Bottom, or goes on
pub stops : (r : State) (g : Types → State) → r ≡ None → on_types r g ≡ None
stops r g h = ap (λ s. on_types s g) h

pub goes_on : (r s : State) (g : Types → State) (ys : Types) → r ≡ Some ys → g ys ≡ s → on_types r g ≡ s
goes_on r s g ys h k = ap (λ q. on_types q g) h ∙ k

-- the same of a call that goes on with a second step
pub dead_value : (f g : Types → State) (xs ys zs : Types) (b : Bool) → b ≡ false → f xs ≡ answer b ys → on_types (f xs) g ≡ answer false zs
dead_value f g xs ys zs b e h = stops (f xs) g (no_answer b (f xs) ys e h)

pub tail_value : {E : Type 0} (r : Result Bool E) (f g : Types → State) (xs ys zs : Types) (b : Bool) → b ≡ true → f xs ≡ answer b ys → IfOk r (λ a. g ys ≡ answer a zs) → IfOk r (λ a. on_types (f xs) g ≡ answer a zs)
tail_value (Ok a) f g xs ys zs b e h k = goes_on (f xs) (answer a zs) g ys (an_answer b (f xs) ys e h) k
tail_value (Err d) f g xs ys zs b e h k = tt

pub tail_trailed : {E : Type 0} (r : Result Bool E) (s t u : Slots) → Trailed s t → IfOk r (λ _. Trailed t u) → IfOk r (λ _. Trailed s u)
tail_trailed (Ok a) s t u h k = trailed_then s t u h k
tail_trailed (Err d) s t u h k = tt

pub lowered_is : {E : Type 0} (r : Result Bool E) (xs ys : Types) (s : ℕ) (t u m : Type4) → u ≡ type_at xs s → m ≡ meet u t → IfOk r (λ a. with_type xs s m ≡ answer a ys) → IfOk r (λ a. lowered xs s t ≡ answer a ys)
unfolding lowered
lowered_is (Ok a) xs ys s t u m is e h = ap (with_type xs s) (ap (λ v. meet v t) (sym is) ∙ sym e) ∙ h
lowered_is (Err d) xs ys s t u m is e h = tt

-- ---- a slot that is below the type already, and one that isn't

module _ (same : (s t : Type4) → Below s t → Below t s → s ≡ t) (both : (s t : Type4) (v : Value) → HasType v (meet s t) ↔ (HasType v s × HasType v t)) where
  meet_same : (s t : Type4) → Below s t → meet s t ≡ s
  meet_same s t h = same (meet s t) s (λ v k. ((both s t v).0 k).0) (λ v k. (both s t v).1 (k, h v k))

  -- the meet with a type that is below
  pub meet_is : (t u : Type4) → Below u t → u ≡ meet t u
  meet_is t u h = same u (meet t u) (λ v k. (both t u v).1 (h v k, k)) (λ v k. ((both t u v).0 k).1)

  -- nothing changes
  pub stays : (xs : Types) (s : ℕ) (t : Type4) (b : Bool) → Below (type_at xs s) t → b ≡ not (is_none (type_at xs s)) → lowered xs s t ≡ answer b xs
  unfolding lowered
  stays xs s t b h e = ap (with_type xs s) (meet_same (type_at xs s) t h) ∙ by (is_none (type_at xs s)) refl ∙ ap (λ a. answer a xs) (sym e)
    where
      by : (n : Bool) → is_none (type_at xs s) ≡ n → with_type xs s (type_at xs s) ≡ answer (not (is_none (type_at xs s))) xs
      by true q = with_none xs s (type_at xs s) q ∙ sym (ap (λ a. answer (not a) xs) q)
      by false q = with_same xs s (type_at xs s) q refl ∙ sym (ap (λ a. answer (not a) xs) q)

  -- the meet is smaller
  pub meet_smaller : (xs : Types) (s : ℕ) (u t m : Type4) → u ≡ type_at xs s → m ≡ meet u t → (Below u t → ⊥) → Below (type_at xs s) m → ⊥
  meet_smaller xs s u t m is e n h = n (λ v k. ((both u t v).0 (subst (HasType v) e (h v (subst (HasType v) is k)))).1)

-- the join with a type that is below
pub join_is : ((s t : Type4) → Below s t → Below t s → s ≡ t) → ((s t : Type4) → Below s (join s t)) → ((s t u : Type4) → Below s u → Below t u → Below (join s t) u) → (t u : Type4) → Below u t → t ≡ join t u
join_is same left least t u h = same t (join t u) (left t u) (least t u t (λ v i. i) h)

-- ---- going back by one entry

pub within_parts : (n : ℕ) (fs : List TrailEntry) (f : TrailEntry) → Within n (fs ++ f ∷ []) → Within n fs × (f.slot < n)
within_parts n [] f h = (tt, h.0)
within_parts n (g ∷ fs) f h = let p = within_parts n fs f h.1 in ((h.0, p.0), p.1)

split_last : (m : ℕ) (old new : List TrailEntry) (f : TrailEntry) → old ≡ new ++ f ∷ [] → m < length old → drop m old ≡ drop m new ++ f ∷ []
split_last m old new f e h =
    let l = length-append new (f ∷ []) in
    let n : length old ≡ length (new ++ f ∷ []) = ap length e in
    ap (drop m) e ∙ drop-append-le m new (f ∷ []) (omega (arith, h, l, n))

pub last_within : (n m : ℕ) (old new : List TrailEntry) (f : TrailEntry) → old ≡ new ++ f ∷ [] → m < length old → Within n (drop m old) → Within n (drop m new) × (f.slot < n)
last_within n m old new f e h w = within_parts n (drop m new) f (subst (Within n) (split_last m old new f e h) w)

pub last_low : (m : ℕ) (old new : List TrailEntry) (f : TrailEntry) → old ≡ new ++ f ∷ [] → m < length old → m ≤ length new
last_low m old new f e h =
    let l = length-append new (f ∷ []) in
    let n : length old ≡ length (new ++ f ∷ []) = ap length e in
    omega (arith, h, l, n)

pub last_front : (m : ℕ) (old new : List TrailEntry) (f : TrailEntry) → old ≡ new ++ f ∷ [] → m < length old → take m new ≡ take m old
last_front m old new f e h =
    sym (ap (take m) e ∙ take-append-le m new (f ∷ []) (last_low m old new f e h))

pub last_back : (m : ℕ) (old new : List TrailEntry) (f : TrailEntry) (xs ys : Types) → old ≡ new ++ f ∷ [] → m < length old → ys ≡ set xs f.slot f.ty → laid (drop m new) ys ≡ laid (drop m old) xs
last_back m old new f xs ys e h g =
    ap (laid (drop m new)) g ∙ sym (ap (λ l. laid l xs) (split_last m old new f e h) ∙ laid_append (drop m new) (f ∷ []) xs)
