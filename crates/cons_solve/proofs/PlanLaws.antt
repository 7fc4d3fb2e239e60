-- What is kept stays right as the environment falls, and solving on from it gives the solution.
use Rattle.std.proofs.Common.{◌≡◌, ℕ, suc, ◌<◌, Bool, true, false, cond, List, [], ◌∷◌, ◌++◌, length, set, map, Some, None, refl, sym, ap, ◌∙◌, subst, arith, inl, inr}
use Rattle.std.proofs.lemmas.Bool.{cases_eq}
use Rattle.std.proofs.lemmas.List.{length-set, set-get_or, get_or-set_same, get_or-set_other}
use Rattle.type_lattice.specs.Types.{Type4, Below, AreBelow, any, meet}
use Rattle.cons_tree.specs.Constraints.{Cons, ConsList, only, all_of, any_of, no_cons, and_cons}
use Rattle.cons_tree.specs.Environments.{Types, type_at}
use Rattle.cons_tree.specs.Facts.{TypeFacts}
use Rattle.cons_tree.specs.Trails.{answer, laid, Within}
use Rattle.cons_tree.specs.declared.parts.Part.{Part}
use Rattle.cons_tree.specs.declared.slots.TrailEntry.{TrailEntry}
use Rattle.cons_solve.specs.Environments.{environments, solution, Solves}
use Rattle.cons_solve.specs.Solutions as W
use Rattle.cons_solve.specs.steps.Alternatives.{now_of}
use Rattle.cons_solve.specs.steps.Plans.{Outcome, Memo, MemoList, blank, listing, choosing, first, rest, IsUnder, met, fallen, IsKept, Good, GoodEach, GoodAny}
use Rattle.cons_tree.proofs.TrailLaws.{within_parts}
use Rattle.cons_solve.proofs.LowLaws.{now_within}
use Rattle.type_lattice.proofs.ListOrder.{are_self, are_through, are_long}
use Rattle.cons_tree.proofs.SlotLaws.{at_below, set_grows}
use Rattle.cons_solve.proofs.SolutionLaws as S

-- ---- entries that the array is lowered to

below_self : (t : Type4) → Below t t
below_self t v h = h

pub fallen_append : (fs gs : List TrailEntry) (xs : Types) → fallen (fs ++ gs) xs ≡ fallen fs (fallen gs xs)
fallen_append [] gs xs = refl
fallen_append (f ∷ fs) gs xs = ap (λ ys. met ys f) (fallen_append fs gs xs)

pub fallen_long : (fs : List TrailEntry) (xs : Types) → length (fallen fs xs) ≡ length xs
fallen_long [] xs = refl
fallen_long (f ∷ fs) xs = length-set (fallen fs xs) f.slot (meet (type_at (fallen fs xs) f.slot) f.ty) ∙ fallen_long fs xs

under_falls : (fs : List TrailEntry) (xs ys : Types) → AreBelow ys xs → IsUnder fs xs → IsUnder fs ys
under_falls [] xs ys h u = tt
under_falls (f ∷ fs) xs ys h u = (λ v k. u.0 v (at_below ys xs f.slot h v k), under_falls fs xs ys h u.1)

module _ (facts : TypeFacts) where
  meet_left : (t u : Type4) → Below (meet t u) t
  meet_left t u v h = ((facts.both t u v).0 h).0

  meet_right : (t u : Type4) → Below (meet t u) u
  meet_right t u v h = ((facts.both t u v).0 h).1

  -- a type that is below the other is the meet
  pub met_low : (xs : Types) (s : ℕ) (t m : Type4) → m ≡ meet (type_at xs s) t → Below m (type_at xs s)
  met_low xs s t m e = subst (λ u. Below u (type_at xs s)) (sym e) (meet_left (type_at xs s) t)

  met_below : (f : TrailEntry) (xs : Types) → AreBelow (met xs f) xs
  met_below f xs =
      let t = meet (type_at xs f.slot) f.ty in
      subst (AreBelow (set xs f.slot t)) (set-get_or xs f.slot any) (set_grows xs xs f.slot t (type_at xs f.slot) (are_self xs) (meet_left (type_at xs f.slot) f.ty))

  pub fallen_below : (fs : List TrailEntry) (xs : Types) → AreBelow (fallen fs xs) xs
  fallen_below [] xs = are_self xs
  fallen_below (f ∷ fs) xs = are_through (met (fallen fs xs) f) (fallen fs xs) xs (met_below f (fallen fs xs)) (fallen_below fs xs)

  fallen_grows : (fs : List TrailEntry) (xs ys : Types) → AreBelow xs ys → AreBelow (fallen fs xs) (fallen fs ys)
  fallen_grows [] xs ys h = h
  fallen_grows (f ∷ fs) xs ys h =
      let us = fallen fs xs in
      let ws = fallen fs ys in
      let k = fallen_grows fs xs ys h in
      set_grows us ws f.slot (meet (type_at us f.slot) f.ty) (meet (type_at ws f.slot) f.ty) k (facts.meet_grows (type_at us f.slot) f.ty (type_at ws f.slot) f.ty (at_below us ws f.slot k) (below_self f.ty))

  -- what is below the array and below the entries is below what the entries lower it to
  fallen_above : (fs : List TrailEntry) (xs zs : Types) → AreBelow zs xs → IsUnder fs zs → AreBelow zs (fallen fs xs)
  fallen_above [] xs zs h u = h
  fallen_above (f ∷ fs) xs zs h u =
      let ys = fallen fs xs in
      let k = fallen_above fs xs zs h u.1 in
      let t = meet (type_at ys f.slot) f.ty in
      let low : Below (type_at zs f.slot) t = λ v i. (facts.both (type_at ys f.slot) f.ty v).1 (at_below zs ys f.slot k v i, u.0 v i) in
      subst (λ l. AreBelow l (set ys f.slot t)) (set-get_or zs f.slot any) (set_grows zs ys f.slot (type_at zs f.slot) t k low)

  -- afterwards each slot is below its entry
  fallen_under : (fs : List TrailEntry) (xs : Types) → Within (length xs) fs → IsUnder fs (fallen fs xs)
  fallen_under [] xs w = tt
  fallen_under (f ∷ fs) xs w =
      let ys = fallen fs xs in
      let t = meet (type_at ys f.slot) f.ty in
      let low : f.slot < length ys = subst (λ n. f.slot < n) (sym (fallen_long fs xs)) w.0 in
      let here : Below (type_at (set ys f.slot t) f.slot) f.ty = subst (λ u. Below u f.ty) (sym (get_or-set_same ys f.slot t any low)) (meet_right (type_at ys f.slot) f.ty) in
      (here, under_falls fs ys (set ys f.slot t) (met_below f ys) (fallen_under fs xs w.1))

-- ---- what a solution lowered

-- an environment below a solution is below its entries
now_under : (fs : List TrailEntry) (xs zs : Types) → AreBelow zs xs → IsUnder (map (now_of xs) fs) zs
now_under [] xs zs h = tt
now_under (f ∷ fs) xs zs h = (at_below zs xs f.slot h, now_under fs xs zs h)

now_at : (fs : List TrailEntry) (xs zs : Types) (s : ℕ) → Within (length xs) fs → IsUnder (map (now_of xs) fs) zs → Below (type_at zs s) (type_at (laid fs xs) s) → Below (type_at zs s) (type_at xs s)
now_at [] xs zs s w u h = h
now_at (f ∷ fs) xs zs s w u h = elim (cases_eq s f.slot) [
  | inl e ↦ subst (λ n. Below (type_at zs n) (type_at xs n)) (sym e) u.0
  | inr d ↦ now_at fs xs zs s w.1 u.1 (subst (Below (type_at zs s)) (get_or-set_other (laid fs xs) f.slot s f.ty any d) h)
]

by_slots : (xs ys : Types) → length xs ≡ length ys → ((s : ℕ) → Below (type_at xs s) (type_at ys s)) → AreBelow xs ys
by_slots [] [] e h = tt
by_slots [] (y ∷ ys) e h = absurd (omega (arith, e))
by_slots (x ∷ xs) [] e h = absurd (omega (arith, e))
by_slots (x ∷ xs) (y ∷ ys) e h = (h 0, by_slots xs ys (omega (arith, e)) (λ s. h (suc s)))

module _ (facts : TypeFacts) (laws : W.Laws environments) where
  -- the array as it was, lowered to the entries of a solution, is below the solution
  now_fallen : (fs : List TrailEntry) (xs begin : Types) → laid fs xs ≡ begin → Within (length xs) fs → length begin ≡ length xs → AreBelow (fallen (map (now_of xs) fs) begin) xs
  now_fallen fs xs begin e w l =
      let lows = map (now_of xs) fs in
      let zs = fallen lows begin in
      let under = fallen_under facts lows begin (now_within (length begin) fs xs (subst (λ n. Within n fs) (sym l) w)) in
      by_slots zs xs (fallen_long lows begin ∙ l) (λ s. now_at fs xs zs s w under (subst (λ ys. Below (type_at zs s) (type_at ys s)) (sym e) (at_below zs begin s (fallen_below facts lows begin))))

  -- ---- what is kept, further down

  pub kept_falls : (c : Cons Part) (k : Outcome) (G : Types → Type 0) (xs ys : Types) → ((us ws : Types) → AreBelow ws us → G us → G ws) → AreBelow ys xs → IsKept c k G xs → IsKept c k G ys
  kept_falls c None G xs ys g h k = λ zs b q. k zs (are_through zs ys xs b h) q
  kept_falls c (Some lows) G xs ys g h k =
      (subst (λ n. Within n lows) (sym (are_long ys xs h)) k.0, λ zs b q. k.1 zs (are_through zs ys xs b h) q, g (fallen lows xs) (fallen lows ys) (fallen_grows facts lows ys xs h) k.2)

  mutual
    good_falls : (c : Cons Part) (m : Memo) (xs ys : Types) → AreBelow ys xs → Good c m xs → Good c m ys
    good_falls (only p) m xs ys h g = tt
    good_falls (all_of cs) blank xs ys h g = tt
    good_falls (all_of cs) (listing ms index) xs ys h g = (g.0, each_falls cs ms xs ys h g.1)
    good_falls (all_of cs) (choosing ms ks) xs ys h g = tt
    good_falls (any_of cs) blank xs ys h g = tt
    good_falls (any_of cs) (listing ms index) xs ys h g = tt
    good_falls (any_of cs) (choosing ms ks) xs ys h g = any_falls cs ms ks xs ys h g

    pub each_falls : (cs : ConsList Part) (ms : MemoList) (xs ys : Types) → AreBelow ys xs → GoodEach cs ms xs → GoodEach cs ms ys
    each_falls no_cons ms xs ys h g = tt
    each_falls (and_cons c cs) ms xs ys h g = (good_falls c (first ms) xs ys h g.0, each_falls cs (rest ms) xs ys h g.1)

    pub any_falls : (cs : ConsList Part) (ms : MemoList) (ks : List Outcome) (xs ys : Types) → AreBelow ys xs → GoodAny cs ms ks xs → GoodAny cs ms ks ys
    any_falls no_cons ms ks xs ys h g = tt
    any_falls (and_cons c cs) ms [] xs ys h g = absurd g
    any_falls (and_cons c cs) ms (k ∷ ks) xs ys h g =
        (kept_falls c k (Good c (first ms)) xs ys (λ us ws b q. good_falls c (first ms) us ws b q) h g.0, any_falls cs (rest ms) ks xs ys h g.1)

  -- ---- one alternative

  pub kept_dead : (c : Cons Part) (G : Types → Type 0) (xs : Types) → IsKept c None G xs → solution c xs ≡ None
  kept_dead c G xs k = S.greatest_is environments laws c xs None (S.no_solution environments laws (Solves c) xs k)

  -- solving on from the entries gives the solution
  pub kept_solves : (c : Cons Part) (lows : List TrailEntry) (G : Types → Type 0) (xs : Types) → IsKept c (Some lows) G xs → solution c (fallen lows xs) ≡ solution c xs
  kept_solves c lows G xs k =
      S.solved_on environments laws c xs (fallen lows xs) (fallen_below facts lows xs) (λ zs b q. fallen_above facts lows xs zs b (k.1 zs b q))

  -- what a solution lowered is kept, and that there is none
  pub kept_new : (c : Cons Part) (G : Types → Type 0) (fs : List TrailEntry) (begin xs : Types) (alive : Bool) (k : Outcome) → ((us ws : Types) → AreBelow ws us → G us → G ws) → solution c begin ≡ answer alive xs
      → laid fs xs ≡ begin → Within (length xs) fs → length begin ≡ length xs → (alive ≡ true → G xs) → k ≡ cond alive (Some (map (now_of xs) fs)) None → IsKept c k G begin
  kept_new c G fs begin xs true k f h e w l g is =
      subst (λ o. IsKept c o G begin) (sym is) (
        now_within (length begin) fs xs (subst (λ n. Within n fs) (sym l) w),
        λ zs b q. now_under fs xs zs (S.stays_under environments laws c begin (Some xs) h zs b q),
        f xs (fallen (map (now_of xs) fs) begin) (now_fallen fs xs begin e w l) (g refl),
      )
  kept_new c G fs begin xs false k f h e w l g is =
      subst (λ o. IsKept c o G begin) (sym is) (λ zs b q. S.stays_under environments laws c begin None h zs b q)

  pub kept_after : (c : Cons Part) (m : Memo) (fs : List TrailEntry) (begin xs : Types) (alive : Bool) (k : Outcome) → solution c begin ≡ answer alive xs → laid fs xs ≡ begin → Within (length xs) fs → length begin ≡ length xs
      → (alive ≡ true → Good c m xs) → k ≡ cond alive (Some (map (now_of xs) fs)) None → IsKept c k (Good c m) begin
  kept_after c m fs begin xs alive k h e w l g is =
      kept_new c (Good c m) fs begin xs alive k (λ us ws b q. good_falls c m us ws b q) h e w l g is

-- Bottom adds nothing to what was found
pub joined_none : (s : W.State environments) → W.joined environments s None ≡ s
joined_none None = refl
joined_none (Some x) = refl

-- ---- lowering entry by entry, the last first

pub lowering_on : (old new : List TrailEntry) (f : TrailEntry) (xs ys : Types) (m : Type4) → old ≡ new ++ f ∷ [] → m ≡ meet (type_at xs f.slot) f.ty → ys ≡ set xs f.slot m → Within (length xs) old
    → Within (length ys) new × (fallen new ys ≡ fallen old xs)
lowering_on old new f xs ys m e is g w =
    let here : ys ≡ met xs f = g ∙ ap (set xs f.slot) is in
    let kept = (within_parts (length xs) new f (subst (Within (length xs)) e w)).0 in
    (subst (λ n. Within n new) (sym (ap length g ∙ length-set xs f.slot m)) kept, ap (fallen new) here ∙ sym (ap (λ l. fallen l xs) e ∙ fallen_append new (f ∷ []) xs))
