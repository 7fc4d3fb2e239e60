-- The least ready component gets the next number.
use Rattle.std.proofs.Common.{◌≡◌, ℕ, zero, suc, ◌+◌, ◌<◌, ◌≤◌, ◌⊎◌, inl, inr, List, [], ◌∷◌, length, get_or, set, refl, sym, ◌∙◌, ap, subst, arith}
use Rattle.std.specs.Prelude.{Contains, sum_by, slice_index, slice_index_or, Option, None, Some}
use Rattle.std.proofs.lemmas.List.{length-set, get_or_default, get_or-set_same, get_or-set_other}
use Rattle.std.proofs.lemmas.List.Sums.{sum_by-set}
use Rattle.std.proofs.lemmas.Bool.{cases_lt, cases_eq}
use Rattle.components.specs.declared.ready.Watcher.{Watcher}
use Rattle.components.specs.Graph.{targets, Leads}
use Rattle.components.specs.Lists.{Ascending}
use Rattle.components.specs.steps.Order.{rank_of, unranked, Ranked, RankedBelow, nobody, watchers_of, PassedTo, WatchesAt, Among, Waits, Ordered}

-- the first item or a later one
pub head_cases : (x : ℕ) (xs : List ℕ) (y : ℕ) → Contains (x ∷ xs) y → (x ≡ y) ⊎ Contains xs y
head_cases x xs y (zero, under, is) = inl is
head_cases x xs y (suc k, under, is) = inr (k, omega arith, is)

pub in_tail : (x : ℕ) (xs : List ℕ) (y : ℕ) → Contains xs y → Contains (x ∷ xs) y
in_tail x xs y (k, under, is) = (suc k, omega arith, is)

pub head_least : (x : ℕ) (xs : List ℕ) (y : ℕ) → Ascending (x ∷ xs) → Contains (x ∷ xs) y → x ≤ y
head_least x xs y sorted (zero, under, is) = omega (arith, is)
head_least x xs y sorted (suc k, under, is) = let less : x < get_or xs k y = sorted 0 (suc k) y (omega arith) under in omega (arith, is)

pub leads_at : (callees : List (List ℕ)) (component at e : ℕ) → WatchesAt callees component at e → Leads callees component e
leads_at callees component at e (under, is) = (at, under, get_or_default (targets callees component) at e 0 under ∙ is)

module _ (callees : List (List ℕ)) (ranks : List (Option ℕ)) (ready ready' : List ℕ) (watchers : List (List Watcher)) (count c : ℕ)
    (s : Ordered callees ranks ready watchers [] count) (first : ready ≡ c ∷ ready') (sorted : Ascending ready) (new : rank_of ranks c ≡ None) where
  c_ready : Contains ready c
  c_ready = subst (λ xs. Contains xs c) (sym first) (0, omega arith, refl)

  low : c < length callees
  low = (s.is_ready c c_ready).0

  rank_cases : (f : ℕ) → ((f ≡ c) × (rank_of (set ranks c (Some count)) f ≡ Some count)) ⊎ ((f ≡ c → ⊥) × (rank_of (set ranks c (Some count)) f ≡ rank_of ranks f))
  rank_cases f =
      elim (cases_eq f c) [
        | inl e ↦ inl (e, ap (rank_of (set ranks c (Some count))) e ∙ get_or-set_same ranks c (Some count) None (omega (arith, s.sizes, low)))
        | inr ne ↦ inr (ne, get_or-set_other ranks c f (Some count) None ne)
      ]

  stays : (f r : ℕ) → rank_of ranks f ≡ Some r → rank_of (set ranks c (Some count)) f ≡ Some r
  stays f r e =
      elim (rank_cases f) [
        | inl here ↦ absurd (let bad : None ≡ Some r = sym new ∙ ap (rank_of ranks) (sym here.0) ∙ e in cc)
        | inr other ↦ other.1 ∙ e
      ]

  -- a number is the new one, or was there before
  given_cases : (f r : ℕ) → rank_of (set ranks c (Some count)) f ≡ Some r → ((f ≡ c) × (r ≡ count)) ⊎ ((f ≡ c → ⊥) × (rank_of ranks f ≡ Some r) × (r < count))
  given_cases f r e =
      elim (rank_cases f) [
        | inl here ↦ inl (here.0, let both : Some r ≡ Some count = sym e ∙ here.1 in cc)
        | inr other ↦ let old : rank_of ranks f ≡ Some r = sym other.1 ∙ e in inr (other.0, old, s.rank_low f r old)
      ]

  ranked : (f : ℕ) → Ranked ranks f → Ranked (set ranks c (Some count)) f
  ranked f (r, e) = (r, stays f r e)

  passed_to : (component at : ℕ) → PassedTo callees ranks component at → PassedTo callees (set ranks c (Some count)) component at
  passed_to component at (under, before) = (under, λ q less inside. ranked (slice_index (targets callees component) q) (before q less inside))

  rank_low' : (f r : ℕ) → rank_of (set ranks c (Some count)) f ≡ Some r → r < count + 1
  rank_low' f r e =
      elim (given_cases f r e) [
        | inl here ↦ omega (arith, here.1)
        | inr old ↦ omega (arith, old.2)
      ]

  callees_first' : (f e r : ℕ) → rank_of (set ranks c (Some count)) f ≡ Some r → Leads callees f e → RankedBelow (set ranks c (Some count)) r e
  callees_first' f e r is leads =
      elim (given_cases f r is) [
        | inl here ↦
            let has = (s.is_ready c c_ready).1 e (subst (λ v. Leads callees v e) here.0 leads) in
            (has.0, stays e has.0 has.1, omega (arith, here.1, s.rank_low e has.0 has.1))
        | inr old ↦ let was = s.callees_first f e r old.1 leads in (was.0, stays e was.0 was.1, was.2)
      ]

  apart' : (f d r : ℕ) → rank_of (set ranks c (Some count)) f ≡ Some r → rank_of (set ranks c (Some count)) d ≡ Some r → f ≡ d
  apart' f d r is_f is_d =
      elim (given_cases f r is_f) [
        | inl here_f ↦ elim (given_cases d r is_d) [
          | inl here_d ↦ here_f.0 ∙ sym here_d.0
          | inr old_d ↦ absurd (omega (arith, here_f.1, old_d.2))
        ]
        | inr old_f ↦ elim (given_cases d r is_d) [
          | inl here_d ↦ absurd (omega (arith, here_d.1, old_f.2))
          | inr old_d ↦ s.apart f d r old_f.1 old_d.1
        ]
      ]

  used' : (r : ℕ) → r < count + 1 → (f : ℕ) × (rank_of (set ranks c (Some count)) f ≡ Some r)
  used' r under =
      elim (cases_lt r count) [
        | inl less ↦ let old = s.used r less in (old.0, stays old.0 r old.1)
        | inr high ↦
            let is : count ≡ r = omega arith in
            (c, get_or-set_same ranks c (Some count) None (omega (arith, s.sizes, low)) ∙ ap Some is)
      ]

  -- what is below the new number had its number before
  below_old : (e r : ℕ) → r ≤ count → RankedBelow (set ranks c (Some count)) r e → RankedBelow ranks r e
  below_old e r most (q, is, less) =
      elim (given_cases e q is) [
        | inl here ↦ absurd (omega (arith, here.1))
        | inr old ↦ (q, old.1, less)
      ]

  -- a component without a number whose callees have numbers is ready, so it isn't below the least
  waits_not : (f : ℕ) → f < length callees → rank_of ranks f ≡ None → ((e : ℕ) → Leads callees f e → RankedBelow ranks count e) → c ≤ f
  waits_not f under none all =
      elim (s.everyone f under none) [
        | inl in_ready ↦ head_least c ready' f (subst Ascending first sorted) (subst (λ xs. Contains xs f) first in_ready)
        | inr later ↦ elim later [
          | inl waits ↦
              let at = s.watching waits.0 waits.2.0 waits.2.1 in
              let leads : Leads callees f waits.0 = subst (λ v. Leads callees v waits.0) waits.2.2 (leads_at callees _ _ waits.0 at.1) in
              let has = all waits.0 leads in
              absurd (let bad : None ≡ Some has.0 = sym waits.1 ∙ has.1 in cc)
          | inr none_again ↦ absurd (omega (arith, none_again.1))
        ]
      ]

  least_first' : (r d f : ℕ) → rank_of (set ranks c (Some count)) d ≡ Some r → f < length callees → ((q : ℕ) → rank_of (set ranks c (Some count)) f ≡ Some q → r ≤ q)
      → ((e : ℕ) → Leads callees f e → RankedBelow (set ranks c (Some count)) r e) → d ≤ f
  least_first' r d f is under later all =
      elim (given_cases d r is) [
        | inl here ↦ new_least here.0 here.1 (rank_of ranks f) refl
        | inr old ↦ s.least_first r d f old.1 under (λ q e. later q (stays f q e)) (λ e leads. below_old e r (omega (arith, old.2)) (all e leads))
      ]
    where
      new_least : d ≡ c → r ≡ count → (m : Option ℕ) → rank_of ranks f ≡ m → d ≤ f
      new_least is_c is_r None e =
          omega (arith, is_c, waits_not f under e (λ g leads. subst (λ n. RankedBelow ranks n g) is_r (below_old g r (omega (arith, is_r)) (all g leads))))
      new_least is_c is_r (Some q) e = absurd (omega (arith, is_r, later q (stays f q e), s.rank_low f q e))

  is_ready' : (f : ℕ) → Contains ready' f → (f < length callees) × ((e : ℕ) → Leads callees f e → Ranked (set ranks c (Some count)) e)
  is_ready' f has =
      let old = s.is_ready f (subst (λ xs. Contains xs f) (sym first) (in_tail c ready' f has)) in
      (old.0, λ e leads. ranked e (old.1 e leads))

  watchers_same : (e : ℕ) → (e ≡ c → ⊥) → watchers_of (set watchers c []) e ≡ watchers_of watchers e
  watchers_same e ne = get_or-set_other watchers c e [] [] ne

  watchers_none : watchers_of (set watchers c []) c ≡ []
  watchers_none = get_or-set_same watchers c [] [] (omega (arith, s.tables, low))

  everyone' : (f : ℕ) → f < length callees → rank_of (set ranks c (Some count)) f ≡ None
      → Contains ready' f ⊎ (Waits (set ranks c (Some count)) (set watchers c []) f ⊎ Among (watchers_of watchers c) f)
  everyone' f under none =
      elim (rank_cases f) [
        | inl here ↦ absurd (let bad : Some count ≡ None = sym here.1 ∙ none in cc)
        | inr other ↦ elim (s.everyone f under (sym other.1 ∙ none)) [
          | inl in_ready ↦ elim (head_cases c ready' f (subst (λ xs. Contains xs f) first in_ready)) [
            | inl is ↦ absurd (other.0 (sym is))
            | inr tail ↦ inl tail
          ]
          | inr later ↦ elim later [
            | inl waits ↦ elim (rank_cases waits.0) [
              | inl at_c ↦ inr (inr (subst (λ v. Among (watchers_of watchers v) f) at_c.0 waits.2))
              | inr at_other ↦ inr (inl (waits.0, at_other.1 ∙ waits.1, subst (λ ws. Among ws f) (sym (watchers_same waits.0 at_other.0)) waits.2))
            ]
            | inr none_again ↦ absurd (omega (arith, none_again.1))
          ]
        ]
      ]

  watching' : (e k : ℕ) → k < length (watchers_of (set watchers c []) e)
      → PassedTo callees (set ranks c (Some count)) (slice_index_or (watchers_of (set watchers c []) e) k nobody).component (slice_index_or (watchers_of (set watchers c []) e) k nobody).at
      × WatchesAt callees (slice_index_or (watchers_of (set watchers c []) e) k nobody).component (slice_index_or (watchers_of (set watchers c []) e) k nobody).at e
  watching' e k under =
      elim (cases_eq e c) [
        | inl is ↦ absurd (omega (arith, ap length (ap (watchers_of (set watchers c [])) is ∙ watchers_none)))
        | inr ne ↦
            let same = watchers_same e ne in
            let old = s.watching e k (subst (λ ws. k < length ws) same under) in
            subst (λ (ws : List Watcher). PassedTo callees (set ranks c (Some count)) (get_or ws k nobody).component (get_or ws k nobody).at × WatchesAt callees (get_or ws k nobody).component (get_or ws k nobody).at e) (sym same)
            (passed_to _ _ old.0, old.1)
      ]

  pub unranked_falls : sum_by unranked (set ranks c (Some count)) + 1 ≡ sum_by unranked ranks
  unranked_falls =
      let sum : sum_by unranked (set ranks c (Some count)) + unranked (rank_of ranks c) ≡ sum_by unranked ranks + 0 = sum_by-set unranked ranks c (Some count) None (omega (arith, s.sizes, low)) in
      let one : unranked (rank_of ranks c) ≡ 1 = ap unranked new in
      omega arith

  pub given : Ordered callees (set ranks c (Some count)) ready' (set watchers c []) (watchers_of watchers c) (count + 1)
  given = record {
    sizes = length-set ranks c (Some count) ∙ s.sizes;
    tables = length-set watchers c [] ∙ s.tables;
    rank_low = rank_low';
    callees_first = callees_first';
    apart = apart';
    used = used';
    least_first = least_first';
    is_ready = is_ready';
    everyone = everyone';
    watching = watching';
    passed = λ k under. passed_to _ _ (s.watching c k under).0;
    fits = omega (arith, s.fits, unranked_falls);
  }
