-- A component that looks for a callee without a number becomes ready, or watches the callee that it finds.
use Rattle.std.proofs.Common.{◌≡◌, ℕ, zero, suc, ◌+◌, ◌<◌, ◌≤◌, ◌⊎◌, ◌↔◌, inl, inr, List, [], ◌∷◌, ◌++◌, length, get_or, set, refl, sym, ◌∙◌, ap, subst, arith}
use Rattle.std.specs.Prelude.{Contains, slice_index_or, Option, None, Some}
use Rattle.std.proofs.lemmas.List.{length_push, length-set, get_or_default, get_or-set_same, get_or-set_other, get_or_append_left, get_or_push}
use Rattle.std.proofs.lemmas.Bool.{cases_eq}
use Rattle.components.specs.declared.ready.Watcher.{Watcher}
use Rattle.components.specs.Graph.{targets, Leads}
use Rattle.components.specs.steps.Order.{rank_of, Ranked, nobody, watchers_of, PassedTo, WatchesAt, Among, Waits, Ordered}
use Rattle.components.proofs.Appended.{push_cases}
use Rattle.components.proofs.Given.{head_cases, leads_at}

-- among the watchers before the last, or the last
among_cases : (ws : List Watcher) (w : Watcher) (c : ℕ) → Among (ws ++ w ∷ []) c → Among ws c ⊎ (w.component ≡ c)
among_cases ws w c (k, under, is) =
    elim (push_cases ws w nobody k under) [
      | inl front ↦ inl (k, front.0, ap (λ (x : Watcher). x.component) (sym front.1) ∙ is)
      | inr end ↦ inr (ap (λ (x : Watcher). x.component) (sym end.1) ∙ is)
    ]

among_front : (ws : List Watcher) (w : Watcher) (c : ℕ) → Among ws c → Among (ws ++ w ∷ []) c
among_front ws w c (k, under, is) =
    (k, omega (arith, length_push ws w), ap (λ (x : Watcher). x.component) (get_or_append_left ws (w ∷ []) nobody k under) ∙ is)

among_end : (ws : List Watcher) (w : Watcher) → Among (ws ++ w ∷ []) w.component
among_end ws w = (length ws, omega (arith, length_push ws w), ap (λ (x : Watcher). x.component) (get_or_push ws w nobody (length ws) refl))

-- a component that has its number or whose number comes later is taken from the ready ones
module _ (callees : List (List ℕ)) (ranks : List (Option ℕ)) (ready ready' : List ℕ) (watchers : List (List Watcher)) (again : List Watcher) (count c : ℕ)
    (s : Ordered callees ranks ready watchers again count) (first : ready ≡ c ∷ ready') (r : ℕ) (has : rank_of ranks c ≡ Some r) where
  everyone_skipped : (f : ℕ) → f < length callees → rank_of ranks f ≡ None → Contains ready' f ⊎ (Waits ranks watchers f ⊎ Among again f)
  everyone_skipped f under none =
      elim (s.everyone f under none) [
        | inl in_ready ↦ elim (head_cases c ready' f (subst (λ xs. Contains xs f) first in_ready)) [
          | inl is ↦ absurd (let bad : Some r ≡ None = sym has ∙ ap (rank_of ranks) is ∙ none in cc)
          | inr tail ↦ inl tail
        ]
        | inr later ↦ inr later
      ]

  tail_ready : (f : ℕ) → Contains ready' f → Contains ready f
  tail_ready f (k, under, is) = subst (λ xs. Contains xs f) (sym first) (suc k, omega arith, is)

  pub skipped : Ordered callees ranks ready' watchers again count
  skipped = record {
    sizes = s.sizes;
    tables = s.tables;
    rank_low = s.rank_low;
    callees_first = s.callees_first;
    apart = s.apart;
    used = s.used;
    least_first = s.least_first;
    is_ready = λ f in_tail. s.is_ready f (tail_ready f in_tail);
    everyone = everyone_skipped;
    watching = s.watching;
    passed = s.passed;
    fits = s.fits;
  }

-- all callees have numbers
module _ (callees : List (List ℕ)) (ranks : List (Option ℕ)) (ready ready' : List ℕ) (watchers : List (List Watcher)) (again : List Watcher) (count component at : ℕ)
    (s : Ordered callees ranks ready watchers (again ++ record { component = component; at = at } ∷ []) count)
    (joins : (x : ℕ) → Contains ready' x ↔ (Contains ready x ⊎ (x ≡ component)))
    (to : ℕ) (ahead : PassedTo callees ranks component to) (all : length (targets callees component) ≤ to) where
  passed_front : (k : ℕ) → k < length again → PassedTo callees ranks (slice_index_or again k nobody).component (slice_index_or again k nobody).at
  passed_front k under =
      subst (λ (w : Watcher). PassedTo callees ranks w.component w.at) (get_or_append_left again (record { component = component; at = at } ∷ []) nobody k under)
      (s.passed k (omega (arith, length_push {X = Watcher} again (record { component = component; at = at }))))

  all_ranked : (e : ℕ) → Leads callees component e → Ranked ranks e
  all_ranked e (k, under, is) = subst (Ranked ranks) (get_or_default (targets callees component) k 0 e under ∙ is) (ahead.1 k (omega (arith, all)) under)

  is_ready' : (c : ℕ) → Contains ready' c → (c < length callees) × ((e : ℕ) → Leads callees c e → Ranked ranks e)
  is_ready' c has =
      elim ((joins c).0 has) [
        | inl old ↦ s.is_ready c old
        | inr is ↦ (omega (arith, is, ahead.0), λ e leads. all_ranked e (subst (λ v. Leads callees v e) is leads))
      ]

  everyone' : (c : ℕ) → c < length callees → rank_of ranks c ≡ None → Contains ready' c ⊎ (Waits ranks watchers c ⊎ Among again c)
  everyone' c under none =
      elim (s.everyone c under none) [
        | inl in_ready ↦ inl ((joins c).1 (inl in_ready))
        | inr later ↦ elim later [
          | inl waits ↦ inr (inl waits)
          | inr looks ↦ elim (among_cases again (record { component = component; at = at }) c looks) [
            | inl front ↦ inr (inr front)
            | inr is ↦ inl ((joins c).1 (inr (sym is)))
          ]
        ]
      ]

  pub made_ready : Ordered callees ranks ready' watchers again count
  made_ready = record {
    sizes = s.sizes;
    tables = s.tables;
    rank_low = s.rank_low;
    callees_first = s.callees_first;
    apart = s.apart;
    used = s.used;
    least_first = s.least_first;
    is_ready = is_ready';
    everyone = everyone';
    watching = s.watching;
    passed = passed_front;
    fits = s.fits;
  }

-- the callee e has no number
module _ (callees : List (List ℕ)) (ranks : List (Option ℕ)) (ready : List ℕ) (watchers : List (List Watcher)) (again : List Watcher) (count component at e : ℕ)
    (s : Ordered callees ranks ready watchers (again ++ record { component = component; at = at } ∷ []) count)
    (to : ℕ) (ahead : PassedTo callees ranks component to) (here : WatchesAt callees component to e) (none_e : rank_of ranks e ≡ None) (low : e < length callees) where
  passed_before : (k : ℕ) → k < length again → PassedTo callees ranks (slice_index_or again k nobody).component (slice_index_or again k nobody).at
  passed_before k under =
      subst (λ (w : Watcher). PassedTo callees ranks w.component w.at) (get_or_append_left again (record { component = component; at = at } ∷ []) nobody k under)
      (s.passed k (omega (arith, length_push {X = Watcher} again (record { component = component; at = at }))))

  more : watchers_of (set watchers e (watchers_of watchers e ++ record { component = component; at = to } ∷ [])) e ≡ watchers_of watchers e ++ record { component = component; at = to } ∷ []
  more = get_or-set_same watchers e (watchers_of watchers e ++ record { component = component; at = to } ∷ []) [] (omega (arith, s.tables))

  same : (f : ℕ) → (f ≡ e → ⊥) → watchers_of (set watchers e (watchers_of watchers e ++ record { component = component; at = to } ∷ [])) f ≡ watchers_of watchers f
  same f ne = get_or-set_other watchers e f (watchers_of watchers e ++ record { component = component; at = to } ∷ []) [] ne

  waits_still : (c : ℕ) → Waits ranks watchers c → Waits ranks (set watchers e (watchers_of watchers e ++ record { component = component; at = to } ∷ [])) c
  waits_still c (f, none, among) =
      elim (cases_eq f e) [
        | inl is ↦
            (e, none_e, subst (λ ws. Among ws c) (sym more) (among_front (watchers_of watchers e) (record { component = component; at = to }) c (subst (λ v. Among (watchers_of watchers v) c) is among)))
        | inr ne ↦ (f, none, subst (λ ws. Among ws c) (sym (same f ne)) among)
      ]

  everyone_waits : (c : ℕ) → c < length callees → rank_of ranks c ≡ None
      → Contains ready c ⊎ (Waits ranks (set watchers e (watchers_of watchers e ++ record { component = component; at = to } ∷ [])) c ⊎ Among again c)
  everyone_waits c under none =
      elim (s.everyone c under none) [
        | inl in_ready ↦ inl in_ready
        | inr later ↦ inr (elim later [
          | inl waits ↦ inl (waits_still c waits)
          | inr looks ↦ elim (among_cases again (record { component = component; at = at }) c looks) [
            | inl front ↦ inr front
            | inr is ↦ inl (
              e,
              none_e,
              subst (λ ws. Among ws c) (sym more) (subst (λ v. Among (watchers_of watchers e ++ record { component = component; at = to } ∷ []) v) is
                  (among_end (watchers_of watchers e) (record { component = component; at = to }))),
            )
          ]
        ])
      ]

  fine_more : (k : ℕ) → k < length (watchers_of watchers e ++ record { component = component; at = to } ∷ [])
      → PassedTo callees ranks (slice_index_or (watchers_of watchers e ++ record { component = component; at = to } ∷ []) k nobody).component
      (slice_index_or (watchers_of watchers e ++ record { component = component; at = to } ∷ []) k nobody).at
      × WatchesAt callees (slice_index_or (watchers_of watchers e ++ record { component = component; at = to } ∷ []) k nobody).component
      (slice_index_or (watchers_of watchers e ++ record { component = component; at = to } ∷ []) k nobody).at e
  fine_more k under =
      elim (push_cases (watchers_of watchers e) (record { component = component; at = to }) nobody k under) [
        | inl front ↦
            subst (λ (w : Watcher). PassedTo callees ranks w.component w.at × WatchesAt callees w.component w.at e) (sym front.1) (s.watching e k front.0)
        | inr end ↦
            subst (λ (w : Watcher). PassedTo callees ranks w.component w.at × WatchesAt callees w.component w.at e) (sym end.1) (ahead, here)
      ]

  watching_more : (f k : ℕ) → k < length (watchers_of (set watchers e (watchers_of watchers e ++ record { component = component; at = to } ∷ [])) f)
      → PassedTo callees ranks (slice_index_or (watchers_of (set watchers e (watchers_of watchers e ++ record { component = component; at = to } ∷ [])) f) k nobody).component
      (slice_index_or (watchers_of (set watchers e (watchers_of watchers e ++ record { component = component; at = to } ∷ [])) f) k nobody).at
      × WatchesAt callees (slice_index_or (watchers_of (set watchers e (watchers_of watchers e ++ record { component = component; at = to } ∷ [])) f) k nobody).component
      (slice_index_or (watchers_of (set watchers e (watchers_of watchers e ++ record { component = component; at = to } ∷ [])) f) k nobody).at f
  watching_more f k under =
      elim (cases_eq f e) [
        | inl is ↦
            let ws : watchers_of (set watchers e (watchers_of watchers e ++ record { component = component; at = to } ∷ [])) f ≡ watchers_of watchers e ++ record { component = component; at = to } ∷ [] =
            ap (watchers_of (set watchers e (watchers_of watchers e ++ record { component = component; at = to } ∷ []))) is ∙ more in
            subst (λ (v : ℕ). PassedTo callees ranks (get_or (watchers_of (set watchers e (watchers_of watchers e ++ record { component = component; at = to } ∷ [])) f) k nobody).component
            (get_or (watchers_of (set watchers e (watchers_of watchers e ++ record { component = component; at = to } ∷ [])) f) k nobody).at
            × WatchesAt callees (get_or (watchers_of (set watchers e (watchers_of watchers e ++ record { component = component; at = to } ∷ [])) f) k nobody).component
            (get_or (watchers_of (set watchers e (watchers_of watchers e ++ record { component = component; at = to } ∷ [])) f) k nobody).at v) (sym is)
            (subst (λ (xs : List Watcher). PassedTo callees ranks (get_or xs k nobody).component (get_or xs k nobody).at × WatchesAt callees (get_or xs k nobody).component (get_or xs k nobody).at e) (sym ws)
            (fine_more k (subst (λ xs. k < length xs) ws under)))
        | inr ne ↦
            let ws = same f ne in
            subst (λ (xs : List Watcher). PassedTo callees ranks (get_or xs k nobody).component (get_or xs k nobody).at × WatchesAt callees (get_or xs k nobody).component (get_or xs k nobody).at f) (sym ws)
            (s.watching f k (subst (λ xs. k < length xs) ws under))
      ]

  pub made_watching : Ordered callees ranks ready (set watchers e (watchers_of watchers e ++ record { component = component; at = to } ∷ [])) again count
  made_watching = record {
    sizes = s.sizes;
    tables = length-set watchers e _ ∙ s.tables;
    rank_low = s.rank_low;
    callees_first = s.callees_first;
    apart = s.apart;
    used = s.used;
    least_first = s.least_first;
    is_ready = s.is_ready;
    everyone = everyone_waits;
    watching = watching_more;
    passed = passed_before;
    fits = s.fits;
  }

-- nothing is ready and nothing looks, so every component has its number
module _ (callees : List (List ℕ)) (ranks : List (Option ℕ)) (watchers : List (List Watcher)) (count : ℕ)
    (s : Ordered callees ranks [] watchers [] count) (level : ℕ → ℕ) (falls : (c e : ℕ) → Leads callees c e → level e < level c)
    (inside : (c e : ℕ) → Leads callees c e → e < length callees) where
  unless_none : (b c : ℕ) → level c < suc b → c < length callees → ((e : ℕ) → level e < b → e < length callees → Ranked ranks e) → (m : Option ℕ) → rank_of ranks c ≡ m → Ranked ranks c
  unless_none b c less under lower (Some r) e = (r, e)
  unless_none b c less under lower None e =
      elim (s.everyone c under e) [
        | inl in_ready ↦ absurd (omega (arith, in_ready.1))
        | inr later ↦ elim later [
          | inl waits ↦
              let at = s.watching waits.0 waits.2.0 waits.2.1 in
              let leads : Leads callees c waits.0 = subst (λ v. Leads callees v waits.0) waits.2.2 (leads_at callees _ _ waits.0 at.1) in
              let has = lower waits.0 (omega (arith, falls c waits.0 leads)) (inside c waits.0 leads) in
              absurd (let bad : None ≡ Some has.0 = sym waits.1 ∙ has.1 in cc)
          | inr looks ↦ absurd (omega (arith, looks.1))
        ]
      ]

  ranked_under : (b c : ℕ) → level c < b → c < length callees → Ranked ranks c
  ranked_under zero c less under = absurd (omega arith)
  ranked_under (suc b) c less under = unless_none b c less under (ranked_under b) (rank_of ranks c) refl

  pub all_ranked_at_end : (c : ℕ) → c < length callees → Ranked ranks c
  all_ranked_at_end c under = ranked_under (level c + 1) c (omega arith) under
