-- The steps of the numbering, at the lists that its functions leave.
use Rattle.std.proofs.Common.{◌≡◌, ℕ, ◌+◌, ◌<◌, ◌≤◌, ◌*◌, ◌⊎◌, ◌↔◌, inl, inr, List, [], ◌∷◌, ◌++◌, length, get_or, set, replicate, refl, sym, ◌∙◌, ap, subst, arith}
use Rattle.std.specs.Prelude.{Contains, sum_by, slice_index, Option, None, Some, Result, Ok, Err, OnOk}
use Rattle.std.proofs.lemmas.List.{length_push, length-replicate, get_or-replicate, get_or_past, get_or_default, get_or_push}
use Rattle.std.proofs.lemmas.List.Folds.{sum_by-replicate}
use Rattle.std.proofs.lemmas.Bool.{cases_lt}
use Rattle.components.specs.declared.ready.Watcher.{Watcher}
use Rattle.components.specs.Graph.{targets, Leads}
use Rattle.components.specs.Lists.{Ascending}
use Rattle.components.specs.steps.Order.{rank_of, unranked, Ranked, nobody, watchers_of, PassedTo, WatchesAt, Ordered, FirstWatchers, IsInside, IsAcyclic, AllRanked, RanksAre, InReadyOrder}
use Rattle.components.proofs.Given.{given, unranked_falls, leads_at}
use Rattle.components.proofs.Positioned.{made_ready, made_watching, all_ranked_at_end}

pub rank_at : (ranks : List (Option ℕ)) (x : ℕ) (m v : Option ℕ) → m ≡ get_or ranks x m → x < length ranks → m ≡ v → rank_of ranks x ≡ v
rank_at ranks x m v e low is = sym (e ∙ get_or_default ranks x m None low) ∙ is

pub leads_low : (graph : List (List ℕ)) (f g : ℕ) → Leads graph f g → f < length graph
leads_low graph f g leads =
    elim (cases_lt f (length graph)) [
      | inl low ↦ low
      | inr high ↦ absurd (omega (arith, leads.1, ap length (get_or_past graph f [] high)))
    ]

pub advance_more : (ranks : List (Option ℕ)) (own : List ℕ) (at to r : ℕ) (m : Option ℕ) → at ≤ to
    → ((k : ℕ) → at ≤ k → k < to → k < length own → Ranked ranks (slice_index own k))
    → m ≡ get_or ranks (slice_index own to) m → slice_index own to < length ranks → m ≡ Some r
    → (at ≤ to + 1) × ((k : ℕ) → at ≤ k → k < to + 1 → k < length own → Ranked ranks (slice_index own k))
advance_more ranks own at to r m start before e low is = (
  omega arith,
  λ k from until inside. elim (cases_lt k to) [
    | inl less ↦ before k from less inside
    | inr here ↦ let same : to ≡ k = omega arith in subst (λ j. Ranked ranks (slice_index own j)) same (r, rank_at ranks (slice_index own to) m (Some r) e low is)
  ],
)

pub give_step : (callees : List (List ℕ)) (ranks : List (Option ℕ)) (ready ready' : List ℕ) (watchers watchers' : List (List Watcher)) (again old dest : List Watcher) (count c : ℕ)
    → Ordered callees ranks ready watchers again count → ready ≡ c ∷ ready' → Ascending ready → rank_of ranks c ≡ None → again ≡ []
    → watchers' ≡ set watchers c dest → dest ≡ [] → old ≡ watchers_of watchers c → Ordered callees (set ranks c (Some count)) ready' watchers' old (count + 1)
give_step callees ranks ready ready' watchers watchers' again old dest count c s first sorted none no_again is_set is_dest is_old =
    let s' = subst (λ ws. Ordered callees ranks ready watchers ws count) no_again s in
    let done = given callees ranks ready ready' watchers count c s' first sorted none in
    subst (λ ws. Ordered callees (set ranks c (Some count)) ready' ws old (count + 1)) (sym (is_set ∙ ap (set watchers c) is_dest))
    (subst (λ ws. Ordered callees (set ranks c (Some count)) ready' (set watchers c []) ws (count + 1)) (sym is_old) done)

pub give_falls : (callees : List (List ℕ)) (ranks : List (Option ℕ)) (ready ready' : List ℕ) (watchers : List (List Watcher)) (again : List Watcher) (count c : ℕ)
    → Ordered callees ranks ready watchers again count → ready ≡ c ∷ ready' → Ascending ready → rank_of ranks c ≡ None → again ≡ []
    → sum_by unranked (set ranks c (Some count)) + 1 ≡ sum_by unranked ranks
give_falls callees ranks ready ready' watchers again count c s first sorted none no_again =
    unranked_falls callees ranks ready ready' watchers count c (subst (λ ws. Ordered callees ranks ready watchers ws count) no_again s) first sorted none

pub first_low : (callees : List (List ℕ)) (ranks : List (Option ℕ)) (ready ready' : List ℕ) (watchers : List (List Watcher)) (again : List Watcher) (count c : ℕ)
    → Ordered callees ranks ready watchers again count → ready ≡ c ∷ ready' → c < length callees
first_low callees ranks ready ready' watchers again count c s first =
    (s.is_ready c (subst (λ xs. Contains xs c) (sym first) (0, omega arith, refl))).0

-- a number can be given as long as a component has none
pub rank_room : (callees : List (List ℕ)) (ranks : List (Option ℕ)) (ready ready' : List ℕ) (watchers : List (List Watcher)) (again : List Watcher) (count c : ℕ)
    → Ordered callees ranks ready watchers again count → ready ≡ c ∷ ready' → Ascending ready → rank_of ranks c ≡ None → again ≡ [] → count + 1 ≤ length callees
rank_room callees ranks ready ready' watchers again count c s first sorted none no_again =
    omega (arith, s.fits, give_falls callees ranks ready ready' watchers again count c s first sorted none no_again)

pub looking_passed : (callees : List (List ℕ)) (ranks : List (Option ℕ)) (ready : List ℕ) (watchers : List (List Watcher)) (again : List Watcher) (count : ℕ) (w : Watcher)
    → Ordered callees ranks ready watchers (again ++ w ∷ []) count → PassedTo callees ranks w.component w.at
looking_passed callees ranks ready watchers again count w s =
    subst (λ (x : Watcher). PassedTo callees ranks x.component x.at) (get_or_push again w nobody (length again) refl) (s.passed (length again) (omega (arith, length_push again w)))

pub passed_on : (callees : List (List ℕ)) (ranks : List (Option ℕ)) (own : List ℕ) (component at to : ℕ) → PassedTo callees ranks component at → own ≡ targets callees component
    → ((k : ℕ) → at ≤ k → k < to → k < length own → Ranked ranks (slice_index own k)) → PassedTo callees ranks component to
passed_on callees ranks own component at to before is more = (
  before.0,
  λ q less inside. elim (cases_lt q at) [
    | inl low ↦ before.1 q low inside
    | inr high ↦ subst (λ xs. Ranked ranks (slice_index xs q)) is (more q high less (subst (λ xs. q < length xs) (sym is) inside))
  ],
)

pub callee_at : (callees : List (List ℕ)) (own : List ℕ) (component k : ℕ) → own ≡ targets callees component → k < length own → WatchesAt callees component k (slice_index own k)
callee_at callees own component k is under = (subst (λ xs. k < length xs) is under, ap (λ xs. slice_index xs k) (sym is))

pub callee_low : (callees : List (List ℕ)) (own : List ℕ) (component k : ℕ) → IsInside callees → own ≡ targets callees component → k < length own → slice_index own k < length callees
callee_low callees own component k inside is under =
    inside component (slice_index own k) (leads_at callees component k (slice_index own k) (callee_at callees own component k is under))

pub position_ready : {E : Type 0} (r : Result (Unit {0}) E) (callees : List (List ℕ)) (ranks : List (Option ℕ)) (ready ready' : List ℕ) (watchers : List (List Watcher)) (again : List Watcher) (count : ℕ) (w : Watcher) (to : ℕ)
    → Ordered callees ranks ready watchers (again ++ w ∷ []) count → OnOk r ((x : ℕ) → Contains ready' x ↔ (Contains ready x ⊎ (x ≡ w.component)))
    → PassedTo callees ranks w.component to → length (targets callees w.component) ≤ to → OnOk r (Ordered callees ranks ready' watchers again count)
position_ready (Ok _) callees ranks ready ready' watchers again count w to s joins ahead all = made_ready callees ranks ready ready' watchers again count w.component w.at s joins to ahead all
position_ready (Err _) callees ranks ready ready' watchers again count w to s joins ahead all = tt

pub position_watching : {E : Type 0} (r : Result (Unit {0}) E) (callees : List (List ℕ)) (ranks : List (Option ℕ)) (ready : List ℕ) (watchers watchers' : List (List Watcher)) (again : List Watcher) (count : ℕ) (w : Watcher)
    (to e : ℕ)
    → Ordered callees ranks ready watchers (again ++ w ∷ []) count → PassedTo callees ranks w.component to → WatchesAt callees w.component to e → rank_of ranks e ≡ None → e < length callees
    → OnOk r (watchers' ≡ set watchers e (watchers_of watchers e ++ record { component = w.component; at = to } ∷ [])) → OnOk r (Ordered callees ranks ready watchers' again count)
position_watching (Ok _) callees ranks ready watchers watchers' again count w to e s ahead here none low is =
    subst (λ ws. Ordered callees ranks ready ws again count) (sym is) (made_watching callees ranks ready watchers again count w.component w.at e s to ahead here none low)
position_watching (Err _) callees ranks ready watchers watchers' again count w to e s ahead here none low is = tt

none_at : (n c : ℕ) → rank_of (replicate n None) c ≡ None
none_at n c =
    elim (cases_lt c n) [
      | inl low ↦ get_or-replicate n c None None low
      | inr high ↦ get_or_past (replicate n None) c None (omega (arith, length-replicate {A = Option ℕ} n None))
    ]

no_watchers_at : (n e : ℕ) → watchers_of (replicate n []) e ≡ []
no_watchers_at n e =
    elim (cases_lt e n) [
      | inl low ↦ get_or-replicate n e [] [] low
      | inr high ↦ get_or_past (replicate n []) e [] (omega (arith, length-replicate {A = List Watcher} n []))
    ]

pub fresh_order : (callees : List (List ℕ)) (all : List Watcher) → FirstWatchers all (length callees)
    → Ordered callees (replicate (length callees) None) [] (replicate (length callees) []) all 0
fresh_order callees all first =
    record {
      sizes = length-replicate (length callees) None;
      tables = length-replicate (length callees) [];
      rank_low = λ c r is. absurd (let bad : None ≡ Some r = sym (none_at (length callees) c) ∙ is in cc);
      callees_first = λ c e r is leads. absurd (let bad : None ≡ Some r = sym (none_at (length callees) c) ∙ is in cc);
      apart = λ c d r is other. absurd (let bad : None ≡ Some r = sym (none_at (length callees) c) ∙ is in cc);
      used = λ r under. absurd (omega arith);
      least_first = λ r d c is under later ready. absurd (let bad : None ≡ Some r = sym (none_at (length callees) d) ∙ is in cc);
      is_ready = λ c has. absurd (omega (arith, has.1));
      everyone = λ c under none. inr (inr (c, omega (arith, first.0), ap (λ (w : Watcher). w.component) (first.1 c under)));
      watching = λ e k under. absurd (omega (arith, ap length (no_watchers_at (length callees) e)));
      passed = λ k under.
          let low : k < length callees = omega (arith, first.0) in
          subst (λ (w : Watcher). PassedTo callees (replicate (length callees) None) w.component w.at) (sym (first.1 k low)) (low, λ q less inside. absurd (omega arith));
      fits = let sum : sum_by unranked (replicate (length callees) None) ≡ length callees * 1 = sum_by-replicate unranked (length callees) None in omega (arith, sum);
    }

pub ranked_at_end : (callees : List (List ℕ)) (ranks : List (Option ℕ)) (ready : List ℕ) (watchers : List (List Watcher)) (again : List Watcher) (count : ℕ)
    → Ordered callees ranks ready watchers again count → ready ≡ [] → again ≡ [] → IsAcyclic callees → IsInside callees → AllRanked ranks
ranked_at_end callees ranks ready watchers again count s no_ready no_again acyclic inside c under =
    let s' = subst (λ xs. Ordered callees ranks xs watchers again count) no_ready s in
    let s'' = subst (λ ws. Ordered callees ranks [] watchers ws count) no_again s' in
    all_ranked_at_end callees ranks watchers count s'' acyclic.0 acyclic.1 inside c (omega (arith, s.sizes))

module _ (callees : List (List ℕ)) (ranks : List (Option ℕ)) (ready : List ℕ) (watchers : List (List Watcher)) (again : List Watcher) (count : ℕ) (numbers : List ℕ)
    (s : Ordered callees ranks ready watchers again count) (inside : IsInside callees) (are : RanksAre ranks numbers) where
  at_number : (c : ℕ) → c < length callees → rank_of ranks c ≡ Some (slice_index numbers c)
  at_number c under = are.1 c (omega (arith, s.sizes))

  number_is : (c r : ℕ) → c < length callees → rank_of ranks c ≡ Some r → r ≡ slice_index numbers c
  number_is c r under is = let both : Some r ≡ Some (slice_index numbers c) = sym is ∙ at_number c under in cc

  used' : (n : ℕ) → n < count → (c : ℕ) × (c < length callees) × (slice_index numbers c ≡ n)
  used' n under =
      let found = s.used n under in
      elim (cases_lt found.0 (length callees)) [
        | inl low ↦ (found.0, low, sym (number_is found.0 n low found.1))
        | inr high ↦ absurd (let bad : None ≡ Some n = sym (get_or_past ranks found.0 None (omega (arith, s.sizes))) ∙ found.1 in cc)
      ]

  callees_first' : (c e : ℕ) → Leads callees c e → slice_index numbers e < slice_index numbers c
  callees_first' c e leads =
      let was = s.callees_first c e (slice_index numbers c) (at_number c (leads_low callees c e leads)) leads in
      omega (arith, was.2, number_is e was.0 (inside c e leads) was.1)

  least_first' : (c d : ℕ) → c < length callees → d < length callees → slice_index numbers d ≤ slice_index numbers c
      → ((e : ℕ) → Leads callees c e → slice_index numbers e < slice_index numbers d) → d ≤ c
  least_first' c d low_c low_d most all =
      s.least_first (slice_index numbers d) d c (at_number d low_d) low_c
      (λ q is. omega (arith, number_is c q low_c is))
      (λ e leads. (slice_index numbers e, at_number e (inside c e leads), all e leads))

  pub in_order : InReadyOrder callees numbers count
  in_order = record {
    sizes = are.0 ∙ s.sizes;
    below = λ c under. s.rank_low c (slice_index numbers c) (at_number c under);
    used = used';
    apart = λ c d low_c low_d e. s.apart c d (slice_index numbers c) (at_number c low_c) (at_number d low_d ∙ ap Some (sym e));
    callees_first = callees_first';
    least_first = least_first';
  }
