-- What the steps of the worklist keep.
use Rattle.std.proofs.Common.{◌≡◌, ℕ, ◌<◌, ◌⊎◌, ◌↔◌, inl, inr, true, List, [], ◌∷◌, ◌++◌, length, refl, sym, ◌∙◌, ap, subst, Contains, Option, Some, None, arith, below_more, ◌+◌}
use Rattle.std.specs.List.{list_any}
use Rattle.std.specs.Prelude.{◌==◌, slice_index, slice_index_or}
use Rattle.std.proofs.lemmas.List.{get_or_default}
use Rattle.std.proofs.lemmas.List.Elements.{Contains-append_left, Contains-push, Contains-push_cases}
use Rattle.fun_flow_solver.specs.declared.problem.Pair.{Pair}
use Rattle.components.specs.Graph.{Leads, targets}
use Rattle.fun_flow_solver.specs.declared.problem.Edge.{Edge}
use Rattle.fun_flow_solver.specs.declared.problem.Application.{Application}
use Rattle.fun_flow_solver.specs.declared.problem.Problem.{Problem}
use Rattle.fun_flow_solver.specs.Holds.{Holds, by_start, by_flow, by_body, by_unknown, IsBelow}
use Rattle.fun_flow_solver.specs.steps.Work.{Moves, Grows, IsWork, IsDone, IsSent, IsApplied, Keeps, AreAt}
use Rattle.components.proofs.Graphs.{contains_it}

pub moves_none : (sets : List (List ℕ)) (queue : List Pair) → Moves sets queue sets queue
moves_none sets queue = record { count = refl; grown = λ p x h. h; waits = λ p x h. h; held = λ p x h. inl h; new = λ p x h. inl h }

pub moves_then : (s : List (List ℕ)) (q : List Pair) (s' : List (List ℕ)) (q' : List Pair) (s'' : List (List ℕ)) (q'' : List Pair) → Moves s q s' q' → Moves s' q' s'' q'' → Moves s q s'' q''
moves_then s q s' q' s'' q'' a b =
    record {
      count = b.count ∙ a.count;
      grown = λ p x h. b.grown p x (a.grown p x h);
      waits = λ p x h. b.waits p x (a.waits p x h);
      held = λ p x h. elim (b.held p x h) [ inl k ↦ (elim (a.held p x k) [ inl j ↦ inl j | inr j ↦ inr (b.grown p x j) ]) | inr k ↦ inr k ];
      new = λ p x h. elim (b.new p x h) [ inl k ↦ (elim (a.new p x k) [ inl j ↦ inl j | inr j ↦ inr (b.waits p x j) ]) | inr k ↦ inr k ];
    }

-- an item that is there
pub put_there : (sets : List (List ℕ)) (place item : ℕ) → list_any (λ x. item == x) (targets sets place) ≡ true → Leads sets place item
put_there sets place item e = contains_it (targets sets place) item e

-- an item that is new is put into the queue
pub put_new : (sets sets' : List (List ℕ)) (queue : List Pair) (place item : ℕ) → length sets' ≡ length sets → ((p x : ℕ) → Leads sets' p x ↔ (Leads sets p x ⊎ ((p ≡ place) × (x ≡ item))))
    → Moves sets queue sets' (queue ++ record { place = place; item = item } ∷ [])
put_new sets sets' queue place item n h =
    record {
      count = n;
      grown = λ p x k. (h p x).1 (inl k);
      waits = λ p x k. Contains-append_left queue (record { place = place; item = item } ∷ []) (record { place = p; item = x }) k;
      held = λ p x k. elim (Contains-push_cases queue (record { place = place; item = item }) (record { place = p; item = x }) k) [
        | inl old ↦ inl old
        | inr is ↦ inr ((h p x).1 (inr (sym (ap (λ z. z.place) is), sym (ap (λ z. z.item) is))))
      ];
      new = λ p x k. elim ((h p x).0 k) [
        | inl old ↦ inl old
        | inr is ↦ inr (subst (λ z. Contains (queue ++ record { place = place; item = item } ∷ []) (record { place = z; item = x })) (sym is.0)
            (subst (λ z. Contains (queue ++ record { place = place; item = item } ∷ []) (record { place = place; item = z })) (sym is.1) (Contains-push queue (record { place = place; item = item }))))
      ];
    }

-- the item at a place of a list is among its items
pub at_place : (xs : List ℕ) (k : ℕ) → k < length xs → Contains xs (slice_index xs k)
at_place xs k h = (k, h, get_or_default xs k (slice_index xs k) 0 h)

-- what holds at each place holds of each item
pub of_each : (Q : ℕ → Type 0) (xs : List ℕ) → ((k : ℕ) → k < length xs → Q (slice_index xs k)) → (x : ℕ) → Contains xs x → Q x
of_each Q xs f x h = subst Q (sym (get_or_default xs h.0 x 0 h.1) ∙ h.2) (f h.0 h.1)

-- Items that were put into places with a reason keep what the worklist keeps.
pub moves_keep : (P : Problem) (o : Option Pair) (sets : List (List ℕ)) (queue : List Pair) (sets' : List (List ℕ)) (queue' : List Pair) (out : List (List ℕ)) → IsWork P o sets out queue → Moves sets queue sets' queue'
    → ((p x : ℕ) → Leads sets' p x → Holds P p x) → IsWork P o sets' out queue'
moves_keep P o sets queue sets' queue' out w m s =
    record {
      sound = s;
      just = w.just;
      held = λ p x h. elim (m.held p x h) [ inl k ↦ m.grown p x (w.held p x k) | inr k ↦ k ];
      done = λ p x h. elim (m.new p x h) [
        | inl k ↦ (elim (w.done p x k) [
          | inl e ↦ inl e
          | inr j ↦ (elim j [
            | inl i ↦ inr (inl (m.waits p x i))
            | inr d ↦ inr (inr (λ q e. m.grown q x (d.0 q e), λ c i e. (λ u. m.grown c.place 0 ((d.1 c i e).0 u), (d.1 c i e).1)))
          ])
        ])
        | inr k ↦ inr (inl k)
      ];
    }

-- One more edge keeps it, where all that its first place holds was sent along.
pub edge_keeps : (P : Problem) (o : Option Pair) (sets out out' : List (List ℕ)) (queue : List Pair) (from to : ℕ) → IsWork P o sets out queue → ((p q : ℕ) → Leads out' p q ↔ (Leads out p q ⊎ ((p ≡ from) × (q ≡ to))))
    → ((x : ℕ) → Leads sets from x → Leads sets to x) → ((x : ℕ) → Holds P from x → Holds P to x) → IsWork P o sets out' queue
edge_keeps P o sets out out' queue from to w e s j =
    record {
      sound = w.sound;
      just = λ p q x h r. elim ((e p q).0 h) [ inl k ↦ w.just p q x k r | inr is ↦ subst (λ z. Holds P z x) (sym is.1) (j x (subst (λ z. Holds P z x) is.0 r)) ];
      held = w.held;
      done = λ p x h. elim (w.done p x h) [
        | inl k ↦ inl k
        | inr k ↦ (elim k [
          | inl i ↦ inr (inl i)
          | inr d ↦ inr (inr (
            λ q l. elim ((e p q).0 l) [ inl old ↦ d.0 q old | inr is ↦ subst (λ z. Leads sets z x) (sym is.1) (s x (subst (λ z. Leads sets z x) is.0 h)) ],
            λ c i n. ((d.1 c i n).0, λ r b. (e r c.place).1 (inl ((d.1 c i n).1 r b))),
          ))
        ])
      ];
    }

-- A pair is taken out of the queue, and is excused until it is done.
pub pair_taken : (P : Problem) (sets out : List (List ℕ)) (queue : List Pair) (e : Pair) → IsWork P None sets out (queue ++ e ∷ []) → IsWork P (Some e) sets out queue
pair_taken P sets out queue e w =
    record {
      sound = w.sound;
      just = w.just;
      held = λ p x h. w.held p x (Contains-append_left queue (e ∷ []) (record { place = p; item = x }) h);
      done = λ p x h. elim (w.done p x h) [
        | inl k ↦ absurd k
        | inr k ↦ (elim k [
          | inl i ↦ (elim (Contains-push_cases queue e (record { place = p; item = x }) i) [ inl old ↦ inr (inl old) | inr is ↦ inl (sym (ap (λ z. z.place) is), sym (ap (λ z. z.item) is)) ])
          | inr d ↦ inr (inr d)
        ])
      ];
    }

pub pair_done : (P : Problem) (sets out : List (List ℕ)) (queue : List Pair) (e : Pair) → IsWork P (Some e) sets out queue → IsDone P sets out e.place e.item → IsWork P None sets out queue
pair_done P sets out queue e w d =
    record {
      sound = w.sound;
      just = w.just;
      held = w.held;
      done = λ p x h. elim (w.done p x h) [
        | inl is ↦ inr (inr (subst (λ z. IsDone P sets out z x) (sym is.0) (subst (λ z. IsDone P sets out e.place z) (sym is.1) d)))
        | inr k ↦ inr k
      ];
    }

finished : (P : Problem) (sets out : List (List ℕ)) → IsWork P None sets out [] → (p x : ℕ) → Leads sets p x → IsDone P sets out p x
finished P sets out w p x h = elim (w.done p x h) [
  | inl k ↦ absurd k
  | inr k ↦ (elim k [ inl i ↦ absurd (omega (arith, i.1)) | inr d ↦ d ])
]

-- Where nothing waits, all starts are held and all flows are edges, the sets are exact.
pub work_ends : (P : Problem) (sets out : List (List ℕ)) → IsWork P None sets out [] → ((s : Pair) → Contains P.starts.items s → Leads sets s.place s.item) → ((e : Edge) → Contains P.flows.items e → Leads out e.from e.to)
    → (p x : ℕ) → Holds P p x → Leads sets p x
work_ends P sets out w st fl p x (by_start {s = s} h) = st s h
work_ends P sets out w st fl p x (by_flow {e = e} h r) = (finished P sets out w e.from x (work_ends P sets out w st fl e.from x r)).0 e.to (fl e h)
work_ends P sets out w st fl p x (by_unknown {c = c} {x = y} h r e) = ((finished P sets out w c.operator y (work_ends P sets out w st fl c.operator y r)).1 c h refl).0 e
work_ends P sets out w st fl p x (by_body {c = c} {x = z} {r = b} h r e k) =
    let linked = ((finished P sets out w c.operator z (work_ends P sets out w st fl c.operator z r)).1 c h refl).1 b e in
    (finished P sets out w b x (work_ends P sets out w st fl b x k)).0 c.place linked

-- ---- steps

pub keeps_none : (P : Problem) (sets out : List (List ℕ)) (queue : List Pair) → Keeps P sets out queue sets out queue
keeps_none P sets out queue = record { count = refl; edge_count = refl; grown = λ p x h. h; edges = λ p x h. h; work = λ o w. w; still = λ p x h k. k }

pub keeps_then : (P : Problem) (s o : List (List ℕ)) (q : List Pair) (s' o' : List (List ℕ)) (q' : List Pair) (s'' o'' : List (List ℕ)) (q'' : List Pair) → Keeps P s o q s' o' q' → Keeps P s' o' q' s'' o'' q''
    → Keeps P s o q s'' o'' q''
keeps_then P s o q s' o' q' s'' o'' q'' a b =
    record {
      count = b.count ∙ a.count;
      edge_count = b.edge_count ∙ a.edge_count;
      grown = λ p x h. b.grown p x (a.grown p x h);
      edges = λ p x h. b.edges p x (a.edges p x h);
      work = λ e w. b.work e (a.work e w);
      still = λ p x h k. b.still p x (a.grown p x h) (a.still p x h k);
    }

-- one item that was put with a reason
pub put_keeps : (P : Problem) (sets out : List (List ℕ)) (queue : List Pair) (sets' : List (List ℕ)) (queue' : List Pair) (place item : ℕ) → Moves sets queue sets' queue'
    → ((p x : ℕ) → Leads sets' p x → Leads sets p x ⊎ ((p ≡ place) × (x ≡ item))) → Holds P place item → Keeps P sets out queue sets' out queue'
put_keeps P sets out queue sets' queue' place item m only r =
    record {
      count = m.count;
      edge_count = refl;
      grown = m.grown;
      edges = λ p x h. h;
      work = λ o w. moves_keep P o sets queue sets' queue' out w m (λ p x h. elim (only p x h) [ inl k ↦ w.sound p x k | inr is ↦ subst (λ z. Holds P z x) (sym is.0) (subst (λ z. Holds P place z) (sym is.1) r) ]);
      still = λ p x h k q l. m.grown q x (k q l);
    }

-- what stays of the first place of an edge, after all that it holds was sent
sent_on : (sets sets' : List (List ℕ)) (from to : ℕ) → ((p x : ℕ) → Leads sets' p x → Leads sets p x ⊎ ((p ≡ to) × Leads sets from x)) → ((x : ℕ) → Leads sets from x → Leads sets' to x) → (x : ℕ)
    → Leads sets' from x → Leads sets' to x
sent_on sets sets' from to only there x h = elim (only from x h) [ inl k ↦ there x k | inr both ↦ there x both.1 ]

pub link_keeps : (P : Problem) (sets out : List (List ℕ)) (queue : List Pair) (sets' out' : List (List ℕ)) (queue' : List Pair) (from to : ℕ) → Moves sets queue sets' queue'
    → ((p x : ℕ) → Leads sets' p x → Leads sets p x ⊎ ((p ≡ to) × Leads sets from x)) → ((x : ℕ) → Leads sets from x → Leads sets' to x) → length out' ≡ length out
    → ((p q : ℕ) → Leads out' p q ↔ (Leads out p q ⊎ ((p ≡ from) × (q ≡ to)))) → ((x : ℕ) → Holds P from x → Holds P to x) → Keeps P sets out queue sets' out' queue'
link_keeps P sets out queue sets' out' queue' from to m only there n e j =
    record {
      count = m.count;
      edge_count = n;
      grown = m.grown;
      edges = λ p q h. (e p q).1 (inl h);
      work = λ o w.
          edge_keeps P o sets' out out' queue' from to
          (moves_keep P o sets queue sets' queue' out w m (λ p x h. elim (only p x h) [ inl k ↦ w.sound p x k | inr both ↦ subst (λ z. Holds P z x) (sym both.0) (j x (w.sound from x both.1)) ]))
          e (sent_on sets sets' from to only there) j;
      still = λ p x h k q l. elim ((e p q).0 l) [
        | inl old ↦ m.grown q x (k q old)
        | inr is ↦ subst (λ z. Leads sets' z x) (sym is.1) (there x (subst (λ z. Leads sets z x) is.0 h))
      ];
    }

pub applied_grows : (P : Problem) (sets out sets' out' : List (List ℕ)) (c : Application) (x : ℕ) → Grows sets sets' → Grows out out' → IsApplied P sets out c x → IsApplied P sets' out' c x
applied_grows P sets out sets' out' c x g e a = (λ u. g c.place 0 (a.0 u), λ r b. e r c.place (a.1 r b))

-- whatever is held_there is below the bound
pub holds_below : (P : Problem) (n : ℕ) → IsBelow P n → (p x : ℕ) → Holds P p x → (p < n) × (x < n)
holds_below P n b p x (by_start {s = s} h) = b.starts s h
holds_below P n b p x (by_flow {e = e} h r) = ((b.flows e h).1, (holds_below P n b e.from x r).1)
holds_below P n b p x (by_body {c = c} {r = r} h k e j) = ((b.applications c h).1, (holds_below P n b r x j).1)
holds_below P n b p x (by_unknown {c = c} h k e) = ((b.applications c h).1, b.some)

-- the step of a pair: first along its edges, then at its applications
pub spread_keeps : (P : Problem) (o : Option Pair) (sets out : List (List ℕ)) (queue : List Pair) (sets' : List (List ℕ)) (queue' : List Pair) (place item : ℕ) → IsWork P o sets out queue → Moves sets queue sets' queue'
    → ((p x : ℕ) → Leads sets' p x → Leads sets p x ⊎ (Leads out place p × (x ≡ item))) → Leads sets place item → IsWork P o sets' out queue'
spread_keeps P o sets out queue sets' queue' place item w m only h =
    moves_keep P o sets queue sets' queue' out w m
    (λ p x k. elim (only p x k) [ inl old ↦ w.sound p x old | inr both ↦ subst (λ z. Holds P p z) (sym both.1) (w.just place p item both.0 (w.sound place item h)) ])

pub step_ends : (P : Problem) (sets out : List (List ℕ)) (queue : List Pair) (sets' out' : List (List ℕ)) (queue' : List Pair) (e : Pair) → IsWork P (Some e) sets out queue → Leads sets e.place e.item
    → IsSent sets out e.place e.item → Keeps P sets out queue sets' out' queue' → ((c : Application) → Contains P.applications.items c → c.operator ≡ e.place → IsApplied P sets' out' c e.item)
    → IsWork P None sets' out' queue'
step_ends P sets out queue sets' out' queue' e w h s k a = pair_done P sets' out' queue' e (k.work (Some e) w) (k.still e.place e.item h s, a)

pub application_there : (P : Problem) (applications_at : List (List ℕ)) (n place k : ℕ) (ks : List ℕ) → ks ≡ targets applications_at place → k < length ks → Leads applications_at place (slice_index ks k)
application_there P applications_at n place k ks e h = subst (λ xs. Contains xs (slice_index ks k)) e (at_place ks k h)

-- one more application has been applied
pub applied_more : (P : Problem) (sets out sets' out' : List (List ℕ)) (x i : ℕ) (ks : List ℕ) (application : Application) → Grows sets sets' → Grows out out' → slice_index ks i < length P.applications.items
    → slice_index_or P.applications.items (slice_index ks i) application ≡ application → IsApplied P sets' out' application x
    → ((j : ℕ) → j < i → (c : Application) → slice_index_or P.applications.items (slice_index ks j) c ≡ c → IsApplied P sets out c x) → (j : ℕ) → j < i + 1 → (c : Application)
    → slice_index_or P.applications.items (slice_index ks j) c ≡ c → IsApplied P sets' out' c x
applied_more P sets out sets' out' x i ks application g e l is a f = below_more _ _ (λ j h c q. applied_grows P sets out sets' out' c x g e (f j h c q))
    (λ c q. subst (λ z. IsApplied P sets' out' z x) (sym is ∙ get_or_default P.applications.items (slice_index ks i) application c l ∙ q) a)

-- all applications of a place have been applied
pub applied_all : (P : Problem) (applications_at : List (List ℕ)) (sets out : List (List ℕ)) (place x i : ℕ) (ks : List ℕ) → AreAt P applications_at (length P.applications.items) → ks ≡ targets applications_at place
    → ((j : ℕ) → j < length ks → (c : Application) → slice_index_or P.applications.items (slice_index ks j) c ≡ c → IsApplied P sets out c x) → (c : Application) → Contains P.applications.items c → c.operator ≡ place
    → IsApplied P sets out c x
applied_all P applications_at sets out place x i ks at e f c h o =
    let there = subst (λ z. Leads applications_at z h.0) o (at.all h.0 c h.1 h.2) in
    of_each (λ k. slice_index_or P.applications.items k c ≡ c → IsApplied P sets out c x) ks (λ j l q. f j l c q) h.0 (subst (λ xs. Contains xs h.0) (sym e) there) h.2

-- ---- the beginning

-- one more application stands at its operator
pub at_more : (P : Problem) (applications_at applications_at' : List (List ℕ)) (n : ℕ) (application : Application) → n < length P.applications.items → slice_index_or P.applications.items n application ≡ application
    → ((p k : ℕ) → Leads applications_at' p k ↔ (Leads applications_at p k ⊎ ((p ≡ application.operator) × (k ≡ n)))) → AreAt P applications_at n → AreAt P applications_at' (n + 1)
at_more P applications_at applications_at' n application l is e a =
    record {
      below = λ p k h. elim ((e p k).0 h) [ inl old ↦ (let j = a.below p k old in omega (arith, j)) | inr both ↦ (let j = both.1 in omega (arith, j)) ];
      operator = λ p k c h q. elim ((e p k).0 h) [
        | inl old ↦ a.operator p k c old q
        | inr both ↦ (let same : application ≡ c = sym is ∙ get_or_default P.applications.items n application c l ∙ subst (λ z. slice_index_or P.applications.items z c ≡ c) both.1 q in sym (ap (λ z. z.operator) same)
            ∙ sym both.0)
      ];
      all = λ k c h q. below_more (λ j. (d : Application) → slice_index_or P.applications.items j d ≡ d → Leads applications_at' d.operator j) n
          (λ j i d z. (e d.operator j).1 (inl (a.all j d i z)))
          (λ d z. let same : application ≡ d = sym is ∙ get_or_default P.applications.items n application d l ∙ z in (e d.operator n).1 (inr (sym (ap (λ y. (y).operator) same), refl)))
          k h c q;
    }

pub at_none : (P : Problem) (applications_at : List (List ℕ)) → ((p k : ℕ) → Leads applications_at p k → ⊥) → AreAt P applications_at 0
at_none P applications_at f = record { below = λ p k h. absurd (f p k h); operator = λ p k c h q. absurd (f p k h); all = λ k c h q. absurd (omega (arith, h)) }

-- what holds at each place, by what stands there, holds of each
pub of_all : {T : Type 0} (Q : T → Type 0) (xs : List T) (n : ℕ) → n ≡ length xs → ((k : ℕ) → k < n → (x : T) → slice_index_or xs k x ≡ x → Q x) → (x : T) → Contains xs x → Q x
of_all Q xs n e f x h = f h.0 (subst (λ m. h.0 < m) (sym e) h.1) x h.2

-- the worklist before its first step
pub work_begins : (P : Problem) (sets out : List (List ℕ)) (queue : List Pair) (sets' : List (List ℕ)) (queue' : List Pair) → queue ≡ [] → ((p x : ℕ) → Leads sets p x → ⊥)
    → ((p q x : ℕ) → Leads out p q → Holds P p x → Holds P q x) → Moves sets queue sets' queue' → ((p x : ℕ) → Leads sets' p x → Leads sets p x ⊎ Holds P p x) → IsWork P None sets' out queue'
work_begins P sets out queue sets' queue' e none just m only =
    record {
      sound = λ p x h. elim (only p x h) [ inl old ↦ absurd (none p x old) | inr r ↦ r ];
      just = just;
      held = λ p x h. elim (m.held p x h) [ inl old ↦ absurd (nothing_waits (record { place = p; item = x }) (subst (λ q. Contains q (record { place = p; item = x })) e old)) | inr k ↦ k ];
      done = λ p x h. elim (m.new p x h) [ inl old ↦ absurd (none p x old) | inr k ↦ inr (inl k) ];
    }
  where
    nothing_waits : (x : Pair) → Contains [] x → ⊥
    nothing_waits x h = omega (arith, h.1)

-- the item at a place is one of those at that place, whatever stands past the end
pub item_is : {T : Type 0} (xs ys : List T) (n : ℕ) (d : T) → xs ≡ ys → n < length xs → slice_index_or ys n (slice_index_or xs n d) ≡ slice_index_or xs n d
item_is xs ys n d e h = subst (λ zs. slice_index_or zs n (slice_index_or xs n d) ≡ slice_index_or xs n d) e (get_or_default xs n (slice_index_or xs n d) d h)

pub shorter : {T : Type 0} (xs ys : List T) (n : ℕ) → xs ≡ ys → n < length xs → n < length ys
shorter xs ys n e h = subst (λ zs. n < length zs) e h

-- one more edge
pub edges_more : (P : Problem) (out out' : List (List ℕ)) (n : ℕ) (ed : Edge) → n < length P.flows.items → slice_index_or P.flows.items n ed ≡ ed
    → ((p q : ℕ) → Leads out' p q ↔ (Leads out p q ⊎ ((p ≡ ed.from) × (q ≡ ed.to)))) → ((p q x : ℕ) → Leads out p q → Holds P p x → Holds P q x)
    → ((k : ℕ) → k < n → (e : Edge) → slice_index_or P.flows.items k e ≡ e → Leads out e.from e.to)
    → ((p q x : ℕ) → Leads out' p q → Holds P p x → Holds P q x) × ((k : ℕ) → k < n + 1 → (e : Edge) → slice_index_or P.flows.items k e ≡ e → Leads out' e.from e.to)
edges_more P out out' n ed l is e just all = (
  λ p q x h r. elim ((e p q).0 h) [
    | inl old ↦ just p q x old r
    | inr both ↦ subst (λ z. Holds P z x) (sym both.1) (by_flow (n, l, is) (subst (λ z. Holds P z x) both.0 r))
  ],
  below_more _ _ (λ k i f z. (e f.from f.to).1 (inl (all k i f z)))
      (λ f z. let same : ed ≡ f = sym is ∙ get_or_default P.flows.items n ed f l ∙ z in (e f.from f.to).1 (inr (sym (ap (λ y. (y).from) same), sym (ap (λ y. (y).to) same)))),
)

-- one more start
pub starts_more : (P : Problem) (first sets sets' : List (List ℕ)) (n : ℕ) (s : Pair) → n < length P.starts.items → slice_index_or P.starts.items n s ≡ s → Grows sets sets'
    → ((p x : ℕ) → Leads sets' p x → Leads sets p x ⊎ ((p ≡ s.place) × (x ≡ s.item))) → Leads sets' s.place s.item → ((p x : ℕ) → Leads sets p x → Leads first p x ⊎ Holds P p x)
    → ((k : ℕ) → k < n → (t : Pair) → slice_index_or P.starts.items k t ≡ t → Leads sets t.place t.item)
    → ((p x : ℕ) → Leads sets' p x → Leads first p x ⊎ Holds P p x) × ((k : ℕ) → k < n + 1 → (t : Pair) → slice_index_or P.starts.items k t ≡ t → Leads sets' t.place t.item)
starts_more P first sets sets' n s l is g only there old all = (
  λ p x h. elim (only p x h) [
    | inl k ↦ old p x k
    | inr both ↦ inr (subst (λ z. Holds P z x) (sym both.0) (subst (λ z. Holds P s.place z) (sym both.1) (by_start (n, l, is))))
  ],
  below_more _ _ (λ k i t z. g t.place t.item (all k i t z))
      (λ t z. let same : s ≡ t = sym is ∙ get_or_default P.starts.items n s t l ∙ z in subst (λ y. Leads sets' (y).place (y).item) same there),
)

pub empty_list : {T : Type 0} (xs : List T) → (0 < length xs → ⊥) → xs ≡ []
empty_list [] f = refl
empty_list (x ∷ xs) f = absurd (f (omega arith))
