-- The counts, the callers and the set of the ready components follow the machine.
use Rattle.std.proofs.Common.{◌≡◌, ◌≢◌, ◌↔◌, ◌⊎◌, inl, inr, ℕ, zero, suc, ◌+◌, ◌*◌, ◌<◌, ◌≤◌, List, [], ◌∷◌}
use Rattle.std.proofs.Common.{length, map, replicate, slice_get, slice_set, refl, sym, ap, ◌∙◌, subst, arith}
use Rattle.std.proofs.lemmas.Bool.{cases_eq, cases_lt}
use Rattle.std.proofs.lemmas.List.{length-set, length-replicate, length-map, get_or_past}
use Rattle.std.proofs.lemmas.Option.{slice_get_within}
use Rattle.std.specs.declared.option.Option.TheVariants.{Some}
use Rattle.summary_board.specs.Machine.{Standing, waiting, out, done, called, AreDone, IsReady}
use Rattle.summary_board.specs.steps.Agenda.{open_in, times, count_at, AreCallers, Tracks, Lowered}
use Rattle.summary_board.specs.steps.Rows.{IsMarked}
use Rattle.summary_board.proofs.Counts.{lowers, times_open, open_stays, none_open_done, done_none_open, unfinished_set, all_waiting_open, open_at_first, waiting_below}
use Rattle.summary_board.proofs.Sets.{get_set_same, get_set_other, same_or_not}

pub out_waiting : (seat : ℕ) → Some (out seat) ≡ Some waiting → ⊥
out_waiting seat is = cc

pub done_waiting : Some done ≡ Some waiting → ⊥
done_waiting is = cc

out_done : (seat : ℕ) → Some (out seat) ≡ Some done → ⊥
out_done seat is = cc

waiting_or_not : (m : Standing) → (m ≡ waiting) ⊎ (m ≢ waiting)
waiting_or_not waiting = inl refl
waiting_or_not (out seat) = inr (λ is. cc is)
waiting_or_not done = inr (λ is. cc is)

-- the mark of a component that there is
standing_there : (standings : List Standing) (c : ℕ) → c < length standings → (m : Standing) × (slice_get standings c ≡ Some m)
standing_there [] c within = absurd (omega (arith, within))
standing_there (m ∷ ms) zero within = (m, refl)
standing_there (m ∷ ms) (suc c) within = standing_there ms c (omega (arith, within))

nothing : (xs : List ℕ) → length xs ≡ 0 → xs ≡ []
nothing [] none = refl
nothing (x ∷ xs) none = absurd (omega (arith, none))

count_map : (callees : List (List ℕ)) (c : ℕ) → count_at (map length callees) c ≡ length (called callees c)
count_map [] c = refl
count_map (xs ∷ callees) zero = refl
count_map (xs ∷ callees) (suc c) = count_map callees c

-- only a component that there is has callees
caller_within : (callees : List (List ℕ)) (k c : ℕ) → 0 < times c (called callees k) → k < length callees
caller_within [] k c calls = absurd (omega (arith, calls))
caller_within (xs ∷ callees) zero c calls = omega arith
caller_within (xs ∷ callees) (suc k) c calls = omega (arith, caller_within callees k c calls)

-- what is ready waits, and its count is 0
pub ready_open : (callees : List (List ℕ)) (standings : List Standing) (c : ℕ) → IsReady callees standings c → open_in standings (called callees c) ≡ 0
ready_open callees standings c ready = done_none_open standings (called callees c) ready.1

pub open_ready : (callees : List (List ℕ)) (standings : List Standing) (c : ℕ) → slice_get standings c ≡ Some waiting → open_in standings (called callees c) ≡ 0 → IsReady callees standings c
open_ready callees standings c waits none = (waits, none_open_done standings (called callees c) none)

-- a component that doesn't wait has only done callees
abbrev pub AreSettled : List (List ℕ) → List Standing → Type 0
AreSettled callees standings = (c : ℕ) (m : Standing) → slice_get standings c ≡ Some m → m ≢ waiting → AreDone standings (called callees c)

module _ (callees : List (List ℕ)) (standings : List Standing) (callers : List (List ℕ)) (counts : List ℕ) (unfinished : ℕ) (ready : List ℕ) where
  -- ---- a component is taken
  pub tracks_taken : (c seat : ℕ) (ready' : List ℕ) → Tracks callees standings callers counts unfinished ready → IsReady callees standings c
      → length ready' ≡ length ready → ((n : ℕ) → IsMarked ready' n ↔ ((n ≢ c) × IsMarked ready n))
      → Tracks callees (slice_set standings c (out seat)) callers counts unfinished ready'
  tracks_taken c seat ready' tracks is room marked =
      let long = length-set standings c (out seat) in
      let stays = open_stays standings c seat is.0 in
      let within = slice_get_within standings c waiting is.0 in
      record {
        as_many_callees = tracks.as_many_callees ∙ sym long;
        as_many_callers = tracks.as_many_callers ∙ sym long;
        as_many_counts = tracks.as_many_counts ∙ sym long;
        room = omega (arith, long, room, tracks.room);
        inverse = tracks.inverse;
        counted = λ k less. tracks.counted k (omega (arith, less, long)) ∙ sym (stays (called callees k));
        left = tracks.left ∙ (let falls = unfinished_set standings c waiting (out seat) is.0 in omega (arith, falls));
        exact = λ k. (
          (λ on.
              let both = (marked k).0 on in
              let was = (tracks.exact k).0 both.1 in
              open_ready callees (slice_set standings c (out seat)) k (get_set_other standings c k (out seat) both.0 ∙ was.0) (stays (called callees k) ∙ ready_open callees standings k was)),
          (λ now. elim (same_or_not k c) [
            | inl same ↦
                let here : slice_get (slice_set standings c (out seat)) c ≡ Some (out seat) = get_set_same standings c (out seat) within in
                let there : slice_get (slice_set standings c (out seat)) c ≡ Some waiting = subst (λ (j : ℕ). slice_get (slice_set standings c (out seat)) j ≡ Some waiting) same now.0 in
                absurd (out_waiting seat (sym here ∙ there))
            | inr other ↦
                (marked k).1 (
                  other,
                  (tracks.exact k).1 (open_ready callees standings k (sym (get_set_other standings c k (out seat) other) ∙ now.0)
                      (sym (stays (called callees k)) ∙ ready_open callees (slice_set standings c (out seat)) k now)),
                )
          ]),
        );
      }

  -- ---- a component is done
  -- each caller has a count of at least how often it calls the component
  pub tracks_calls : (c seat : ℕ) → Tracks callees standings callers counts unfinished ready → slice_get standings c ≡ Some (out seat)
      → (k : ℕ) → times k (called callers c) ≤ count_at counts k
  tracks_calls c seat tracks is k =
      let inverse = tracks.inverse k c in
      elim (cases_lt k (length standings)) [
        | inl less ↦ omega (arith, inverse, tracks.counted k less, times_open standings c seat is (called callees k))
        | inr past ↦
            let none : called callees k ≡ [] = get_or_past callees k [] (omega (arith, past, tracks.as_many_callees)) in
            let no_times : times c (called callees k) ≡ 0 = ap (times c) none in
            omega (arith, inverse, no_times)
      ]

  -- a caller of a component that isn't done waits, and is another component
  caller_waits : (c k seat : ℕ) → AreSettled callees standings → slice_get standings c ≡ Some (out seat) → k < length standings → 0 < times c (called callees k)
      → slice_get standings k ≡ Some waiting
  caller_waits c k seat settled is within calls =
      let some = standing_there standings k within in
      elim (waiting_or_not some.0) [
        | inl waits ↦ some.1 ∙ ap Some waits
        | inr not ↦
            let none : open_in standings (called callees k) ≡ 0 = done_none_open standings (called callees k) (settled k some.0 some.1 not) in
            absurd (omega (arith, none, calls, times_open standings c seat is (called callees k)))
      ]

  pub tracks_finished : (c seat : ℕ) (counts' : List ℕ) (unfinished' : ℕ) (ready' : List ℕ) → Tracks callees standings callers counts unfinished ready
      → AreSettled callees standings → slice_get standings c ≡ Some (out seat) → Lowered (called callers c) counts counts' ready ready' → unfinished' + 1 ≡ unfinished
      → Tracks callees (slice_set standings c done) callers counts' unfinished' ready'
  tracks_finished c seat counts' unfinished' ready' tracks settled is lowered fewer =
      let long = length-set standings c done in
      let falls : (k : ℕ) → open_in (slice_set standings c done) (called callees k) + times c (called callees k) ≡ open_in standings (called callees k) = λ k. lowers standings c seat is (called callees k) in
      let after : (k : ℕ) → k < length standings → count_at counts' k ≡ open_in (slice_set standings c done) (called callees k) =
      λ k less. omega (arith, lowered.lower k, tracks.inverse k c, tracks.counted k less, falls k) in
      record {
        as_many_callees = tracks.as_many_callees ∙ sym long;
        as_many_callers = tracks.as_many_callers ∙ sym long;
        as_many_counts = lowered.as_many ∙ (tracks.as_many_counts ∙ sym long);
        room = omega (arith, long, lowered.room, tracks.room);
        inverse = tracks.inverse;
        counted = λ k less. after k (omega (arith, less, long));
        left = let less = unfinished_set standings c (out seat) done is in omega (arith, less, fewer, tracks.left);
        exact = λ k. (
          (λ on. elim ((lowered.marked k).0 on) [
            | inl old ↦
                let was = (tracks.exact k).0 old in
                let other : k ≢ c = λ same. out_waiting seat (sym is ∙ subst (λ (j : ℕ). slice_get standings j ≡ Some waiting) same was.0) in
                open_ready callees (slice_set standings c done) k (get_set_other standings c k done other ∙ was.0) (omega (arith, falls k, ready_open callees standings k was))
            | inr new ↦
                let calls : 0 < times c (called callees k) = omega (arith, new.0, tracks.inverse k c) in
                let within : k < length standings = omega (arith, caller_within callees k c calls, tracks.as_many_callees) in
                let waits = caller_waits c k seat settled is within calls in
                let other : k ≢ c = λ same. out_waiting seat (sym is ∙ subst (λ (j : ℕ). slice_get standings j ≡ Some waiting) same waits) in
                open_ready callees (slice_set standings c done) k (get_set_other standings c k done other ∙ waits) (omega (arith, after k within, new.1))
          ]),
          (λ now.
              let within : k < length standings = omega (arith, long, slice_get_within (slice_set standings c done) k waiting now.0) in
              let other : k ≢ c = λ same.
              done_waiting (sym (get_set_same standings c done (slice_get_within standings c (out seat) is)) ∙ subst (λ (j : ℕ). slice_get (slice_set standings c done) j ≡ Some waiting) same now.0) in
              let waits : slice_get standings k ≡ Some waiting = sym (get_set_other standings c k done other) ∙ now.0 in
              let none = ready_open callees (slice_set standings c done) k now in
              elim (cases_eq (times c (called callees k)) 0) [
                | inl same ↦ (lowered.marked k).1 (inl ((tracks.exact k).1 (open_ready callees standings k waits (omega (arith, falls k, none, same)))))
                | inr calls ↦ (lowered.marked k).1 (inr (omega (arith, calls, tracks.inverse k c), omega (arith, after k within, none)))
              ]),
        );
      }

-- ---- nothing has happened
pub tracks_fresh : (callees callers : List (List ℕ)) (counts : List ℕ) (ready : List ℕ) → length callers ≡ length callees → AreCallers callees callers
    → counts ≡ map length callees → length callees ≤ 64 * length ready → ((c : ℕ) → IsMarked ready c ↔ ((c < length callees) × (called callees c ≡ [])))
    → Tracks callees (replicate (length callees) waiting) callers counts (length callees) ready
tracks_fresh callees callers counts ready as_many inverse is room marked =
    let n = length callees in
    let long : length (replicate n waiting) ≡ n = length-replicate n waiting in
    record {
      as_many_callees = sym long;
      as_many_callers = as_many ∙ sym long;
      as_many_counts = ap length is ∙ (length-map callees length ∙ sym long);
      room = omega (arith, long, room);
      inverse = inverse;
      counted = λ c less. ap (λ (xs : List ℕ). count_at xs c) is ∙ (count_map callees c ∙ sym (open_at_first n (called callees c)));
      left = sym (all_waiting_open n);
      exact = λ c. (
        (λ on.
            let known = (marked c).0 on in
            open_ready callees (replicate n waiting) c (waiting_below n c known.0) (ap (open_in (replicate n waiting)) known.1)),
        (λ is_ready.
            let none : length (called callees c) ≡ 0 = sym (open_at_first n (called callees c)) ∙ ready_open callees (replicate n waiting) c is_ready in
            (marked c).1 (omega (arith, long, slice_get_within (replicate n waiting) c waiting is_ready.0), nothing (called callees c) none)),
      );
    }
