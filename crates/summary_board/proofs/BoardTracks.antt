-- What a board keeps besides what it shows, after each of its calls.
use Rattle.std.proofs.Common.{◌≡◌, ◌≢◌, ◌↔◌, ℕ, ◌+◌, ◌*◌, ◌^◌, ◌<◌, ◌≤◌, List, [], ◌∷◌, All, length, replicate, slice_get, slice_set, refl, sym, ap, ◌∙◌, subst, arith}
use Rattle.std.proofs.lemmas.List.{length-map, map-set}
use Rattle.std.proofs.lemmas.List.Elements.{All-head, All-tail, All-cons, All-nil}
use Rattle.std.proofs.lemmas.Option.{slice_get_within, same_Some}
use Rattle.std.specs.declared.option.Option.TheVariants.{Some}
use Rattle.type_kinds.proofs.Lists.{item_at}
use Rattle.summary_board.specs.declared.progress.Progress.{Progress}
use Rattle.summary_board.specs.declared.progress.Progress.TheVariants.{Waiting, Out, Done}
use Rattle.summary_board.specs.Ascending.{AscendsBelow}
use Rattle.summary_board.specs.BoardValue.{BoardValue, standing_of, standings_of, IsSound}
use Rattle.summary_board.specs.Calls.{each_below}
use Rattle.summary_board.specs.Machine.{Standing, waiting, out, done, called, AreDone, IsReady}
use Rattle.summary_board.specs.steps.Agenda.{open_one, unfinished_in, times, count_at, Tracks, Lowered}
use Rattle.summary_board.specs.steps.Rows.{IsMarked, IsLeastMarked}
use Rattle.summary_board.proofs.Below.{length_each_below, get_each_below, map_replicate}
use Rattle.summary_board.proofs.Counts.{none_open, unfinished_set}
use Rattle.summary_board.proofs.Sounds.{mark_at}
use Rattle.summary_board.proofs.Tracking.{AreSettled, tracks_taken, tracks_calls, tracks_finished}

-- the least number of the set is the least ready component
pub least_ready : (callees : List (List ℕ)) (standings : List Standing) (ready : List ℕ) (c : ℕ) → ((k : ℕ) → IsMarked ready k ↔ IsReady callees standings k) → IsLeastMarked ready c
    → IsReady callees standings c × ((k : ℕ) → k < c → IsReady callees standings k → ⊥)
least_ready callees standings ready c exact least = ((exact c).0 least.0, λ k below is. least.1 k below ((exact k).1 is))

module _ {O : Type 0} where
  -- none is unfinished just where all are done
  over_from : (progress : List (Progress O)) → unfinished_in (standings_of progress) ≡ 0 → All (λ at. standing_of at ≡ done) progress
  over_from [] none = All-nil (λ at. standing_of at ≡ done)
  over_from (at ∷ progress) none =
      All-cons (λ p. standing_of p ≡ done) at progress (same_Some (standing_of at) done (none_open (Some (standing_of at)) (omega (arith, none)))) (over_from progress (omega (arith, none)))

  over_to : (progress : List (Progress O)) → All (λ at. standing_of at ≡ done) progress → unfinished_in (standings_of progress) ≡ 0
  over_to [] all = refl
  over_to (at ∷ progress) all =
      let here : open_one (Some (standing_of at)) ≡ 0 = ap (λ m. open_one (Some m)) (All-head (λ p. standing_of p ≡ done) at progress all) in
      omega (arith, here, over_to progress (All-tail (λ p. standing_of p ≡ done) at progress all))

  pub over_done : (progress : List (Progress O)) → (unfinished_in (standings_of progress) ≡ 0) ↔ All (λ at. standing_of at ≡ done) progress
  over_done progress = (over_from progress, over_to progress)

  module _ {P : Type 0} (written : P → List O → O) (board : BoardValue P O) (sound : IsSound written board) where
    settled_at : (c : ℕ) (part : P) (at : Progress O) → slice_get board.parts c ≡ Some part → slice_get board.progress c ≡ Some at → standing_of at ≢ waiting
        → AreDone (standings_of board.progress) (called board.callees c)
    settled_at c part Waiting is_part is other = absurd (other refl)
    settled_at c part (Out seat) is_part is other = sound.supported c part (Out seat) is_part is
    settled_at c part (Done inputs output) is_part is other = (sound.supported c part (Done inputs output) is_part is).0

    -- a component that doesn't wait has only done callees
    pub settled : AreSettled board.callees (standings_of board.progress)
    settled c m is other =
        let within : c < length board.progress = omega (arith, slice_get_within (standings_of board.progress) c m is, length-map board.progress standing_of) in
        let at = item_at board.progress c within in
        let part = item_at board.parts c (omega (arith, within, sound.as_many_progress)) in
        let same : standing_of at.0 ≡ m = same_Some (standing_of at.0) m (sym (mark_at board.progress c at.0 at.1) ∙ is) in
        settled_at c part.0 at.0 part.1 at.1 (λ waits. other (sym same ∙ waits))

module _ {O : Type 0} (callees : List (List ℕ)) (progress : List (Progress O)) (callers : List (List ℕ)) (counts : List ℕ) (unfinished : ℕ) (ready : List ℕ)
    (tracks : Tracks callees (standings_of progress) callers counts unfinished ready) where
  -- what is marked is a ready component
  pub marked_ready : (c : ℕ) → IsMarked ready c → IsReady callees (standings_of progress) c
  marked_ready c is = (tracks.exact c).0 is

  pub marked_within : (c : ℕ) → IsMarked ready c → c < length progress
  marked_within c is = omega (arith, slice_get_within (standings_of progress) c waiting (marked_ready c is).0, length-map progress standing_of)

  -- ---- a component is taken

  pub tracks_take : (c seat : ℕ) (progress' : List (Progress O)) (callers' : List (List ℕ)) (counts' : List ℕ) (unfinished' : ℕ) (ready' : List ℕ)
      → IsReady callees (standings_of progress) c → progress' ≡ slice_set progress c (Out seat)
      → callers' ≡ callers → counts' ≡ counts → unfinished' ≡ unfinished
      → length ready' ≡ length ready → ((n : ℕ) → IsMarked ready' n ↔ ((n ≢ c) × IsMarked ready n))
      → Tracks callees (standings_of progress') callers' counts' unfinished' ready'
  tracks_take c seat progress' callers' counts' unfinished' ready' is progress_is callers_is counts_is unfinished_is room marked =
      rw (progress_is, callers_is, counts_is, unfinished_is, map-set standing_of progress c (Out seat))
      (tracks_taken callees (standings_of progress) callers counts unfinished ready c seat ready' tracks is room marked)

  -- ---- a component is done
  pub some_left : (c seat : ℕ) → slice_get progress c ≡ Some (Out seat) → 0 < unfinished
  some_left c seat is = omega (arith, tracks.left, unfinished_set (standings_of progress) c (out seat) done (mark_at progress c (Out seat) is))

  pub within_callers : (c seat : ℕ) → slice_get progress c ≡ Some (Out seat) → c < length callers
  within_callers c seat is = omega (arith, slice_get_within progress c (Out seat) is, length-map progress standing_of, tracks.as_many_callers)

  pub enough : (c seat : ℕ) → slice_get progress c ≡ Some (Out seat) → (k : ℕ) → times k (called callers c) ≤ count_at counts k
  enough c seat is = tracks_calls callees (standings_of progress) callers counts unfinished ready c seat tracks (mark_at progress c (Out seat) is)

  pub counts_fit : length counts ≤ 64 * length ready
  counts_fit = omega (arith, tracks.as_many_counts, tracks.room)

  pub tracks_finish : (c seat : ℕ) (inputs : List O) (output : O) (progress' : List (Progress O)) (callers' : List (List ℕ)) (counts' : List ℕ) (unfinished' : ℕ) (ready' : List ℕ)
      → AreSettled callees (standings_of progress) → slice_get progress c ≡ Some (Out seat) → progress' ≡ slice_set progress c (Done inputs output)
      → callers' ≡ callers → Lowered (called callers c) counts counts' ready ready' → unfinished' + 1 ≡ unfinished
      → Tracks callees (standings_of progress') callers' counts' unfinished' ready'
  tracks_finish c seat inputs output progress' callers' counts' unfinished' ready' settled is progress_is callers_is lowered fewer =
      rw (progress_is, callers_is, map-set standing_of progress c (Done inputs output))
      (tracks_finished callees (standings_of progress) callers counts unfinished ready c seat counts' unfinished' ready' tracks settled (mark_at progress c (Out seat) is) lowered fewer)

-- ---- nothing has happened
pub below_fresh : (n : ℕ) (callees : ℕ → List ℕ) (lists : List (List ℕ)) → lists ≡ each_below n callees → ((c : ℕ) → c < n → AscendsBelow c (callees c))
    → (c : ℕ) → c < length lists → All (λ d. d < c) (called lists c)
below_fresh n callees lists is ascends c within =
    let less : c < n = omega (arith, within, ap length is, length_each_below n callees) in
    rw (is, get_each_below n callees c [] less) (ascends c less).1

pub tracks_new : {O : Type 0} (n : ℕ) (callees : ℕ → List ℕ) (lists : List (List ℕ)) (progress : List (Progress O)) (callers : List (List ℕ)) (counts : List ℕ) (unfinished : ℕ) (ready : List ℕ)
    → lists ≡ each_below n callees → progress ≡ replicate n Waiting → Tracks lists (replicate (length lists) waiting) callers counts unfinished ready
    → Tracks lists (standings_of progress) callers counts unfinished ready
tracks_new {O} n callees lists progress callers counts unfinished ready is waits tracks =
    let long : length lists ≡ n = ap length is ∙ length_each_below n callees in
    let standings : replicate (length lists) waiting ≡ standings_of progress = ap (λ k. replicate k waiting) long ∙ (sym (map_replicate {X = Progress O} n standing_of Waiting) ∙ ap standings_of (sym waits)) in
    subst (λ (ms : List Standing). Tracks lists ms callers counts unfinished ready) standings tracks

pub few_fresh : (n : ℕ) (callees : ℕ → List ℕ) (lists : List (List ℕ)) → lists ≡ each_below n callees → n < 2 ^ 32 → length lists < 2 ^ 32
few_fresh n callees lists is few = omega (arith, ap length is, length_each_below n callees, few)
