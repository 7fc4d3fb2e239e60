-- What is true of a board stays true when something happens to it.
use Rattle.std.proofs.Common.{zero, suc, inl, inr, ◌≡◌, ◌≢◌, ℕ, ◌+◌, ◌*◌, ◌^◌, replicate, ◌<◌, ◌≤◌, Bool, true, false}
use Rattle.std.proofs.Common.{List, [], ◌∷◌, ◌++◌, length, slice_get, slice_set, refl, ap, sym, ◌∙◌, subst, arith}
use Rattle.std.proofs.lemmas.List.{length-set, map-set, length-replicate}
use Rattle.std.proofs.lemmas.List.Elements.{All-weaker, All-head, All-tail}
use Rattle.std.proofs.lemmas.Option.{slice_get-map, slice_get_within, same_Some, none-some}
use Rattle.std.specs.declared.option.Option.TheVariants.{Some}
use Rattle.summary_board.proofs.Tracking.{out_waiting, done_waiting}
use Rattle.summary_board.specs.declared.event.Event.{Event}
use Rattle.summary_board.specs.declared.event.Event.TheVariants.{Taken, Finished, Stopped}
use Rattle.summary_board.specs.declared.progress.Progress.{Progress}
use Rattle.summary_board.specs.declared.progress.Progress.TheVariants.{Waiting, Out, Done}
use Rattle.summary_board.specs.Machine.{waiting, out, done, State, May, step, replay, begin, called, AreDone, IsReady}
use Rattle.summary_board.specs.BoardValue.{BoardValue, standing_of, standings_of, outputs_of, state_of, IsSupported, AreSupported, IsSound}
use Rattle.summary_board.specs.steps.Room.{left, left_in, left_of}
use Rattle.summary_board.specs.Ascending.{AscendsBelow}
use Rattle.summary_board.specs.Calls.{each_below, fresh, taken, finished, Fits}
use Rattle.summary_board.specs.DoneValue.{DoneValue}
use Rattle.summary_board.proofs.Below.{length_each_below, get_each_below, map_replicate, get_replicate}
use Rattle.summary_board.proofs.Sets.{get_set_same, get_set_other, same_or_not}
use Rattle.summary_board.proofs.Runs.{replay_more, legal_more}

waiting_done : waiting ≡ done → ⊥
waiting_done is = cc

out_done : (seat : ℕ) → out seat ≡ done → ⊥
out_done seat is = cc

module _ {O : Type 0} where
  -- the component isn't done
  abbrev pub IsOpen : List (Progress O) → ℕ → Type 0
  IsOpen progress c = slice_get (standings_of progress) c ≢ Some done

  -- a component that is done is another one
  other_than : (progress : List (Progress O)) (c d : ℕ) → IsOpen progress c → slice_get (standings_of progress) d ≡ Some done → d ≢ c
  other_than progress c d opened is same = let P : ℕ → Type 0 = λ k. slice_get (standings_of progress) k ≡ Some done in opened (subst P same is)

  -- what is done stays done
  pub done_stays : (progress : List (Progress O)) (c : ℕ) (at : Progress O) → IsOpen progress c
      → (d : ℕ) → slice_get (standings_of progress) d ≡ Some done → slice_get (standings_of (slice_set progress c at)) d ≡ Some done
  done_stays progress c at opened d is =
      rw (map-set standing_of progress c at, get_set_other (standings_of progress) c d (standing_of at) (other_than progress c d opened is)) is

  pub all_done_stay : (progress : List (Progress O)) (c : ℕ) (at : Progress O) → IsOpen progress c
      → (cs : List ℕ) → AreDone (standings_of progress) cs → AreDone (standings_of (slice_set progress c at)) cs
  all_done_stay progress c at opened cs all = All-weaker _ _ (done_stays progress c at opened) cs all

  pub outputs_stay : (progress : List (Progress O)) (c : ℕ) (at : Progress O) → IsOpen progress c
      → (cs : List ℕ) → AreDone (standings_of progress) cs → outputs_of (slice_set progress c at) cs ≡ outputs_of progress cs
  outputs_stay progress c at opened [] all = refl
  outputs_stay progress c at opened (d ∷ cs) all =
      let D : ℕ → Type 0 = λ k. slice_get (standings_of progress) k ≡ Some done in
      let here : d ≢ c = other_than progress c d opened (All-head D d cs all) in
      rw (get_set_other progress c d at here, outputs_stay progress c at opened cs (All-tail D d cs all)) refl

  pub mark_at : (progress : List (Progress O)) (c : ℕ) (at : Progress O) → slice_get progress c ≡ Some at → slice_get (standings_of progress) c ≡ Some (standing_of at)
  mark_at progress c at is = rw (slice_get-map standing_of progress c, is) refl

  module _ {P : Type 0} (written : P → List O → O) where
    supported_stays : (progress : List (Progress O)) (c : ℕ) (new : Progress O) → IsOpen progress c
        → (cs : List ℕ) (part : P) (at : Progress O) → IsSupported written progress cs part at → IsSupported written (slice_set progress c new) cs part at
    supported_stays progress c new opened cs part Waiting is = tt
    supported_stays progress c new opened cs part (Out seat) is = all_done_stay progress c new opened cs is
    supported_stays progress c new opened cs part (Done inputs output) is =
        (all_done_stay progress c new opened cs is.0, is.1 ∙ sym (outputs_stay progress c new opened cs is.0), is.2)

    pub supported_set : (parts : List P) (callees : List (List ℕ)) (progress : List (Progress O)) (c : ℕ) (new : Progress O) → IsOpen progress c → c < length progress
        → ((part : P) → slice_get parts c ≡ Some part → IsSupported written progress (called callees c) part new)
        → AreSupported written parts callees progress → AreSupported written parts callees (slice_set progress c new)
    supported_set parts callees progress c new opened within fits all k part at at_part at_progress =
        elim (same_or_not k c) [
          | inl same ↦
              let there : slice_get (slice_set progress c new) k ≡ Some new = rw (same) (get_set_same progress c new within) in
              let is : new ≡ at = same_Some new at (sym there ∙ at_progress) in
              let Q : Progress O → Type 0 = λ p. IsSupported written (slice_set progress c new) (called callees k) part p in
              subst Q is (supported_stays progress c new opened (called callees k) part new
              (let R : ℕ → Type 0 = λ j. slice_get parts j ≡ Some part → IsSupported written progress (called callees j) part new in subst R (sym same) (fits part) at_part))
          | inr other ↦
              supported_stays progress c new opened (called callees k) part at (all k part at at_part (sym (get_set_other progress c k new other) ∙ at_progress))
        ]

module _ {O : Type 0} where
  pub waiting_at : (progress : List (Progress O)) (c : ℕ) → slice_get (standings_of progress) c ≡ Some waiting → slice_get progress c ≡ Some Waiting
  waiting_at [] c is = absurd (none-some waiting is)
  waiting_at (Waiting ∷ progress) zero is = refl
  waiting_at (Out seat ∷ progress) zero is = absurd (out_waiting seat is)
  waiting_at (Done inputs output ∷ progress) zero is = absurd (done_waiting is)
  waiting_at (at ∷ progress) (suc c) is = waiting_at progress c is

  -- one component's progress is replaced
  pub left_set : (progress : List (Progress O)) (c : ℕ) (old new : Progress O) → slice_get progress c ≡ Some old
      → left_in (slice_set progress c new) + left_of old ≡ left_in progress + left_of new
  left_set [] c old new is = absurd (none-some old is)
  left_set (at ∷ progress) zero old new is = let same : left_of at ≡ left_of old = ap left_of (same_Some at old is) in omega (arith, same)
  left_set (at ∷ progress) (suc c) old new is = omega (arith, left_set progress c old new is)

module _ {P O : Type 0} (written : P → List O → O) where
  -- one event more
  sound_more : (old new : BoardValue P O) (e : Event) → IsSound written old
      → new.parts ≡ old.parts → new.callees ≡ old.callees → length new.progress ≡ length old.progress
      → new.journal ≡ old.journal ++ e ∷ [] → state_of new ≡ step (state_of old) e → May old.callees (state_of old) e
      → AreSupported written old.parts old.callees new.progress → IsSound written new
  sound_more old new e sound parts callees progress journal state may supported =
      let may' : May old.callees (replay (begin (length old.parts)) old.journal) e = let Q : State → Type 0 = λ s. May old.callees s e in subst Q (sym sound.replays) may in
      let after : replay (begin (length old.parts)) (old.journal ++ e ∷ []) ≡ state_of new =
      replay_more (begin (length old.parts)) old.journal e ∙ ap (λ s. step s e) sound.replays ∙ sym state in
      record {
        few = rw parts sound.few;
        as_many_callees = rw (parts, callees) sound.as_many_callees;
        as_many_progress = rw parts (progress ∙ sound.as_many_progress);
        ascending = rw (parts, callees) sound.ascending;
        legal = rw (parts, callees, journal) (legal_more old.callees (begin (length old.parts)) old.journal e sound.legal may');
        replays = rw (parts, journal) after;
        supported = rw (parts, callees) supported;
      }

  pub sound_taken : (old : BoardValue P O) (seat c : ℕ) → IsSound written old → old.stopped ≡ false → IsReady old.callees (standings_of old.progress) c
      → IsSound written (taken old seat c)
  sound_taken old seat c sound going ready =
      let opened : IsOpen old.progress c = λ is. waiting_done (same_Some waiting done (sym ready.0 ∙ is)) in
      let within : c < length old.progress = slice_get_within old.progress c Waiting (waiting_at old.progress c ready.0) in
      sound_more old (taken old seat c) (Taken seat c) sound refl refl (length-set old.progress c (Out seat)) refl
      (ap (λ m. record { standings = m; stopped = old.stopped }) (map-set standing_of old.progress c (Out seat)))
      (going, ready)
      (supported_set written old.parts old.callees old.progress c (Out seat) opened within (λ part at. ready.1) sound.supported)

  pub sound_finished : (old : BoardValue P O) (seat : ℕ) (it : DoneValue P O) → IsSound written old → Fits old seat it → it.output ≡ written it.part it.inputs
      → IsSound written (finished old seat it)
  sound_finished old seat it sound fits is =
      let c = it.component in
      let new : Progress O = Done it.inputs it.output in
      let mark : slice_get (standings_of old.progress) c ≡ Some (out seat) = mark_at old.progress c (Out seat) fits.0 in
      let opened : IsOpen old.progress c = λ was. out_done seat (same_Some (out seat) done (sym mark ∙ was)) in
      let within : c < length old.progress = slice_get_within old.progress c (Out seat) fits.0 in
      let ready : AreDone (standings_of old.progress) (called old.callees c) = sound.supported c it.part (Out seat) fits.1 fits.0 in
      sound_more old (finished old seat it) (Finished seat c) sound refl refl (length-set old.progress c new) refl
      (ap (λ m. record { standings = m; stopped = old.stopped }) (map-set standing_of old.progress c new))
      mark
      (supported_set written old.parts old.callees old.progress c new opened within
      (λ part at. (ready, fits.2, is ∙ ap (λ p. written p it.inputs) (same_Some it.part part (sym fits.1 ∙ at)))) sound.supported)

  -- the same, with the room that is left in the journal: what the calls of a board do to its fields
  pub kept_halted : (old : BoardValue P O) (spare spare' : ℕ) (journal : List Event) → IsSound written old × (left old.progress old.stopped ≤ spare) → old.stopped ≡ false
      → journal ≡ old.journal ++ Stopped ∷ [] → spare ≤ spare' + 1
      → IsSound written (record old { stopped = true; journal = journal }) × (left old.progress true ≤ spare')
  kept_halted old spare spare' journal known going is room =
      let before : left old.progress false ≤ spare = let Q : Bool → Type 0 = λ b. left old.progress b ≤ spare in subst Q going known.1 in
      let new : BoardValue P O = record old { stopped = true; journal = journal } in
      (sound_more old new Stopped known.0 refl refl refl is refl going known.0.supported, omega (arith, before, room))

  pub kept_taken : (old : BoardValue P O) (seat c spare spare' : ℕ) (progress : List (Progress O)) (journal : List Event)
      → IsSound written old × (left old.progress old.stopped ≤ spare) → old.stopped ≡ false → IsReady old.callees (standings_of old.progress) c
      → progress ≡ slice_set old.progress c (Out seat) → journal ≡ old.journal ++ Taken seat c ∷ [] → spare ≤ spare' + 1
      → IsSound written (record old { progress = progress; journal = journal }) × (left progress old.stopped ≤ spare')
  kept_taken old seat c spare spare' progress journal known going ready progress_is journal_is room =
      let fewer = left_set old.progress c Waiting (Out seat) (waiting_at old.progress c ready.0) in
      let before = known.1 in
      rw (progress_is, journal_is) (sound_taken old seat c known.0 going ready, omega (arith, fewer, before, room))

  pub kept_finished : (old : BoardValue P O) (seat : ℕ) (it : DoneValue P O) (spare spare' : ℕ) (progress : List (Progress O)) (journal : List Event)
      → IsSound written old × (left old.progress old.stopped ≤ spare) → Fits old seat it → it.output ≡ written it.part it.inputs
      → progress ≡ slice_set old.progress it.component (Done it.inputs it.output) → journal ≡ old.journal ++ Finished seat it.component ∷ [] → spare ≤ spare' + 1
      → IsSound written (record old { progress = progress; journal = journal }) × (left progress old.stopped ≤ spare')
  kept_finished old seat it spare spare' progress journal known fits is progress_is journal_is room =
      let fewer = left_set old.progress it.component (Out seat) (Done it.inputs it.output) fits.0 in
      let before = known.1 in
      rw (progress_is, journal_is) (sound_finished old seat it known.0 fits is, omega (arith, fewer, before, room))

  -- there is room for the event
  pub room_taken : (old : BoardValue P O) (c spare : ℕ) → IsSound written old × (left old.progress old.stopped ≤ spare) → IsReady old.callees (standings_of old.progress) c → 0 < spare
  room_taken old c spare known ready =
      let fewer = left_set old.progress c Waiting (Out 0) (waiting_at old.progress c ready.0) in
      let before = known.1 in
      omega (arith, fewer, before)

  pub room_finished : (old : BoardValue P O) (seat : ℕ) (it : DoneValue P O) (spare : ℕ) → IsSound written old × (left old.progress old.stopped ≤ spare) → Fits old seat it → 0 < spare
  room_finished old seat it spare known fits =
      let fewer = left_set old.progress it.component (Out seat) (Done it.inputs it.output) fits.0 in
      let before = known.1 in
      omega (arith, fewer, before)

  -- nothing has happened
  left_waiting : (n : ℕ) → left_in (replicate {A = Progress O} n Waiting) ≡ 2 * n
  left_waiting zero = refl
  left_waiting (suc n) = omega (arith, left_waiting n)

  pub kept_fresh : (n spare : ℕ) (part : ℕ → P) (callees : ℕ → List ℕ) → n < 2 ^ 32 → 2 * n + 1 ≤ spare → ((c : ℕ) → c < n → AscendsBelow c (callees c))
      → IsSound written (fresh n part callees) × (left (replicate {A = Progress O} n Waiting) false ≤ spare)
  kept_fresh n spare part callees few room ascending =
      let long = length_each_below n part in
      let standings : replicate n waiting ≡ standings_of (replicate {A = Progress O} n Waiting) = sym (map_replicate n standing_of Waiting) in (
        record {
          few = rw long few;
          as_many_callees = length_each_below n callees ∙ sym long;
          as_many_progress = length-replicate n Waiting ∙ sym long;
          ascending = λ c within. let less : c < n = rw (← long) within in rw (get_each_below n callees c [] less) (ascending c less);
          legal = tt;
          replays = rw long (ap (λ m. record { standings = m; stopped = false }) standings);
          supported = λ c part at at_part at_progress.
              let Q : Progress O → Type 0 = λ p. IsSupported written (replicate n Waiting) (called (each_below n callees) c) part p in
              subst Q (get_replicate n Waiting at c at_progress) tt;
        },
        omega (arith, left_waiting n, room),
      )
