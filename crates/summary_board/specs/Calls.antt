-- What the calls of a board answer, and what they leave.
use Rattle.std.specs.Prelude.{◌≡◌, ℕ, ◌<◌, true, false, cond, List, [], ◌∷◌, ◌++◌, All, slice_get, slice_set, zero, suc, replicate}
use Rattle.std.specs.declared.option.Option.TheVariants.{Some}
use Rattle.summary_board.specs.declared.event.Event.TheVariants.{Taken, Finished, Stopped as StoppedEvent}
use Rattle.summary_board.specs.declared.progress.Progress.TheVariants.{Waiting, Out, Done}
use Rattle.summary_board.specs.declared.job.Take.{Take}
use Rattle.summary_board.specs.declared.job.Take.TheVariants.{Given, NoneReady, AllDone, Stopped}
use Rattle.summary_board.specs.BoardValue.{BoardValue, standing_of, standings_of, outputs_of}
use Rattle.summary_board.specs.Machine.{done, called, IsReady}
use Rattle.summary_board.specs.DoneValue.{DoneValue}

-- The list of f 0, f 1, and so on, for the numbers below n.
abbrev pub each_below : {X : Type 0} → ℕ → (ℕ → X) → List X
each_below zero f = []
each_below (suc n) f = each_below n f ++ f n ∷ []

module _ {P O : Type 0} where
  -- The board of a work on which nothing has happened.
  abbrev pub fresh : ℕ → (ℕ → P) → (ℕ → List ℕ) → BoardValue P O
  fresh count part callees = record {
    parts = each_below count part;
    callees = each_below count callees;
    progress = replicate count Waiting;
    stopped = false;
    journal = [];
  }

  -- The board after a seat took a component.
  abbrev pub taken : BoardValue P O → ℕ → ℕ → BoardValue P O
  taken board seat c = record board { progress = slice_set board.progress c (Out seat); journal = board.journal ++ Taken seat c ∷ [] }

  -- The board after a seat finished a component. Its entry is new, and nothing else changes.
  abbrev pub finished : BoardValue P O → ℕ → DoneValue P O → BoardValue P O
  finished board seat it = record board {
    progress = slice_set board.progress it.component (Done it.inputs it.output);
    journal = board.journal ++ Finished seat it.component ∷ [];
  }

  -- The board after a stop. A second stop changes nothing.
  abbrev pub halted : BoardValue P O → BoardValue P O
  halted board = record board { stopped = true; journal = board.journal ++ (cond board.stopped [] (StoppedEvent ∷ [])) }

  -- The component is out with this seat, and was solved from its own part and from what is published for its callees.
  abbrev pub Fits : BoardValue P O → ℕ → DoneValue P O → Type 0
  Fits board seat it =
      (slice_get board.progress it.component ≡ Some (Out seat))
      × (slice_get board.parts it.component ≡ Some it.part)
      × (it.inputs ≡ outputs_of board.progress (called board.callees it.component))

  -- The component is ready, and none below it is.
  abbrev pub IsLeastReady : BoardValue P O → ℕ → Type 0
  IsLeastReady board c =
      IsReady board.callees (standings_of board.progress) c
      × ((k : ℕ) → k < c → IsReady board.callees (standings_of board.progress) k → ⊥)

  -- Each component is done.
  abbrev pub IsOver : BoardValue P O → Type 0
  IsOver board = All (λ at. standing_of at ≡ done) board.progress

  -- What a seat that asks for a component is told, and what the board is then. A stopped board says so. Else a board whose components
  -- are all done says so. Else a board where none is ready says so. Else the least ready component is handed out.
  abbrev pub Takes : {W : Type 0} → BoardValue P O → ℕ → Take W P O → BoardValue P O → Type 0
  Takes old seat (Given job) new =
      (old.stopped ≡ false)
      × IsLeastReady old job.component
      × (slice_get old.parts job.component ≡ Some job.part)
      × (job.inputs ≡ outputs_of old.progress (called old.callees job.component))
      × (new ≡ taken old seat job.component)
  Takes old seat NoneReady new =
      (old.stopped ≡ false) × (IsOver old → ⊥) × ((c : ℕ) → IsReady old.callees (standings_of old.progress) c → ⊥) × (new ≡ old)
  Takes old seat AllDone new = (old.stopped ≡ false) × IsOver old × (new ≡ old)
  Takes old seat Stopped new = (old.stopped ≡ true) × (new ≡ old)
