-- The board as a machine: which component is waiting, out or done, and what may happen next.
use Rattle.std.specs.Prelude.{◌≡◌, ℕ, ◌+◌, ◌==◌, cond, Bool, true, false, List, [], ◌∷◌, All, slice_get, slice_set, slice_index_or, replicate}
use Rattle.std.specs.declared.option.Option.TheVariants.{Some}
use Rattle.summary_board.specs.declared.event.Event.{Event}
use Rattle.summary_board.specs.declared.event.Event.TheVariants.{Taken, Finished, Stopped}

-- Of a component: nobody has taken it, the worker with this seat has it, or it is solved.
pub data Standing : Type 0 where
  waiting : Standing
  out : ℕ → Standing
  done : Standing

-- The standing of each component, and whether the board was stopped.
pub record State : Type 0 where
  pub standings : List Standing
  pub stopped : Bool

-- The first state: all components wait.
abbrev pub begin : ℕ → State
begin count = record { standings = replicate count waiting; stopped = false }

-- Each of these components is done.
abbrev pub AreDone : List Standing → List ℕ → Type 0
AreDone standings cs = All (λ c. slice_get standings c ≡ Some done) cs

-- The callees of a component.
abbrev pub called : List (List ℕ) → ℕ → List ℕ
called callees c = slice_index_or callees c []

-- The component waits, and all its callees are done.
abbrev pub IsReady : List (List ℕ) → List Standing → ℕ → Type 0
IsReady callees standings c = (slice_get standings c ≡ Some waiting) × AreDone standings (called callees c)

-- The event is legal in this state: only a ready component is taken, and only while the board runs; only the seat that
-- has a component finishes it; a board is stopped once.
abbrev pub May : List (List ℕ) → State → Event → Type 0
May callees state (Taken seat c) = (state.stopped ≡ false) × IsReady callees state.standings c
May callees state (Finished seat c) = slice_get state.standings c ≡ Some (out seat)
May callees state Stopped = state.stopped ≡ false

-- The state after an event.
abbrev pub step : State → Event → State
step state (Taken seat c) = record state { standings = slice_set state.standings c (out seat) }
step state (Finished seat c) = record state { standings = slice_set state.standings c done }
step state Stopped = record state { stopped = true }

-- The state after a history.
abbrev pub replay : State → List Event → State
replay state [] = state
replay state (e ∷ es) = replay (step state e) es

-- A history is legal: each event is legal in the state after those before it.
abbrev pub IsLegal : List (List ℕ) → State → List Event → Type 0
IsLegal callees state [] = Unit {0}
IsLegal callees state (e ∷ es) = May callees state e × IsLegal callees (step state e) es

-- How often a history takes a component.
abbrev pub times_taken : ℕ → List Event → ℕ
times_taken c [] = 0
times_taken c (Taken seat d ∷ es) = cond (c == d) 1 0 + times_taken c es
times_taken c (Finished seat d ∷ es) = times_taken c es
times_taken c (Stopped ∷ es) = times_taken c es

-- How often a history finishes a component.
abbrev pub times_finished : ℕ → List Event → ℕ
times_finished c [] = 0
times_finished c (Taken seat d ∷ es) = times_finished c es
times_finished c (Finished seat d ∷ es) = cond (c == d) 1 0 + times_finished c es
times_finished c (Stopped ∷ es) = times_finished c es
