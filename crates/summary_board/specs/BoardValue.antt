-- What contracts see of a board, and what holds of every board.
use Rattle.std.specs.Prelude.{◌≡◌, ℕ, ◌<◌, ◌^◌, Bool, List, [], ◌∷◌, ◌++◌, map, length, slice_get}
use Rattle.std.specs.declared.option.Option.{Option}
use Rattle.std.specs.declared.option.Option.TheVariants.{Some, None}
use Rattle.summary_board.specs.declared.event.Event.{Event}
use Rattle.summary_board.specs.declared.progress.Progress.{Progress}
use Rattle.summary_board.specs.declared.progress.Progress.TheVariants.{Waiting, Out, Done}
use Rattle.summary_board.specs.Ascending.{AscendsBelow}
use Rattle.summary_board.specs.Machine.{Standing, waiting, out, done, State, begin, called, replay, IsLegal, AreDone}

-- A board over a work with parts of type P and outputs of type O: the part and the callees of each component, how far each
-- has come, whether the board was stopped, and what happened so far.
pub record BoardValue (P O : Type 0) : Type 0 where
  pub parts : List P
  pub callees : List (List ℕ)
  pub progress : List (Progress O)
  pub stopped : Bool
  pub journal : List Event

module _ {O : Type 0} where
  -- how far a component has come, without inputs and output
  abbrev pub standing_of : Progress O → Standing
  standing_of Waiting = waiting
  standing_of (Out seat) = out seat
  standing_of (Done inputs output) = done

  abbrev pub standings_of : List (Progress O) → List Standing
  standings_of progress = map standing_of progress

  -- the output of a component that is done
  abbrev pub published : Option (Progress O) → List O
  published None = []
  published (Some Waiting) = []
  published (Some (Out seat)) = []
  published (Some (Done inputs output)) = output ∷ []

  -- the outputs of those of these components that are done, in the order of the components
  abbrev pub outputs_of : List (Progress O) → List ℕ → List O
  outputs_of progress [] = []
  outputs_of progress (c ∷ cs) = published (slice_get progress c) ++ outputs_of progress cs

module _ {P O : Type 0} where
  -- the state of the machine
  abbrev pub state_of : BoardValue P O → State
  state_of board = record { standings = standings_of board.progress; stopped = board.stopped }

  -- The component is done, and this is its entry: its own part, the inputs that it was solved from, and its output.
  abbrev pub IsEntry : BoardValue P O → ℕ → P → List O → O → Type 0
  IsEntry board c part inputs output = (slice_get board.progress c ≡ Some (Done inputs output)) × (slice_get board.parts c ≡ Some part)

  -- What holds of a component with these callees and this part. If it is out, its callees are done. If it is done, they are done too, its
  -- inputs are the outputs published for them, and its output is the written one of its part and these inputs.
  abbrev pub IsSupported : (P → List O → O) → List (Progress O) → List ℕ → P → Progress O → Type 0
  IsSupported written progress callees part Waiting = Unit {0}
  IsSupported written progress callees part (Out seat) = AreDone (standings_of progress) callees
  IsSupported written progress callees part (Done inputs output) =
      AreDone (standings_of progress) callees × (inputs ≡ outputs_of progress callees) × (output ≡ written part inputs)

  abbrev pub AreSupported : (P → List O → O) → List P → List (List ℕ) → List (Progress O) → Type 0
  AreSupported written parts callees progress = (c : ℕ) (part : P) (at : Progress O)
      → slice_get parts c ≡ Some part → slice_get progress c ≡ Some at → IsSupported written progress (called callees c) part at

  -- What holds of every board, whenever it can be seen: there is one list of callees and one progress for each part, callees are numbered
  -- below their callers, the journal is a legal history that leads to this state, and each entry is supported.
  pub record IsSound (written : P → List O → O) (board : BoardValue P O) : Type 0 where
    pub few : length board.parts < 2 ^ 32
    pub as_many_callees : length board.callees ≡ length board.parts
    pub as_many_progress : length board.progress ≡ length board.parts
    pub ascending : (c : ℕ) → c < length board.parts → AscendsBelow c (called board.callees c)
    pub legal : IsLegal board.callees (begin (length board.parts)) board.journal
    pub replays : replay (begin (length board.parts)) board.journal ≡ state_of board
    pub supported : AreSupported written board.parts board.callees board.progress
