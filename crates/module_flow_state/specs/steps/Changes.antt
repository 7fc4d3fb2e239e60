-- When functions changed last, and what a round notes of it.
use Rattle.std.specs.Prelude.{◌≡◌, ◌<◌, ℕ, Bool, false, true, nat_eq, List, slice_index_or}
use Rattle.std.specs.List.{Contains}
use Rattle.module_flow_state.specs.declared.changes.Changes.{Changes}
use Rattle.module_flow_state.specs.declared.changes.FlowChanges.{FlowChanges}
use Rattle.module_flow_state.specs.States.{FlowState, parameters_of, result_of}

-- rounds: of each label the round before which it changed last, 0 where it isn't known

-- it changed before the round of this number
abbrev pub in_round : (rounds : List ℕ) → (round label : ℕ) → Bool
in_round rounds k l = nat_eq (slice_index_or rounds l 0) k

-- of each kind of change: with what functions are entered, and what they give
abbrev pub Rounds : Type 0
Rounds = List ℕ × List ℕ

abbrev pub rounds_of : FlowChanges → Rounds
rounds_of changes = (changes.entered.rounds, changes.given.rounds)

-- From one state to the other all of a kind that changed is noted as changed before the round of this number.
pub record NotedOf {X : Type 0} (kind : FlowState → ℕ → X) (old new : FlowState) (before after : List ℕ) (k : ℕ) : Type 0 where
  pub keeps : (l : ℕ) → in_round after k l ≡ false → in_round before k l ≡ false
  pub alike : (l : ℕ) → in_round after k l ≡ false → kind new l ≡ kind old l

-- So it is of both kinds, and where nothing changed this is told.
pub record Noted (old new : FlowState) (before after : Rounds) (k : ℕ) (changed : Bool) : Type 0 where
  pub entered : NotedOf parameters_of old new before.0 after.0 k
  pub given : NotedOf result_of old new before.1 after.1 k
  pub still : changed ≡ false → new ≡ old

-- no function is noted as changed before the round of this number
abbrev pub NoneIn : (rounds : List ℕ) → (round : ℕ) → Type 0
NoneIn rounds k = (l : ℕ) → in_round rounds k l ≡ false

-- each function that is noted so is among these
abbrev pub AllListed : (rounds : List ℕ) → (round : ℕ) → (labels : List ℕ) → Type 0
AllListed rounds k labels = (l : ℕ) → in_round rounds k l ≡ true → Contains labels l

-- Between these changes and those, others were noted as changed before the round of this number.
pub record MoreNoted (before after : Changes) (k : ℕ) : Type 0 where
  pub listed : AllListed before.rounds k before.latest → AllListed after.rounds k after.latest
  pub later : (n : ℕ) → k < n → NoneIn before.rounds n → NoneIn after.rounds n

-- The same, where none is noted so before.
pub record NotedAnew (before after : Changes) (k : ℕ) : Type 0 where
  pub listed : NoneIn before.rounds k → AllListed after.rounds k after.latest
  pub later : (n : ℕ) → k < n → NoneIn before.rounds n → NoneIn after.rounds n

-- the same of both kinds
pub record MoreChanges (before after : FlowChanges) (k : ℕ) : Type 0 where
  pub entered : MoreNoted before.entered after.entered k
  pub given : MoreNoted before.given after.given k

pub record AllNotedAnew (before after : FlowChanges) (k : ℕ) : Type 0 where
  pub entered : NotedAnew before.entered after.entered k
  pub given : NotedAnew before.given after.given k
