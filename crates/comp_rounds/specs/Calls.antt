-- Which functions of a component call which.
use Rattle.std.specs.Prelude.{◌≡◌, ◌↔◌, ℕ, ◌<◌, ◌^◌, true, Some, List, [], Contains, length, map, slice_get}
use Rattle.components.specs.Graph.{Leads}
use Rattle.call_graph.specs.Among.{IsLast, GoesToLast}
use Rattle.call_graph.specs.Outside.{Called}
use Rattle.call_graph.specs.Targets.{CallTarget, targets}
use Rattle.call_graph.specs.declared.among.CallsAmong.{CallsAmong}
use Rattle.comp_rounds.specs.Rounds.{Function}

abbrev pub called_as : Function → Called
called_as g = (g.home, g.name)

-- Each function is among the callers of those that its body calls by name, and it is told which function is the last of its name.
pub record AreCalls (gs : List Function) (calls : CallsAmong) : Type 0 where
  pub few : length gs < 2 ^ 32
  pub count : length calls.callers ≡ length gs
  pub flags : length calls.last ≡ length gs
  pub inside : (i j : ℕ) → Leads calls.callers j i → i < length gs
  pub callers : (i j : ℕ) (g : Function) (t : CallTarget) → slice_get gs i ≡ Some g → Contains (targets [] g.body) t
      → GoesToLast (map called_as gs) g.home t j → Leads calls.callers j i
  pub last : (j : ℕ) (g : Function) → slice_get gs j ≡ Some g → (slice_get calls.last j ≡ Some true) ↔ IsLast (map called_as gs) j g.home g.name
