-- What places hold: the least sets under the rules.
use Rattle.std.specs.Prelude.{ℕ, ◌≡◌, ◌<◌, List, Contains, Option, Some, None, nat_eq, if◌then◌else◌, slice_get}
use Rattle.fun_flow_solver.specs.declared.problem.Pair.{Pair}
use Rattle.fun_flow_solver.specs.declared.problem.Edge.{Edge}
use Rattle.fun_flow_solver.specs.declared.problem.Application.{Application}
use Rattle.fun_flow_solver.specs.declared.problem.Gives.{Gives}
use Rattle.fun_flow_solver.specs.declared.problem.Gives.TheVariants.{Nothing, Body, Unknown}
use Rattle.fun_flow_solver.specs.declared.problem.Known.{Known}
use Rattle.fun_flow_solver.specs.declared.problem.Problem.{Problem}

-- what is known says what n arguments give
abbrev pub given_by : Option Known → ℕ → Gives
given_by None n = Nothing
given_by (Some k) n = if nat_eq k.arity n then k.gives else Nothing

-- what applying an item to n arguments gives; item 0 is anything
abbrev pub entered_of : List Known → ℕ → ℕ → Gives
entered_of ks x n = if nat_eq x 0 then Unknown else given_by (slice_get ks x) n

-- The place holds the item: from the beginning, since an edge leads it there, since an item that is applied gives it, or since
-- nothing is known of what is applied.
pub data Holds (P : Problem) : ℕ → ℕ → Type 0 where
  by_start : {s : Pair} → Contains P.starts.items s → Holds P s.place s.item
  by_flow : {e : Edge} {x : ℕ} → Contains P.flows.items e → Holds P e.from x → Holds P e.to x
  by_body : {c : Application} {x y r : ℕ} → Contains P.applications.items c → Holds P c.operator x → entered_of P.items.items x c.arity ≡ Body r → Holds P r y → Holds P c.place y
  by_unknown : {c : Application} {x : ℕ} → Contains P.applications.items c → Holds P c.operator x → entered_of P.items.items x c.arity ≡ Unknown → Holds P c.place 0

-- all numbers of the rules are below n
pub record IsBelow (P : Problem) (n : ℕ) : Type 0 where
  pub some : 0 < n
  pub starts : (s : Pair) → Contains P.starts.items s → (s.place < n) × (s.item < n)
  pub flows : (e : Edge) → Contains P.flows.items e → (e.from < n) × (e.to < n)
  pub applications : (c : Application) → Contains P.applications.items c → (c.operator < n) × (c.place < n)
  pub bodies : (x a r : ℕ) → entered_of P.items.items x a ≡ Body r → r < n
