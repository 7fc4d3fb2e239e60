-- What a worklist keeps: what places hold so far, which edges there are, and which pairs wait.
use Rattle.std.specs.Prelude.{ℕ, ◌≡◌, ◌<◌, ◌⊎◌, List, Contains, Option, Some, None, length, slice_index_or}
use Rattle.fun_flow_solver.specs.declared.problem.Pair.{Pair}
use Rattle.fun_flow_solver.specs.declared.problem.Application.{Application}
use Rattle.fun_flow_solver.specs.declared.problem.Gives.TheVariants.{Body, Unknown}
use Rattle.fun_flow_solver.specs.declared.problem.Problem.{Problem}
use Rattle.components.specs.Graph.{Leads}
use Rattle.fun_flow_solver.specs.Holds.{Holds, entered_of}

-- the pair in hand is excused
abbrev pub Excused : Option Pair → ℕ → ℕ → Type 0
Excused None p x = ⊥
Excused (Some e) p x = (p ≡ e.place) × (x ≡ e.item)

-- the pair waits
abbrev pub Waits : List Pair → ℕ → ℕ → Type 0
Waits queue p x = Contains queue (record { place = p; item = x })

-- the edges of a place have handed on an item of it
abbrev pub IsSent : List (List ℕ) → List (List ℕ) → ℕ → ℕ → Type 0
IsSent sets out p x = (q : ℕ) → Leads out p q → Leads sets q x

-- an item of the operator has been applied
abbrev pub IsApplied : Problem → List (List ℕ) → List (List ℕ) → Application → ℕ → Type 0
IsApplied P sets out c x = (entered_of P.items.items x c.arity ≡ Unknown → Leads sets c.place 0) × ((r : ℕ) → entered_of P.items.items x c.arity ≡ Body r → Leads out r c.place)

-- nothing is left to do for an item of a place: its edges have handed it on, and it has been applied at the applications of which
-- the place is the operator
abbrev pub IsDone : Problem → List (List ℕ) → List (List ℕ) → ℕ → ℕ → Type 0
IsDone P sets out p x = IsSent sets out p x × ((c : Application) → Contains P.applications.items c → c.operator ≡ p → IsApplied P sets out c x)

-- What the worklist keeps.
pub record IsWork (P : Problem) (o : Option Pair) (sets out : List (List ℕ)) (queue : List Pair) : Type 0 where
  -- nothing is held without a reason, and no edge is there without one
  pub sound : (p x : ℕ) → Leads sets p x → Holds P p x
  pub just : (p q x : ℕ) → Leads out p q → Holds P p x → Holds P q x
  -- what waits is held
  pub held : (p x : ℕ) → Waits queue p x → Leads sets p x
  -- what is held waits or is done
  pub done : (p x : ℕ) → Leads sets p x → Excused o p x ⊎ (Waits queue p x ⊎ IsDone P sets out p x)

-- what is held stays
abbrev pub Grows : List (List ℕ) → List (List ℕ) → Type 0
Grows sets sets' = (p x : ℕ) → Leads sets p x → Leads sets' p x

-- Items were put into places, and each that is new waits.
pub record Moves (sets : List (List ℕ)) (queue : List Pair) (sets' : List (List ℕ)) (queue' : List Pair) : Type 0 where
  pub count : length sets' ≡ length sets
  pub grown : Grows sets sets'
  pub waits : (p x : ℕ) → Waits queue p x → Waits queue' p x
  pub held : (p x : ℕ) → Waits queue' p x → Waits queue p x ⊎ Leads sets' p x
  pub new : (p x : ℕ) → Leads sets' p x → Leads sets p x ⊎ Waits queue' p x

-- A step that keeps what the worklist keeps, whichever pair is excused; and what was sent along all edges stays so.
pub record Keeps (P : Problem) (sets out : List (List ℕ)) (queue : List Pair) (sets' out' : List (List ℕ)) (queue' : List Pair) : Type 0 where
  pub count : length sets' ≡ length sets
  pub edge_count : length out' ≡ length out
  pub grown : Grows sets sets'
  pub edges : Grows out out'
  pub work : (o : Option Pair) → IsWork P o sets out queue → IsWork P o sets' out' queue'
  pub still : (p x : ℕ) → Leads sets p x → IsSent sets out p x → IsSent sets' out' p x

-- the numbers of the first n applications stand at their operators
pub record AreAt (P : Problem) (applications_at : List (List ℕ)) (n : ℕ) : Type 0 where
  pub below : (p k : ℕ) → Leads applications_at p k → k < n
  pub operator : (p k : ℕ) (c : Application) → Leads applications_at p k → slice_index_or P.applications.items k c ≡ c → c.operator ≡ p
  pub all : (k : ℕ) (c : Application) → k < n → slice_index_or P.applications.items k c ≡ c → Leads applications_at c.operator k
