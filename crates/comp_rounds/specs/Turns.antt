-- One round, in which only some functions are inferred.
use Rattle.std.specs.Prelude.{◌≡◌, ◌⊎◌, ℕ, ◌<◌, Some, List, Contains, IsTrue, length, map, slice_get}
use Rattle.cons_gen_rows.specs.Passes.{Knowledge}
use Rattle.cons_tree.specs.declared.parts.Sig.{Sig}
use Rattle.call_graph.specs.Among.{IsLast}
use Rattle.comp_rounds.specs.Calls.{called_as}
use Rattle.comp_rounds.specs.Rounds.{Callees, Function, callee_of, inferred, next_signature, of_one, strict_pass}
use Rattle.comp_rounds.specs.Signatures.{is_below}

-- all of these positions are those of functions
abbrev pub AllWithin : List ℕ → ℕ → Type 0
AllWithin xs n = (i : ℕ) → Contains xs i → i < n

-- What a round gives is below the signature of each function, but for those that are due.
abbrev pub AreSettled : Callees → List Function → List Sig → (due : List ℕ) → Type 0
AreSettled known gs ss due =
    (i : ℕ) (g : Function) (s : Sig) → (Contains due i → ⊥) → slice_get gs i ≡ Some g → slice_get ss i ≡ Some s
    → IsTrue (is_below (inferred (strict_pass known) g) s)

-- The functions at these positions have their next signatures, and each other one has its own or its next.
pub record AreTurned (P : Knowledge) (k : ℕ) (gs : List Function) (old new : List Sig) (turned : List ℕ) : Type 0 where
  pub long : length new ≡ length old
  pub each : (i : ℕ) (g : Function) (s : Sig) → slice_get gs i ≡ Some g → slice_get old i ≡ Some s
      → (slice_get new i ≡ Some s) ⊎ (slice_get new i ≡ Some (next_signature k s (inferred P g)))
  pub next : (i : ℕ) (g : Function) (s : Sig) → Contains turned i → slice_get gs i ≡ Some g → slice_get old i ≡ Some s
      → slice_get new i ≡ Some (next_signature k s (inferred P g))

-- Signatures differ at these positions alone.
abbrev pub DifferAt : List ℕ → (old new : List Sig) → Type 0
DifferAt changed old new = (i : ℕ) → (Contains changed i → ⊥) → slice_get new i ≡ slice_get old i

-- What is known under a function's name is its signature, if it is the last of its name and isn't left.
abbrev pub AreEntered : List Function → List Sig → (known : Callees) → (left : List ℕ) → Type 0
AreEntered gs ss known left =
    (j : ℕ) (g : Function) (s : Sig) → (Contains left j → ⊥) → slice_get gs j ≡ Some g → slice_get ss j ≡ Some s → IsLast (map called_as gs) j g.home g.name
    → known g.home g.name ≡ callee_of g (of_one s)
