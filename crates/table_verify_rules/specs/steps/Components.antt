-- The functions of components, and what is asked of their numbers.
use Rattle.std.specs.Prelude.{ℕ, zero, suc, ◌<◌, List, [], ◌++◌, Contains, length}
use Rattle.components.specs.Numbering.{Numbering, members_of}
use Rattle.comp_rounds.specs.Rounds.{Function}
use Rattle.analysis_summaries.specs.Functions.{picked}
use Rattle.table_verify_laws.specs.Closed.{IsComponent}

-- the functions of the first n components
abbrev pub first_components : List Function → Numbering → ℕ → List Function
first_components fs c zero = []
first_components fs c (suc n) = first_components fs c n ++ picked fs (members_of c n)

-- The numbers of a component are of functions, and the functions of a component are one in the program.
pub record AreComponent (fs : List Function) (numbers : List ℕ) : Type 0 where
  pub within : (n : ℕ) → Contains numbers n → n < length fs
  pub whole : (g : Function) → Contains (picked fs numbers) g → IsComponent fs g (picked fs numbers)

-- These are the components of the program's functions: each is one, and each function is in one.
pub record AreComponents (fs : List Function) (c : Numbering) : Type 0 where
  pub each : (n : ℕ) → n < c.count → AreComponent fs (members_of c n)
  pub all : (g : Function) → Contains fs g → Contains (first_components fs c c.count) g
