-- What a pass knows of functions, and what their calls add.
use Rattle.std.specs.Prelude.{ℕ, Bool, List, [], ◌∷◌, Option, Some, None, eqb, cond, if◌then◌else◌}
use Rattle.type_kinds.specs.declared.atom.Atom.{Atom}
use Rattle.core_ast.specs.declared.syntax.FunName.{FunName}
use Rattle.core_scope.specs.Asks.{erlang, function_name}
use Rattle.core_scope.specs.Names.{same_atom, has_function}
use Rattle.type_lattice.specs.Types.{none}
use Rattle.cons_tree.specs.Constraints.{only}
use Rattle.cons_tree.specs.declared.parts.Part.TheVariants.{Call}
use Rattle.cons_tree.specs.declared.parts.Sig.{Sig}
use Rattle.cons_tree.specs.declared.parts.Summary.{Summary}
use Rattle.cons_tree.specs.declared.parts.Callee.{Callee}
use Rattle.cons_tree.specs.declared.parts.Callee.TheVariants.{Known, Local, Undefined, Unknown}
use Rattle.bif_types.specs.declared.bif.Bif.{Bif}
use Rattle.bif_types.specs.Parts.{part_of_row}
use Rattle.bif_types.specs.Table.{looked_up}
use Rattle.cons_gen_rows.specs.Words.{Rows, bound, never}

-- A pass: whether it is the lenient one, which takes the lenient signatures and lets a built-in function that never returns
-- give any value; the component's own functions, of whose calls it knows nothing; and what stands under a module and a name.
pub record Knowledge : Type 0 where
  pub lenient : Bool
  pub own : Atom → FunName → Bool
  pub callee : Atom → FunName → Callee

-- the signature that the pass takes
abbrev pub signature : Knowledge → Summary → Sig
signature P s = cond P.lenient s.lenient s.strict

-- the slot of the value and those of the arguments, by the signature of a function; its own functions add nothing
abbrev pub by_summary : Knowledge → Atom → FunName → Summary → (s : ℕ) → List ℕ → Rows
by_summary P home f summary s ss = if P.own home f then [] else (only (Call s ss (signature P summary)) ∷ [])

-- A function is called by a module and a name: one that the module doesn't have or doesn't export gives no value.
abbrev pub by_names : Knowledge → Atom → FunName → Callee → (s : ℕ) → List ℕ → Rows
by_names P home f (Known summary) s ss = by_summary P home f summary s ss
by_names P home f (Local summary) s ss = bound s none
by_names P home f Undefined s ss = bound s none
by_names P home f Unknown s ss = []

-- The name of a function that its own module defines is applied.
abbrev pub by_name : Knowledge → Atom → FunName → Callee → (s : ℕ) → List ℕ → Rows
by_name P home f (Known summary) s ss = by_summary P home f summary s ss
by_name P home f (Local summary) s ss = by_summary P home f summary s ss
by_name P home f Undefined s ss = []
by_name P home f Unknown s ss = []

-- A built-in function is called for its one value. One that never returns may be asked for another number of values: then it
-- gives none of them, and leniently it adds nothing.
abbrev pub built_in_rows : Knowledge → Option Bif → (results : List ℕ) → List ℕ → Rows
built_in_rows P None rs ss = []
built_in_rows P (Some bif) (s ∷ []) ss = only (part_of_row bif s ss P.lenient) ∷ []
built_in_rows P (Some bif) rs ss = if P.lenient then [] else never rs

-- the first of the result's slots
abbrev pub with_result : List ℕ → (ℕ → Rows) → Rows
with_result [] f = []
with_result (s ∷ rs) f = f s

-- What a call by a literal module and name adds, for its result's slots and those of its arguments.
abbrev pub called_rows : Knowledge → (home name : Atom) → (count : ℕ) → (results : List ℕ) → List ℕ → Rows
called_rows P home name n rs ss =
    if same_atom home erlang then built_in_rows P (looked_up name n) rs ss
    else with_result rs (λ s. by_names P home (function_name name n) (P.callee home (function_name name n)) s ss)

-- What the application of a function's name adds: with another number of arguments it gives no value, and a function of a
-- `letrec` around it adds nothing.
abbrev pub applied_rows : Knowledge → (home : Atom) → (locals : List FunName) → FunName → (count : ℕ) → (s : ℕ) → List ℕ → Rows
applied_rows P home locals f n s ss =
    if eqb f.arity n then (if has_function locals f then [] else by_name P home f (P.callee home f) s ss)
    else bound s none
