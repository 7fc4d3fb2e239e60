-- What is fixed for a component: the modules of its functions are closed, and of each function that one of them calls outside it is
-- known what is known before any component is solved.
use Rattle.std.specs.Prelude.{ℕ, Bool, true, false, List, [], ◌∷◌, slice_get, Option, Some, None, if◌then◌else◌}
use Rattle.type_kinds.specs.declared.atom.Atom.{Atom}
use Rattle.core_ast.specs.declared.syntax.FunName.{FunName}
use Rattle.cons_tree.specs.Callees.{same_home}
use Rattle.cons_tree.specs.declared.parts.Callee.{Callee}
use Rattle.cons_tree.specs.declared.parts.Callee.TheVariants.{Known, Local, Undefined, Unknown}
use Rattle.comp_rounds.specs.Rounds.{Callees, Function, with_callee}

-- a call by the names of a module and of a function of it
abbrev pub Call : Type 0
Call = Atom × FunName

-- something is known of a function
abbrev pub tells : Callee → Bool
tells (Known s) = true
tells (Local s) = true
tells Undefined = true
tells Unknown = false

-- every name of a module is undefined
abbrev pub closing : Callees → Atom → Callees
closing fixed home h f = if same_home h home then Undefined else fixed h f

-- a name is known as at first, if anything is
abbrev pub fixing : (first : Callees) → Callees → Call → Callees
fixing first fixed x h f = if tells (first x.0 x.1) then with_callee fixed x.0 x.1 (first x.0 x.1) h f else fixed h f

-- names are fixed one after another
abbrev pub fixing_all : (first : Callees) → Callees → List Call → Callees
fixing_all first fixed [] = fixed
fixing_all first fixed (x ∷ xs) = fixing_all first (fixing first fixed x) xs

-- the module of a function, if there is one, is closed
abbrev pub with_own : Callees → Option Function → Callees
with_own fixed None = fixed
with_own fixed (Some g) = closing fixed g.home

-- calls outside, if there are any, are fixed
abbrev pub with_called : (first : Callees) → Callees → Option (List Call) → Callees
with_called first fixed None = fixed
with_called first fixed (Some calls) = fixing_all first fixed calls

-- What is fixed for the functions of these numbers, each of which has these calls outside.
abbrev pub fixed_by : (first : Callees) → List Function → (outside : List (List Call)) → Callees → (numbers : List ℕ) → Callees
fixed_by first fs outside fixed [] = fixed
fixed_by first fs outside fixed (i ∷ is) = fixed_by first fs outside (with_called first (with_own fixed (slice_get fs i)) (slice_get outside i)) is
