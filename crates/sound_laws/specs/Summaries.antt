-- When signatures of functions hold in every run: where what each function's constraint gives, by these signatures, lies below
-- the function's own.
use Rattle.std.specs.Prelude.{◌≡◌, ℕ, false, ◌&&◌, List, Option, Some, None, length, take, replicate, nat_eq, if◌then◌else◌}
use Rattle.type_kinds.specs.declared.atom.Atom.{Atom}
use Rattle.core_ast.specs.Model as m
use Rattle.core_ast.specs.declared.syntax.VarName.{VarName}
use Rattle.core_ast.specs.declared.syntax.FunName.{FunName}
use Rattle.core_scope.specs.Names.{same_atom}
use Rattle.type_lattice_model.specs.Values.{Value, Values}
use Rattle.type_lattice.specs.Types.{HasType, HasTypes, Below, AreBelow, any}
use Rattle.cons_tree.specs.Environments.{State, Assignment, type_at}
use Rattle.cons_tree.specs.Satisfied.{Sat, values_of}
use Rattle.cons_tree.specs.declared.parts.Sig.{Sig}
use Rattle.cons_tree.specs.declared.parts.Summary.{Summary}
use Rattle.cons_tree.specs.declared.parts.Callee.{Callee}
use Rattle.cons_solve.specs.Environments.{solution}
use Rattle.core_meaning.specs.Programs.{Program, module_named}
use Rattle.cons_gen.specs.Made.{definition_constraint, definition_slots}
use Rattle.cons_gen_rows.specs.Passes.{Knowledge, signature}
use Rattle.cons_gen_rows.specs.Slots.{slots_from}
use Rattle.sound_laws.specs.Knowledge.{IsHonest, summary_of}

-- ---- definitions

pub record Definition : Type 0 where
  pub parameters : List VarName
  pub body : m.Tree

-- the first of the definitions with this name
abbrev pub definition_named : m.Defs → FunName → Option Definition
definition_named m.no_def f = None
definition_named (m.and_def g k xs t ds) f =
    if same_atom g.name f.name && nat_eq g.arity f.arity then Some (record { parameters = xs; body = t }) else definition_named ds f

abbrev pub definition_in : Option m.Module → FunName → Option Definition
definition_in None f = None
definition_in (Some p) f = definition_named p.defs f

-- what a module of the program defines under a name
abbrev pub definition_of : Program → Atom → FunName → Option Definition
definition_of U home f = definition_in (module_named U home) f

-- ---- one function

-- There is an assignment that satisfies the constraint of a definition, where the slots of the parameters hold these arguments
-- and the slot of the result this value.
abbrev pub CallIsIn : Knowledge → Atom → List VarName → m.Tree → Values → Value → Type 0
CallIsIn P home xs t vs v = (a : Assignment) × ((values_of a (slots_from 0 (length xs)) ≡ vs) × ((a (length xs) ≡ v) × Sat (definition_constraint P home xs t) a))

-- the greatest solution of a definition's constraint, by what a pass knows
abbrev pub solved : Knowledge → Atom → List VarName → m.Tree → State
solved P home xs t = solution (definition_constraint P home xs t) (replicate (definition_slots xs t) any)

-- The solution has a call with these arguments and this value: the parameters have the first n slots, and the result has the
-- next one.
abbrev pub HasCall : ℕ → State → Values → Value → Type 0
HasCall n None vs v = ⊥
HasCall n (Some ts) vs v = HasTypes vs (take n ts) × HasType v (type_at ts n)

-- the types of the parameters and of the result are below those of the signature; Bottom is below every one
abbrev pub IsWithin : ℕ → State → Sig → Type 0
IsWithin n None s = Unit {0}
IsWithin n (Some ts) s = AreBelow (take n ts) s.args × Below (type_at ts n) s.result

-- ---- all functions

-- the signatures of functions, where one is given
abbrev pub Signatures : Type 0
Signatures = Atom → FunName → Option Sig

-- Signatures are closed in a program. To each function belongs a pass that knows the program; of a function whose calls the pass
-- asks something of, it takes the signature that is given here; and the signature of the function itself is above what the
-- pass gives for the function's definition.
pub record IsClosed (U : Program) (S : Signatures) : Type 0 where
  pub pass : Atom → FunName → Knowledge
  pub honest : (home : Atom) (f : FunName) → IsHonest (pass home f) U
  pub takes : (home : Atom) (f : FunName) (other : Atom) (g : FunName) (s : Summary) → (pass home f).own other g ≡ false → summary_of ((pass home f).callee other g) ≡ Some s → S other g ≡ Some (signature (pass home f) s)
  pub above : (home : Atom) (f : FunName) (d : Definition) (s : Sig) → definition_of U home f ≡ Some d → S home f ≡ Some s → IsWithin (length d.parameters) (solved (pass home f) home d.parameters d.body) s

-- the strict and the lenient signature of a summary, where there is one
abbrev pub strict_of : Option Summary → Option Sig
strict_of None = None
strict_of (Some s) = Some s.strict

abbrev pub lenient_of : Option Summary → Option Sig
lenient_of None = None
lenient_of (Some s) = Some s.lenient

-- What is known of all functions is closed: the strict signatures are, and so are the lenient ones.
pub record AreClosed (U : Program) (S : Atom → FunName → Callee) : Type 0 where
  pub strict : IsClosed U (λ home f. strict_of (summary_of (S home f)))
  pub lenient : IsClosed U (λ home f. lenient_of (summary_of (S home f)))
