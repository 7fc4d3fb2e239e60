-- What is claimed of what is found in a module: that no run does it.
use Rattle.std.specs.Prelude.{◌≡◌, ◌⊎◌, ℕ, Contains, Some}
use Rattle.type_kinds.specs.declared.atom.Atom.{Atom}
use Rattle.core_ast.specs.Model as m
use Rattle.core_ast.specs.declared.syntax.FunName.{FunName}
use Rattle.type_lattice_model.specs.Values.{Value, Values, closure, no_variable}
use Rattle.core_meaning.specs.Meaning.{Event, chosen, entered, gave, back, Trace, Among}
use Rattle.core_meaning.specs.Programs.{Program, found, top_function}
use Rattle.core_meaning.specs.Runs.{Run}
use Rattle.warn_list.specs.declared.finding.CallText.{CallText}
use Rattle.warn_list.specs.declared.finding.FindingKind.{FindingKind}
use Rattle.warn_list.specs.declared.finding.FindingKind.TheVariants.{NoReturn, DeadCall, DeadClause, NeverCalled}
use Rattle.module_flow.specs.Flow.{Callees, findings}
use Rattle.sound_laws.specs.Knowledge.{Allows}
use Rattle.sound_laws.specs.Summaries.{AreClosed}

-- What stands under each module and name is what a call by these names finds in the program, and the summaries are closed.
pub record AreKnownIn (U : Program) (K : Callees) : Type 0 where
  pub honest : (home : Atom) (f : FunName) → Allows (found U home f) (K home f)
  pub closed : AreClosed U K

-- the flow of a module, by what is known, finds this at a label
abbrev pub IsFoundAt : Callees → m.Module → FindingKind → (label : ℕ) → Type 0
IsFoundAt K x kind l = (line : ℕ) × Contains (findings K x) (record { label = l; kind = kind; line = line })

-- no run of the program, of any stage and with any fuel, has this event
abbrev pub Never : Program → Event → Type 0
Never U e = (stage : ℕ) (tr : Trace) → Run U stage tr → Among e tr → ⊥

-- the closure of a function that a module defines at a label: it has captured nothing
abbrev pub defined_at : m.Module → FunName → (label : ℕ) → Value
defined_at x f l = closure x.name l f.arity no_variable

-- Nothing that the flow of a module finds, by what is known, is false of a run of the program: a function that is found without
-- a local return never gives a value, a call or an application that is found never to return never comes back with one, a clause
-- that is found never to match is never chosen, and a function that is found never to be called is never entered. The function of
-- such a finding is what the module defines under its name, at the label of the finding.
pub record NothingFalse (U : Program) (K : Callees) (x : m.Module) : Type 0 where
  pub defined : (f : FunName) (l : ℕ) → IsFoundAt K x (NoReturn f) l ⊎ IsFoundAt K x (NeverCalled f) l → top_function U x.name f ≡ Some (defined_at x f l)
  pub no_return : (f : FunName) (l : ℕ) → IsFoundAt K x (NoReturn f) l → (vs : Values) (v : Value) → Never U (gave (defined_at x f l) vs v)
  pub dead_call : (text : CallText) (l : ℕ) → IsFoundAt K x (DeadCall text) l → (v : Value) → Never U (back x.name l v)
  pub dead_clause : (l : ℕ) → IsFoundAt K x DeadClause l → Never U (chosen x.name l)
  pub never_called : (f : FunName) (l : ℕ) → IsFoundAt K x (NeverCalled f) l → (vs : Values) → Never U (entered (defined_at x f l) vs)
