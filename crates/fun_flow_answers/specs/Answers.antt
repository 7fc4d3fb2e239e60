-- The list of the applications of values of a program, with what each may enter.
use Rattle.std.specs.Prelude.{◌≡◌, ◌⊎◌, ◌↔◌, ℕ, List, Contains, Some, slice_get}
use Rattle.std.specs.List.Sorted.{IsStrictlySortedBy}
use Rattle.type_kinds.specs.declared.atom.Atom.{Atom}
use Rattle.core_ast.specs.Model as m
use Rattle.core_meaning.specs.Programs.{Program}
use Rattle.fun_flow_sets.specs.Items.{Item, anything, closure_at, external_function, Place, applies}
use Rattle.fun_flow_sets.specs.Rules.{IsRule}
use Rattle.fun_flow_sets.specs.Sets.{Holds}
use Rattle.fun_flow_answers.specs.declared.target.AppliedCall.{AppliedCall}
use Rattle.fun_flow_answers.specs.declared.target.Target.{Target}
use Rattle.fun_flow_answers.specs.declared.target.ListedTargets.{ListedTargets}
use Rattle.fun_flow_answers.specs.declared.target.ListedTargets.TheVariants.{Anything, Only}
use Rattle.fun_flow_answers.specs.Listed.{arity_of, line_at, target_of}
use Rattle.fun_flow_answers.specs.Order.{call_cmp, target_cmp}

-- One of the functions that a set has, and that takes so many arguments, is listed as this.
abbrev pub IsListed : Program → (Item → Type 0) → (n : ℕ) → Target → Type 0
IsListed U Has n t = (x : Item) × Has x × (arity_of x ≡ n) × (target_of U x ≡ Some t)

-- What an application to n arguments may enter, where its operator's set has these items: anything, or the functions of the set with as
-- many parameters, each once, in ascending order.
pub data AreTargets (U : Program) (Has : Item → Type 0) (n : ℕ) : ListedTargets → Type 0 where
  any_function : Has anything → AreTargets U Has n Anything
  only_these : (ts : List Target) → (Has anything → ⊥) → IsStrictlySortedBy target_cmp ts → ((t : Target) → Contains ts t ↔ IsListed U Has n t) → AreTargets U Has n (Only ts)

-- The text of the module at this position has an application of a value, and this is said of it.
pub record IsCall (U : Program) (c : AppliedCall) : Type 0 where
  pub home : m.Module
  pub at : slice_get U c.«module» ≡ Some home
  pub operator : Place
  pub stands : IsRule U (applies operator c.arity home.name c.label)
  pub line : c.line ≡ line_at home c.label
  pub targets : AreTargets U (Holds U operator) c.arity c.targets

-- The applications of values of a program, each once, by the positions of their modules and by their labels.
pub record AreCalls (U : Program) (cs : List AppliedCall) : Type 0 where
  pub ascending : IsStrictlySortedBy call_cmp cs
  pub each : (c : AppliedCall) → Contains cs c → IsCall U c
  pub all : (i : ℕ) (x : m.Module) (p : Place) (n l : ℕ) → slice_get U i ≡ Some x → IsRule U (applies p n x.name l) → (c : AppliedCall) × Contains cs c × (c.«module» ≡ i) × (c.label ≡ l)

-- ---- what the list says of a function

-- The function is among those that the application may enter.
abbrev pub IsEntered : Program → AppliedCall → Item → Type 0
IsEntered U c x = (ts : List Target) × (t : Target) × (c.targets ≡ Only ts) × (target_of U x ≡ Some t) × Contains ts t

-- The application may enter anything, or the function is among those that it may enter; one with another number of parameters isn't
-- entered, and needn't be.
abbrev pub Says : Program → AppliedCall → Item → Type 0
Says U c anything = c.targets ≡ Anything
Says U c (closure_at home l n) = (c.targets ≡ Anything) ⊎ (n ≡ c.arity → IsEntered U c (closure_at home l n))
Says U c (external_function home name n) = (c.targets ≡ Anything) ⊎ (n ≡ c.arity → IsEntered U c (external_function home name n))

-- The list has the application at this label of a module, and says this of the function.
pub record IsSaid (U : Program) (cs : List AppliedCall) (home : Atom) (label : ℕ) (x : Item) : Type 0 where
  pub call : AppliedCall
  pub among : Contains cs call
  pub module_so : m.Module
  pub at : slice_get U call.«module» ≡ Some module_so
  pub named : module_so.name ≡ home
  pub labelled : call.label ≡ label
  pub says : Says U call x
