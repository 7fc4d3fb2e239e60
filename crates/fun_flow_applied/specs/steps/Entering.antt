-- How functions are listed, by what is known of the texts of modules.
use Rattle.std.specs.Prelude.{◌≡◌, ◌↔◌, ℕ, Bool, true, false, List, Contains, Option, Some, None, if◌then◌else◌, nat_eq, slice_get, slice_index}
use Rattle.std.specs.List.Sorted.{IsStrictlySortedBy}
use Rattle.core_ast.specs.declared.syntax.FunName.{FunName}
use Rattle.fun_flow_answers.specs.declared.target.Target.{Target}
use Rattle.fun_flow_answers.specs.declared.target.Target.TheVariants.{Fun, Name}
use Rattle.fun_flow_answers.specs.declared.target.ListedTargets.{ListedTargets}
use Rattle.fun_flow_answers.specs.declared.target.ListedTargets.TheVariants as l
use Rattle.fun_flow_answers.specs.Order.{target_cmp}
use Rattle.fun_flow_places.specs.Arities.{arity_of}
use Rattle.fun_flow_places.specs.declared.places.FlowPlace.{FlowPlace}
use Rattle.fun_flow_places.specs.declared.places.Item.{Item}
use Rattle.fun_flow_places.specs.declared.places.Item.TheVariants.{Anything, Closure, External}
use Rattle.fun_flow_numbers.specs.Held.{HeldNumbers, HoldsNumber, item_at}
use Rattle.fun_flow_applied.specs.declared.module_text.ModuleText.{ModuleText}
use Rattle.fun_flow_applied.specs.steps.Texts.{name_at}

-- a definition by its name, and every other function as a fun
abbrev pub function_in : (position label : ℕ) → ModuleText → Option FunName → Target
function_in i l t (Some f) = Name t.home.now f
function_in i l t None = Fun i l (slice_index t.lines l)

abbrev pub closure_in : (position label : ℕ) → Option ModuleText → Option Target
closure_in i l None = None
closure_in i l (Some t) = Some (function_in i l t (name_at t.definitions l))

abbrev pub target_in : List ModuleText → Item → Option Target
target_in ts Anything = None
target_in ts (Closure home l n) = closure_in home l (slice_get ts home)
target_in ts (External home f) = Some (Name home f)

-- how a function is listed for an application to n arguments
abbrev pub listed_in : List ModuleText → (n : ℕ) → Item → Option Target
listed_in ts n x = if nat_eq (arity_of x) n then target_in ts x else None

abbrev pub item_in : List ModuleText → (n : ℕ) → Option Item → Option Target
item_in ts n None = None
item_in ts n (Some y) = listed_in ts n y

abbrev pub is_anything : Item → Bool
is_anything Anything = true
is_anything (Closure home l n) = false
is_anything (External home f) = false

abbrev pub anything_in : Option Item → Bool
anything_in None = false
anything_in (Some y) = is_anything y

-- One of the functions that a place holds is listed as this.
abbrev pub IsListedAt : List ModuleText → HeldNumbers → FlowPlace → (n : ℕ) → Target → Type 0
IsListedAt ts held p n t = (x : ℕ) × (y : Item) × HoldsNumber held p x × (item_at held x ≡ Some y) × (listed_in ts n y ≡ Some t)

abbrev pub HoldsAnything : HeldNumbers → FlowPlace → Type 0
HoldsAnything held p = (x : ℕ) × HoldsNumber held p x × (item_at held x ≡ Some Anything)

-- What an application to n arguments may enter whose operator stands at a place: anything where the place holds it, or else the
-- functions that it holds.
pub data AreEntered (ts : List ModuleText) (held : HeldNumbers) (p : FlowPlace) (n : ℕ) : ListedTargets → Type 0 where
  any_function : HoldsAnything held p → AreEntered ts held p n l.Anything
  only_these : (us : List Target) → (HoldsAnything held p → ⊥) → IsStrictlySortedBy target_cmp us → ((t : Target) → Contains us t ↔ IsListedAt ts held p n t) → AreEntered ts held p n (l.Only us)
