-- What a numbering of places and items has of rules.
use Rattle.std.specs.Prelude.{◌≡◌, ℕ, List, [], ◌∷◌, ◌++◌, length, Contains, Some, None, slice_get}
use Rattle.type_kinds.specs.declared.atom.Atom.{Atom}
use Rattle.core_ast.specs.declared.syntax.FunName.{FunName}
use Rattle.core_meaning.specs.Programs.{Program}
use Rattle.core_scope.specs.Names.{Distinct}
use Rattle.fun_flow_places.specs.Arities.{arity_of}
use Rattle.fun_flow_places.specs.declared.places.FlowPlace.{FlowPlace}
use Rattle.fun_flow_places.specs.declared.places.FlowPlace.TheVariants.{Anywhere, Part, Returned}
use Rattle.fun_flow_places.specs.declared.places.Item.{Item}
use Rattle.fun_flow_places.specs.declared.places.Item.TheVariants.{Anything, Closure, External}
use Rattle.fun_flow_places.specs.declared.places.FlowRule.{FlowRule}
use Rattle.fun_flow_places.specs.declared.places.FlowRule.TheVariants.{Holds, Flows, Applies}
use Rattle.fun_flow_places.specs.declared.table.ModuleTable.{ModuleTable}
use Rattle.fun_flow_places.specs.declared.table.FoundFunction.{FoundFunction}
use Rattle.fun_flow_places.specs.declared.table.FoundFunction.TheVariants.{BuiltIn, Outside, Hidden, Exported}
use Rattle.fun_flow_places.specs.Naming.{module_names}
use Rattle.fun_flow_places.specs.Tables.{Finds, IsTableOf}
use Rattle.fun_flow_solver.specs.declared.problem.Application.{Application}
use Rattle.fun_flow_solver.specs.declared.problem.Edge.{Edge}
use Rattle.fun_flow_solver.specs.declared.problem.Gives.{Gives}
use Rattle.fun_flow_solver.specs.declared.problem.Gives.TheVariants.{Nothing, Body, Unknown}
use Rattle.fun_flow_solver.specs.declared.problem.Known.{Known}
use Rattle.fun_flow_solver.specs.declared.problem.Pair.{Pair}
use Rattle.fun_flow_numbers.specs.declared.numbering.RuleNumbering.{RuleNumbering}
use Rattle.fun_flow_numbers.specs.steps.Numbers.{KeepsNumbers}

-- anything is anywhere
abbrev pub first_rule : FlowRule
first_rule = Holds Anywhere Anything

-- ---- what is known of items

-- the table finds this, in each program with distinct names whose table it is
abbrev pub Resolves : ModuleTable → Atom → FunName → FoundFunction → Type 0
Resolves table home f found = (U : Program) → Distinct (module_names U) → IsTableOf U table → Finds U home f found

-- the number stands for what the function at a label of a module gives
abbrev pub IsReturned : List FlowPlace → ℕ → ℕ → Gives → Type 0
IsReturned places h label Nothing = ⊥
IsReturned places h label (Body r) = slice_get places r ≡ Some (Returned h label)
IsReturned places h label Unknown = ⊥

-- where the function is found like this, a call of it gives that
abbrev pub GivesFound : List FlowPlace → FoundFunction → Gives → Type 0
GivesFound places BuiltIn g = g ≡ Unknown
GivesFound places Outside g = g ≡ Unknown
GivesFound places Hidden g = g ≡ Nothing
GivesFound places (Exported h None) g = g ≡ Nothing
GivesFound places (Exported h (Some label)) g = IsReturned places h label g

-- an item that is applied to as many arguments as it takes gives this
abbrev pub GivesFor : ModuleTable → List FlowPlace → Item → Gives → Type 0
GivesFor table places Anything g = g ≡ Unknown
GivesFor table places (Closure h label arity) g = IsReturned places h label g
GivesFor table places (External home f) g = (found : FoundFunction) × Resolves table home f found × GivesFound places found g

-- what is known of the item of a number
pub record IsKnown (table : ModuleTable) (places : List FlowPlace) (known_of : List Known) (x : ℕ) (y : Item) : Type 0 where
  pub gives : Gives
  pub known : slice_get known_of x ≡ Some (record { arity = arity_of y; gives = gives })
  pub so : GivesFor table places y gives

-- ---- rules over numbers

-- a pair stands for a rule that a place holds an item
pub record IsStart (places : List FlowPlace) (items : List Item) (s : Pair) (p : FlowPlace) (x : Item) : Type 0 where
  pub place : slice_get places s.place ≡ Some p
  pub item : slice_get items s.item ≡ Some x

-- an edge stands for a rule that what a place holds another one holds
pub record IsFlow (places : List FlowPlace) (e : Edge) (p q : FlowPlace) : Type 0 where
  pub from : slice_get places e.from ≡ Some p
  pub to : slice_get places e.to ≡ Some q

-- an application over numbers stands for that of a rule
pub record IsApplication (places : List FlowPlace) (c : Application) (p : FlowPlace) (count h label : ℕ) : Type 0 where
  pub operator : slice_get places c.operator ≡ Some p
  pub arity : c.arity ≡ count
  pub place : slice_get places c.place ≡ Some (Part h label 0)

-- the rule is among those over numbers
abbrev pub Stands : RuleNumbering → FlowRule → Type 0
Stands n (Holds p x) = (s : Pair) × Contains n.problem.starts.items s × IsStart n.places n.items s p x
Stands n (Flows p q) = (e : Edge) × Contains n.problem.flows.items e × IsFlow n.places e p q
Stands n (Applies p count h label) = (c : Application) × Contains n.problem.applications.items c × IsApplication n.places c p count h label

-- The numbering has exactly these rules, and knows what the items that were met give.
pub record IsNumbering (table : ModuleTable) (rules : List FlowRule) (n : RuleNumbering) : Type 0 where
  -- item 0 is anything
  pub zeroth : slice_get n.items 0 ≡ Some Anything
  pub counted : length n.problem.items.items ≡ length n.items
  pub known : (x : ℕ) (y : Item) → slice_get n.items x ≡ Some y → IsKnown table n.places n.problem.items.items x y
  pub stand : (r : FlowRule) → Contains rules r → Stands n r
  pub starts : (s : Pair) → Contains n.problem.starts.items s → (p : FlowPlace) × (x : Item) × Contains rules (Holds p x) × IsStart n.places n.items s p x
  pub flows : (e : Edge) → Contains n.problem.flows.items e → (p : FlowPlace) × (q : FlowPlace) × Contains rules (Flows p q) × IsFlow n.places e p q
  pub applications : (c : Application) → Contains n.problem.applications.items c
      → (p : FlowPlace) × (count : ℕ) × (h : ℕ) × (label : ℕ) × Contains rules (Applies p count h label) × IsApplication n.places c p count h label

-- ---- steps

-- places may be new; all else is as before
pub record Keeps (old new : RuleNumbering) : Type 0 where
  pub places : KeepsNumbers old.places new.places
  pub items : new.items ≡ old.items
  pub problem : new.problem ≡ old.problem

-- an item is new, with what is known of it
pub record AddsItem (old new : RuleNumbering) (x : Item) (arity : ℕ) (gives : Gives) : Type 0 where
  pub places : new.places ≡ old.places
  pub items : new.items ≡ old.items ++ x ∷ []
  pub known : new.problem.items.items ≡ old.problem.items.items ++ record { arity = arity; gives = gives } ∷ []
  pub starts : new.problem.starts ≡ old.problem.starts
  pub flows : new.problem.flows ≡ old.problem.flows
  pub applications : new.problem.applications ≡ old.problem.applications
