-- What is known of the functions of modules over what stands of functions outside of them, as a relation by names: it says nothing of
-- the order of modules, and a part of the modules keeps numbers and components.
use Rattle.std.specs.Prelude.{◌≡◌, ◌≢◌, ◌⊎◌, ℕ, ◌≤◌, Bool, true, false, List, [], Contains}
use Rattle.std.specs.List.{list_any}
use Rattle.type_kinds.specs.declared.atom.Atom.{Atom}
use Rattle.core_ast.specs.declared.syntax.FunName.{FunName}
use Rattle.core_ast.specs.Model as m
use Rattle.core_scope.specs.Asks.{erlang}
use Rattle.call_graph.specs.Targets.CallTarget.{defined, inner, remote}
use Rattle.call_graph.specs.Targets.{CallTarget, targets}
use Rattle.cons_tree.specs.Callees.{same_home}
use Rattle.cons_tree.specs.declared.parts.Callee.TheVariants.{Undefined}
use Rattle.comp_rounds.specs.Rounds.{Callees, Function, is_member, summaries}
use Rattle.sound_laws_rounds.specs.Whole.{AreKnown}
use Rattle.analysis_summaries.specs.Functions.{all_functions}
use Rattle.analysis_summaries.specs.Known.{module_names}
use Rattle.sound_laws_whole.specs.Once.{NamedOnce}

-- whether one of the modules has this name
abbrev pub is_home : List m.Module → Atom → Bool
is_home xs h = list_any (same_home h) (module_names xs)

-- A target in the body of f is the function g: a name that is applied is a function of f's own module, and a call reaches what a
-- module exports, and in the module `erlang` nothing.
abbrev pub Finds : (f : Function) → CallTarget → (g : Function) → Type 0
Finds f (defined name count) g = (g.home ≡ f.home) × (g.name ≡ name)
Finds f (inner name count) g = ⊥
Finds f (remote home name) g = (g.home ≡ home) × (home ≢ erlang) × (g.exported ≡ true) × (g.name ≡ name)

-- one of these functions calls another
pub record Leads (fs : List Function) (f g : Function) : Type 0 where
  pub calling : Contains fs f
  pub called : Contains fs g
  pub target : CallTarget
  pub stands : Contains (targets [] f.body) target
  pub goes : Finds f target g

-- f reaches g: by one call, or by a call of a function that reaches g
pub data Reaches (fs : List Function) : Function → Function → Type 0 where
  by_call : (f g : Function) → Leads fs f g → Reaches fs f g
  by_calls : (f g h : Function) → Leads fs f g → Reaches fs g h → Reaches fs f h

-- two functions are together where they are equal or each reaches the other
abbrev pub Together : List Function → (f g : Function) → Type 0
Together fs f g = (f ≡ g) ⊎ (Reaches fs f g × Reaches fs g f)

-- Each function has a number, and the functions of a number are a component: they are together, and call none of a higher number.
-- Each component is known by the summaries that its rounds give by all that is known. A name of one of the modules that none of their
-- functions has is undefined, and of others it is known what stands.
pub record IsKnownOver (outside : Callees) (xs : List m.Module) (known : Callees) : Type 0 where
  pub number : Atom → FunName → ℕ
  pub component : ℕ → List Function
  pub out : (h : Atom) (f : FunName) → is_home xs h ≡ false → known h f ≡ outside h f
  pub none : (h : Atom) (f : FunName) → is_home xs h ≡ true → is_member (all_functions xs) h f ≡ false → known h f ≡ Undefined
  pub within : (n : ℕ) (g : Function) → Contains (component n) g → Contains (all_functions xs) g
  pub numbered : (n : ℕ) (g : Function) → Contains (component n) g → number g.home g.name ≡ n
  pub all : (g : Function) → Contains (all_functions xs) g → Contains (component (number g.home g.name)) g
  pub once : (n : ℕ) → NamedOnce (component n)
  pub down : (f g : Function) (t : CallTarget) → Contains (all_functions xs) f → Contains (all_functions xs) g → Contains (targets [] f.body) t → Finds f t g
      → number g.home g.name ≤ number f.home f.name
  pub together : (f g : Function) → Contains (all_functions xs) f → Contains (all_functions xs) g → number f.home f.name ≡ number g.home g.name → Together (all_functions xs) f g
  pub known_so : (n : ℕ) → AreKnown known (component n) (summaries known (component n))
