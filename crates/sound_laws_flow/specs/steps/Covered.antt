-- Which values, and which events, the states of all modules allow.
use Rattle.std.specs.Prelude.{◌≡◌, ℕ, true, [], List, Option, Some, None, replicate}
use Rattle.type_kinds.specs.declared.atom.Atom.{Atom}
use Rattle.core_ast.specs.declared.syntax.FunName.{FunName}
use Rattle.core_ast.specs.Model as m
use Rattle.core_scope.specs.Asks.{one_value}
use Rattle.core_scope.specs.Functions.{LabelledFunction}
use Rattle.core_scope.specs.Names.{defined_names}
use Rattle.type_lattice_model.specs.Values.{Value, closure, Values, Env, no_variable, Local}
use Rattle.type_lattice.specs.Types.{Type4, HasTypes, Below, any}
use Rattle.cons_tree.specs.declared.parts.Callee.{Callee}
use Rattle.core_meaning.specs.Programs.{Program, module_named, function_at, AreAtLabels, locals_of, is_exported, top_function}
use Rattle.core_meaning.specs.Meaning.{Event, made, chosen, applied, entered, gave, back}
use Rattle.core_meaning_values.specs.Covered as values
use Rattle.module_flow_calls.specs.Functions.{defined_labels}
use Rattle.module_flow_state.specs.Scopes.{WalkScope, outermost, with_variables, with_functions}
use Rattle.module_flow_state.specs.States.{FlowState, parameters_of, result_of}
use Rattle.module_flow_calls.specs.TypeLists.{first}
use Rattle.module_flow_walk.specs.Walk.{walk}
use Rattle.module_flow_state.specs.World.{World}
use Rattle.sound_laws_flow.specs.steps.Fine.{Fine, FineFunctions, IsOpen}
use Rattle.sound_laws_flow.specs.steps.Seen.{IsSeen, NamesOnce}

abbrev pub defs_in : Option m.Module → m.Defs
defs_in None = m.no_def
defs_in (Some p) = p.defs

-- what the walks of a module know
abbrev pub world_of : Program → (Atom → FunName → Callee) → (Atom → FlowState) → Atom → World
world_of U callee states home =
    record {
      callee = callee;
      home = home;
      names = defined_names (defs_in (module_named U home));
      labels = defined_labels (defs_in (module_named U home));
      state = states home;
    }

-- the states of the modules of a program, and what is reported in each
module _ (U : Program) (callee : Atom → FunName → Callee) (states : Atom → FlowState) (DeadClause DeadCall : Atom → ℕ → Type 0) where
  -- a function at this label, entered with parameters of these types where this is seen around it, is borne out
  abbrev pub IsBorneOut : Atom → (label : ℕ) → WalkScope → List Type4 → Type 0
  IsBorneOut home l sc ps = (c : LabelledFunction) → function_at U home l ≡ Some c → Fine (world_of U callee states home) (DeadClause home) (DeadCall home) (with_variables sc c.parameters ps) one_value c.body

  -- and the state has the type of its result
  abbrev pub HasResult : Atom → (label : ℕ) → WalkScope → List Type4 → Type 0
  HasResult home l sc ps = (c : LabelledFunction) (ts : List Type4) → function_at U home l ≡ Some c → walk (world_of U callee states home) (with_variables sc c.parameters ps) one_value c.body ≡ Some ts
      → Below (first ts) (result_of (states home) l)

  -- Of a closure: it may be entered with anything, since what it captured has the types that are seen at some position, and the walk
  -- of its body there is borne out. Where it is a function of its module, the state says so.
  abbrev pub OfClosure : Atom → (label arity : ℕ) → Env → Type 0
  OfClosure home l n env = ((sc : WalkScope) × (IsSeen home sc env × IsBorneOut home l sc []))
      × ((f : FunName) → top_function U home f ≡ Some (closure home l n env) → IsOpen (world_of U callee states home) (DeadClause home) (DeadCall home) l n)

  -- Of a frame of an environment: it is a `letrec` of the module.
  abbrev pub OfFrame : Atom → List Local → Env → Type 0
  OfFrame home ls env = (ds : m.Defs) × ((locals_of ds ≡ ls) × (AreAtLabels U home ds
      × ((sc : WalkScope) × (IsSeen home sc env × (NamesOnce ds × FineFunctions (world_of U callee states home) (DeadClause home) (DeadCall home) (with_functions sc ds) ds)))))

  -- each closure that the value holds is so, and each that it has captured
  abbrev pub Covered : Value → Type 0
  Covered v = values.Covered OfClosure OfFrame v

  abbrev pub AreCovered : Values → Type 0
  AreCovered vs = values.AreCovered OfClosure OfFrame vs

  abbrev pub CoveredEnv : Atom → Env → Type 0
  CoveredEnv home env = values.CoveredEnv OfClosure OfFrame home env

  -- What the states allow of one event: closures that are made are covered, a function of a module is entered only with values of
  -- the state's parameters, and nothing that is reported happens.
  abbrev pub IsAllowed : Event → Type 0
  IsAllowed (made c) = Covered c
  IsAllowed (chosen home l) = DeadClause home l → ⊥
  IsAllowed (applied home l c) = Unit {0}
  IsAllowed (entered c vs) = (home : Atom) (f : FunName) (label arity : ℕ) (env : Env) → c ≡ closure home label arity env → top_function U home f ≡ Some c
      → (ps : List Type4) × ((parameters_of (states home) label ≡ Some ps) × HasTypes vs ps)
  IsAllowed (gave c vs v) = Unit {0}
  IsAllowed (back home l v) = DeadCall home l → ⊥

  -- The state of a module takes in what walks of its functions give, and begins with what anyone may enter.
  pub record IsSettled (home : Atom) : Type 0 where
    pub names : NamesOnce (defs_in (module_named U home))
    pub bodies : (f : FunName) (label arity : ℕ) (ps : List Type4) → top_function U home f ≡ Some (closure home label arity no_variable) → parameters_of (states home) label ≡ Some ps
        → IsBorneOut home label outermost ps × HasResult home label outermost ps
    pub exports : (f : FunName) (label arity : ℕ) → is_exported U home f ≡ true → top_function U home f ≡ Some (closure home label arity no_variable) → parameters_of (states home) label ≡ Some (replicate arity any)
