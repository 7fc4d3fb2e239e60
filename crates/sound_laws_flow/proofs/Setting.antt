-- What the invariant of runs is about: a program, what is known of its functions, the states of its modules, and what they owe.
use Rattle.std.proofs.Common.{◌≡◌, ℕ, true, List, [], ◌++◌}
use Rattle.type_kinds.specs.declared.atom.Atom.{Atom}
use Rattle.core_ast.specs.Model as m
use Rattle.core_ast.specs.declared.syntax.FunName.{FunName}
use Rattle.core_scope.specs.declared.ask.Ask.{Ask}
use Rattle.type_lattice_model.specs.Values.{Value, Values, Env, count}
use Rattle.bif_types.specs.Closures.{HoldsClosure, HoldClosure}
use Rattle.bif_types.specs.Results.{BifMay, is_exact}
use Rattle.type_lattice.specs.Types.{Type4}
use Rattle.cons_tree.specs.Facts.{TypeFacts}
use Rattle.cons_tree.specs.declared.parts.Callee.{Callee}
use Rattle.core_meaning.specs.Meaning.{Outcome, Event, Trace}
use Rattle.core_meaning.specs.Programs.{Program}
use Rattle.module_flow_calls.specs.TypeLists.{Given}
use Rattle.module_flow_state.specs.Scopes.{WalkScope}
use Rattle.module_flow_state.specs.States.{FlowState}
use Rattle.module_flow_walk.specs.Walk.{walk}
use Rattle.module_flow_state.specs.World.{World, strict, lenient}
use Rattle.sound_laws.specs.Facts.{Facts, SolutionFacts}
use Rattle.sound_laws.specs.Knowledge.{IsHonest, EachEvent, AllBearOut}
use Rattle.sound_laws.proofs.Parts.{front_bears, back_bears}
use Rattle.sound_laws.proofs.Summaries.{LabelsStand}
use Rattle.sound_laws.proofs.Traces.{both_traces}
use Rattle.sound_laws_flow.specs.steps.Covered.{world_of, Covered, AreCovered, CoveredEnv, IsAllowed, IsSettled, IsBorneOut, HasResult}
use Rattle.sound_laws_flow.specs.steps.Fine.{Fine, FineAll, FineSteps, FineClauses}
use Rattle.sound_laws_flow.specs.steps.Seen.{IsSeen}
use Rattle.sound_laws_flow.proofs.Results.{Res}

pub record Setting : Type 1 where
  pub facts : Facts
  pub types : TypeFacts
  pub solutions : SolutionFacts
  pub program : Program
  pub callee : Atom → FunName → Callee
  pub states : Atom → FlowState
  pub dead_clause : Atom → ℕ → Type 0
  pub dead_call : Atom → ℕ → Type 0
  pub from : Value → Type 0
  pub stand : LabelsStand program
  pub settled : (home : Atom) → IsSettled program callee states dead_clause dead_call home
  pub held : (f : Atom) (vs : Values) (v c : Value) → is_exact f (count vs) ≡ true → BifMay f vs v → HoldsClosure c v → HoldClosure c vs
  pub world : (v : Value) → from v → Covered program callee states dead_clause dead_call v
  pub honest_strict : IsHonest (strict (world_of program callee states [])) program
  pub honest_lenient : IsHonest (lenient (world_of program callee states [])) program

module _ (Z : Setting) where
  abbrev pub V : Atom → World
  V home = world_of Z.program Z.callee Z.states home

  abbrev pub IsCov : Value → Type 0
  IsCov v = Covered Z.program Z.callee Z.states Z.dead_clause Z.dead_call v

  abbrev pub AreCov : Values → Type 0
  AreCov vs = AreCovered Z.program Z.callee Z.states Z.dead_clause Z.dead_call vs

  abbrev pub IsCovEnv : Atom → Env → Type 0
  IsCovEnv home env = CoveredEnv Z.program Z.callee Z.states Z.dead_clause Z.dead_call home env

  abbrev pub Ok : Event → Type 0
  Ok x = IsAllowed Z.program Z.callee Z.states Z.dead_clause Z.dead_call x

  abbrev pub AllOk : Trace → Type 0
  AllOk tr = EachEvent Ok tr

  -- what both passes know is borne out
  abbrev pub IsKnown : Trace → Type 0
  IsKnown tr = AllBearOut (strict (V [])) Z.program tr × AllBearOut (lenient (V [])) Z.program tr

  abbrev pub Result : Ask → Given → Outcome → Type 0
  Result k g o = Res Z.types Z.program Z.callee Z.states Z.dead_clause Z.dead_call k g o

  abbrev pub FineAt : Atom → WalkScope → Ask → m.Tree → Type 0
  FineAt home sc k t = Fine (V home) (Z.dead_clause home) (Z.dead_call home) sc k t

  abbrev pub FineTrees : Atom → WalkScope → m.Trees → Type 0
  FineTrees home sc ts = FineAll (V home) (Z.dead_clause home) (Z.dead_call home) sc ts

  abbrev pub FineStepsAt : Atom → WalkScope → m.Steps → Type 0
  FineStepsAt home sc ss = FineSteps (V home) (Z.dead_clause home) (Z.dead_call home) sc ss

  abbrev pub FineClausesAt : Atom → WalkScope → Ask → List ℕ → m.Clauses → Type 0
  FineClausesAt home sc k qs cs = FineClauses (V home) (Z.dead_clause home) (Z.dead_call home) sc k qs cs

  abbrev pub Borne : Atom → ℕ → WalkScope → List Type4 → Type 0
  Borne home l sc ps = IsBorneOut Z.program Z.callee Z.states Z.dead_clause Z.dead_call home l sc ps

  abbrev pub Results : Atom → ℕ → WalkScope → List Type4 → Type 0
  Results home l sc ps = HasResult Z.program Z.callee Z.states Z.dead_clause Z.dead_call home l sc ps

  -- In a covered environment that has the types that are seen, where the walk is borne out, each event is allowed, and the outcome
  -- is in what the walk gives.
  abbrev pub Invariant : (Atom → Env → m.Tree → Outcome → Trace → Type 0) → Type 0
  Invariant E = (home : Atom) (env : Env) (sc : WalkScope) (t : m.Tree) (o : Outcome) (tr : Trace) (k : Ask) → E home env t o tr → IsKnown tr → IsCovEnv home env → IsSeen home sc env → FineAt home sc k t
      → AllOk tr × Result k (walk (V home) sc k t) o

  pub known_front : (tr more : Trace) → IsKnown (tr ++ more) → IsKnown tr
  known_front tr more h = (front_bears (strict (V [])) Z.program tr more h.0, front_bears (lenient (V [])) Z.program tr more h.1)

  pub known_back : (tr more : Trace) → IsKnown (tr ++ more) → IsKnown more
  known_back tr more h = (back_bears (strict (V [])) Z.program tr more h.0, back_bears (lenient (V [])) Z.program tr more h.1)

  pub both_ok : (tr more : Trace) → AllOk tr → AllOk more → AllOk (tr ++ more)
  both_ok tr more h g = both_traces Ok tr more h g
