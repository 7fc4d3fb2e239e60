-- When the walk of an expression is borne out: the state takes in all that the walk gives from here on, and nothing that may
-- happen here is among what is reported.
use Rattle.std.specs.Prelude.{◌≡◌, ℕ, false, List, [], ◌∷◌, Option, Some, None, length, replicate}
use Rattle.core_ast.specs.declared.syntax.FunName.{FunName}
use Rattle.core_ast.specs.Model as m
use Rattle.core_ast.specs.Named.{local_name}
use Rattle.core_scope.specs.declared.ask.Ask.{Ask}
use Rattle.core_scope.specs.declared.ask.Ask.TheVariants.{AnyNumber, Exactly}
use Rattle.core_scope.specs.Asks.{one_value, width}
use Rattle.type_lattice.specs.Types.{Type4, Below, AreBelow, any, is_none, meet}
use Rattle.cons_tree.specs.Environments.{Types}
use Rattle.cons_tree.specs.Named.{naturals}
use Rattle.cons_gen_rows.specs.Counts.{call_names}
use Rattle.cons_gen_rows.specs.Words.{function_type}
use Rattle.module_flow_calls.specs.declared.functions.ResolvedName.{ResolvedName}
use Rattle.module_flow_calls.specs.declared.functions.ResolvedName.TheVariants.{Inner, Top, Nothing}
use Rattle.module_flow_state.specs.Applications.{resolved_name}
use Rattle.module_flow_calls.specs.Calls.{called, may_return}
use Rattle.module_flow_walk.specs.Clauses.{patterns_solved, head_solved, inside}
use Rattle.module_flow_state.specs.Scopes.{WalkScope, with_variables, with_functions}
use Rattle.module_flow_state.specs.States.{parameters_of, result_of}
use Rattle.module_flow_calls.specs.TypeLists.{first}
use Rattle.module_flow_walk.specs.Walk.{matched_slots, seen_by_clauses, seen_by_messages, see_steps, walk, walk_all}
use Rattle.module_flow_state.specs.World.{World, lenient}
use Rattle.sound_laws_flow.specs.steps.Seen.{NamesOnce}

-- the one where there is a name, and the other where there is none
abbrev pub ByName : {A : Type 0} → Option A → (A → Type 0) → Type 0 → Type 0
ByName None G H = H
ByName (Some x) G H = G x

-- W: what the walk knows; the labels of the clauses and of the calls that are reported
module _ (W : World) (DeadClause DeadCall : ℕ → Type 0) where
  -- a function that may be entered with anything, and one that is entered with at least these types
  abbrev pub IsOpen : (label arity : ℕ) → Type 0
  IsOpen l n = parameters_of W.state l ≡ Some (replicate n any)

  abbrev pub IsEntered : (label : ℕ) → List Type4 → Type 0
  IsEntered l ts = (ps : List Type4) × ((parameters_of W.state l ≡ Some ps) × AreBelow ts ps)

  -- a name that stands as a value
  abbrev pub FineName : ResolvedName → FunName → Type 0
  FineName (Inner l) f = IsOpen l f.arity
  FineName (Top l) f = IsOpen l f.arity
  FineName Nothing f = Unit {0}

  -- the application of a name with as many arguments as it takes, at this label
  abbrev pub FineApplied : ResolvedName → FunName → (label : ℕ) → List Type4 → Type 0
  FineApplied (Inner l) f label ts = IsEntered l ts × (DeadCall label → ⊥)
  FineApplied (Top l) f label ts = IsEntered l ts × ((us : List Type4) → may_return (W.callee W.home f) ts ≡ Some us → DeadCall label → ⊥)
  FineApplied Nothing f label ts = Unit {0}

  abbrev mutual
    pub Fine : WalkScope → Ask → m.Tree → Type 0
    Fine sc k (m.variable i x) = Unit {0}
    Fine sc k (m.local i f) = FineName (resolved_name W sc f) f
    Fine sc k (m.external i x f) = Unit {0}
    Fine sc k (m.literal i l) = Unit {0}
    Fine sc k (m.function i xs t) = Fine (with_variables sc xs []) one_value t
    Fine sc k (m.listed i ts t) = FineAll sc ts × Fine sc one_value t
    Fine sc k (m.tuple i ts) = FineAll sc ts
    Fine sc k (m.new_map i ps) = FinePairs sc ps
    Fine sc k (m.updated_map i ps t) = FinePairs sc ps × Fine sc one_value t
    Fine sc k (m.binary i ss) = FineSegments sc ss
    Fine sc k (m.values i ts) = FineAll sc ts
    Fine sc k (m.chain i ss t) = FineSteps sc ss × ((inner : WalkScope) → see_steps W sc ss ≡ Some inner → Fine inner k t)
    Fine sc k (m.case i t cs) = Fine sc (Exactly (width cs)) t × ((ts : List Type4) → walk W sc (Exactly (width cs)) t ≡ Some ts → FineClauses (seen_by_clauses sc cs ts) k (matched_slots sc t cs) cs)
    Fine sc k (m.letrec i ds t) = NamesOnce ds × (FineFunctions (with_functions sc ds) ds × Fine (with_functions sc ds) k t)
    Fine sc k (m.apply i t ts) =
        ByName (local_name t)
        (λ f. FineAll sc ts × ((us : List Type4) → walk_all W sc ts ≡ Some us → f.arity ≡ length us → FineApplied (resolved_name W sc f) f i.label us))
        (Fine sc one_value t × (FineAll sc ts × ((os us : List Type4) → walk W sc one_value t ≡ Some os → walk_all W sc ts ≡ Some us → is_none (meet (first os) (function_type (length us))) ≡ false → DeadCall i.label
        → ⊥)))
    Fine sc k (m.call i t u ts) =
        ByName (call_names t u)
        (λ names. FineAll sc ts × ((us ws : List Type4) → walk_all W sc ts ≡ Some us → called (lenient W) names.0 names.1 us ≡ Some ws → DeadCall i.label → ⊥))
        (Fine sc one_value t × (Fine sc one_value u × (FineAll sc ts × (DeadCall i.label → ⊥))))
    Fine sc k (m.primop i x ts) = FineAll sc ts
    Fine sc k (m.try i t xs u ys w) = Fine sc (Exactly (length xs)) t × (((ts : List Type4) → walk W sc (Exactly (length xs)) t ≡ Some ts → Fine (with_variables sc xs ts) k u) × Fine (with_variables sc ys []) k w)
    Fine sc k (m.receive i cs t u) = Fine sc one_value t × ((limit : List Type4) → walk W sc one_value t ≡ Some limit
        → FineClauses (seen_by_messages sc) k (length sc.types ∷ []) cs × (is_none (meet (first limit) naturals) ≡ false → Fine sc k u))
    Fine sc k (m.catch i t) = Fine sc one_value t

    pub FineAll : WalkScope → m.Trees → Type 0
    FineAll sc m.no_tree = Unit {0}
    FineAll sc (m.and_tree t ts) = Fine sc one_value t × FineAll sc ts

    pub FinePairs : WalkScope → m.Pairs → Type 0
    FinePairs sc m.no_pair = Unit {0}
    FinePairs sc (m.and_pair exact t u ps) = Fine sc one_value t × (Fine sc one_value u × FinePairs sc ps)

    pub FineSegments : WalkScope → m.Segments → Type 0
    FineSegments sc m.no_segment = Unit {0}
    FineSegments sc (m.and_segment t ts ss) = Fine sc one_value t × (FineAll sc ts × FineSegments sc ss)

    pub FineSteps : WalkScope → m.Steps → Type 0
    FineSteps sc m.no_step = Unit {0}
    FineSteps sc (m.and_let i xs u ss) = Fine sc (Exactly (length xs)) u × ((us : List Type4) → walk W sc (Exactly (length xs)) u ≡ Some us → FineSteps (with_variables sc xs us) ss)
    FineSteps sc (m.and_do i u ss) = Fine sc AnyNumber u × ((us : List Type4) → walk W sc AnyNumber u ≡ Some us → FineSteps sc ss)

    pub FineClauses : WalkScope → Ask → List ℕ → m.Clauses → Type 0
    FineClauses sc k qs m.no_clause = Unit {0}
    FineClauses sc k qs (m.and_clause i ps g t cs) =
        ((solved : Types) → patterns_solved sc qs ps g ≡ Some solved → Fine (inside sc ps solved) one_value g)
        × (((solved : Types) → head_solved W sc qs ps g ≡ Some solved → (DeadClause i.label → ⊥) × Fine (inside sc ps solved) k t)
        × FineClauses sc k qs cs)

    -- each function that is entered, walked where it is defined with the parameters of the state; and the state has its result
    pub FineFunctions : WalkScope → m.Defs → Type 0
    FineFunctions sc m.no_def = Unit {0}
    FineFunctions sc (m.and_def f i xs t ds) = ((ps : List Type4) → parameters_of W.state i.label ≡ Some ps
        → Fine (with_variables sc xs ps) one_value t × ((ts : List Type4) → walk W (with_variables sc xs ps) one_value t ≡ Some ts → Below (first ts) (result_of W.state i.label))) × FineFunctions sc ds
