-- When names are fine: those that stand as values are of functions that may be entered with anything, and a `letrec` defines
-- each name once.
use Rattle.std.specs.Prelude.{ℕ, List, ◌++◌}
use Rattle.core_ast.specs.declared.syntax.FunName.{FunName}
use Rattle.core_ast.specs.Model as m
use Rattle.core_ast.specs.Named.{local_name}
use Rattle.core_scope.specs.Names.{defined_names}
use Rattle.cons_gen_rows.specs.Counts.{call_names}
use Rattle.module_flow_state.specs.Applications.{inner_or}
use Rattle.module_flow_calls.specs.Functions.{defined_labels, label_named}
use Rattle.module_flow_state.specs.World.{World}
use Rattle.sound_laws_flow.specs.steps.Fine.{ByName, FineName}
use Rattle.sound_laws_flow.specs.steps.Seen.{NamesOnce}

-- fs and ls: the functions of the `letrec`s around, each with its label
module _ (W : World) (D : ℕ → Type 0) where
  abbrev pub NameFine : List FunName → List ℕ → FunName → Type 0
  NameFine fs ls f = FineName W D D (inner_or (label_named fs ls f) (label_named W.names W.labels f)) f

  abbrev mutual
    pub Named : List FunName → List ℕ → m.Tree → Type 0
    Named fs ls (m.variable i x) = Unit {0}
    Named fs ls (m.local i f) = NameFine fs ls f
    Named fs ls (m.external i x f) = Unit {0}
    Named fs ls (m.literal i l) = Unit {0}
    Named fs ls (m.function i xs t) = Named fs ls t
    Named fs ls (m.listed i ts t) = NamedAll fs ls ts × Named fs ls t
    Named fs ls (m.tuple i ts) = NamedAll fs ls ts
    Named fs ls (m.new_map i ps) = NamedPairs fs ls ps
    Named fs ls (m.updated_map i ps t) = NamedPairs fs ls ps × Named fs ls t
    Named fs ls (m.binary i ss) = NamedSegments fs ls ss
    Named fs ls (m.values i ts) = NamedAll fs ls ts
    Named fs ls (m.chain i ss t) = NamedSteps fs ls ss × Named fs ls t
    Named fs ls (m.case i t cs) = Named fs ls t × NamedClauses fs ls cs
    Named fs ls (m.letrec i ds t) = NamesOnce ds × (NamedDefs (fs ++ defined_names ds) (ls ++ defined_labels ds) ds × Named (fs ++ defined_names ds) (ls ++ defined_labels ds) t)
    Named fs ls (m.apply i t ts) = ByName (local_name t) (λ f. Unit {0}) (Named fs ls t) × NamedAll fs ls ts
    Named fs ls (m.call i t u ts) = ByName (call_names t u) (λ names. Unit {0}) (Named fs ls t × Named fs ls u) × NamedAll fs ls ts
    Named fs ls (m.primop i x ts) = NamedAll fs ls ts
    Named fs ls (m.try i t xs u ys w) = Named fs ls t × (Named fs ls u × Named fs ls w)
    Named fs ls (m.receive i cs t u) = NamedClauses fs ls cs × (Named fs ls t × Named fs ls u)
    Named fs ls (m.catch i t) = Named fs ls t

    pub NamedAll : List FunName → List ℕ → m.Trees → Type 0
    NamedAll fs ls m.no_tree = Unit {0}
    NamedAll fs ls (m.and_tree t ts) = Named fs ls t × NamedAll fs ls ts

    pub NamedPairs : List FunName → List ℕ → m.Pairs → Type 0
    NamedPairs fs ls m.no_pair = Unit {0}
    NamedPairs fs ls (m.and_pair exact t u ps) = Named fs ls t × (Named fs ls u × NamedPairs fs ls ps)

    pub NamedSegments : List FunName → List ℕ → m.Segments → Type 0
    NamedSegments fs ls m.no_segment = Unit {0}
    NamedSegments fs ls (m.and_segment t ts ss) = Named fs ls t × (NamedAll fs ls ts × NamedSegments fs ls ss)

    pub NamedSteps : List FunName → List ℕ → m.Steps → Type 0
    NamedSteps fs ls m.no_step = Unit {0}
    NamedSteps fs ls (m.and_let i xs u ss) = Named fs ls u × NamedSteps fs ls ss
    NamedSteps fs ls (m.and_do i u ss) = Named fs ls u × NamedSteps fs ls ss

    pub NamedClauses : List FunName → List ℕ → m.Clauses → Type 0
    NamedClauses fs ls m.no_clause = Unit {0}
    NamedClauses fs ls (m.and_clause i ps g t cs) = Named fs ls g × (Named fs ls t × NamedClauses fs ls cs)

    pub NamedDefs : List FunName → List ℕ → m.Defs → Type 0
    NamedDefs fs ls m.no_def = Unit {0}
    NamedDefs fs ls (m.and_def f i xs t ds) = Named fs ls t × NamedDefs fs ls ds
