-- The functions whose names stand as values anywhere in a text, reached or not: in any position but that of the operator of an
-- application. Whoever has the value may apply it to anything.
use Rattle.std.specs.Prelude.{ℕ, List, [], ◌∷◌, ◌++◌, Option, Some, None}
use Rattle.core_ast.specs.declared.syntax.FunName.{FunName}
use Rattle.core_ast.specs.Model as m
use Rattle.core_ast.specs.Named.{local_name}
use Rattle.core_scope.specs.Names.{defined_names}
use Rattle.module_flow_calls.specs.Functions.{defined_labels, label_named}

-- Functions by name with their labels, the outer before the inner: those of the module, and of the `letrec`s around a position.
pub record Defined : Type 0 where
  pub names : List FunName
  pub labels : List ℕ

abbrev pub defining : Defined → m.Defs → Defined
defining fs ds = record { names = fs.names ++ defined_names ds; labels = fs.labels ++ defined_labels ds }

abbrev pub none_defined : Defined
none_defined = record { names = []; labels = [] }

-- the label of the function that a name stands for
abbrev pub label_listed : Option ℕ → List ℕ
label_listed None = []
label_listed (Some l) = l ∷ []

abbrev pub unless_name : Option FunName → List ℕ → List ℕ
unless_name None ls = ls
unless_name (Some f) ls = []

abbrev mutual
  pub escapes : Defined → m.Tree → List ℕ
  escapes fs (m.variable i x) = []
  escapes fs (m.local i f) = label_listed (label_named fs.names fs.labels f)
  escapes fs (m.external i x f) = []
  escapes fs (m.literal i l) = []
  escapes fs (m.function i xs t) = escapes fs t
  escapes fs (m.listed i ts t) = escapes_all fs ts ++ escapes fs t
  escapes fs (m.tuple i ts) = escapes_all fs ts
  escapes fs (m.new_map i ps) = escapes_pairs fs ps
  escapes fs (m.updated_map i ps t) = escapes_pairs fs ps ++ escapes fs t
  escapes fs (m.binary i ss) = escapes_segments fs ss
  escapes fs (m.values i ts) = escapes_all fs ts
  escapes fs (m.chain i ss t) = escapes_steps fs ss ++ escapes fs t
  escapes fs (m.case i t cs) = escapes fs t ++ escapes_clauses fs cs
  escapes fs (m.letrec i ds t) = escapes_defs (defining fs ds) ds ++ escapes (defining fs ds) t
  escapes fs (m.apply i t ts) = unless_name (local_name t) (escapes fs t) ++ escapes_all fs ts
  escapes fs (m.call i t u ts) = escapes fs t ++ escapes fs u ++ escapes_all fs ts
  escapes fs (m.primop i x ts) = escapes_all fs ts
  escapes fs (m.try i t xs u ys w) = escapes fs t ++ escapes fs u ++ escapes fs w
  escapes fs (m.receive i cs t u) = escapes_clauses fs cs ++ escapes fs t ++ escapes fs u
  escapes fs (m.catch i t) = escapes fs t

  pub escapes_all : Defined → m.Trees → List ℕ
  escapes_all fs m.no_tree = []
  escapes_all fs (m.and_tree t ts) = escapes fs t ++ escapes_all fs ts

  pub escapes_pairs : Defined → m.Pairs → List ℕ
  escapes_pairs fs m.no_pair = []
  escapes_pairs fs (m.and_pair exact t u ps) = escapes fs t ++ escapes fs u ++ escapes_pairs fs ps

  pub escapes_segments : Defined → m.Segments → List ℕ
  escapes_segments fs m.no_segment = []
  escapes_segments fs (m.and_segment t ts ss) = escapes fs t ++ escapes_all fs ts ++ escapes_segments fs ss

  pub escapes_steps : Defined → m.Steps → List ℕ
  escapes_steps fs m.no_step = []
  escapes_steps fs (m.and_let i xs t ss) = escapes fs t ++ escapes_steps fs ss
  escapes_steps fs (m.and_do i t ss) = escapes fs t ++ escapes_steps fs ss

  pub escapes_clauses : Defined → m.Clauses → List ℕ
  escapes_clauses fs m.no_clause = []
  escapes_clauses fs (m.and_clause i ps g t cs) = escapes_patterns fs ps ++ escapes fs g ++ escapes fs t ++ escapes_clauses fs cs

  pub escapes_defs : Defined → m.Defs → List ℕ
  escapes_defs fs m.no_def = []
  escapes_defs fs (m.and_def f i xs t ds) = escapes fs t ++ escapes_defs fs ds

  -- the arguments of segments and the keys of maps in patterns
  pub escapes_pattern : Defined → m.Pattern → List ℕ
  escapes_pattern fs (m.binds i x) = []
  escapes_pattern fs (m.equals i l) = []
  escapes_pattern fs (m.list_of i ps p) = escapes_patterns fs ps ++ escapes_pattern fs p
  escapes_pattern fs (m.tuple_of i ps) = escapes_patterns fs ps
  escapes_pattern fs (m.map_of i ps) = escapes_pat_pairs fs ps
  escapes_pattern fs (m.binary_of i ss) = escapes_pat_segments fs ss
  escapes_pattern fs (m.alias i x p) = escapes_pattern fs p

  pub escapes_patterns : Defined → m.Patterns → List ℕ
  escapes_patterns fs m.no_pattern = []
  escapes_patterns fs (m.and_pattern p ps) = escapes_pattern fs p ++ escapes_patterns fs ps

  pub escapes_pat_pairs : Defined → m.PatPairs → List ℕ
  escapes_pat_pairs fs m.no_pat_pair = []
  escapes_pat_pairs fs (m.and_pat_pair t p ps) = escapes fs t ++ escapes_pattern fs p ++ escapes_pat_pairs fs ps

  pub escapes_pat_segments : Defined → m.PatSegments → List ℕ
  escapes_pat_segments fs m.no_pat_segment = []
  escapes_pat_segments fs (m.and_pat_segment p ts ss) = escapes_pattern fs p ++ escapes_all fs ts ++ escapes_pat_segments fs ss

-- those of a module
abbrev pub escaping : m.Defs → List ℕ
escaping ds = escapes_defs (defining none_defined ds) ds
