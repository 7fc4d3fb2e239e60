-- How many slots an expression has: first those of its results, then those of its parts. What stands in the body of a fun, in a
-- function of a `letrec` and inside a `catch` has none.
use Rattle.std.specs.Prelude.{ℕ, ◌+◌, List, [], ◌∷◌, length, Option, Some, None}
use Rattle.core_ast.specs.Model as m
use Rattle.core_ast.specs.Lengths.{how_many}
use Rattle.core_ast.specs.Named.{local_name}
use Rattle.core_scope.specs.declared.ask.Ask.{Ask}
use Rattle.core_scope.specs.declared.ask.Ask.TheVariants.{AnyNumber, Exactly}
use Rattle.core_scope.specs.Asks.{one_value, call_gives, width}
use Rattle.cons_gen_rows.specs.Counts.{call_names, call_results, passed_on, whatever_asked}
use Rattle.cons_gen_rows.specs.Patterns.{outer_span}
use Rattle.cons_gen_rows.specs.Words.{inner_cells}

-- what is a part only where there is no name
abbrev pub unless_named : {A : Type 0} → Option A → ℕ → ℕ
unless_named None n = n
unless_named (Some x) n = 0

abbrev mutual
  pub span : Ask → m.Tree → ℕ
  span k (m.variable i x) = 1
  span k (m.local i f) = 1
  span k (m.external i x f) = 1
  span k (m.literal i l) = 1
  span k (m.function i xs t) = 1
  span k (m.listed i ts t) = 1 + inner_cells (how_many ts) + spans ts + span one_value t
  span k (m.tuple i ts) = 1 + spans ts
  span k (m.new_map i ps) = 1 + pair_spans ps
  span k (m.updated_map i ps t) = 1 + pair_spans ps + span one_value t
  span k (m.binary i ss) = 1 + segment_spans ss
  span k (m.values i ts) = passed_on k + spans ts
  span k (m.chain i ss t) = passed_on k + step_spans ss + span k t
  span k (m.case i t cs) = passed_on k + span (Exactly (width cs)) t + clause_spans k cs
  span k (m.letrec i ds t) = passed_on k + span k t
  span k (m.apply i t ts) = 1 + unless_named (local_name t) (span one_value t) + spans ts
  span k (m.call i t u ts) = call_results k (call_gives t u (how_many ts)) + unless_named (call_names t u) (span one_value t + span one_value u) + spans ts
  span k (m.primop i x ts) = whatever_asked k + spans ts
  span k (m.try i t xs u ys w) = passed_on k + span (Exactly (length xs)) t + length xs + span k u + length ys + span k w
  span k (m.receive i cs t u) = passed_on k + 1 + clause_spans k cs + span one_value t + span k u
  span k (m.catch i t) = 1

  pub spans : m.Trees → ℕ
  spans m.no_tree = 0
  spans (m.and_tree t ts) = span one_value t + spans ts

  pub pair_spans : m.Pairs → ℕ
  pair_spans m.no_pair = 0
  pair_spans (m.and_pair exact t u ps) = span one_value t + span one_value u + pair_spans ps

  pub segment_spans : m.Segments → ℕ
  segment_spans m.no_segment = 0
  segment_spans (m.and_segment t ts ss) = span one_value t + spans ts + segment_spans ss

  -- the variables of a `let` come before its expression
  pub step_spans : m.Steps → ℕ
  step_spans m.no_step = 0
  step_spans (m.and_let i xs t ss) = length xs + span (Exactly (length xs)) t + step_spans ss
  step_spans (m.and_do i t ss) = span AnyNumber t + step_spans ss

  pub clause_spans : Ask → m.Clauses → ℕ
  clause_spans k m.no_clause = 0
  clause_spans k (m.and_clause i ps g t cs) = outer_span ps + span one_value g + span k t + clause_spans k cs

-- the slots of the values of expressions, of each of which one is asked
abbrev pub value_slots : ℕ → m.Trees → List ℕ
value_slots s m.no_tree = []
value_slots s (m.and_tree t ts) = s ∷ value_slots (s + span one_value t) ts
