-- What clauses, and the forms that bind variables, choose and wait, add to what was made.
use Rattle.std.specs.Prelude.{◌≡◌, ℕ, ◌+◌, List, [], ◌∷◌, ◌++◌, length, take}
use Rattle.core_ast.specs.declared.syntax.Expr.{Expr}
use Rattle.core_ast.specs.declared.syntax.Mark.{Mark}
use Rattle.core_ast.specs.declared.syntax.TryOf.{TryOf}
use Rattle.core_ast.specs.declared.syntax.VarName.{VarName}
use Rattle.core_ast.specs.Model as m
use Rattle.core_ast.specs.Tree.{tree}
use Rattle.core_scope.specs.Asks.{one_value}
use Rattle.core_scope.specs.Names.{defined_names}
use Rattle.core_scope.specs.declared.ask.Ask.{Ask}
use Rattle.core_scope.specs.declared.ask.Ask.TheVariants.{Exactly}
use Rattle.cons_tree.specs.Named.{just_true, naturals}
use Rattle.cons_gen_rows.specs.Counts.{passed_on, results}
use Rattle.cons_gen_rows.specs.Scopes.{Binding, bindings, with_bindings, with_functions}
use Rattle.cons_gen_rows.specs.Slots.{slots_from}
use Rattle.cons_gen_rows.specs.Walking.{Adds, Binds, knowing, rows_of, scope_of}
use Rattle.cons_gen_rows.specs.Words.{Rows, bound, equals, one_of, together}
use Rattle.cons_gen_rows.specs.declared.generator.Generator.{Generator}
use Rattle.cons_gen_rows.specs.declared.passes.Surroundings.{Surroundings}
use Rattle.cons_gen.specs.Rows.{clause_rows, rows, step_bindings, step_rows}
use Rattle.cons_gen.specs.Spans.{clause_spans, span, step_spans}
use Rattle.cons_gen.specs.steps.Generating.{Generates, rows_at}

-- `width` slots and these rows were added, and only the first `around` variables are left
pub record Leaves (around : ℕ) (old new : Generator) (width : ℕ) (added : Rows) : Type 0 where
  pub next : new.next ≡ old.next + width
  pub rows : rows_of new ≡ rows_of old ++ added
  pub variables : new.variables ≡ take around old.variables
  pub functions : new.functions ≡ old.functions

-- ---- expressions whose results are passed on to the slots `to`

abbrev pub passed_rows : Surroundings → Generator → Ask → (to : List ℕ) → m.Tree → Rows
passed_rows context g k to t = rows_at context g k t ++ equals to (results k g.next t)

abbrev pub GeneratesPassed : Surroundings → (old new : Generator) → Ask → (to : List ℕ) → m.Tree → Type 0
GeneratesPassed context old new k to t = Adds old new (span k t) (passed_rows context old k to t)

-- where it also sees these variables
abbrev pub GeneratesUnder : Surroundings → (old new : Generator) → Ask → (to : List ℕ) → List Binding → m.Tree → Type 0
GeneratesUnder context old new k to bs t =
    Adds old new (span k t)
    (rows (knowing context) context.home.now (with_bindings (scope_of old) bs) old.next k t ++ equals to (results k old.next t))

-- ---- chains

-- the expression of a `let`, behind the slots of its variables, which stay bound
abbrev pub BindsLet : Surroundings → (old new : Generator) → List VarName → m.Tree → Type 0
BindsLet context old new xs t =
    let count = length xs in
    let first = old.next + count in
    Binds old new (count + span (Exactly count) t)
    (rows (knowing context) context.home.now (scope_of old) first (Exactly count) t
    ++ equals (slots_from old.next count) (results (Exactly count) first t))
    (bindings xs old.next)

-- the steps of a chain, behind the slots of its results
abbrev pub BindsSteps : Surroundings → (old new : Generator) → Ask → m.Steps → Type 0
BindsSteps context old new k ss =
    let first = old.next + passed_on k in
    Binds old new (passed_on k + step_spans ss)
    (step_rows (knowing context) context.home.now (scope_of old) first ss)
    (step_bindings first ss)

-- ---- a `case` and its clauses

-- the argument, of which n values are asked, behind the slots of the results
abbrev pub GeneratesArgument : Surroundings → (old new : Generator) → Ask → ℕ → m.Tree → Type 0
GeneratesArgument context old new k n t =
    Adds old new (passed_on k + span (Exactly n) t)
    (rows (knowing context) context.home.now (scope_of old) (old.next + passed_on k) (Exactly n) t)

-- clauses for what is matched at the slots qs: each a row of its own, and all as alternatives
abbrev pub GeneratesClauses : Surroundings → (old new : Generator) → Ask → (to qs : List ℕ) → m.Clauses → Type 0
GeneratesClauses context old new k to qs cs =
    Adds old new (clause_spans k cs) (clause_rows (knowing context) context.home.now (scope_of old) to qs old.next k cs)

abbrev pub GeneratesAlternatives : Surroundings → (old new : Generator) → Ask → (to qs : List ℕ) → m.Clauses → Type 0
GeneratesAlternatives context old new k to qs cs =
    Adds old new (clause_spans k cs)
    (one_of (clause_rows (knowing context) context.home.now (scope_of old) to qs old.next k cs))

-- a guard, which is true
abbrev pub GeneratesGuard : Surroundings → (old new : Generator) → m.Tree → Type 0
GeneratesGuard context old new t =
    Adds old new (span one_value t) (rows_at context old one_value t ++ bound old.next just_true)

-- ---- a `letrec`: its body alone

abbrev pub GeneratesLetrec : Surroundings → (old new : Generator) → Ask → m.Defs → m.Tree → Type 0
GeneratesLetrec context old new k ds t =
    let first = old.next + passed_on k in
    Adds old new (passed_on k + span k t)
    (rows (knowing context) context.home.now (with_functions (scope_of old) (defined_names ds)) first k t
    ++ equals (slots_from old.next (passed_on k)) (results k first t))

-- ---- the alternatives of a `try`, whose results are the slots `to`

abbrev pub tried_rows : Surroundings → Generator → Ask → (to : List ℕ) → m.Tree → List VarName → m.Tree → Rows
tried_rows context g k to t xs u =
    let vars = g.next + span (Exactly (length xs)) t in
    rows_at context g (Exactly (length xs)) t
    ++ equals (slots_from vars (length xs)) (results (Exactly (length xs)) g.next t)
    ++ rows (knowing context) context.home.now (with_bindings (scope_of g) (bindings xs vars)) (vars + length xs) k u
    ++ equals to (results k (vars + length xs) u)

abbrev pub handler_rows : Surroundings → Generator → Ask → (to : List ℕ) → List VarName → m.Tree → Rows
handler_rows context g k to ys w =
    rows (knowing context) context.home.now (with_bindings (scope_of g) (bindings ys g.next)) (g.next + length ys) k w
    ++ equals to (results k (g.next + length ys) w)

-- its first expression, with the slots of n variables behind it
abbrev pub GeneratesFirst : Surroundings → (old new : Generator) → ℕ → m.Tree → Type 0
GeneratesFirst context old new n t =
    let vars = old.next + span (Exactly n) t in
    Adds old new (span (Exactly n) t + n)
    (rows_at context old (Exactly n) t ++ equals (slots_from vars n) (results (Exactly n) old.next t))

-- what it does where that gives values, and where it fails: a row each
abbrev pub GeneratesTried : Surroundings → (old new : Generator) → Ask → (to : List ℕ) → TryOf Expr → Type 0
GeneratesTried context old new k to p =
    Adds old new (span (Exactly (length p.vars)) (tree p.arg) + length p.vars + span k (tree p.body))
    (together (tried_rows context old k to (tree p.arg) p.vars (tree p.body)) ∷ [])

abbrev pub GeneratesHandler : Surroundings → (old new : Generator) → Ask → (to : List ℕ) → TryOf Expr → Type 0
GeneratesHandler context old new k to p =
    Adds old new (length p.catch_vars + span k (tree p.handler))
    (together (handler_rows context old k to p.catch_vars (tree p.handler)) ∷ [])

-- the whole, whatever its mark
abbrev pub GeneratesTry : Surroundings → (old new : Generator) → Ask → TryOf Expr → Type 0
GeneratesTry context old new k p =
    (i : Mark) → Generates context old new k (m.try i (tree p.arg) p.vars (tree p.body) p.catch_vars (tree p.handler))

-- ---- a `receive`

-- its clauses, behind the slots of the results and that of the message
abbrev pub GeneratesMessages : Surroundings → (old new : Generator) → Ask → m.Clauses → Type 0
GeneratesMessages context old new k cs =
    let to = slots_from old.next (passed_on k) in
    let message = old.next + passed_on k in
    Adds old new (passed_on k + 1 + clause_spans k cs)
    (clause_rows (knowing context) context.home.now (scope_of old) to (message ∷ []) (message + 1) k cs)

-- its action, where its timeout has this slot: one row
abbrev pub GeneratesAction : Surroundings → (old new : Generator) → Ask → (to : List ℕ) → (timeout : ℕ) → m.Tree → Type 0
GeneratesAction context old new k to timeout t =
    Adds old new (span k t)
    (together (rows_at context old k t ++ equals to (results k old.next t) ++ bound timeout naturals) ∷ [])
