-- What expressions, and the forms of data and of calls, add to what was made.
use Rattle.std.specs.Prelude.{ℕ, ◌+◌, List, [], ◌∷◌, ◌++◌, if◌then◌else◌}
use Rattle.type_kinds.specs.declared.atom.Atom.{Atom}
use Rattle.type_lattice.specs.Kinds.{of_kind}
use Rattle.type_lattice.specs.declared.kinds.Kind.TheVariants.{Bitstring, Map}
use Rattle.core_ast.specs.declared.syntax.FunName.{FunName}
use Rattle.core_ast.specs.Model as m
use Rattle.core_scope.specs.Asks.{is_raising, one_value}
use Rattle.core_scope.specs.declared.ask.Ask.{Ask}
use Rattle.cons_tree.specs.Constraints.{only}
use Rattle.cons_tree.specs.declared.parts.Part.TheVariants.{Tuple}
use Rattle.cons_gen_rows.specs.Counts.{passed_on, whatever_asked}
use Rattle.cons_gen_rows.specs.Passes.{applied_rows, called_rows}
use Rattle.cons_gen_rows.specs.Slots.{slots_from}
use Rattle.cons_gen_rows.specs.Walking.{Adds, knowing, scope_of}
use Rattle.cons_gen_rows.specs.Words.{Rows, bound, equals, function_type, inner_cells, list_rows, never}
use Rattle.cons_gen_rows.specs.declared.generator.Generator.{Generator}
use Rattle.cons_gen_rows.specs.declared.passes.Surroundings.{Surroundings}
use Rattle.cons_gen.specs.Rows.{all_rows, pair_rows, rows, segment_rows}
use Rattle.cons_gen.specs.Spans.{pair_spans, segment_spans, span, spans, value_slots}

-- what an expression adds, where k values are asked of it
abbrev pub rows_at : Surroundings → Generator → Ask → m.Tree → Rows
rows_at context g k t = rows (knowing context) context.home.now (scope_of g) g.next k t

abbrev pub Generates : Surroundings → (old new : Generator) → Ask → m.Tree → Type 0
Generates context old new k t = Adds old new (span k t) (rows_at context old k t)

-- the rows of expressions, of each of which one value is asked, whose slots begin at s
abbrev pub all_rows_from : Surroundings → Generator → ℕ → m.Trees → Rows
all_rows_from context g s ts = all_rows (knowing context) context.home.now (scope_of g) s ts

-- what such expressions add
abbrev pub GeneratesAll : Surroundings → (old new : Generator) → m.Trees → Type 0
GeneratesAll context old new ts = Adds old new (spans ts) (all_rows_from context old old.next ts)

-- ---- data

-- the n elements of a list, behind its own slot and its inner cells
abbrev pub GeneratesElements : Surroundings → (old new : Generator) → ℕ → m.Trees → Type 0
GeneratesElements context old new n ts =
    Adds old new (1 + inner_cells n + spans ts) (all_rows_from context old (old.next + 1 + inner_cells n) ts)

-- its tail, and the list of these slots
abbrev pub GeneratesTail : Surroundings → (old new : Generator) → (value cells : ℕ) → (elements : List ℕ) → m.Tree → Type 0
GeneratesTail context old new value cells elements t =
    Adds old new (span one_value t) (rows_at context old one_value t ++ list_rows value cells elements old.next)

abbrev pub GeneratesTuple : Surroundings → (old new : Generator) → m.Trees → Type 0
GeneratesTuple context old new ts =
    let first = old.next + 1 in
    Adds old new (1 + spans ts) (all_rows_from context old first ts ++ only (Tuple old.next (value_slots first ts)) ∷ [])

-- pairs, behind the slot of the map
abbrev pub GeneratesPairs : Surroundings → (old new : Generator) → m.Pairs → Type 0
GeneratesPairs context old new ps =
    Adds old new (1 + pair_spans ps) (pair_rows (knowing context) context.home.now (scope_of old) (old.next + 1) ps)

-- the map that they update, and the map of this slot that they make
abbrev pub GeneratesUpdated : Surroundings → (old new : Generator) → ℕ → m.Tree → Type 0
GeneratesUpdated context old new value t =
    Adds old new (span one_value t) (rows_at context old one_value t ++ bound old.next (of_kind Map) ++ bound value (of_kind Map))

-- segments, whose slots begin at s, and alone
abbrev pub segment_rows_from : Surroundings → Generator → ℕ → m.Segments → Rows
segment_rows_from context g s ss = segment_rows (knowing context) context.home.now (scope_of g) s ss

abbrev pub GeneratesSegments : Surroundings → (old new : Generator) → m.Segments → Type 0
GeneratesSegments context old new ss = Adds old new (segment_spans ss) (segment_rows_from context old old.next ss)

abbrev pub GeneratesBinary : Surroundings → (old new : Generator) → m.Segments → Type 0
GeneratesBinary context old new ss =
    Adds old new (1 + segment_spans ss)
    (segment_rows_from context old (old.next + 1) ss ++ bound old.next (of_kind Bitstring))

abbrev pub GeneratesValues : Surroundings → (old new : Generator) → Ask → m.Trees → Type 0
GeneratesValues context old new k ts =
    let first = old.next + passed_on k in
    Adds old new (passed_on k + spans ts)
    (all_rows_from context old first ts ++ equals (slots_from old.next (passed_on k)) (value_slots first ts))

-- ---- calls of n arguments

-- the application of a function's name
abbrev pub GeneratesApplication : Surroundings → (old new : Generator) → FunName → ℕ → m.Trees → Type 0
GeneratesApplication context old new f n ts =
    let first = old.next + 1 in
    Adds old new (1 + spans ts)
    (all_rows_from context old first ts
    ++ applied_rows (knowing context) context.home.now old.functions f n old.next (value_slots first ts))

-- the operator of another application, behind the application's own slot, and what it is applied to, where it has this slot
abbrev pub GeneratesOperator : Surroundings → (old new : Generator) → m.Tree → Type 0
GeneratesOperator context old new t =
    Adds old new (1 + span one_value t) (rows (knowing context) context.home.now (scope_of old) (old.next + 1) one_value t)

abbrev pub GeneratesOperands : Surroundings → (old new : Generator) → (operator : ℕ) → ℕ → m.Trees → Type 0
GeneratesOperands context old new operator n ts =
    Adds old new (spans ts) (all_rows_from context old old.next ts ++ bound operator (function_type n))

-- a call by a literal module and name, which has so many results
abbrev pub GeneratesNamedCall : Surroundings → (old new : Generator) → (count : ℕ) → (home name : Atom) → ℕ → m.Trees → Type 0
GeneratesNamedCall context old new count home name n ts =
    let first = old.next + count in
    Adds old new (count + spans ts)
    (all_rows_from context old first ts
    ++ called_rows (knowing context) home name n (slots_from old.next count) (value_slots first ts))

abbrev pub GeneratesPrimop : Surroundings → (old new : Generator) → Ask → Atom → m.Trees → Type 0
GeneratesPrimop context old new k x ts =
    let count = whatever_asked k in
    Adds old new (count + spans ts)
    (all_rows_from context old (old.next + count) ts ++ (if is_raising x then never (slots_from old.next count) else []))
