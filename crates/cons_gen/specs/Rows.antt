-- The rows of constraints: what each form of expression says of the slots of its results and of its parts (Lindahl and Sagonas,
-- "Practical type inference based on success typings").
use Rattle.std.specs.Prelude.{ℕ, ◌+◌, List, [], ◌∷◌, ◌++◌, length, Option, Some, None, if◌then◌else◌}
use Rattle.type_kinds.specs.declared.atom.Atom.{Atom}
use Rattle.type_lattice.specs.Kinds.{of_kind}
use Rattle.type_lattice.specs.declared.kinds.Kind.TheVariants.{Bitstring, Map}
use Rattle.core_ast.specs.Model as m
use Rattle.core_ast.specs.Lengths.{how_many}
use Rattle.core_ast.specs.Named.{local_name}
use Rattle.core_scope.specs.declared.ask.Ask.{Ask}
use Rattle.core_scope.specs.declared.ask.Ask.TheVariants.{AnyNumber, Exactly}
use Rattle.core_scope.specs.Asks.{one_value, call_gives, is_raising, width}
use Rattle.core_scope.specs.Names.{defined_names}
use Rattle.cons_tree.specs.Constraints.{Cons, only}
use Rattle.cons_tree.specs.Named.{just_true, naturals}
use Rattle.cons_tree.specs.declared.parts.Part.{Part}
use Rattle.cons_tree.specs.declared.parts.Part.TheVariants.{Tuple}
use Rattle.cons_gen_rows.specs.Counts.{results, passed_on, whatever_asked, call_results, call_names}
use Rattle.cons_gen_rows.specs.Passes.{Knowledge, called_rows, applied_rows}
use Rattle.cons_gen_rows.specs.Patterns.{outer_span, outer_bindings, outer_rows}
use Rattle.cons_gen_rows.specs.Scopes.{Scope, Binding, bindings, with_bindings, with_functions, slot_of}
use Rattle.cons_gen_rows.specs.Slots.{slots_from}
use Rattle.cons_gen_rows.specs.Words.{Rows, variable_rows, bound, together, one_of, equals, never, list_rows, inner_cells, function_type, literal_type}
use Rattle.cons_gen.specs.Spans.{span, spans, pair_spans, step_spans, clause_spans, value_slots}

-- the one where there is a name, and the other where there is none
abbrev pub named_or : {A : Type 0} → Option A → (A → Rows) → Rows → Rows
named_or None f rows = rows
named_or (Some x) f rows = f x

-- the variables of a chain's steps, whose slots begin at s
abbrev pub step_bindings : ℕ → m.Steps → List Binding
step_bindings s m.no_step = []
step_bindings s (m.and_let i xs t ss) = bindings xs s ++ step_bindings (s + length xs + span (Exactly (length xs)) t) ss
step_bindings s (m.and_do i t ss) = step_bindings (s + span AnyNumber t) ss

-- P: what the pass knows; home: the module in which the expression stands
module _ (P : Knowledge) (home : Atom) where
  abbrev mutual
    -- an expression whose slots begin at s, where k values are asked of it
    pub rows : Scope → ℕ → Ask → m.Tree → Rows
    rows sc s k (m.variable i x) = variable_rows (slot_of sc.variables x) s
    rows sc s k (m.local i f) = bound s (function_type f.arity)
    rows sc s k (m.external i x f) = bound s (function_type f.arity)
    rows sc s k (m.literal i l) = bound s (literal_type l)
    rows sc s k (m.function i xs t) = bound s (function_type (length xs))
    rows sc s k (m.listed i ts t) =
        let first = s + 1 + inner_cells (how_many ts) in
        let rest = first + spans ts in
        all_rows sc first ts ++ rows sc rest one_value t ++ list_rows s (s + 1) (value_slots first ts) rest
    rows sc s k (m.tuple i ts) = all_rows sc (s + 1) ts ++ only (Tuple s (value_slots (s + 1) ts)) ∷ []
    rows sc s k (m.new_map i ps) = pair_rows sc (s + 1) ps ++ bound s (of_kind Map)
    rows sc s k (m.updated_map i ps t) =
        let old = s + 1 + pair_spans ps in
        pair_rows sc (s + 1) ps ++ rows sc old one_value t ++ bound old (of_kind Map) ++ bound s (of_kind Map)
    rows sc s k (m.binary i ss) = segment_rows sc (s + 1) ss ++ bound s (of_kind Bitstring)
    rows sc s k (m.values i ts) =
        let first = s + passed_on k in
        all_rows sc first ts ++ equals (slots_from s (passed_on k)) (value_slots first ts)
    rows sc s k (m.chain i ss t) =
        let first = s + passed_on k in
        let last = first + step_spans ss in
        step_rows sc first ss
        ++ rows (with_bindings sc (step_bindings first ss)) last k t
        ++ equals (slots_from s (passed_on k)) (results k last t)
    rows sc s k (m.case i t cs) =
        let argument = s + passed_on k in
        rows sc argument (Exactly (width cs)) t
        ++ one_of (clause_rows sc (slots_from s (passed_on k)) (results (Exactly (width cs)) argument t) (argument + span (Exactly (width cs)) t) k cs)
    rows sc s k (m.letrec i ds t) =
        let body = s + passed_on k in
        rows (with_functions sc (defined_names ds)) body k t ++ equals (slots_from s (passed_on k)) (results k body t)
    rows sc s k (m.apply i t ts) =
        named_or (local_name t)
        (λ f. all_rows sc (s + 1) ts ++ applied_rows P home sc.functions f (how_many ts) s (value_slots (s + 1) ts))
        (rows sc (s + 1) one_value t ++ all_rows sc (s + 1 + span one_value t) ts ++ bound (s + 1) (function_type (how_many ts)))
    rows sc s k (m.call i t u ts) =
        let first = s + call_results k (call_gives t u (how_many ts)) in
        named_or (call_names t u)
        (λ f. all_rows sc first ts ++ called_rows P f.0 f.1 (how_many ts) (slots_from s (call_results k (call_gives t u (how_many ts)))) (value_slots first ts))
        (rows sc first one_value t ++ rows sc (first + span one_value t) one_value u ++ all_rows sc (first + (span one_value t + span one_value u)) ts)
    rows sc s k (m.primop i x ts) =
        all_rows sc (s + whatever_asked k) ts ++ (if is_raising x then never (slots_from s (whatever_asked k)) else [])
    rows sc s k (m.try i t xs u ys w) =
        let first = s + passed_on k in
        let vars = first + span (Exactly (length xs)) t in
        let body = vars + length xs in
        let caught = body + span k u in
        let handler = caught + length ys in
        one_of
        (together
        (rows sc first (Exactly (length xs)) t
        ++ equals (slots_from vars (length xs)) (results (Exactly (length xs)) first t)
        ++ rows (with_bindings sc (bindings xs vars)) body k u
        ++ equals (slots_from s (passed_on k)) (results k body u))
        ∷ together
        (rows (with_bindings sc (bindings ys caught)) handler k w ++ equals (slots_from s (passed_on k)) (results k handler w))
        ∷ [])
    -- the message has a slot of its own, before those of the clauses
    rows sc s k (m.receive i cs t u) =
        let message = s + passed_on k in
        let timeout = message + 1 + clause_spans k cs in
        let action = timeout + span one_value t in
        rows sc timeout one_value t
        ++ one_of
        (clause_rows sc (slots_from s (passed_on k)) (message ∷ []) (message + 1) k cs
        ++ together
        (rows sc action k u ++ equals (slots_from s (passed_on k)) (results k action u) ++ bound timeout naturals)
        ∷ [])
    rows sc s k (m.catch i t) = []

    -- expressions of each of which one value is asked
    pub all_rows : Scope → ℕ → m.Trees → Rows
    all_rows sc s m.no_tree = []
    all_rows sc s (m.and_tree t ts) = rows sc s one_value t ++ all_rows sc (s + span one_value t) ts

    pub pair_rows : Scope → ℕ → m.Pairs → Rows
    pair_rows sc s m.no_pair = []
    pair_rows sc s (m.and_pair exact t u ps) =
        rows sc s one_value t ++ rows sc (s + span one_value t) one_value u ++ pair_rows sc (s + span one_value t + span one_value u) ps

    pub segment_rows : Scope → ℕ → m.Segments → Rows
    segment_rows sc s m.no_segment = []
    segment_rows sc s (m.and_segment t ts ss) =
        rows sc s one_value t ++ all_rows sc (s + span one_value t) ts ++ segment_rows sc (s + span one_value t + spans ts) ss

    -- each step sees the variables of those before it
    pub step_rows : Scope → ℕ → m.Steps → Rows
    step_rows sc s m.no_step = []
    step_rows sc s (m.and_let i xs t ss) =
        let first = s + length xs in
        rows sc first (Exactly (length xs)) t
        ++ equals (slots_from s (length xs)) (results (Exactly (length xs)) first t)
        ++ step_rows (with_bindings sc (bindings xs s)) (first + span (Exactly (length xs)) t) ss
    step_rows sc s (m.and_do i t ss) = rows sc s AnyNumber t ++ step_rows sc (s + span AnyNumber t) ss

    -- clauses, each an alternative: rs are the slots of the results, qs those of what is matched
    pub clause_rows : Scope → (rs qs : List ℕ) → ℕ → Ask → m.Clauses → List (Cons Part)
    clause_rows sc rs qs s k m.no_clause = []
    clause_rows sc rs qs s k (m.and_clause i ps g t cs) =
        let inner = with_bindings sc (outer_bindings s ps) in
        let guard = s + outer_span ps in
        let body = guard + span one_value g in
        together
        (outer_rows qs s ps
        ++ rows inner guard one_value g
        ++ bound guard just_true
        ++ rows inner body k t
        ++ equals rs (results k body t))
        ∷ clause_rows sc rs qs (body + span k t) k cs
