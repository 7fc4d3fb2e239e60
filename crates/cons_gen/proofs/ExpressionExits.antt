-- The walk through expressions: what each way out of it says.
use Rattle.std.proofs.Common.{◌≡◌, ℕ, ◌+◌, ◌-◌, List, [], ◌∷◌, ◌++◌, length, take, drop, Option, None, Some, OnOk, refl, sym, ap, ◌∙◌, subst, append_assoc, arith, length-append}
use Rattle.std.specs.Prelude.{if◌then◌else◌}
use Rattle.std.proofs.Math.Seq.{take-append_seam}
use Rattle.std.proofs.lemmas.Result.{on_ok_weaker}
use Rattle.type_kinds.specs.declared.atom.Atom.{Atom}
use Rattle.type_lattice.specs.Types.{Type4}
use Rattle.type_lattice.specs.Kinds.{of_kind}
use Rattle.type_lattice.specs.declared.kinds.Kind.TheVariants.{Bitstring, Map}
use Rattle.core_ast.specs.declared.syntax.FunName.{FunName}
use Rattle.core_ast.specs.declared.syntax.FunOf.{FunOf}
use Rattle.core_ast.specs.declared.syntax.FunDefOf.{FunDefOf}
use Rattle.core_ast.specs.declared.syntax.StepOf.{StepOf}
use Rattle.core_ast.specs.declared.syntax.TryOf.{TryOf}
use Rattle.core_ast.specs.declared.syntax.Literal.{Literal}
use Rattle.core_ast.specs.declared.syntax.Expr.{Expr}
use Rattle.core_ast.specs.declared.syntax.Clause.{Clause}
use Rattle.core_ast.specs.declared.syntax.MapPair.{MapPair}
use Rattle.core_ast.specs.declared.syntax.Mark.{Mark}
use Rattle.core_ast.specs.declared.syntax.Segment.{Segment}
use Rattle.core_ast.specs.declared.syntax.Form.TheVariants as f
use Rattle.core_ast.specs.Model as m
use Rattle.core_ast.specs.Lengths.{how_many}
use Rattle.core_ast.specs.Named.{local_name}
use Rattle.core_ast.specs.Tree.{tree, all_trees, all_pairs, all_segments, all_steps, all_clauses, all_defs}
use Rattle.core_ast.proofs.Forms.{variable_tree, local_tree, external_tree, literal_tree, fun_tree, listed_tree, tuple_tree, new_map_tree, updated_map_tree}
use Rattle.core_ast.proofs.Forms.{binary_tree, values_tree, chain_tree, case_tree, letrec_tree, apply_tree, call_tree, primop_tree, try_tree, receive_tree, catch_tree}
use Rattle.core_ast.proofs.Items.{how_many-length}
use Rattle.core_scope.specs.declared.ask.Ask.{Ask}
use Rattle.core_scope.specs.declared.ask.Ask.TheVariants.{Exactly}
use Rattle.core_scope.specs.Asks.{call_gives, is_raising, one_value, width}
use Rattle.core_scope.specs.Names.{defined_names}
use Rattle.cons_tree.specs.Constraints.{constraint, only}
use Rattle.cons_tree.specs.Named.{naturals}
use Rattle.cons_tree.specs.declared.parts.Part.TheVariants.{Tuple}
use Rattle.cons_gen_rows.specs.Counts.{call_names, call_results, passed_on, results, whatever_asked}
use Rattle.cons_gen_rows.specs.Passes.{applied_rows, called_rows}
use Rattle.cons_gen_rows.specs.Scopes.{Scope, slot_of, with_bindings, with_functions}
use Rattle.cons_gen_rows.specs.Slots.{slots_from}
use Rattle.cons_gen_rows.specs.Walking.{Adds, Binds, Gathers, Rotates, knowing, rows_of, scope_of}
use Rattle.cons_gen_rows.specs.Words.{Rows, bound, equals, function_type, inner_cells, list_rows, literal_type, never, one_of, together, variable_rows}
use Rattle.cons_gen_rows.specs.declared.generator.Generator.{Generator}
use Rattle.cons_gen_rows.specs.declared.passes.Surroundings.{Surroundings}
use Rattle.cons_gen_rows.proofs.Adding.{adds_as, adds_then, behind, drop_seam, mapped_length, more}
use Rattle.cons_gen.specs.Rows.{named_or, pair_rows, step_bindings, step_rows}
use Rattle.cons_gen.specs.Spans.{clause_spans, pair_spans, segment_spans, span, spans, step_spans, unless_named, value_slots}
use Rattle.cons_gen.specs.steps.Choosing.{Leaves}
use Rattle.cons_gen.specs.steps.Generating.{Generates, rows_at}
use Rattle.cons_gen.proofs.ControlExits.{alternatives, given, handing}
use Rattle.cons_gen.proofs.FormExits.{Answer, bounded, each_segment, every}

module _ (context : Surroundings) (k : Ask) where
  module _ (r : Answer) (a b : Generator) (e : Expr) where
    -- what is said of a form, said of the expression
    abbrev of_tree : (t : m.Tree) → tree e ≡ t → OnOk r (Generates context a b k t) → OnOk r (Generates context a b k (tree e))
    of_tree t is = on_ok_weaker r (subst (Generates context a b k) (sym is))

    pub variable_exit : (x : Atom) → e.form ≡ f.Var x → OnOk r (Adds a b 1 (variable_rows (slot_of a.variables x) a.next)) → OnOk r (Generates context a b k (tree e))
    variable_exit x is = of_tree (m.variable e.mark x) (variable_tree e x is)

    pub local_exit : (x : FunName) → e.form ≡ f.Local x → OnOk r (Adds a b 1 (bound a.next (function_type x.arity))) → OnOk r (Generates context a b k (tree e))
    local_exit x is = of_tree (m.local e.mark x) (local_tree e x is)

    pub external_exit : (x : Atom) (y : FunName) → e.form ≡ f.External x y → OnOk r (Adds a b 1 (bound a.next (function_type y.arity))) → OnOk r (Generates context a b k (tree e))
    external_exit x y is = of_tree (m.external e.mark x y) (external_tree e x y is)

    pub literal_exit : (x : Literal) → e.form ≡ f.Lit x → OnOk r (Adds a b 1 (bound a.next (literal_type x))) → OnOk r (Generates context a b k (tree e))
    literal_exit x is = of_tree (m.literal e.mark x) (literal_tree e x is)

    pub fun_exit : (x : FunOf Expr) (n : ℕ) → e.form ≡ f.Fun x → n ≡ length x.params → OnOk r (Adds a b 1 (bound a.next (function_type n))) → OnOk r (Generates context a b k (tree e))
    fun_exit x n is count h = of_tree (m.function e.mark x.params (tree x.body)) (fun_tree e x is) (subst (λ j. OnOk r (Adds a b 1 (bound a.next (function_type j)))) count h)

    pub tuple_exit : (xs : List Expr) → e.form ≡ f.Tuple xs → OnOk r (Adds a b (1 + spans (all_trees xs))
        (every context (all_trees xs) (scope_of a) (a.next + 1) ++ only (Tuple a.next (value_slots (a.next + 1) (all_trees xs))) ∷ [])) → OnOk r (Generates context a b k (tree e))
    tuple_exit xs is = of_tree (m.tuple e.mark (all_trees xs)) (tuple_tree e xs is)

    pub binary_exit : (ss : List Segment) → e.form ≡ f.Binary ss → OnOk r (Adds a b (1 + segment_spans (all_segments ss)) (each_segment context (all_segments ss) (scope_of a) (a.next + 1) ++ bound a.next (of_kind Bitstring)))
        → OnOk r (Generates context a b k (tree e))
    binary_exit ss is = of_tree (m.binary e.mark (all_segments ss)) (binary_tree e ss is)

    pub values_exit : (xs : List Expr) → e.form ≡ f.Values xs
        → OnOk r (Adds a b (passed_on k + spans (all_trees xs)) (every context (all_trees xs) (scope_of a) (a.next + passed_on k) ++ equals (slots_from a.next (passed_on k)) (value_slots (a.next + passed_on k) (all_trees xs))))
        → OnOk r (Generates context a b k (tree e))
    values_exit xs is = of_tree (m.values e.mark (all_trees xs)) (values_tree e xs is)

    pub letrec_exit : (ds : List (FunDefOf Expr)) (x : Expr) → e.form ≡ f.Letrec ds x
        → OnOk r (Adds a b (passed_on k + span k (tree x)) (handing context k (tree x) (slots_from a.next (passed_on k)) (with_functions (scope_of a) (defined_names (all_defs ds))) (a.next + passed_on k)))
        → OnOk r (Generates context a b k (tree e))
    letrec_exit ds x is = of_tree (m.letrec e.mark (all_defs ds) (tree x)) (letrec_tree e ds x is)

    pub applied_exit : (x : Expr) (name : FunName) (xs : List Expr) → e.form ≡ f.Apply x xs → local_name (tree x) ≡ Some name
        → OnOk r (Adds a b (1 + spans (all_trees xs)) (every context (all_trees xs) (scope_of a) (a.next + 1)
        ++ applied_rows (knowing context) context.home.now a.functions name (length xs) a.next (value_slots (a.next + 1) (all_trees xs)))) → OnOk r (Generates context a b k (tree e))
    applied_exit x name xs is named h = of_tree (m.apply e.mark (tree x) (all_trees xs)) (apply_tree e x xs is)
        (on_ok_weaker r
        (subst (λ o. Adds a b (1 + unless_named o (span one_value (tree x)) + spans (all_trees xs))
        (named_or o (λ g. every context (all_trees xs) (scope_of a) (a.next + 1) ++ applied_rows (knowing context) context.home.now a.functions g (how_many (all_trees xs)) a.next (value_slots (a.next + 1) (all_trees xs)))
        (given context one_value (tree x) (scope_of a) (a.next + 1) ++ every context (all_trees xs) (scope_of a) (a.next + 1 + span one_value (tree x)) ++ bound (a.next + 1) (function_type (how_many (all_trees xs)))))) (sym named))
        (on_ok_weaker r (adds_as a b _ _ _ _ (omega arith) (ap (λ n. every context (all_trees xs) (scope_of a) (a.next + 1)
        ++ applied_rows (knowing context) context.home.now a.functions name n a.next (value_slots (a.next + 1) (all_trees xs))) (sym (how_many-length xs)))) h))

    pub named_call_exit : (x y : Expr) (home name : Atom) (xs : List Expr) (given_by : Ask) (n : ℕ) → e.form ≡ f.Call x y xs → call_names (tree x) (tree y) ≡ Some (home, name)
        → given_by ≡ call_gives (tree x) (tree y) (length xs) → n ≡ call_results k given_by
        → OnOk r (Adds a b (n + spans (all_trees xs)) (every context (all_trees xs) (scope_of a) (a.next + n) ++ called_rows (knowing context) home name (length xs) (slots_from a.next n) (value_slots (a.next + n) (all_trees xs))))
        → OnOk r (Generates context a b k (tree e))
    named_call_exit x y home name xs given_by n is named gives count h =
        let ts : m.Trees = all_trees xs in
        let j : ℕ = call_results k (call_gives (tree x) (tree y) (how_many ts)) in
        let same : n ≡ j = count ∙ ap (call_results k) (gives ∙ ap (call_gives (tree x) (tree y)) (sym (how_many-length xs))) in
        of_tree (m.call e.mark (tree x) (tree y) ts) (call_tree e x y xs is)
        (on_ok_weaker r
        (subst (λ o. Adds a b (j + unless_named o (span one_value (tree x) + span one_value (tree y)) + spans ts)
        (named_or o (λ g. every context ts (scope_of a) (a.next + j) ++ called_rows (knowing context) g.0 g.1 (how_many ts) (slots_from a.next j) (value_slots (a.next + j) ts))
        (given context one_value (tree x) (scope_of a) (a.next + j) ++ given context one_value (tree y) (scope_of a) (a.next + j + span one_value (tree x))
        ++ every context ts (scope_of a) (a.next + j + (span one_value (tree x) + span one_value (tree y)))))) (sym named))
        (on_ok_weaker r (adds_as a b _ _ _ _ (omega arith) (ap (λ z. every context ts (scope_of a) (a.next + z) ++ called_rows (knowing context) home name (length xs) (slots_from a.next z) (value_slots (a.next + z) ts)) same
        ∙ ap (λ z. every context ts (scope_of a) (a.next + j) ++ called_rows (knowing context) home name z (slots_from a.next j) (value_slots (a.next + j) ts)) (sym (how_many-length xs)))) h))

    pub primop_exit : (x : Atom) (xs : List Expr) → e.form ≡ f.Primop x xs → OnOk r
        (Adds a b (whatever_asked k + spans (all_trees xs)) (every context (all_trees xs) (scope_of a) (a.next + whatever_asked k) ++ (if is_raising x then never (slots_from a.next (whatever_asked k)) else [])))
        → OnOk r (Generates context a b k (tree e))
    primop_exit x xs is = of_tree (m.primop e.mark x (all_trees xs)) (primop_tree e x xs is)

    pub try_form : (x : TryOf Expr) → e.form ≡ f.Try x → OnOk r ((i : Mark) → Generates context a b k (m.try i (tree x.arg) x.vars (tree x.body) x.catch_vars (tree x.handler))) → OnOk r (Generates context a b k (tree e))
    try_form x is h = of_tree (m.try e.mark (tree x.arg) x.vars (tree x.body) x.catch_vars (tree x.handler)) (try_tree e x is) (on_ok_weaker r (λ g. g e.mark) h)

    pub catch_exit : (x : Expr) → e.form ≡ f.Catch x → OnOk r (Adds a b 1 []) → OnOk r (Generates context a b k (tree e))
    catch_exit x is = of_tree (m.catch e.mark (tree x)) (catch_tree e x is)

  module _ (r : Answer) (a b c : Generator) (e : Expr) where
    pub listed_exit : (xs : List Expr) (x : Expr) (value cells : ℕ) (slots : List ℕ) → e.form ≡ f.Listed xs x → value ≡ a.next → cells ≡ a.next + 1
        → slots ≡ value_slots (a.next + 1 + inner_cells (length xs)) (all_trees xs)
        → Adds a b (1 + inner_cells (length xs) + spans (all_trees xs)) (every context (all_trees xs) (scope_of a) (a.next + 1 + inner_cells (length xs)))
        → OnOk r (Adds b c (span one_value (tree x)) (rows_at context b one_value (tree x) ++ list_rows value cells slots b.next)) → OnOk r (Generates context a c k (tree e))
    listed_exit xs x value cells slots is value_is cells_are slots_are one h =
        let ts : m.Trees = all_trees xs in
        let t : m.Tree = tree x in
        let n : ℕ = inner_cells (length xs) in
        let first : ℕ = a.next + 1 + n in
        let rest : ℕ = first + spans ts in
        let tail : Scope → ℕ → Rows = λ sc s. given context one_value t sc s ++ list_rows a.next (a.next + 1) (value_slots first ts) s in
        let said : OnOk r (Adds b c (span one_value t) (tail (scope_of b) b.next)) =
        subst (λ z. OnOk r (Adds b c (span one_value t) (rows_at context b one_value t ++ list_rows z (a.next + 1) (value_slots first ts) b.next))) value_is
        (subst (λ z. OnOk r (Adds b c (span one_value t) (rows_at context b one_value t ++ list_rows value z (value_slots first ts) b.next))) cells_are
        (subst (λ z. OnOk r (Adds b c (span one_value t) (rows_at context b one_value t ++ list_rows value cells z b.next))) slots_are h)) in
        of_tree r a c e (m.listed e.mark ts t) (listed_tree e xs x is)
        (on_ok_weaker r (λ two.
        subst (λ j. Adds a c (1 + inner_cells j + spans ts + span one_value t) (every context ts (scope_of a) (a.next + 1 + inner_cells j) ++ given context one_value t (scope_of a) (a.next + 1 + inner_cells j + spans ts)
        ++ list_rows a.next (a.next + 1) (value_slots (a.next + 1 + inner_cells j) ts) (a.next + 1 + inner_cells j + spans ts))) (sym (how_many-length xs))
        (adds_as a c _ _ _ _ refl (sym (append_assoc (every context ts (scope_of a) first) (given context one_value t (scope_of a) rest) (list_rows a.next (a.next + 1) (value_slots first ts) rest)))
        (adds_then a b c (1 + n + spans ts) (span one_value t) (1 + n + spans ts + span one_value t) rest (every context ts (scope_of a) first) tail one two (omega arith) refl))) said)

    pub new_map_exit : (ps : List MapPair) (o : Option Expr) (value : ℕ) (t : Type4) → e.form ≡ f.Map ps o → o ≡ None → value ≡ a.next
        → Adds a b (1 + pair_spans (all_pairs ps)) (pair_rows (knowing context) context.home.now (scope_of a) (a.next + 1) (all_pairs ps)) → t ≡ of_kind Map → OnOk r (Adds b c 0 (bound value t))
        → OnOk r (Generates context a c k (tree e))
    new_map_exit ps o value t is none value_is one type_is h = of_tree r a c e (m.new_map e.mark (all_pairs ps)) (new_map_tree e ps (is ∙ ap (f.Map ps) none))
        (on_ok_weaker r (λ two. more a b c (1 + pair_spans (all_pairs ps)) (pair_rows (knowing context) context.home.now (scope_of a) (a.next + 1) (all_pairs ps)) (bound a.next (of_kind Map)) one
        (bounded context b c value a.next t (of_kind Map) value_is type_is two)) h)

    pub updated_map_exit : (ps : List MapPair) (o : Option Expr) (x : Expr) (value : ℕ) → e.form ≡ f.Map ps o → o ≡ Some x → value ≡ a.next
        → Adds a b (1 + pair_spans (all_pairs ps)) (pair_rows (knowing context) context.home.now (scope_of a) (a.next + 1) (all_pairs ps))
        → OnOk r (Adds b c (span one_value (tree x)) (rows_at context b one_value (tree x) ++ bound b.next (of_kind Map) ++ bound value (of_kind Map))) → OnOk r (Generates context a c k (tree e))
    updated_map_exit ps o x value is some value_is one h =
        let ts : m.Pairs = all_pairs ps in
        let t : m.Tree = tree x in
        let old : ℕ = a.next + 1 + pair_spans ts in
        let pairs : Rows = pair_rows (knowing context) context.home.now (scope_of a) (a.next + 1) ts in
        of_tree r a c e (m.updated_map e.mark ts t) (updated_map_tree e ps x (is ∙ ap (f.Map ps) some))
        (on_ok_weaker r (λ two.
        adds_as a c _ _ _ _ refl
        (sym (append_assoc pairs (given context one_value t (scope_of a) old ++ bound old (of_kind Map)) (bound a.next (of_kind Map)))
        ∙ ap (λ l. l ++ bound a.next (of_kind Map)) (sym (append_assoc pairs (given context one_value t (scope_of a) old) (bound old (of_kind Map)))))
        (adds_then a b c (1 + pair_spans ts) (span one_value t) (1 + pair_spans ts + span one_value t) old pairs (λ sc s. given context one_value t sc s ++ bound s (of_kind Map) ++ bound a.next (of_kind Map)) one
        (subst (λ z. Adds b c (span one_value t) (rows_at context b one_value t ++ bound b.next (of_kind Map) ++ bound z (of_kind Map))) value_is two) (omega arith) refl)) h)

    pub chain_exit : (ss : List (StepOf Expr)) (x : Expr) (around : ℕ) (rs : List ℕ) → e.form ≡ f.Chain ss x → around ≡ length a.variables → rs ≡ slots_from a.next (passed_on k)
        → Binds a b (passed_on k + step_spans (all_steps ss)) (step_rows (knowing context) context.home.now (scope_of a) (a.next + passed_on k) (all_steps ss)) (step_bindings (a.next + passed_on k) (all_steps ss))
        → OnOk r (Leaves around b c (span k (tree x)) (handing context k (tree x) rs (scope_of b) b.next)) → OnOk r (Generates context a c k (tree e))
    chain_exit ss x around rs is around_is rs_are one h =
        let ts : m.Steps = all_steps ss in
        let t : m.Tree = tree x in
        let first : ℕ = a.next + passed_on k in
        let last : ℕ = first + step_spans ts in
        let to : List ℕ = slots_from a.next (passed_on k) in
        let steps : Rows = step_rows (knowing context) context.home.now (scope_of a) first ts in
        let inner : Scope = with_bindings (scope_of a) (step_bindings first ts) in
        let inside : scope_of b ≡ inner = λ i. record { variables = one.variables i; functions = one.functions i } in
        let at : b.next ≡ last = one.next ∙ (let q : a.next + (passed_on k + step_spans ts) ≡ a.next + passed_on k + step_spans ts = omega arith in q) in
        of_tree r a c e (m.chain e.mark ts t) (chain_tree e ss x is)
        (on_ok_weaker r (λ two. record {
          next = two.next ∙ ap (λ z. z + span k t) one.next ∙ (let q : a.next + (passed_on k + step_spans ts) + span k t ≡ a.next + (passed_on k + step_spans ts + span k t) = omega arith in q);
          rows = two.rows ∙ ap (λ l. l ++ handing context k t rs (scope_of b) b.next) one.rows ∙ append_assoc (rows_of a) steps (handing context k t rs (scope_of b) b.next)
              ∙ ap (λ l. rows_of a ++ (steps ++ handing context k t l (scope_of b) b.next)) rs_are ∙ ap (λ sc. rows_of a ++ (steps ++ handing context k t to sc b.next)) inside
              ∙ ap (λ z. rows_of a ++ (steps ++ handing context k t to inner z)) at
              ∙ ap (λ l. rows_of a ++ l) (sym (append_assoc steps (given context k t inner last) (equals to (results k last t))));
          variables = two.variables ∙ ap (λ z. take z b.variables) around_is ∙ ap (take (length a.variables)) one.variables ∙ take-append_seam a.variables (step_bindings first ts);
          functions = two.functions ∙ one.functions;
        }) h)

    pub case_exit : (x : Expr) (cs : List Clause) (n : ℕ) (rs values : List ℕ) → e.form ≡ f.Case x cs → n ≡ width (all_clauses cs) → rs ≡ slots_from a.next (passed_on k)
        → values ≡ results (Exactly n) (a.next + passed_on k) (tree x)
        → Adds a b (passed_on k + span (Exactly n) (tree x)) (given context (Exactly n) (tree x) (scope_of a) (a.next + passed_on k))
        → OnOk r (Adds b c (clause_spans k (all_clauses cs)) (one_of (alternatives context rs values k (all_clauses cs) (scope_of b) b.next))) → OnOk r (Generates context a c k (tree e))
    case_exit x cs n rs values is count rs_are values_are one h =
        let t : m.Tree = tree x in
        let ts : m.Clauses = all_clauses cs in
        let argument : ℕ = a.next + passed_on k in
        let to : List ℕ = slots_from a.next (passed_on k) in
        of_tree r a c e (m.case e.mark t ts) (case_tree e x cs is)
        (on_ok_weaker r (λ two.
        subst (λ j. Adds a c (passed_on k + span (Exactly j) t + clause_spans k ts)
        (given context (Exactly j) t (scope_of a) argument ++ one_of (alternatives context to (results (Exactly j) argument t) k ts (scope_of a) (argument + span (Exactly j) t)))) count
        (adds_then a b c (passed_on k + span (Exactly n) t) (clause_spans k ts) (passed_on k + span (Exactly n) t + clause_spans k ts) (argument + span (Exactly n) t) (given context (Exactly n) t (scope_of a) argument)
        (λ sc s. one_of (alternatives context to (results (Exactly n) argument t) k ts sc s)) one
        (subst (λ l. Adds b c (clause_spans k ts) (one_of (alternatives context l (results (Exactly n) argument t) k ts (scope_of b) b.next))) rs_are
        (subst (λ l. Adds b c (clause_spans k ts) (one_of (alternatives context rs l k ts (scope_of b) b.next))) values_are two)) (omega arith) refl)) h)

    pub other_apply_exit : (x : Expr) (xs : List Expr) (operator : ℕ) → e.form ≡ f.Apply x xs → local_name (tree x) ≡ None → operator ≡ a.next + 1
        → Adds a b (1 + span one_value (tree x)) (given context one_value (tree x) (scope_of a) (a.next + 1))
        → OnOk r (Adds b c (spans (all_trees xs)) (every context (all_trees xs) (scope_of b) b.next ++ bound operator (function_type (length xs)))) → OnOk r (Generates context a c k (tree e))
    other_apply_exit x xs operator is unnamed operator_is one h =
        let t : m.Tree = tree x in
        let ts : m.Trees = all_trees xs in
        let s : ℕ = a.next + 1 in
        let said : Rows = given context one_value t (scope_of a) s in
        let args : Scope → ℕ → Rows = every context ts in
        of_tree r a c e (m.apply e.mark t ts) (apply_tree e x xs is)
        (on_ok_weaker r (λ two.
        subst (λ o. Adds a c (1 + unless_named o (span one_value t) + spans ts) (named_or o (λ g. args (scope_of a) s ++ applied_rows (knowing context) context.home.now a.functions g (how_many ts) a.next (value_slots s ts))
        (said ++ args (scope_of a) (s + span one_value t) ++ bound s (function_type (how_many ts))))) (sym unnamed)
        (adds_as a c _ _ _ _ refl
        (sym (append_assoc said (args (scope_of a) (s + span one_value t)) (bound s (function_type (length xs)))) ∙ ap (λ n. said ++ args (scope_of a) (s + span one_value t) ++ bound s (function_type n)) (sym (how_many-length xs)))
        (adds_then a b c (1 + span one_value t) (spans ts) (1 + span one_value t + spans ts) (s + span one_value t) said (λ sc z. args sc z ++ bound s (function_type (length xs))) one
        (subst (λ z. Adds b c (spans ts) (args (scope_of b) b.next ++ bound z (function_type (length xs)))) operator_is two) (omega arith) refl))) h)

  pub other_call_exit : (a b c d g : Generator) (e x y : Expr) (xs : List Expr) (given_by : Ask) (n : ℕ) → e.form ≡ f.Call x y xs → call_names (tree x) (tree y) ≡ None → given_by ≡ call_gives (tree x) (tree y) (length xs)
      → n ≡ call_results k given_by → Adds a b n []
      → Generates context b c one_value (tree x) → Generates context c d one_value (tree y) → Adds d g (spans (all_trees xs)) (every context (all_trees xs) (scope_of d) d.next) → Generates context a g k (tree e)
  other_call_exit a b c d g e x y xs given_by n is unnamed gives count one two three four =
      let t : m.Tree = tree x in
      let u : m.Tree = tree y in
      let ts : m.Trees = all_trees xs in
      let j : ℕ = call_results k (call_gives t u (how_many ts)) in
      let same : n ≡ j = count ∙ ap (call_results k) (gives ∙ ap (call_gives t u) (sym (how_many-length xs))) in
      let s : ℕ = a.next + j in
      let taken : Adds a b j [] = subst (λ z. Adds a b z []) same one in
      let first : Adds a c (j + span one_value t) (given context one_value t (scope_of a) s) = behind a b c j (span one_value t) (given context one_value t) taken two in
      let second : Adds a d (j + (span one_value t + span one_value u)) (given context one_value t (scope_of a) s ++ given context one_value u (scope_of a) (s + span one_value t)) =
      adds_then a c d (j + span one_value t) (span one_value u) (j + (span one_value t + span one_value u)) (s + span one_value t) (given context one_value t (scope_of a) s) (given context one_value u) first three (omega arith)
      (omega arith) in
      let third : Adds a g (j + (span one_value t + span one_value u) + spans ts)
      (given context one_value t (scope_of a) s ++ given context one_value u (scope_of a) (s + span one_value t) ++ every context ts (scope_of a) (s + (span one_value t + span one_value u))) =
      adds_then a d g (j + (span one_value t + span one_value u)) (spans ts) (j + (span one_value t + span one_value u) + spans ts) (s + (span one_value t + span one_value u))
      (given context one_value t (scope_of a) s ++ given context one_value u (scope_of a) (s + span one_value t)) (every context ts) second four (omega arith) refl in
      subst (Generates context a g k) (sym (call_tree e x y xs is))
      (subst (λ o. Adds a g (j + unless_named o (span one_value t + span one_value u) + spans ts)
      (named_or o (λ q. every context ts (scope_of a) s ++ called_rows (knowing context) q.0 q.1 (how_many ts) (slots_from a.next j) (value_slots s ts))
      (given context one_value t (scope_of a) s ++ given context one_value u (scope_of a) (s + span one_value t) ++ every context ts (scope_of a) (s + (span one_value t + span one_value u))))) (sym unnamed) third)

  -- the clauses, then the timeout, whose rows come first, then the action
  pub receive_exit : (r : Answer) (a b c d g h : Generator) (e : Expr) (cs : List Clause) (x y : Expr) (rs : List ℕ) (start middle slot again : ℕ) → e.form ≡ f.Receive cs x y → rs ≡ slots_from a.next (passed_on k)
      → start ≡ length a.members.items
      → Adds a b (passed_on k + 1 + clause_spans k (all_clauses cs)) (alternatives context (slots_from a.next (passed_on k)) ((a.next + passed_on k) ∷ []) k (all_clauses cs) (scope_of a) (a.next + passed_on k + 1))
      → slot ≡ b.next → middle ≡ length b.members.items → Generates context b c one_value (tree x) → again ≡ start + (length c.members.items - middle) → Rotates start middle c d
      → Adds d g (span k (tree y)) (together (rows_at context d k (tree y) ++ equals rs (results k d.next (tree y)) ++ bound slot naturals) ∷ []) → OnOk r (Gathers one_of again g h)
      → OnOk r (Generates context a h k (tree e))
  receive_exit r a b c d g h e cs x y rs start middle slot again is rs_are start_is one slot_is middle_is two again_is turned three said =
      let ts : m.Clauses = all_clauses cs in
      let t : m.Tree = tree x in
      let u : m.Tree = tree y in
      let q : ℕ = a.next + passed_on k in
      let timeout : ℕ = q + 1 + clause_spans k ts in
      let action : ℕ = timeout + span one_value t in
      let to : List ℕ = slots_from a.next (passed_on k) in
      let choices : Rows = alternatives context to (q ∷ []) k ts (scope_of a) (q + 1) in
      let waits : Rows = given context one_value t (scope_of a) timeout in
      let last : Rows = together (given context k u (scope_of a) action ++ equals to (results k action u) ++ bound timeout naturals) ∷ [] in
      let at_b : b.next ≡ timeout = one.next ∙ (let z : a.next + (passed_on k + 1 + clause_spans k ts) ≡ a.next + passed_on k + 1 + clause_spans k ts = omega arith in z) in
      let in_b : scope_of b ≡ scope_of a = λ i. record { variables = one.variables i; functions = one.functions i } in
      let at_d : d.next ≡ action = turned.next ∙ two.next ∙ ap (λ z. z + span one_value t) at_b in
      let in_d : scope_of d ≡ scope_of a = λ i. record { variables = (turned.variables ∙ two.variables ∙ one.variables) i; functions = (turned.functions ∙ two.functions ∙ one.functions) i } in
      let rows_b : rows_of b ≡ rows_of a ++ choices = one.rows in
      let rows_c : rows_of c ≡ (rows_of a ++ choices) ++ waits = two.rows ∙ ap (λ l. l ++ rows_at context b one_value t) rows_b ∙ ap (λ sc. (rows_of a ++ choices) ++ given context one_value t sc b.next) in_b
      ∙ ap (λ z. (rows_of a ++ choices) ++ given context one_value t (scope_of a) z) at_b in
      let from_a : start ≡ length (rows_of a) = start_is ∙ sym (mapped_length constraint a.members.items) in
      let from_b : middle ≡ length (rows_of a ++ choices) = middle_is ∙ sym (mapped_length constraint b.members.items) ∙ ap length rows_b in
      let from_c : length c.members.items ≡ length ((rows_of a ++ choices) ++ waits) = sym (mapped_length constraint c.members.items) ∙ ap length rows_c in
      let rows_d : rows_of d ≡ (rows_of a ++ waits) ++ choices = turned.rows
      ∙ ap (λ l. take start l ++ drop middle l ++ drop start (take middle l)) rows_c
      ∙ ap (λ z. take z ((rows_of a ++ choices) ++ waits) ++ drop middle ((rows_of a ++ choices) ++ waits) ++ drop z (take middle ((rows_of a ++ choices) ++ waits))) from_a
      ∙ ap (λ z. take (length (rows_of a)) ((rows_of a ++ choices) ++ waits) ++ drop z ((rows_of a ++ choices) ++ waits) ++ drop (length (rows_of a)) (take z ((rows_of a ++ choices) ++ waits))) from_b
      ∙ ap (λ l. l ++ drop (length (rows_of a ++ choices)) ((rows_of a ++ choices) ++ waits) ++ drop (length (rows_of a)) (take (length (rows_of a ++ choices)) ((rows_of a ++ choices) ++ waits)))
      (ap (take (length (rows_of a))) (append_assoc (rows_of a) choices waits) ∙ take-append_seam (rows_of a) (choices ++ waits))
      ∙ ap (λ l. rows_of a ++ l ++ drop (length (rows_of a)) (take (length (rows_of a ++ choices)) ((rows_of a ++ choices) ++ waits))) (drop_seam (rows_of a ++ choices) waits)
      ∙ ap (λ l. rows_of a ++ waits ++ drop (length (rows_of a)) l) (take-append_seam (rows_of a ++ choices) waits)
      ∙ ap (λ l. rows_of a ++ waits ++ l) (drop_seam (rows_of a) choices) in
      let rows_g : rows_of g ≡ (rows_of a ++ waits) ++ (choices ++ last) = three.rows
      ∙ ap (λ l. rows_of d ++ together (rows_at context d k u ++ equals l (results k d.next u) ++ bound slot naturals) ∷ []) rs_are
      ∙ ap (λ z. rows_of d ++ together (rows_at context d k u ++ equals to (results k d.next u) ++ bound z naturals) ∷ []) (slot_is ∙ at_b)
      ∙ ap (λ sc. rows_of d ++ together (given context k u sc d.next ++ equals to (results k d.next u) ++ bound timeout naturals) ∷ []) in_d
      ∙ ap (λ z. rows_of d ++ together (given context k u (scope_of a) z ++ equals to (results k z u) ++ bound timeout naturals) ∷ []) at_d
      ∙ ap (λ l. l ++ last) rows_d ∙ append_assoc (rows_of a ++ waits) choices last in
      let from_g : again ≡ length (rows_of a ++ waits) =
      (let l1 = length-append (rows_of a ++ choices) waits in let l2 = length-append (rows_of a) choices in let l3 = length-append (rows_of a) waits in omega arith) in
      of_tree r a h e (m.receive e.mark ts t u) (receive_tree e cs x y is)
      (on_ok_weaker r (λ four. record {
        next = four.next ∙ three.next ∙ ap (λ z. z + span k u) at_d ∙ (let z : a.next + passed_on k + 1 + clause_spans k ts + span one_value t + span k u
            ≡ a.next + (passed_on k + 1 + clause_spans k ts + span one_value t + span k u) = omega arith in z);
        rows = four.rows ∙ ap (λ l. take again l ++ one_of (drop again l)) rows_g
            ∙ ap (λ z. take z ((rows_of a ++ waits) ++ (choices ++ last)) ++ one_of (drop z ((rows_of a ++ waits) ++ (choices ++ last)))) from_g
            ∙ ap (λ l. l ++ one_of (drop (length (rows_of a ++ waits)) ((rows_of a ++ waits) ++ (choices ++ last)))) (take-append_seam (rows_of a ++ waits) (choices ++ last))
            ∙ ap (λ l. (rows_of a ++ waits) ++ one_of l) (drop_seam (rows_of a ++ waits) (choices ++ last))
            ∙ append_assoc (rows_of a) waits (one_of (choices ++ last));
        variables = four.variables ∙ three.variables ∙ turned.variables ∙ two.variables ∙ one.variables;
        functions = four.functions ∙ three.functions ∙ turned.functions ∙ two.functions ∙ one.functions;
      }) said)

-- ---- what was read of a call

pub gives_told : (x y read_x read_y : Expr) (n m : ℕ) (g : Ask) → read_x ≡ x → read_y ≡ y → n ≡ m → g ≡ call_gives (tree read_x) (tree read_y) n → g ≡ call_gives (tree x) (tree y) m
gives_told x y read_x read_y n m g x_is y_is same is = is ∙ ap (λ z. call_gives (tree z) (tree read_y) n) x_is ∙ ap (λ z. call_gives (tree x) (tree z) n) y_is ∙ ap (call_gives (tree x) (tree y)) same

pub names_told : (x y read_x read_y : Expr) → x ≡ read_x → y ≡ read_y → call_names (tree x) (tree y) ≡ call_names (tree read_x) (tree read_y)
names_told x y read_x read_y x_is y_is = ap (λ z. call_names (tree z) (tree y)) x_is ∙ ap (λ z. call_names (tree read_x) (tree z)) y_is
