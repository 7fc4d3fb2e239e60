-- The loops over expressions, steps and clauses: what each round keeps.
use Rattle.std.proofs.Common.{◌≡◌, ℕ, ◌+◌, ◌<◌, List, [], ◌∷◌, ◌++◌, length, drop, get_or, refl, sym, ap, ◌∙◌, arith}
use Rattle.std.proofs.lemmas.List.{append-nil}
use Rattle.core_ast.specs.declared.syntax.Expr.{Expr}
use Rattle.core_ast.specs.declared.syntax.MapPair.{MapPair}
use Rattle.core_ast.specs.declared.syntax.Segment.{Segment, out-Segment}
use Rattle.core_ast.specs.declared.syntax.Clause.{Clause}
use Rattle.core_ast.specs.declared.syntax.StepOf.{StepOf}
use Rattle.core_ast.specs.declared.syntax.StepOf.TheVariants.{Let, Do}
use Rattle.core_ast.specs.Model as m
use Rattle.core_ast.specs.Tree.{ClauseParts, tree, all_trees, all_pairs, all_segments, all_steps, all_clauses, clause_parts, pair_parts, segment_parts}
use Rattle.cons_gen_rows.specs.Counts.{results}
use Rattle.cons_gen_rows.specs.Patterns.{outer_span}
use Rattle.cons_gen_rows.specs.Scopes.{Binding, Scope, bindings, with_bindings}
use Rattle.cons_gen_rows.specs.Slots.{slots_from}
use Rattle.cons_gen_rows.specs.Walking.{Adds, AddsRest, BindsRest, knowing, scope_of}
use Rattle.cons_gen_rows.specs.Words.{Rows, equals}
use Rattle.cons_gen_rows.specs.declared.generator.Generator.{Generator}
use Rattle.cons_gen_rows.specs.declared.passes.Surroundings.{Surroundings}
use Rattle.cons_gen_rows.proofs.Adding.{adds_then, bind_round, rest_round}
use Rattle.cons_gen.specs.Rows.{pair_rows, step_bindings, step_rows}
use Rattle.cons_gen.specs.Spans.{clause_spans, pair_spans, segment_spans, span, spans, step_spans}
use Rattle.cons_gen.specs.steps.Generating.{Generates, rows_at}
use Rattle.cons_gen.proofs.ControlExits.{Stepped, alternatives, given}
use Rattle.cons_gen.proofs.FormExits.{each_segment, every}
use Rattle.core_ast.proofs.Items.{all_trees-next, all_pairs-next, all_segments-next, all_steps-next, all_clauses-next}
use Rattle.core_ast.proofs.Trees.{pair-is, segment-is}
use Rattle.core_scope.specs.declared.ask.Ask.{Ask}
use Rattle.core_scope.specs.declared.ask.Ask.TheVariants.{AnyNumber, Exactly}
use Rattle.core_scope.specs.Asks.{one_value}

opened : (es : List Expr) (i : ℕ) (e : Expr) → i < length es → e ≡ get_or es i e → all_trees (drop i es) ≡ m.and_tree (tree e) (all_trees (drop (i + 1) es))
opened es i e within is = all_trees-next es i e within ∙ ap (λ z. m.and_tree (tree z) (all_trees (drop (i + 1) es))) (sym is)

module _ (context : Surroundings) (first : Generator) (all : ℕ) (whole : Rows) where
  pub all_round : (b c : Generator) (es : List Expr) (i : ℕ) (e : Expr) → i < length es → e ≡ get_or es i e → Generates context b c one_value (tree e)
      → AddsRest first b (spans (all_trees (drop i es))) all (every context (all_trees (drop i es)) (scope_of b) b.next) whole
      → AddsRest first c (spans (all_trees (drop (i + 1) es))) all (every context (all_trees (drop (i + 1) es)) (scope_of c) c.next) whole
  all_round b c es i e within is one before =
      let rest : m.Trees = all_trees (drop (i + 1) es) in
      let open_here = opened es i e within is in
      rest_round first b c (spans (all_trees (drop i es))) (spans rest) (span one_value (tree e)) all (every context (all_trees (drop i es)) (scope_of b) b.next) (rows_at context b one_value (tree e)) whole (every context rest) before one
      (ap spans open_here) (ap (λ ts. every context ts (scope_of b) b.next) open_here)

  abbrev paired : m.Pairs → Scope → ℕ → Rows
  paired ps s k = pair_rows (knowing context) context.home.now s k ps

  pub pairs_round : (b c d : Generator) (ps : List MapPair) (i : ℕ) (p : MapPair) → i < length ps → p ≡ get_or ps i p → Generates context b c one_value (tree p.key) → Generates context c d one_value (tree p.value)
      → AddsRest first b (pair_spans (all_pairs (drop i ps))) all (paired (all_pairs (drop i ps)) (scope_of b) b.next) whole
      → AddsRest first d (pair_spans (all_pairs (drop (i + 1) ps))) all (paired (all_pairs (drop (i + 1) ps)) (scope_of d) d.next) whole
  pairs_round b c d ps i p within is one two before =
      let key : m.Tree = tree p.key in
      let value : m.Tree = tree p.value in
      let rest : m.Pairs = all_pairs (drop (i + 1) ps) in
      let n : ℕ = span one_value key + span one_value value in
      let open_here = all_pairs-next ps i p within ∙ ap (λ x. let y = pair_parts x in m.and_pair y.exact y.key y.value rest) (sym is) ∙ ap (λ y. m.and_pair y.exact y.key y.value rest) (pair-is p) in
      let here : Rows = given context one_value key (scope_of b) b.next ++ given context one_value value (scope_of b) (b.next + span one_value key) in
      let both : Adds b d n here = adds_then b c d (span one_value key) (span one_value value) n (b.next + span one_value key) (given context one_value key (scope_of b) b.next) (given context one_value value) one two refl refl in
      let at : b.next + span one_value key + span one_value value ≡ b.next + n = omega arith in
      rest_round first b d (pair_spans (all_pairs (drop i ps))) (pair_spans rest) n all (paired (all_pairs (drop i ps)) (scope_of b) b.next) here whole (paired rest) before both
      (ap pair_spans open_here) (ap (λ ts. paired ts (scope_of b) b.next) open_here ∙ ap (λ k. here ++ paired rest (scope_of b) k) at)

  pub segments_round : (b c d : Generator) (ss : List Segment) (i : ℕ) (x : Segment) (args : List Expr) → i < length ss → x ≡ get_or ss i x → Generates context b c one_value (tree (out-Segment x).value)
      → args ≡ (out-Segment x).args
      → Adds c d (spans (all_trees args)) (every context (all_trees args) (scope_of c) c.next)
      → AddsRest first b (segment_spans (all_segments (drop i ss))) all (each_segment context (all_segments (drop i ss)) (scope_of b) b.next) whole
      → AddsRest first d (segment_spans (all_segments (drop (i + 1) ss))) all (each_segment context (all_segments (drop (i + 1) ss)) (scope_of d) d.next) whole
  segments_round b c d ss i x args within is one args_are two before =
      let value : m.Tree = tree (out-Segment x).value in
      let ts : m.Trees = all_trees args in
      let rest : m.Segments = all_segments (drop (i + 1) ss) in
      let n : ℕ = span one_value value + spans ts in
      let open_here = all_segments-next ss i x within ∙ ap (λ z. let y = segment_parts z in m.and_segment y.value y.args rest) (sym is) ∙ ap (λ y. m.and_segment y.value y.args rest) (segment-is x)
      ∙ ap (λ z. m.and_segment value (all_trees z) rest) (sym args_are) in
      let here : Rows = given context one_value value (scope_of b) b.next ++ every context ts (scope_of b) (b.next + span one_value value) in
      let both : Adds b d n here = adds_then b c d (span one_value value) (spans ts) n (b.next + span one_value value) (given context one_value value (scope_of b) b.next) (every context ts) one two refl refl in
      let at : b.next + span one_value value + spans ts ≡ b.next + n = omega arith in
      rest_round first b d (segment_spans (all_segments (drop i ss))) (segment_spans rest) n all (each_segment context (all_segments (drop i ss)) (scope_of b) b.next) here whole (each_segment context rest) before both
      (ap segment_spans open_here) (ap (λ z. each_segment context z (scope_of b) b.next) open_here ∙ ap (λ k. here ++ each_segment context rest (scope_of b) k) at)

  pub clauses_round : (b c : Generator) (k : Ask) (to qs : List ℕ) (cs : List Clause) (i : ℕ) (x : Clause) → i < length cs → x ≡ get_or cs i x
      → Adds b c (clause_spans k (all_clauses (x ∷ []))) (alternatives context to qs k (all_clauses (x ∷ [])) (scope_of b) b.next)
      → AddsRest first b (clause_spans k (all_clauses (drop i cs))) all (alternatives context to qs k (all_clauses (drop i cs)) (scope_of b) b.next) whole
      → AddsRest first c (clause_spans k (all_clauses (drop (i + 1) cs))) all (alternatives context to qs k (all_clauses (drop (i + 1) cs)) (scope_of c) c.next) whole
  clauses_round b c k to qs cs i x within is one before =
      let rest : m.Clauses = all_clauses (drop (i + 1) cs) in
      let open_here = all_clauses-next cs i x within ∙ ap (λ z. let y = clause_parts z in m.and_clause y.mark y.patterns y.guard y.body rest) (sym is) in
      let opens : all_clauses (drop i cs) ≡ (let y = clause_parts x in m.and_clause y.mark y.patterns y.guard y.body rest) = open_here in
      let alone : m.Clauses = all_clauses (x ∷ []) in
      let wide : (let y = clause_parts x in clause_spans k (m.and_clause y.mark y.patterns y.guard y.body rest)) ≡ clause_spans k alone + clause_spans k rest = omega arith in
      let at : b.next + clause_spans k alone ≡ b.next + clause_spans k alone = refl in
      rest_round first b c (clause_spans k (all_clauses (drop i cs))) (clause_spans k rest) (clause_spans k alone) all (alternatives context to qs k (all_clauses (drop i cs)) (scope_of b) b.next)
      (alternatives context to qs k alone (scope_of b) b.next) whole (alternatives context to qs k rest) before one
      (ap (clause_spans k) opens ∙ wide)
      (ap (λ z. alternatives context to qs k z (scope_of b) b.next) opens ∙ rows_next b to qs k (clause_parts x) rest)
    where
      rows_next : (g : Generator) (to qs : List ℕ) (k : Ask) (y : ClauseParts) (rest : m.Clauses)
          → alternatives context to qs k (m.and_clause y.mark y.patterns y.guard y.body rest) (scope_of g) g.next
          ≡ alternatives context to qs k (m.and_clause y.mark y.patterns y.guard y.body m.no_clause) (scope_of g) g.next
          ++ alternatives context to qs k rest (scope_of g) (g.next + clause_spans k (m.and_clause y.mark y.patterns y.guard y.body m.no_clause))
      rows_next g to qs k y rest =
          ap (λ s. alternatives context to qs k (m.and_clause y.mark y.patterns y.guard y.body m.no_clause) (scope_of g) g.next ++ alternatives context to qs k rest (scope_of g) s)
          (let e : g.next + outer_span y.patterns + span one_value y.guard + span k y.body ≡ g.next + clause_spans k (m.and_clause y.mark y.patterns y.guard y.body m.no_clause) = omega arith in e)

-- ---- steps

without : (sc : Scope) → sc ≡ with_bindings sc []
without sc = λ i. record { variables = sym (append-nil sc.variables) i; functions = sc.functions }

step_wide : (x : StepOf Expr) (rest : List (StepOf Expr)) → step_spans (all_steps (x ∷ rest)) ≡ step_spans (all_steps (x ∷ [])) + step_spans (all_steps rest)
step_wide (Let i xs e) rest = omega arith
step_wide (Do i e) rest = omega arith

step_binds : (s : ℕ) (x : StepOf Expr) (rest : List (StepOf Expr)) → step_bindings s (all_steps (x ∷ rest)) ≡ step_bindings s (all_steps (x ∷ [])) ++ step_bindings (s + step_spans (all_steps (x ∷ []))) (all_steps rest)
step_binds s (Let i xs e) rest =
    ap (λ l. l ++ step_bindings (s + length xs + span (Exactly (length xs)) (tree e)) (all_steps rest)) (sym (append-nil (bindings xs s)))
    ∙ ap (λ k. (bindings xs s ++ []) ++ step_bindings k (all_steps rest)) (let q : s + length xs + span (Exactly (length xs)) (tree e) ≡ s + step_spans (all_steps (Let i xs e ∷ [])) = omega arith in q)
step_binds s (Do i e) rest = ap (λ k. step_bindings k (all_steps rest)) (let q : s + span AnyNumber (tree e) ≡ s + step_spans (all_steps (Do i e ∷ [])) = omega arith in q)

module _ (context : Surroundings) where
  abbrev stepped : m.Steps → Scope → ℕ → Rows
  stepped ss sc s = step_rows (knowing context) context.home.now sc s ss

  step_adds : (sc : Scope) (s : ℕ) (x : StepOf Expr) (rest : List (StepOf Expr))
      → stepped (all_steps (x ∷ rest)) sc s ≡ stepped (all_steps (x ∷ [])) sc s ++ stepped (all_steps rest) (with_bindings sc (step_bindings s (all_steps (x ∷ [])))) (s + step_spans (all_steps (x ∷ [])))
  step_adds sc s (Let i xs e) rest =
      let n : ℕ = length xs in
      let k : Ask = Exactly n in
      let here : Rows = given context k (tree e) sc (s + n) ++ equals (slots_from s n) (results k (s + n) (tree e)) in
      ap (λ l. l ++ stepped (all_steps rest) (with_bindings sc (bindings xs s)) (s + n + span k (tree e))) (sym (append-nil here))
      ∙ ap (λ bs. (here ++ []) ++ stepped (all_steps rest) (with_bindings sc bs) (s + n + span k (tree e))) (sym (append-nil (bindings xs s)))
      ∙ ap (λ z. (here ++ []) ++ stepped (all_steps rest) (with_bindings sc (bindings xs s ++ [])) z) (let q : s + n + span k (tree e) ≡ s + step_spans (all_steps (Let i xs e ∷ [])) = omega arith in q)
  step_adds sc s (Do i e) rest =
      let here : Rows = given context AnyNumber (tree e) sc s in
      ap (λ l. l ++ stepped (all_steps rest) sc (s + span AnyNumber (tree e))) (sym (append-nil here))
      ∙ ap (λ z. (here ++ []) ++ stepped (all_steps rest) z (s + span AnyNumber (tree e))) (without sc)
      ∙ ap (λ z. (here ++ []) ++ stepped (all_steps rest) (with_bindings sc []) z) (let q : s + span AnyNumber (tree e) ≡ s + step_spans (all_steps (Do i e ∷ [])) = omega arith in q)

  pub steps_round : (first b c : Generator) (all : ℕ) (whole : Rows) (bound : List Binding) (ss : List (StepOf Expr)) (i : ℕ) (x : StepOf Expr) → i < length ss → x ≡ get_or ss i x → Stepped context b c (all_steps (x ∷ []))
      → BindsRest first b (step_spans (all_steps (drop i ss))) all (stepped (all_steps (drop i ss)) (scope_of b) b.next) whole (step_bindings b.next (all_steps (drop i ss))) bound
      → BindsRest first c (step_spans (all_steps (drop (i + 1) ss))) all (stepped (all_steps (drop (i + 1) ss)) (scope_of c) c.next) whole (step_bindings c.next (all_steps (drop (i + 1) ss))) bound
  steps_round first b c all whole bound ss i x within is one before =
      let rest : List (StepOf Expr) = drop (i + 1) ss in
      let opens : all_steps (drop i ss) ≡ all_steps (x ∷ rest) = all_steps-next ss i x within ∙ ap (λ z. all_steps (z ∷ rest)) (sym is) in
      let alone : m.Steps = all_steps (x ∷ []) in
      bind_round first b c (step_spans (all_steps (drop i ss))) (step_spans (all_steps rest)) (step_spans alone) all (stepped (all_steps (drop i ss)) (scope_of b) b.next) (stepped alone (scope_of b) b.next) whole
      (step_bindings b.next (all_steps (drop i ss))) (step_bindings b.next alone) bound (stepped (all_steps rest)) (λ k. step_bindings k (all_steps rest)) before one
      (ap step_spans opens ∙ step_wide x rest)
      (ap (λ z. stepped z (scope_of b) b.next) opens ∙ step_adds (scope_of b) b.next x rest)
      (ap (step_bindings b.next) opens ∙ step_binds b.next x rest)
