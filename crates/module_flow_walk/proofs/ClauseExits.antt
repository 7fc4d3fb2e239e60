-- Clauses: what their heads solve, what their guards and bodies give and note, and the loop over them.
use Rattle.std.proofs.Common.{◌≡◌, ℕ, ◌+◌, ◌-◌, ◌<◌, ◌≤◌, List, [], ◌∷◌, ◌++◌, Some, length, map, slice_get, drop, get_or, replicate, sym, ap, ◌∙◌, append-nil, arith, drop_of_length-le}
use Rattle.type_lattice.specs.Types.{any}
use Rattle.core_ast.specs.declared.syntax.Clause.{Clause, out-Clause}
use Rattle.core_ast.specs.Model as m
use Rattle.core_ast.specs.Tree.{ClauseParts, all_clauses, all_patterns, clause_parts, tree}
use Rattle.core_ast.proofs.Items.{all_clauses-next}
use Rattle.core_ast.proofs.Trees.{clause-is}
use Rattle.core_scope.specs.declared.ask.Ask.{Ask}
use Rattle.core_scope.specs.Asks.{one_value}
use Rattle.cons_tree.specs.Constraints.{Cons, constraint}
use Rattle.cons_tree.specs.Facts.{TypeFacts}
use Rattle.cons_tree.specs.declared.parts.Constraint.{Constraint}
use Rattle.cons_tree.specs.declared.parts.Constraint.TheVariants as c
use Rattle.cons_tree.specs.declared.parts.Part.{Part}
use Rattle.cons_solve.specs.Environments.{solution}
use Rattle.cons_gen.specs.Made.{clause_slots, head_rows}
use Rattle.cons_gen_rows.specs.Patterns.{outer_bindings, outer_rows, outer_span}
use Rattle.cons_gen.specs.Spans.{span}
use Rattle.cons_gen_rows.specs.Words.{Rows, together}
use Rattle.cons_gen.specs.declared.heads.InScope.{InScope}
use Rattle.warn_list.specs.declared.finding.Finding.{Finding}
use Rattle.warn_list.specs.declared.finding.FindingKind.TheVariants.{DeadClause}
use Rattle.module_flow_calls.specs.declared.node_context.NodeContext.{NodeContext}
use Rattle.module_flow_state.specs.declared.states.Contribution.{Contribution}
use Rattle.module_flow_state.specs.declared.walk.FlowWalk.{FlowWalk}
use Rattle.module_flow_calls.specs.NodeContext.{at_node, under}
use Rattle.module_flow_calls.specs.TypeLists.{Given, either}
use Rattle.module_flow_walk.specs.Clauses.{head_solved, inside, patterns_solved}
use Rattle.module_flow_walk.specs.Findings.{either_found, found, found_in_clauses}
use Rattle.module_flow_walk.specs.Contributions.{contributions, contributions_of_clauses, where_solved}
use Rattle.module_flow_state.specs.Scopes.{WalkScope, scope_in}
use Rattle.module_flow_walk.specs.Walk.{passed, then_inside, walk, walk_clauses}
use Rattle.module_flow_state.specs.World.{World, strict}
use Rattle.module_flow_state.specs.steps.Walking.{left, noting, walk_scope_of, with_types}
use Rattle.module_flow_walk.specs.steps.Walked.{with_solved}
use Rattle.cons_tree.proofs.TreeLaws.{of_all}
use Rattle.module_flow_walk.proofs.Choices.{either_none, either_thrice}
use Rattle.module_flow_walk.proofs.Givens.{noting_as}
use Rattle.module_flow_state.proofs.Notes.{leaves, then_notes, inside as besides, notes_round}
use Rattle.module_flow_walk.proofs.Walks.{ended}

-- ---- one clause

-- of rows that are those of a head the first is that of the patterns
pub first_row : (rows : List Constraint) (p : Constraint) (c : Cons Part) (cs : Rows) → slice_get rows 0 ≡ Some p → map constraint rows ≡ c ∷ cs → constraint p ≡ c
first_row [] p c cs there is = absurd cc
first_row (r ∷ rows) p c cs there is =
    let same : r ≡ p = cc in
    let head : constraint r ≡ c = cc in
    ap constraint (sym same) ∙ head

module _ (W : World) (a : NodeContext) (k : Ask) (qs : List ℕ) where
  -- what a clause gives, and what is noted in it
  abbrev part_given : ClauseParts → WalkScope → Given
  part_given y sc = then_inside (head_solved W sc qs y.patterns y.guard) (λ solved. passed k (walk W (inside sc y.patterns solved) k y.body))

  abbrev part_contributions : ClauseParts → WalkScope → List Contribution
  part_contributions y sc =
      where_solved (patterns_solved sc qs y.patterns y.guard) (λ solved. contributions W (inside sc y.patterns solved) one_value y.guard)
      ++ where_solved (head_solved W sc qs y.patterns y.guard) (λ solved. contributions W (inside sc y.patterns solved) k y.body)

  abbrev part_found : ClauseParts → WalkScope → List Finding
  part_found y sc =
      either_found (head_solved W sc qs y.patterns y.guard) (at_node (under a y.mark.note) y.mark DeadClause)
      (λ solved. found W (under a y.mark.note) (inside sc y.patterns solved) k y.body)

  abbrev alone_given : Clause → WalkScope → Given
  alone_given x sc = walk_clauses W sc k qs (all_clauses (x ∷ []))

  abbrev alone_contributions : Clause → WalkScope → List Contribution
  alone_contributions x sc = contributions_of_clauses W sc k qs (all_clauses (x ∷ []))

  abbrev alone_found : Clause → WalkScope → List Finding
  alone_found x sc = found_in_clauses W a sc k qs (all_clauses (x ∷ []))

  -- the scope of a clause: its variables, and slots for its patterns and its guard
  abbrev opened : FlowWalk → ClauseParts → FlowWalk
  opened w y = besides w (outer_bindings (length w.types) y.patterns) (replicate (outer_span y.patterns + span one_value y.guard) any)

  abbrev patterns_row : FlowWalk → ClauseParts → Cons Part
  patterns_row w y = together (outer_rows qs (length w.types) y.patterns)

  abbrev head_row : FlowWalk → ClauseParts → Cons Part
  head_row w y = together (head_rows (strict W) W.home (scope_in (walk_scope_of w)) qs (length w.types) y.patterns y.guard)

  pub clause_opened : (w v : FlowWalk) (y : ClauseParts) (scope : InScope) (first slots : ℕ) → first ≡ length w.types → slots ≡ clause_slots first y.patterns y.guard
      → scope.variables ≡ w.scope.variables ++ outer_bindings first y.patterns → scope.functions ≡ w.scope.functions
      → v ≡ with_types (record w { scope = scope }) (w.types ++ replicate (slots - length w.types) any) → v ≡ opened w y
  clause_opened w v y scope first slots first_is slots_is variables functions is =
      let count : slots - length w.types ≡ outer_span y.patterns + span one_value y.guard =
      ap (λ n. n - length w.types) (slots_is ∙ ap (λ n. clause_slots n y.patterns y.guard) first_is)
      ∙ (let e : length w.types + outer_span y.patterns + span one_value y.guard - length w.types ≡ outer_span y.patterns + span one_value y.guard = omega arith in e) in
      is ∙ ap (λ n. with_types (record w { scope = scope }) (w.types ++ replicate n any)) count
      ∙ ap (λ bs. with_types (record w { scope = record { variables = bs; functions = scope.functions } }) (w.types ++ replicate (outer_span y.patterns + span one_value y.guard) any))
      (variables ∙ ap (λ n. w.scope.variables ++ outer_bindings n y.patterns) first_is)
      ∙ ap (λ fs. with_types (record w { scope = record { variables = w.scope.variables ++ outer_bindings (length w.types) y.patterns; functions = fs } }) (w.types ++ replicate (outer_span y.patterns + span one_value y.guard) any))
      functions

  module _ (w v x : FlowWalk) (y : ClauseParts) (opens : v ≡ opened w y) (p : Cons Part) (p_is : p ≡ patterns_row w y) (h : Cons Part) (h_is : h ≡ head_row w y)
      (one : x ≡ noting v (where_solved (solution p v.types) (λ solved. contributions W (with_solved (walk_scope_of v) solved) one_value y.guard)) []) where
    pub part_told : (g : Given) → g ≡ then_inside (solution h x.types) (λ solved. passed k (walk W (with_solved (walk_scope_of x) solved) k y.body)) → g ≡ part_given y (walk_scope_of w)
    part_told g is =
        is ∙ ap (λ z. then_inside (solution h z.types) (λ solved. passed k (walk W (with_solved (walk_scope_of z) solved) k y.body)))
        (one ∙ ap (λ z. noting z (where_solved (solution p v.types) (λ solved. contributions W (with_solved (walk_scope_of v) solved) one_value y.guard)) []) opens)
        ∙ ap (λ d. then_inside (solution d (opened w y).types) (λ solved. passed k (walk W (with_solved (walk_scope_of (opened w y)) solved) k y.body))) h_is

    pub part_noted : (z u : FlowWalk) (n l : ℕ) → n ≡ length w.scope.variables → l ≡ length w.types
        → z ≡ noting x (where_solved (solution h x.types) (λ solved. contributions W (with_solved (walk_scope_of x) solved) k y.body))
        (either_found (solution h x.types) (at_node (under a y.mark.note) y.mark DeadClause) (λ solved. found W (under a y.mark.note) (with_solved (walk_scope_of x) solved) k y.body))
        → u ≡ left z n l → u ≡ noting w (part_contributions y (walk_scope_of w)) (part_found y (walk_scope_of w))
    part_noted z u n l n_is l_is two three =
        leaves w v z u (outer_bindings (length w.types) y.patterns) (replicate (outer_span y.patterns + span one_value y.guard) any) (part_contributions y (walk_scope_of w)) (part_found y (walk_scope_of w)) n l opens
        (then_notes v x z (where_solved (solution p v.types) (λ solved. contributions W (with_solved (walk_scope_of v) solved) one_value y.guard)) []
        (λ sc. where_solved (solution h sc.types) (λ solved. contributions W (with_solved sc solved) k y.body))
        (λ sc. either_found (solution h sc.types) (at_node (under a y.mark.note) y.mark DeadClause) (λ solved. found W (under a y.mark.note) (with_solved sc solved) k y.body)) one two
        ∙ ap (λ s. noting v (where_solved (solution p s.types) (λ solved. contributions W (with_solved (walk_scope_of s) solved) one_value y.guard)
        ++ where_solved (solution h s.types) (λ solved. contributions W (with_solved (walk_scope_of s) solved) k y.body))
        (either_found (solution h s.types) (at_node (under a y.mark.note) y.mark DeadClause) (λ solved. found W (under a y.mark.note) (with_solved (walk_scope_of s) solved) k y.body))) opens
        ∙ ap (λ d. noting v (where_solved (solution d (opened w y).types) (λ solved. contributions W (with_solved (walk_scope_of (opened w y)) solved) one_value y.guard)
        ++ where_solved (solution h (opened w y).types) (λ solved. contributions W (with_solved (walk_scope_of (opened w y)) solved) k y.body))
        (either_found (solution h (opened w y).types) (at_node (under a y.mark.note) y.mark DeadClause) (λ solved. found W (under a y.mark.note) (with_solved (walk_scope_of (opened w y)) solved) k y.body))) p_is
        ∙ ap (λ d. noting v (where_solved (patterns_solved (walk_scope_of w) qs y.patterns y.guard) (λ solved. contributions W (with_solved (walk_scope_of (opened w y)) solved) one_value y.guard)
        ++ where_solved (solution d (opened w y).types) (λ solved. contributions W (with_solved (walk_scope_of (opened w y)) solved) k y.body))
        (either_found (solution d (opened w y).types) (at_node (under a y.mark.note) y.mark DeadClause) (λ solved. found W (under a y.mark.note) (with_solved (walk_scope_of (opened w y)) solved) k y.body))) h_is) n_is l_is three

  -- a clause by itself
  pub alone_told : (x : Clause) (sc : WalkScope) (g : Given) → g ≡ part_given (clause_parts x) sc → g ≡ alone_given x sc
  alone_told x sc g is = is ∙ sym (either_none (part_given (clause_parts x) sc))

  pub alone_noted : (x : Clause) (w v : FlowWalk) → v ≡ noting w (part_contributions (clause_parts x) (walk_scope_of w)) (part_found (clause_parts x) (walk_scope_of w))
      → v ≡ noting w (alone_contributions x (walk_scope_of w)) (alone_found x (walk_scope_of w))
  alone_noted x w v = noting_as w v (part_contributions (clause_parts x) (walk_scope_of w)) (alone_contributions x (walk_scope_of w)) (part_found (clause_parts x) (walk_scope_of w)) (alone_found x (walk_scope_of w))
      (sym (append-nil (part_contributions (clause_parts x) (walk_scope_of w)))) (sym (append-nil (part_found (clause_parts x) (walk_scope_of w))))

  -- the code's clause, whose parts it reads one by one
  abbrev read : Clause → ClauseParts
  read x = let y = out-Clause x in record { mark = y.mark; patterns = all_patterns y.patterns; guard = tree y.guard; body = tree y.body }

  abbrev first_solved : FlowWalk → Cons Part → m.Tree → List Contribution
  first_solved v c g = where_solved (solution c v.types) (λ solved. contributions W (with_solved (walk_scope_of v) solved) one_value g)

  module _ (w v s : FlowWalk) (x : Clause) (scope : InScope) (first slots : ℕ) (rows : List Constraint) (p : Constraint) (first_is : first ≡ length w.types)
      (slots_is : slots ≡ clause_slots first (clause_parts x).patterns (clause_parts x).guard) (variables : scope.variables ≡ w.scope.variables ++ outer_bindings first (clause_parts x).patterns)
      (functions : scope.functions ≡ w.scope.functions)
      (opens_by : v ≡ with_types (record w { scope = scope }) (w.types ++ replicate (slots - length w.types) any)) (there : slice_get rows 0 ≡ Some p)
      (rows_are : map constraint rows ≡ head_rows (strict W) W.home (scope_in (walk_scope_of w)) qs first (clause_parts x).patterns (clause_parts x).guard)
      (guarded : s ≡ noting v (first_solved v (constraint p) (tree (out-Clause x).guard)) []) where
    clause_opens : v ≡ opened w (read x)
    clause_opens = clause_opened w v (read x) scope first slots first_is (slots_is ∙ ap (λ y. clause_slots first y.patterns y.guard) (clause-is x))
        (variables ∙ ap (λ y. w.scope.variables ++ outer_bindings first y.patterns) (clause-is x)) functions opens_by

    rows_read : map constraint rows ≡ head_rows (strict W) W.home (scope_in (walk_scope_of w)) qs (length w.types) (read x).patterns (read x).guard
    rows_read = rows_are ∙ ap (λ y. head_rows (strict W) W.home (scope_in (walk_scope_of w)) qs first y.patterns y.guard) (clause-is x)
        ∙ ap (λ n. head_rows (strict W) W.home (scope_in (walk_scope_of w)) qs n (read x).patterns (read x).guard) first_is

    patterns_read : constraint p ≡ patterns_row w (read x)
    patterns_read = first_row rows p _ _ there rows_read

    head_read : constraint (c.All rows) ≡ head_row w (read x)
    head_read = of_all rows ∙ ap together rows_read

    pub clause_told : (g : Given) → g ≡ then_inside (solution (constraint (c.All rows)) s.types) (λ solved. passed k (walk W (with_solved (walk_scope_of s) solved) k (tree (out-Clause x).body)))
        → g ≡ alone_given x (walk_scope_of w)
    clause_told g is = alone_told x (walk_scope_of w) g (part_told w v s (read x) clause_opens (constraint p) patterns_read (constraint (c.All rows)) head_read guarded g is ∙ ap (λ y. part_given y (walk_scope_of w)) (sym (clause-is x)))

    pub clause_noted : (z u : FlowWalk) (inner : NodeContext) (n l : ℕ) → inner ≡ under a (out-Clause x).mark.note → n ≡ length w.scope.variables → l ≡ length w.types
        → z ≡ noting s (where_solved (solution (constraint (c.All rows)) s.types) (λ solved. contributions W (with_solved (walk_scope_of s) solved) k (tree (out-Clause x).body)))
        (either_found (solution (constraint (c.All rows)) s.types) (at_node inner (out-Clause x).mark DeadClause) (λ solved. found W inner (with_solved (walk_scope_of s) solved) k (tree (out-Clause x).body)))
        → u ≡ left z n l → u ≡ noting w (alone_contributions x (walk_scope_of w)) (alone_found x (walk_scope_of w))
    clause_noted z u inner n l inner_is n_is l_is two three =
        alone_noted x w u
        (part_noted w v s (read x) clause_opens (constraint p) patterns_read (constraint (c.All rows)) head_read guarded z u n l n_is l_is
        (two ∙ ap (λ b. noting s (where_solved (solution (constraint (c.All rows)) s.types) (λ solved. contributions W (with_solved (walk_scope_of s) solved) k (tree (out-Clause x).body)))
        (either_found (solution (constraint (c.All rows)) s.types) (at_node b (out-Clause x).mark DeadClause) (λ solved. found W b (with_solved (walk_scope_of s) solved) k (tree (out-Clause x).body)))) inner_is) three
        ∙ ap (λ y. noting w (part_contributions y (walk_scope_of w)) (part_found y (walk_scope_of w))) (sym (clause-is x)))

  -- ---- the loop

  module _ (cs : List Clause) (w : FlowWalk) (i : ℕ) where
    abbrev left_given : FlowWalk → ℕ → Given
    left_given z n = walk_clauses W (walk_scope_of z) k qs (all_clauses (drop n cs))

    abbrev left_contributions : ℕ → WalkScope → List Contribution
    left_contributions n sc = contributions_of_clauses W sc k qs (all_clauses (drop n cs))

    abbrev left_found : ℕ → WalkScope → List Finding
    left_found n sc = found_in_clauses W a sc k qs (all_clauses (drop n cs))

    pub clauses_end : (before goal : Given) → length cs ≤ i → either before (left_given w i) ≡ goal → before ≡ goal
    clauses_end before goal past h = sym (ap (λ z. either before (walk_clauses W (walk_scope_of w) k qs (all_clauses z))) (drop_of_length-le cs past) ∙ either_none before) ∙ h

    pub clauses_noted : (goal : FlowWalk) → length cs ≤ i → noting w (left_contributions i (walk_scope_of w)) (left_found i (walk_scope_of w)) ≡ goal → w ≡ goal
    clauses_noted goal past = ended w goal (left_contributions i (walk_scope_of w)) (left_found i (walk_scope_of w))
        (ap (λ z. contributions_of_clauses W (walk_scope_of w) k qs (all_clauses z)) (drop_of_length-le cs past)) (ap (λ z. found_in_clauses W a (walk_scope_of w) k qs (all_clauses z)) (drop_of_length-le cs past))

    module _ (v : FlowWalk) (x : Clause) (within : i < length cs) (is : x ≡ get_or cs i x) (step : v ≡ noting w (alone_contributions x (walk_scope_of w)) (alone_found x (walk_scope_of w))) where
      abbrev rest : m.Clauses
      rest = all_clauses (drop (i + 1) cs)

      abbrev opened_by : ClauseParts → m.Clauses
      opened_by y = m.and_clause y.mark y.patterns y.guard y.body rest

      opens : all_clauses (drop i cs) ≡ opened_by (clause_parts x)
      opens = all_clauses-next cs i x within ∙ ap (λ z. opened_by (clause_parts z)) (sym is)

      pub clauses_round : (facts : TypeFacts) (before other after goal : Given) → other ≡ alone_given x (walk_scope_of w) → after ≡ either before other → either before (left_given w i) ≡ goal
          → either after (left_given v (i + 1)) ≡ goal
      clauses_round facts before other after goal other_is after_is h =
          ap (λ g. either g (left_given v (i + 1))) after_is ∙ either_thrice facts before other (left_given v (i + 1))
          ∙ ap (λ z. either before (either other (left_given z (i + 1)))) step
          ∙ ap (λ g. either before (either g (left_given w (i + 1)))) (other_is ∙ either_none (part_given (clause_parts x) (walk_scope_of w)))
          ∙ ap (λ z. either before (walk_clauses W (walk_scope_of w) k qs z)) (sym opens) ∙ h

      pub clauses_noted_round : (goal : FlowWalk) → noting w (left_contributions i (walk_scope_of w)) (left_found i (walk_scope_of w)) ≡ goal
          → noting v (left_contributions (i + 1) (walk_scope_of v)) (left_found (i + 1) (walk_scope_of v)) ≡ goal
      clauses_noted_round goal = notes_round w v goal (alone_contributions x) (left_contributions (i + 1)) (left_contributions i) (alone_found x) (left_found (i + 1)) (left_found i) step
          (ap (λ z. contributions_of_clauses W (walk_scope_of w) k qs z) opens ∙ ap (λ l. l ++ left_contributions (i + 1) (walk_scope_of w)) (sym (append-nil (part_contributions (clause_parts x) (walk_scope_of w)))))
          (ap (λ z. found_in_clauses W a (walk_scope_of w) k qs z) opens ∙ ap (λ l. l ++ left_found (i + 1) (walk_scope_of w)) (sym (append-nil (part_found (clause_parts x) (walk_scope_of w)))))
