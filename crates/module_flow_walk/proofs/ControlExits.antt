-- The forms that bind variables, choose and wait: what each way out of their walks gives and notes.
use Rattle.std.proofs.Common.{◌≡◌, ℕ, ◌+◌, ◌<◌, ◌≤◌, Bool, cond, List, [], ◌∷◌, ◌++◌, Option, None, length, drop, get_or, sym, ap, ◌∙◌, append-nil, drop_of_length-le}
use Rattle.type_lattice.specs.Types.{Type4}
use Rattle.core_ast.specs.declared.syntax.Expr.{Expr}
use Rattle.core_ast.specs.declared.syntax.FunDefOf.{FunDefOf}
use Rattle.core_ast.specs.declared.syntax.VarName.{VarName}
use Rattle.core_ast.specs.Model as m
use Rattle.core_ast.specs.Tree.{tree, all_defs}
use Rattle.core_ast.proofs.Items.{all_defs-next}
use Rattle.core_scope.specs.declared.ask.Ask.{Ask}
use Rattle.core_scope.specs.Asks.{one_value}
use Rattle.cons_gen_rows.specs.Scopes.{bindings}
use Rattle.warn_list.specs.declared.finding.Finding.{Finding}
use Rattle.module_flow_calls.specs.declared.node_context.NodeContext.{NodeContext}
use Rattle.module_flow_state.specs.declared.states.Contribution.{Contribution}
use Rattle.module_flow_state.specs.declared.walk.FlowWalk.{FlowWalk}
use Rattle.module_flow_calls.specs.NodeContext.{under}
use Rattle.module_flow_calls.specs.TypeLists.{Given, as_many}
use Rattle.module_flow_walk.specs.Findings.{found, found_in_clauses, found_in_functions}
use Rattle.module_flow_walk.specs.Contributions.{contributions, contributions_of_clauses, contributions_of_functions, where_entered, where_seen}
use Rattle.module_flow_state.specs.States.{returns, parameters_of}
use Rattle.module_flow_state.specs.Scopes.{WalkScope, matching, with_functions, with_variables}
use Rattle.module_flow_walk.specs.Walk.{passed, then_seen, walk, walk_clauses}
use Rattle.module_flow_state.specs.World.{World}
use Rattle.module_flow_state.specs.steps.Walking.{Grows, left, noting, seeing, walk_scope_of, undefined, with_types}
use Rattle.module_flow_walk.specs.steps.Walked.{sees}
use Rattle.module_flow_walk.proofs.Givens.{noting_as}
use Rattle.module_flow_state.proofs.Notes.{inside_matching, leaves, noting_both, then_notes, undefines, notes_round}
use Rattle.module_flow_walk.proofs.Walks.{ended, seen_given, seen_list}

-- ---- variables

module _ (W : World) (a : NodeContext) (k : Ask) (t : m.Tree) where
  -- an expression that also sees variables
  pub under_given : (w v : FlowWalk) (g : Given) (xs : List VarName) (us : List Type4) → v ≡ seeing w (with_variables (walk_scope_of w) xs us) → g ≡ walk W (walk_scope_of v) k t
      → g ≡ walk W (with_variables (walk_scope_of w) xs us) k t
  under_given w v g xs us one two = two ∙ ap (λ z. walk W (walk_scope_of z) k t) one

  pub under_noted : (w v x y : FlowWalk) (xs : List VarName) (us : List Type4) (n p : ℕ) → n ≡ length w.scope.variables → p ≡ length w.types → v ≡ seeing w (with_variables (walk_scope_of w) xs us)
      → x ≡ noting v (contributions W (walk_scope_of v) k t) (found W a (walk_scope_of v) k t) → y ≡ left x n p
      → y ≡ noting w (contributions W (with_variables (walk_scope_of w) xs us) k t) (found W a (with_variables (walk_scope_of w) xs us) k t)
  under_noted w v x y xs us n p n_is p_is one two three =
      leaves w v x y (bindings xs (length w.types)) (as_many (length xs) us) (contributions W (with_variables (walk_scope_of w) xs us) k t) (found W a (with_variables (walk_scope_of w) xs us) k t) n p one
      (two ∙ ap (λ z. noting v (contributions W (walk_scope_of z) k t) (found W a (walk_scope_of z) k t)) one) n_is p_is three

-- ---- chains

module _ (W : World) (a : NodeContext) (k : Ask) (t : m.Tree) where
  pub chain_given : (there : Bool) (o : Option WalkScope) (sc : WalkScope) (g : Given) → o ≡ sees there sc → g ≡ cond there (passed k (walk W sc k t)) None → g ≡ then_seen o (λ s. passed k (walk W s k t))
  chain_given there o sc g is h = h ∙ seen_given there o sc (λ s. passed k (walk W s k t)) is

  pub chain_noted : (w v x y : FlowWalk) (there : Bool) (o : Option WalkScope) (gs : List Contribution) (fs : List Finding) (n p : ℕ) (b : NodeContext) → n ≡ length w.scope.variables → p ≡ length w.types → a ≡ b
      → Grows w v gs fs → o ≡ sees there (walk_scope_of v)
      → x ≡ noting v (cond there (contributions W (walk_scope_of v) k t) []) (cond there (found W a (walk_scope_of v) k t) []) → y ≡ left x n p
      → y ≡ noting w (gs ++ where_seen o (λ s. contributions W s k t)) (fs ++ where_seen o (λ s. found W b s k t))
  chain_noted w v x y there o gs fs n p b n_is p_is a_is grows is one two =
      let hs : List Contribution = where_seen o (λ s. contributions W s k t) in
      let is' : List Finding = where_seen o (λ s. found W b s k t) in
      let e : x ≡ noting v hs is' = noting_as v x (cond there (contributions W (walk_scope_of v) k t) []) hs (cond there (found W a (walk_scope_of v) k t) []) is' (seen_list there o (walk_scope_of v) (λ s. contributions W s k t) is)
      (ap (λ z. cond there (found W z (walk_scope_of v) k t) []) a_is ∙ seen_list there o (walk_scope_of v) (λ s. found W b s k t) is) one in
      two ∙ ap (λ z. left x z p) n_is ∙ ap (left x (length w.scope.variables)) p_is
      ∙ ap (λ z. left z (length w.scope.variables) (length w.types)) e
      ∙ ap (λ z. noting z hs is') grows.without
      ∙ noting_both w gs hs fs is'

-- ---- clauses for what stands at the next slots

module _ (W : World) (a : NodeContext) (k : Ask) (cs : m.Clauses) where
  abbrev clauses_given : WalkScope → List ℕ → Given
  clauses_given sc qs = walk_clauses W sc k qs cs

  abbrev clauses_contributions : WalkScope → List ℕ → List Contribution
  clauses_contributions sc qs = contributions_of_clauses W sc k qs cs

  abbrev clauses_found : WalkScope → List ℕ → List Finding
  clauses_found sc qs = found_in_clauses W a sc k qs cs

  pub matching_given : (w v : FlowWalk) (g : Given) (us : List Type4) (qs : List ℕ) → v ≡ with_types w (w.types ++ us) → g ≡ clauses_given (walk_scope_of v) qs → g ≡ clauses_given (matching (walk_scope_of w) us) qs
  matching_given w v g us qs one two = two ∙ ap (λ z. clauses_given (walk_scope_of z) qs) one

  pub matching_noted : (w v x y : FlowWalk) (us : List Type4) (qs : List ℕ) (n p : ℕ) → n ≡ length w.scope.variables → p ≡ length w.types → v ≡ with_types w (w.types ++ us)
      → x ≡ noting v (clauses_contributions (walk_scope_of v) qs) (clauses_found (walk_scope_of v) qs) → y ≡ left x n p
      → y ≡ noting w (clauses_contributions (matching (walk_scope_of w) us) qs) (clauses_found (matching (walk_scope_of w) us) qs)
  matching_noted w v x y us qs n p n_is p_is one two three =
      leaves w v x y [] us (clauses_contributions (matching (walk_scope_of w) us) qs) (clauses_found (matching (walk_scope_of w) us) qs) n p (one ∙ inside_matching w us)
      (two ∙ ap (λ z. noting v (clauses_contributions (walk_scope_of z) qs) (clauses_found (walk_scope_of z) qs)) one) n_is p_is three

-- ---- a `letrec` and functions

module _ (W : World) (a : NodeContext) (k : Ask) (ds : m.Defs) (t : m.Tree) where
  abbrev named : FlowWalk → WalkScope
  named w = with_functions (walk_scope_of w) ds

  pub letrec_given : (w v x : FlowWalk) (gs : List Contribution) (fs : List Finding) (g : Given) → v ≡ seeing w (named w) → x ≡ noting v gs fs → g ≡ passed k (walk W (walk_scope_of x) k t)
      → g ≡ passed k (walk W (named w) k t)
  letrec_given w v x gs fs g one two is = is ∙ ap (λ z. passed k (walk W (walk_scope_of z) k t)) (two ∙ ap (λ z. noting z gs fs) one)

  pub letrec_noted : (w v x y z : FlowWalk) (n p : ℕ) → n ≡ length w.scope.functions → p ≡ length w.labels → v ≡ seeing w (named w)
      → x ≡ noting v (contributions_of_functions W (walk_scope_of v) ds) (found_in_functions W a (walk_scope_of v) ds) → y ≡ noting x (contributions W (walk_scope_of x) k t) (found W a (walk_scope_of x) k t)
      → z ≡ undefined y n p
      → z ≡ noting w (contributions_of_functions W (named w) ds ++ contributions W (named w) k t) (found_in_functions W a (named w) ds ++ found W a (named w) k t)
  letrec_noted w v x y z n p n_is p_is one two three four =
      undefines w v y z ds (contributions_of_functions W (named w) ds ++ contributions W (named w) k t) (found_in_functions W a (named w) ds ++ found W a (named w) k t) n p one
      (then_notes v x y (contributions_of_functions W (walk_scope_of v) ds) (found_in_functions W a (walk_scope_of v) ds) (λ sc. contributions W sc k t) (λ sc. found W a sc k t) two three
      ∙ ap (λ u. noting v (contributions_of_functions W (walk_scope_of u) ds ++ contributions W (walk_scope_of u) k t) (found_in_functions W a (walk_scope_of u) ds ++ found W a (walk_scope_of u) k t)) one) n_is p_is four

module _ (W : World) (a : NodeContext) (d : FunDefOf Expr) where
  abbrev entered_contributions : WalkScope → List Type4 → List Contribution
  entered_contributions sc ts = contributions W (with_variables sc d.fun.params ts) one_value (tree d.fun.body) ++ returns d.mark.label (walk W (with_variables sc d.fun.params ts) one_value (tree d.fun.body))

  abbrev entered_found : WalkScope → List Type4 → List Finding
  entered_found sc ts = found W (under a d.mark.note) (with_variables sc d.fun.params ts) one_value (tree d.fun.body)

-- ---- the loop over functions

module _ (W : World) (a : NodeContext) (ds : List (FunDefOf Expr)) (w : FlowWalk) (i : ℕ) where
  abbrev left_contributions : ℕ → WalkScope → List Contribution
  left_contributions n sc = contributions_of_functions W sc (all_defs (drop n ds))

  abbrev left_found : ℕ → WalkScope → List Finding
  left_found n sc = found_in_functions W a sc (all_defs (drop n ds))

  pub functions_noted : (goal : FlowWalk) → length ds ≤ i → noting w (left_contributions i (walk_scope_of w)) (left_found i (walk_scope_of w)) ≡ goal → w ≡ goal
  functions_noted goal past = ended w goal (left_contributions i (walk_scope_of w)) (left_found i (walk_scope_of w))
      (ap (λ z. contributions_of_functions W (walk_scope_of w) (all_defs z)) (drop_of_length-le ds past)) (ap (λ z. found_in_functions W a (walk_scope_of w) (all_defs z)) (drop_of_length-le ds past))

  pub functions_round : (v goal : FlowWalk) (x : FunDefOf Expr) → i < length ds → x ≡ get_or ds i x
      → v ≡ noting w (contributions_of_functions W (walk_scope_of w) (all_defs (x ∷ []))) (found_in_functions W a (walk_scope_of w) (all_defs (x ∷ [])))
      → noting w (left_contributions i (walk_scope_of w)) (left_found i (walk_scope_of w)) ≡ goal → noting v (left_contributions (i + 1) (walk_scope_of v)) (left_found (i + 1) (walk_scope_of v)) ≡ goal
  functions_round v goal x within is step =
      let opens : all_defs (drop i ds) ≡ all_defs (x ∷ drop (i + 1) ds) = all_defs-next ds i x within ∙ ap (λ z. all_defs (z ∷ drop (i + 1) ds)) (sym is) in
      notes_round w v goal (λ sc. contributions_of_functions W sc (all_defs (x ∷ []))) (left_contributions (i + 1)) (left_contributions i) (λ sc. found_in_functions W a sc (all_defs (x ∷ []))) (left_found (i + 1)) (left_found i) step
      (ap (λ z. contributions_of_functions W (walk_scope_of w) z) opens ∙ ap (λ l. l ++ left_contributions (i + 1) (walk_scope_of w))
      (sym (append-nil (where_entered (parameters_of W.state x.mark.label) (entered_contributions W a x (walk_scope_of w))))))
      (ap (λ z. found_in_functions W a (walk_scope_of w) z) opens ∙ ap (λ l. l ++ left_found (i + 1) (walk_scope_of w)) (sym (append-nil (where_entered (parameters_of W.state x.mark.label) (entered_found W a x (walk_scope_of w))))))
