-- The walk through expressions: what each way out of it says.
use Rattle.std.proofs.Common.{◌≡◌, ℕ, List, [], ◌++◌, Option, None, Some, Result, OnOk, length, refl, sym, ap, ◌∙◌, subst, ◌⊎◌, inl, inr}
use Rattle.std.proofs.lemmas.List.{append_assoc}
use Rattle.std.proofs.lemmas.Result.{on_ok_weaker}
use Rattle.type_kinds.specs.declared.atom.Atom.{Atom}
use Rattle.type_kinds.specs.declared.memory.Memory.{Memory}
use Rattle.core_ast.specs.declared.syntax.FunName.{FunName}
use Rattle.core_ast.specs.declared.syntax.FunOf.{FunOf}
use Rattle.core_ast.specs.declared.syntax.TryOf.{TryOf}
use Rattle.core_ast.specs.declared.syntax.Literal.{Literal}
use Rattle.core_ast.specs.declared.syntax.Expr.{Expr}
use Rattle.core_ast.specs.declared.syntax.Clause.{Clause}
use Rattle.core_ast.specs.declared.syntax.MapPair.{MapPair}
use Rattle.core_ast.specs.declared.syntax.Segment.{Segment}
use Rattle.core_ast.specs.declared.syntax.Form.TheVariants as f
use Rattle.core_ast.specs.Model as m
use Rattle.core_ast.specs.Tree.{tree, all_trees, all_pairs, all_segments, all_clauses}
use Rattle.core_ast.proofs.Forms.{variable_tree, local_tree, external_tree, literal_tree, fun_tree, listed_tree, tuple_tree, new_map_tree, updated_map_tree}
use Rattle.core_ast.proofs.Forms.{binary_tree, values_tree, case_tree, apply_tree, call_tree, primop_tree, try_tree, receive_tree, catch_tree}
use Rattle.core_scope.specs.declared.ask.Ask.{Ask}
use Rattle.core_scope.specs.declared.ask.Ask.TheVariants.{Exactly}
use Rattle.core_scope.specs.declared.fault.Break.{Break}
use Rattle.core_scope.specs.declared.walk.Walk.{Walk}
use Rattle.core_scope.specs.Names.{Scope, bound_by, with_variables}
use Rattle.core_scope.specs.Asks.{one_value, width}
use Rattle.core_scope.specs.Breaks.{degree, use_of_variable, use_of_function, new_variables, catches, breaks, all_breaks, pair_breaks, segment_breaks, clause_breaks}
use Rattle.core_scope.specs.steps.State.{scope_of, noting}
use Rattle.core_scope.proofs.States.{noted_twice}

-- ---- steps one after another

abbrev pub Answer : Type 0
Answer = Result (Unit {0}) Memory

-- A step that sees the scope, behind others.
pub next_step : (w0 w1 w2 : Walk) (before : List Break) (rest : Scope → List Break) → w1 ≡ noting w0 before → w2 ≡ noting w1 (rest (scope_of w1)) → w2 ≡ noting w0 (before ++ rest (scope_of w0))
next_step w0 w1 w2 before rest one two = two ∙ ap (λ w. noting w (rest (scope_of w))) one ∙ noted_twice w0 before (rest (scope_of w0))

last_step : (r : Answer) (w0 w1 w2 : Walk) (before : List Break) (rest : Scope → List Break) (whole : List Break) → w1 ≡ noting w0 before → OnOk r (w2 ≡ noting w1 (rest (scope_of w1))) → before ++ rest (scope_of w0) ≡ whole
    → OnOk r (w2 ≡ noting w0 whole)
last_step r w0 w1 w2 before rest whole one two is = on_ok_weaker r (λ e. next_step w0 w1 w2 before rest one e ∙ ap (noting w0) is) two

-- Parts that are put together behind what comes before them.
regroup_two : {X : Type 0} (a b c : List X) → a ++ (b ++ c) ≡ a ++ b ++ c
regroup_two a b c = sym (append_assoc a b c)

regroup_six : {X : Type 0} (a b c d e g h : List X) → a ++ (b ++ c ++ d ++ e ++ g ++ h) ≡ a ++ b ++ c ++ d ++ e ++ g ++ h
regroup_six a b c d e g h =
    regroup_two a (b ++ c ++ d ++ e ++ g) h ∙ ap (λ l. l ++ h) (regroup_two a (b ++ c ++ d ++ e) g
    ∙ ap (λ l. l ++ g) (regroup_two a (b ++ c ++ d) e ∙ ap (λ l. l ++ e) (regroup_two a (b ++ c) d ∙ ap (λ l. l ++ d) (regroup_two a b c))))

-- ---- each form

module _ (w0 w1 : Walk) (k : Ask) (e : Expr) (tested : w1 ≡ noting w0 (degree k e.mark (tree e))) where
  abbrev whole : m.Tree → List Break
  whole t = breaks (scope_of w0) k t

  abbrev own : m.Tree → List Break
  own t = degree k e.mark t

  pub variable_exit : (x : Atom) (w2 : Walk) → e.form ≡ f.Var x → w2 ≡ noting w1 (use_of_variable (scope_of w1) x e.mark.place) → w2 ≡ noting w0 (breaks (scope_of w0) k (tree e))
  variable_exit x w2 is used =
      next_step w0 w1 w2 (own (tree e)) (λ s. use_of_variable s x e.mark.place) tested used
      ∙ ap (noting w0) (let P : m.Tree → Type 0 = λ t. own t ++ use_of_variable (scope_of w0) x e.mark.place ≡ whole t in subst P (sym (variable_tree e x is)) refl)

  pub local_exit : (x : FunName) (w2 : Walk) → e.form ≡ f.Local x → w2 ≡ noting w1 (use_of_function (scope_of w1) x e.mark.place) → w2 ≡ noting w0 (breaks (scope_of w0) k (tree e))
  local_exit x w2 is used =
      next_step w0 w1 w2 (own (tree e)) (λ s. use_of_function s x e.mark.place) tested used
      ∙ ap (noting w0) (let P : m.Tree → Type 0 = λ t. own t ++ use_of_function (scope_of w0) x e.mark.place ≡ whole t in subst P (sym (local_tree e x is)) refl)

  pub external_exit : (x : Atom) (y : FunName) → e.form ≡ f.External x y → w1 ≡ noting w0 (breaks (scope_of w0) k (tree e))
  external_exit x y is = tested ∙ ap (noting w0) (let P : m.Tree → Type 0 = λ t. own t ≡ whole t in subst P (sym (external_tree e x y is)) refl)

  pub literal_exit : (x : Literal) → e.form ≡ f.Lit x → w1 ≡ noting w0 (breaks (scope_of w0) k (tree e))
  literal_exit x is = tested ∙ ap (noting w0) (let P : m.Tree → Type 0 = λ t. own t ≡ whole t in subst P (sym (literal_tree e x is)) refl)

  pub constant_exit : ((x : Atom) × (y : FunName) × (e.form ≡ f.External x y)) ⊎ ((x : Literal) × (e.form ≡ f.Lit x)) → w1 ≡ noting w0 (breaks (scope_of w0) k (tree e))
  constant_exit (inl (x, y, is)) = external_exit x y is
  constant_exit (inr (x, is)) = literal_exit x is

  pub new_map_exit : (ps qs : List MapPair) (o : Option Expr) (w2 : Walk) → e.form ≡ f.Map ps o → qs ≡ ps → w2 ≡ noting w1 (pair_breaks (scope_of w1) (all_pairs qs)) → o ≡ None
      → w2 ≡ noting w0 (breaks (scope_of w0) k (tree e))
  new_map_exit ps qs o w2 is pairs_are a none =
      next_step w0 w1 w2 (own (tree e)) (λ s. pair_breaks s (all_pairs qs)) tested a
      ∙ ap (noting w0) (ap (λ z. own (tree e) ++ pair_breaks (scope_of w0) (all_pairs z)) pairs_are ∙ let P : m.Tree
      → Type 0 = λ t. own t ++ pair_breaks (scope_of w0) (all_pairs ps) ≡ whole t in subst P (sym (new_map_tree e ps (is ∙ ap (f.Map ps) none))) refl)

  module _ (r : Answer) (w2 : Walk) where
    pub fun_exit : (x : FunOf Expr) → e.form ≡ f.Fun x → OnOk r (w2 ≡ noting w1 (new_variables [] x.params ++ breaks (with_variables (scope_of w1) (bound_by x.params)) one_value (tree x.body)))
        → OnOk r (w2 ≡ noting w0 (breaks (scope_of w0) k (tree e)))
    fun_exit x is = λ h. last_step r w0 w1 w2 (own (tree e)) (λ s. new_variables [] x.params ++ breaks (with_variables s (bound_by x.params)) one_value (tree x.body)) _ tested h
        (regroup_two (own (tree e)) (new_variables [] x.params) (breaks (with_variables (scope_of w0) (bound_by x.params)) one_value (tree x.body)) ∙ let P : m.Tree
        → Type 0 = λ t. own t ++ new_variables [] x.params ++ breaks (with_variables (scope_of w0) (bound_by x.params)) one_value (tree x.body) ≡ whole t in subst P (sym (fun_tree e x is)) refl)

    pub tuple_exit : (xs : List Expr) → e.form ≡ f.Tuple xs → OnOk r (w2 ≡ noting w1 (all_breaks (scope_of w1) (all_trees xs))) → OnOk r (w2 ≡ noting w0 (breaks (scope_of w0) k (tree e)))
    tuple_exit xs is = λ h. last_step r w0 w1 w2 (own (tree e)) (λ s. all_breaks s (all_trees xs)) _ tested h
        (let P : m.Tree → Type 0 = λ t. own t ++ all_breaks (scope_of w0) (all_trees xs) ≡ whole t in subst P (sym (tuple_tree e xs is)) refl)

    pub values_exit : (xs : List Expr) → e.form ≡ f.Values xs → OnOk r (w2 ≡ noting w1 (all_breaks (scope_of w1) (all_trees xs))) → OnOk r (w2 ≡ noting w0 (breaks (scope_of w0) k (tree e)))
    values_exit xs is = λ h. last_step r w0 w1 w2 (own (tree e)) (λ s. all_breaks s (all_trees xs)) _ tested h
        (let P : m.Tree → Type 0 = λ t. own t ++ all_breaks (scope_of w0) (all_trees xs) ≡ whole t in subst P (sym (values_tree e xs is)) refl)

    pub primop_exit : (x : Atom) (xs : List Expr) → e.form ≡ f.Primop x xs → OnOk r (w2 ≡ noting w1 (all_breaks (scope_of w1) (all_trees xs))) → OnOk r (w2 ≡ noting w0 (breaks (scope_of w0) k (tree e)))
    primop_exit x xs is = λ h. last_step r w0 w1 w2 (own (tree e)) (λ s. all_breaks s (all_trees xs)) _ tested h
        (let P : m.Tree → Type 0 = λ t. own t ++ all_breaks (scope_of w0) (all_trees xs) ≡ whole t in subst P (sym (primop_tree e x xs is)) refl)

    pub binary_exit : (ss : List Segment) → e.form ≡ f.Binary ss → OnOk r (w2 ≡ noting w1 (segment_breaks (scope_of w1) (all_segments ss))) → OnOk r (w2 ≡ noting w0 (breaks (scope_of w0) k (tree e)))
    binary_exit ss is = λ h. last_step r w0 w1 w2 (own (tree e)) (λ s. segment_breaks s (all_segments ss)) _ tested h
        (let P : m.Tree → Type 0 = λ t. own t ++ segment_breaks (scope_of w0) (all_segments ss) ≡ whole t in subst P (sym (binary_tree e ss is)) refl)

    pub catch_exit : (x : Expr) → e.form ≡ f.Catch x → OnOk r (w2 ≡ noting w1 (breaks (scope_of w1) one_value (tree x))) → OnOk r (w2 ≡ noting w0 (breaks (scope_of w0) k (tree e)))
    catch_exit x is = λ h. last_step r w0 w1 w2 (own (tree e)) (λ s. breaks s one_value (tree x)) _ tested h
        (let P : m.Tree → Type 0 = λ t. own t ++ breaks (scope_of w0) one_value (tree x) ≡ whole t in subst P (sym (catch_tree e x is)) refl)

    pub try_exit : (x : TryOf Expr) → e.form ≡ f.Try x
        → OnOk r (w2 ≡ noting w1 (catches e.mark x.catch_vars ++ breaks (scope_of w1) (Exactly (length x.vars)) (tree x.arg) ++ new_variables [] x.vars ++ breaks (with_variables (scope_of w1) (bound_by x.vars)) k (tree x.body)
        ++ new_variables [] x.catch_vars ++ breaks (with_variables (scope_of w1) (bound_by x.catch_vars)) k (tree x.handler)))
        → OnOk r (w2 ≡ noting w0 (breaks (scope_of w0) k (tree e)))
    try_exit x is = λ h. last_step r w0 w1 w2 (own (tree e)) (λ s. catches e.mark x.catch_vars ++ breaks s (Exactly (length x.vars)) (tree x.arg) ++ new_variables [] x.vars ++ breaks (with_variables s (bound_by x.vars)) k (tree x.body)
        ++ new_variables [] x.catch_vars ++ breaks (with_variables s (bound_by x.catch_vars)) k (tree x.handler)) _ tested h
        (regroup_six (own (tree e)) (catches e.mark x.catch_vars) (breaks (scope_of w0) (Exactly (length x.vars)) (tree x.arg)) (new_variables [] x.vars) (breaks (with_variables (scope_of w0) (bound_by x.vars)) k (tree x.body))
        (new_variables [] x.catch_vars) (breaks (with_variables (scope_of w0) (bound_by x.catch_vars)) k (tree x.handler)) ∙
        let P : m.Tree → Type 0 = λ t. own t ++ catches e.mark x.catch_vars ++ breaks (scope_of w0) (Exactly (length x.vars)) (tree x.arg) ++ new_variables [] x.vars
        ++ breaks (with_variables (scope_of w0) (bound_by x.vars)) k (tree x.body) ++ new_variables [] x.catch_vars ++ breaks (with_variables (scope_of w0) (bound_by x.catch_vars)) k (tree x.handler) ≡ whole t in
        subst P (sym (try_tree e x is)) refl)

    -- forms with two parts and more
    module _ (w3 : Walk) where
      pub listed_exit : (xs : List Expr) (x : Expr) → e.form ≡ f.Listed xs x → w2 ≡ noting w1 (all_breaks (scope_of w1) (all_trees xs)) → OnOk r (w3 ≡ noting w2 (breaks (scope_of w2) one_value (tree x)))
          → OnOk r (w3 ≡ noting w0 (breaks (scope_of w0) k (tree e)))
      listed_exit xs x is a = λ h. last_step r w0 w2 w3 (own (tree e) ++ all_breaks (scope_of w0) (all_trees xs)) (λ s. breaks s one_value (tree x)) _
          (next_step w0 w1 w2 (own (tree e)) (λ s. all_breaks s (all_trees xs)) tested a) h
          (let P : m.Tree → Type 0 = λ t. own t ++ all_breaks (scope_of w0) (all_trees xs) ++ breaks (scope_of w0) one_value (tree x) ≡ whole t in subst P (sym (listed_tree e xs x is)) refl)

      pub updated_map_exit : (ps qs : List MapPair) (o : Option Expr) (x y : Expr) → e.form ≡ f.Map ps o → qs ≡ ps → w2 ≡ noting w1 (pair_breaks (scope_of w1) (all_pairs qs)) → o ≡ Some x → y ≡ x
          → OnOk r (w3 ≡ noting w2 (breaks (scope_of w2) one_value (tree y))) → OnOk r (w3 ≡ noting w0 (breaks (scope_of w0) k (tree e)))
      updated_map_exit ps qs o x y is pairs_are a some same = λ h. last_step r w0 w2 w3 (own (tree e) ++ pair_breaks (scope_of w0) (all_pairs qs)) (λ s. breaks s one_value (tree y)) _
          (next_step w0 w1 w2 (own (tree e)) (λ s. pair_breaks s (all_pairs qs)) tested a) h
          (ap (λ z. own (tree e) ++ pair_breaks (scope_of w0) (all_pairs z) ++ breaks (scope_of w0) one_value (tree y)) pairs_are
          ∙ ap (λ z. own (tree e) ++ pair_breaks (scope_of w0) (all_pairs ps) ++ breaks (scope_of w0) one_value (tree z)) same
          ∙ let P : m.Tree → Type 0 = λ t. own t ++ pair_breaks (scope_of w0) (all_pairs ps) ++ breaks (scope_of w0) one_value (tree x) ≡ whole t in subst P (sym (updated_map_tree e ps x (is ∙ ap (f.Map ps) some))) refl)

      pub apply_exit : (x : Expr) (xs : List Expr) → e.form ≡ f.Apply x xs → w2 ≡ noting w1 (breaks (scope_of w1) one_value (tree x)) → OnOk r (w3 ≡ noting w2 (all_breaks (scope_of w2) (all_trees xs)))
          → OnOk r (w3 ≡ noting w0 (breaks (scope_of w0) k (tree e)))
      apply_exit x xs is a = λ h. last_step r w0 w2 w3 (own (tree e) ++ breaks (scope_of w0) one_value (tree x)) (λ s. all_breaks s (all_trees xs)) _
          (next_step w0 w1 w2 (own (tree e)) (λ s. breaks s one_value (tree x)) tested a) h
          (let P : m.Tree → Type 0 = λ t. own t ++ breaks (scope_of w0) one_value (tree x) ++ all_breaks (scope_of w0) (all_trees xs) ≡ whole t in subst P (sym (apply_tree e x xs is)) refl)

      pub case_exit : (x : Expr) (cs : List Clause) (n : ℕ) → e.form ≡ f.Case x cs → n ≡ width (all_clauses cs) → w2 ≡ noting w1 (breaks (scope_of w1) (Exactly n) (tree x))
          → OnOk r (w3 ≡ noting w2 (clause_breaks (scope_of w2) k n (all_clauses cs))) → OnOk r (w3 ≡ noting w0 (breaks (scope_of w0) k (tree e)))
      case_exit x cs n is count a = λ h. last_step r w0 w2 w3 (own (tree e) ++ breaks (scope_of w0) (Exactly n) (tree x)) (λ s. clause_breaks s k n (all_clauses cs)) _
          (next_step w0 w1 w2 (own (tree e)) (λ s. breaks s (Exactly n) (tree x)) tested a) h
          (ap (λ n. own (tree e) ++ breaks (scope_of w0) (Exactly n) (tree x) ++ clause_breaks (scope_of w0) k n (all_clauses cs)) count
          ∙ (let P : m.Tree → Type 0 = λ t. own t ++ breaks (scope_of w0) (Exactly (width (all_clauses cs))) (tree x) ++ clause_breaks (scope_of w0) k (width (all_clauses cs)) (all_clauses cs)
          ≡ whole t in subst P (sym (case_tree e x cs is)) refl))

      module _ (w4 : Walk) where
        pub call_exit : (x y : Expr) (xs : List Expr) → e.form ≡ f.Call x y xs → w2 ≡ noting w1 (breaks (scope_of w1) one_value (tree x)) → w3 ≡ noting w2 (breaks (scope_of w2) one_value (tree y))
            → OnOk r (w4 ≡ noting w3 (all_breaks (scope_of w3) (all_trees xs))) → OnOk r (w4 ≡ noting w0 (breaks (scope_of w0) k (tree e)))
        call_exit x y xs is a b = λ h. last_step r w0 w3 w4 ((own (tree e) ++ breaks (scope_of w0) one_value (tree x)) ++ breaks (scope_of w0) one_value (tree y)) (λ s. all_breaks s (all_trees xs)) _
            (next_step w0 w2 w3 (own (tree e) ++ breaks (scope_of w0) one_value (tree x)) (λ s. breaks s one_value (tree y)) (next_step w0 w1 w2 (own (tree e)) (λ s. breaks s one_value (tree x)) tested a) b) h
            (let P : m.Tree → Type 0 = λ t. own t ++ breaks (scope_of w0) one_value (tree x) ++ breaks (scope_of w0) one_value (tree y) ++ all_breaks (scope_of w0) (all_trees xs) ≡ whole t in subst P (sym (call_tree e x y xs is)) refl)

        pub receive_exit : (cs : List Clause) (x y : Expr) → e.form ≡ f.Receive cs x y → w2 ≡ noting w1 (clause_breaks (scope_of w1) k 1 (all_clauses cs)) → w3 ≡ noting w2 (breaks (scope_of w2) one_value (tree x))
            → OnOk r (w4 ≡ noting w3 (breaks (scope_of w3) k (tree y))) → OnOk r (w4 ≡ noting w0 (breaks (scope_of w0) k (tree e)))
        receive_exit cs x y is a b = λ h. last_step r w0 w3 w4 ((own (tree e) ++ clause_breaks (scope_of w0) k 1 (all_clauses cs)) ++ breaks (scope_of w0) one_value (tree x)) (λ s. breaks s k (tree y)) _
            (next_step w0 w2 w3 (own (tree e) ++ clause_breaks (scope_of w0) k 1 (all_clauses cs)) (λ s. breaks s one_value (tree x)) (next_step w0 w1 w2 (own (tree e)) (λ s. clause_breaks s k 1 (all_clauses cs)) tested a) b) h
            (let P : m.Tree → Type 0 = λ t. own t ++ clause_breaks (scope_of w0) k 1 (all_clauses cs) ++ breaks (scope_of w0) one_value (tree x) ++ breaks (scope_of w0) k (tree y)
            ≡ whole t in subst P (sym (receive_tree e cs x y is)) refl)

pub ruleset expression_exits = (
  variable_exit,
  local_exit,
  external_exit,
  literal_exit,
  fun_exit,
  tuple_exit,
  values_exit,
  primop_exit,
  new_map_exit,
  binary_exit,
  catch_exit,
  try_exit,
  listed_exit,
  updated_map_exit,
  apply_exit,
  case_exit,
  call_exit,
  receive_exit,
)
