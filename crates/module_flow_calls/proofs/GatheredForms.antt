-- The walk for functions and their names, in expressions: what each way out of it says.
use Rattle.std.proofs.Common.{◌≡◌, ℕ, List, [], ◌++◌, Option, None, Some, OnOk, length, refl, sym, ap, ◌∙◌, subst, append-nil}
use Rattle.std.proofs.lemmas.Result.{on_ok_weaker}
use Rattle.type_kinds.specs.declared.atom.Atom.{Atom}
use Rattle.core_ast.specs.declared.syntax.FunName.{FunName}
use Rattle.core_ast.specs.declared.syntax.FunOf.{FunOf}
use Rattle.core_ast.specs.declared.syntax.FunDefOf.{FunDefOf}
use Rattle.core_ast.specs.declared.syntax.StepOf.{StepOf}
use Rattle.core_ast.specs.declared.syntax.TryOf.{TryOf}
use Rattle.core_ast.specs.declared.syntax.Literal.{Literal}
use Rattle.core_ast.specs.declared.syntax.Expr.{Expr}
use Rattle.core_ast.specs.declared.syntax.Clause.{Clause}
use Rattle.core_ast.specs.declared.syntax.MapPair.{MapPair}
use Rattle.core_ast.specs.declared.syntax.Segment.{Segment}
use Rattle.core_ast.specs.declared.syntax.Form.TheVariants as f
use Rattle.core_ast.specs.Model as m
use Rattle.core_ast.specs.Tree.{tree, all_trees, all_pairs, all_segments, all_steps, all_clauses, all_defs}
use Rattle.core_ast.specs.Named.{local_name}
use Rattle.core_ast.proofs.Forms.{variable_tree, local_tree, external_tree, literal_tree, fun_tree, listed_tree, tuple_tree, new_map_tree, updated_map_tree}
use Rattle.core_ast.proofs.Forms.{binary_tree, values_tree, chain_tree, case_tree, letrec_tree, apply_tree, call_tree, primop_tree, try_tree, receive_tree, catch_tree}
use Rattle.core_scope.specs.Functions.{functions, functions_of_all}
use Rattle.module_flow_calls.specs.declared.names.NameWalk.{NameWalk}
use Rattle.module_flow_calls.specs.Escapes.{Defined, escapes, escapes_all, label_listed, unless_name}
use Rattle.module_flow_calls.specs.Functions.{label_named}
use Rattle.module_flow_calls.specs.steps.Gathering.{and_then, defined_around, noting, defining, leaving, with_labels, in_tree, in_all, in_pairs, in_segments, in_steps, in_clauses, in_defs, in_try}
use Rattle.module_flow_calls.proofs.Gathered.{Answer, Part, next_step, noted_none, left_behind}

-- a function's name as an operator has no functions
named_has_none : (t : m.Tree) (g : FunName) → local_name t ≡ Some g → functions t ≡ []
named_has_none (m.variable k x) g is = refl
named_has_none (m.local k x) g is = refl
named_has_none (m.external k x y) g is = refl
named_has_none (m.literal k l) g is = refl
named_has_none (m.function k xs t) g is = absurd cc
named_has_none (m.listed k ts t) g is = absurd cc
named_has_none (m.tuple k ts) g is = absurd cc
named_has_none (m.new_map k ps) g is = absurd cc
named_has_none (m.updated_map k ps t) g is = absurd cc
named_has_none (m.binary k ss) g is = absurd cc
named_has_none (m.values k ts) g is = absurd cc
named_has_none (m.chain k ss t) g is = absurd cc
named_has_none (m.case k t cs) g is = absurd cc
named_has_none (m.letrec k ds t) g is = absurd cc
named_has_none (m.apply k t ts) g is = absurd cc
named_has_none (m.call k t u ts) g is = absurd cc
named_has_none (m.primop k x ts) g is = absurd cc
named_has_none (m.try k t xs u ys w) g is = absurd cc
named_has_none (m.receive k cs t u) g is = absurd cc
named_has_none (m.catch k t) g is = absurd cc

named_operator : (fs : Defined) (t : m.Tree) (ts : m.Trees) (g : FunName) → local_name t ≡ Some g
    → in_all fs ts ≡ (record { labels = unless_name (local_name t) (escapes fs t) ++ escapes_all fs ts; functions = functions t ++ functions_of_all ts })
named_operator fs t ts g is = λ i. record {
  labels = ap (λ o. unless_name o (escapes fs t) ++ escapes_all fs ts) (sym is) i;
  functions = ap (λ l. l ++ functions_of_all ts) (sym (named_has_none t g is)) i;
}

other_operator : (fs : Defined) (t : m.Tree) (ts : m.Trees) → local_name t ≡ None
    → and_then (in_tree fs t) (in_all fs ts) ≡ (record { labels = unless_name (local_name t) (escapes fs t) ++ escapes_all fs ts; functions = functions t ++ functions_of_all ts })
other_operator fs t ts is = λ i. record {
  labels = ap (λ o. unless_name o (escapes fs t) ++ escapes_all fs ts) (sym is) i;
  functions = functions t ++ functions_of_all ts;
}

module _ (w0 : NameWalk) (e : Expr) where
  -- the state after all that is gathered in a tree
  abbrev after : m.Tree → NameWalk
  after t = noting w0 (in_tree (defined_around w0) t)

  none_added : (ls : List ℕ) → with_labels w0 ls ≡ noting w0 (record { labels = ls; functions = [] })
  none_added ls = λ i. record (with_labels w0 ls) { functions = sym (append-nil w0.functions) i }

  pub variable_exit : (x : Atom) → e.form ≡ f.Var x → w0 ≡ noting w0 (in_tree (defined_around w0) (tree e))
  variable_exit x is = noted_none w0 ∙ ap after (sym (variable_tree e x is))

  pub local_exit : (r : Answer) (w1 : NameWalk) (x : FunName) → e.form ≡ f.Local x → OnOk r (w1 ≡ with_labels w0 (label_listed (label_named w0.defined.names w0.defined.labels x)))
      → OnOk r (w1 ≡ noting w0 (in_tree (defined_around w0) (tree e)))
  local_exit r w1 x is = on_ok_weaker r (λ one. one ∙ none_added (label_listed (label_named w0.defined.names w0.defined.labels x)) ∙ ap after (sym (local_tree e x is)))

  pub external_exit : (x : Atom) (y : FunName) → e.form ≡ f.External x y → w0 ≡ noting w0 (in_tree (defined_around w0) (tree e))
  external_exit x y is = noted_none w0 ∙ ap after (sym (external_tree e x y is))

  pub literal_exit : (x : Literal) → e.form ≡ f.Lit x → w0 ≡ noting w0 (in_tree (defined_around w0) (tree e))
  literal_exit x is = noted_none w0 ∙ ap after (sym (literal_tree e x is))

  pub new_map_exit : (ps qs : List MapPair) (o : Option Expr) (w1 : NameWalk) → e.form ≡ f.Map ps o → qs ≡ ps → w1 ≡ noting w0 (in_pairs (defined_around w0) (all_pairs qs)) → o ≡ None
      → w1 ≡ noting w0 (in_tree (defined_around w0) (tree e))
  new_map_exit ps qs o w1 is same one none = one ∙ ap (λ z. noting w0 (in_pairs (defined_around w0) (all_pairs z))) same ∙ ap after (sym (new_map_tree e ps (is ∙ ap (f.Map ps) none)))

  module _ (r : Answer) (w1 : NameWalk) where
    pub fun_exit : (x : FunOf Expr) → e.form ≡ f.Fun x → OnOk r (w1 ≡ noting w0 (in_tree (defined_around w0) (tree x.body))) → OnOk r (w1 ≡ noting w0 (in_tree (defined_around w0) (tree e)))
    fun_exit x is = on_ok_weaker r (λ one. one ∙ ap after (sym (fun_tree e x is)))

    pub tuple_exit : (xs : List Expr) → e.form ≡ f.Tuple xs → OnOk r (w1 ≡ noting w0 (in_all (defined_around w0) (all_trees xs))) → OnOk r (w1 ≡ noting w0 (in_tree (defined_around w0) (tree e)))
    tuple_exit xs is = on_ok_weaker r (λ one. one ∙ ap after (sym (tuple_tree e xs is)))

    pub values_exit : (xs : List Expr) → e.form ≡ f.Values xs → OnOk r (w1 ≡ noting w0 (in_all (defined_around w0) (all_trees xs))) → OnOk r (w1 ≡ noting w0 (in_tree (defined_around w0) (tree e)))
    values_exit xs is = on_ok_weaker r (λ one. one ∙ ap after (sym (values_tree e xs is)))

    pub primop_exit : (x : Atom) (xs : List Expr) → e.form ≡ f.Primop x xs → OnOk r (w1 ≡ noting w0 (in_all (defined_around w0) (all_trees xs))) → OnOk r (w1 ≡ noting w0 (in_tree (defined_around w0) (tree e)))
    primop_exit x xs is = on_ok_weaker r (λ one. one ∙ ap after (sym (primop_tree e x xs is)))

    pub binary_exit : (ss : List Segment) → e.form ≡ f.Binary ss → OnOk r (w1 ≡ noting w0 (in_segments (defined_around w0) (all_segments ss))) → OnOk r (w1 ≡ noting w0 (in_tree (defined_around w0) (tree e)))
    binary_exit ss is = on_ok_weaker r (λ one. one ∙ ap after (sym (binary_tree e ss is)))

    pub catch_exit : (x : Expr) → e.form ≡ f.Catch x → OnOk r (w1 ≡ noting w0 (in_tree (defined_around w0) (tree x))) → OnOk r (w1 ≡ noting w0 (in_tree (defined_around w0) (tree e)))
    catch_exit x is = on_ok_weaker r (λ one. one ∙ ap after (sym (catch_tree e x is)))

    pub try_exit : (x : TryOf Expr) → e.form ≡ f.Try x → OnOk r (w1 ≡ noting w0 (in_try (defined_around w0) x)) → OnOk r (w1 ≡ noting w0 (in_tree (defined_around w0) (tree e)))
    try_exit x is = on_ok_weaker r (λ one. one ∙ ap after (sym (try_tree e x is)))

    -- forms with two parts and more
    module _ (w2 : NameWalk) where
      pub listed_exit : (xs : List Expr) (x : Expr) → e.form ≡ f.Listed xs x → w1 ≡ noting w0 (in_all (defined_around w0) (all_trees xs)) → OnOk r (w2 ≡ noting w1 (in_tree (defined_around w1) (tree x)))
          → OnOk r (w2 ≡ noting w0 (in_tree (defined_around w0) (tree e)))
      listed_exit xs x is one = on_ok_weaker r (λ two. next_step w0 w1 w2 (in_all (defined_around w0) (all_trees xs)) (λ fs. in_tree fs (tree x)) one two ∙ ap after (sym (listed_tree e xs x is)))

      pub updated_map_exit : (ps qs : List MapPair) (o : Option Expr) (x y : Expr) → e.form ≡ f.Map ps o → qs ≡ ps → w1 ≡ noting w0 (in_pairs (defined_around w0) (all_pairs qs)) → o ≡ Some x → y ≡ x
          → OnOk r (w2 ≡ noting w1 (in_tree (defined_around w1) (tree y))) → OnOk r (w2 ≡ noting w0 (in_tree (defined_around w0) (tree e)))
      updated_map_exit ps qs o x y is pairs_are one some same = on_ok_weaker r (λ two. next_step w0 w1 w2 (in_pairs (defined_around w0) (all_pairs qs)) (λ fs. in_tree fs (tree y)) one two
          ∙ ap (λ z. noting w0 (and_then (in_pairs (defined_around w0) (all_pairs z)) (in_tree (defined_around w0) (tree y)))) pairs_are
          ∙ ap (λ z. noting w0 (and_then (in_pairs (defined_around w0) (all_pairs ps)) (in_tree (defined_around w0) (tree z)))) same
          ∙ ap after (sym (updated_map_tree e ps x (is ∙ ap (f.Map ps) some))))

      pub chain_exit : (ss : List (StepOf Expr)) (x : Expr) → e.form ≡ f.Chain ss x → w1 ≡ noting w0 (in_steps (defined_around w0) (all_steps ss)) → OnOk r (w2 ≡ noting w1 (in_tree (defined_around w1) (tree x)))
          → OnOk r (w2 ≡ noting w0 (in_tree (defined_around w0) (tree e)))
      chain_exit ss x is one = on_ok_weaker r (λ two. next_step w0 w1 w2 (in_steps (defined_around w0) (all_steps ss)) (λ fs. in_tree fs (tree x)) one two ∙ ap after (sym (chain_tree e ss x is)))

      pub case_exit : (x : Expr) (cs : List Clause) → e.form ≡ f.Case x cs → w1 ≡ noting w0 (in_tree (defined_around w0) (tree x)) → OnOk r (w2 ≡ noting w1 (in_clauses (defined_around w1) (all_clauses cs)))
          → OnOk r (w2 ≡ noting w0 (in_tree (defined_around w0) (tree e)))
      case_exit x cs is one = on_ok_weaker r (λ two. next_step w0 w1 w2 (in_tree (defined_around w0) (tree x)) (λ fs. in_clauses fs (all_clauses cs)) one two ∙ ap after (sym (case_tree e x cs is)))

-- An application: of a name, and of any other expression.
pub named_exit : (r : Answer) (w0 w1 : NameWalk) (e x x1 : Expr) (xs ys : List Expr) (g : FunName) → e.form ≡ f.Apply x xs → x1 ≡ x → local_name (tree x1) ≡ Some g → ys ≡ xs
    → OnOk r (w1 ≡ noting w0 (in_all (defined_around w0) (all_trees ys))) → OnOk r (w1 ≡ noting w0 (in_tree (defined_around w0) (tree e)))
named_exit r w0 w1 e x x1 xs ys g is same name args_are = on_ok_weaker r (λ one.
    one ∙ ap (λ z. noting w0 (in_all (defined_around w0) (all_trees z))) args_are ∙ ap (noting w0) (named_operator (defined_around w0) (tree x) (all_trees xs) g (ap (λ z. local_name (tree z)) (sym same) ∙ name))
    ∙ ap (λ t. noting w0 (in_tree (defined_around w0) t)) (sym (apply_tree e x xs is)))

pub apply_exit : (r : Answer) (w0 w1 w2 : NameWalk) (e x x1 x2 : Expr) (xs ys : List Expr) → e.form ≡ f.Apply x xs → x1 ≡ x → local_name (tree x1) ≡ None → x2 ≡ x → w1 ≡ noting w0 (in_tree (defined_around w0) (tree x2))
    → ys ≡ xs
    → OnOk r (w2 ≡ noting w1 (in_all (defined_around w1) (all_trees ys))) → OnOk r (w2 ≡ noting w0 (in_tree (defined_around w0) (tree e)))
apply_exit r w0 w1 w2 e x x1 x2 xs ys is same none again one args_are = on_ok_weaker r (λ two.
    next_step w0 w1 w2 (in_tree (defined_around w0) (tree x)) (λ fs. in_all fs (all_trees xs)) (one ∙ ap (λ z. noting w0 (in_tree (defined_around w0) (tree z))) again)
    (two ∙ ap (λ z. noting w1 (in_all (defined_around w1) (all_trees z))) args_are)
    ∙ ap (noting w0) (other_operator (defined_around w0) (tree x) (all_trees xs) (ap (λ z. local_name (tree z)) (sym same) ∙ none))
    ∙ ap (λ t. noting w0 (in_tree (defined_around w0) t)) (sym (apply_tree e x xs is)))

-- A `letrec`, whose functions end with it.
pub letrec_exit : (w0 w1 w2 w3 w4 : NameWalk) (e : Expr) (ds ds1 ds2 : List (FunDefOf Expr)) (x x1 : Expr) (names labels : ℕ) → e.form ≡ f.Letrec ds x → names ≡ length w0.defined.names → labels ≡ length w0.defined.labels
    → ds1 ≡ ds → w1 ≡ defining w0 (all_defs ds1)
    → ds2 ≡ ds → w2 ≡ noting w1 (in_defs (defined_around w1) (all_defs ds2)) → x1 ≡ x → w3 ≡ noting w2 (in_tree (defined_around w2) (tree x1)) → w4 ≡ leaving w3 names labels
    → w4 ≡ noting w0 (in_tree (defined_around w0) (tree e))
letrec_exit w0 w1 w2 w3 w4 e ds ds1 ds2 x x1 names labels is at also first_are one second_are two last_is three left =
    let inner : Part = λ fs. and_then (in_defs fs (all_defs ds)) (in_tree fs (tree x)) in
    let P : List (FunDefOf Expr) → Type 0 = λ z. w1 ≡ defining w0 (all_defs z) in
    let Q : List (FunDefOf Expr) → Type 0 = λ z. w2 ≡ noting w1 (in_defs (defined_around w1) (all_defs z)) in
    let R : Expr → Type 0 = λ z. w3 ≡ noting w2 (in_tree (defined_around w2) (tree z)) in
    let inside : NameWalk = defining w0 (all_defs ds) in
    let all : w3 ≡ noting inside (inner (defined_around inside)) =
    next_step w1 w2 w3 (in_defs (defined_around w1) (all_defs ds)) (λ fs. in_tree fs (tree x)) (subst Q second_are two) (subst R last_is three) ∙ ap (λ w. noting w (inner (defined_around w))) (subst P first_are one) in
    left ∙ ap (λ n. leaving w3 n labels) at ∙ ap (λ n. leaving w3 (length w0.defined.names) n) also ∙ ap (λ w. leaving w (length w0.defined.names) (length w0.defined.labels)) all
    ∙ left_behind w0 (all_defs ds) (inner (defined_around inside)) ∙ ap (λ t. noting w0 (in_tree (defined_around w0) t)) (sym (letrec_tree e ds x is))

-- A call.
pub call_exit : (r : Answer) (w0 w1 w2 w3 : NameWalk) (e x y : Expr) (xs : List Expr) (x1 y1 : Expr) (ys : List Expr) → e.form ≡ f.Call x y xs → x1 ≡ x → w1 ≡ noting w0 (in_tree (defined_around w0) (tree x1)) → y1 ≡ y
    → w2 ≡ noting w1 (in_tree (defined_around w1) (tree y1)) → ys ≡ xs
    → OnOk r (w3 ≡ noting w2 (in_all (defined_around w2) (all_trees ys))) → OnOk r (w3 ≡ noting w0 (in_tree (defined_around w0) (tree e)))
call_exit r w0 w1 w2 w3 e x y xs x1 y1 ys is home_is one name_is two args_are = on_ok_weaker r (λ three.
    next_step w0 w2 w3 (and_then (in_tree (defined_around w0) (tree x)) (in_tree (defined_around w0) (tree y))) (λ fs. in_all fs (all_trees xs))
    (next_step w0 w1 w2 (in_tree (defined_around w0) (tree x)) (λ fs. in_tree fs (tree y)) (one ∙ ap (λ z. noting w0 (in_tree (defined_around w0) (tree z))) home_is)
    (two ∙ ap (λ z. noting w1 (in_tree (defined_around w1) (tree z))) name_is))
    (three ∙ ap (λ z. noting w2 (in_all (defined_around w2) (all_trees z))) args_are)
    ∙ ap (λ t. noting w0 (in_tree (defined_around w0) t)) (sym (call_tree e x y xs is)))

-- A `receive`.
pub receive_exit : (r : Answer) (w0 w1 w2 w3 : NameWalk) (e : Expr) (cs : List Clause) (x y : Expr) (cs1 : List Clause) (x1 y1 : Expr) → e.form ≡ f.Receive cs x y → cs1 ≡ cs
    → w1 ≡ noting w0 (in_clauses (defined_around w0) (all_clauses cs1)) → x1 ≡ x → w2 ≡ noting w1 (in_tree (defined_around w1) (tree x1)) → y1 ≡ y
    → OnOk r (w3 ≡ noting w2 (in_tree (defined_around w2) (tree y1))) → OnOk r (w3 ≡ noting w0 (in_tree (defined_around w0) (tree e)))
receive_exit r w0 w1 w2 w3 e cs x y cs1 x1 y1 is clauses_are one timeout_is two action_is = on_ok_weaker r (λ three.
    next_step w0 w2 w3 (and_then (in_clauses (defined_around w0) (all_clauses cs1)) (in_tree (defined_around w0) (tree x1))) (λ fs. in_tree fs (tree y1))
    (next_step w0 w1 w2 (in_clauses (defined_around w0) (all_clauses cs1)) (λ fs. in_tree fs (tree x1)) one two) three
    ∙ ap (λ z. noting w0 (and_then (and_then (in_clauses (defined_around w0) (all_clauses z)) (in_tree (defined_around w0) (tree x1))) (in_tree (defined_around w0) (tree y1)))) clauses_are
    ∙ ap (λ z. noting w0 (and_then (and_then (in_clauses (defined_around w0) (all_clauses cs)) (in_tree (defined_around w0) (tree z))) (in_tree (defined_around w0) (tree y1)))) timeout_is
    ∙ ap (λ z. noting w0 (and_then (and_then (in_clauses (defined_around w0) (all_clauses cs)) (in_tree (defined_around w0) (tree x))) (in_tree (defined_around w0) (tree z)))) action_is
    ∙ ap (λ t. noting w0 (in_tree (defined_around w0) t)) (sym (receive_tree e cs x y is)))

-- The parts of a `try`.
pub try_parts_exit : (r : Answer) (w0 w1 w2 w3 : NameWalk) (x : TryOf Expr) (arg body handler : Expr) → arg ≡ x.arg → w1 ≡ noting w0 (in_tree (defined_around w0) (tree arg)) → body ≡ x.body
    → w2 ≡ noting w1 (in_tree (defined_around w1) (tree body)) → handler ≡ x.handler
    → OnOk r (w3 ≡ noting w2 (in_tree (defined_around w2) (tree handler))) → OnOk r (w3 ≡ noting w0 (in_try (defined_around w0) x))
try_parts_exit r w0 w1 w2 w3 x arg body handler arg_is one body_is two handler_is = on_ok_weaker r (λ three.
    next_step w0 w2 w3 (and_then (in_tree (defined_around w0) (tree arg)) (in_tree (defined_around w0) (tree body))) (λ fs. in_tree fs (tree handler))
    (next_step w0 w1 w2 (in_tree (defined_around w0) (tree arg)) (λ fs. in_tree fs (tree body)) one two) three
    ∙ ap (λ z. noting w0 (and_then (and_then (in_tree (defined_around w0) (tree z)) (in_tree (defined_around w0) (tree body))) (in_tree (defined_around w0) (tree handler)))) arg_is
    ∙ ap (λ z. noting w0 (and_then (and_then (in_tree (defined_around w0) (tree x.arg)) (in_tree (defined_around w0) (tree z))) (in_tree (defined_around w0) (tree handler)))) body_is
    ∙ ap (λ z. noting w0 (and_then (and_then (in_tree (defined_around w0) (tree x.arg)) (in_tree (defined_around w0) (tree x.body))) (in_tree (defined_around w0) (tree z)))) handler_is)

pub ruleset gathered_forms = (variable_exit, local_exit, external_exit, literal_exit, fun_exit, tuple_exit, values_exit, primop_exit, new_map_exit, binary_exit, catch_exit, try_exit, listed_exit, updated_map_exit, chain_exit, case_exit)
