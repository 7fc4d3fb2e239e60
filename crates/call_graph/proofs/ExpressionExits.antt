-- The walk through expressions: what each way out of it says.
use Rattle.std.proofs.Common.{◌≡◌, ℕ, List, ◌++◌, Option, None, Some, OnOk, take, length, sym, ap, ◌∙◌, subst}
use Rattle.std.proofs.Math.Seq.{take-append_seam}
use Rattle.std.proofs.lemmas.Result.{on_ok_weaker}
use Rattle.type_kinds.specs.declared.atom.Atom.{Atom}
use Rattle.core_ast.specs.declared.syntax.FunName.{FunName}
use Rattle.core_ast.specs.declared.syntax.FunOf.{FunOf}
use Rattle.core_ast.specs.declared.syntax.FunDefOf.{FunDefOf}
use Rattle.core_ast.specs.declared.syntax.StepOf.{StepOf}
use Rattle.core_ast.specs.declared.syntax.TryOf.{TryOf}
use Rattle.core_ast.specs.declared.syntax.Literal.{Literal}
use Rattle.core_ast.specs.declared.syntax.Expr.{Expr}
use Rattle.core_ast.specs.declared.syntax.Clause.{Clause}
use Rattle.core_ast.specs.declared.syntax.MapPair.{MapPair}
use Rattle.core_ast.specs.declared.syntax.Segment.{Segment}
use Rattle.core_ast.specs.declared.syntax.Form.TheVariants as f
use Rattle.core_ast.specs.Model as m
use Rattle.core_ast.specs.Tree.{tree, all_trees, all_pairs, all_segments, all_steps, all_clauses, all_defs}
use Rattle.core_ast.specs.Named.{literal_atom, local_name}
use Rattle.core_ast.specs.Lengths.{how_many}
use Rattle.core_ast.proofs.Forms.{variable_tree, local_tree, external_tree, literal_tree, fun_tree, listed_tree, tuple_tree, new_map_tree, updated_map_tree}
use Rattle.core_ast.proofs.Forms.{binary_tree, values_tree, chain_tree, case_tree, letrec_tree, apply_tree, call_tree, primop_tree, try_tree, receive_tree, catch_tree}
use Rattle.core_ast.proofs.Items.{how_many-length}
use Rattle.core_scope.specs.Names.{defined_names}
use Rattle.call_graph.specs.declared.walk.CallWalk.{CallWalk}
use Rattle.call_graph.specs.Targets.{CallTarget, applied, called, targets_of, targets, all_targets, pair_targets, segment_targets, step_targets, clause_targets, def_targets}
use Rattle.call_graph.specs.steps.Walking.{noting, defining}
use Rattle.call_graph.proofs.Notes.{Answer, Part, next_step, noted_none, with_locals}

module _ (w0 : CallWalk) (e : Expr) where
  -- the state after all targets in a tree
  abbrev after : m.Tree → CallWalk
  after t = noting w0 (targets w0.locals t)

  pub variable_exit : (x : Atom) → e.form ≡ f.Var x → w0 ≡ noting w0 (targets w0.locals (tree e))
  variable_exit x is = noted_none w0 ∙ ap after (sym (variable_tree e x is))

  pub local_exit : (x : FunName) → e.form ≡ f.Local x → w0 ≡ noting w0 (targets w0.locals (tree e))
  local_exit x is = noted_none w0 ∙ ap after (sym (local_tree e x is))

  pub external_exit : (x : Atom) (y : FunName) → e.form ≡ f.External x y → w0 ≡ noting w0 (targets w0.locals (tree e))
  external_exit x y is = noted_none w0 ∙ ap after (sym (external_tree e x y is))

  pub literal_exit : (x : Literal) → e.form ≡ f.Lit x → w0 ≡ noting w0 (targets w0.locals (tree e))
  literal_exit x is = noted_none w0 ∙ ap after (sym (literal_tree e x is))

  pub new_map_exit : (ps qs : List MapPair) (o : Option Expr) (w1 : CallWalk) → e.form ≡ f.Map ps o → qs ≡ ps → w1 ≡ noting w0 (pair_targets w0.locals (all_pairs qs)) → o ≡ None
      → w1 ≡ noting w0 (targets w0.locals (tree e))
  new_map_exit ps qs o w1 is same one none = one ∙ ap (λ z. noting w0 (pair_targets w0.locals (all_pairs z))) same ∙ ap after (sym (new_map_tree e ps (is ∙ ap (f.Map ps) none)))

  module _ (r : Answer) (w1 : CallWalk) where
    pub fun_exit : (x : FunOf Expr) → e.form ≡ f.Fun x → OnOk r (w1 ≡ noting w0 (targets w0.locals (tree x.body))) → OnOk r (w1 ≡ noting w0 (targets w0.locals (tree e)))
    fun_exit x is = on_ok_weaker r (λ one. one ∙ ap after (sym (fun_tree e x is)))

    pub tuple_exit : (xs : List Expr) → e.form ≡ f.Tuple xs → OnOk r (w1 ≡ noting w0 (all_targets w0.locals (all_trees xs))) → OnOk r (w1 ≡ noting w0 (targets w0.locals (tree e)))
    tuple_exit xs is = on_ok_weaker r (λ one. one ∙ ap after (sym (tuple_tree e xs is)))

    pub values_exit : (xs : List Expr) → e.form ≡ f.Values xs → OnOk r (w1 ≡ noting w0 (all_targets w0.locals (all_trees xs))) → OnOk r (w1 ≡ noting w0 (targets w0.locals (tree e)))
    values_exit xs is = on_ok_weaker r (λ one. one ∙ ap after (sym (values_tree e xs is)))

    pub primop_exit : (x : Atom) (xs : List Expr) → e.form ≡ f.Primop x xs → OnOk r (w1 ≡ noting w0 (all_targets w0.locals (all_trees xs))) → OnOk r (w1 ≡ noting w0 (targets w0.locals (tree e)))
    primop_exit x xs is = on_ok_weaker r (λ one. one ∙ ap after (sym (primop_tree e x xs is)))

    pub binary_exit : (ss : List Segment) → e.form ≡ f.Binary ss → OnOk r (w1 ≡ noting w0 (segment_targets w0.locals (all_segments ss))) → OnOk r (w1 ≡ noting w0 (targets w0.locals (tree e)))
    binary_exit ss is = on_ok_weaker r (λ one. one ∙ ap after (sym (binary_tree e ss is)))

    pub catch_exit : (x : Expr) → e.form ≡ f.Catch x → OnOk r (w1 ≡ noting w0 (targets w0.locals (tree x))) → OnOk r (w1 ≡ noting w0 (targets w0.locals (tree e)))
    catch_exit x is = on_ok_weaker r (λ one. one ∙ ap after (sym (catch_tree e x is)))

    pub try_exit : (x : TryOf Expr) → e.form ≡ f.Try x → OnOk r (w1 ≡ noting w0 (targets w0.locals (tree x.arg) ++ targets w0.locals (tree x.body) ++ targets w0.locals (tree x.handler)))
        → OnOk r (w1 ≡ noting w0 (targets w0.locals (tree e)))
    try_exit x is = on_ok_weaker r (λ one. one ∙ ap after (sym (try_tree e x is)))

    -- forms with two parts and more
    module _ (w2 : CallWalk) where
      pub listed_exit : (xs : List Expr) (x : Expr) → e.form ≡ f.Listed xs x → w1 ≡ noting w0 (all_targets w0.locals (all_trees xs)) → OnOk r (w2 ≡ noting w1 (targets w1.locals (tree x)))
          → OnOk r (w2 ≡ noting w0 (targets w0.locals (tree e)))
      listed_exit xs x is one = on_ok_weaker r (λ two. next_step w0 w1 w2 (all_targets w0.locals (all_trees xs)) (λ fs. targets fs (tree x)) one two ∙ ap after (sym (listed_tree e xs x is)))

      pub updated_map_exit : (ps qs : List MapPair) (o : Option Expr) (x y : Expr) → e.form ≡ f.Map ps o → qs ≡ ps → w1 ≡ noting w0 (pair_targets w0.locals (all_pairs qs)) → o ≡ Some x → y ≡ x
          → OnOk r (w2 ≡ noting w1 (targets w1.locals (tree y))) → OnOk r (w2 ≡ noting w0 (targets w0.locals (tree e)))
      updated_map_exit ps qs o x y is pairs_are one some same = on_ok_weaker r (λ two. next_step w0 w1 w2 (pair_targets w0.locals (all_pairs qs)) (λ fs. targets fs (tree y)) one two
          ∙ ap (λ z. noting w0 (pair_targets w0.locals (all_pairs z) ++ targets w0.locals (tree y))) pairs_are ∙ ap (λ z. noting w0 (pair_targets w0.locals (all_pairs ps) ++ targets w0.locals (tree z))) same
          ∙ ap after (sym (updated_map_tree e ps x (is ∙ ap (f.Map ps) some))))

      pub chain_exit : (ss : List (StepOf Expr)) (x : Expr) → e.form ≡ f.Chain ss x → w1 ≡ noting w0 (step_targets w0.locals (all_steps ss)) → OnOk r (w2 ≡ noting w1 (targets w1.locals (tree x)))
          → OnOk r (w2 ≡ noting w0 (targets w0.locals (tree e)))
      chain_exit ss x is one = on_ok_weaker r (λ two. next_step w0 w1 w2 (step_targets w0.locals (all_steps ss)) (λ fs. targets fs (tree x)) one two ∙ ap after (sym (chain_tree e ss x is)))

      pub case_exit : (x : Expr) (cs : List Clause) → e.form ≡ f.Case x cs → w1 ≡ noting w0 (targets w0.locals (tree x)) → OnOk r (w2 ≡ noting w1 (clause_targets w1.locals (all_clauses cs)))
          → OnOk r (w2 ≡ noting w0 (targets w0.locals (tree e)))
      case_exit x cs is one = on_ok_weaker r (λ two. next_step w0 w1 w2 (targets w0.locals (tree x)) (λ fs. clause_targets fs (all_clauses cs)) one two ∙ ap after (sym (case_tree e x cs is)))

      module _ (w3 : CallWalk) where
        pub apply_exit : (x : Expr) (xs : List Expr) → e.form ≡ f.Apply x xs → ((n : ℕ) → w1 ≡ noting w0 (targets_of (applied w0.locals n (local_name (tree x))))) → w2 ≡ noting w1 (targets w1.locals (tree x))
            → OnOk r (w3 ≡ noting w2 (all_targets w2.locals (all_trees xs)))
            → OnOk r (w3 ≡ noting w0 (targets w0.locals (tree e)))
        apply_exit x xs is one two = on_ok_weaker r (λ three.
            let own : Part = λ fs. targets_of (applied fs (how_many (all_trees xs)) (local_name (tree x))) in
            next_step w0 w2 w3 (own w0.locals ++ targets w0.locals (tree x)) (λ fs. all_targets fs (all_trees xs)) (next_step w0 w1 w2 (own w0.locals) (λ fs. targets fs (tree x)) (one (how_many (all_trees xs))) two) three
            ∙ ap after (sym (apply_tree e x xs is)))

-- A `letrec`, whose functions' names end with it.
pub letrec_exit : (w0 w1 w2 w3 : CallWalk) (e : Expr) (ds ds1 ds2 : List (FunDefOf Expr)) (x x1 : Expr) (around : ℕ) (fs : List FunName) → e.form ≡ f.Letrec ds x → around ≡ length w0.locals → ds1 ≡ ds
    → w1 ≡ defining w0 (defined_names (all_defs ds1))
    → ds2 ≡ ds → w2 ≡ noting w1 (def_targets w1.locals (all_defs ds2)) → x1 ≡ x → w3 ≡ noting w2 (targets w2.locals (tree x1)) → fs ≡ take around w3.locals
    → with_locals w3 fs ≡ noting w0 (targets w0.locals (tree e))
letrec_exit w0 w1 w2 w3 e ds ds1 ds2 x x1 around fs is at first_are one second_are two last_is three left_is =
    let names : List FunName = defined_names (all_defs ds) in
    let inner : Part = λ ls. def_targets ls (all_defs ds) ++ targets ls (tree x) in
    let P : List (FunDefOf Expr) → Type 0 = λ z. w1 ≡ defining w0 (defined_names (all_defs z)) in
    let Q : List (FunDefOf Expr) → Type 0 = λ z. w2 ≡ noting w1 (def_targets w1.locals (all_defs z)) in
    let R : Expr → Type 0 = λ z. w3 ≡ noting w2 (targets w2.locals (tree z)) in
    let all : w3 ≡ noting (defining w0 names) (inner (w0.locals ++ names)) =
    next_step w1 w2 w3 (def_targets w1.locals (all_defs ds)) (λ ls. targets ls (tree x)) (subst Q second_are two) (subst R last_is three) ∙ ap (λ w. noting w (inner w.locals)) (subst P first_are one) in
    let left : fs ≡ w0.locals = left_is ∙ ap (λ n. take n w3.locals) at ∙ ap (λ w. take (length w0.locals) w.locals) all ∙ take-append_seam w0.locals names in
    ap (with_locals w3) left ∙ ap (λ w. with_locals w w0.locals) all ∙ ap (λ t. noting w0 (targets w0.locals t)) (sym (letrec_tree e ds x is))

-- A call, whose parts the code reads anew.
pub call_exit : (r : Answer) (w0 w1 w2 w3 w4 : CallWalk) (e x y : Expr) (xs : List Expr) (x1 y1 x2 y2 : Expr) (as1 : List Expr) (n : ℕ) → e.form ≡ f.Call x y xs → x1 ≡ x → y1 ≡ y → n ≡ length xs
    → w1 ≡ noting w0 (targets_of (called n (literal_atom (tree x1)) (literal_atom (tree y1))))
    → x2 ≡ x → w2 ≡ noting w1 (targets w1.locals (tree x2)) → y2 ≡ y → w3 ≡ noting w2 (targets w2.locals (tree y2)) → as1 ≡ xs → OnOk r (w4 ≡ noting w3 (all_targets w3.locals (all_trees as1)))
    → OnOk r (w4 ≡ noting w0 (targets w0.locals (tree e)))
call_exit r w0 w1 w2 w3 w4 e x y xs x1 y1 x2 y2 as1 n is home_is name_is count one home_again two name_again three args_are = on_ok_weaker r (λ four.
    let own : ℕ → Expr → Expr → List CallTarget = λ k a b. targets_of (called k (literal_atom (tree a)) (literal_atom (tree b))) in
    let count1 : n ≡ how_many (all_trees xs) = count ∙ sym (how_many-length xs) in
    let here : List CallTarget = own (how_many (all_trees xs)) x y in
    let first : w1 ≡ noting w0 here = one ∙ ap (λ z. noting w0 (own n z y1)) home_is ∙ ap (λ z. noting w0 (own n x z)) name_is ∙ ap (λ k. noting w0 (own k x y)) count1 in
    let second : w2 ≡ noting w1 (targets w1.locals (tree x)) = two ∙ ap (λ z. noting w1 (targets w1.locals (tree z))) home_again in
    let third : w3 ≡ noting w2 (targets w2.locals (tree y)) = three ∙ ap (λ z. noting w2 (targets w2.locals (tree z))) name_again in
    let fourth : w4 ≡ noting w3 (all_targets w3.locals (all_trees xs)) = four ∙ ap (λ z. noting w3 (all_targets w3.locals (all_trees z))) args_are in
    next_step w0 w3 w4 (here ++ targets w0.locals (tree x) ++ targets w0.locals (tree y)) (λ fs. all_targets fs (all_trees xs))
    (next_step w0 w2 w3 (here ++ targets w0.locals (tree x)) (λ fs. targets fs (tree y)) (next_step w0 w1 w2 here (λ fs. targets fs (tree x)) first second) third) fourth
    ∙ ap (λ t. noting w0 (targets w0.locals t)) (sym (call_tree e x y xs is)))

-- A `receive`.
pub receive_exit : (r : Answer) (w0 w1 w2 w3 : CallWalk) (e : Expr) (cs : List Clause) (x y : Expr) (cs1 : List Clause) (x1 y1 : Expr) → e.form ≡ f.Receive cs x y → cs1 ≡ cs
    → w1 ≡ noting w0 (clause_targets w0.locals (all_clauses cs1)) → x1 ≡ x → w2 ≡ noting w1 (targets w1.locals (tree x1)) → y1 ≡ y
    → OnOk r (w3 ≡ noting w2 (targets w2.locals (tree y1))) → OnOk r (w3 ≡ noting w0 (targets w0.locals (tree e)))
receive_exit r w0 w1 w2 w3 e cs x y cs1 x1 y1 is clauses_are one timeout_is two action_is = on_ok_weaker r (λ three.
    next_step w0 w2 w3 (clause_targets w0.locals (all_clauses cs1) ++ targets w0.locals (tree x1)) (λ fs. targets fs (tree y1)) (next_step w0 w1 w2 (clause_targets w0.locals (all_clauses cs1)) (λ fs. targets fs (tree x1)) one two) three
    ∙ ap (λ z. noting w0 (clause_targets w0.locals (all_clauses z) ++ targets w0.locals (tree x1) ++ targets w0.locals (tree y1))) clauses_are
    ∙ ap (λ z. noting w0 (clause_targets w0.locals (all_clauses cs) ++ targets w0.locals (tree z) ++ targets w0.locals (tree y1))) timeout_is
    ∙ ap (λ z. noting w0 (clause_targets w0.locals (all_clauses cs) ++ targets w0.locals (tree x) ++ targets w0.locals (tree z))) action_is
    ∙ ap (λ t. noting w0 (targets w0.locals t)) (sym (receive_tree e cs x y is)))

-- The parts of a `try`.
pub try_parts_exit : (r : Answer) (w0 w1 w2 w3 : CallWalk) (x : TryOf Expr) (arg body handler : Expr) → arg ≡ x.arg → w1 ≡ noting w0 (targets w0.locals (tree arg)) → body ≡ x.body
    → w2 ≡ noting w1 (targets w1.locals (tree body)) → handler ≡ x.handler
    → OnOk r (w3 ≡ noting w2 (targets w2.locals (tree handler))) → OnOk r (w3 ≡ noting w0 (targets w0.locals (tree x.arg) ++ targets w0.locals (tree x.body) ++ targets w0.locals (tree x.handler)))
try_parts_exit r w0 w1 w2 w3 x arg body handler arg_is one body_is two handler_is = on_ok_weaker r (λ three.
    next_step w0 w2 w3 (targets w0.locals (tree arg) ++ targets w0.locals (tree body)) (λ fs. targets fs (tree handler)) (next_step w0 w1 w2 (targets w0.locals (tree arg)) (λ fs. targets fs (tree body)) one two) three
    ∙ ap (λ z. noting w0 (targets w0.locals (tree z) ++ targets w0.locals (tree body) ++ targets w0.locals (tree handler))) arg_is
    ∙ ap (λ z. noting w0 (targets w0.locals (tree x.arg) ++ targets w0.locals (tree z) ++ targets w0.locals (tree handler))) body_is
    ∙ ap (λ z. noting w0 (targets w0.locals (tree x.arg) ++ targets w0.locals (tree x.body) ++ targets w0.locals (tree z))) handler_is)

pub ruleset expression_exits = (
  variable_exit,
  local_exit,
  external_exit,
  literal_exit,
  fun_exit,
  tuple_exit,
  values_exit,
  primop_exit,
  new_map_exit,
  binary_exit,
  catch_exit,
  try_exit,
  listed_exit,
  updated_map_exit,
  chain_exit,
  case_exit,
  apply_exit,
)
