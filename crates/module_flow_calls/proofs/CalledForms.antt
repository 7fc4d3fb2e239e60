-- The walk for calls by literal names, in expressions: what each way out of it says.
use Rattle.std.proofs.Common.{◌≡◌, ℕ, List, ◌++◌, Option, None, Some, OnOk, length, sym, ap, ◌∙◌, subst}
use Rattle.std.proofs.lemmas.Result.{on_ok_weaker}
use Rattle.type_kinds.specs.declared.atom.Atom.{Atom}
use Rattle.core_ast.specs.declared.syntax.FunName.{FunName}
use Rattle.core_ast.specs.declared.syntax.FunOf.{FunOf}
use Rattle.core_ast.specs.declared.syntax.FunDefOf.{FunDefOf}
use Rattle.core_ast.specs.declared.syntax.StepOf.{StepOf}
use Rattle.core_ast.specs.declared.syntax.TryOf.{TryOf}
use Rattle.core_ast.specs.declared.syntax.Literal.{Literal}
use Rattle.core_ast.specs.declared.syntax.Expr.{Expr}
use Rattle.core_ast.specs.declared.syntax.Clause.{Clause}
use Rattle.core_ast.specs.declared.syntax.MapPair.{MapPair}
use Rattle.core_ast.specs.declared.syntax.Segment.{Segment}
use Rattle.core_ast.specs.declared.syntax.Form.TheVariants as f
use Rattle.core_ast.specs.Model as m
use Rattle.core_ast.specs.Tree.{tree, all_trees, all_pairs, all_segments, all_steps, all_clauses, all_defs}
use Rattle.core_ast.specs.Lengths.{how_many}
use Rattle.core_ast.proofs.Forms.{variable_tree, local_tree, external_tree, literal_tree, fun_tree, listed_tree, tuple_tree, new_map_tree, updated_map_tree}
use Rattle.core_ast.proofs.Forms.{binary_tree, values_tree, chain_tree, case_tree, letrec_tree, apply_tree, call_tree, primop_tree, try_tree, receive_tree, catch_tree}
use Rattle.core_ast.proofs.Items.{how_many-length}
use Rattle.cons_gen_rows.specs.Counts.{call_names}
use Rattle.cons_tree.specs.declared.parts.Callee.{Callee}
use Rattle.module_flow_calls.specs.declared.node_context.NodeContext.{NodeContext}
use Rattle.module_flow_calls.specs.declared.unknown.NamingWalk.{NamingWalk}
use Rattle.module_flow_calls.specs.NodeContext.{under, under_steps}
use Rattle.module_flow_calls.specs.Unknown.{Naming, naming, namings, all_namings, pair_namings, segment_namings, step_namings, clause_namings, def_namings}
use Rattle.module_flow_calls.specs.steps.FirstCalls.{Notes, try_namings}
use Rattle.module_flow_calls.proofs.FirstCalls.{Answer, notes_none, notes_then}

module _ (k : Atom → FunName → Callee) (w0 : NamingWalk) (a : NodeContext) (e : Expr) where
  -- what was met before was all that is met in the tree
  whole : (w : NamingWalk) (t : m.Tree) → tree e ≡ t → Notes k w0 w (namings a t) → Notes k w0 w (namings a (tree e))
  whole w t is = subst (λ z. Notes k w0 w (namings a z)) (sym is)

  pub variable_exit : (x : Atom) → e.form ≡ f.Var x → Notes k w0 w0 (namings a (tree e))
  variable_exit x is = whole w0 _ (variable_tree e x is) (notes_none k w0)

  pub local_exit : (x : FunName) → e.form ≡ f.Local x → Notes k w0 w0 (namings a (tree e))
  local_exit x is = whole w0 _ (local_tree e x is) (notes_none k w0)

  pub external_exit : (x : Atom) (y : FunName) → e.form ≡ f.External x y → Notes k w0 w0 (namings a (tree e))
  external_exit x y is = whole w0 _ (external_tree e x y is) (notes_none k w0)

  pub literal_exit : (x : Literal) → e.form ≡ f.Lit x → Notes k w0 w0 (namings a (tree e))
  literal_exit x is = whole w0 _ (literal_tree e x is) (notes_none k w0)

  -- inside of it stands b around
  module _ (b : NodeContext) (inner : b ≡ under a e.mark.note) where
    -- the parts, by what stands around them
    within : (w w1 : NamingWalk) (part : NodeContext → List Naming) → Notes k w w1 (part b) → Notes k w w1 (part (under a e.mark.note))
    within w w1 part = subst (λ z. Notes k w w1 (part z)) inner

    pub new_map_exit : (ps qs : List MapPair) (o : Option Expr) (w1 : NamingWalk) → e.form ≡ f.Map ps o → qs ≡ ps → Notes k w0 w1 (pair_namings b (all_pairs qs)) → o ≡ None → Notes k w0 w1 (namings a (tree e))
    new_map_exit ps qs o w1 is same one none = whole w1 _ (new_map_tree e ps (is ∙ ap (f.Map ps) none)) (within w0 w1 (λ z. pair_namings z (all_pairs ps)) (subst (λ z. Notes k w0 w1 (pair_namings b (all_pairs z))) same one))

    module _ (r : Answer) (w1 : NamingWalk) where
      pub fun_exit : (x : FunOf Expr) → e.form ≡ f.Fun x → OnOk r (Notes k w0 w1 (namings b (tree x.body))) → OnOk r (Notes k w0 w1 (namings a (tree e)))
      fun_exit x is = on_ok_weaker r (λ one. whole w1 _ (fun_tree e x is) (within w0 w1 (λ z. namings z (tree x.body)) one))

      pub tuple_exit : (xs : List Expr) → e.form ≡ f.Tuple xs → OnOk r (Notes k w0 w1 (all_namings b (all_trees xs))) → OnOk r (Notes k w0 w1 (namings a (tree e)))
      tuple_exit xs is = on_ok_weaker r (λ one. whole w1 _ (tuple_tree e xs is) (within w0 w1 (λ z. all_namings z (all_trees xs)) one))

      pub values_exit : (xs : List Expr) → e.form ≡ f.Values xs → OnOk r (Notes k w0 w1 (all_namings b (all_trees xs))) → OnOk r (Notes k w0 w1 (namings a (tree e)))
      values_exit xs is = on_ok_weaker r (λ one. whole w1 _ (values_tree e xs is) (within w0 w1 (λ z. all_namings z (all_trees xs)) one))

      pub primop_exit : (x : Atom) (xs ys : List Expr) → e.form ≡ f.Primop x xs → ys ≡ xs → OnOk r (Notes k w0 w1 (all_namings b (all_trees ys))) → OnOk r (Notes k w0 w1 (namings a (tree e)))
      primop_exit x xs ys is same = on_ok_weaker r (λ one. whole w1 _ (primop_tree e x xs is) (within w0 w1 (λ z. all_namings z (all_trees xs)) (subst (λ z. Notes k w0 w1 (all_namings b (all_trees z))) same one)))

      pub binary_exit : (ss : List Segment) → e.form ≡ f.Binary ss → OnOk r (Notes k w0 w1 (segment_namings b (all_segments ss))) → OnOk r (Notes k w0 w1 (namings a (tree e)))
      binary_exit ss is = on_ok_weaker r (λ one. whole w1 _ (binary_tree e ss is) (within w0 w1 (λ z. segment_namings z (all_segments ss)) one))

      pub catch_exit : (x : Expr) → e.form ≡ f.Catch x → OnOk r (Notes k w0 w1 (namings b (tree x))) → OnOk r (Notes k w0 w1 (namings a (tree e)))
      catch_exit x is = on_ok_weaker r (λ one. whole w1 _ (catch_tree e x is) (within w0 w1 (λ z. namings z (tree x)) one))

      pub try_exit : (x : TryOf Expr) → e.form ≡ f.Try x → OnOk r (Notes k w0 w1 (try_namings b x)) → OnOk r (Notes k w0 w1 (namings a (tree e)))
      try_exit x is = on_ok_weaker r (λ one. whole w1 _ (try_tree e x is) (within w0 w1 (λ z. try_namings z x) one))

      -- forms with two parts and more
      module _ (w2 : NamingWalk) where
        pub listed_exit : (xs : List Expr) (x : Expr) → e.form ≡ f.Listed xs x → Notes k w0 w1 (all_namings b (all_trees xs)) → OnOk r (Notes k w1 w2 (namings b (tree x))) → OnOk r (Notes k w0 w2 (namings a (tree e)))
        listed_exit xs x is one = on_ok_weaker r (λ two. whole w2 _ (listed_tree e xs x is)
            (within w0 w2 (λ z. all_namings z (all_trees xs) ++ namings z (tree x)) (notes_then k w0 w1 w2 (all_namings b (all_trees xs)) (namings b (tree x)) one two)))

        pub case_exit : (x : Expr) (cs : List Clause) → e.form ≡ f.Case x cs → Notes k w0 w1 (namings b (tree x)) → OnOk r (Notes k w1 w2 (clause_namings b (all_clauses cs))) → OnOk r (Notes k w0 w2 (namings a (tree e)))
        case_exit x cs is one = on_ok_weaker r (λ two. whole w2 _ (case_tree e x cs is)
            (within w0 w2 (λ z. namings z (tree x) ++ clause_namings z (all_clauses cs)) (notes_then k w0 w1 w2 (namings b (tree x)) (clause_namings b (all_clauses cs)) one two)))

        pub letrec_exit : (ds : List (FunDefOf Expr)) (x : Expr) → e.form ≡ f.Letrec ds x → Notes k w0 w1 (def_namings b (all_defs ds)) → OnOk r (Notes k w1 w2 (namings b (tree x))) → OnOk r (Notes k w0 w2 (namings a (tree e)))
        letrec_exit ds x is one = on_ok_weaker r (λ two. whole w2 _ (letrec_tree e ds x is)
            (within w0 w2 (λ z. def_namings z (all_defs ds) ++ namings z (tree x)) (notes_then k w0 w1 w2 (def_namings b (all_defs ds)) (namings b (tree x)) one two)))

        pub apply_exit : (x : Expr) (xs : List Expr) → e.form ≡ f.Apply x xs → Notes k w0 w1 (namings b (tree x)) → OnOk r (Notes k w1 w2 (all_namings b (all_trees xs))) → OnOk r (Notes k w0 w2 (namings a (tree e)))
        apply_exit x xs is one = on_ok_weaker r (λ two. whole w2 _ (apply_tree e x xs is)
            (within w0 w2 (λ z. namings z (tree x) ++ all_namings z (all_trees xs)) (notes_then k w0 w1 w2 (namings b (tree x)) (all_namings b (all_trees xs)) one two)))

        pub updated_map_exit : (ps qs : List MapPair) (o : Option Expr) (x y : Expr) → e.form ≡ f.Map ps o → qs ≡ ps → Notes k w0 w1 (pair_namings b (all_pairs qs)) → o ≡ Some x → y ≡ x
            → OnOk r (Notes k w1 w2 (namings b (tree y))) → OnOk r (Notes k w0 w2 (namings a (tree e)))
        updated_map_exit ps qs o x y is pairs_are one some same = on_ok_weaker r (λ two. whole w2 _ (updated_map_tree e ps x (is ∙ ap (f.Map ps) some)) (within w0 w2 (λ z. pair_namings z (all_pairs ps) ++ namings z (tree x))
            (notes_then k w0 w1 w2 (pair_namings b (all_pairs ps)) (namings b (tree x)) (subst (λ z. Notes k w0 w1 (pair_namings b (all_pairs z))) pairs_are one) (subst (λ z. Notes k w1 w2 (namings b (tree z))) same two))))

        -- what follows the steps stands inside of all of them
        pub chain_exit : (ss ss1 ss2 : List (StepOf Expr)) (x y : Expr) (c : NodeContext) → e.form ≡ f.Chain ss x → ss1 ≡ ss → Notes k w0 w1 (step_namings b (all_steps ss1)) → ss2 ≡ ss → c ≡ under_steps b (all_steps ss2)
            → y ≡ x → OnOk r (Notes k w1 w2 (namings c (tree y)))
            → OnOk r (Notes k w0 w2 (namings a (tree e)))
        chain_exit ss ss1 ss2 x y c is first_are one second_are behind same = on_ok_weaker r (λ two. whole w2 _ (chain_tree e ss x is) (within w0 w2 (λ z. step_namings z (all_steps ss) ++ namings (under_steps z (all_steps ss)) (tree x))
            (notes_then k w0 w1 w2 (step_namings b (all_steps ss)) (namings (under_steps b (all_steps ss)) (tree x)) (subst (λ z. Notes k w0 w1 (step_namings b (all_steps z))) first_are one)
            (subst (λ z. Notes k w1 w2 (namings z (tree x))) (behind ∙ ap (λ z. under_steps b (all_steps z)) second_are) (subst (λ z. Notes k w1 w2 (namings c (tree z))) same two)))))

        module _ (w3 : NamingWalk) where
          pub receive_exit : (cs cs1 : List Clause) (x x1 y y1 : Expr) → e.form ≡ f.Receive cs x y → cs1 ≡ cs → Notes k w0 w1 (clause_namings b (all_clauses cs1)) → x1 ≡ x → Notes k w1 w2 (namings b (tree x1)) → y1 ≡ y
              → OnOk r (Notes k w2 w3 (namings b (tree y1)))
              → OnOk r (Notes k w0 w3 (namings a (tree e)))
          receive_exit cs cs1 x x1 y y1 is clauses_are one timeout_is two action_is =
              on_ok_weaker r (λ three. whole w3 _ (receive_tree e cs x y is) (within w0 w3 (λ z. clause_namings z (all_clauses cs) ++ namings z (tree x) ++ namings z (tree y))
              (notes_then k w0 w2 w3 (clause_namings b (all_clauses cs) ++ namings b (tree x)) (namings b (tree y))
              (notes_then k w0 w1 w2 (clause_namings b (all_clauses cs)) (namings b (tree x)) (subst (λ z. Notes k w0 w1 (clause_namings b (all_clauses z))) clauses_are one)
              (subst (λ z. Notes k w1 w2 (namings b (tree z))) timeout_is two))
              (subst (λ z. Notes k w2 w3 (namings b (tree z))) action_is three))))

          module _ (w4 : NamingWalk) where
            -- a call, whose parts the code reads anew
            pub call_exit : (x y x1 y1 x2 y2 : Expr) (xs ys : List Expr) (n : ℕ) → e.form ≡ f.Call x y xs → x1 ≡ x → y1 ≡ y → n ≡ length xs → Notes k w0 w1 (naming b e.mark (call_names (tree x1) (tree y1)) n)
                → x2 ≡ x → Notes k w1 w2 (namings b (tree x2)) → y2 ≡ y
                → Notes k w2 w3 (namings b (tree y2)) → ys ≡ xs → OnOk r (Notes k w3 w4 (all_namings b (all_trees ys))) → OnOk r (Notes k w0 w4 (namings a (tree e)))
            call_exit x y x1 y1 x2 y2 xs ys n is home_is name_is count one home_again two name_again three args_are = on_ok_weaker r (λ four.
                let own : NodeContext → List Naming = λ z. naming z e.mark (call_names (tree x) (tree y)) (how_many (all_trees xs)) in
                let count1 : n ≡ how_many (all_trees xs) = count ∙ sym (how_many-length xs) in
                let first : Notes k w0 w1 (own b) = subst (λ l. Notes k w0 w1 l)
                (ap (λ z. naming b e.mark (call_names (tree z) (tree y1)) n) home_is ∙ ap (λ z. naming b e.mark (call_names (tree x) (tree z)) n) name_is ∙ ap (naming b e.mark (call_names (tree x) (tree y))) count1) one in
                whole w4 _ (call_tree e x y xs is) (within w0 w4 (λ z. own z ++ namings z (tree x) ++ namings z (tree y) ++ all_namings z (all_trees xs))
                (notes_then k w0 w3 w4 (own b ++ namings b (tree x) ++ namings b (tree y)) (all_namings b (all_trees xs))
                (notes_then k w0 w2 w3 (own b ++ namings b (tree x)) (namings b (tree y))
                (notes_then k w0 w1 w2 (own b) (namings b (tree x)) first (subst (λ z. Notes k w1 w2 (namings b (tree z))) home_again two))
                (subst (λ z. Notes k w2 w3 (namings b (tree z))) name_again three))
                (subst (λ z. Notes k w3 w4 (all_namings b (all_trees z))) args_are four))))

-- The parts of a `try`.
pub try_parts_exit : (k : Atom → FunName → Callee) (r : Answer) (w0 w1 w2 w3 : NamingWalk) (a : NodeContext) (x : TryOf Expr) (arg body handler : Expr) → arg ≡ x.arg → Notes k w0 w1 (namings a (tree arg)) → body ≡ x.body
    → Notes k w1 w2 (namings a (tree body)) → handler ≡ x.handler
    → OnOk r (Notes k w2 w3 (namings a (tree handler))) → OnOk r (Notes k w0 w3 (try_namings a x))
try_parts_exit k r w0 w1 w2 w3 a x arg body handler arg_is one body_is two handler_is = on_ok_weaker r (λ three.
    notes_then k w0 w2 w3 (namings a (tree x.arg) ++ namings a (tree x.body)) (namings a (tree x.handler))
    (notes_then k w0 w1 w2 (namings a (tree x.arg)) (namings a (tree x.body)) (subst (λ z. Notes k w0 w1 (namings a (tree z))) arg_is one) (subst (λ z. Notes k w1 w2 (namings a (tree z))) body_is two))
    (subst (λ z. Notes k w2 w3 (namings a (tree z))) handler_is three))

pub ruleset called_forms = (variable_exit, local_exit, external_exit, literal_exit, fun_exit, tuple_exit, values_exit, new_map_exit, binary_exit, catch_exit, try_exit, listed_exit, updated_map_exit, case_exit, letrec_exit, apply_exit)
