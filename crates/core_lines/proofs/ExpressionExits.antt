-- The walk through expressions: what each way out of it says.
use Rattle.std.proofs.Common.{◌≡◌, ℕ, List, [], ◌∷◌, ◌++◌, Option, None, Some, OnOk, refl, sym, ap, ◌∙◌}
use Rattle.std.specs.Prelude.{unwrap_or}
use Rattle.std.proofs.lemmas.Result.{on_ok_weaker}
use Rattle.type_kinds.specs.declared.atom.Atom.{Atom}
use Rattle.core_ast.specs.declared.syntax.FunName.{FunName}
use Rattle.core_ast.specs.declared.syntax.FunOf.{FunOf}
use Rattle.core_ast.specs.declared.syntax.FunDefOf.{FunDefOf}
use Rattle.core_ast.specs.declared.syntax.StepOf.{StepOf}
use Rattle.core_ast.specs.declared.syntax.TryOf.{TryOf}
use Rattle.core_ast.specs.declared.syntax.Literal.{Literal}
use Rattle.core_ast.specs.declared.syntax.Expr.{Expr}
use Rattle.core_ast.specs.declared.syntax.Clause.{Clause}
use Rattle.core_ast.specs.declared.syntax.MapPair.{MapPair}
use Rattle.core_ast.specs.declared.syntax.Segment.{Segment}
use Rattle.core_ast.specs.declared.syntax.Form.TheVariants as f
use Rattle.core_ast.specs.Model as m
use Rattle.core_ast.specs.Tree.{tree, all_trees, all_pairs, all_segments, all_steps, all_clauses, all_defs}
use Rattle.core_ast.proofs.Forms.{variable_tree, local_tree, external_tree, literal_tree, fun_tree, listed_tree, tuple_tree, new_map_tree, updated_map_tree, binary_tree}
use Rattle.core_ast.proofs.Forms.{values_tree, chain_tree, case_tree, letrec_tree, apply_tree, call_tree, primop_tree, try_tree, receive_tree, catch_tree, Opened, opened}
use Rattle.core_lines.specs.Lines.{behind, line_of, lines, lines_of_all, lines_of_clauses, lines_of_defs, lines_of_pairs, lines_of_segments, lines_of_steps, noted}
use Rattle.core_lines.specs.steps.Parts.{below}
use Rattle.core_lines.proofs.Joining.{Answer, next, nothing, three_parts}

-- the own line of an expression stands before those of its parts
own_first : (a : Option ℕ) (e : Expr) (t : m.Tree) → Opened e t → lines a t ≡ line_of a e.mark ∷ below (noted a e.mark) t
own_first a e (m.variable k x) h = ap (λ k. line_of a k ∷ below (noted a k) (m.variable k x)) (sym h.1)
own_first a e (m.local k x) h = ap (λ k. line_of a k ∷ below (noted a k) (m.local k x)) (sym h.1)
own_first a e (m.external k x y) h = ap (λ k. line_of a k ∷ below (noted a k) (m.external k x y)) (sym h.1)
own_first a e (m.literal k x) h = ap (λ k. line_of a k ∷ below (noted a k) (m.literal k x)) (sym h.1)
own_first a e (m.function k zs t) h = ap (λ k. line_of a k ∷ below (noted a k) (m.function k zs t)) (sym h.2)
own_first a e (m.listed k ts t) h = ap (λ k. line_of a k ∷ below (noted a k) (m.listed k ts t)) (sym h.3)
own_first a e (m.tuple k ts) h = ap (λ k. line_of a k ∷ below (noted a k) (m.tuple k ts)) (sym h.2)
own_first a e (m.new_map k us) h = ap (λ k. line_of a k ∷ below (noted a k) (m.new_map k us)) (sym h.2)
own_first a e (m.updated_map k us t) h = ap (λ k. line_of a k ∷ below (noted a k) (m.updated_map k us t)) (sym h.3)
own_first a e (m.binary k us) h = ap (λ k. line_of a k ∷ below (noted a k) (m.binary k us)) (sym h.2)
own_first a e (m.values k ts) h = ap (λ k. line_of a k ∷ below (noted a k) (m.values k ts)) (sym h.2)
own_first a e (m.chain k us t) h = ap (λ k. line_of a k ∷ below (noted a k) (m.chain k us t)) (sym h.3)
own_first a e (m.case k t us) h = ap (λ k. line_of a k ∷ below (noted a k) (m.case k t us)) (sym h.3)
own_first a e (m.letrec k us t) h = ap (λ k. line_of a k ∷ below (noted a k) (m.letrec k us t)) (sym h.3)
own_first a e (m.apply k t ts) h = ap (λ k. line_of a k ∷ below (noted a k) (m.apply k t ts)) (sym h.3)
own_first a e (m.call k t u ts) h = ap (λ k. line_of a k ∷ below (noted a k) (m.call k t u ts)) (sym h.4)
own_first a e (m.primop k x ts) h = ap (λ k. line_of a k ∷ below (noted a k) (m.primop k x ts)) (sym h.2)
own_first a e (m.try k t zs u vs w) h = ap (λ k. line_of a k ∷ below (noted a k) (m.try k t zs u vs w)) (sym h.2)
own_first a e (m.receive k us t u) h = ap (λ k. line_of a k ∷ below (noted a k) (m.receive k us t u)) (sym h.4)
own_first a e (m.catch k t) h = ap (λ k. line_of a k ∷ below (noted a k) (m.catch k t)) (sym h.2)

pub own_line : (o0 o1 o2 : List ℕ) (a i : Option ℕ) (e : Expr) → i ≡ noted a e.mark → o1 ≡ o0 ++ unwrap_or i e.mark.place.line ∷ [] → o2 ≡ o1 ++ below i (tree e) → o2 ≡ o0 ++ lines a (tree e)
own_line o0 o1 o2 a i e is one two =
    next o0 o1 o2 (unwrap_or i e.mark.place.line ∷ []) (below i (tree e)) one two
    ∙ ap (λ j. o0 ++ unwrap_or j e.mark.place.line ∷ below j (tree e)) is ∙ ap (λ x. o0 ++ x) (sym (own_first a e (tree e) (opened e (tree e) refl)))

module _ (o : List ℕ) (a : Option ℕ) (e : Expr) where
  -- what is there behind the lines of a tree's parts
  abbrev after : m.Tree → List ℕ
  after t = o ++ below a t

  pub variable_exit : (x : Atom) → e.form ≡ f.Var x → o ≡ o ++ below a (tree e)
  variable_exit x is = nothing o ∙ ap after (sym (variable_tree e x is))

  pub local_exit : (x : FunName) → e.form ≡ f.Local x → o ≡ o ++ below a (tree e)
  local_exit x is = nothing o ∙ ap after (sym (local_tree e x is))

  pub external_exit : (x : Atom) (y : FunName) → e.form ≡ f.External x y → o ≡ o ++ below a (tree e)
  external_exit x y is = nothing o ∙ ap after (sym (external_tree e x y is))

  pub literal_exit : (x : Literal) → e.form ≡ f.Lit x → o ≡ o ++ below a (tree e)
  literal_exit x is = nothing o ∙ ap after (sym (literal_tree e x is))

  pub new_map_exit : (ps qs : List MapPair) (u : Option Expr) (o1 : List ℕ) → e.form ≡ f.Map ps u → qs ≡ ps → o1 ≡ o ++ lines_of_pairs a (all_pairs qs) → u ≡ None → o1 ≡ o ++ below a (tree e)
  new_map_exit ps qs u o1 is same one none = one ∙ ap (λ z. o ++ lines_of_pairs a (all_pairs z)) same ∙ ap after (sym (new_map_tree e ps (is ∙ ap (f.Map ps) none)))

  module _ (r : Answer) (o1 : List ℕ) where
    pub fun_exit : (x : FunOf Expr) → e.form ≡ f.Fun x → OnOk r (o1 ≡ o ++ lines a (tree x.body)) → OnOk r (o1 ≡ o ++ below a (tree e))
    fun_exit x is = on_ok_weaker r (λ one. one ∙ ap after (sym (fun_tree e x is)))

    pub tuple_exit : (xs : List Expr) → e.form ≡ f.Tuple xs → OnOk r (o1 ≡ o ++ lines_of_all a (all_trees xs)) → OnOk r (o1 ≡ o ++ below a (tree e))
    tuple_exit xs is = on_ok_weaker r (λ one. one ∙ ap after (sym (tuple_tree e xs is)))

    pub values_exit : (xs : List Expr) → e.form ≡ f.Values xs → OnOk r (o1 ≡ o ++ lines_of_all a (all_trees xs)) → OnOk r (o1 ≡ o ++ below a (tree e))
    values_exit xs is = on_ok_weaker r (λ one. one ∙ ap after (sym (values_tree e xs is)))

    pub primop_exit : (x : Atom) (xs : List Expr) → e.form ≡ f.Primop x xs → OnOk r (o1 ≡ o ++ lines_of_all a (all_trees xs)) → OnOk r (o1 ≡ o ++ below a (tree e))
    primop_exit x xs is = on_ok_weaker r (λ one. one ∙ ap after (sym (primop_tree e x xs is)))

    pub binary_exit : (ss : List Segment) → e.form ≡ f.Binary ss → OnOk r (o1 ≡ o ++ lines_of_segments a (all_segments ss)) → OnOk r (o1 ≡ o ++ below a (tree e))
    binary_exit ss is = on_ok_weaker r (λ one. one ∙ ap after (sym (binary_tree e ss is)))

    pub catch_exit : (x : Expr) → e.form ≡ f.Catch x → OnOk r (o1 ≡ o ++ lines a (tree x)) → OnOk r (o1 ≡ o ++ below a (tree e))
    catch_exit x is = on_ok_weaker r (λ one. one ∙ ap after (sym (catch_tree e x is)))

    pub try_exit : (x : TryOf Expr) → e.form ≡ f.Try x → OnOk r (o1 ≡ o ++ (lines a (tree x.arg) ++ lines a (tree x.body) ++ lines a (tree x.handler))) → OnOk r (o1 ≡ o ++ below a (tree e))
    try_exit x is = on_ok_weaker r (λ one. one ∙ ap after (sym (try_tree e x is)))

    -- forms with two parts
    module _ (o2 : List ℕ) where
      pub listed_exit : (xs : List Expr) (x : Expr) → e.form ≡ f.Listed xs x → o1 ≡ o ++ lines_of_all a (all_trees xs) → OnOk r (o2 ≡ o1 ++ lines a (tree x)) → OnOk r (o2 ≡ o ++ below a (tree e))
      listed_exit xs x is one = on_ok_weaker r (λ two. next o o1 o2 (lines_of_all a (all_trees xs)) (lines a (tree x)) one two ∙ ap after (sym (listed_tree e xs x is)))

      pub updated_map_exit : (ps qs : List MapPair) (u : Option Expr) (x y : Expr) → e.form ≡ f.Map ps u → qs ≡ ps → o1 ≡ o ++ lines_of_pairs a (all_pairs qs) → u ≡ Some x → y ≡ x
          → OnOk r (o2 ≡ o1 ++ lines a (tree y)) → OnOk r (o2 ≡ o ++ below a (tree e))
      updated_map_exit ps qs u x y is pairs_are one some same = on_ok_weaker r (λ two. next o o1 o2 (lines_of_pairs a (all_pairs qs)) (lines a (tree y)) one two
          ∙ ap (λ z. o ++ (lines_of_pairs a (all_pairs z) ++ lines a (tree y))) pairs_are ∙ ap (λ z. o ++ (lines_of_pairs a (all_pairs ps) ++ lines a (tree z))) same
          ∙ ap after (sym (updated_map_tree e ps x (is ∙ ap (f.Map ps) some))))

      pub chain_exit : (ss : List (StepOf Expr)) (x : Expr) (j : Option ℕ) → e.form ≡ f.Chain ss x → j ≡ behind a (all_steps ss) → o1 ≡ o ++ lines_of_steps a (all_steps ss) → OnOk r (o2 ≡ o1 ++ lines j (tree x))
          → OnOk r (o2 ≡ o ++ below a (tree e))
      chain_exit ss x j is last one = on_ok_weaker r (λ two. next o o1 o2 (lines_of_steps a (all_steps ss)) (lines j (tree x)) one two
          ∙ ap (λ z. o ++ (lines_of_steps a (all_steps ss) ++ lines z (tree x))) last ∙ ap after (sym (chain_tree e ss x is)))

      pub case_exit : (x : Expr) (cs : List Clause) → e.form ≡ f.Case x cs → o1 ≡ o ++ lines a (tree x) → OnOk r (o2 ≡ o1 ++ lines_of_clauses a (all_clauses cs)) → OnOk r (o2 ≡ o ++ below a (tree e))
      case_exit x cs is one = on_ok_weaker r (λ two. next o o1 o2 (lines a (tree x)) (lines_of_clauses a (all_clauses cs)) one two ∙ ap after (sym (case_tree e x cs is)))

      pub letrec_exit : (ds : List (FunDefOf Expr)) (x : Expr) → e.form ≡ f.Letrec ds x → o1 ≡ o ++ lines_of_defs a (all_defs ds) → OnOk r (o2 ≡ o1 ++ lines a (tree x)) → OnOk r (o2 ≡ o ++ below a (tree e))
      letrec_exit ds x is one = on_ok_weaker r (λ two. next o o1 o2 (lines_of_defs a (all_defs ds)) (lines a (tree x)) one two ∙ ap after (sym (letrec_tree e ds x is)))

      pub apply_exit : (x : Expr) (xs : List Expr) → e.form ≡ f.Apply x xs → o1 ≡ o ++ lines a (tree x) → OnOk r (o2 ≡ o1 ++ lines_of_all a (all_trees xs)) → OnOk r (o2 ≡ o ++ below a (tree e))
      apply_exit x xs is one = on_ok_weaker r (λ two. next o o1 o2 (lines a (tree x)) (lines_of_all a (all_trees xs)) one two ∙ ap after (sym (apply_tree e x xs is)))

      -- and with three
      module _ (o3 : List ℕ) where
        pub call_exit : (x y : Expr) (xs : List Expr) → e.form ≡ f.Call x y xs → o1 ≡ o ++ lines a (tree x) → o2 ≡ o1 ++ lines a (tree y) → OnOk r (o3 ≡ o2 ++ lines_of_all a (all_trees xs))
            → OnOk r (o3 ≡ o ++ below a (tree e))
        call_exit x y xs is one two = on_ok_weaker r (λ three. three_parts o o1 o2 o3 (lines a (tree x)) (lines a (tree y)) (lines_of_all a (all_trees xs)) one two three ∙ ap after (sym (call_tree e x y xs is)))

        pub receive_exit : (cs : List Clause) (x y : Expr) → e.form ≡ f.Receive cs x y → o1 ≡ o ++ lines_of_clauses a (all_clauses cs) → o2 ≡ o1 ++ lines a (tree x) → OnOk r (o3 ≡ o2 ++ lines a (tree y))
            → OnOk r (o3 ≡ o ++ below a (tree e))
        receive_exit cs x y is one two = on_ok_weaker r (λ three. three_parts o o1 o2 o3 (lines_of_clauses a (all_clauses cs)) (lines a (tree x)) (lines a (tree y)) one two three ∙ ap after (sym (receive_tree e cs x y is)))

pub ruleset expression_exits = (
  variable_exit,
  local_exit,
  external_exit,
  literal_exit,
  fun_exit,
  tuple_exit,
  values_exit,
  primop_exit,
  new_map_exit,
  binary_exit,
  catch_exit,
  try_exit,
  listed_exit,
  updated_map_exit,
  chain_exit,
  case_exit,
  letrec_exit,
  apply_exit,
  call_exit,
  receive_exit,
)
