-- The walk through expressions: what each way out of it says.
use Rattle.std.proofs.Common.{◌≡◌, List, [], ◌∷◌, map, None, Some, Result, IfOk, sym, ap, subst}
use Rattle.std.proofs.lemmas.Result.{IfOk-weaker}
use Rattle.type_kinds.specs.declared.atom.Atom.{Atom}
use Rattle.type_kinds.specs.declared.memory.Memory.{Memory}
use Rattle.core_ast.specs.declared.syntax.Clause.{Clause}
use Rattle.core_ast.specs.declared.syntax.Expr.{Expr}
use Rattle.core_ast.specs.declared.syntax.Form.TheVariants as f
use Rattle.core_ast.specs.declared.syntax.FunDefOf.{FunDefOf}
use Rattle.core_ast.specs.declared.syntax.FunName.{FunName}
use Rattle.core_ast.specs.declared.syntax.FunOf.{FunOf}
use Rattle.core_ast.specs.declared.syntax.Literal.{Literal}
use Rattle.core_ast.specs.declared.syntax.MapPair.{MapPair}
use Rattle.core_ast.specs.declared.syntax.Mark.{Mark}
use Rattle.core_ast.specs.declared.syntax.Segment.{Segment}
use Rattle.core_ast.specs.declared.syntax.StepOf.{StepOf}
use Rattle.core_ast.specs.declared.syntax.TryOf.{TryOf}
use Rattle.core_ast.specs.Model as m
use Rattle.core_ast.specs.Tree.{all_clauses, all_defs, all_pairs, all_segments, all_steps, all_trees, tree}
use Rattle.core_ast.proofs.Forms.{variable_tree, local_tree, external_tree, literal_tree, fun_tree, listed_tree, tuple_tree, new_map_tree, updated_map_tree, binary_tree}
use Rattle.core_ast.proofs.Forms.{values_tree, chain_tree, case_tree, letrec_tree, apply_tree, call_tree, primop_tree, try_tree, receive_tree, catch_tree}
use Rattle.core_scope.specs.Asks.{one_value}
use Rattle.core_scope.specs.declared.ask.Ask.{Ask}
use Rattle.fun_flow_places.specs.Naming.{place_named}
use Rattle.fun_flow_places.specs.declared.places.FlowPlace.{FlowPlace}
use Rattle.fun_flow_places.specs.declared.places.FlowPlace.TheVariants as p
use Rattle.fun_flow_rules.specs.declared.walk.RuleWalk.{RuleWalk}
use Rattle.fun_flow_rules.specs.steps.Walking.{Gives, Makes, Walks}
use Rattle.fun_flow_rules.proofs.Steps.{makes_none}
use Rattle.fun_flow_sets.specs.Rules.{places_of_all, rules_of_all}

module _ (r : Result (List FlowPlace) Memory) (w0 w1 : RuleWalk) (k : Ask) (e : Expr) where
  -- an expression with this tree
  as_tree : (t : m.Tree) → tree e ≡ t → Walks w0 w1 k t r → Walks w0 w1 k (tree e) r
  as_tree t is = subst (λ z. Walks w0 w1 k z r) (sym is)

  pub variable_exit : (x : Atom) → e.form ≡ f.Var x → ((i : Mark) → Walks w0 w1 one_value (m.variable i x) r) → Walks w0 w1 k (tree e) r
  variable_exit x is h = as_tree (m.variable e.mark x) (variable_tree e x is) (h e.mark)

  pub local_exit : (x : FunName) → e.form ≡ f.Local x → Walks w0 w1 one_value (m.local e.mark x) r → Walks w0 w1 k (tree e) r
  local_exit x is h = as_tree (m.local e.mark x) (local_tree e x is) h

  pub external_exit : (x : Atom) (y : FunName) → e.form ≡ f.External x y → Walks w0 w1 one_value (m.external e.mark x y) r → Walks w0 w1 k (tree e) r
  external_exit x y is h = as_tree (m.external e.mark x y) (external_tree e x y is) h

  pub fun_exit : (x : FunOf Expr) → e.form ≡ f.Fun x → Walks w0 w1 one_value (m.function e.mark x.params (tree x.body)) r → Walks w0 w1 k (tree e) r
  fun_exit x is h = as_tree (m.function e.mark x.params (tree x.body)) (fun_tree e x is) h

  pub listed_exit : (xs : List Expr) (x : Expr) → e.form ≡ f.Listed xs x → Walks w0 w1 one_value (m.listed e.mark (all_trees xs) (tree x)) r → Walks w0 w1 k (tree e) r
  listed_exit xs x is h = as_tree (m.listed e.mark (all_trees xs) (tree x)) (listed_tree e xs x is) h

  pub tuple_exit : (xs : List Expr) → e.form ≡ f.Tuple xs → Walks w0 w1 one_value (m.tuple e.mark (all_trees xs)) r → Walks w0 w1 k (tree e) r
  tuple_exit xs is h = as_tree (m.tuple e.mark (all_trees xs)) (tuple_tree e xs is) h

  pub new_map_exit : (ps : List MapPair) → e.form ≡ f.Map ps None → Walks w0 w1 one_value (m.new_map e.mark (all_pairs ps)) r → Walks w0 w1 k (tree e) r
  new_map_exit ps is h = as_tree (m.new_map e.mark (all_pairs ps)) (new_map_tree e ps is) h

  pub updated_map_exit : (ps : List MapPair) (x : Expr) → e.form ≡ f.Map ps (Some x) → Walks w0 w1 one_value (m.updated_map e.mark (all_pairs ps) (tree x)) r → Walks w0 w1 k (tree e) r
  updated_map_exit ps x is h = as_tree (m.updated_map e.mark (all_pairs ps) (tree x)) (updated_map_tree e ps x is) h

  pub binary_exit : (ss : List Segment) → e.form ≡ f.Binary ss → ((i : Mark) → Walks w0 w1 one_value (m.binary i (all_segments ss)) r) → Walks w0 w1 k (tree e) r
  binary_exit ss is h = as_tree (m.binary e.mark (all_segments ss)) (binary_tree e ss is) (h e.mark)

  pub chain_exit : (ss : List (StepOf Expr)) (x : Expr) → e.form ≡ f.Chain ss x → ((i : Mark) → Walks w0 w1 k (m.chain i (all_steps ss) (tree x)) r) → Walks w0 w1 k (tree e) r
  chain_exit ss x is h = as_tree (m.chain e.mark (all_steps ss) (tree x)) (chain_tree e ss x is) (h e.mark)

  pub case_exit : (x : Expr) (cs : List Clause) → e.form ≡ f.Case x cs → Walks w0 w1 k (m.case e.mark (tree x) (all_clauses cs)) r → Walks w0 w1 k (tree e) r
  case_exit x cs is h = as_tree (m.case e.mark (tree x) (all_clauses cs)) (case_tree e x cs is) h

  pub letrec_exit : (ds : List (FunDefOf Expr)) (x : Expr) → e.form ≡ f.Letrec ds x → ((i : Mark) → Walks w0 w1 k (m.letrec i (all_defs ds) (tree x)) r) → Walks w0 w1 k (tree e) r
  letrec_exit ds x is h = as_tree (m.letrec e.mark (all_defs ds) (tree x)) (letrec_tree e ds x is) (h e.mark)

  pub apply_exit : (x : Expr) (xs : List Expr) → e.form ≡ f.Apply x xs → Walks w0 w1 one_value (m.apply e.mark (tree x) (all_trees xs)) r → Walks w0 w1 k (tree e) r
  apply_exit x xs is h = as_tree (m.apply e.mark (tree x) (all_trees xs)) (apply_tree e x xs is) h

  pub call_exit : (x y : Expr) (xs : List Expr) → e.form ≡ f.Call x y xs → Walks w0 w1 one_value (m.call e.mark (tree x) (tree y) (all_trees xs)) r → Walks w0 w1 k (tree e) r
  call_exit x y xs is h = as_tree (m.call e.mark (tree x) (tree y) (all_trees xs)) (call_tree e x y xs is) h

  pub primop_exit : (x : Atom) (xs : List Expr) → e.form ≡ f.Primop x xs → ((i : Mark) (y : Atom) → Walks w0 w1 one_value (m.primop i y (all_trees xs)) r) → Walks w0 w1 k (tree e) r
  primop_exit x xs is h = as_tree (m.primop e.mark x (all_trees xs)) (primop_tree e x xs is) (h e.mark x)

  pub try_exit : (x : TryOf Expr) → e.form ≡ f.Try x → Walks w0 w1 k (m.try e.mark (tree x.arg) x.vars (tree x.body) x.catch_vars (tree x.handler)) r → Walks w0 w1 k (tree e) r
  try_exit x is h = as_tree (m.try e.mark (tree x.arg) x.vars (tree x.body) x.catch_vars (tree x.handler)) (try_tree e x is) h

  pub receive_exit : (cs : List Clause) (x y : Expr) → e.form ≡ f.Receive cs x y → Walks w0 w1 k (m.receive e.mark (all_clauses cs) (tree x) (tree y)) r → Walks w0 w1 k (tree e) r
  receive_exit cs x y is h = as_tree (m.receive e.mark (all_clauses cs) (tree x) (tree y)) (receive_tree e cs x y is) h

  pub catch_exit : (x : Expr) → e.form ≡ f.Catch x → ((i : Mark) → Walks w0 w1 one_value (m.catch i (tree x)) r) → Walks w0 w1 k (tree e) r
  catch_exit x is h = as_tree (m.catch e.mark (tree x)) (catch_tree e x is) (h e.mark)

  pub values_exit : (xs : List Expr) → e.form ≡ f.Values xs → IfOk r (λ ps. Makes w0 w1 (λ U home sc. rules_of_all U home sc (all_trees xs)) × Gives w0 ps (λ U home sc. places_of_all U home sc (all_trees xs)))
      → Walks w0 w1 k (tree e) r
  values_exit xs is h = as_tree (m.values e.mark (all_trees xs)) (values_tree e xs is) h

pub literal_exit : (r : Result (List FlowPlace) Memory) (w : RuleWalk) (k : Ask) (e : Expr) (x : Literal) → e.form ≡ f.Lit x → IfOk r (λ ps. ps ≡ p.Nowhere ∷ []) → Walks w w k (tree e) r
literal_exit r w k e x is h = as_tree r w w k e (m.literal e.mark x) (literal_tree e x is) (IfOk-weaker r _ _ (λ ps is. (makes_none w, λ U home sc s. ap (map (place_named U)) is)) h)

pub ruleset expression_exits = (
  variable_exit,
  local_exit,
  external_exit,
  literal_exit,
  fun_exit,
  listed_exit,
  tuple_exit,
  binary_exit,
  values_exit,
  chain_exit,
  case_exit,
  letrec_exit,
  apply_exit,
  call_exit,
  primop_exit,
  try_exit,
  receive_exit,
  catch_exit,
)
