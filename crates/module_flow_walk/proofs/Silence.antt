-- Texts that give nothing to the state: form by form, and item by item.
use Rattle.std.proofs.Common.{◌≡◌, ℕ, ◌+◌, ◌<◌, ◌≤◌, List, [], ◌∷◌, ◌++◌, Option, Some, None, length, drop, get_or, map, refl, sym, ap, ap₂, ◌∙◌, subst, drop_of_length-le}
use Rattle.type_kinds.specs.declared.atom.Atom.{Atom}
use Rattle.type_lattice.specs.Types.{Type4}
use Rattle.core_ast.specs.declared.syntax.Literal.{Literal}
use Rattle.core_ast.specs.declared.syntax.Expr.{Expr}
use Rattle.core_ast.specs.declared.syntax.Form.TheVariants as f
use Rattle.core_ast.specs.declared.syntax.Clause.{Clause, out-Clause}
use Rattle.core_ast.specs.declared.syntax.StepOf.{StepOf}
use Rattle.core_ast.specs.declared.syntax.StepOf.TheVariants.{Let, Do}
use Rattle.core_ast.specs.declared.syntax.TryOf.{TryOf}
use Rattle.core_ast.specs.Model as m
use Rattle.core_ast.specs.Tree.{all_clauses, all_steps, all_trees, clause_parts, step_tree, tree}
use Rattle.core_ast.proofs.Forms.{call_tree, case_tree, chain_tree, listed_tree, literal_tree, primop_tree, try_tree, tuple_tree, values_tree, variable_tree}
use Rattle.core_ast.proofs.Items.{all_clauses-next, all_steps-next, all_trees-next}
use Rattle.core_ast.proofs.Trees.{clause-is}
use Rattle.core_scope.specs.declared.ask.Ask.TheVariants.{AnyNumber, Exactly}
use Rattle.core_scope.specs.Asks.{one_value, width}
use Rattle.cons_tree.specs.Environments.{Types, State}
use Rattle.cons_gen_rows.specs.Counts.{call_names}
use Rattle.module_flow_calls.specs.TypeLists.{Given, where_given}
use Rattle.module_flow_calls.specs.steps.Gathering.{step_expression}
use Rattle.module_flow_state.specs.declared.walk.FlowWalk.{FlowWalk}
use Rattle.module_flow_state.specs.Scopes.{WalkScope, with_variables}
use Rattle.module_flow_state.specs.World.{World}
use Rattle.module_flow_state.specs.steps.Walking.{noting, walk_scope_of}
use Rattle.module_flow_walk.specs.Clauses.{head_solved, inside, patterns_solved}
use Rattle.module_flow_walk.specs.Contributions.{contributions, contributions_of_all, contributions_of_clauses, contributions_of_steps, listed_by, where_seen, where_solved}
use Rattle.module_flow_walk.specs.Walk.{matched_slots, see_steps, seen_by_clauses, walk}
use Rattle.module_flow_walk.specs.steps.Silent.{AreSilent, AreSilentClauses, AreSilentSteps, IsSilent}
use Rattle.module_flow_walk.specs.steps.Walked.{with_solved}
use Rattle.module_flow_walk.proofs.Walks.{none_noted}

-- ---- lists that are empty

none_both : {A : Type 0} {xs ys : List A} → xs ≡ [] → ys ≡ [] → xs ++ ys ≡ []
none_both e f = ap₂ (λ us vs. us ++ vs) e f

none_given : {A : Type 0} (g : Given) (f : List Type4 → List A) → ((ts : List Type4) → f ts ≡ []) → where_given g f ≡ []
none_given None f h = refl
none_given (Some ts) f h = h ts

none_solved : {A : Type 0} (s : State) (f : Types → List A) → ((ts : Types) → f ts ≡ []) → where_solved s f ≡ []
none_solved None f h = refl
none_solved (Some ts) f h = h ts

none_seen : {A : Type 0} (o : Option WalkScope) (f : WalkScope → List A) → ((sc : WalkScope) → f sc ≡ []) → where_seen o f ≡ []
none_seen None f h = refl
none_seen (Some sc) f h = h sc

none_listed : {A B : Type 0} (o : Option A) (f : A → List B) (xs : List B) → ((x : A) → f x ≡ []) → xs ≡ [] → listed_by o f xs ≡ []
none_listed None f xs h e = e
none_listed (Some x) f xs h e = h x

-- ---- forms

pub variable_silent : (e : Expr) (x : Atom) → e.form ≡ f.Var x → IsSilent (tree e)
variable_silent e x is = λ W sc k. ap (contributions W sc k) (variable_tree e x is)

pub literal_silent : (e : Expr) (x : Literal) → e.form ≡ f.Lit x → IsSilent (tree e)
literal_silent e x is = λ W sc k. ap (contributions W sc k) (literal_tree e x is)

pub listed_silent : (e : Expr) (xs : List Expr) (x : Expr) → e.form ≡ f.Listed xs x → AreSilent (all_trees xs) → IsSilent (tree x) → IsSilent (tree e)
listed_silent e xs x is each last = λ W sc k. ap (contributions W sc k) (listed_tree e xs x is) ∙ none_both (each W sc) (last W sc one_value)

pub tuple_silent : (e : Expr) (xs : List Expr) → e.form ≡ f.Tuple xs → AreSilent (all_trees xs) → IsSilent (tree e)
tuple_silent e xs is each = λ W sc k. ap (contributions W sc k) (tuple_tree e xs is) ∙ each W sc

pub values_silent : (e : Expr) (xs : List Expr) → e.form ≡ f.Values xs → AreSilent (all_trees xs) → IsSilent (tree e)
values_silent e xs is each = λ W sc k. ap (contributions W sc k) (values_tree e xs is) ∙ each W sc

pub chain_silent : (e : Expr) (ss : List (StepOf Expr)) (x : Expr) → e.form ≡ f.Chain ss x → AreSilentSteps (all_steps ss) → IsSilent (tree x) → IsSilent (tree e)
chain_silent e ss x is steps last =
    λ W sc k. ap (contributions W sc k) (chain_tree e ss x is)
    ∙ none_both (steps W sc) (none_seen (see_steps W sc (all_steps ss)) (λ inner. contributions W inner k (tree x)) (λ inner. last W inner k))

pub case_silent : (e : Expr) (x : Expr) (cs : List Clause) → e.form ≡ f.Case x cs → IsSilent (tree x) → AreSilentClauses (all_clauses cs) → IsSilent (tree e)
case_silent e x cs is argument clauses =
    λ W sc k. ap (contributions W sc k) (case_tree e x cs is)
    ∙ none_both (argument W sc (Exactly (width (all_clauses cs))))
    (none_given (walk W sc (Exactly (width (all_clauses cs))) (tree x))
    (λ ts. contributions_of_clauses W (seen_by_clauses sc (all_clauses cs) ts) k (matched_slots sc (tree x) (all_clauses cs)) (all_clauses cs))
    (λ ts. clauses W (seen_by_clauses sc (all_clauses cs) ts) k (matched_slots sc (tree x) (all_clauses cs))))

pub call_silent : (e : Expr) (x y : Expr) (xs : List Expr) → e.form ≡ f.Call x y xs → IsSilent (tree x) → IsSilent (tree y) → AreSilent (all_trees xs) → IsSilent (tree e)
call_silent e x y xs is home name each =
    λ W sc k. ap (contributions W sc k) (call_tree e x y xs is)
    ∙ none_listed (call_names (tree x) (tree y)) (λ names. contributions_of_all W sc (all_trees xs))
    (contributions W sc one_value (tree x) ++ contributions W sc one_value (tree y) ++ contributions_of_all W sc (all_trees xs))
    (λ names. each W sc) (none_both (none_both (home W sc one_value) (name W sc one_value)) (each W sc))

pub primop_silent : (e : Expr) (x : Atom) (xs : List Expr) → e.form ≡ f.Primop x xs → AreSilent (all_trees xs) → IsSilent (tree e)
primop_silent e x xs is each = λ W sc k. ap (contributions W sc k) (primop_tree e x xs is) ∙ each W sc

pub try_silent : (e : Expr) (x : TryOf Expr) → e.form ≡ f.Try x → IsSilent (tree x.arg) → IsSilent (tree x.body) → IsSilent (tree x.handler) → IsSilent (tree e)
try_silent e x is argument body handler =
    λ W sc k. ap (contributions W sc k) (try_tree e x is)
    ∙ none_both
    (none_both (argument W sc (Exactly (length x.vars)))
    (none_given (walk W sc (Exactly (length x.vars)) (tree x.arg)) (λ ts. contributions W (with_variables sc x.vars ts) k (tree x.body)) (λ ts. body W (with_variables sc x.vars ts) k)))
    (handler W (with_variables sc x.catch_vars []) k)

-- ---- items

pub trees_silent : (es : List Expr) (i : ℕ) (e : Expr) → i < length es → e ≡ get_or es i e → IsSilent (tree e) → AreSilent (all_trees (drop (i + 1) es)) → AreSilent (all_trees (drop i es))
trees_silent es i e within is first rest =
    λ W sc. ap (contributions_of_all W sc) (all_trees-next es i e within ∙ ap (λ x. m.and_tree (tree x) (all_trees (drop (i + 1) es))) (sym is)) ∙ none_both (first W sc one_value) (rest W sc)

step_silent : (x : StepOf Expr) (ss : List (StepOf Expr)) → IsSilent (tree (step_expression x)) → AreSilentSteps (all_steps ss) → AreSilentSteps (all_steps (x ∷ ss))
step_silent (Let k xs e) ss first rest =
    λ W sc. none_both (first W sc (Exactly (length xs)))
    (none_given (walk W sc (Exactly (length xs)) (tree e)) (λ us. contributions_of_steps W (with_variables sc xs us) (all_steps ss)) (λ us. rest W (with_variables sc xs us)))
step_silent (Do k e) ss first rest =
    λ W sc. none_both (first W sc AnyNumber) (none_given (walk W sc AnyNumber (tree e)) (λ us. contributions_of_steps W sc (all_steps ss)) (λ us. rest W sc))

pub steps_silent : (ss : List (StepOf Expr)) (i : ℕ) (x : StepOf Expr) (e : Expr) → i < length ss → x ≡ get_or ss i x → e ≡ step_expression x → IsSilent (tree e) → AreSilentSteps (all_steps (drop (i + 1) ss))
    → AreSilentSteps (all_steps (drop i ss))
steps_silent ss i x e within is own first rest =
    λ W sc. ap (contributions_of_steps W sc) (all_steps-next ss i x within ∙ ap (λ z. all_steps (z ∷ drop (i + 1) ss)) (sym is))
    ∙ step_silent x (drop (i + 1) ss) (subst (λ z. IsSilent (tree z)) own first) rest W sc

pub clauses_silent : (cs : List Clause) (i : ℕ) (c : Clause) → i < length cs → c ≡ get_or cs i c → IsSilent (tree (out-Clause c).guard) → IsSilent (tree (out-Clause c).body)
    → AreSilentClauses (all_clauses (drop (i + 1) cs)) → AreSilentClauses (all_clauses (drop i cs))
clauses_silent cs i c within is guard body rest =
    λ W sc k qs.
    let left : m.Clauses = all_clauses (drop (i + 1) cs) in
    let y = out-Clause c in
    let p = (clause_parts c).patterns in
    ap (contributions_of_clauses W sc k qs)
    (all_clauses-next cs i c within ∙ ap (λ x. let z = clause_parts x in m.and_clause z.mark z.patterns z.guard z.body left) (sym is)
    ∙ ap (λ z. m.and_clause z.mark (clause_parts c).patterns z.guard z.body left) (clause-is c))
    ∙ none_both
    (none_both (none_solved (patterns_solved sc qs p (tree y.guard)) (λ solved. contributions W (inside sc p solved) one_value (tree y.guard)) (λ solved. guard W (inside sc p solved) one_value))
    (none_solved (head_solved W sc qs p (tree y.guard)) (λ solved. contributions W (inside sc p solved) k (tree y.body)) (λ solved. body W (inside sc p solved) k)))
    (rest W sc k qs)

-- ---- where no item is left

pub no_trees_silent : (es : List Expr) (i : ℕ) → length es ≤ i → AreSilent (all_trees (drop i es))
no_trees_silent es i past = λ W sc. ap (λ xs. contributions_of_all W sc (all_trees xs)) (drop_of_length-le es past)

pub no_steps_silent : (ss : List (StepOf Expr)) (i : ℕ) → length ss ≤ i → AreSilentSteps (all_steps (drop i ss))
no_steps_silent ss i past = λ W sc. ap (λ xs. contributions_of_steps W sc (all_steps xs)) (drop_of_length-le ss past)

pub no_clauses_silent : (cs : List Clause) (i : ℕ) → length cs ≤ i → AreSilentClauses (all_clauses (drop i cs))
no_clauses_silent cs i past = λ W sc k qs. ap (λ xs. contributions_of_clauses W sc k qs (all_clauses xs)) (drop_of_length-le cs past)

-- ---- a guard that isn't walked

pub guard_silent : (W : World) (w : FlowWalk) (s : State) (t : m.Tree) → IsSilent t → w ≡ noting w (where_solved s (λ solved. contributions W (with_solved (walk_scope_of w) solved) one_value t)) []
guard_silent W w s t silent =
    none_noted w (where_solved s (λ solved. contributions W (with_solved (walk_scope_of w) solved) one_value t)) []
    (none_solved s (λ solved. contributions W (with_solved (walk_scope_of w) solved) one_value t) (λ solved. silent W (with_solved (walk_scope_of w) solved) one_value)) refl
