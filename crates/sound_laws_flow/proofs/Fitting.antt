-- What the walk of a text gives is for functions of the state, with as many types as they have parameters.
use Rattle.std.proofs.Common.{◌≡◌, ℕ, suc, Bool, true, false, eqb, cond, if◌then◌else◌, List, [], ◌∷◌, ◌++◌, length, Option, Some, None, eqb-true, refl, sym, ap, ◌∙◌, subst}
use Rattle.std.proofs.lemmas.Option.{same_Some}
use Rattle.core_ast.specs.declared.syntax.Mark.{Mark}
use Rattle.core_ast.specs.declared.syntax.FunName.{FunName}
use Rattle.core_ast.specs.Model as m
use Rattle.core_ast.specs.Named.{local_name}
use Rattle.core_scope.specs.declared.ask.Ask.{Ask}
use Rattle.core_scope.specs.declared.ask.Ask.TheVariants.{AnyNumber, Exactly}
use Rattle.core_scope.specs.Asks.{one_value, width}
use Rattle.core_scope.specs.Names.{Scope, same_function, defined_names}
use Rattle.core_scope.specs.steps.SameNames.{functions_same}
use Rattle.core_scope.specs.Places.{StandsInModule}
use Rattle.core_scope.specs.Places.Piece.{expression, expressions, pairs, segments, steps, clauses, definitions}
use Rattle.core_scope.specs.Places.HasPart.{function_body, listed_items, listed_rest, tuple_items, new_map_pairs, updated_map_pairs, updated_map_itself, binary_segments, values_items, chain_steps, chain_end, case_argument, case_clauses}
use Rattle.core_scope.specs.Places.HasPart.{letrec_definitions, letrec_body, apply_function, apply_arguments, call_module, call_name, call_arguments, primop_arguments, try_argument, try_body, try_handler, receive_clauses, receive_timeout}
use Rattle.core_scope.specs.Places.HasPart.{receive_action, catch_argument, first_expression, other_expressions, first_key, first_value, other_pairs, first_segment, segment_arguments, other_segments, let_argument, after_let, do_argument}
use Rattle.core_scope.specs.Places.HasPart.{after_do, clause_guard, clause_body, other_clauses, definition_body, other_definitions}
use Rattle.core_scope.specs.Places.StandsIn.{deeper}
use Rattle.type_lattice.specs.Types.{Type4, is_none, meet}
use Rattle.cons_tree.specs.Environments.{Types, State}
use Rattle.cons_tree.specs.Named.{naturals}
use Rattle.cons_gen_rows.specs.Scopes.{or_outer}
use Rattle.cons_gen_rows.specs.Counts.{call_names}
use Rattle.module_flow_state.specs.declared.states.Contribution.{Contribution}
use Rattle.module_flow_state.specs.declared.states.Contribution.TheVariants.{Enters, Returns}
use Rattle.module_flow_calls.specs.TypeLists.{Given, where_given, first}
use Rattle.module_flow_state.specs.Applications.{inner_or, enters_resolved, enters}
use Rattle.module_flow_walk.specs.Clauses.{patterns_solved, head_solved, inside}
use Rattle.module_flow_calls.specs.Functions.{defined_labels, label_named}
use Rattle.module_flow_walk.specs.Contributions.{listed_by, where_entered, where_limited, where_seen, where_solved, contributions, contributions_of_all, contributions_of_pairs}
use Rattle.module_flow_walk.specs.Contributions.{contributions_of_segments, contributions_of_steps, contributions_of_clauses, contributions_of_functions}
use Rattle.module_flow_state.specs.States.{returns, parameters_of}
use Rattle.module_flow_state.specs.Scopes.{WalkScope, with_functions, with_variables}
use Rattle.module_flow_walk.specs.Walk.{matched_slots, seen_by_clauses, seen_by_messages, see_steps, walk, walk_all}
use Rattle.module_flow_state.specs.World.{World}
use Rattle.sound_laws_flow.proofs.Chains.{steps_keep}

-- ---- words

-- Has l n: the function at the label l is known to have n parameters. A contribution is for one that is known, with as many
-- types as it has parameters
abbrev pub Fits : (ℕ → ℕ → Type 0) → Contribution → Type 0
Fits Has (Enters l ts) = Has l (length ts)
Fits Has (Returns l t) = (n : ℕ) × Has l n

abbrev pub AllFit : (ℕ → ℕ → Type 0) → List Contribution → Type 0
AllFit Has [] = Unit {0}
AllFit Has (g ∷ gs) = Fits Has g × AllFit Has gs

-- each name stands for a function that is known with as many parameters
abbrev pub NamesFit : (ℕ → ℕ → Type 0) → List FunName → List ℕ → Type 0
NamesFit Has [] [] = Unit {0}
NamesFit Has [] (l ∷ ls) = ⊥
NamesFit Has (f ∷ fs) [] = ⊥
NamesFit Has (f ∷ fs) (l ∷ ls) = Has l f.arity × NamesFit Has fs ls

-- ---- names

pub fit_paired : (Has : ℕ → ℕ → Type 0) (fs : List FunName) (ls : List ℕ) → NamesFit Has fs ls → length fs ≡ length ls
fit_paired Has [] [] h = refl
fit_paired Has [] (l ∷ ls) h = absurd h
fit_paired Has (f ∷ fs) [] h = absurd h
fit_paired Has (f ∷ fs) (l ∷ ls) h = ap suc (fit_paired Has fs ls h.1)

pub fit_behind : (Has : ℕ → ℕ → Type 0) (fs gs : List FunName) (ls ks : List ℕ) → NamesFit Has fs ls → NamesFit Has gs ks → NamesFit Has (fs ++ gs) (ls ++ ks)
fit_behind Has [] gs [] ks h k = k
fit_behind Has [] gs (l ∷ ls) ks h k = absurd h
fit_behind Has (f ∷ fs) gs [] ks h k = absurd h
fit_behind Has (f ∷ fs) gs (l ∷ ls) ks h k = (h.0, fit_behind Has fs gs ls ks h.1 k)

pub named_fits : (Has : ℕ → ℕ → Type 0) (fs : List FunName) (ls : List ℕ) (f : FunName) (l : ℕ) → NamesFit Has fs ls → label_named fs ls f ≡ Some l → Has l f.arity
named_fits Has [] [] f l h e = absurd cc
named_fits Has [] (k ∷ ls) f l h e = absurd h
named_fits Has (g ∷ fs) [] f l h e = absurd h
named_fits Has (g ∷ fs) (k ∷ ls) f l h e = by (named_fits Has fs ls f l h.1) (label_named fs ls f) refl (same_function g f) refl e
  where
    by : (label_named fs ls f ≡ Some l → Has l f.arity) → (o : Option ℕ) → label_named fs ls f ≡ o → (b : Bool) → same_function g f ≡ b → or_outer o (if b then Some k else None) ≡ Some l → Has l f.arity
    by more (Some j) q b c w = more (q ∙ w)
    by more None q true c w = subst (λ z. Has z f.arity) (same_Some _ _ w) (subst (λ z. Has k z.arity) (functions_same g f c) h.0)
    by more None q false c w = absurd cc

-- ---- contributions of parts

module _ (Has : ℕ → ℕ → Type 0) where
  fit_both : (gs hs : List Contribution) → AllFit Has gs → AllFit Has hs → AllFit Has (gs ++ hs)
  fit_both [] hs h k = k
  fit_both (g ∷ gs) hs h k = (h.0, fit_both gs hs h.1 k)

  fit_given : (o : Given) (f : List Type4 → List Contribution) → ((ts : List Type4) → AllFit Has (f ts)) → AllFit Has (where_given o f)
  fit_given None f h = tt
  fit_given (Some ts) f h = h ts

  fit_entered : (o : Option (List Type4)) (f : List Type4 → List Contribution) → ((ts : List Type4) → AllFit Has (f ts)) → AllFit Has (where_entered o f)
  fit_entered None f h = tt
  fit_entered (Some ts) f h = h ts

  fit_solved : (o : State) (f : Types → List Contribution) → ((ts : Types) → AllFit Has (f ts)) → AllFit Has (where_solved o f)
  fit_solved None f h = tt
  fit_solved (Some ts) f h = h ts

  fit_seen : (o : Option WalkScope) (f : WalkScope → List Contribution) → ((sc : WalkScope) → o ≡ Some sc → AllFit Has (f sc)) → AllFit Has (where_seen o f)
  fit_seen None f h = tt
  fit_seen (Some sc) f h = h sc refl

  fit_listed : {A : Type 0} (o : Option A) (f : A → List Contribution) (gs : List Contribution) → ((x : A) → AllFit Has (f x)) → AllFit Has gs → AllFit Has (listed_by o f gs)
  fit_listed None f gs h k = k
  fit_listed (Some x) f gs h k = h x

  fit_limited : (limit : List Type4) (gs : List Contribution) → AllFit Has gs → AllFit Has (where_limited limit gs)
  fit_limited limit gs h = by (is_none (meet (first limit) naturals))
    where
      by : (b : Bool) → AllFit Has (cond b [] gs)
      by true = tt
      by false = h

-- ---- every form

-- Has l n: the function at the label l is known to have n parameters; W: what the walk knows; x: the module, all of
-- whose functions are known, those of `letrec`s too
module _ (Has : ℕ → ℕ → Type 0) (W : World) (x : m.Module) (tops : NamesFit Has W.names W.labels) (inner : (s : Scope) (j : Ask) (i : Mark) (ds : m.Defs) (t : m.Tree) → StandsInModule x (expression s j (m.letrec i ds t))
    → NamesFit Has (defined_names ds) (defined_labels ds)) where
  abbrev Fit : List Contribution → Type 0
  Fit gs = AllFit Has gs

  abbrev Seen : WalkScope → Type 0
  Seen sc = NamesFit Has sc.functions sc.labels

  both : (gs hs : List Contribution) → Fit gs → Fit hs → Fit (gs ++ hs)
  both gs hs = fit_both Has gs hs

  resolved_fits : (f : FunName) (ts : List Type4) (o p : Option ℕ) → ((l : ℕ) → o ≡ Some l → Has l f.arity) → ((l : ℕ) → p ≡ Some l → Has l f.arity) → f.arity ≡ length ts → Fit (enters_resolved (inner_or o p) ts)
  resolved_fits f ts (Some l) p h k e = (subst (Has l) e (h l refl), tt)
  resolved_fits f ts None (Some l) h k e = (subst (Has l) e (k l refl), tt)
  resolved_fits f ts None None h k e = tt

  enters_fit : (sc : WalkScope) (f : FunName) (ts : List Type4) → Seen sc → Fit (enters W sc f ts)
  enters_fit sc f ts s = by (eqb f.arity (length ts)) refl
    where
      by : (b : Bool) → eqb f.arity (length ts) ≡ b → Fit (cond b (enters_resolved (inner_or (label_named sc.functions sc.labels f) (label_named W.names W.labels f)) ts) [])
      by true e = resolved_fits f ts (label_named sc.functions sc.labels f) (label_named W.names W.labels f) (λ l q. named_fits Has sc.functions sc.labels f l s q) (λ l q. named_fits Has W.names W.labels f l tops q)
          (eqb-true f.arity (length ts) e)
      by false e = tt

  returns_fit : (l n : ℕ) (g : Given) → Has l n → Fit (returns l g)
  returns_fit l n g e = fit_given Has g _ (λ ts. ((n, e), tt))

  mutual
    pub fit : (t : m.Tree) (sc : WalkScope) (k : Ask) {s : Scope} {j : Ask} → StandsInModule x (expression s j t) → Seen sc → Fit (contributions W sc k t)
    fit (m.variable i x) sc k h s = tt
    fit (m.local i f) sc k h s = tt
    fit (m.external i x f) sc k h s = tt
    fit (m.literal i l) sc k h s = tt
    fit (m.function i xs t) sc k h s = fit t (with_variables sc xs []) one_value (deeper h function_body) s
    fit (m.listed i ts t) sc k h s = both (contributions_of_all W sc ts) (contributions W sc one_value t) (fit_all ts sc (deeper h listed_items) s) (fit t sc one_value (deeper h listed_rest) s)
    fit (m.tuple i ts) sc k h s = fit_all ts sc (deeper h tuple_items) s
    fit (m.new_map i ps) sc k h s = fit_pairs ps sc (deeper h new_map_pairs) s
    fit (m.updated_map i ps t) sc k h s = both (contributions_of_pairs W sc ps) (contributions W sc one_value t) (fit_pairs ps sc (deeper h updated_map_pairs) s) (fit t sc one_value (deeper h updated_map_itself) s)
    fit (m.binary i ss) sc k h s = fit_segments ss sc (deeper h binary_segments) s
    fit (m.values i ts) sc k h s = fit_all ts sc (deeper h values_items) s
    fit (m.chain i ss t) sc k h s =
        both (contributions_of_steps W sc ss) (where_seen (see_steps W sc ss) (λ to. contributions W to k t)) (fit_steps ss sc (deeper h chain_steps) s)
        (fit_seen Has (see_steps W sc ss) (λ to. contributions W to k t) (λ to e.
        let kept = steps_keep W sc ss to e in
        fit t to k (deeper h chain_end) (subst (λ z. NamesFit Has z to.labels) (sym kept.0) (subst (λ z. NamesFit Has sc.functions z) (sym kept.1) s))))
    fit (m.case i t cs) sc k h s =
        both (contributions W sc (Exactly (width cs)) t) (where_given (walk W sc (Exactly (width cs)) t) (λ ts. contributions_of_clauses W (seen_by_clauses sc cs ts) k (matched_slots sc t cs) cs))
        (fit t sc (Exactly (width cs)) (deeper h case_argument) s)
        (fit_given Has (walk W sc (Exactly (width cs)) t) _ (λ ts. fit_clauses cs (seen_by_clauses sc cs ts) k (matched_slots sc t cs) (deeper h case_clauses) s))
    fit (m.letrec i ds t) sc k h s =
        let defined = inner _ _ i ds t h in
        let seen = fit_behind Has sc.functions (defined_names ds) sc.labels (defined_labels ds) s defined in
        both (contributions_of_functions W (with_functions sc ds) ds) (contributions W (with_functions sc ds) k t) (fit_functions ds (with_functions sc ds) (deeper h letrec_definitions) seen defined)
        (fit t (with_functions sc ds) k (deeper h letrec_body) seen)
    fit (m.apply i t ts) sc k h s =
        fit_listed Has (local_name t) (λ f. contributions_of_all W sc ts ++ where_given (walk_all W sc ts) (λ us. enters W sc f us)) (contributions W sc one_value t ++ contributions_of_all W sc ts)
        (λ f. both (contributions_of_all W sc ts) (where_given (walk_all W sc ts) (λ us. enters W sc f us)) (fit_all ts sc (deeper h apply_arguments) s) (fit_given Has (walk_all W sc ts) _ (λ us. enters_fit sc f us s)))
        (both (contributions W sc one_value t) (contributions_of_all W sc ts) (fit t sc one_value (deeper h apply_function) s) (fit_all ts sc (deeper h apply_arguments) s))
    fit (m.call i t u ts) sc k h s =
        fit_listed Has (call_names t u) (λ names. contributions_of_all W sc ts) (contributions W sc one_value t ++ contributions W sc one_value u ++ contributions_of_all W sc ts)
        (λ names. fit_all ts sc (deeper h call_arguments) s)
        (both (contributions W sc one_value t ++ contributions W sc one_value u) (contributions_of_all W sc ts)
        (both (contributions W sc one_value t) (contributions W sc one_value u) (fit t sc one_value (deeper h call_module) s) (fit u sc one_value (deeper h call_name) s)) (fit_all ts sc (deeper h call_arguments) s))
    fit (m.primop i x ts) sc k h s = fit_all ts sc (deeper h primop_arguments) s
    fit (m.try i t xs u ys w) sc k h s =
        both (contributions W sc (Exactly (length xs)) t ++ where_given (walk W sc (Exactly (length xs)) t) (λ ts. contributions W (with_variables sc xs ts) k u)) (contributions W (with_variables sc ys []) k w)
        (both (contributions W sc (Exactly (length xs)) t) (where_given (walk W sc (Exactly (length xs)) t) (λ ts. contributions W (with_variables sc xs ts) k u)) (fit t sc (Exactly (length xs)) (deeper h try_argument) s)
        (fit_given Has (walk W sc (Exactly (length xs)) t) _ (λ ts. fit u (with_variables sc xs ts) k (deeper h try_body) s)))
        (fit w (with_variables sc ys []) k (deeper h try_handler) s)
    fit (m.receive i cs t u) sc k h s =
        both (contributions W sc one_value t) (where_given (walk W sc one_value t) (λ limit. contributions_of_clauses W (seen_by_messages sc) k (length sc.types ∷ []) cs ++ where_limited limit (contributions W sc k u)))
        (fit t sc one_value (deeper h receive_timeout) s)
        (fit_given Has (walk W sc one_value t) _ (λ limit. both (contributions_of_clauses W (seen_by_messages sc) k (length sc.types ∷ []) cs) (where_limited limit (contributions W sc k u))
        (fit_clauses cs (seen_by_messages sc) k (length sc.types ∷ []) (deeper h receive_clauses) s) (fit_limited Has limit (contributions W sc k u) (fit u sc k (deeper h receive_action) s))))
    fit (m.catch i t) sc k h s = fit t sc one_value (deeper h catch_argument) s

    fit_all : (ts : m.Trees) (sc : WalkScope) {s : Scope} → StandsInModule x (expressions s ts) → Seen sc → Fit (contributions_of_all W sc ts)
    fit_all m.no_tree sc h s = tt
    fit_all (m.and_tree t ts) sc h s = both (contributions W sc one_value t) (contributions_of_all W sc ts) (fit t sc one_value (deeper h first_expression) s) (fit_all ts sc (deeper h other_expressions) s)

    fit_pairs : (ps : m.Pairs) (sc : WalkScope) {s : Scope} → StandsInModule x (pairs s ps) → Seen sc → Fit (contributions_of_pairs W sc ps)
    fit_pairs m.no_pair sc h s = tt
    fit_pairs (m.and_pair exact t u ps) sc h s =
        both (contributions W sc one_value t ++ contributions W sc one_value u) (contributions_of_pairs W sc ps)
        (both (contributions W sc one_value t) (contributions W sc one_value u) (fit t sc one_value (deeper h first_key) s) (fit u sc one_value (deeper h first_value) s)) (fit_pairs ps sc (deeper h other_pairs) s)

    fit_segments : (ss : m.Segments) (sc : WalkScope) {s : Scope} → StandsInModule x (segments s ss) → Seen sc → Fit (contributions_of_segments W sc ss)
    fit_segments m.no_segment sc h s = tt
    fit_segments (m.and_segment t ts ss) sc h s =
        both (contributions W sc one_value t ++ contributions_of_all W sc ts) (contributions_of_segments W sc ss)
        (both (contributions W sc one_value t) (contributions_of_all W sc ts) (fit t sc one_value (deeper h first_segment) s) (fit_all ts sc (deeper h segment_arguments) s)) (fit_segments ss sc (deeper h other_segments) s)

    fit_steps : (ss : m.Steps) (sc : WalkScope) {s : Scope} → StandsInModule x (steps s ss) → Seen sc → Fit (contributions_of_steps W sc ss)
    fit_steps m.no_step sc h s = tt
    fit_steps (m.and_let i xs u ss) sc h s =
        both (contributions W sc (Exactly (length xs)) u) (where_given (walk W sc (Exactly (length xs)) u) (λ us. contributions_of_steps W (with_variables sc xs us) ss)) (fit u sc (Exactly (length xs)) (deeper h let_argument) s)
        (fit_given Has (walk W sc (Exactly (length xs)) u) _ (λ us. fit_steps ss (with_variables sc xs us) (deeper h after_let) s))
    fit_steps (m.and_do i u ss) sc h s =
        both (contributions W sc AnyNumber u) (where_given (walk W sc AnyNumber u) (λ us. contributions_of_steps W sc ss)) (fit u sc AnyNumber (deeper h do_argument) s)
        (fit_given Has (walk W sc AnyNumber u) _ (λ us. fit_steps ss sc (deeper h after_do) s))

    fit_clauses : (cs : m.Clauses) (sc : WalkScope) (k : Ask) (qs : List ℕ) {s : Scope} {j : Ask} {n : ℕ} → StandsInModule x (clauses s j n cs) → Seen sc → Fit (contributions_of_clauses W sc k qs cs)
    fit_clauses m.no_clause sc k qs h s = tt
    fit_clauses (m.and_clause i ps g t cs) sc k qs h s =
        both (where_solved (patterns_solved sc qs ps g) (λ solved. contributions W (inside sc ps solved) one_value g) ++ where_solved (head_solved W sc qs ps g) (λ solved. contributions W (inside sc ps solved) k t))
        (contributions_of_clauses W sc k qs cs)
        (both (where_solved (patterns_solved sc qs ps g) (λ solved. contributions W (inside sc ps solved) one_value g)) (where_solved (head_solved W sc qs ps g) (λ solved. contributions W (inside sc ps solved) k t))
        (fit_solved Has (patterns_solved sc qs ps g) _ (λ solved. fit g (inside sc ps solved) one_value (deeper h clause_guard) s))
        (fit_solved Has (head_solved W sc qs ps g) _ (λ solved. fit t (inside sc ps solved) k (deeper h clause_body) s)))
        (fit_clauses cs sc k qs (deeper h other_clauses) s)

    pub fit_functions : (ds : m.Defs) (sc : WalkScope) {s : Scope} → StandsInModule x (definitions s ds) → Seen sc → NamesFit Has (defined_names ds) (defined_labels ds) → Fit (contributions_of_functions W sc ds)
    fit_functions m.no_def sc h s d = tt
    fit_functions (m.and_def f i xs t ds) sc h s d =
        both (where_entered (parameters_of W.state i.label) (λ ts. contributions W (with_variables sc xs ts) one_value t ++ returns i.label (walk W (with_variables sc xs ts) one_value t))) (contributions_of_functions W sc ds)
        (fit_entered Has (parameters_of W.state i.label) _ (λ ts. both (contributions W (with_variables sc xs ts) one_value t) (returns i.label (walk W (with_variables sc xs ts) one_value t))
        (fit t (with_variables sc xs ts) one_value (deeper h definition_body) s) (returns_fit i.label f.arity (walk W (with_variables sc xs ts) one_value t) d.0)))
        (fit_functions ds sc (deeper h other_definitions) s d.1)
