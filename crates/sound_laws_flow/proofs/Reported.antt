-- What a walk reports is reported at labels of what is walked.
use Rattle.std.proofs.Common.{◌≡◌, ◌⊎◌, inl, inr, ℕ, Bool, true, false, cond, List, [], ◌∷◌, ◌++◌, length, Option, Some, None}
use Rattle.core_ast.specs.declared.syntax.Mark.{Mark}
use Rattle.core_ast.specs.Model as m
use Rattle.core_ast.specs.Named.{local_name}
use Rattle.core_scope.specs.declared.ask.Ask.{Ask}
use Rattle.core_scope.specs.declared.ask.Ask.TheVariants.{AnyNumber, Exactly}
use Rattle.core_scope.specs.Asks.{one_value, width}
use Rattle.core_scope.specs.Labels.{labels, labels_of_all, labels_of_segments, labels_of_pairs, labels_of_steps, labels_of_clauses, labels_of_defs, labels_of_patterns}
use Rattle.type_lattice.specs.Types.{Type4, is_none, meet}
use Rattle.cons_tree.specs.Environments.{Types, State}
use Rattle.cons_tree.specs.Named.{naturals}
use Rattle.cons_gen_rows.specs.Counts.{call_names}
use Rattle.cons_gen_rows.specs.Words.{function_type}
use Rattle.warn_list.specs.declared.finding.Finding.{Finding}
use Rattle.warn_list.specs.declared.finding.FindingKind.TheVariants.{DeadCall, DeadClause}
use Rattle.warn_list.specs.declared.finding.CallText.{CallText}
use Rattle.module_flow_calls.specs.declared.node_context.NodeContext.{NodeContext}
use Rattle.module_flow_calls.specs.NodeContext.{under, under_steps, at_node}
use Rattle.module_flow_calls.specs.TypeLists.{Given, where_given, first}
use Rattle.module_flow_calls.specs.Calls.{called}
use Rattle.module_flow_state.specs.Applications.{may_apply, unless_given, unless_function}
use Rattle.module_flow_walk.specs.Clauses.{head_solved, inside}
use Rattle.module_flow_walk.specs.Findings.{either_found, found, found_in_all, found_in_pairs, found_in_segments, found_in_steps, found_in_clauses, found_in_functions}
use Rattle.module_flow_walk.specs.Contributions.{listed_by, where_entered, where_limited, where_seen}
use Rattle.module_flow_state.specs.Scopes.{WalkScope, with_functions, with_variables}
use Rattle.module_flow_state.specs.States.{parameters_of}
use Rattle.module_flow_walk.specs.Walk.{matched_slots, seen_by_clauses, seen_by_messages, see_steps, walk, walk_all}
use Rattle.module_flow_state.specs.World.{World, lenient}
use Rattle.sound_laws_flow.specs.steps.Taken.{Member, Reports, AreDead, AreAt}

pub member_left : (l : ℕ) (a b : List ℕ) → Member l a → Member l (a ++ b)
member_left l [] b h = absurd h
member_left l (k ∷ a) b (inl e) = inl e
member_left l (k ∷ a) b (inr h) = inr (member_left l a b h)

pub member_right : (l : ℕ) (a b : List ℕ) → Member l b → Member l (a ++ b)
member_right l [] b h = h
member_right l (k ∷ a) b h = inr (member_right l a b h)

pub member_split : (l : ℕ) (a b : List ℕ) → Member l (a ++ b) → Member l a ⊎ Member l b
member_split l [] b h = inr h
member_split l (k ∷ a) b (inl e) = inl (inl e)
member_split l (k ∷ a) b (inr h) = by (member_split l a b h)
  where
    by : Member l a ⊎ Member l b → ((l ≡ k) ⊎ Member l a) ⊎ Member l b
    by (inl h) = inl (inr h)
    by (inr h) = inr h

pub reports_split : (l : ℕ) (fs gs : List Finding) → Reports l (fs ++ gs) → Reports l fs ⊎ Reports l gs
reports_split l [] gs h = inr h
reports_split l (f ∷ fs) gs (inl e) = inl (inl e)
reports_split l (f ∷ fs) gs (inr h) = by (reports_split l fs gs h)
  where
    by : Reports l fs ⊎ Reports l gs → ((l ≡ f.label) ⊎ Reports l fs) ⊎ Reports l gs
    by (inl h) = inl (inr h)
    by (inr h) = inr h

both_dead : (fs gs : List Finding) → AreDead fs → AreDead gs → AreDead (fs ++ gs)
both_dead [] gs h k = k
both_dead (f ∷ fs) gs h k = (h.0, both_dead fs gs h.1 k)

pub none_at : (ls : List ℕ) → AreAt [] ls
none_at ls = record { at = λ l h. absurd h; dead = tt }

pub in_both : {fs gs : List Finding} {a b : List ℕ} → AreAt fs a → AreAt gs b → AreAt (fs ++ gs) (a ++ b)
in_both {fs} {gs} {a} {b} x y = record { at = λ l h. by l (reports_split l fs gs h); dead = both_dead fs gs x.dead y.dead }
  where
    by : (l : ℕ) → Reports l fs ⊎ Reports l gs → Member l (a ++ b)
    by l (inl h) = member_left l a b (x.at l h)
    by l (inr h) = member_right l a b (y.at l h)

pub joined : {fs gs : List Finding} {a : List ℕ} → AreAt fs a → AreAt gs a → AreAt (fs ++ gs) a
joined {fs} {gs} {a} x y = record { at = λ l h. by l (reports_split l fs gs h); dead = both_dead fs gs x.dead y.dead }
  where
    by : (l : ℕ) → Reports l fs ⊎ Reports l gs → Member l a
    by l (inl h) = x.at l h
    by l (inr h) = y.at l h

pub below : {fs : List Finding} {a : List ℕ} (i : ℕ) → AreAt fs a → AreAt fs (i ∷ a)
below i x = record { at = λ l h. inr (x.at l h); dead = x.dead }

pub to_left : {fs : List Finding} (a b : List ℕ) → AreAt fs a → AreAt fs (a ++ b)
to_left a b x = record { at = λ l h. member_left l a b (x.at l h); dead = x.dead }

pub to_right : {fs : List Finding} (a b : List ℕ) → AreAt fs b → AreAt fs (a ++ b)
to_right a b x = record { at = λ l h. member_right l a b (x.at l h); dead = x.dead }

pub if_given : {a : List ℕ} (o : Given) (f : List Type4 → List Finding) → ((ts : List Type4) → AreAt (f ts) a) → AreAt (where_given o f) a
if_given {a} None f h = none_at a
if_given (Some ts) f h = h ts

pub if_seen : {a : List ℕ} (o : Option WalkScope) (f : WalkScope → List Finding) → ((sc : WalkScope) → AreAt (f sc) a) → AreAt (where_seen o f) a
if_seen {a} None f h = none_at a
if_seen (Some sc) f h = h sc

pub if_entered : {a : List ℕ} (o : Option (List Type4)) (f : List Type4 → List Finding) → ((ts : List Type4) → AreAt (f ts) a) → AreAt (where_entered o f) a
if_entered {a} None f h = none_at a
if_entered (Some ts) f h = h ts

if_not : {fs : List Finding} {a : List ℕ} (b : Bool) → AreAt fs a → AreAt (cond b [] fs) a
if_not {fs} {a} true x = none_at a
if_not false x = x

if_so : {fs : List Finding} {a : List ℕ} (b : Bool) → AreAt fs a → AreAt (cond b fs []) a
if_so true x = x
if_so {fs} {a} false x = none_at a

pub if_limited : {fs : List Finding} {a : List ℕ} (limit : List Type4) → AreAt fs a → AreAt (where_limited limit fs) a
if_limited limit x = if_not (is_none (meet (first limit) naturals)) x

pub if_unless : {fs : List Finding} {a : List ℕ} (o : Given) → AreAt fs a → AreAt (unless_given o fs) a
if_unless None x = x
if_unless {fs} {a} (Some ts) x = none_at a

pub if_function : {fs : List Finding} {a : List ℕ} (t : Type4) (n : ℕ) → AreAt fs a → AreAt (unless_function t n fs) a
if_function t n x = if_so (is_none (meet t (function_type n))) x

pub call_own : (a : NodeContext) (i : Mark) (text : CallText) → AreAt (at_node a i (DeadCall text)) (i.label ∷ [])
call_own a i text = if_not a.quiet (record { at = λ l h. h; dead = (tt, tt) })

pub clause_own : (a : NodeContext) (i : Mark) → AreAt (at_node a i DeadClause) (i.label ∷ [])
clause_own a i = if_not a.quiet (record { at = λ l h. h; dead = (tt, tt) })

pub own_in : {fs : List Finding} (i : ℕ) (a : List ℕ) → AreAt fs (i ∷ []) → AreAt fs (i ∷ a)
own_in i a x = record { at = λ l h. by l (x.at l h); dead = x.dead }
  where
    by : (l : ℕ) → (l ≡ i) ⊎ ⊥ → (l ≡ i) ⊎ Member l a
    by l (inl e) = inl e
    by l (inr h) = absurd h

pub if_listed : {A : Type 0} {a : List ℕ} (o : Option A) (f : A → List Finding) (gs : List Finding) → ((x : A) → AreAt (f x) a) → AreAt gs a → AreAt (listed_by o f gs) a
if_listed None f gs h g = g
if_listed (Some x) f gs h g = h x

pub if_either : {a : List ℕ} (o : State) (fs : List Finding) (f : Types → List Finding) → AreAt fs a → ((ts : Types) → AreAt (f ts) a) → AreAt (either_found o fs f) a
if_either None fs f x h = x
if_either (Some ts) fs f x h = h ts

module _ (W : World) where
  mutual
    pub found_at : (a : NodeContext) (sc : WalkScope) (k : Ask) (t : m.Tree) → AreAt (found W a sc k t) (labels t)
    found_at a sc k (m.variable i x) = none_at (i.label ∷ [])
    found_at a sc k (m.local i f) = none_at (i.label ∷ [])
    found_at a sc k (m.external i x f) = none_at (i.label ∷ [])
    found_at a sc k (m.literal i l) = none_at (i.label ∷ [])
    found_at a sc k (m.function i xs t) = below i.label (found_at (under a i.note) (with_variables sc xs []) one_value t)
    found_at a sc k (m.listed i ts t) = below i.label (in_both (all_at (under a i.note) sc ts) (found_at (under a i.note) sc one_value t))
    found_at a sc k (m.tuple i ts) = below i.label (all_at (under a i.note) sc ts)
    found_at a sc k (m.new_map i ps) = below i.label (pairs_at (under a i.note) sc ps)
    found_at a sc k (m.updated_map i ps t) = below i.label (in_both (pairs_at (under a i.note) sc ps) (found_at (under a i.note) sc one_value t))
    found_at a sc k (m.binary i ss) = below i.label (segments_at (under a i.note) sc ss)
    found_at a sc k (m.values i ts) = below i.label (all_at (under a i.note) sc ts)
    found_at a sc k (m.chain i ss t) =
        below i.label (in_both (steps_at (under a i.note) sc ss) (if_seen (see_steps W sc ss) (λ inner. found W (under_steps (under a i.note) ss) inner k t) (λ inner. found_at (under_steps (under a i.note) ss) inner k t)))
    found_at a sc k (m.case i t cs) =
        below i.label (in_both (found_at (under a i.note) sc (Exactly (width cs)) t)
        (if_given (walk W sc (Exactly (width cs)) t) (λ ts. found_in_clauses W (under a i.note) (seen_by_clauses sc cs ts) k (matched_slots sc t cs) cs)
        (λ ts. clauses_at (under a i.note) (seen_by_clauses sc cs ts) k (matched_slots sc t cs) cs)))
    found_at a sc k (m.letrec i ds t) = below i.label (in_both (functions_at (under a i.note) (with_functions sc ds) ds) (found_at (under a i.note) (with_functions sc ds) k t))
    found_at a sc k (m.apply i t ts) =
        if_listed (local_name t) _ _
        (λ f. joined (below i.label (to_right (labels t) (labels_of_all ts) (all_at (under a i.note) sc ts)))
        (if_given (walk_all W sc ts) _ (λ us. if_unless (may_apply W sc f us) (own_in i.label (labels t ++ labels_of_all ts) (call_own (under a i.note) i _)))))
        (joined (below i.label (in_both (found_at (under a i.note) sc one_value t) (all_at (under a i.note) sc ts)))
        (if_given (walk W sc one_value t) _ (λ operator. if_given (walk_all W sc ts) _ (λ us. if_function (first operator) (length us) (own_in i.label (labels t ++ labels_of_all ts) (call_own (under a i.note) i _))))))
    found_at a sc k (m.call i t u ts) =
        if_listed (call_names t u) _ _
        (λ names. joined (below i.label (to_right (labels t ++ labels u) (labels_of_all ts) (all_at (under a i.note) sc ts)))
        (if_given (walk_all W sc ts) _ (λ us. if_unless (called (lenient W) names.0 names.1 us) (own_in i.label (labels t ++ labels u ++ labels_of_all ts) (call_own (under a i.note) i _)))))
        (below i.label (in_both (in_both (found_at (under a i.note) sc one_value t) (found_at (under a i.note) sc one_value u)) (all_at (under a i.note) sc ts)))
    found_at a sc k (m.primop i x ts) = below i.label (all_at (under a i.note) sc ts)
    found_at a sc k (m.try i t xs u ys w) =
        below i.label (in_both (in_both (found_at (under a i.note) sc (Exactly (length xs)) t)
        (if_given (walk W sc (Exactly (length xs)) t) (λ ts. found W (under a i.note) (with_variables sc xs ts) k u) (λ ts. found_at (under a i.note) (with_variables sc xs ts) k u)))
        (found_at (under a i.note) (with_variables sc ys []) k w))
    found_at a sc k (m.receive i cs t u) =
        below i.label (joined (to_left (labels_of_clauses cs ++ labels t) (labels u) (to_right (labels_of_clauses cs) (labels t) (found_at (under a i.note) sc one_value t)))
        (if_given (walk W sc one_value t) _ (λ limit.
        in_both (to_left (labels_of_clauses cs) (labels t) (clauses_at (under a i.note) (seen_by_messages sc) k (length sc.types ∷ []) cs))
        (if_limited limit (found_at (under a i.note) sc k u)))))
    found_at a sc k (m.catch i t) = below i.label (found_at (under a i.note) sc one_value t)

    pub all_at : (a : NodeContext) (sc : WalkScope) (ts : m.Trees) → AreAt (found_in_all W a sc ts) (labels_of_all ts)
    all_at a sc m.no_tree = none_at []
    all_at a sc (m.and_tree t ts) = in_both (found_at a sc one_value t) (all_at a sc ts)

    pub pairs_at : (a : NodeContext) (sc : WalkScope) (ps : m.Pairs) → AreAt (found_in_pairs W a sc ps) (labels_of_pairs ps)
    pairs_at a sc m.no_pair = none_at []
    pairs_at a sc (m.and_pair exact t u ps) = in_both (in_both (found_at a sc one_value t) (found_at a sc one_value u)) (pairs_at a sc ps)

    pub segments_at : (a : NodeContext) (sc : WalkScope) (ss : m.Segments) → AreAt (found_in_segments W a sc ss) (labels_of_segments ss)
    segments_at a sc m.no_segment = none_at []
    segments_at a sc (m.and_segment t ts ss) = in_both (in_both (found_at a sc one_value t) (all_at a sc ts)) (segments_at a sc ss)

    pub steps_at : (a : NodeContext) (sc : WalkScope) (ss : m.Steps) → AreAt (found_in_steps W a sc ss) (labels_of_steps ss)
    steps_at a sc m.no_step = none_at []
    steps_at a sc (m.and_let i xs u ss) =
        below i.label (in_both (found_at (under a i.note) sc (Exactly (length xs)) u)
        (if_given (walk W sc (Exactly (length xs)) u) (λ us. found_in_steps W (under a i.note) (with_variables sc xs us) ss) (λ us. steps_at (under a i.note) (with_variables sc xs us) ss)))
    steps_at a sc (m.and_do i u ss) =
        below i.label (in_both (found_at (under a i.note) sc AnyNumber u)
        (if_given (walk W sc AnyNumber u) (λ us. found_in_steps W (under a i.note) sc ss) (λ us. steps_at (under a i.note) sc ss)))

    pub clauses_at : (a : NodeContext) (sc : WalkScope) (k : Ask) (qs : List ℕ) (cs : m.Clauses) → AreAt (found_in_clauses W a sc k qs cs) (labels_of_clauses cs)
    clauses_at a sc k qs m.no_clause = none_at []
    clauses_at a sc k qs (m.and_clause i ps g t cs) =
        joined (if_either (head_solved W sc qs ps g) _ _
        (own_in i.label (labels_of_patterns ps ++ labels g ++ labels t ++ labels_of_clauses cs) (clause_own (under a i.note) i))
        (λ solved. below i.label (to_left (labels_of_patterns ps ++ labels g ++ labels t) (labels_of_clauses cs) (to_right (labels_of_patterns ps ++ labels g) (labels t) (found_at (under a i.note) (inside sc ps solved) k t)))))
        (below i.label (to_right (labels_of_patterns ps ++ labels g ++ labels t) (labels_of_clauses cs) (clauses_at a sc k qs cs)))

    pub functions_at : (a : NodeContext) (sc : WalkScope) (ds : m.Defs) → AreAt (found_in_functions W a sc ds) (labels_of_defs ds)
    functions_at a sc m.no_def = none_at []
    functions_at a sc (m.and_def f i xs t ds) =
        below i.label (in_both (if_entered (parameters_of W.state i.label) (λ ts. found W (under a i.note) (with_variables sc xs ts) one_value t) (λ ts. found_at (under a i.note) (with_variables sc xs ts) one_value t))
        (functions_at a sc ds))
