-- What a walk gives rests on what it reads of the state, and on nothing else of it.
use Rattle.std.proofs.Common.{◌≡◌, ℕ, Bool, true, false, cond, eqb, List, [], ◌∷◌, ◌++◌, length, Option, Some, None, refl, sym, ap, ap₂, ◌∙◌, subst}
use Rattle.type_kinds.specs.declared.atom.Atom.{Atom}
use Rattle.core_ast.specs.declared.syntax.FunName.{FunName}
use Rattle.core_ast.specs.Model as m
use Rattle.core_ast.specs.Named.{local_name}
use Rattle.core_scope.specs.declared.ask.Ask.{Ask}
use Rattle.core_scope.specs.declared.ask.Ask.TheVariants.{AnyNumber, Exactly}
use Rattle.core_scope.specs.Asks.{one_value, width}
use Rattle.core_scope.specs.Functions.{LabelledFunction, functions, functions_of_all, functions_of_pairs, functions_of_segments, functions_of_steps, functions_of_clauses, functions_of_defs, functions_of_patterns}
use Rattle.type_lattice.specs.Types.{Type4, any, is_none, meet, tuple}
use Rattle.type_lattice.specs.Kinds.{of_kind}
use Rattle.type_lattice.specs.declared.kinds.Kind.TheVariants.{Bitstring, Map}
use Rattle.cons_tree.specs.Environments.{Types, State}
use Rattle.cons_tree.specs.Named.{naturals}
use Rattle.cons_tree.specs.declared.parts.Callee.{Callee}
use Rattle.cons_gen_rows.specs.Counts.{call_names}
use Rattle.cons_gen_rows.specs.Words.{function_type}
use Rattle.module_flow_calls.specs.declared.functions.ResolvedName.{ResolvedName}
use Rattle.module_flow_calls.specs.declared.functions.ResolvedName.TheVariants.{Inner, Top, Nothing}
use Rattle.module_flow_state.specs.declared.states.Contribution.{Contribution}
use Rattle.module_flow_calls.specs.TypeLists.{Given, one, where_given, either, first, list_type, value}
use Rattle.module_flow_state.specs.Applications.{applied, by_meaning, resolved_name, enters, enters_resolved, where_meets}
use Rattle.module_flow_calls.specs.Calls.{by_state, called}
use Rattle.module_flow_walk.specs.Clauses.{patterns_solved, head_solved, inside}
use Rattle.module_flow_walk.specs.Contributions.{listed_by, where_entered, where_limited, where_seen, where_solved, contributions, contributions_of_all, contributions_of_pairs}
use Rattle.module_flow_walk.specs.Contributions.{contributions_of_segments, contributions_of_steps, contributions_of_clauses, contributions_of_functions}
use Rattle.module_flow_state.specs.States.{returns, FlowState, parameters_of}
use Rattle.module_flow_state.specs.Scopes.{WalkScope, with_functions, with_variables}
use Rattle.module_flow_walk.specs.Walk.{passed, if_named, matched_slots, see_given, see_steps, seen_by_clauses, seen_by_messages, then, then_inside, then_seen, walk, walk_all, walk_clauses, walk_pairs, walk_segments, by_primop}
use Rattle.module_flow_state.specs.World.{World, strict}
use Rattle.module_flow_state.specs.steps.Reading.{AlikeInText, AlikeWhereGiven}

-- ---- choices of equals

then_same : (o p : Given) (f g : List Type4 → Given) → o ≡ p → ((ts : List Type4) → o ≡ Some ts → f ts ≡ g ts) → then o f ≡ then p g
then_same None p f g e h = ap (λ q. then q g) e
then_same (Some ts) p f g e h = h ts refl ∙ ap (λ q. then q g) e

seen_same : (o p : Option WalkScope) (f g : WalkScope → Given) → o ≡ p → ((sc : WalkScope) → o ≡ Some sc → f sc ≡ g sc) → then_seen o f ≡ then_seen p g
seen_same None p f g e h = ap (λ q. then_seen q g) e
seen_same (Some sc) p f g e h = h sc refl ∙ ap (λ q. then_seen q g) e

see_same : (o p : Given) (f g : List Type4 → Option WalkScope) → o ≡ p → ((ts : List Type4) → o ≡ Some ts → f ts ≡ g ts) → see_given o f ≡ see_given p g
see_same None p f g e h = ap (λ q. see_given q g) e
see_same (Some ts) p f g e h = h ts refl ∙ ap (λ q. see_given q g) e

inside_same : (o : State) (f g : Types → Given) → ((ts : Types) → o ≡ Some ts → f ts ≡ g ts) → then_inside o f ≡ then_inside o g
inside_same None f g h = refl
inside_same (Some ts) f g h = h ts refl

named_same : {A : Type 0} (o : Option A) (f g : A → Given) (x y : Given) → ((a : A) → o ≡ Some a → f a ≡ g a) → (o ≡ None → x ≡ y) → if_named o f x ≡ if_named o g y
named_same None f g x y h k = k refl
named_same (Some a) f g x y h k = h a refl

given_same : (o p : Given) (f g : List Type4 → List Contribution) → o ≡ p → ((ts : List Type4) → o ≡ Some ts → f ts ≡ g ts) → where_given o f ≡ where_given p g
given_same None p f g e h = ap (λ q. where_given q g) e
given_same (Some ts) p f g e h = h ts refl ∙ ap (λ q. where_given q g) e

walk_scope_same : (o p : Option WalkScope) (f g : WalkScope → List Contribution) → o ≡ p → ((sc : WalkScope) → o ≡ Some sc → f sc ≡ g sc) → where_seen o f ≡ where_seen p g
walk_scope_same None p f g e h = ap (λ q. where_seen q g) e
walk_scope_same (Some sc) p f g e h = h sc refl ∙ ap (λ q. where_seen q g) e

solved_same : (o : State) (f g : Types → List Contribution) → ((ts : Types) → o ≡ Some ts → f ts ≡ g ts) → where_solved o f ≡ where_solved o g
solved_same None f g h = refl
solved_same (Some ts) f g h = h ts refl

entered_same : (o p : Option (List Type4)) (f g : List Type4 → List Contribution) → o ≡ p → ((ts : List Type4) → o ≡ Some ts → f ts ≡ g ts) → where_entered o f ≡ where_entered p g
entered_same None p f g e h = ap (λ q. where_entered q g) e
entered_same (Some ts) p f g e h = h ts refl ∙ ap (λ q. where_entered q g) e

listed_same : {A : Type 0} (o : Option A) (f g : A → List Contribution) (x y : List Contribution) → ((a : A) → o ≡ Some a → f a ≡ g a) → (o ≡ None → x ≡ y) → listed_by o f x ≡ listed_by o g y
listed_same None f g x y h k = k refl
listed_same (Some a) f g x y h k = h a refl

-- ---- every form

-- st, su: the state of the walk, and another
module _ (callee : Atom → FunName → Callee) (home : Atom) (names : List FunName) (labels : List ℕ) (st su : FlowState) where
  abbrev V : World
  V = record { callee = callee; home = home; names = names; labels = labels; state = st }

  abbrev W : World
  W = record { callee = callee; home = home; names = names; labels = labels; state = su }

  abbrev Given_alike : List Contribution → Type 0
  Given_alike gs = AlikeWhereGiven st su gs

  abbrev Text_alike : List LabelledFunction → Type 0
  Text_alike fs = AlikeInText st su fs

  front : (gs hs : List Contribution) → Given_alike (gs ++ hs) → Given_alike gs
  front [] hs a = tt
  front (g ∷ gs) hs a = (a.0, front gs hs a.1)

  back : (gs hs : List Contribution) → Given_alike (gs ++ hs) → Given_alike hs
  back [] hs a = a
  back (g ∷ gs) hs a = back gs hs a.1

  text_front : (fs gs : List LabelledFunction) → Text_alike (fs ++ gs) → Text_alike fs
  text_front [] gs a = tt
  text_front (f ∷ fs) gs a = (a.0, text_front fs gs a.1)

  text_back : (fs gs : List LabelledFunction) → Text_alike (fs ++ gs) → Text_alike gs
  text_back [] gs a = a
  text_back (f ∷ fs) gs a = text_back fs gs a.1

  at_given : (o : Given) (f : List Type4 → List Contribution) (ts : List Type4) → Given_alike (where_given o f) → o ≡ Some ts → Given_alike (f ts)
  at_given o f ts a e = subst (λ q. Given_alike (where_given q f)) e a

  at_seen : (o : Option WalkScope) (f : WalkScope → List Contribution) (sc : WalkScope) → Given_alike (where_seen o f) → o ≡ Some sc → Given_alike (f sc)
  at_seen o f sc a e = subst (λ q. Given_alike (where_seen q f)) e a

  at_solved : (o : State) (f : Types → List Contribution) (ts : Types) → Given_alike (where_solved o f) → o ≡ Some ts → Given_alike (f ts)
  at_solved o f ts a e = subst (λ q. Given_alike (where_solved q f)) e a

  at_entered : (o : Option (List Type4)) (f : List Type4 → List Contribution) (ts : List Type4) → Given_alike (where_entered o f) → o ≡ Some ts → Given_alike (f ts)
  at_entered o f ts a e = subst (λ q. Given_alike (where_entered q f)) e a

  at_name : {A : Type 0} (o : Option A) (f : A → List Contribution) (gs : List Contribution) (x : A) → Given_alike (listed_by o f gs) → o ≡ Some x → Given_alike (f x)
  at_name o f gs x a e = subst (λ q. Given_alike (listed_by q f gs)) e a

  at_no_name : {A : Type 0} (o : Option A) (f : A → List Contribution) (gs : List Contribution) → Given_alike (listed_by o f gs) → o ≡ None → Given_alike gs
  at_no_name o f gs a e = subst (λ q. Given_alike (listed_by q f gs)) e a

  -- ---- the application of a name

  by_meaning_same : (f : FunName) (x : ResolvedName) (ts : List Type4) → Given_alike (enters_resolved x ts) → by_meaning V f x ts ≡ by_meaning W f x ts
  by_meaning_same f (Inner l) ts a = ap one (sym a.0)
  by_meaning_same f (Top l) ts a = ap (λ t. by_state t (callee home f) ts) (sym a.0)
  by_meaning_same f Nothing ts a = refl

  applied_same : (sc : WalkScope) (f : FunName) (ts : List Type4) → Given_alike (enters V sc f ts) → applied V sc f ts ≡ applied W sc f ts
  applied_same sc f ts = by (eqb f.arity (length ts))
    where
      by : (b : Bool) → Given_alike (cond b (enters_resolved (resolved_name V sc f) ts) []) → cond b (by_meaning V f (resolved_name V sc f) ts) None ≡ cond b (by_meaning W f (resolved_name W sc f) ts) None
      by true a = by_meaning_same f (resolved_name V sc f) ts a
      by false a = refl

  limited_same : (limit : List Type4) (gs : List Contribution) (g h : Given) → Given_alike (where_limited limit gs) → (Given_alike gs → g ≡ h) → where_meets (first limit) naturals g ≡ where_meets (first limit) naturals h
  limited_same limit gs g h = by (is_none (meet (first limit) naturals))
    where
      by : (b : Bool) → Given_alike (cond b [] gs) → (Given_alike gs → g ≡ h) → cond b None g ≡ cond b None h
      by true a more = refl
      by false a more = more a

  -- ---- what a walk gives values by

  mutual
    walk_same : (t : m.Tree) (sc : WalkScope) (k : Ask) → Given_alike (contributions V sc k t) → walk V sc k t ≡ walk W sc k t
    walk_same (m.variable i x) sc k a = refl
    walk_same (m.local i f) sc k a = refl
    walk_same (m.external i x f) sc k a = refl
    walk_same (m.literal i l) sc k a = refl
    walk_same (m.function i xs t) sc k a = refl
    walk_same (m.listed i ts t) sc k a =
        then_same (walk_all V sc ts) (walk_all W sc ts) (λ hs. then (walk V sc one_value t) (λ us. value (list_type hs (first us)))) (λ hs. then (walk W sc one_value t) (λ us. value (list_type hs (first us))))
        (walk_all_same ts sc (front (contributions_of_all V sc ts) (contributions V sc one_value t) a))
        (λ hs e. ap (λ o. then o (λ us. value (list_type hs (first us)))) (walk_same t sc one_value (back (contributions_of_all V sc ts) (contributions V sc one_value t) a)))
    walk_same (m.tuple i ts) sc k a = ap (λ o. then o (λ us. value (tuple us))) (walk_all_same ts sc a)
    walk_same (m.new_map i ps) sc k a = ap (λ o. then o (λ us. value (of_kind Map))) (walk_pairs_same ps sc a)
    walk_same (m.updated_map i ps t) sc k a =
        then_same (walk_pairs V sc ps) (walk_pairs W sc ps) (λ us. then (walk V sc one_value t) (λ old. where_meets (first old) (of_kind Map) (value (of_kind Map))))
        (λ us. then (walk W sc one_value t) (λ old. where_meets (first old) (of_kind Map) (value (of_kind Map))))
        (walk_pairs_same ps sc (front (contributions_of_pairs V sc ps) (contributions V sc one_value t) a))
        (λ us e. ap (λ o. then o (λ old. where_meets (first old) (of_kind Map) (value (of_kind Map)))) (walk_same t sc one_value (back (contributions_of_pairs V sc ps) (contributions V sc one_value t) a)))
    walk_same (m.binary i ss) sc k a = ap (λ o. then o (λ us. value (of_kind Bitstring))) (walk_segments_same ss sc a)
    walk_same (m.values i ts) sc k a = ap (passed k) (walk_all_same ts sc a)
    walk_same (m.chain i ss t) sc k a =
        seen_same (see_steps V sc ss) (see_steps W sc ss) (λ inner. passed k (walk V inner k t)) (λ inner. passed k (walk W inner k t))
        (see_steps_same ss sc (front (contributions_of_steps V sc ss) (where_seen (see_steps V sc ss) (λ inner. contributions V inner k t)) a))
        (λ inner e. ap (passed k) (walk_same t inner k (at_seen (see_steps V sc ss) (λ inner. contributions V inner k t) inner
        (back (contributions_of_steps V sc ss) (where_seen (see_steps V sc ss) (λ inner. contributions V inner k t)) a) e)))
    walk_same (m.case i t cs) sc k a =
        let argument = contributions V sc (Exactly (width cs)) t in
        let clauses = λ (ts : List Type4). contributions_of_clauses V (seen_by_clauses sc cs ts) k (matched_slots sc t cs) cs in
        then_same (walk V sc (Exactly (width cs)) t) (walk W sc (Exactly (width cs)) t) (λ ts. walk_clauses V (seen_by_clauses sc cs ts) k (matched_slots sc t cs) cs)
        (λ ts. walk_clauses W (seen_by_clauses sc cs ts) k (matched_slots sc t cs) cs)
        (walk_same t sc (Exactly (width cs)) (front argument (where_given (walk V sc (Exactly (width cs)) t) clauses) a))
        (λ ts e. walk_clauses_same cs (seen_by_clauses sc cs ts) k (matched_slots sc t cs) (at_given (walk V sc (Exactly (width cs)) t) clauses ts (back argument (where_given (walk V sc (Exactly (width cs)) t) clauses) a) e))
    walk_same (m.letrec i ds t) sc k a =
        ap (passed k) (walk_same t (with_functions sc ds) k (back (contributions_of_functions V (with_functions sc ds) ds) (contributions V (with_functions sc ds) k t) a))
    walk_same (m.apply i t ts) sc k a =
        let by_name = λ (f : FunName). contributions_of_all V sc ts ++ where_given (walk_all V sc ts) (λ us. enters V sc f us) in
        let by_value = contributions V sc one_value t ++ contributions_of_all V sc ts in
        named_same (local_name t) (λ f. then (walk_all V sc ts) (λ us. applied V sc f us)) (λ f. then (walk_all W sc ts) (λ us. applied W sc f us))
        (then (walk V sc one_value t) (λ operator. then (walk_all V sc ts) (λ us. where_meets (first operator) (function_type (length us)) (value any))))
        (then (walk W sc one_value t) (λ operator. then (walk_all W sc ts) (λ us. where_meets (first operator) (function_type (length us)) (value any))))
        (λ f e.
        let b = at_name (local_name t) by_name by_value f a e in
        then_same (walk_all V sc ts) (walk_all W sc ts) (λ us. applied V sc f us) (λ us. applied W sc f us)
        (walk_all_same ts sc (front (contributions_of_all V sc ts) (where_given (walk_all V sc ts) (λ us. enters V sc f us)) b))
        (λ us w. applied_same sc f us (at_given (walk_all V sc ts) (λ us. enters V sc f us) us (back (contributions_of_all V sc ts) (where_given (walk_all V sc ts) (λ us. enters V sc f us)) b) w)))
        (λ e.
        let b = at_no_name (local_name t) by_name by_value a e in
        then_same (walk V sc one_value t) (walk W sc one_value t) (λ operator. then (walk_all V sc ts) (λ us. where_meets (first operator) (function_type (length us)) (value any)))
        (λ operator. then (walk_all W sc ts) (λ us. where_meets (first operator) (function_type (length us)) (value any)))
        (walk_same t sc one_value (front (contributions V sc one_value t) (contributions_of_all V sc ts) b))
        (λ operator w. ap (λ o. then o (λ us. where_meets (first operator) (function_type (length us)) (value any))) (walk_all_same ts sc (back (contributions V sc one_value t) (contributions_of_all V sc ts) b))))
    walk_same (m.call i t u ts) sc k a =
        let by_names = λ (names : Atom × Atom). contributions_of_all V sc ts in
        let by_value = contributions V sc one_value t ++ contributions V sc one_value u ++ contributions_of_all V sc ts in
        named_same (call_names t u) (λ names. then (walk_all V sc ts) (λ us. called (strict V) names.0 names.1 us)) (λ names. then (walk_all W sc ts) (λ us. called (strict W) names.0 names.1 us))
        (then (walk V sc one_value t) (λ home. then (walk V sc one_value u) (λ name. then (walk_all V sc ts) (λ us. value any))))
        (then (walk W sc one_value t) (λ home. then (walk W sc one_value u) (λ name. then (walk_all W sc ts) (λ us. value any))))
        (λ names e. ap (λ o. then o (λ us. called (strict W) names.0 names.1 us)) (walk_all_same ts sc (at_name (call_names t u) by_names by_value names a e)))
        (λ e.
        let b = at_no_name (call_names t u) by_names by_value a e in
        let operator = front (contributions V sc one_value t ++ contributions V sc one_value u) (contributions_of_all V sc ts) b in
        then_same (walk V sc one_value t) (walk W sc one_value t) (λ home. then (walk V sc one_value u) (λ name. then (walk_all V sc ts) (λ us. value any)))
        (λ home. then (walk W sc one_value u) (λ name. then (walk_all W sc ts) (λ us. value any)))
        (walk_same t sc one_value (front (contributions V sc one_value t) (contributions V sc one_value u) operator))
        (λ home w. then_same (walk V sc one_value u) (walk W sc one_value u) (λ name. then (walk_all V sc ts) (λ us. value any)) (λ name. then (walk_all W sc ts) (λ us. value any))
        (walk_same u sc one_value (back (contributions V sc one_value t) (contributions V sc one_value u) operator))
        (λ name v. ap (λ o. then o (λ us. value any)) (walk_all_same ts sc (back (contributions V sc one_value t ++ contributions V sc one_value u) (contributions_of_all V sc ts) b)))))
    walk_same (m.primop i x ts) sc k a = ap (λ o. then o (λ us. by_primop k x)) (walk_all_same ts sc a)
    walk_same (m.try i t xs u ys w) sc k a =
        let argument = contributions V sc (Exactly (length xs)) t in
        let body = λ (ts : List Type4). contributions V (with_variables sc xs ts) k u in
        let tried = argument ++ where_given (walk V sc (Exactly (length xs)) t) body in
        let handler = contributions V (with_variables sc ys []) k w in
        let b = front tried handler a in
        ap₂ either
        (then_same (walk V sc (Exactly (length xs)) t) (walk W sc (Exactly (length xs)) t) (λ ts. passed k (walk V (with_variables sc xs ts) k u)) (λ ts. passed k (walk W (with_variables sc xs ts) k u))
        (walk_same t sc (Exactly (length xs)) (front argument (where_given (walk V sc (Exactly (length xs)) t) body) b))
        (λ ts e. ap (passed k) (walk_same u (with_variables sc xs ts) k (at_given (walk V sc (Exactly (length xs)) t) body ts (back argument (where_given (walk V sc (Exactly (length xs)) t) body) b) e))))
        (ap (passed k) (walk_same w (with_variables sc ys []) k (back tried handler a)))
    walk_same (m.receive i cs t u) sc k a =
        let timeout = contributions V sc one_value t in
        let messages = contributions_of_clauses V (seen_by_messages sc) k (length sc.types ∷ []) cs in
        let rest = λ (limit : List Type4). messages ++ where_limited limit (contributions V sc k u) in
        then_same (walk V sc one_value t) (walk W sc one_value t)
        (λ limit. either (walk_clauses V (seen_by_messages sc) k (length sc.types ∷ []) cs) (where_meets (first limit) naturals (passed k (walk V sc k u))))
        (λ limit. either (walk_clauses W (seen_by_messages sc) k (length sc.types ∷ []) cs) (where_meets (first limit) naturals (passed k (walk W sc k u))))
        (walk_same t sc one_value (front timeout (where_given (walk V sc one_value t) rest) a))
        (λ limit e.
        let b = at_given (walk V sc one_value t) rest limit (back timeout (where_given (walk V sc one_value t) rest) a) e in
        ap₂ either (walk_clauses_same cs (seen_by_messages sc) k (length sc.types ∷ []) (front messages (where_limited limit (contributions V sc k u)) b))
        (limited_same limit (contributions V sc k u) (passed k (walk V sc k u)) (passed k (walk W sc k u)) (back messages (where_limited limit (contributions V sc k u)) b) (λ c. ap (passed k) (walk_same u sc k c))))
    walk_same (m.catch i t) sc k a = refl

    walk_all_same : (ts : m.Trees) (sc : WalkScope) → Given_alike (contributions_of_all V sc ts) → walk_all V sc ts ≡ walk_all W sc ts
    walk_all_same m.no_tree sc a = refl
    walk_all_same (m.and_tree t ts) sc a =
        then_same (walk V sc one_value t) (walk W sc one_value t) (λ us. then (walk_all V sc ts) (λ more. Some (first us ∷ more))) (λ us. then (walk_all W sc ts) (λ more. Some (first us ∷ more)))
        (walk_same t sc one_value (front (contributions V sc one_value t) (contributions_of_all V sc ts) a))
        (λ us e. ap (λ o. then o (λ more. Some (first us ∷ more))) (walk_all_same ts sc (back (contributions V sc one_value t) (contributions_of_all V sc ts) a)))

    walk_pairs_same : (ps : m.Pairs) (sc : WalkScope) → Given_alike (contributions_of_pairs V sc ps) → walk_pairs V sc ps ≡ walk_pairs W sc ps
    walk_pairs_same m.no_pair sc a = refl
    walk_pairs_same (m.and_pair exact t u ps) sc a =
        let key_and_value = contributions V sc one_value t ++ contributions V sc one_value u in
        let b = front key_and_value (contributions_of_pairs V sc ps) a in
        then_same (walk V sc one_value t) (walk W sc one_value t) (λ key. then (walk V sc one_value u) (λ held. walk_pairs V sc ps)) (λ key. then (walk W sc one_value u) (λ held. walk_pairs W sc ps))
        (walk_same t sc one_value (front (contributions V sc one_value t) (contributions V sc one_value u) b))
        (λ key e. then_same (walk V sc one_value u) (walk W sc one_value u) (λ held. walk_pairs V sc ps) (λ held. walk_pairs W sc ps)
        (walk_same u sc one_value (back (contributions V sc one_value t) (contributions V sc one_value u) b))
        (λ held w. walk_pairs_same ps sc (back key_and_value (contributions_of_pairs V sc ps) a)))

    walk_segments_same : (ss : m.Segments) (sc : WalkScope) → Given_alike (contributions_of_segments V sc ss) → walk_segments V sc ss ≡ walk_segments W sc ss
    walk_segments_same m.no_segment sc a = refl
    walk_segments_same (m.and_segment t ts ss) sc a =
        let one_segment = contributions V sc one_value t ++ contributions_of_all V sc ts in
        let b = front one_segment (contributions_of_segments V sc ss) a in
        then_same (walk V sc one_value t) (walk W sc one_value t) (λ us. then (walk_all V sc ts) (λ args. walk_segments V sc ss)) (λ us. then (walk_all W sc ts) (λ args. walk_segments W sc ss))
        (walk_same t sc one_value (front (contributions V sc one_value t) (contributions_of_all V sc ts) b))
        (λ us e. then_same (walk_all V sc ts) (walk_all W sc ts) (λ args. walk_segments V sc ss) (λ args. walk_segments W sc ss)
        (walk_all_same ts sc (back (contributions V sc one_value t) (contributions_of_all V sc ts) b))
        (λ args w. walk_segments_same ss sc (back one_segment (contributions_of_segments V sc ss) a)))

    see_steps_same : (ss : m.Steps) (sc : WalkScope) → Given_alike (contributions_of_steps V sc ss) → see_steps V sc ss ≡ see_steps W sc ss
    see_steps_same m.no_step sc a = refl
    see_steps_same (m.and_let i xs u ss) sc a =
        let rest = λ (us : List Type4). contributions_of_steps V (with_variables sc xs us) ss in
        see_same (walk V sc (Exactly (length xs)) u) (walk W sc (Exactly (length xs)) u) (λ us. see_steps V (with_variables sc xs us) ss) (λ us. see_steps W (with_variables sc xs us) ss)
        (walk_same u sc (Exactly (length xs)) (front (contributions V sc (Exactly (length xs)) u) (where_given (walk V sc (Exactly (length xs)) u) rest) a))
        (λ us e. see_steps_same ss (with_variables sc xs us) (at_given (walk V sc (Exactly (length xs)) u) rest us (back (contributions V sc (Exactly (length xs)) u) (where_given (walk V sc (Exactly (length xs)) u) rest) a) e))
    see_steps_same (m.and_do i u ss) sc a =
        let rest = λ (us : List Type4). contributions_of_steps V sc ss in
        see_same (walk V sc AnyNumber u) (walk W sc AnyNumber u) (λ us. see_steps V sc ss) (λ us. see_steps W sc ss)
        (walk_same u sc AnyNumber (front (contributions V sc AnyNumber u) (where_given (walk V sc AnyNumber u) rest) a))
        (λ us e. see_steps_same ss sc (at_given (walk V sc AnyNumber u) rest us (back (contributions V sc AnyNumber u) (where_given (walk V sc AnyNumber u) rest) a) e))

    walk_clauses_same : (cs : m.Clauses) (sc : WalkScope) (k : Ask) (qs : List ℕ) → Given_alike (contributions_of_clauses V sc k qs cs) → walk_clauses V sc k qs cs ≡ walk_clauses W sc k qs cs
    walk_clauses_same m.no_clause sc k qs a = refl
    walk_clauses_same (m.and_clause i ps g t cs) sc k qs a =
        let guard = where_solved (patterns_solved sc qs ps g) (λ solved. contributions V (inside sc ps solved) one_value g) in
        let body = where_solved (head_solved V sc qs ps g) (λ solved. contributions V (inside sc ps solved) k t) in
        ap₂ either
        (inside_same (head_solved V sc qs ps g) (λ solved. passed k (walk V (inside sc ps solved) k t)) (λ solved. passed k (walk W (inside sc ps solved) k t))
        (λ solved e. ap (passed k) (walk_same t (inside sc ps solved) k (at_solved (head_solved V sc qs ps g) (λ solved. contributions V (inside sc ps solved) k t) solved
        (back guard body (front (guard ++ body) (contributions_of_clauses V sc k qs cs) a)) e))))
        (walk_clauses_same cs sc k qs (back (guard ++ body) (contributions_of_clauses V sc k qs cs) a))

  -- ---- what it gives to the state

  limited_contributions : (limit : List Type4) (gs hs : List Contribution) → Given_alike (where_limited limit gs) → (Given_alike gs → gs ≡ hs) → where_limited limit gs ≡ where_limited limit hs
  limited_contributions limit gs hs = by (is_none (meet (first limit) naturals))
    where
      by : (b : Bool) → Given_alike (cond b [] gs) → (Given_alike gs → gs ≡ hs) → cond b [] gs ≡ cond b [] hs
      by true a more = refl
      by false a more = more a

  both : {gs hs gs' hs' : List Contribution} → gs ≡ gs' → hs ≡ hs' → gs ++ hs ≡ gs' ++ hs'
  both e f = ap₂ (λ xs ys. xs ++ ys) e f

  mutual
    contributions_same : (t : m.Tree) (sc : WalkScope) (k : Ask) → Text_alike (functions t) → Given_alike (contributions V sc k t) → contributions V sc k t ≡ contributions W sc k t
    contributions_same (m.variable i x) sc k h a = refl
    contributions_same (m.local i f) sc k h a = refl
    contributions_same (m.external i x f) sc k h a = refl
    contributions_same (m.literal i l) sc k h a = refl
    contributions_same (m.function i xs t) sc k h a = contributions_same t (with_variables sc xs []) one_value h.1 a
    contributions_same (m.listed i ts t) sc k h a =
        both (contributions_of_all_same ts sc (text_front (functions_of_all ts) (functions t) h) (front (contributions_of_all V sc ts) (contributions V sc one_value t) a))
        (contributions_same t sc one_value (text_back (functions_of_all ts) (functions t) h) (back (contributions_of_all V sc ts) (contributions V sc one_value t) a))
    contributions_same (m.tuple i ts) sc k h a = contributions_of_all_same ts sc h a
    contributions_same (m.new_map i ps) sc k h a = contributions_of_pairs_same ps sc h a
    contributions_same (m.updated_map i ps t) sc k h a =
        both (contributions_of_pairs_same ps sc (text_front (functions_of_pairs ps) (functions t) h) (front (contributions_of_pairs V sc ps) (contributions V sc one_value t) a))
        (contributions_same t sc one_value (text_back (functions_of_pairs ps) (functions t) h) (back (contributions_of_pairs V sc ps) (contributions V sc one_value t) a))
    contributions_same (m.binary i ss) sc k h a = contributions_of_segments_same ss sc h a
    contributions_same (m.values i ts) sc k h a = contributions_of_all_same ts sc h a
    contributions_same (m.chain i ss t) sc k h a =
        let end = λ (inner : WalkScope). contributions V inner k t in
        let b = front (contributions_of_steps V sc ss) (where_seen (see_steps V sc ss) end) a in
        both (contributions_of_steps_same ss sc (text_front (functions_of_steps ss) (functions t) h) b)
        (walk_scope_same (see_steps V sc ss) (see_steps W sc ss) end (λ inner. contributions W inner k t) (see_steps_same ss sc b)
        (λ inner e. contributions_same t inner k (text_back (functions_of_steps ss) (functions t) h) (at_seen (see_steps V sc ss) end inner (back (contributions_of_steps V sc ss) (where_seen (see_steps V sc ss) end) a) e)))
    contributions_same (m.case i t cs) sc k h a =
        let argument = contributions V sc (Exactly (width cs)) t in
        let clauses = λ (ts : List Type4). contributions_of_clauses V (seen_by_clauses sc cs ts) k (matched_slots sc t cs) cs in
        let b = front argument (where_given (walk V sc (Exactly (width cs)) t) clauses) a in
        both (contributions_same t sc (Exactly (width cs)) (text_front (functions t) (functions_of_clauses cs) h) b)
        (given_same (walk V sc (Exactly (width cs)) t) (walk W sc (Exactly (width cs)) t) clauses (λ ts. contributions_of_clauses W (seen_by_clauses sc cs ts) k (matched_slots sc t cs) cs) (walk_same t sc (Exactly (width cs)) b)
        (λ ts e. contributions_of_clauses_same cs (seen_by_clauses sc cs ts) k (matched_slots sc t cs) (text_back (functions t) (functions_of_clauses cs) h)
        (at_given (walk V sc (Exactly (width cs)) t) clauses ts (back argument (where_given (walk V sc (Exactly (width cs)) t) clauses) a) e)))
    contributions_same (m.letrec i ds t) sc k h a =
        let defined = contributions_of_functions V (with_functions sc ds) ds in
        let body = contributions V (with_functions sc ds) k t in
        both (contributions_of_functions_same ds (with_functions sc ds) (text_front (functions_of_defs ds) (functions t) h) (front defined body a))
        (contributions_same t (with_functions sc ds) k (text_back (functions_of_defs ds) (functions t) h) (back defined body a))
    contributions_same (m.apply i t ts) sc k h a =
        let by_name = λ (f : FunName). contributions_of_all V sc ts ++ where_given (walk_all V sc ts) (λ us. enters V sc f us) in
        let by_value = contributions V sc one_value t ++ contributions_of_all V sc ts in
        let arguments = text_back (functions t) (functions_of_all ts) h in
        listed_same (local_name t) by_name (λ f. contributions_of_all W sc ts ++ where_given (walk_all W sc ts) (λ us. enters W sc f us)) by_value (contributions W sc one_value t ++ contributions_of_all W sc ts)
        (λ f e.
        let b = front (contributions_of_all V sc ts) (where_given (walk_all V sc ts) (λ us. enters V sc f us)) (at_name (local_name t) by_name by_value f a e) in
        both (contributions_of_all_same ts sc arguments b) (ap (λ o. where_given o (λ us. enters W sc f us)) (walk_all_same ts sc b)))
        (λ e.
        let b = at_no_name (local_name t) by_name by_value a e in
        both (contributions_same t sc one_value (text_front (functions t) (functions_of_all ts) h) (front (contributions V sc one_value t) (contributions_of_all V sc ts) b))
        (contributions_of_all_same ts sc arguments (back (contributions V sc one_value t) (contributions_of_all V sc ts) b)))
    contributions_same (m.call i t u ts) sc k h a =
        let by_names = λ (names : Atom × Atom). contributions_of_all V sc ts in
        let by_value = contributions V sc one_value t ++ contributions V sc one_value u ++ contributions_of_all V sc ts in
        let names_text = text_front (functions t ++ functions u) (functions_of_all ts) h in
        let arguments = text_back (functions t ++ functions u) (functions_of_all ts) h in
        listed_same (call_names t u) by_names (λ names. contributions_of_all W sc ts) by_value (contributions W sc one_value t ++ contributions W sc one_value u ++ contributions_of_all W sc ts)
        (λ names e. contributions_of_all_same ts sc arguments (at_name (call_names t u) by_names by_value names a e))
        (λ e.
        let b = at_no_name (call_names t u) by_names by_value a e in
        let c = front (contributions V sc one_value t ++ contributions V sc one_value u) (contributions_of_all V sc ts) b in
        both (both (contributions_same t sc one_value (text_front (functions t) (functions u) names_text) (front (contributions V sc one_value t) (contributions V sc one_value u) c))
        (contributions_same u sc one_value (text_back (functions t) (functions u) names_text) (back (contributions V sc one_value t) (contributions V sc one_value u) c)))
        (contributions_of_all_same ts sc arguments (back (contributions V sc one_value t ++ contributions V sc one_value u) (contributions_of_all V sc ts) b)))
    contributions_same (m.primop i x ts) sc k h a = contributions_of_all_same ts sc h a
    contributions_same (m.try i t xs u ys w) sc k h a =
        let argument = contributions V sc (Exactly (length xs)) t in
        let body = λ (ts : List Type4). contributions V (with_variables sc xs ts) k u in
        let tried = argument ++ where_given (walk V sc (Exactly (length xs)) t) body in
        let handler = contributions V (with_variables sc ys []) k w in
        let b = front tried handler a in
        let c = front argument (where_given (walk V sc (Exactly (length xs)) t) body) b in
        let tried_text = text_front (functions t ++ functions u) (functions w) h in
        both (both (contributions_same t sc (Exactly (length xs)) (text_front (functions t) (functions u) tried_text) c)
        (given_same (walk V sc (Exactly (length xs)) t) (walk W sc (Exactly (length xs)) t) body (λ ts. contributions W (with_variables sc xs ts) k u) (walk_same t sc (Exactly (length xs)) c)
        (λ ts e. contributions_same u (with_variables sc xs ts) k (text_back (functions t) (functions u) tried_text)
        (at_given (walk V sc (Exactly (length xs)) t) body ts (back argument (where_given (walk V sc (Exactly (length xs)) t) body) b) e))))
        (contributions_same w (with_variables sc ys []) k (text_back (functions t ++ functions u) (functions w) h) (back tried handler a))
    contributions_same (m.receive i cs t u) sc k h a =
        let timeout = contributions V sc one_value t in
        let messages = contributions_of_clauses V (seen_by_messages sc) k (length sc.types ∷ []) cs in
        let rest = λ (limit : List Type4). messages ++ where_limited limit (contributions V sc k u) in
        let b = front timeout (where_given (walk V sc one_value t) rest) a in
        let before_action = text_front (functions_of_clauses cs ++ functions t) (functions u) h in
        both (contributions_same t sc one_value (text_back (functions_of_clauses cs) (functions t) before_action) b)
        (given_same (walk V sc one_value t) (walk W sc one_value t) rest (λ limit. contributions_of_clauses W (seen_by_messages sc) k (length sc.types ∷ []) cs ++ where_limited limit (contributions W sc k u)) (walk_same t sc one_value b)
        (λ limit e.
        let c = at_given (walk V sc one_value t) rest limit (back timeout (where_given (walk V sc one_value t) rest) a) e in
        both (contributions_of_clauses_same cs (seen_by_messages sc) k (length sc.types ∷ []) (text_front (functions_of_clauses cs) (functions t) before_action) (front messages (where_limited limit (contributions V sc k u)) c))
        (limited_contributions limit (contributions V sc k u) (contributions W sc k u) (back messages (where_limited limit (contributions V sc k u)) c)
        (λ d. contributions_same u sc k (text_back (functions_of_clauses cs ++ functions t) (functions u) h) d))))
    contributions_same (m.catch i t) sc k h a = contributions_same t sc one_value h a

    contributions_of_all_same : (ts : m.Trees) (sc : WalkScope) → Text_alike (functions_of_all ts) → Given_alike (contributions_of_all V sc ts) → contributions_of_all V sc ts ≡ contributions_of_all W sc ts
    contributions_of_all_same m.no_tree sc h a = refl
    contributions_of_all_same (m.and_tree t ts) sc h a =
        both (contributions_same t sc one_value (text_front (functions t) (functions_of_all ts) h) (front (contributions V sc one_value t) (contributions_of_all V sc ts) a))
        (contributions_of_all_same ts sc (text_back (functions t) (functions_of_all ts) h) (back (contributions V sc one_value t) (contributions_of_all V sc ts) a))

    contributions_of_pairs_same : (ps : m.Pairs) (sc : WalkScope) → Text_alike (functions_of_pairs ps) → Given_alike (contributions_of_pairs V sc ps) → contributions_of_pairs V sc ps ≡ contributions_of_pairs W sc ps
    contributions_of_pairs_same m.no_pair sc h a = refl
    contributions_of_pairs_same (m.and_pair exact t u ps) sc h a =
        let key_and_value = contributions V sc one_value t ++ contributions V sc one_value u in
        let b = front key_and_value (contributions_of_pairs V sc ps) a in
        let text = text_front (functions t ++ functions u) (functions_of_pairs ps) h in
        both (both (contributions_same t sc one_value (text_front (functions t) (functions u) text) (front (contributions V sc one_value t) (contributions V sc one_value u) b))
        (contributions_same u sc one_value (text_back (functions t) (functions u) text) (back (contributions V sc one_value t) (contributions V sc one_value u) b)))
        (contributions_of_pairs_same ps sc (text_back (functions t ++ functions u) (functions_of_pairs ps) h) (back key_and_value (contributions_of_pairs V sc ps) a))

    contributions_of_segments_same : (ss : m.Segments) (sc : WalkScope) → Text_alike (functions_of_segments ss) → Given_alike (contributions_of_segments V sc ss)
        → contributions_of_segments V sc ss ≡ contributions_of_segments W sc ss
    contributions_of_segments_same m.no_segment sc h a = refl
    contributions_of_segments_same (m.and_segment t ts ss) sc h a =
        let one_segment = contributions V sc one_value t ++ contributions_of_all V sc ts in
        let b = front one_segment (contributions_of_segments V sc ss) a in
        let text = text_front (functions t ++ functions_of_all ts) (functions_of_segments ss) h in
        both (both (contributions_same t sc one_value (text_front (functions t) (functions_of_all ts) text) (front (contributions V sc one_value t) (contributions_of_all V sc ts) b))
        (contributions_of_all_same ts sc (text_back (functions t) (functions_of_all ts) text) (back (contributions V sc one_value t) (contributions_of_all V sc ts) b)))
        (contributions_of_segments_same ss sc (text_back (functions t ++ functions_of_all ts) (functions_of_segments ss) h) (back one_segment (contributions_of_segments V sc ss) a))

    contributions_of_steps_same : (ss : m.Steps) (sc : WalkScope) → Text_alike (functions_of_steps ss) → Given_alike (contributions_of_steps V sc ss) → contributions_of_steps V sc ss ≡ contributions_of_steps W sc ss
    contributions_of_steps_same m.no_step sc h a = refl
    contributions_of_steps_same (m.and_let i xs u ss) sc h a =
        let rest = λ (us : List Type4). contributions_of_steps V (with_variables sc xs us) ss in
        let b = front (contributions V sc (Exactly (length xs)) u) (where_given (walk V sc (Exactly (length xs)) u) rest) a in
        both (contributions_same u sc (Exactly (length xs)) (text_front (functions u) (functions_of_steps ss) h) b)
        (given_same (walk V sc (Exactly (length xs)) u) (walk W sc (Exactly (length xs)) u) rest (λ us. contributions_of_steps W (with_variables sc xs us) ss) (walk_same u sc (Exactly (length xs)) b)
        (λ us e. contributions_of_steps_same ss (with_variables sc xs us) (text_back (functions u) (functions_of_steps ss) h)
        (at_given (walk V sc (Exactly (length xs)) u) rest us (back (contributions V sc (Exactly (length xs)) u) (where_given (walk V sc (Exactly (length xs)) u) rest) a) e)))
    contributions_of_steps_same (m.and_do i u ss) sc h a =
        let rest = λ (us : List Type4). contributions_of_steps V sc ss in
        let b = front (contributions V sc AnyNumber u) (where_given (walk V sc AnyNumber u) rest) a in
        both (contributions_same u sc AnyNumber (text_front (functions u) (functions_of_steps ss) h) b)
        (given_same (walk V sc AnyNumber u) (walk W sc AnyNumber u) rest (λ us. contributions_of_steps W sc ss) (walk_same u sc AnyNumber b)
        (λ us e. contributions_of_steps_same ss sc (text_back (functions u) (functions_of_steps ss) h) (at_given (walk V sc AnyNumber u) rest us (back (contributions V sc AnyNumber u) (where_given (walk V sc AnyNumber u) rest) a) e)))

    contributions_of_clauses_same : (cs : m.Clauses) (sc : WalkScope) (k : Ask) (qs : List ℕ) → Text_alike (functions_of_clauses cs) → Given_alike (contributions_of_clauses V sc k qs cs)
        → contributions_of_clauses V sc k qs cs ≡ contributions_of_clauses W sc k qs cs
    contributions_of_clauses_same m.no_clause sc k qs h a = refl
    contributions_of_clauses_same (m.and_clause i ps g t cs) sc k qs h a =
        let guard = where_solved (patterns_solved sc qs ps g) (λ solved. contributions V (inside sc ps solved) one_value g) in
        let body = where_solved (head_solved V sc qs ps g) (λ solved. contributions V (inside sc ps solved) k t) in
        let b = front (guard ++ body) (contributions_of_clauses V sc k qs cs) a in
        let clause_text = text_front (functions_of_patterns ps ++ functions g ++ functions t) (functions_of_clauses cs) h in
        let head_text = text_front (functions_of_patterns ps ++ functions g) (functions t) clause_text in
        both (both
        (solved_same (patterns_solved sc qs ps g) (λ solved. contributions V (inside sc ps solved) one_value g) (λ solved. contributions W (inside sc ps solved) one_value g)
        (λ solved e. contributions_same g (inside sc ps solved) one_value (text_back (functions_of_patterns ps) (functions g) head_text)
        (at_solved (patterns_solved sc qs ps g) (λ solved. contributions V (inside sc ps solved) one_value g) solved (front guard body b) e)))
        (solved_same (head_solved V sc qs ps g) (λ solved. contributions V (inside sc ps solved) k t) (λ solved. contributions W (inside sc ps solved) k t)
        (λ solved e. contributions_same t (inside sc ps solved) k (text_back (functions_of_patterns ps ++ functions g) (functions t) clause_text)
        (at_solved (head_solved V sc qs ps g) (λ solved. contributions V (inside sc ps solved) k t) solved (back guard body b) e))))
        (contributions_of_clauses_same cs sc k qs (text_back (functions_of_patterns ps ++ functions g ++ functions t) (functions_of_clauses cs) h) (back (guard ++ body) (contributions_of_clauses V sc k qs cs) a))

    pub contributions_of_functions_same : (ds : m.Defs) (sc : WalkScope) → Text_alike (functions_of_defs ds) → Given_alike (contributions_of_functions V sc ds)
        → contributions_of_functions V sc ds ≡ contributions_of_functions W sc ds
    contributions_of_functions_same m.no_def sc h a = refl
    contributions_of_functions_same (m.and_def f i xs t ds) sc h a =
        let one_function = λ (ts : List Type4). contributions V (with_variables sc xs ts) one_value t ++ returns i.label (walk V (with_variables sc xs ts) one_value t) in
        let own = where_entered (parameters_of st i.label) one_function in
        both (entered_same (parameters_of st i.label) (parameters_of su i.label) one_function (λ ts. contributions W (with_variables sc xs ts) one_value t ++ returns i.label (walk W (with_variables sc xs ts) one_value t)) (sym h.0)
        (λ ts e.
        let b = front (contributions V (with_variables sc xs ts) one_value t) (returns i.label (walk V (with_variables sc xs ts) one_value t))
        (at_entered (parameters_of st i.label) one_function ts (front own (contributions_of_functions V sc ds) a) e) in
        both (contributions_same t (with_variables sc xs ts) one_value (text_front (functions t) (functions_of_defs ds) h.1) b) (ap (returns i.label) (walk_same t (with_variables sc xs ts) one_value b))))
        (contributions_of_functions_same ds sc (text_back (functions t) (functions_of_defs ds) h.1) (back own (contributions_of_functions V sc ds) a))
