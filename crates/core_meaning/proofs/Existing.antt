-- Each expression of an accepted module has an outcome and a trace, with any fuel: form by form, then by the fuel. Calls,
-- applications and primops raise here, a `receive` waits, and where a clause's guard raises the whole raises.
use Rattle.std.proofs.Common.{◌≡◌, ℕ, zero, suc, true, ◌⊎◌, inl, inr, List, [], ◌∷◌, ◌++◌, length, None, Contains, eqb, leb, eqb-true, refl, sym, ap, ◌∙◌, subst, arith}
use Rattle.std.proofs.lemmas.Bool.{and_parts}
use Rattle.std.proofs.lemmas.List.Elements.{Contains-append_left, Contains-append_right}
use Rattle.type_kinds.specs.declared.atom.Atom.{Atom}
use Rattle.core_ast.specs.declared.syntax.Mark.{Mark}
use Rattle.core_ast.specs.declared.syntax.VarName.{VarName}
use Rattle.core_ast.specs.declared.syntax.FunName.{FunName}
use Rattle.core_ast.specs.declared.syntax.Literal.{Literal}
use Rattle.core_ast.specs.declared.syntax.Literal.TheVariants as l
use Rattle.core_ast.specs.Model as m
use Rattle.core_ast.specs.Lengths.{how_many}
use Rattle.core_ast.specs.Named.{local_name}
use Rattle.core_scope.specs.declared.ask.Ask.{Ask}
use Rattle.core_scope.specs.declared.ask.Ask.TheVariants.{AnyNumber, Exactly}
use Rattle.core_scope.specs.Asks as asks
use Rattle.core_scope.specs.Names as scopes
use Rattle.core_scope.specs.Names.{Scope, bound_by, patterns_bound, steps_bound, defined_names}
use Rattle.core_scope.specs.Places.{StandsInModule}
use Rattle.core_scope.specs.Places.Piece.{expression, steps, clauses}
use Rattle.core_scope.specs.Places.HasPart.{listed_items, listed_rest, tuple_items, new_map_pairs, updated_map_pairs, updated_map_itself, binary_segments}
use Rattle.core_scope.specs.Places.HasPart.{values_items, chain_steps, chain_end, case_argument, case_clauses, letrec_body, apply_function, apply_arguments}
use Rattle.core_scope.specs.Places.HasPart.{call_module, call_name, call_arguments, primop_arguments, try_argument, try_body, try_handler, receive_timeout}
use Rattle.core_scope.specs.Places.HasPart.{catch_argument, let_argument, after_let, do_argument, after_do, clause_guard, clause_body, other_clauses}
use Rattle.core_scope.specs.Places.StandsIn.{deeper}
use Rattle.type_lattice_model.specs.Canonical.{spelled}
use Rattle.type_lattice_model.specs.Values.{Value, int, atom, bits, float, nil, tuple, map, closure, external, Values, no_value, and_value, no_pair, Env, and_frame, count}
use Rattle.bif_types.specs.Results.{one_value}
use Rattle.cons_tree.specs.Satisfied.{true_value}
use Rattle.core_meaning.specs.Programs.{Program, IsAtLabel, AreAtLabels, locals_of}
use Rattle.core_meaning.specs.Environments.{with_variables}
use Rattle.core_meaning.specs.Matching.{LiteralIs, MatchEach, MissEach}
use Rattle.core_meaning.specs.Meaning.{Failure, raised, stopped, Outcome, gives, fails, made, chosen, Trace, with_last, in_pairs, in_segments, in_application, operands, list_value, AreOutside}
use Rattle.core_meaning.specs.Meaning.{AllGive, give_none, give_next, OneFails, fail_here, fail_later, Chained, chain_ends, let_gives, let_fails}
use Rattle.core_meaning.specs.Meaning.{do_gives, do_fails, Choose, choose_none, choose_missed, choose_refused, choose_failed, choose_this, apply_raises}
use Rattle.core_meaning.specs.Meaning.{Step, step_variable, step_literal, step_function, step_name, step_external, step_part_fails, step_list, step_tuple}
use Rattle.core_meaning.specs.Meaning.{step_values, step_new_map, step_map_raises, step_binary, step_chain, step_case, step_case_fails, step_letrec}
use Rattle.core_meaning.specs.Meaning.{step_apply_name_raises, step_apply, step_call_raises, step_primop_raises, step_try, step_handle, step_try_stops, step_catch, step_caught, step_catch_stops, step_waits, step_receive_fails}
use Rattle.core_meaning.specs.Runs.{EvalWith}
use Rattle.core_meaning.proofs.Bound.{BindsAll, binds_none, binds_both, binds_all, Grows, grows_itself, grows_all}
use Rattle.core_meaning.proofs.Matches.{one_or_two, Reaches, each_or_miss}
use Rattle.core_meaning.proofs.Placed.{AllStand, stand_all, stand_last, stand_pairs, stand_segments, Fits, fits_grown, fits_frame}

-- ---- an outcome has as many values as its place asks for

abbrev pub Meets : Outcome → Ask → Type 0
Meets (fails f) k = Unit {0}
Meets (gives vs) AnyNumber = Unit {0}
Meets (gives vs) (Exactly n) = count vs ≡ n

many_meet : (k : Ask) (vs : Values) (n : ℕ) → asks.suffices k (Exactly n) ≡ true → count vs ≡ n → Meets (gives vs) k
many_meet AnyNumber vs n h e = tt
many_meet (Exactly j) vs n h e = e ∙ sym (eqb-true j n (and_parts (eqb j n) (leb j asks.most_asked) h).0)

one_meets : (k : Ask) (v : Value) → asks.suffices k (Exactly 1) ≡ true → Meets (gives (one_value v)) k
one_meets k v h = many_meet k (one_value v) 1 h refl

-- it may end, as its place asks
pub record Ends (R : Env → m.Tree → Outcome → Trace → Type 0) (env : Env) (k : Ask) (t : m.Tree) : Type 0 where
  pub outcome : Outcome
  pub trace : Trace
  pub happens : R env t outcome trace
  pub meets : Meets outcome k

-- grouped the other way
binds_regrouped : (xs ys zs : List Atom) (env : Env) → BindsAll ((xs ++ ys) ++ zs) env → BindsAll (xs ++ (ys ++ zs)) env
binds_regrouped xs ys zs env b = binds_both xs (ys ++ zs) env (λ x h. b x (Contains-append_left (xs ++ ys) zs x (Contains-append_left xs ys x h))) (
    binds_both ys zs env (λ x h. b x (Contains-append_left (xs ++ ys) zs x (Contains-append_right xs ys x h))) (λ x h. b x (Contains-append_right (xs ++ ys) zs x h)))

literal_gives : (c : Literal) → (v : Value) × LiteralIs c v
literal_gives (l.Int n) = (int n, refl)
literal_gives (l.Float s) = (float [], ([], refl))
literal_gives (l.Atom a) = (atom a, refl)
literal_gives l.Nil = (nil, refl)

-- the operator of an application is a local name, or it isn't
local_or_not : (t : m.Tree) → ((i : Mark) × ((f : FunName) × (t ≡ m.local i f))) ⊎ (local_name t ≡ None)
local_or_not (m.variable k x) = inr refl
local_or_not (m.local k f) = inl (k, (f, refl))
local_or_not (m.external k x f) = inr refl
local_or_not (m.literal k c) = inr refl
local_or_not (m.function k xs t) = inr refl
local_or_not (m.listed k ts t) = inr refl
local_or_not (m.tuple k ts) = inr refl
local_or_not (m.new_map k ps) = inr refl
local_or_not (m.updated_map k ps t) = inr refl
local_or_not (m.binary k ss) = inr refl
local_or_not (m.values k ts) = inr refl
local_or_not (m.chain k ss t) = inr refl
local_or_not (m.case k t cs) = inr refl
local_or_not (m.letrec k ds t) = inr refl
local_or_not (m.apply k t ts) = inr refl
local_or_not (m.call k t u ts) = inr refl
local_or_not (m.primop k x ts) = inr refl
local_or_not (m.try k t xs u ys w) = inr refl
local_or_not (m.receive k cs t u) = inr refl
local_or_not (m.catch k t) = inr refl

-- as many nils as variables, all of them from outside
abbrev nils : List VarName → Values
nils [] = no_value
nils (x ∷ xs) = and_value nil (nils xs)

count_nils : (xs : List VarName) → length xs ≡ count (nils xs)
count_nils [] = refl
count_nils (x ∷ xs) = ap suc (count_nils xs)

nils_outside : (W : Value → Type 0) → W nil → (xs : List VarName) → AreOutside W (nils xs)
nils_outside W w [] = tt
nils_outside W w (x ∷ xs) = (w, nils_outside W w xs)

-- what the rules of an accepted module, and its labels, say of the pieces that stand in it
pub record Text (U : Program) (p : m.Module) : Type 0 where
  pub variables : (s : Scope) (k : Ask) (i : Mark) (x : Atom) → StandsInModule p (expression s k (m.variable i x)) → Contains s.variables x
  pub functions : (s : Scope) (k : Ask) (i : Mark) (f : FunName) → StandsInModule p (expression s k (m.local i f)) → Contains s.functions f
  pub degrees : (s : Scope) (k : Ask) (t : m.Tree) → StandsInModule p (expression s k t) → asks.suffices k (asks.gives t) ≡ true
  pub funs : (s : Scope) (k : Ask) (i : Mark) (xs : List VarName) (t : m.Tree) → StandsInModule p (expression s k (m.function i xs t)) → IsAtLabel U p.name i None xs t
  pub letrecs : (s : Scope) (k : Ask) (i : Mark) (ds : m.Defs) (t : m.Tree) → StandsInModule p (expression s k (m.letrec i ds t)) → AreAtLabels U p.name ds

module _ (once : (v w : Value) → spelled v ≡ spelled w → v ≡ w) (U : Program) (p : m.Module) (text : Text U p) (W : Value → Type 0) (w : W nil) where
  -- each expression of the module may end, in each environment that fits its scope
  abbrev pub AllEnd : (Env → m.Tree → Outcome → Trace → Type 0) → Type 0
  AllEnd R = (s : Scope) (k : Ask) (t : m.Tree) (env : Env) → StandsInModule p (expression s k t) → Fits U p.name s env → Ends R env k t

  module _ (E : Atom → Env → m.Tree → Outcome → Trace → Type 0) (ends : AllEnd (λ env t o tr. E p.name env t o tr)) where
    -- what an expression of the module may do
    abbrev Does : Env → m.Tree → Outcome → Trace → Type 0
    Does env t o tr = Step U W E p.name env t o tr

    -- ---- parts that give one value each

    abbrev GivesOne : Env → m.Tree → Type 0
    GivesOne env t = (v : Value) × ((tr : Trace) × E p.name env t (gives (one_value v)) tr)

    abbrev Fails : Env → m.Tree → Type 0
    Fails env t = (f : Failure) × ((tr : Trace) × E p.name env t (fails f) tr)

    by_outcome : (env : Env) (t : m.Tree) (o : Outcome) (tr : Trace) → E p.name env t o tr → Meets o asks.one_value → GivesOne env t ⊎ Fails env t
    by_outcome env t (gives no_value) tr h e = let f : 0 ≡ 1 = e in absurd (omega (arith, f))
    by_outcome env t (gives (and_value v no_value)) tr h e = inl (v, (tr, h))
    by_outcome env t (gives (and_value v (and_value x vs))) tr h e = let f : suc (suc (count vs)) ≡ 1 = e in absurd (omega (arith, f))
    by_outcome env t (fails f) tr h e = inr (f, (tr, h))

    one_or_fails : (s : Scope) (t : m.Tree) (env : Env) → StandsInModule p (expression s asks.one_value t) → Fits U p.name s env → GivesOne env t ⊎ Fails env t
    one_or_fails s t env there fit = let r = ends s asks.one_value t env there fit in by_outcome env t r.outcome r.trace r.happens r.meets

    abbrev AllGiven : Env → m.Trees → Type 0
    AllGiven env ts = (vs : Values) × ((tr : Trace) × (AllGive (E p.name) env ts vs tr × (count vs ≡ how_many ts)))

    abbrev OneFailed : Env → m.Trees → Type 0
    OneFailed env ts = (f : Failure) × ((tr : Trace) × OneFails (E p.name) env ts f tr)

    part_then : (env : Env) (t : m.Tree) (ts : m.Trees) → GivesOne env t ⊎ Fails env t → AllGiven env ts ⊎ OneFailed env ts → AllGiven env (m.and_tree t ts) ⊎ OneFailed env (m.and_tree t ts)
    part_then env t ts (inl (v, (tr, h))) (inl (vs, (more, (hs, e)))) = inl (and_value v vs, (tr ++ more, (give_next h hs, omega (arith, e))))
    part_then env t ts (inl (v, (tr, h))) (inr (f, (more, hs))) = inr (f, (tr ++ more, fail_later h hs))
    part_then env t ts (inr (f, (tr, h))) q = inr (f, (tr, fail_here h))

    parts : (s : Scope) (ts : m.Trees) (env : Env) → AllStand p s ts → Fits U p.name s env → AllGiven env ts ⊎ OneFailed env ts
    parts s m.no_tree env there fit = inl (no_value, ([], (give_none, refl)))
    parts s (m.and_tree t ts) env there fit = part_then env t ts (one_or_fails s t env there.0 fit) (parts s ts env there.1 fit)

    -- an outcome with no values
    ends_failing : (env : Env) (k : Ask) (t : m.Tree) (f : Failure) (tr : Trace) → Does env t (fails f) tr → Ends Does env k t
    ends_failing env k t f tr h = record { outcome = fails f; trace = tr; happens = h; meets = tt }

    ends_giving : (env : Env) (k : Ask) (t : m.Tree) (v : Value) (tr : Trace) → asks.suffices k (Exactly 1) ≡ true → Does env t (gives (one_value v)) tr → Ends Does env k t
    ends_giving env k t v tr d h = record { outcome = gives (one_value v); trace = tr; happens = h; meets = one_meets k v d }

    -- the operands all give, or one fails
    after_parts :
        (env : Env) (k : Ask) (t : m.Tree) →
        AllGiven env (operands t) ⊎ OneFailed env (operands t) →
        ((vs : Values) (tr : Trace) → AllGive (E p.name) env (operands t) vs tr → count vs ≡ how_many (operands t) → Ends Does env k t) →
        Ends Does env k t
    after_parts env k t (inl (vs, (tr, (h, e)))) next = next vs tr h e
    after_parts env k t (inr (f, (tr, h))) next = ends_failing env k t f tr (step_part_fails h)

    -- ---- chains

    abbrev Chains : m.Steps → Env → m.Tree → Outcome → Trace → Type 0
    Chains ss env t o tr = Chained (E p.name) env ss t o tr

    let_then :
        (env : Env) (k : Ask) (i : Mark) (xs : List VarName) (u : m.Tree) (ss : m.Steps) (t : m.Tree) (o : Outcome) (tr : Trace) →
        E p.name env u o tr → Meets o (Exactly (length xs)) →
        ((vs : Values) → length xs ≡ count vs → Ends (Chains ss) (with_variables xs vs env) k t) →
        Ends (Chains (m.and_let i xs u ss)) env k t
    let_then env k i xs u ss t (gives vs) tr h e next =
        let r = next vs (sym e) in record { outcome = r.outcome; trace = tr ++ r.trace; happens = let_gives h (sym e) r.happens; meets = r.meets }
    let_then env k i xs u ss t (fails f) tr h e next = record { outcome = fails f; trace = tr; happens = let_fails h; meets = tt }

    do_then :
        (env : Env) (k : Ask) (i : Mark) (u : m.Tree) (ss : m.Steps) (t : m.Tree) (o : Outcome) (tr : Trace) →
        E p.name env u o tr → Ends (Chains ss) env k t →
        Ends (Chains (m.and_do i u ss)) env k t
    do_then env k i u ss t (gives vs) tr h r = record { outcome = r.outcome; trace = tr ++ r.trace; happens = do_gives h r.happens; meets = r.meets }
    do_then env k i u ss t (fails f) tr h r = record { outcome = fails f; trace = tr; happens = do_fails h; meets = tt }

    chained_end : (env : Env) (k : Ask) (t : m.Tree) → Ends (λ e x o r. E p.name e x o r) env k t → Ends (Chains m.no_step) env k t
    chained_end env k t r = record { outcome = r.outcome; trace = r.trace; happens = chain_ends r.happens; meets = r.meets }

    -- the last expression sees what the steps bind
    chained :
        (s last : Scope) (k : Ask) (ss : m.Steps) (t : m.Tree) (env : Env) →
        StandsInModule p (steps s ss) → StandsInModule p (expression last k t) →
        ((to : Env) → Fits U p.name (scopes.with_variables s (steps_bound ss)) to → Fits U p.name last to) →
        Fits U p.name s env →
        Ends (Chains ss) env k t
    chained s last k m.no_step t env there end lead fit =
        chained_end env k t (ends last k t env end (lead env (fits_grown U p.name s env env [] fit (grows_itself U p.name env) (binds_none env))))
    chained s last k (m.and_let i xs u ss) t env there end lead fit =
        let r = ends s (Exactly (length xs)) u env (deeper there let_argument) fit in
        let_then env k i xs u ss t r.outcome r.trace r.happens r.meets (λ vs n.
        chained (scopes.with_variables s (bound_by xs)) last k ss t (with_variables xs vs env) (deeper there after_let) end
        (λ to f. lead to (record { binds = binds_regrouped s.variables (bound_by xs) (steps_bound ss) to f.binds; names = f.names }))
        (fits_grown U p.name s env (with_variables xs vs env) (bound_by xs) fit (grows_all U p.name xs vs env) (binds_all U p.name xs vs env n)))
    chained s last k (m.and_do i u ss) t env there end lead fit =
        let r = ends s AnyNumber u env (deeper there do_argument) fit in
        do_then env k i u ss t r.outcome r.trace r.happens (chained s last k ss t env (deeper there after_do) end lead fit)

    -- ---- clauses

    abbrev Picks : Values → m.Clauses → Env → Outcome → Trace → Type 0
    Picks vs cs env o tr = Choose (E p.name) W raised p.name env vs cs o tr

    record Picked (vs : Values) (cs : m.Clauses) (env : Env) (k : Ask) : Type 0 where
      outcome : Outcome
      trace : Trace
      happens : Picks vs cs env outcome trace
      meets : Meets outcome k

    -- the guard gave `'true'`, or another value
    guard_then :
        (vs : Values) (i : Mark) (ps : m.Patterns) (g t : m.Tree) (cs : m.Clauses) (env to : Env) (k : Ask) (v : Value) (tr : Trace) →
        MatchEach W ps vs env to → E p.name to g (gives (one_value v)) tr → (v ≡ true_value) ⊎ (v ≡ true_value → ⊥) →
        Ends (λ e x o r. E p.name e x o r) to k t → Picked vs cs env k →
        Picked vs (m.and_clause i ps g t cs) env k
    guard_then vs i ps g t cs env to k v tr h x (inl is_true) body rest = record {
      outcome = body.outcome;
      trace = tr ++ (chosen p.name i.label ∷ body.trace);
      happens = choose_this h (subst (λ y. E p.name to g (gives (one_value y)) tr) is_true x) body.happens;
      meets = body.meets;
    }
    guard_then vs i ps g t cs env to k v tr h x (inr other) body rest = record { outcome = rest.outcome; trace = tr ++ rest.trace; happens = choose_refused h x other rest.happens; meets = rest.meets }

    matched_then :
        (vs : Values) (i : Mark) (ps : m.Patterns) (g t : m.Tree) (cs : m.Clauses) (env to : Env) (k : Ask) →
        MatchEach W ps vs env to → GivesOne to g ⊎ Fails to g →
        Ends (λ e x o r. E p.name e x o r) to k t → Picked vs cs env k →
        Picked vs (m.and_clause i ps g t cs) env k
    matched_then vs i ps g t cs env to k h (inl (v, (tr, x))) body rest = guard_then vs i ps g t cs env to k v tr h x (one_or_two once v true_value) body rest
    matched_then vs i ps g t cs env to k h (inr (f, (tr, x))) body rest = record { outcome = fails f; trace = tr; happens = choose_failed h x; meets = tt }

    clause_then :
        (vs : Values) (i : Mark) (ps : m.Patterns) (g t : m.Tree) (cs : m.Clauses) (env : Env) (k : Ask) →
        Reaches once U p.name W env (patterns_bound ps) (λ to. MatchEach W ps vs env to) ⊎ MissEach ps vs →
        ((to : Env) → Grows U p.name env to → BindsAll (patterns_bound ps) to → (GivesOne to g ⊎ Fails to g) × Ends (λ e x o r. E p.name e x o r) to k t) →
        Picked vs cs env k →
        Picked vs (m.and_clause i ps g t cs) env k
    clause_then vs i ps g t cs env k (inl (to, h, grown, b)) inside rest = let r = inside to grown b in matched_then vs i ps g t cs env to k h r.0 r.1 rest
    clause_then vs i ps g t cs env k (inr n) inside rest = record { outcome = rest.outcome; trace = rest.trace; happens = choose_missed n rest.happens; meets = rest.meets }

    picked : (s : Scope) (k : Ask) (n : ℕ) (cs : m.Clauses) (vs : Values) (env : Env) → StandsInModule p (clauses s k n cs) → Fits U p.name s env → Picked vs cs env k
    picked s k n m.no_clause vs env there fit = record { outcome = fails raised; trace = []; happens = choose_none; meets = tt }
    picked s k n (m.and_clause i ps g t cs) vs env there fit =
        clause_then vs i ps g t cs env k (each_or_miss once U p.name W ps vs env) (λ to grown b.
        let inner : Fits U p.name (scopes.with_variables s (patterns_bound ps)) to = fits_grown U p.name s env to (patterns_bound ps) fit grown b in
        (one_or_fails (scopes.with_variables s (patterns_bound ps)) g to (deeper there clause_guard) inner, ends (scopes.with_variables s (patterns_bound ps)) k t to (deeper there clause_body) inner))
        (picked s k n cs vs env (deeper there other_clauses) fit)

    -- ---- forms with rows of their own

    case_then :
        (s : Scope) (k : Ask) (i : Mark) (t : m.Tree) (cs : m.Clauses) (env : Env) (o : Outcome) (tr : Trace) →
        E p.name env t o tr → Meets o (Exactly (asks.width cs)) → ((vs : Values) → Picked vs cs env k) →
        Ends Does env k (m.case i t cs)
    case_then s k i t cs env (gives vs) tr h e next = let r = next vs in record { outcome = r.outcome; trace = tr ++ r.trace; happens = step_case h e r.happens; meets = r.meets }
    case_then s k i t cs env (fails f) tr h e next = ends_failing env k (m.case i t cs) f tr (step_case_fails h)

    try_then :
        (k : Ask) (i : Mark) (t : m.Tree) (xs : List VarName) (u : m.Tree) (ys : List VarName) (x : m.Tree) (env : Env) (o : Outcome) (tr : Trace) →
        E p.name env t o tr → Meets o (Exactly (length xs)) →
        ((vs : Values) → length xs ≡ count vs → Ends (λ e z q r. E p.name e z q r) (with_variables xs vs env) k u) →
        Ends (λ e z q r. E p.name e z q r) (with_variables ys (nils ys) env) k x →
        Ends Does env k (m.try i t xs u ys x)
    try_then k i t xs u ys x env (gives vs) tr h e next handler =
        let r = next vs (sym e) in record { outcome = r.outcome; trace = tr ++ r.trace; happens = step_try h (sym e) r.happens; meets = r.meets }
    try_then k i t xs u ys x env (fails raised) tr h e next handler =
        record { outcome = handler.outcome; trace = tr ++ handler.trace; happens = step_handle (nils ys) h (count_nils ys) (nils_outside W w ys) handler.happens; meets = handler.meets }
    try_then k i t xs u ys x env (fails stopped) tr h e next handler = ends_failing env k (m.try i t xs u ys x) stopped tr (step_try_stops h)

    catch_then : (k : Ask) (i : Mark) (t : m.Tree) (env : Env) → asks.suffices k (Exactly 1) ≡ true → GivesOne env t ⊎ Fails env t → Ends Does env k (m.catch i t)
    catch_then k i t env d (inl (v, (tr, h))) = ends_giving env k (m.catch i t) v tr d (step_catch h)
    catch_then k i t env d (inr (raised, (tr, h))) = ends_giving env k (m.catch i t) nil tr d (step_caught h w)
    catch_then k i t env d (inr (stopped, (tr, h))) = ends_failing env k (m.catch i t) stopped tr (step_catch_stops h)

    receive_then : (k : Ask) (i : Mark) (cs : m.Clauses) (t u : m.Tree) (env : Env) → GivesOne env t ⊎ Fails env t → Ends Does env k (m.receive i cs t u)
    receive_then k i cs t u env (inl (v, (tr, h))) = ends_failing env k (m.receive i cs t u) stopped tr (step_waits h)
    receive_then k i cs t u env (inr (f, (tr, h))) = ends_failing env k (m.receive i cs t u) f tr (step_receive_fails h)

    -- ---- applications

    applied_raises : (k : Ask) (i : Mark) (t : m.Tree) (ts : m.Trees) (env : Env) (vs : Values) (tr : Trace) → local_name t ≡ None → AllGive (E p.name) env (m.and_tree t ts) vs tr → Ends Does env k (m.apply i t ts)
    applied_raises k i t ts env _ _ none (give_next h hs) = record { outcome = fails raised; trace = _; happens = step_apply none (give_next h hs) apply_raises; meets = tt }

    apply_then : (k : Ask) (i : Mark) (t : m.Tree) (ts : m.Trees) (env : Env) → local_name t ≡ None → AllGiven env (m.and_tree t ts) ⊎ OneFailed env (m.and_tree t ts) → Ends Does env k (m.apply i t ts)
    apply_then k i t ts env none (inl (vs, (tr, (h, e)))) = applied_raises k i t ts env vs tr none h
    apply_then k i t ts env none (inr (f, (tr, h))) = ends_failing env k (m.apply i t ts) f tr (step_part_fails (subst (λ o. OneFails (E p.name) env (in_application o t ts) f tr) (sym none) h))

    applied :
        (s : Scope) (k : Ask) (i : Mark) (t : m.Tree) (ts : m.Trees) (env : Env) →
        StandsInModule p (expression s k (m.apply i t ts)) → Fits U p.name s env →
        ((j : Mark) × ((f : FunName) × (t ≡ m.local j f))) ⊎ (local_name t ≡ None) →
        Ends Does env k (m.apply i t ts)
    applied s k i t ts env there fit (inl (j, (f, e))) =
        subst (λ x. Ends Does env k (m.apply i x ts)) (sym e) (
        after_parts env k (m.apply i (m.local j f) ts) (parts s ts env (stand_all p s ts (deeper there apply_arguments)) fit)
        (λ vs tr h n. ends_failing env k (m.apply i (m.local j f) ts) raised tr (step_apply_name_raises h)))
    applied s k i t ts env there fit (inr none) = apply_then k i t ts env none (parts s (m.and_tree t ts) env (deeper there apply_function, stand_all p s ts (deeper there apply_arguments)) fit)

    -- ---- all forms

    pub step : AllEnd Does
    step s k (m.variable i x) env there fit = let r = fit.binds x (text.variables s k i x there) in ends_giving env k (m.variable i x) r.0 [] (text.degrees s k (m.variable i x) there) (step_variable r.1)
    step s k (m.local i f) env there fit = let r = fit.names f (text.functions s k i f there) in ends_giving env k (m.local i f) r.0 (made r.0 ∷ []) (text.degrees s k (m.local i f) there) (step_name r.1)
    step s k (m.external i x f) env there fit = ends_giving env k (m.external i x f) (external x f.name f.arity) [] (text.degrees s k (m.external i x f) there) step_external
    step s k (m.literal i c) env there fit = let r = literal_gives c in ends_giving env k (m.literal i c) r.0 [] (text.degrees s k (m.literal i c) there) (step_literal r.1)
    step s k (m.function i xs t) env there fit =
        ends_giving env k (m.function i xs t) (closure p.name i.label (length xs) env) (made (closure p.name i.label (length xs) env) ∷ []) (text.degrees s k (m.function i xs t) there) (step_function (text.funs s k i xs t there))
    step s k (m.listed i ts t) env there fit =
        after_parts env k (m.listed i ts t) (parts s (with_last ts t) env (stand_last p s ts t (stand_all p s ts (deeper there listed_items)) (deeper there listed_rest)) fit)
        (λ vs tr h n. ends_giving env k (m.listed i ts t) (list_value vs) tr (text.degrees s k (m.listed i ts t) there) (step_list h))
    step s k (m.tuple i ts) env there fit =
        after_parts env k (m.tuple i ts) (parts s ts env (stand_all p s ts (deeper there tuple_items)) fit)
        (λ vs tr h n. ends_giving env k (m.tuple i ts) (tuple vs) tr (text.degrees s k (m.tuple i ts) there) (step_tuple h))
    step s k (m.new_map i ps) env there fit =
        after_parts env k (m.new_map i ps) (parts s (in_pairs ps) env (stand_pairs p s ps (deeper there new_map_pairs)) fit)
        (λ vs tr h n. ends_giving env k (m.new_map i ps) (map no_pair) tr (text.degrees s k (m.new_map i ps) there) (step_new_map h tt refl))
    step s k (m.updated_map i ps t) env there fit =
        after_parts env k (m.updated_map i ps t) (parts s (with_last (in_pairs ps) t) env (stand_last p s (in_pairs ps) t (stand_pairs p s ps (deeper there updated_map_pairs)) (deeper there updated_map_itself)) fit)
        (λ vs tr h n. ends_failing env k (m.updated_map i ps t) raised tr (step_map_raises h))
    step s k (m.binary i ss) env there fit =
        after_parts env k (m.binary i ss) (parts s (in_segments ss) env (stand_segments p s ss (deeper there binary_segments)) fit)
        (λ vs tr h n. ends_giving env k (m.binary i ss) (bits []) tr (text.degrees s k (m.binary i ss) there) (step_binary h))
    step s k (m.values i ts) env there fit =
        after_parts env k (m.values i ts) (parts s ts env (stand_all p s ts (deeper there values_items)) fit)
        (λ vs tr h n. record { outcome = gives vs; trace = tr; happens = step_values h; meets = many_meet k vs (how_many ts) (text.degrees s k (m.values i ts) there) n })
    step s k (m.chain i ss t) env there fit =
        let r = chained s (scopes.with_variables s (steps_bound ss)) k ss t env (deeper there chain_steps) (deeper there chain_end) (λ to f. f) fit in
        record { outcome = r.outcome; trace = r.trace; happens = step_chain r.happens; meets = r.meets }
    step s k (m.case i t cs) env there fit =
        let r = ends s (Exactly (asks.width cs)) t env (deeper there case_argument) fit in
        case_then s k i t cs env r.outcome r.trace r.happens r.meets (λ vs. picked s k (asks.width cs) cs vs env (deeper there case_clauses) fit)
    step s k (m.letrec i ds t) env there fit =
        let r = ends (scopes.with_functions s (defined_names ds)) k t (and_frame (locals_of ds) env) (deeper there letrec_body) (fits_frame U p.name s ds env fit) in
        record { outcome = r.outcome; trace = r.trace; happens = step_letrec (text.letrecs s k i ds t there) r.happens; meets = r.meets }
    step s k (m.apply i t ts) env there fit = applied s k i t ts env there fit (local_or_not t)
    step s k (m.call i t u ts) env there fit =
        after_parts env k (m.call i t u ts) (parts s (m.and_tree t (m.and_tree u ts)) env (deeper there call_module, (deeper there call_name, stand_all p s ts (deeper there call_arguments))) fit)
        (λ vs tr h n. ends_failing env k (m.call i t u ts) raised tr (step_call_raises h))
    step s k (m.primop i x ts) env there fit =
        after_parts env k (m.primop i x ts) (parts s ts env (stand_all p s ts (deeper there primop_arguments)) fit)
        (λ vs tr h n. ends_failing env k (m.primop i x ts) raised tr (step_primop_raises h))
    step s k (m.try i t xs u ys x) env there fit =
        let r = ends s (Exactly (length xs)) t env (deeper there try_argument) fit in
        try_then k i t xs u ys x env r.outcome r.trace r.happens r.meets
        (λ vs n. ends (scopes.with_variables s (bound_by xs)) k u (with_variables xs vs env) (deeper there try_body)
        (fits_grown U p.name s env (with_variables xs vs env) (bound_by xs) fit (grows_all U p.name xs vs env) (binds_all U p.name xs vs env n)))
        (ends (scopes.with_variables s (bound_by ys)) k x (with_variables ys (nils ys) env) (deeper there try_handler)
        (fits_grown U p.name s env (with_variables ys (nils ys) env) (bound_by ys) fit (grows_all U p.name ys (nils ys) env) (binds_all U p.name ys (nils ys) env (count_nils ys))))
    step s k (m.receive i cs t u) env there fit = receive_then k i cs t u env (one_or_fails s t env (deeper there receive_timeout) fit)
    step s k (m.catch i t) env there fit = catch_then k i t env (text.degrees s k (m.catch i t) there) (one_or_fails s t env (deeper there catch_argument) fit)

  -- ---- and with any fuel

  pub all_end : (n : ℕ) → AllEnd (λ env t o tr. EvalWith U W n p.name env t o tr)
  all_end zero s k t env there fit = record { outcome = fails stopped; trace = []; happens = (refl, refl); meets = tt }
  all_end (suc n) s k t env there fit = step (EvalWith U W n) (all_end n) s k t env there fit
