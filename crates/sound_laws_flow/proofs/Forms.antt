-- The invariant, form by form.
use Rattle.std.proofs.Common.{◌≡◌, ℕ, pos, Bool, true, false, cond, List, [], ◌∷◌, ◌++◌, length, replicate, Option, Some, None, refl, sym, ap, ap₂, ◌∙◌, subst}
use Rattle.std.proofs.lemmas.Option.{same_Some}
use Rattle.type_kinds.specs.declared.atom.Atom.{Atom}
use Rattle.type_lattice.specs.Kinds.{of_kind}
use Rattle.type_lattice.specs.Types.{Type4, HasType, HasTypes, any, is_none, meet, tuple}
use Rattle.type_lattice.specs.declared.kinds.Kind.TheVariants.{Bitstring, Map}
use Rattle.type_lattice_model.specs.Values.{Value, int, atom, bits, tuple as tuple_value, map as map_value, closure, Values, no_value, and_value, ValuePairs, no_pair, Env, no_variable, and_frame, count}
use Rattle.core_ast.specs.Model as m
use Rattle.core_ast.specs.Named.{literal_atom, local_name}
use Rattle.core_ast.specs.declared.syntax.Mark.{Mark}
use Rattle.core_ast.specs.declared.syntax.VarName.{VarName}
use Rattle.core_ast.specs.declared.syntax.FunName.{FunName}
use Rattle.core_ast.specs.declared.syntax.Literal.{Literal}
use Rattle.core_ast.specs.declared.syntax.Literal.TheVariants as l
use Rattle.core_scope.specs.declared.ask.Ask.{Ask}
use Rattle.core_scope.specs.declared.ask.Ask.TheVariants.{AnyNumber, Exactly}
use Rattle.core_scope.specs.Asks.{is_raising, width}
use Rattle.core_scope.specs.Functions.{labelled_function}
use Rattle.cons_tree.specs.Environments.{State, type_at}
use Rattle.cons_tree.specs.Named.{naturals}
use Rattle.core_meaning.specs.Programs.{AreAtLabels, IsAtLabel, locals_of, top_function}
use Rattle.core_meaning.specs.Environments.{value_of, local_function, function_of, or_outer, with_variables}
use Rattle.core_meaning.specs.Matching.{LiteralIs}
use Rattle.core_meaning.specs.Meaning.{Failure, raised, stopped, Outcome, gives, fails, Trace, chosen, applied, with_last, in_pairs, in_segments, list_value}
use Rattle.core_meaning.specs.Meaning.{IsMadeOf, AreOutside, back_by, AllGive, give_next, Chained, chain_ends, let_gives, let_fails, do_gives, do_fails}
use Rattle.core_meaning.specs.Meaning.{Choose, choose_none, choose_missed, choose_refused, choose_raised, choose_failed, choose_this, Apply, Called}
use Rattle.cons_gen_rows.specs.Counts.{whatever_asked, call_names}
use Rattle.cons_gen_rows.specs.Words.{function_type, literal_type}
use Rattle.module_flow_calls.specs.declared.functions.ResolvedName.TheVariants.{Inner, Top}
use Rattle.module_flow_calls.specs.TypeLists.{Given, as_many, either, first, list_type, value}
use Rattle.module_flow_state.specs.Applications.{resolved_name, inner_or, applied as name_applied, where_meets}
use Rattle.module_flow_calls.specs.Calls.{called}
use Rattle.module_flow_walk.specs.Clauses.{head_solved, inside}
use Rattle.module_flow_calls.specs.Functions.{label_named}
use Rattle.module_flow_state.specs.Scopes.{WalkScope, outermost, argument_names, type_of, type_of_slot, with_functions, of_variable}
use Rattle.module_flow_state.specs.Scopes as see
use Rattle.module_flow_state.specs.States.{parameters_of}
use Rattle.module_flow_walk.specs.Walk.{then, then_seen, see_given, then_inside, passed, if_named, by_primop, walk, walk_all, walk_pairs, walk_segments, see_steps, walk_clauses, seen_by_clauses, matched_slots, seen_by_messages}
use Rattle.module_flow_state.specs.World.{strict, lenient}
use Rattle.sound_laws.specs.Satisfied.{AreAsked}
use Rattle.sound_laws.proofs.Applications.{both_given}
use Rattle.sound_laws.proofs.Calls.{applied_function, function_arity}
use Rattle.sound_laws.proofs.Parts.{Extends}
use Rattle.sound_laws.proofs.Summaries.{of_module}
use Rattle.sound_laws.proofs.Types.{bits_in, map_in, function_in, literal_in, natural_in}
use Rattle.sound_laws_flow.specs.steps.Fine.{ByName, FineName, FineApplied}
use Rattle.sound_laws_flow.specs.steps.Seen.{IsSeen}
use Rattle.sound_laws_flow.proofs.Calls.{called_gives}
use Rattle.sound_laws_flow.proofs.Coverage.{made_covered, list_covered, bound_covered, value_covered, matches_covered, outside_covered, of_frame}
use Rattle.sound_laws_flow.proofs.Entering.{CameOne, called_covered, applied_covered, is_top, outermost_seen}
use Rattle.sound_laws_flow.proofs.Heads.{patterns_ready, head_ready}
use Rattle.sound_laws_flow.proofs.Parts.{all_given, one_given, fine_last, fine_pairs, fine_segments, fine_called, last_walked, pairs_walked, segments_walked}
use Rattle.sound_laws_flow.proofs.Results.{first_has, both_have, meets_is, list_has, Sized, passed_sized, then_sized, meets_sized, clauses_sized, then_is, res_one, res_any, res_passed, res_then, res_left, res_right, HoldTypes}
use Rattle.sound_laws_flow.proofs.Setting.{Setting, V, IsCov, AreCov, IsCovEnv, AllOk, IsKnown, Result, FineAt, FineTrees, FineStepsAt, FineClausesAt, Borne, Invariant, known_front, known_back, both_ok}
use Rattle.sound_laws_flow.proofs.WalkScopes.{any_have, open_have, as_many_have, as_many_open, has_length, NamesAre, IsReady, ready, seen_with, seen_framed}

module _ (Z : Setting) where
  -- ---- short names of lemmas on results

  gives_one : (k : Ask) (t : Type4) (g : Given) (v : Value) → IsCov Z v → HasType v t → g ≡ Some (t ∷ []) → Result Z k g (gives (and_value v no_value))
  gives_one k t g v c h e = res_one Z.types Z.program Z.callee Z.states Z.dead_clause Z.dead_call k t g v c h e

  gives_any : (k : Ask) (g : Given) (v : Value) → IsCov Z v → g ≡ Some (any ∷ []) → Result Z k g (gives (and_value v no_value))
  gives_any k g v c e = res_any Z.types Z.program Z.callee Z.states Z.dead_clause Z.dead_call k g v c e

  gives_passed : (k : Ask) (g : Given) (o : Outcome) → Result Z k g o → Result Z k (passed k g) o
  gives_passed k g o h = res_passed Z.types Z.program Z.callee Z.states Z.dead_clause Z.dead_call k g o h

  gives_then : (k : Ask) (g : Given) (ts : List Type4) (f : List Type4 → Given) (o : Outcome) → g ≡ Some ts → Result Z k (f ts) o → Result Z k (then g f) o
  gives_then k g ts f o e h = res_then Z.types Z.program Z.callee Z.states Z.dead_clause Z.dead_call k g ts f o e h

  gives_left : (k : Ask) (g h : Given) (o : Outcome) → Sized k g → Sized k h → Result Z k g o → Result Z k (either g h) o
  gives_left k g h o p q r = res_left Z.types Z.program Z.callee Z.states Z.dead_clause Z.dead_call k g h o p q r

  gives_right : (k : Ask) (g h : Given) (o : Outcome) → Sized k g → Sized k h → Result Z k h o → Result Z k (either g h) o
  gives_right k g h o p q r = res_right Z.types Z.program Z.callee Z.states Z.dead_clause Z.dead_call k g h o p q r

  -- which arguments of a `case` are variables
  abbrev pub Names : (Atom → Env → m.Tree → Outcome → Trace → Type 0) → Type 0
  Names E = (home : Atom) (env : Env) (t : m.Tree) (vs : Values) (tr : Trace) (n : ℕ) → E home env t (gives vs) tr → count vs ≡ n → NamesAre Z.types env (argument_names t n) vs

  module _ (E : Atom → Env → m.Tree → Outcome → Trace → Type 0) (each : Invariant Z E) (home : Atom) where
    -- ---- forms without parts

    pub variable_inv : {env : Env} (i : Mark) (x : Atom) (v : Value) (sc : WalkScope) (k : Ask) → value_of env x ≡ Some v → IsCovEnv Z home env → IsSeen home sc env
        → Result Z k (walk (V Z home) sc k (m.variable i x)) (gives (and_value v no_value))
    variable_inv {env} i x v sc k e c s =
        let at = s.stands.variables x v e in
        let t = type_at sc.types at.0 in
        gives_one k t (of_variable (type_of sc x)) v (value_covered Z.program Z.callee Z.states Z.dead_clause Z.dead_call home env x v c e) (subst (λ z. HasType z t) at.1.1.1 (s.inside at.0))
        (ap (λ o. of_variable (type_of_slot sc.types o)) at.1.0)

    literal_covered : (l : Literal) (v : Value) → LiteralIs l v → IsCov Z v
    literal_covered (l.Int n) v h = subst (IsCov Z) (sym h) tt
    literal_covered (l.Float s) v h = subst (IsCov Z) (sym h.1) tt
    literal_covered (l.Atom a) v h = subst (IsCov Z) (sym h) tt
    literal_covered l.Nil v h = subst (IsCov Z) (sym h) tt

    pub literal_inv : (i : Mark) (l : Literal) (v : Value) (sc : WalkScope) (k : Ask) → LiteralIs l v → Result Z k (walk (V Z home) sc k (m.literal i l)) (gives (and_value v no_value))
    literal_inv i l v sc k h = gives_one k (literal_type l) (value (literal_type l)) v (literal_covered l v h) (literal_in Z.facts l v h) refl

    pub function_inv : {env : Env} (i : Mark) (xs : List VarName) (t : m.Tree) (sc : WalkScope) (k : Ask) → IsAtLabel Z.program home i None xs t → IsCovEnv Z home env → IsSeen home sc env → FineAt Z home sc k (m.function i xs t)
        → IsCov Z (closure home i.label (length xs) env)
    function_inv {env} i xs t sc k at c s fine = (
      c,
      (
        (sc, (s, λ d q. let same : labelled_function i None xs t ≡ d = same_Some _ _ (sym at ∙ q) in subst (λ z. FineAt Z home (see.with_variables sc z.parameters []) (Exactly 1) z.body) same fine)),
        λ f q. absurd ((of_module Z.program home f home i.label (length xs) env Z.stand q).nameless (labelled_function i None xs t) at refl),
      ),
    )

    -- the name of a function, as a value
    open_borne : (l n : ℕ) (sc : WalkScope) → Borne Z home l sc (replicate n any) → Borne Z home l sc []
    open_borne l n sc h d at = subst (λ ts. FineAt Z home (record { variables = (see.with_variables sc d.parameters []).variables; functions = sc.functions; labels = sc.labels; types = sc.types ++ ts }) (Exactly 1) d.body)
        (as_many_open (length d.parameters) n) (h d at)

    pub name_inv : {env : Env} (f : FunName) (c : Value) (sc : WalkScope) → function_of Z.program home env f ≡ Some c → IsCovEnv Z home env → IsSeen home sc env
        → FineName (V Z home) (Z.dead_clause home) (Z.dead_call home) (resolved_name (V Z home) sc f) f → IsCov Z c
    name_inv {env} f c sc is ce s fine = by (local_function home env f) refl is
      where
        by : (z : Option Value) → local_function home env f ≡ z → or_outer z (top_function Z.program home f) ≡ Some c → IsCov Z c
        by None e q =
            let t = is_top Z E each home f c q in
            let unnamed = s.functions.others f e in
            let means : resolved_name (V Z home) sc f ≡ Top t.label = ap₂ inner_or unnamed t.named in
            let opens = subst (λ z. FineName (V Z home) (Z.dead_clause home) (Z.dead_call home) z f) means fine in
            let closed : top_function Z.program home f ≡ Some (closure home t.label t.arity no_variable) = q ∙ ap Some t.is in
            let b = (Z.settled home).bodies f t.label t.arity (replicate f.arity any) closed opens in
            let arity : t.arity ≡ f.arity = function_arity Z.program home no_variable f (closure home t.label t.arity no_variable) closed in
            subst (IsCov Z) (sym t.is)
            (tt, ((outermost, (outermost_seen Z.types home, open_borne t.label f.arity outermost b.0)), λ g r. subst (λ n. parameters_of (Z.states home) t.label ≡ Some (replicate n any)) (sym arity) opens))
        by (Some w) e q =
            let frame = of_frame Z.program Z.callee Z.states Z.dead_clause Z.dead_call Z.types home env f c ce (e ∙ q) in
            let named = s.functions.inner f frame.label frame.arity frame.around (e ∙ q ∙ ap Some frame.is) in
            let means : resolved_name (V Z home) sc f ≡ Inner frame.label = ap (λ z. inner_or z (label_named (V Z home).names (V Z home).labels f)) named in
            let opens = subst (λ z. FineName (V Z home) (Z.dead_clause home) (Z.dead_call home) z f) means fine in
            let b = frame.fine (replicate f.arity any) opens in
            subst (IsCov Z) (sym frame.is)
            (frame.covered, ((frame.walk_scope, (frame.seen, open_borne frame.label f.arity frame.walk_scope b.0)), λ g r. absurd (frame.framed (of_module Z.program home g home frame.label frame.arity frame.around Z.stand r).nothing)))

    -- ---- forms that give one value of their parts

    pub list_inv : {env : Env} {vs : Values} {tr : Trace} (i : Mark) (ts : m.Trees) (t : m.Tree) (sc : WalkScope) (k : Ask) → AllGive (E home) env (with_last ts t) vs tr → IsKnown Z tr → IsCovEnv Z home env → IsSeen home sc env
        → FineAt Z home sc k (m.listed i ts t) → AllOk Z tr × Result Z k (walk (V Z home) sc k (m.listed i ts t)) (gives (and_value (list_value vs) no_value))
    list_inv {vs = vs} i ts t sc k xs kn c s fine =
        let g = all_given Z E each home sc xs kn c s (fine_last (V Z home) (Z.dead_clause home) (Z.dead_call home) sc ts t fine.0 fine.1) in
        let w = last_walked (V Z home) sc ts t g.1.1.0 g.1.1.1.0 in
        let u = list_type w.elements (first w.last) in (
          g.0,
          gives_one k u (walk (V Z home) sc k (m.listed i ts t)) (list_value vs) (list_covered Z.program Z.callee Z.states Z.dead_clause Z.dead_call vs g.1.0)
              (list_has Z.types w.elements (first w.last) vs (subst (HasTypes vs) w.are g.1.1.1.1))
              (then_is (walk_all (V Z home) sc ts) w.elements (λ hs. then (walk (V Z home) sc (Exactly 1) t) (λ us. value (list_type hs (first us)))) (Some (u ∷ [])) w.walked
              (then_is (walk (V Z home) sc (Exactly 1) t) w.last (λ us. value (list_type w.elements (first us))) (Some (u ∷ [])) w.walked_last refl)),
        )

    pub tuple_inv : {env : Env} {vs : Values} {tr : Trace} (i : Mark) (ts : m.Trees) (sc : WalkScope) (k : Ask) → AllGive (E home) env ts vs tr → IsKnown Z tr → IsCovEnv Z home env → IsSeen home sc env → FineTrees Z home sc ts
        → AllOk Z tr × Result Z k (walk (V Z home) sc k (m.tuple i ts)) (gives (and_value (tuple_value vs) no_value))
    tuple_inv {vs = vs} i ts sc k xs kn c s fine =
        let g = all_given Z E each home sc xs kn c s fine in
        let us = g.1.1.0 in (
          g.0,
          gives_one k (tuple us) (walk (V Z home) sc k (m.tuple i ts)) (tuple_value vs) g.1.0 (Z.types.tuple_has us vs g.1.1.1.1)
              (then_is (walk_all (V Z home) sc ts) us (λ us. value (tuple us)) (Some (tuple us ∷ [])) g.1.1.1.0 refl),
        )

    pub new_map_inv : {env : Env} {vs : Values} {tr : Trace} (i : Mark) (ps : m.Pairs) (qs : ValuePairs) (sc : WalkScope) (k : Ask) → AllGive (E home) env (in_pairs ps) vs tr → IsMadeOf vs no_pair qs → IsKnown Z tr
        → IsCovEnv Z home env → IsSeen home sc env → FineAt Z home sc k (m.new_map i ps) → AllOk Z tr × Result Z k (walk (V Z home) sc k (m.new_map i ps)) (gives (and_value (map_value qs) no_value))
    new_map_inv {vs = vs} i ps qs sc k xs of kn c s fine =
        let g = all_given Z E each home sc xs kn c s (fine_pairs (V Z home) (Z.dead_clause home) (Z.dead_call home) sc ps fine) in
        let w = pairs_walked (V Z home) sc ps g.1.1.0 g.1.1.1.0 in (
          g.0,
          gives_one k (of_kind Map) (walk (V Z home) sc k (m.new_map i ps)) (map_value qs) (made_covered Z.program Z.callee Z.states Z.dead_clause Z.dead_call vs no_pair qs g.1.0 tt of) (map_in Z.facts qs)
              (then_is (walk_pairs (V Z home) sc ps) [] (λ us. value (of_kind Map)) (Some (of_kind Map ∷ [])) w refl),
        )

    pub updated_map_inv : {env : Env} {vs : Values} {tr more : Trace} (i : Mark) (ps : m.Pairs) (t : m.Tree) (old qs : ValuePairs) (sc : WalkScope) (k : Ask) → AllGive (E home) env (in_pairs ps) vs tr
        → E home env t (gives (and_value (map_value old) no_value)) more → IsMadeOf vs old qs → IsKnown Z (tr ++ more) → IsCovEnv Z home env → IsSeen home sc env → FineAt Z home sc k (m.updated_map i ps t)
        → AllOk Z (tr ++ more) × Result Z k (walk (V Z home) sc k (m.updated_map i ps t)) (gives (and_value (map_value qs) no_value))
    updated_map_inv {vs = vs} {tr = tr} {more = more} i ps t old qs sc k xs x of kn c s fine =
        let g = all_given Z E each home sc xs (known_front Z tr more kn) c s (fine_pairs (V Z home) (Z.dead_clause home) (Z.dead_call home) sc ps fine.0) in
        let h = one_given Z E each home sc x (known_back Z tr more kn) c s fine.1 in
        let us = h.1.1.0 in
        let w = pairs_walked (V Z home) sc ps g.1.1.0 g.1.1.1.0 in (
          both_ok Z tr more g.0 h.0,
          gives_one k (of_kind Map) (walk (V Z home) sc k (m.updated_map i ps t)) (map_value qs) (made_covered Z.program Z.callee Z.states Z.dead_clause Z.dead_call vs old qs g.1.0 h.1.0.0 of) (map_in Z.facts qs)
              (then_is (walk_pairs (V Z home) sc ps) [] (λ us. then (walk (V Z home) sc (Exactly 1) t) (λ old. where_meets (first old) (of_kind Map) (value (of_kind Map)))) (Some (of_kind Map ∷ [])) w
              (then_is (walk (V Z home) sc (Exactly 1) t) us (λ old. where_meets (first old) (of_kind Map) (value (of_kind Map))) (Some (of_kind Map ∷ [])) h.1.1.1.0
              (meets_is Z.types (map_value old) (first us) (of_kind Map) (value (of_kind Map)) (first_has (map_value old) us h.1.1.1.1) (map_in Z.facts old)))),
        )

    pub binary_inv : {env : Env} {vs : Values} {tr : Trace} (i : Mark) (ss : m.Segments) (bs : List Bool) (sc : WalkScope) (k : Ask) → AllGive (E home) env (in_segments ss) vs tr → IsKnown Z tr → IsCovEnv Z home env
        → IsSeen home sc env → FineAt Z home sc k (m.binary i ss) → AllOk Z tr × Result Z k (walk (V Z home) sc k (m.binary i ss)) (gives (and_value (bits bs) no_value))
    binary_inv i ss bs sc k xs kn c s fine =
        let g = all_given Z E each home sc xs kn c s (fine_segments (V Z home) (Z.dead_clause home) (Z.dead_call home) sc ss fine) in
        let w = segments_walked (V Z home) sc ss g.1.1.0 g.1.1.1.0 in (
          g.0,
          gives_one k (of_kind Bitstring) (walk (V Z home) sc k (m.binary i ss)) (bits bs) tt (bits_in Z.facts (bits bs) (bs, refl))
              (then_is (walk_segments (V Z home) sc ss) [] (λ us. value (of_kind Bitstring)) (Some (of_kind Bitstring ∷ [])) w refl),
        )

    pub values_inv : {env : Env} {vs : Values} {tr : Trace} (i : Mark) (ts : m.Trees) (sc : WalkScope) (k : Ask) → AllGive (E home) env ts vs tr → IsKnown Z tr → IsCovEnv Z home env → IsSeen home sc env → FineTrees Z home sc ts
        → AllOk Z tr × Result Z k (walk (V Z home) sc k (m.values i ts)) (gives vs)
    values_inv {vs = vs} i ts sc k xs kn c s fine =
        let g = all_given Z E each home sc xs kn c s fine in
        (g.0, gives_passed k (walk_all (V Z home) sc ts) (gives vs) (held k g.1.0 g.1.1))
      where
        held : (k : Ask) → AreCov Z vs → (us : List Type4) × ((walk_all (V Z home) sc ts ≡ Some us) × HasTypes vs us) → Result Z k (walk_all (V Z home) sc ts) (gives vs)
        held AnyNumber c h = (c, λ z. (h.0, (h.1.0, tt)))
        held (Exactly n) c h = (c, λ z. (h.0, (h.1.0, h.1.1)))

    anys_have : (n : ℕ) (vs : Values) → count vs ≡ n → HasTypes vs (replicate n any)
    anys_have n vs e = open_have Z.types vs n e

    pub primop_inv : {env : Env} {vs : Values} {tr : Trace} (ws : Values) (i : Mark) (x : Atom) (ts : m.Trees) (sc : WalkScope) (k : Ask) → (is_raising x ≡ true → ⊥) → AllGive (E home) env ts vs tr → AreOutside Z.from ws
        → IsKnown Z tr → IsCovEnv Z home env → IsSeen home sc env → FineTrees Z home sc ts → AllOk Z tr × Result Z k (walk (V Z home) sc k (m.primop i x ts)) (gives ws)
    primop_inv {vs = vs} ws i x ts sc k calm xs from kn c s fine =
        let g = all_given Z E each home sc xs kn c s fine in (
          g.0,
          gives_then k (walk_all (V Z home) sc ts) g.1.1.0 (λ us. by_primop k x) (gives ws) g.1.1.1.0 (
            outside_covered Z.program Z.callee Z.states Z.dead_clause Z.dead_call Z.from Z.world home ws from,
            λ z. (replicate (whatever_asked k) any, (by (is_raising x) calm, held k z)),
          ),
        )
      where
        by : (b : Bool) → (b ≡ true → ⊥) → cond b None (Some (replicate (whatever_asked k) any)) ≡ Some (replicate (whatever_asked k) any)
        by true h = absurd (h refl)
        by false h = refl

        held : (k : Ask) → AreAsked k ws → HoldTypes k ws (replicate (whatever_asked k) any)
        held AnyNumber z = tt
        held (Exactly n) z = anys_have n ws z

    -- ---- forms that bind

    pub steps_inv : {env : Env} {ss : m.Steps} {t : m.Tree} {o : Outcome} {tr : Trace} (sc : WalkScope) (k : Ask) → Chained (E home) env ss t o tr → IsKnown Z tr → IsCovEnv Z home env → IsSeen home sc env
        → FineStepsAt Z home sc ss → ((at : WalkScope) → see_steps (V Z home) sc ss ≡ Some at → FineAt Z home at k t)
        → AllOk Z tr × Result Z k (then_seen (see_steps (V Z home) sc ss) (λ at. passed k (walk (V Z home) at k t))) o
    steps_inv sc k (chain_ends {t = t} {o = o} x) kn c s fine last =
        let h = each home _ sc _ _ _ k x kn c s (last sc refl) in
        (h.0, gives_passed k (walk (V Z home) sc k t) o h.1)
    steps_inv {env = env} sc k (let_gives {k = i} {xs = xs} {u = u} {t = t} {ss = ss} {vs = vs} {o = o} {tr = tr} {more = more} x n xs2) kn c s fine last =
        let h = each home _ sc _ _ _ (Exactly (length xs)) x (known_front Z tr more kn) c s fine.0 in
        let j = h.1.1 (sym n) in
        let us = j.0 in
        let there : see_steps (V Z home) sc (m.and_let i xs u ss) ≡ see_steps (V Z home) (see.with_variables sc xs us) ss = ap (λ z. see_given z (λ us. see_steps (V Z home) (see.with_variables sc xs us) ss)) j.1.0 in
        let seen = seen_with Z.types xs vs us s n (subst (λ j. HasTypes vs (as_many j us)) (sym n) (as_many_have vs us j.1.1)) in
        let r = steps_inv (see.with_variables sc xs us) k xs2 (known_back Z tr more kn) (bound_covered Z.program Z.callee Z.states Z.dead_clause Z.dead_call home xs vs env h.1.0 c) seen (fine.1 us j.1.0) (λ at e. last at (there ∙ e)) in
        (both_ok Z tr more h.0 r.0, subst (λ z. Result Z k (then_seen z (λ at. passed k (walk (V Z home) at k t))) o) (sym there) r.1)
    steps_inv sc k (let_fails {xs = xs} x) kn c s fine last = ((each home _ sc _ _ _ (Exactly (length xs)) x kn c s fine.0).0, tt)
    steps_inv sc k (do_gives {k = i} {u = u} {t = t} {ss = ss} {vs = vs} {o = o} {tr = tr} {more = more} x xs2) kn c s fine last =
        let h = each home _ sc _ _ _ AnyNumber x (known_front Z tr more kn) c s fine.0 in
        let j = h.1.1 tt in
        let there : see_steps (V Z home) sc (m.and_do i u ss) ≡ see_steps (V Z home) sc ss = ap (λ z. see_given z (λ us. see_steps (V Z home) sc ss)) j.1.0 in
        let r = steps_inv sc k xs2 (known_back Z tr more kn) c s (fine.1 j.0 j.1.0) (λ at e. last at (there ∙ e)) in
        (both_ok Z tr more h.0 r.0, subst (λ z. Result Z k (then_seen z (λ at. passed k (walk (V Z home) at k t))) o) (sym there) r.1)
    steps_inv sc k (do_fails x) kn c s fine last = ((each home _ sc _ _ _ AnyNumber x kn c s fine.0).0, tt)

    pub letrec_inv : {env : Env} {o : Outcome} {tr : Trace} (i : Mark) (ds : m.Defs) (t : m.Tree) (sc : WalkScope) (k : Ask) → AreAtLabels Z.program home ds → E home (and_frame (locals_of ds) env) t o tr → IsKnown Z tr
        → IsCovEnv Z home env → IsSeen home sc env → FineAt Z home sc k (m.letrec i ds t) → AllOk Z tr × Result Z k (walk (V Z home) sc k (m.letrec i ds t)) o
    letrec_inv {o = o} i ds t sc k at x kn c s fine =
        let h = each home _ (with_functions sc ds) _ _ _ k x kn (c, (ds, (refl, (at, (sc, (s, (fine.0, fine.1.0))))))) (seen_framed Z.types ds fine.0 s) fine.1.1 in
        (h.0, gives_passed k (walk (V Z home) (with_functions sc ds) k t) o h.1)

    pub try_inv : {env : Env} {vs : Values} {o : Outcome} {tr more : Trace} (i : Mark) (t : m.Tree) (xs : List VarName) (u : m.Tree) (ys : List VarName) (w : m.Tree) (sc : WalkScope) (k : Ask) → E home env t (gives vs) tr
        → length xs ≡ count vs → E home (with_variables xs vs env) u o more → IsKnown Z (tr ++ more) → IsCovEnv Z home env → IsSeen home sc env → FineAt Z home sc k (m.try i t xs u ys w)
        → AllOk Z (tr ++ more) × Result Z k (walk (V Z home) sc k (m.try i t xs u ys w)) o
    try_inv {env} {vs} {o} {tr} {more} i t xs u ys w sc k x n y kn c s fine =
        let h = each home _ sc _ _ _ (Exactly (length xs)) x (known_front Z tr more kn) c s fine.0 in
        let j = h.1.1 (sym n) in
        let seen = seen_with Z.types xs vs j.0 s n (subst (λ q. HasTypes vs (as_many q j.0)) (sym n) (as_many_have vs j.0 j.1.1)) in
        let g = each home _ (see.with_variables sc xs j.0) _ _ _ k y (known_back Z tr more kn) (bound_covered Z.program Z.callee Z.states Z.dead_clause Z.dead_call home xs vs env h.1.0 c) seen (fine.1.0 j.0 j.1.0) in (
          both_ok Z tr more h.0 g.0,
          gives_left k (then (walk (V Z home) sc (Exactly (length xs)) t) (λ ts. passed k (walk (V Z home) (see.with_variables sc xs ts) k u))) (passed k (walk (V Z home) (see.with_variables sc ys []) k w)) o
              (then_sized k (walk (V Z home) sc (Exactly (length xs)) t) (λ ts. passed k (walk (V Z home) (see.with_variables sc xs ts) k u)) (λ ts. passed_sized k (walk (V Z home) (see.with_variables sc xs ts) k u)))
              (passed_sized k (walk (V Z home) (see.with_variables sc ys []) k w))
              (gives_then k (walk (V Z home) sc (Exactly (length xs)) t) j.0 (λ ts. passed k (walk (V Z home) (see.with_variables sc xs ts) k u)) o j.1.0 (gives_passed k (walk (V Z home) (see.with_variables sc xs j.0) k u) o g.1)),
        )

    pub handler_inv : {env : Env} {o : Outcome} {tr more : Trace} (vs : Values) (i : Mark) (t : m.Tree) (xs : List VarName) (u : m.Tree) (ys : List VarName) (w : m.Tree) (sc : WalkScope) (k : Ask) → E home env t (fails raised) tr
        → length ys ≡ count vs → AreOutside Z.from vs → E home (with_variables ys vs env) w o more → IsKnown Z (tr ++ more) → IsCovEnv Z home env → IsSeen home sc env → FineAt Z home sc k (m.try i t xs u ys w)
        → AllOk Z (tr ++ more) × Result Z k (walk (V Z home) sc k (m.try i t xs u ys w)) o
    handler_inv {env} {o} {tr} {more} vs i t xs u ys w sc k x n from y kn c s fine =
        let h = each home _ sc _ _ _ (Exactly (length xs)) x (known_front Z tr more kn) c s fine.0 in
        let seen = seen_with Z.types ys vs [] s n (subst (λ q. HasTypes vs (as_many q [])) (sym n) (any_have Z.types vs)) in
        let covered = outside_covered Z.program Z.callee Z.states Z.dead_clause Z.dead_call Z.from Z.world home vs from in
        let g = each home _ (see.with_variables sc ys []) _ _ _ k y (known_back Z tr more kn) (bound_covered Z.program Z.callee Z.states Z.dead_clause Z.dead_call home ys vs env covered c) seen fine.1.1 in (
          both_ok Z tr more h.0 g.0,
          gives_right k (then (walk (V Z home) sc (Exactly (length xs)) t) (λ ts. passed k (walk (V Z home) (see.with_variables sc xs ts) k u))) (passed k (walk (V Z home) (see.with_variables sc ys []) k w)) o
              (then_sized k (walk (V Z home) sc (Exactly (length xs)) t) (λ ts. passed k (walk (V Z home) (see.with_variables sc xs ts) k u)) (λ ts. passed_sized k (walk (V Z home) (see.with_variables sc xs ts) k u)))
              (passed_sized k (walk (V Z home) (see.with_variables sc ys []) k w))
              (gives_passed k (walk (V Z home) (see.with_variables sc ys []) k w) o g.1),
        )

    -- ---- clauses

    module _ (extends : Extends (strict (V Z [])) Z.program E) (names : Names E) where
      abbrev Body : WalkScope → Ask → List ℕ → m.Patterns → m.Tree → m.Tree → Given
      Body sc k qs ps g t = then_inside (head_solved (V Z home) sc qs ps g) (λ solved. passed k (walk (V Z home) (inside sc ps solved) k t))

      body_sized : (sc : WalkScope) (k : Ask) (qs : List ℕ) (ps : m.Patterns) (g t : m.Tree) → Sized k (Body sc k qs ps g t)
      body_sized sc k qs ps g t = by (head_solved (V Z home) sc qs ps g)
        where
          by : (r : State) → Sized k (then_inside r (λ solved. passed k (walk (V Z home) (inside sc ps solved) k t)))
          by None = tt
          by (Some ts) = passed_sized k (walk (V Z home) (inside sc ps ts) k t)

      passed_over : (sc : WalkScope) (k : Ask) (qs : List ℕ) (i : Mark) (ps : m.Patterns) (g t : m.Tree) (cs : m.Clauses) (o : Outcome) → Result Z k (walk_clauses (V Z home) sc k qs cs) o
          → Result Z k (walk_clauses (V Z home) sc k qs (m.and_clause i ps g t cs)) o
      passed_over sc k qs i ps g t cs o h = gives_right k (Body sc k qs ps g t) (walk_clauses (V Z home) sc k qs cs) o (body_sized sc k qs ps g t) (clauses_sized (V Z home) sc k qs cs) h

      pub clauses_inv : {none : Failure} {env : Env} {vs : Values} {cs : m.Clauses} {o : Outcome} {tr : Trace} (sc : WalkScope) (k : Ask) (qs : List ℕ) → Choose (E home) Z.from none home env vs cs o tr → IsKnown Z tr
          → IsCovEnv Z home env → AreCov Z vs → IsReady Z.types home sc env vs qs → FineClausesAt Z home sc k qs cs → AllOk Z tr × Result Z k (walk_clauses (V Z home) sc k qs cs) o
      clauses_inv sc k qs choose_none kn c cv r fine = (tt, tt)
      clauses_inv sc k qs (choose_missed {k = i} {ps = ps} {g = g} {t = t} {cs = cs} {o = o} miss x) kn c cv r fine =
          let h = clauses_inv sc k qs x kn c cv r fine.1.1 in (h.0, passed_over sc k qs i ps g t cs o h.1)
      clauses_inv sc k qs (choose_refused {k = i} {ps = ps} {g = g} {t = t} {cs = cs} {o = o} {tr = tr} {more = more} mt x other y) kn c cv r fine =
          let p = patterns_ready Z.facts Z.types Z.solutions Z.from home g r mt in
          let covered = matches_covered Z.program Z.callee Z.states Z.dead_clause Z.dead_call Z.from Z.world home mt cv c in
          let guard = each home _ (inside sc ps p.types) _ _ _ (Exactly 1) x (known_front Z tr more kn) covered p.seen (fine.0 p.types p.is) in
          let h = clauses_inv sc k qs y (known_back Z tr more kn) c cv r fine.1.1 in
          (both_ok Z tr more guard.0 h.0, passed_over sc k qs i ps g t cs o h.1)
      clauses_inv sc k qs (choose_raised {k = i} {ps = ps} {g = g} {t = t} {cs = cs} {o = o} {tr = tr} {more = more} mt x y) kn c cv r fine =
          let p = patterns_ready Z.facts Z.types Z.solutions Z.from home g r mt in
          let covered = matches_covered Z.program Z.callee Z.states Z.dead_clause Z.dead_call Z.from Z.world home mt cv c in
          let guard = each home _ (inside sc ps p.types) _ _ _ (Exactly 1) x (known_front Z tr more kn) covered p.seen (fine.0 p.types p.is) in
          let h = clauses_inv sc k qs y (known_back Z tr more kn) c cv r fine.1.1 in
          (both_ok Z tr more guard.0 h.0, passed_over sc k qs i ps g t cs o h.1)
      clauses_inv sc k qs (choose_failed {ps = ps} {g = g} mt x) kn c cv r fine =
          let p = patterns_ready Z.facts Z.types Z.solutions Z.from home g r mt in
          let covered = matches_covered Z.program Z.callee Z.states Z.dead_clause Z.dead_call Z.from Z.world home mt cv c in
          ((each home _ (inside sc ps p.types) _ _ _ (Exactly 1) x kn covered p.seen (fine.0 p.types p.is)).0, tt)
      clauses_inv sc k qs (choose_this {k = i} {ps = ps} {g = g} {t = t} {cs = cs} {o = o} {tr = tr} {more = more} mt x y) kn c cv r fine =
          let p = patterns_ready Z.facts Z.types Z.solutions Z.from home g r mt in
          let covered = matches_covered Z.program Z.callee Z.states Z.dead_clause Z.dead_call Z.from Z.world home mt cv c in
          let kx = known_front Z tr (chosen home i.label ∷ more) kn in
          let kb = known_back Z tr (chosen home i.label ∷ more) kn in
          let ky : IsKnown Z more = (kb.0.1, kb.1.1) in
          let guard = each home _ (inside sc ps p.types) _ _ _ (Exactly 1) x kx covered p.seen (fine.0 p.types p.is) in
          let z = head_ready Z.facts Z.types Z.solutions Z.from home Z.program (V Z home) E refl extends r mt x kx.0 in
          let body = each home _ (inside sc ps z.types) _ _ _ k y ky covered z.seen (fine.1.0 z.types z.is).1 in (
            both_ok Z tr (chosen home i.label ∷ more) guard.0 ((fine.1.0 z.types z.is).0, body.0),
            gives_left k (Body sc k qs ps g t) (walk_clauses (V Z home) sc k qs cs) o (body_sized sc k qs ps g t) (clauses_sized (V Z home) sc k qs cs)
                (subst (λ q. Result Z k (then_inside q (λ solved. passed k (walk (V Z home) (inside sc ps solved) k t))) o) (sym z.is) (gives_passed k (walk (V Z home) (inside sc ps z.types) k t) o body.1)),
          )

      pub case_inv : {env : Env} {vs : Values} {o : Outcome} {tr more : Trace} (i : Mark) (t : m.Tree) (cs : m.Clauses) (sc : WalkScope) (k : Ask) → E home env t (gives vs) tr → count vs ≡ width cs
          → Choose (E home) Z.from raised home env vs cs o more → IsKnown Z (tr ++ more) → IsCovEnv Z home env → IsSeen home sc env → FineAt Z home sc k (m.case i t cs)
          → AllOk Z (tr ++ more) × Result Z k (walk (V Z home) sc k (m.case i t cs)) o
      case_inv {env} {vs} {o} {tr} {more} i t cs sc k x n ch kn c s fine =
          let h = each home _ sc _ _ _ (Exactly (width cs)) x (known_front Z tr more kn) c s fine.0 in
          let j = h.1.1 n in
          let ts = as_many (width cs) j.0 in
          let have : HasTypes vs ts = subst (λ q. HasTypes vs (as_many q j.0)) n (as_many_have vs j.0 j.1.1) in
          let r = ready Z.types ts (argument_names t (width cs)) s have (names home env t vs tr (width cs) x n) in
          let g = clauses_inv (seen_by_clauses sc cs j.0) k (matched_slots sc t cs) ch (known_back Z tr more kn) c h.1.0 r (fine.1 j.0 j.1.0) in
          (both_ok Z tr more h.0 g.0, gives_then k (walk (V Z home) sc (Exactly (width cs)) t) j.0 (λ ts. walk_clauses (V Z home) (seen_by_clauses sc cs ts) k (matched_slots sc t cs) cs) o j.1.0 g.1)

      abbrev Action : WalkScope → Ask → m.Tree → List Type4 → Given
      Action sc k u limit = where_meets (first limit) naturals (passed k (walk (V Z home) sc k u))

      pub receive_inv : {env : Env} {limit v : Value} {o : Outcome} {tr more : Trace} (i : Mark) (cs : m.Clauses) (t u : m.Tree) (sc : WalkScope) (k : Ask) → E home env t (gives (and_value limit no_value)) tr → Z.from v
          → Choose (E home) Z.from stopped home env (and_value v no_value) cs o more → IsKnown Z (tr ++ more) → IsCovEnv Z home env → IsSeen home sc env → FineAt Z home sc k (m.receive i cs t u)
          → AllOk Z (tr ++ more) × Result Z k (walk (V Z home) sc k (m.receive i cs t u)) o
      receive_inv {env} {limit} {v} {o} {tr} {more} i cs t u sc k x from ch kn c s fine =
          let h = one_given Z E each home sc x (known_front Z tr more kn) c s fine.0 in
          let us = h.1.1.0 in
          let r = ready Z.types {vs = and_value v no_value} (any ∷ []) (None ∷ []) s (Z.types.every v, tt) (tt, tt) in
          let g = clauses_inv (seen_by_messages sc) k (length sc.types ∷ []) ch (known_back Z tr more kn) c (Z.world v from, tt) r (fine.1 us h.1.1.1.0).0 in (
            both_ok Z tr more h.0 g.0,
            gives_then k (walk (V Z home) sc (Exactly 1) t) us (λ limit. either (walk_clauses (V Z home) (seen_by_messages sc) k (length sc.types ∷ []) cs) (where_meets (first limit) naturals (passed k (walk (V Z home) sc k u)))) o
                h.1.1.1.0
                (gives_left k (walk_clauses (V Z home) (seen_by_messages sc) k (length sc.types ∷ []) cs) (Action sc k u us) o (clauses_sized (V Z home) (seen_by_messages sc) k (length sc.types ∷ []) cs)
                (meets_sized k (first us) naturals (passed k (walk (V Z home) sc k u)) (passed_sized k (walk (V Z home) sc k u))) g.1),
          )

      pub timeout_inv : {env : Env} {n : ℕ} {o : Outcome} {tr more : Trace} (i : Mark) (cs : m.Clauses) (t u : m.Tree) (sc : WalkScope) (k : Ask) → E home env t (gives (and_value (int (pos n)) no_value)) tr → E home env u o more
          → IsKnown Z (tr ++ more) → IsCovEnv Z home env → IsSeen home sc env → FineAt Z home sc k (m.receive i cs t u) → AllOk Z (tr ++ more) × Result Z k (walk (V Z home) sc k (m.receive i cs t u)) o
      timeout_inv {env} {n} {o} {tr} {more} i cs t u sc k x y kn c s fine =
          let h = one_given Z E each home sc x (known_front Z tr more kn) c s fine.0 in
          let us = h.1.1.0 in
          let limit = first_has (int (pos n)) us h.1.1.1.1 in
          let natural = natural_in Z.facts (int (pos n)) (n, refl) in
          let g = each home _ sc _ _ _ k y (known_back Z tr more kn) c s ((fine.1 us h.1.1.1.0).1 (both_have Z.types (int (pos n)) (first us) naturals limit natural)) in
          let follows = gives_passed k (walk (V Z home) sc k u) o g.1 in (
            both_ok Z tr more h.0 g.0,
            gives_then k (walk (V Z home) sc (Exactly 1) t) us (λ limit. either (walk_clauses (V Z home) (seen_by_messages sc) k (length sc.types ∷ []) cs) (where_meets (first limit) naturals (passed k (walk (V Z home) sc k u)))) o
                h.1.1.1.0
                (gives_right k (walk_clauses (V Z home) (seen_by_messages sc) k (length sc.types ∷ []) cs) (Action sc k u us) o (clauses_sized (V Z home) (seen_by_messages sc) k (length sc.types ∷ []) cs)
                (meets_sized k (first us) naturals (passed k (walk (V Z home) sc k u)) (passed_sized k (walk (V Z home) sc k u)))
                (subst (λ z. Result Z k z o) (sym (meets_is Z.types (int (pos n)) (first us) naturals (passed k (walk (V Z home) sc k u)) limit natural)) follows)),
          )

    -- ---- applications of values, and calls

    back_any : (k : Ask) (g : Given) (o : Outcome) → g ≡ Some (any ∷ []) → CameOne Z E each o → Result Z k g o
    back_any k g (fails f) e h = tt
    back_any k g (gives vs) e h = subst (λ z. Result Z k g (gives z)) (sym h.1.0) (gives_any k g h.0 h.1.1 e)

    back_ok : (label : ℕ) (o : Outcome) → CameOne Z E each o → ((vs : Values) → o ≡ gives vs → Z.dead_call home label → ⊥) → AllOk Z (back_by home label o)
    back_ok label (fails f) h d = tt
    back_ok label (gives vs) h d = subst (λ z. AllOk Z (back_by home label (gives z))) (sym h.1.0) (d vs refl, tt)

    pub apply_inv : {env : Env} {v : Value} {vs : Values} {o : Outcome} {tr more : Trace} (i : Mark) (t : m.Tree) (ts : m.Trees) (sc : WalkScope) (k : Ask) → local_name t ≡ None
        → AllGive (E home) env (m.and_tree t ts) (and_value v vs) tr → Apply Z.program Z.from E v vs o more → IsKnown Z (tr ++ (applied home i.label v ∷ (more ++ back_by home i.label o))) → IsCovEnv Z home env
        → IsSeen home sc env → FineAt Z home sc k (m.apply i t ts) → AllOk Z (tr ++ (applied home i.label v ∷ (more ++ back_by home i.label o))) × Result Z k (walk (V Z home) sc k (m.apply i t ts)) o
    apply_inv {env} {v} {vs} {o} {tr} {more} i t ts sc k unnamed (give_next {tr = tr1} {more = tr2} y ys) x kn c s fine =
        let back = back_by home i.label o in
        let f = subst (λ z. ByName z (λ f. FineTrees Z home sc ts × ((us : List Type4) → walk_all (V Z home) sc ts ≡ Some us → f.arity ≡ length us
        → FineApplied (V Z home) (Z.dead_clause home) (Z.dead_call home) (resolved_name (V Z home) sc f) f i.label us)) (FineAt Z home sc (Exactly 1) t
        × (FineTrees Z home sc ts × ((os us : List Type4) → walk (V Z home) sc (Exactly 1) t ≡ Some os → walk_all (V Z home) sc ts ≡ Some us → is_none (meet (first os) (function_type (length us))) ≡ false
        → Z.dead_call home i.label → ⊥)))) unnamed fine in
        let front = known_front Z (tr1 ++ tr2) (applied home i.label v ∷ (more ++ back)) kn in
        let kb = known_back Z (tr1 ++ tr2) (applied home i.label v ∷ (more ++ back)) kn in
        let rest : IsKnown Z (more ++ back) = (kb.0.1, kb.1.1) in
        let g = one_given Z E each home sc y (known_front Z tr1 tr2 front) c s f.0 in
        let h = all_given Z E each home sc ys (known_back Z tr1 tr2 front) c s f.1.0 in
        let os = g.1.1.0 in
        let us = h.1.1.0 in
        let r = applied_covered Z E each x (known_front Z more back rest) g.1.0.0 h.1.0 in
        let operator = first_has v os g.1.1.1.1 in
        let is_function : (ws : Values) → o ≡ gives ws → HasType v (function_type (length us)) =
        λ ws e. subst (λ n. HasType v (function_type n)) (has_length vs us h.1.1.1.1)
        (function_in Z.facts (count vs) v (applied_function Z.facts (strict (V Z [])) Z.program Z.from Z.honest_strict E (subst (λ z. Apply Z.program Z.from E v vs z more) e x))) in
        let alive : (ws : Values) → o ≡ gives ws → Z.dead_call home i.label → ⊥ = λ ws e. f.1.1 os us g.1.1.1.0 h.1.1.1.0 (both_have Z.types v (first os) (function_type (length us)) operator (is_function ws e)) in (
          both_ok Z (tr1 ++ tr2) (applied home i.label v ∷ (more ++ back)) (both_ok Z tr1 tr2 g.0 h.0) (tt, both_ok Z more back r.0 (back_ok i.label o r.1 alive)),
          subst (λ z. Result Z k (if_named z (λ f. then (walk_all (V Z home) sc ts) (λ us. name_applied (V Z home) sc f us))
              (then (walk (V Z home) sc (Exactly 1) t) (λ operator. then (walk_all (V Z home) sc ts) (λ us. where_meets (first operator) (function_type (length us)) (value any))))) o) (sym unnamed)
              (gives_then k (walk (V Z home) sc (Exactly 1) t) os (λ operator. then (walk_all (V Z home) sc ts) (λ us. where_meets (first operator) (function_type (length us)) (value any))) o g.1.1.1.0
              (gives_then k (walk_all (V Z home) sc ts) us (λ us. where_meets (first os) (function_type (length us)) (value any)) o h.1.1.1.0
              (by o r.1 (λ ws e. meets_is Z.types v (first os) (function_type (length us)) (value any) operator (is_function ws e))))),
        )
      where
        by : {g : Given} (o : Outcome) → CameOne Z E each o → ((ws : Values) → o ≡ gives ws → g ≡ Some (any ∷ [])) → Result Z k g o
        by (fails f) came e = tt
        by {g} (gives ws) came e = back_any k g (gives ws) (e ws refl) came

    named_call : {x name : Atom} {vs : Values} {o : Outcome} {more : Trace} (label : ℕ) (t u : m.Tree) (ts : m.Trees) (sc : WalkScope) (k : Ask) (us : List Type4) → walk_all (V Z home) sc ts ≡ Some us → HasTypes vs us
        → Called Z.program Z.from E x name vs o more → IsKnown Z more → CameOne Z E each o → ((ws : List Type4) → called (lenient (V Z home)) x name us ≡ Some ws → Z.dead_call home label → ⊥)
        → ((ws : Values) → o ≡ gives ws → Z.dead_call home label → ⊥) × Result Z k (then (walk_all (V Z home) sc ts) (λ us. called (strict (V Z home)) x name us)) o
    named_call {o = fails f} label t u ts sc k us e h x kn came alive = (λ ws q. absurd (no_gives q), tt)
      where
        no_gives : {f : Failure} {ws : Values} → fails f ≡ gives ws → ⊥
        no_gives q = cc
    named_call {x = y} {name = name} {vs = vs} {o = gives ws} {more = more} label t u ts sc k us e h x kn came alive =
        let z = subst (λ q. Called Z.program Z.from E y name vs (gives q) more) came.1.0 x in
        let given = called_gives Z.facts Z.types Z.solutions Z.program Z.from E (strict (V Z [])) us Z.honest_strict (λ h f. refl) z kn.0 h in
        let may = called_gives Z.facts Z.types Z.solutions Z.program Z.from E (lenient (V Z [])) us Z.honest_lenient (λ h f. refl) z kn.1 h in (
          λ ws q. alive (may.0 ∷ []) may.1.0,
          subst (λ q. Result Z k (then (walk_all (V Z home) sc ts) (λ us. called (strict (V Z home)) y name us)) (gives q)) (sym came.1.0)
              (gives_one k given.0 (then (walk_all (V Z home) sc ts) (λ us. called (strict (V Z home)) y name us)) came.0 came.1.1 given.1.1
              (then_is (walk_all (V Z home) sc ts) us (λ us. called (strict (V Z home)) y name us) (Some (given.0 ∷ [])) e given.1.0)),
        )

    -- the values of the literal names of a call
    abbrev pub Literals : (Atom → Env → m.Tree → Outcome → Trace → Type 0) → Type 0
    Literals E = (home : Atom) (env : Env) (t : m.Tree) (x y : Atom) (tr : Trace) → literal_atom t ≡ Some x → E home env t (gives (and_value (atom y) no_value)) tr → y ≡ x

    pub call_inv : {env : Env} {x name : Atom} {vs : Values} {o : Outcome} {tr more : Trace} (literals : Literals E) (i : Mark) (t u : m.Tree) (ts : m.Trees) (sc : WalkScope) (k : Ask)
        → AllGive (E home) env (m.and_tree t (m.and_tree u ts)) (and_value (atom x) (and_value (atom name) vs)) tr → Called Z.program Z.from E x name vs o more → IsKnown Z (tr ++ (more ++ back_by home i.label o))
        → IsCovEnv Z home env → IsSeen home sc env → FineAt Z home sc k (m.call i t u ts) → AllOk Z (tr ++ (more ++ back_by home i.label o)) × Result Z k (walk (V Z home) sc k (m.call i t u ts)) o
    call_inv {env} {x} {name} {vs} {o} {tr} {more} literals i t u ts sc k (give_next {tr = tr1} {more = rest} y1 (give_next {tr = tr2} {more = tr3} y2 ys)) ch kn c s fine =
        let back = back_by home i.label o in
        let front = known_front Z (tr1 ++ (tr2 ++ tr3)) (more ++ back) kn in
        let behind = known_back Z (tr1 ++ (tr2 ++ tr3)) (more ++ back) kn in
        let parts = known_back Z tr1 (tr2 ++ tr3) front in
        let all = fine_called (V Z home) (Z.dead_clause home) (Z.dead_call home) sc t u ts _ _ fine in
        let g1 = one_given Z E each home sc y1 (known_front Z tr1 (tr2 ++ tr3) front) c s all.0 in
        let g2 = one_given Z E each home sc y2 (known_front Z tr2 tr3 parts) c s all.1.0 in
        let g3 = all_given Z E each home sc ys (known_back Z tr2 tr3 parts) c s all.1.1 in
        let km = known_front Z more back behind in
        let r = called_covered Z E each ch km g3.1.0 in
        let d = by (call_names t u) refl fine g1.1.1.1.0 g2.1.1.1.0 g3.1.1.1.0 g3.1.1.1.1 km r.1 in
        (both_ok Z (tr1 ++ (tr2 ++ tr3)) (more ++ back) (both_ok Z tr1 (tr2 ++ tr3) g1.0 (both_ok Z tr2 tr3 g2.0 g3.0)) (both_ok Z more back r.0 (back_ok i.label o r.1 d.0)), d.1)
      where
        by : {us1 us2 us : List Type4} (z : Option (Atom × Atom)) → call_names t u ≡ z
            → ByName z (λ names. FineTrees Z home sc ts × ((us ws : List Type4) → walk_all (V Z home) sc ts ≡ Some us → called (lenient (V Z home)) names.0 names.1 us ≡ Some ws → Z.dead_call home i.label → ⊥))
            (FineAt Z home sc (Exactly 1) t × (FineAt Z home sc (Exactly 1) u × (FineTrees Z home sc ts × (Z.dead_call home i.label → ⊥)))) → walk (V Z home) sc (Exactly 1) t ≡ Some us1
            → walk (V Z home) sc (Exactly 1) u ≡ Some us2 → walk_all (V Z home) sc ts ≡ Some us → HasTypes vs us → IsKnown Z more → CameOne Z E each o
            → ((ws : Values) → o ≡ gives ws → Z.dead_call home i.label → ⊥) × Result Z k
            (if_named z (λ names. then (walk_all (V Z home) sc ts) (λ us. called (strict (V Z home)) names.0 names.1 us))
            (then (walk (V Z home) sc (Exactly 1) t) (λ h. then (walk (V Z home) sc (Exactly 1) u) (λ n. then (walk_all (V Z home) sc ts) (λ us. value any))))) o
        by {us1} {us2} {us} None e f w1 w2 w3 h km came = (
          λ ws q. f.1.1.1,
          back_any k (then (walk (V Z home) sc (Exactly 1) t) (λ h. then (walk (V Z home) sc (Exactly 1) u) (λ n. then (walk_all (V Z home) sc ts) (λ us. value any)))) o
              (then_is (walk (V Z home) sc (Exactly 1) t) us1 (λ h. then (walk (V Z home) sc (Exactly 1) u) (λ n. then (walk_all (V Z home) sc ts) (λ us. value any))) (Some (any ∷ [])) w1
              (then_is (walk (V Z home) sc (Exactly 1) u) us2 (λ n. then (walk_all (V Z home) sc ts) (λ us. value any)) (Some (any ∷ [])) w2
              (then_is (walk_all (V Z home) sc ts) us (λ us. value any) (Some (any ∷ [])) w3 refl)))
              came,
        )
        by {us1} {us2} {us} (Some names) e f w1 w2 w3 h km came =
            let lit = both_given (literal_atom t) (literal_atom u) names e in
            let home_is : x ≡ names.0 = literals home env t names.0 x tr1 lit.0 y1 in
            let name_is : name ≡ names.1 = literals home env u names.1 name tr2 lit.1 y2 in
            named_call i.label t u ts sc k us w3 h (subst (λ z. Called Z.program Z.from E names.0 z vs o more) name_is (subst (λ z. Called Z.program Z.from E z name vs o more) home_is ch)) km came (λ ws q. f.1 us ws w3 q)
