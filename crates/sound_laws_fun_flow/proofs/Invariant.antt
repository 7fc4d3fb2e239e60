-- The invariant holds with any fuel.
use Rattle.std.proofs.Common.{◌≡◌, ℕ, zero, suc, List, [], ◌∷◌, ◌++◌, length, Option, Some, None, inr, refl, sym, ap, ◌∙◌, subst}
use Rattle.std.proofs.lemmas.Option.{same_Some}
use Rattle.type_kinds.specs.declared.atom.Atom.{Atom}
use Rattle.core_ast.specs.Lengths.{how_many}
use Rattle.core_ast.specs.Model as m
use Rattle.core_ast.specs.Named.{literal_atom, local_name}
use Rattle.core_ast.specs.declared.syntax.FunName.{FunName}
use Rattle.core_ast.specs.declared.syntax.Literal.TheVariants as l
use Rattle.core_ast.specs.declared.syntax.Literal.{Literal}
use Rattle.core_ast.specs.declared.syntax.Mark.{Mark}
use Rattle.core_ast.specs.declared.syntax.VarName.{VarName}
use Rattle.core_scope.specs.Asks.{one_value, width}
use Rattle.core_scope.specs.Functions.{labelled_function}
use Rattle.core_scope.specs.declared.ask.Ask.{Ask}
use Rattle.core_scope.specs.declared.ask.Ask.TheVariants.{Exactly}
use Rattle.type_lattice_model.specs.Values.{Value, atom, tuple, map, closure, external, Values, and_value, ValuePairs, no_pair, Env, and_frame, count}
use Rattle.bif_types.specs.Results as bif
use Rattle.core_meaning.specs.Environments as run
use Rattle.core_meaning.specs.Environments.{function_of}
use Rattle.core_meaning.specs.Matching.{LiteralIs}
use Rattle.core_meaning.specs.Meaning.{Outcome, gives, fails, raised, stopped, made, applied, Trace, back_by, with_last, in_pairs, list_value, IsMadeOf, AllGive, give_next, Enter, Called, Apply, AreOutside}
use Rattle.core_meaning.specs.Meaning.{Step, step_variable, step_literal, step_function, step_name, step_external, step_part_fails, step_list, step_tuple, step_values}
use Rattle.core_meaning.specs.Meaning.{step_new_map, step_new_map_raises, step_map, step_map_raises, step_binary, step_binary_raises, step_chain, step_case, step_case_fails}
use Rattle.core_meaning.specs.Meaning.{step_letrec, step_apply_name, step_apply_name_raises, step_apply, step_call, step_call_raises, step_primop, step_primop_raises, step_try}
use Rattle.core_meaning.specs.Meaning.{step_handle, step_try_stops, step_catch, step_caught, step_catch_stops, step_receive, step_timeout, step_waits, step_receive_fails}
use Rattle.core_meaning.specs.Programs.{function_at, locals_of, AreAtLabels}
use Rattle.core_meaning.specs.Runs.{EvalWith}
use Rattle.core_meaning_values.proofs.Coverage.{value_covered, list_covered, made_covered, bound_covered, outside_covered}
use Rattle.core_meaning_values.proofs.Held.{list_held}
use Rattle.core_meaning_values.specs.Functions.{HoldsFunction}
use Rattle.fun_flow_sets.specs.Items.{Place, nowhere, part, Rule, flows, item_of}
use Rattle.fun_flow_sets.specs.Rules.{places, places_of_all, places_of_pairs, after_steps, all_into, application_place, application_rules, call_place, call_rules}
use Rattle.fun_flow_sets.specs.Rules.{name_rules, opens, passed_to, rules, rules_of_all, rules_of_pairs, rules_of_clauses, rules_of_steps, rules_of_definitions}
use Rattle.fun_flow_sets.specs.Scopes.{Scope, first, in_frame, with_places}
use Rattle.fun_flow_sets.specs.Sets.{may_hold}
use Rattle.sound_laws.proofs.Traces.{both_traces}
use Rattle.sound_laws_fun_flow.specs.steps.Inside.{MayHave, AreRules, Fits, fits_frame, LieInEach, StandsAt, body_rules, OfClosure, OfFrame}
use Rattle.sound_laws_fun_flow.specs.steps.Setting.{Setting, IsAllowed, AllOk, In, Cov, Covs, CovEnv, Result, Came, Invariant}
use Rattle.sound_laws_fun_flow.proofs.Entering.{came_result}
use Rattle.sound_laws_fun_flow.proofs.Finding.{function_found}
use Rattle.sound_laws_fun_flow.proofs.Fitting.{fits_value, fits_bound}
use Rattle.sound_laws_fun_flow.proofs.Forms.{back_ok, passed_on, all_given, given_count, one_failed, chained, clause_chosen, name_applied, operator_applied, Literals, called}
use Rattle.sound_laws_fun_flow.proofs.Lists.{all_left, all_right}
use Rattle.sound_laws_fun_flow.proofs.Lying.{in_world, in_flow, all_in, map_in, each_lies, lie_anywhere}
use Rattle.sound_laws_fun_flow.proofs.Parts.{last_into, pairs_rules, pairs_into, segments_rules, operand_rules}

module _ (Z : Setting) where
  -- a value that holds no function
  abbrev IsPlain : Value → Type 0
  IsPlain v = ((c : Value) → HoldsFunction c v → ⊥) × Cov Z v

  literal_plain : (c : Literal) (v : Value) → LiteralIs c v → IsPlain v
  literal_plain (l.Int n) v e = subst IsPlain (sym e) ((λ c i. i), tt)
  literal_plain (l.Float s) v is = subst IsPlain (sym is.1) ((λ c i. i), tt)
  literal_plain (l.Atom a) v e = subst IsPlain (sym e) ((λ c i. i), tt)
  literal_plain l.Nil v e = subst IsPlain (sym e) ((λ c i. i), tt)

  module _ (E : Atom → Env → m.Tree → Outcome → Trace → Type 0) (each : Invariant Z E) (literals : (home : Atom) → Literals Z E each home) where
    abbrev Are : List Rule → Type 0
    Are rs = AreRules Z.program Z.rule rs

    abbrev FitsAt : Scope → Env → Type 0
    FitsAt sc env = Fits Z.program Z.rule sc env

    abbrev Goal : Atom → Scope → Ask → m.Tree → Outcome → Trace → Type 0
    Goal home sc k t o tr = AllOk Z tr × Result Z (places Z.program home sc k t) o

    both : (tr more : Trace) → AllOk Z tr → AllOk Z more → AllOk Z (tr ++ more)
    both tr more h g = both_traces (IsAllowed Z.program Z.rule) tr more h g

    module _ (home : Atom) where
      abbrev Of : Scope → Ask → m.Tree → List Rule
      Of sc k t = rules Z.program home sc k t

      abbrev OfAll : Scope → m.Trees → List Rule
      OfAll sc ts = rules_of_all Z.program home sc ts

      abbrev At : Scope → Ask → m.Tree → List Place
      At sc k t = places Z.program home sc k t

      abbrev AllAt : Scope → m.Trees → List Place
      AllAt sc ts = places_of_all Z.program home sc ts

      function_inv : (env : Env) (sc : Scope) (k : Ask) (i : Mark) (xs : List VarName) (t : m.Tree) → function_at Z.program home i.label ≡ Some (labelled_function i None xs t) → CovEnv Z home env → FitsAt sc env
          → Are (Of sc k (m.function i xs t)) → Goal home sc k (m.function i xs t) (gives (bif.one_value (closure home i.label (length xs) env))) (made (closure home i.label (length xs) env) ∷ [])
      function_inv env sc k i xs t at c r a =
          let opening = opens home i.label 0 (length xs) in
          let text = body_rules Z.program Z.rule home i.label xs t sc in
          let body : Are text = all_right Z.program Z.rule opening text a.1 in
          let stands : StandsAt Z.program Z.rule home i.label sc = λ f q. subst (λ z. AreRules Z.program Z.rule (body_rules Z.program Z.rule home i.label z.parameters z.body sc)) (same_Some _ _ (sym at ∙ q)) body in
          let cov : Cov Z (closure home i.label (length xs) env) = (c, ((sc, (r, stands)), all_left Z.program Z.rule opening text a.1)) in
          ((cov, tt), ((λ d e. subst (λ z. MayHave Z.program Z.rule (part home i.label 0) (item_of z)) (sym e) (inr (may_hold a.0)), tt), (cov, tt)))

      name_inv : (env : Env) (sc : Scope) (k : Ask) (i : Mark) (f : FunName) (c : Value) → function_of Z.program home env f ≡ Some c → CovEnv Z home env → FitsAt sc env → Are (Of sc k (m.local i f))
          → Goal home sc k (m.local i f) (gives (bif.one_value c)) (made c ∷ [])
      name_inv env sc k i f c is cov r a =
          let t = function_found Z.program Z.rule Z.has home sc env f c r cov is in
          let d = t.0 in
          let mine : Are (name_rules home i.label (Some d)) = subst (λ z. Are (name_rules home i.label z)) t.1.0 a in
          let own : Cov Z (closure home d.label d.arity t.1.1.around) = (t.1.1.covered, ((t.1.1.scope, (t.1.1.fits, t.1.1.stands)), mine.1)) in
          let c_cov : Cov Z c = subst (λ z. Cov Z z) (sym t.1.1.is) own in
          ((c_cov, tt), ((subst (λ z. In Z (part home i.label 0) z) (sym t.1.1.is) (λ z e. subst (λ y. MayHave Z.program Z.rule (part home i.label 0) (item_of y)) (sym e) (inr (may_hold mine.0))), tt), (c_cov, tt)))

      external_inv : (sc : Scope) (k : Ask) (i : Mark) (x : Atom) (f : FunName) → Are (Of sc k (m.external i x f)) → Goal home sc k (m.external i x f) (gives (bif.one_value (external x f.name f.arity))) []
      external_inv sc k i x f a = (tt, ((λ z e. subst (λ y. MayHave Z.program Z.rule (part home i.label 0) (item_of y)) (sym e) (inr (may_hold a.0)), tt), (tt, tt)))

      plain_inv : (p : Place) (v : Value) → IsPlain v → AllOk Z [] × Result Z (p ∷ []) (gives (bif.one_value v))
      plain_inv p v h = (tt, ((λ c i. absurd (h.0 c i), tt), (h.1, tt)))

      list_inv : (env : Env) (sc : Scope) (k : Ask) (i : Mark) (ts : m.Trees) (t : m.Tree) (vs : Values) (tr : Trace) → AllGive (E home) env (with_last ts t) vs tr → CovEnv Z home env → FitsAt sc env
          → Are (Of sc k (m.listed i ts t)) → Goal home sc k (m.listed i ts t) (gives (bif.one_value (list_value vs))) tr
      list_inv env sc k i ts t vs tr xs c r a =
          let own = all_into (AllAt sc ts) (part home i.label 0) in
          let last = flows (first (At sc one_value t)) (part home i.label 0) ∷ (OfAll sc ts ++ Of sc one_value t) in
          let h = all_given Z E each home sc xs c r (operand_rules Z.program Z.rule home sc k (m.listed i ts t) a) in
          let flow = last_into Z.program Z.rule home sc ts t (part home i.label 0) (all_left Z.program Z.rule own last a) (all_right Z.program Z.rule own last a).0 in
          let inside = all_in Z.program Z.rule (AllAt sc (with_last ts t)) (part home i.label 0) vs h.1.0 flow in
          (h.0, ((λ d e. inside d (list_held vs d e), tt), (list_covered (OfClosure Z.program Z.rule) (OfFrame Z.program Z.rule) vs h.1.1, tt)))

      tuple_inv : (env : Env) (sc : Scope) (k : Ask) (i : Mark) (ts : m.Trees) (vs : Values) (tr : Trace) → AllGive (E home) env ts vs tr → CovEnv Z home env → FitsAt sc env → Are (Of sc k (m.tuple i ts))
          → Goal home sc k (m.tuple i ts) (gives (bif.one_value (tuple vs))) tr
      tuple_inv env sc k i ts vs tr xs c r a =
          let own = all_into (AllAt sc ts) (part home i.label 0) in
          let h = all_given Z E each home sc xs c r (all_right Z.program Z.rule own (OfAll sc ts) a) in
          (h.0, ((all_in Z.program Z.rule (AllAt sc ts) (part home i.label 0) vs h.1.0 (all_left Z.program Z.rule own (OfAll sc ts) a), tt), (h.1.1, tt)))

      new_map_inv : (env : Env) (sc : Scope) (k : Ask) (i : Mark) (ps : m.Pairs) (vs : Values) (qs : ValuePairs) (tr : Trace) → AllGive (E home) env (in_pairs ps) vs tr → IsMadeOf vs no_pair qs → CovEnv Z home env → FitsAt sc env
          → Are (Of sc k (m.new_map i ps)) → Goal home sc k (m.new_map i ps) (gives (bif.one_value (map qs))) tr
      new_map_inv env sc k i ps vs qs tr xs of c r a =
          let own = all_into (places_of_pairs Z.program home sc ps) (part home i.label 0) in
          let others = rules_of_pairs Z.program home sc ps in
          let h = all_given Z E each home sc xs c r (pairs_rules Z.program Z.rule home sc ps (all_right Z.program Z.rule own others a)) in
          let flow = pairs_into Z.program Z.rule home sc ps (part home i.label 0) (all_left Z.program Z.rule own others a) in
          let inside = all_in Z.program Z.rule (AllAt sc (in_pairs ps)) (part home i.label 0) vs h.1.0 flow in
          (h.0, ((map_in Z.program Z.rule (part home i.label 0) vs no_pair qs inside (λ d e. absurd e) of, tt), (made_covered (OfClosure Z.program Z.rule) (OfFrame Z.program Z.rule) vs no_pair qs h.1.1 tt of, tt)))

      updated_map_inv : (env : Env) (sc : Scope) (k : Ask) (i : Mark) (ps : m.Pairs) (t : m.Tree) (vs : Values) (old qs : ValuePairs) (tr more : Trace) → AllGive (E home) env (in_pairs ps) vs tr
          → E home env t (gives (bif.one_value (map old))) more → IsMadeOf vs old qs → CovEnv Z home env → FitsAt sc env → Are (Of sc k (m.updated_map i ps t))
          → Goal home sc k (m.updated_map i ps t) (gives (bif.one_value (map qs))) (tr ++ more)
      updated_map_inv env sc k i ps t vs old qs tr more xs x of c r a =
          let q = part home i.label 0 in
          let own = all_into (places_of_pairs Z.program home sc ps) q in
          let others = rules_of_pairs Z.program home sc ps in
          let last = flows (first (At sc one_value t)) q ∷ (others ++ Of sc one_value t) in
          let b = all_right Z.program Z.rule own last a in
          let h = all_given Z E each home sc xs c r (pairs_rules Z.program Z.rule home sc ps (all_left Z.program Z.rule others (Of sc one_value t) b.1)) in
          let g = each home env sc t (gives (bif.one_value (map old))) more one_value x c r (all_right Z.program Z.rule others (Of sc one_value t) b.1) in
          let inside = all_in Z.program Z.rule (AllAt sc (in_pairs ps)) q vs h.1.0 (pairs_into Z.program Z.rule home sc ps q (all_left Z.program Z.rule own last a)) in
          let was = in_flow Z.program Z.rule (first (At sc one_value t)) q (map old) b.0 g.1.0.0 in
          (both tr more h.0 g.0, ((map_in Z.program Z.rule q vs old qs inside was of, tt), (made_covered (OfClosure Z.program Z.rule) (OfFrame Z.program Z.rule) vs old qs h.1.1 g.1.1.0 of, tt)))

      apply_inv : (env : Env) (sc : Scope) (k : Ask) (i : Mark) (t : m.Tree) (ts : m.Trees) (c : Value) (vs : Values) (o : Outcome) (tr more : Trace) → local_name t ≡ None → AllGive (E home) env (m.and_tree t ts) (and_value c vs) tr
          → Apply Z.program Z.from E c vs o more → CovEnv Z home env → FitsAt sc env → Are (Of sc k (m.apply i t ts)) → Goal home sc k (m.apply i t ts) o (tr ++ (applied home i.label c ∷ (more ++ back_by home i.label o)))
      apply_inv env sc k i t ts c vs o tr more n xs x cov r a =
          let b = subst (λ z. Are (application_rules Z.program home sc i.label z (At sc one_value t) (Of sc one_value t) (how_many ts) (AllAt sc ts) ++ OfAll sc ts)) n a in
          let h = operator_applied Z E each home sc i.label xs x cov r b in
          (h.0, subst (λ z. Result Z (application_place Z.program home sc i.label z (how_many ts) ∷ []) o) (sym n) (came_result Z (part home i.label 0) o h.1))

      apply_name_inv : (env : Env) (sc : Scope) (k : Ask) (i j : Mark) (f : FunName) (ts : m.Trees) (c : Value) (vs : Values) (o : Outcome) (tr more : Trace) → f.arity ≡ how_many ts → function_of Z.program home env f ≡ Some c
          → AllGive (E home) env ts vs tr → Enter Z.program Z.from E c vs o more → CovEnv Z home env → FitsAt sc env → Are (Of sc k (m.apply i (m.local j f) ts))
          → Goal home sc k (m.apply i (m.local j f) ts) o (tr ++ (more ++ back_by home i.label o))
      apply_name_inv env sc k i j f ts c vs o tr more n is xs x cov r a =
          let own = application_rules Z.program home sc i.label (Some f) (At sc one_value (m.local j f)) (Of sc one_value (m.local j f)) (how_many ts) (AllAt sc ts) in
          let h = all_given Z E each home sc xs cov r (all_right Z.program Z.rule own (OfAll sc ts) a) in
          let g = name_applied Z E each home f sc env i.label (how_many ts) (AllAt sc ts) (At sc one_value (m.local j f)) (Of sc one_value (m.local j f)) n is x cov r h.1.1 h.1.0 (all_left Z.program Z.rule own (OfAll sc ts) a) in
          (both tr (more ++ back_by home i.label o) h.0 (both more (back_by home i.label o) g.0 (back_ok Z E each home i.label o)), came_result Z (application_place Z.program home sc i.label (Some f) (how_many ts)) o g.1)

      call_inv : (env : Env) (sc : Scope) (k : Ask) (i : Mark) (t u : m.Tree) (ts : m.Trees) (x name : Atom) (vs : Values) (o : Outcome) (tr more : Trace)
          → AllGive (E home) env (m.and_tree t (m.and_tree u ts)) (and_value (atom x) (and_value (atom name) vs)) tr → Called Z.program Z.from E x name vs o more → CovEnv Z home env → FitsAt sc env
          → Are (Of sc k (m.call i t u ts)) → Goal home sc k (m.call i t u ts) o (tr ++ (more ++ back_by home i.label o))
      call_inv env sc k i t u ts x name vs o tr more xs y cov r a =
          let own = call_rules Z.program home i.label (literal_atom t) (literal_atom u) (how_many ts) (AllAt sc ts) in
          let others = Of sc one_value t ++ (Of sc one_value u ++ OfAll sc ts) in
          let h = all_given Z E each home sc xs cov r (all_right Z.program Z.rule own others a) in
          let g = names t u ts xs h.1.0.1.1 (all_left Z.program Z.rule own others a) h.1.1.1.1 in
          (both tr (more ++ back_by home i.label o) h.0 (both more (back_by home i.label o) g.0 (back_ok Z E each home i.label o)), came_result Z (call_place Z.program home i.label (literal_atom t) (literal_atom u) (how_many ts)) o g.1)
        where
          names : {tr : Trace} (t u : m.Tree) (ts : m.Trees) → AllGive (E home) env (m.and_tree t (m.and_tree u ts)) (and_value (atom x) (and_value (atom name) vs)) tr → LieInEach Z.program Z.rule (AllAt sc ts) vs
              → Are (call_rules Z.program home i.label (literal_atom t) (literal_atom u) (how_many ts) (AllAt sc ts)) → Covs Z vs
              → AllOk Z more × Came Z (call_place Z.program home i.label (literal_atom t) (literal_atom u) (how_many ts)) o
          names t u ts (give_next {tr = tr1} gt (give_next {tr = tr2} gu zs)) h b cv = called Z E each home (literals home) i.label (how_many ts) (AllAt sc ts) tr1 tr2 gt gu (sym (given_count Z E each home zs)) y cv h b

      letrec_inv : (env : Env) (sc : Scope) (k : Ask) (i : Mark) (ds : m.Defs) (t : m.Tree) (o : Outcome) (tr : Trace) → AreAtLabels Z.program home ds → E home (and_frame (locals_of ds) env) t o tr → CovEnv Z home env
          → FitsAt sc env → Are (Of sc k (m.letrec i ds t)) → Goal home sc k (m.letrec i ds t) o tr
      letrec_inv env sc k i ds t o tr at x c r a =
          let inner = in_frame (locals_of ds) sc in
          let own = rules_of_definitions Z.program home inner ds in
          each home (and_frame (locals_of ds) env) inner t o tr k x (c, (ds, (refl, (at, (sc, (r, all_left Z.program Z.rule own (Of inner k t) a)))))) (fits_frame r) (all_right Z.program Z.rule own (Of inner k t) a)

      try_inv : (env : Env) (sc : Scope) (k : Ask) (i : Mark) (t : m.Tree) (xs : List VarName) (u : m.Tree) (ys : List VarName) (w : m.Tree) (vs : Values) (o : Outcome) (tr more : Trace) → E home env t (gives vs) tr
          → length xs ≡ count vs → E home (run.with_variables xs vs env) u o more → CovEnv Z home env → FitsAt sc env → Are (Of sc k (m.try i t xs u ys w)) → Goal home sc k (m.try i t xs u ys w) o (tr ++ more)
      try_inv env sc k i t xs u ys w vs o tr more x n y c r a =
          let ps = At sc (Exactly (length xs)) t in
          let inner = with_places xs ps sc in
          let handler = with_places ys [] sc in
          let own = Of sc (Exactly (length xs)) t in
          let passing = passed_to Z.program home i.label k (At inner k u) in
          let handled = passed_to Z.program home i.label k (At handler k w) ++ Of handler k w in
          let b = all_right Z.program Z.rule own ((passing ++ Of inner k u) ++ handled) a in
          let mine = all_left Z.program Z.rule (passing ++ Of inner k u) handled b in
          let h = each home env sc t (gives vs) tr (Exactly (length xs)) x c r (all_left Z.program Z.rule own ((passing ++ Of inner k u) ++ handled) a) in
          let g = each home (run.with_variables xs vs env) inner u o more k y (bound_covered (OfClosure Z.program Z.rule) (OfFrame Z.program Z.rule) home xs vs env h.1.1 c) (fits_bound Z.program Z.rule xs vs ps sc env n h.1.0 r)
          (all_right Z.program Z.rule passing (Of inner k u) mine) in
          (both tr more h.0 g.0, passed_on Z E each home i.label k (At inner k u) o (all_left Z.program Z.rule passing (Of inner k u) mine) g.1)

      handler_inv : (env : Env) (sc : Scope) (k : Ask) (i : Mark) (t : m.Tree) (xs : List VarName) (u : m.Tree) (ys : List VarName) (w : m.Tree) (vs : Values) (o : Outcome) (tr more : Trace) → E home env t (fails raised) tr
          → length ys ≡ count vs → AreOutside Z.from vs → E home (run.with_variables ys vs env) w o more → CovEnv Z home env → FitsAt sc env → Are (Of sc k (m.try i t xs u ys w))
          → Goal home sc k (m.try i t xs u ys w) o (tr ++ more)
      handler_inv env sc k i t xs u ys w vs o tr more x n from y c r a =
          let inner = with_places xs (At sc (Exactly (length xs)) t) sc in
          let handler = with_places ys [] sc in
          let own = Of sc (Exactly (length xs)) t in
          let body = passed_to Z.program home i.label k (At inner k u) ++ Of inner k u in
          let passing = passed_to Z.program home i.label k (At handler k w) in
          let b = all_right Z.program Z.rule own (body ++ (passing ++ Of handler k w)) a in
          let mine = all_right Z.program Z.rule body (passing ++ Of handler k w) b in
          let h = each home env sc t (fails raised) tr (Exactly (length xs)) x c r (all_left Z.program Z.rule own (body ++ (passing ++ Of handler k w)) a) in
          let cov = outside_covered (OfClosure Z.program Z.rule) (OfFrame Z.program Z.rule) Z.from Z.world home vs from in
          let g = each home (run.with_variables ys vs env) handler w o more k y (bound_covered (OfClosure Z.program Z.rule) (OfFrame Z.program Z.rule) home ys vs env cov c)
          (fits_bound Z.program Z.rule ys vs [] sc env n (lie_anywhere Z.program Z.rule vs) r) (all_right Z.program Z.rule passing (Of handler k w) mine) in
          (both tr more h.0 g.0, passed_on Z E each home i.label k (At handler k w) o (all_left Z.program Z.rule passing (Of handler k w) mine) g.1)

      tried : (env : Env) (sc : Scope) (k : Ask) (i : Mark) (t : m.Tree) (xs : List VarName) (u : m.Tree) (ys : List VarName) (w : m.Tree) → Are (Of sc k (m.try i t xs u ys w)) → Are (Of sc (Exactly (length xs)) t)
      tried env sc k i t xs u ys w a =
          let inner = with_places xs (At sc (Exactly (length xs)) t) sc in
          let handler = with_places ys [] sc in
          all_left Z.program Z.rule (Of sc (Exactly (length xs)) t) ((passed_to Z.program home i.label k (At inner k u) ++ Of inner k u) ++ (passed_to Z.program home i.label k (At handler k w) ++ Of handler k w)) a

      -- the rules of a `receive`: of its clauses, its timeout and its action
      record Received (sc : Scope) (k : Ask) (label : ℕ) (cs : m.Clauses) (t u : m.Tree) : Type 0 where
        clauses : Are (rules_of_clauses Z.program home sc k label [] cs)
        timeout : Are (Of sc one_value t)
        passed : Are (passed_to Z.program home label k (At sc k u))
        action : Are (Of sc k u)

      received : (sc : Scope) (k : Ask) (i : Mark) (cs : m.Clauses) (t u : m.Tree) → Are (Of sc k (m.receive i cs t u)) → Received sc k i.label cs t u
      received sc k i cs t u a =
          let choosing = rules_of_clauses Z.program home sc k i.label [] cs in
          let passing = passed_to Z.program home i.label k (At sc k u) in
          let b = all_right Z.program Z.rule choosing (Of sc one_value t ++ (passing ++ Of sc k u)) a in
          let d = all_right Z.program Z.rule (Of sc one_value t) (passing ++ Of sc k u) b in
          record {
            clauses = all_left Z.program Z.rule choosing (Of sc one_value t ++ (passing ++ Of sc k u)) a;
            timeout = all_left Z.program Z.rule (Of sc one_value t) (passing ++ Of sc k u) b;
            passed = all_left Z.program Z.rule passing (Of sc k u) d;
            action = all_right Z.program Z.rule passing (Of sc k u) d;
          }

      pub step_inv : (env : Env) (sc : Scope) (t : m.Tree) (o : Outcome) (tr : Trace) (k : Ask) → Step Z.program Z.from E home env t o tr → CovEnv Z home env → FitsAt sc env → Are (Of sc k t) → Goal home sc k t o tr
      step_inv env sc _ _ _ k (step_variable {x = x} {v = v} e) c r a = (tt, ((fits_value Z.program Z.rule x v r e, tt), (value_covered (OfClosure Z.program Z.rule) (OfFrame Z.program Z.rule) home env x v c e, tt)))
      step_inv env sc _ _ _ k (step_literal {c = d} {v = v} is) c r a = plain_inv nowhere v (literal_plain d v is)
      step_inv env sc _ _ _ k (step_function {k = i} {xs = xs} {t = t} at) c r a = function_inv env sc k i xs t at c r a
      step_inv env sc _ _ _ k (step_name {k = i} {f = f} {c = w} is) c r a = name_inv env sc k i f w is c r a
      step_inv env sc _ _ _ k (step_external {k = i} {x = x} {f = f}) c r a = external_inv sc k i x f a
      step_inv env sc t _ _ k (step_part_fails x) c r a = (one_failed Z E each home sc x c r (operand_rules Z.program Z.rule home sc k t a), tt)
      step_inv env sc _ _ _ k (step_list {k = i} {ts = ts} {t = t} {vs = vs} {tr = tr} xs) c r a = list_inv env sc k i ts t vs tr xs c r a
      step_inv env sc _ _ _ k (step_tuple {k = i} {ts = ts} {vs = vs} {tr = tr} xs) c r a = tuple_inv env sc k i ts vs tr xs c r a
      step_inv env sc _ _ _ k (step_values {ts = ts} {vs = vs} xs) c r a = let h = all_given Z E each home sc xs c r a in (h.0, (each_lies Z.program Z.rule (AllAt sc ts) vs h.1.0, h.1.1))
      step_inv env sc _ _ _ k (step_new_map {k = i} {ps = ps} {vs = vs} {qs = qs} {tr = tr} xs of up) c r a = new_map_inv env sc k i ps vs qs tr xs of c r a
      step_inv env sc _ _ _ k (step_new_map_raises {k = i} {ps = ps} xs) c r a = ((all_given Z E each home sc xs c r (operand_rules Z.program Z.rule home sc k (m.new_map i ps) a)).0, tt)
      step_inv env sc _ _ _ k (step_map {k = i} {ps = ps} {t = t} {vs = vs} {old = old} {qs = qs} {tr = tr} {more = more} xs x of up) c r a = updated_map_inv env sc k i ps t vs old qs tr more xs x of c r a
      step_inv env sc _ _ _ k (step_map_raises {k = i} {ps = ps} {t = t} xs) c r a = ((all_given Z E each home sc xs c r (operand_rules Z.program Z.rule home sc k (m.updated_map i ps t) a)).0, tt)
      step_inv env sc _ _ _ k (step_binary {ss = ss} {bs = bs} xs) c r a = ((all_given Z E each home sc xs c r (segments_rules Z.program Z.rule home sc ss a)).0, ((λ d e. absurd e, tt), (tt, tt)))
      step_inv env sc _ _ _ k (step_binary_raises {ss = ss} xs) c r a = ((all_given Z E each home sc xs c r (segments_rules Z.program Z.rule home sc ss a)).0, tt)
      step_inv env sc _ _ _ k (step_chain {ss = ss} {t = t} x) c r a =
          let inner = after_steps Z.program home sc ss in
          chained Z E each home sc k x c r (all_left Z.program Z.rule (rules_of_steps Z.program home sc ss) (Of inner k t) a) (all_right Z.program Z.rule (rules_of_steps Z.program home sc ss) (Of inner k t) a)
      step_inv env sc _ o _ k (step_case {k = i} {t = t} {cs = cs} {vs = vs} {tr = tr} {more = more} x n ch) c r a =
          let q = Exactly (width cs) in
          let clauses = rules_of_clauses Z.program home sc k i.label (At sc q t) cs in
          let h = each home env sc t (gives vs) tr q x c r (all_left Z.program Z.rule (Of sc q t) clauses a) in
          let g = clause_chosen Z E each home sc k i.label (At sc q t) ch c h.1.1 h.1.0 r (all_right Z.program Z.rule (Of sc q t) clauses a) in
          (both tr more h.0 g.0, g.1)
      step_inv env sc _ _ _ k (step_case_fails {k = i} {t = t} {cs = cs} {tr = tr} x) c r a =
          let q = Exactly (width cs) in
          ((each home env sc t _ tr q x c r (all_left Z.program Z.rule (Of sc q t) (rules_of_clauses Z.program home sc k i.label (At sc q t) cs) a)).0, tt)
      step_inv env sc _ o _ k (step_letrec {k = i} {ds = ds} {t = t} {tr = tr} at x) c r a = letrec_inv env sc k i ds t o tr at x c r a
      step_inv env sc _ o _ k (step_apply_name {k = i} {i = j} {f = f} {ts = ts} {c = w} {vs = vs} {tr = tr} {more = more} n is xs x) c r a = apply_name_inv env sc k i j f ts w vs o tr more n is xs x c r a
      step_inv env sc _ _ _ k (step_apply_name_raises {k = i} {i = j} {f = f} {ts = ts} xs) c r a = ((all_given Z E each home sc xs c r (operand_rules Z.program Z.rule home sc k (m.apply i (m.local j f) ts) a)).0, tt)
      step_inv env sc _ o _ k (step_apply {k = i} {t = t} {ts = ts} {c = w} {vs = vs} {tr = tr} {more = more} n xs x) c r a = apply_inv env sc k i t ts w vs o tr more n xs x c r a
      step_inv env sc _ o _ k (step_call {k = i} {t = t} {u = u} {ts = ts} {x = x} {name = name} {vs = vs} {tr = tr} {more = more} xs y) c r a = call_inv env sc k i t u ts x name vs o tr more xs y c r a
      step_inv env sc _ _ _ k (step_call_raises {k = i} {t = t} {u = u} {ts = ts} xs) c r a = ((all_given Z E each home sc xs c r (operand_rules Z.program Z.rule home sc k (m.call i t u ts) a)).0, tt)
      step_inv env sc _ _ _ k (step_primop {ws = ws} calm xs from) c r a = (
        (all_given Z E each home sc xs c r a).0,
        (lie_anywhere Z.program Z.rule ws, outside_covered (OfClosure Z.program Z.rule) (OfFrame Z.program Z.rule) Z.from Z.world home ws from),
      )
      step_inv env sc _ _ _ k (step_primop_raises xs) c r a = ((all_given Z E each home sc xs c r a).0, tt)
      step_inv env sc _ o _ k (step_try {k = i} {t = t} {u = u} {w = w} {xs = xs} {ys = ys} {vs = vs} {tr = tr} {more = more} x n y) c r a = try_inv env sc k i t xs u ys w vs o tr more x n y c r a
      step_inv env sc _ o _ k (step_handle {k = i} {t = t} {u = u} {w = w} {xs = xs} {ys = ys} vs {tr = tr} {more = more} x n from y) c r a = handler_inv env sc k i t xs u ys w vs o tr more x n from y c r a
      step_inv env sc _ _ _ k (step_try_stops {k = i} {t = t} {u = u} {w = w} {xs = xs} {ys = ys} {tr = tr} x) c r a = ((each home env sc t _ tr (Exactly (length xs)) x c r (tried env sc k i t xs u ys w a)).0, tt)
      step_inv env sc _ _ _ k (step_catch {t = t} {v = v} {tr = tr} x) c r a = let h = each home env sc t _ tr one_value x c r a in (h.0, ((in_world Z.program Z.rule v, tt), h.1.1))
      step_inv env sc _ _ _ k (step_caught {t = t} {v = v} {tr = tr} x from) c r a = let h = each home env sc t _ tr one_value x c r a in (h.0, ((in_world Z.program Z.rule v, tt), (Z.world v from, tt)))
      step_inv env sc _ _ _ k (step_catch_stops {t = t} {tr = tr} x) c r a = ((each home env sc t _ tr one_value x c r a).0, tt)
      step_inv env sc _ _ _ k (step_receive {k = i} {cs = cs} {t = t} {u = u} {v = v} {tr = tr} {more = more} x from ch) c r a =
          let z = received sc k i cs t u a in
          let h = each home env sc t _ tr one_value x c r z.timeout in
          let g = clause_chosen Z E each home sc k i.label [] ch c (Z.world v from, tt) (lie_anywhere Z.program Z.rule (bif.one_value v)) r z.clauses in
          (both tr more h.0 g.0, g.1)
      step_inv env sc _ o _ k (step_timeout {k = i} {cs = cs} {t = t} {u = u} {tr = tr} {more = more} x y) c r a =
          let z = received sc k i cs t u a in
          let h = each home env sc t _ tr one_value x c r z.timeout in
          let g = each home env sc u o more k y c r z.action in
          (both tr more h.0 g.0, passed_on Z E each home i.label k (At sc k u) o z.passed g.1)
      step_inv env sc _ _ _ k (step_waits {k = i} {cs = cs} {t = t} {u = u} {tr = tr} x) c r a = ((each home env sc t _ tr one_value x c r (received sc k i cs t u a).timeout).0, tt)
      step_inv env sc _ _ _ k (step_receive_fails {k = i} {cs = cs} {t = t} {u = u} {tr = tr} x) c r a = ((each home env sc t _ tr one_value x c r (received sc k i cs t u a).timeout).0, tt)

  -- ---- evaluations with fuel

  no_values : {vs : Values} → gives vs ≡ fails stopped → ⊥
  no_values e = cc

  abbrev the_atom : Value → Atom
  the_atom (atom a) = a
  the_atom v = []

  abbrev the_name : Option Atom → Atom
  the_name (Some x) = x
  the_name None = []

  literals_give : (fuel : ℕ) (home : Atom) (env : Env) (t : m.Tree) (x y : Atom) (tr : Trace) → literal_atom t ≡ Some x → EvalWith Z.program Z.from fuel home env t (gives (bif.one_value (atom y))) tr → y ≡ x
  literals_give zero home env t x y tr e h = absurd (no_values h.0)
  literals_give (suc fuel) home env (m.literal i (l.Atom z)) x y tr e h = of_step h
    where
      of_step : {tr : Trace} → Step Z.program Z.from (EvalWith Z.program Z.from fuel) home env (m.literal i (l.Atom z)) (gives (bif.one_value (atom y))) tr → y ≡ x
      of_step (step_literal is) = ap the_atom is ∙ ap the_name e
  literals_give (suc fuel) home env t x y tr e h = absurd cc

  pub every_inv : (fuel : ℕ) → Invariant Z (EvalWith Z.program Z.from fuel)
  every_inv zero home env sc t o tr k h c r a = subst (λ z. AllOk Z z × Result Z (places Z.program home sc k t) o) (sym h.1) (tt, subst (λ z. Result Z (places Z.program home sc k t) z) (sym h.0) tt)
  every_inv (suc fuel) home env sc t o tr k h c r a =
      step_inv (EvalWith Z.program Z.from fuel) (every_inv fuel) (λ at. literals_give fuel at) home env sc t o tr k h c r a
