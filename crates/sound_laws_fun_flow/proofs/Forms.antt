-- Forms whose parts are evaluated: arguments, clauses, chains, applications and calls.
use Rattle.std.proofs.Common.{◌≡◌, ℕ, if◌then◌else◌, List, [], ◌∷◌, ◌++◌, length, Option, Some, None, eq-eqb, refl, sym, subst, arith}
use Rattle.type_kinds.specs.declared.atom.Atom.{Atom}
use Rattle.core_ast.specs.Lengths.{how_many}
use Rattle.core_ast.specs.Model as m
use Rattle.core_ast.specs.Named.{literal_atom}
use Rattle.core_ast.specs.declared.syntax.FunName.{FunName}
use Rattle.core_scope.specs.Asks.{one_value}
use Rattle.core_scope.specs.declared.ask.Ask.{Ask}
use Rattle.core_scope.specs.declared.ask.Ask.TheVariants.{AnyNumber, Exactly}
use Rattle.type_lattice_model.specs.Values.{Value, atom, Values, no_value, and_value, Env, count}
use Rattle.bif_types.specs.Results as bif
use Rattle.core_meaning.specs.Environments.{function_of}
use Rattle.core_meaning.specs.Meaning.{Failure, Outcome, gives, fails, applied, chosen, Trace, back_by, AllGive, give_none, give_next, OneFails, fail_here, fail_later, Chained, chain_ends}
use Rattle.core_meaning.specs.Meaning.{let_gives, let_fails, do_gives, do_fails, Choose, choose_none, choose_missed, choose_refused, choose_raised, choose_failed, choose_this, Enter, Called, Apply}
use Rattle.core_meaning_values.proofs.Coverage.{bound_covered, matches_covered}
use Rattle.fun_flow_sets.specs.Items.{Place, nowhere, part, Rule, applies}
use Rattle.fun_flow_sets.specs.Rules.{kept, parts, places, places_of_all, after_steps, application_place, application_rules, argument_rules, into_parameters}
use Rattle.fun_flow_sets.specs.Rules.{call_place, call_rules, given_by, passed_to, rules, rules_of_all, rules_of_steps, rules_of_clauses, rules_of_heads}
use Rattle.fun_flow_sets.specs.Scopes.{Scope, first, with_places, with_heads, definition_of}
use Rattle.sound_laws.proofs.Traces.{both_traces}
use Rattle.sound_laws_fun_flow.specs.steps.Inside.{LieIn, LieInEach, Fits, AreRules, OfClosure, OfFrame}
use Rattle.sound_laws_fun_flow.specs.steps.Setting.{Setting, IsAllowed, AllOk, Covs, CovEnv, Result, Came, Invariant}
use Rattle.sound_laws_fun_flow.proofs.Calling.{called_by_name, called_anywhere, value_applied}
use Rattle.sound_laws_fun_flow.proofs.Entering.{found_entered}
use Rattle.sound_laws_fun_flow.proofs.Finding.{function_found}
use Rattle.sound_laws_fun_flow.proofs.Fitting.{fits_bound, fits_heads}
use Rattle.sound_laws_fun_flow.proofs.Lists.{all_left, all_right, all_both}
use Rattle.sound_laws_fun_flow.proofs.Lying.{into_lie, arguments_flow}

module _ (Z : Setting) (E : Atom → Env → m.Tree → Outcome → Trace → Type 0) (each : Invariant Z E) where
  abbrev Are : List Rule → Type 0
  Are rs = AreRules Z.program Z.rule rs

  abbrev FitsAt : Scope → Env → Type 0
  FitsAt sc env = Fits Z.program Z.rule sc env

  abbrev LieAt : List Place → Values → Type 0
  LieAt ps vs = LieIn Z.program Z.rule ps vs

  both : (tr more : Trace) → AllOk Z tr → AllOk Z more → AllOk Z (tr ++ more)
  both tr more h g = both_traces (IsAllowed Z.program Z.rule) tr more h g

  pub back_ok : (home : Atom) (label : ℕ) (o : Outcome) → AllOk Z (back_by home label o)
  back_ok home label (gives no_value) = tt
  back_ok home label (gives (and_value v no_value)) = (tt, tt)
  back_ok home label (gives (and_value v (and_value w vs))) = tt
  back_ok home label (fails f) = tt

  -- what is passed to the values of a form
  pub passed_on : (home : Atom) (label : ℕ) (k : Ask) (ps : List Place) (o : Outcome) → Are (passed_to Z.program home label k ps) → Result Z ps o → Result Z (parts home label 0 (kept k)) o
  passed_on home label k ps (gives vs) a h = (into_lie Z.program Z.rule home label 0 (kept k) ps vs h.0 a, h.1)
  passed_on home label k ps (fails f) a h = tt

  module _ (home : Atom) where
    abbrev Of : Scope → Ask → m.Tree → List Rule
    Of sc k t = rules Z.program home sc k t

    abbrev OfAll : Scope → m.Trees → List Rule
    OfAll sc ts = rules_of_all Z.program home sc ts

    abbrev At : Scope → Ask → m.Tree → List Place
    At sc k t = places Z.program home sc k t

    pub all_given : {env : Env} {ts : m.Trees} {vs : Values} {tr : Trace} (sc : Scope) → AllGive (E home) env ts vs tr → CovEnv Z home env → FitsAt sc env → Are (OfAll sc ts)
        → AllOk Z tr × (LieInEach Z.program Z.rule (places_of_all Z.program home sc ts) vs × Covs Z vs)
    all_given sc give_none c r a = (tt, (tt, tt))
    all_given sc (give_next {t = t} {ts = ts} {v = v} {tr = tr} {more = more} x xs) c r a =
        let h = each home _ sc t _ tr one_value x c r (all_left Z.program Z.rule (Of sc one_value t) (OfAll sc ts) a) in
        let hs = all_given sc xs c r (all_right Z.program Z.rule (Of sc one_value t) (OfAll sc ts) a) in
        (both tr more h.0 hs.0, ((h.1.0.0, hs.1.0), (h.1.1.0, hs.1.1)))

    pub given_count : {env : Env} {ts : m.Trees} {vs : Values} {tr : Trace} → AllGive (E home) env ts vs tr → count vs ≡ how_many ts
    given_count give_none = refl
    given_count (give_next x xs) = let e = given_count xs in omega (arith, e)

    pub one_failed : {env : Env} {ts : m.Trees} {f : Failure} {tr : Trace} (sc : Scope) → OneFails (E home) env ts f tr → CovEnv Z home env → FitsAt sc env → Are (OfAll sc ts) → AllOk Z tr
    one_failed sc (fail_here {t = t} {ts = ts} {tr = tr} x) c r a = (each home _ sc t _ tr one_value x c r (all_left Z.program Z.rule (Of sc one_value t) (OfAll sc ts) a)).0
    one_failed sc (fail_later {t = t} {ts = ts} {tr = tr} {more = more} x xs) c r a =
        both tr more (each home _ sc t _ tr one_value x c r (all_left Z.program Z.rule (Of sc one_value t) (OfAll sc ts) a)).0 (one_failed sc xs c r (all_right Z.program Z.rule (Of sc one_value t) (OfAll sc ts) a))

    -- ---- chains

    pub chained : {env : Env} {ss : m.Steps} {t : m.Tree} {o : Outcome} {tr : Trace} (sc : Scope) (k : Ask) → Chained (E home) env ss t o tr → CovEnv Z home env → FitsAt sc env → Are (rules_of_steps Z.program home sc ss)
        → Are (Of (after_steps Z.program home sc ss) k t) → AllOk Z tr × Result Z (At (after_steps Z.program home sc ss) k t) o
    chained sc k (chain_ends {env = env} {t = t} {o = o} {tr = tr} x) c r a b = each home env sc t o tr k x c r b
    chained sc k (let_gives {env = env} {xs = xs} {u = u} {ss = ss} {vs = vs} {tr = tr} {more = more} x n y) c r a b =
        let ps = At sc (Exactly (length xs)) u in
        let inner = with_places xs ps sc in
        let h = each home env sc u (gives vs) tr (Exactly (length xs)) x c r (all_left Z.program Z.rule (Of sc (Exactly (length xs)) u) (rules_of_steps Z.program home inner ss) a) in
        let g = chained inner k y (bound_covered (OfClosure Z.program Z.rule) (OfFrame Z.program Z.rule) home xs vs env h.1.1 c) (fits_bound Z.program Z.rule xs vs ps sc env n h.1.0 r)
        (all_right Z.program Z.rule (Of sc (Exactly (length xs)) u) (rules_of_steps Z.program home inner ss) a) b in
        (both tr more h.0 g.0, g.1)
    chained sc k (let_fails {env = env} {xs = xs} {u = u} {ss = ss} {tr = tr} x) c r a b =
        ((each home env sc u _ tr (Exactly (length xs)) x c r (all_left Z.program Z.rule (Of sc (Exactly (length xs)) u) (rules_of_steps Z.program home (with_places xs (At sc (Exactly (length xs)) u) sc) ss) a)).0, tt)
    chained sc k (do_gives {env = env} {u = u} {ss = ss} {vs = vs} {tr = tr} {more = more} x y) c r a b =
        let h = each home env sc u (gives vs) tr AnyNumber x c r (all_left Z.program Z.rule (Of sc AnyNumber u) (rules_of_steps Z.program home sc ss) a) in
        let g = chained sc k y c r (all_right Z.program Z.rule (Of sc AnyNumber u) (rules_of_steps Z.program home sc ss) a) b in
        (both tr more h.0 g.0, g.1)
    chained sc k (do_fails {env = env} {u = u} {ss = ss} {tr = tr} x) c r a b =
        ((each home env sc u _ tr AnyNumber x c r (all_left Z.program Z.rule (Of sc AnyNumber u) (rules_of_steps Z.program home sc ss) a)).0, tt)

    -- ---- clauses

    -- the rules of the first clause's guard and body, and of the other clauses
    record FirstClause (sc : Scope) (k : Ask) (label : ℕ) (qs : List Place) (ps : m.Patterns) (g t : m.Tree) (cs : m.Clauses) : Type 0 where
      guard : Are (Of (with_heads qs ps sc) one_value g)
      passed : Are (passed_to Z.program home label k (At (with_heads qs ps sc) k t))
      body : Are (Of (with_heads qs ps sc) k t)
      others : Are (rules_of_clauses Z.program home sc k label qs cs)

    opened : (sc : Scope) (k : Ask) (label : ℕ) (qs : List Place) (ps : m.Patterns) (g t : m.Tree) (cs : m.Clauses)
        → Are (rules_of_heads Z.program home sc qs ps ++ (Of (with_heads qs ps sc) one_value g
        ++ ((passed_to Z.program home label k (At (with_heads qs ps sc) k t) ++ Of (with_heads qs ps sc) k t) ++ rules_of_clauses Z.program home sc k label qs cs))) → FirstClause sc k label qs ps g t cs
    opened sc k label qs ps g t cs a =
        let heads = rules_of_heads Z.program home sc qs ps in
        let guards = Of (with_heads qs ps sc) one_value g in
        let passing = passed_to Z.program home label k (At (with_heads qs ps sc) k t) in
        let bodies = Of (with_heads qs ps sc) k t in
        let later = rules_of_clauses Z.program home sc k label qs cs in
        let b = all_right Z.program Z.rule heads (guards ++ ((passing ++ bodies) ++ later)) a in
        let d = all_right Z.program Z.rule guards ((passing ++ bodies) ++ later) b in
        let mine = all_left Z.program Z.rule (passing ++ bodies) later d in
        record {
          guard = all_left Z.program Z.rule guards ((passing ++ bodies) ++ later) b;
          passed = all_left Z.program Z.rule passing bodies mine;
          body = all_right Z.program Z.rule passing bodies mine;
          others = all_right Z.program Z.rule (passing ++ bodies) later d;
        }

    pub clause_chosen : {none : Failure} {env : Env} {vs : Values} {cs : m.Clauses} {o : Outcome} {tr : Trace} (sc : Scope) (k : Ask) (label : ℕ) (qs : List Place) → Choose (E home) Z.from none home env vs cs o tr → CovEnv Z home env
        → Covs Z vs → LieAt qs vs → FitsAt sc env → Are (rules_of_clauses Z.program home sc k label qs cs) → AllOk Z tr × Result Z (parts home label 0 (kept k)) o
    clause_chosen sc k label qs choose_none c cv h r a = (tt, tt)
    clause_chosen sc k label qs (choose_missed {ps = ps} {g = g} {t = t} {cs = cs} mt x) c cv h r a = clause_chosen sc k label qs x c cv h r (opened sc k label qs ps g t cs a).others
    clause_chosen sc k label qs (choose_refused {ps = ps} {g = g} {t = t} {cs = cs} {tr = tr} {more = more} mt x n y) c cv h r a =
        let z = opened sc k label qs ps g t cs a in
        let i = each home _ (with_heads qs ps sc) g _ tr one_value x (matches_covered (OfClosure Z.program Z.rule) (OfFrame Z.program Z.rule) Z.from Z.world home mt cv c) (fits_heads Z.program Z.rule Z.from qs sc mt h r) z.guard in
        let j = clause_chosen sc k label qs y c cv h r z.others in
        (both tr more i.0 j.0, j.1)
    clause_chosen sc k label qs (choose_raised {ps = ps} {g = g} {t = t} {cs = cs} {tr = tr} {more = more} mt x y) c cv h r a =
        let z = opened sc k label qs ps g t cs a in
        let i = each home _ (with_heads qs ps sc) g _ tr one_value x (matches_covered (OfClosure Z.program Z.rule) (OfFrame Z.program Z.rule) Z.from Z.world home mt cv c) (fits_heads Z.program Z.rule Z.from qs sc mt h r) z.guard in
        let j = clause_chosen sc k label qs y c cv h r z.others in
        (both tr more i.0 j.0, j.1)
    clause_chosen sc k label qs (choose_failed {ps = ps} {g = g} {t = t} {cs = cs} {tr = tr} mt x) c cv h r a =
        let z = opened sc k label qs ps g t cs a in
        ((each home _ (with_heads qs ps sc) g _ tr one_value x (matches_covered (OfClosure Z.program Z.rule) (OfFrame Z.program Z.rule) Z.from Z.world home mt cv c) (fits_heads Z.program Z.rule Z.from qs sc mt h r) z.guard).0, tt)
    clause_chosen sc k label qs (choose_this {k = i} {ps = ps} {g = g} {t = t} {cs = cs} {o = o} {tr = tr} {more = more} mt x y) c cv h r a =
        let z = opened sc k label qs ps g t cs a in
        let inner = matches_covered (OfClosure Z.program Z.rule) (OfFrame Z.program Z.rule) Z.from Z.world home mt cv c in
        let fit = fits_heads Z.program Z.rule Z.from qs sc mt h r in
        let u = each home _ (with_heads qs ps sc) g _ tr one_value x inner fit z.guard in
        let w = each home _ (with_heads qs ps sc) t o more k y inner fit z.body in
        (both tr (chosen home i.label ∷ more) u.0 (tt, w.0), passed_on home label k (At (with_heads qs ps sc) k t) o z.passed w.1)

    -- ---- applications

    -- a name is applied to as many arguments as it has parameters
    pub name_applied : {c : Value} {vs : Values} {o : Outcome} {more : Trace} (f : FunName) (sc : Scope) (env : Env) (label n : ℕ) (ps os : List Place) (rs : List Rule) → f.arity ≡ n → function_of Z.program home env f ≡ Some c
        → Enter Z.program Z.from E c vs o more → CovEnv Z home env → FitsAt sc env → Covs Z vs → LieInEach Z.program Z.rule ps vs → Are (application_rules Z.program home sc label (Some f) os rs n ps)
        → AllOk Z more × Came Z (application_place Z.program home sc label (Some f) n) o
    name_applied {c} {vs} {o} f sc env label n ps os rs e is x cov fit cv h a =
        let t = function_found Z.program Z.rule Z.has home sc env f c fit cov is in
        let d = t.0 in
        let mine : Are (argument_rules home (Some d) f.arity n ps) = subst (λ z. Are (argument_rules home z f.arity n ps)) t.1.0 a in
        let flow : Are (into_parameters home d.label 0 ps) = subst (λ b. Are (if b then into_parameters home d.label 0 ps else [])) (eq-eqb f.arity n e) mine in
        let i = found_entered Z E each t.1.1 x cv (arguments_flow Z.program Z.rule home d.label 0 ps vs h flow) in
        (i.0, subst (λ b. Came Z (if b then given_by home (definition_of Z.program home sc f) else nowhere) o) (sym (eq-eqb f.arity n e)) (subst (λ z. Came Z (given_by home z) o) (sym t.1.0) i.1))

    -- another operator is applied
    pub operator_applied : {env : Env} {t : m.Tree} {ts : m.Trees} {c : Value} {vs : Values} {o : Outcome} {tr more : Trace} (sc : Scope) (label : ℕ) → AllGive (E home) env (m.and_tree t ts) (and_value c vs) tr
        → Apply Z.program Z.from E c vs o more → CovEnv Z home env → FitsAt sc env
        → Are (application_rules Z.program home sc label None (At sc one_value t) (Of sc one_value t) (how_many ts) (places_of_all Z.program home sc ts) ++ OfAll sc ts)
        → AllOk Z (tr ++ (applied home label c ∷ (more ++ back_by home label o))) × Came Z (part home label 0) o
    operator_applied {t = t} {ts = ts} {c = c} {vs = vs} {o = o} {tr = tr} {more = more} sc label xs x cov fit a =
        let own = applies (first (At sc one_value t)) (how_many ts) home label ∷ Of sc one_value t in
        let mine = all_left Z.program Z.rule own (OfAll sc ts) a in
        let h = all_given sc xs cov fit (parts_of t ts mine.1 (all_right Z.program Z.rule own (OfAll sc ts) a)) in
        let n = arguments t ts xs in
        let r : Z.rule (applies (first (At sc one_value t)) (count vs) home label) = subst (λ z. Z.rule (applies (first (At sc one_value t)) z home label)) (sym n) mine.0 in
        let i = value_applied Z E each (first (At sc one_value t)) home label x r h.1.0.0 h.1.1.0 h.1.1.1 in
        (both tr (applied home label c ∷ (more ++ back_by home label o)) h.0 ((first (At sc one_value t), (how_many ts, (mine.0, h.1.0.0))), both more (back_by home label o) i.0 (back_ok home label o)), i.1)
      where
        parts_of : (t : m.Tree) (ts : m.Trees) → Are (Of sc one_value t) → Are (OfAll sc ts) → Are (OfAll sc (m.and_tree t ts))
        parts_of t ts b d = all_both Z.program Z.rule (Of sc one_value t) (OfAll sc ts) b d

        arguments : {env : Env} {c : Value} {vs : Values} {tr : Trace} (t : m.Tree) (ts : m.Trees) → AllGive (E home) env (m.and_tree t ts) (and_value c vs) tr → count vs ≡ how_many ts
        arguments t ts (give_next x xs) = given_count xs

    -- ---- calls

    -- literal names give themselves
    abbrev pub Literals : Type 0
    Literals = (env : Env) (t : m.Tree) (x y : Atom) (tr : Trace) → literal_atom t ≡ Some x → E home env t (gives (bif.one_value (atom y))) tr → y ≡ x

    pub called : {env : Env} {t u : m.Tree} {x name : Atom} {vs : Values} {o : Outcome} {more : Trace} (literals : Literals) (label n : ℕ) (ps : List Place) (tr tr' : Trace) → E home env t (gives (bif.one_value (atom x))) tr
        → E home env u (gives (bif.one_value (atom name))) tr' → n ≡ count vs → Called Z.program Z.from E x name vs o more → Covs Z vs → LieInEach Z.program Z.rule ps vs
        → Are (call_rules Z.program home label (literal_atom t) (literal_atom u) n ps) → AllOk Z more × Came Z (call_place Z.program home label (literal_atom t) (literal_atom u) n) o
    called {env} {t} {u} {x} {name} {vs} {o} {more} literals label n ps tr tr' gt gu e y cv h a = by (literal_atom t) refl (literal_atom u) refl a
      where
        by : (p : Option Atom) → literal_atom t ≡ p → (q : Option Atom) → literal_atom u ≡ q → Are (call_rules Z.program home label p q n ps) → AllOk Z more × Came Z (call_place Z.program home label p q n) o
        by None i q j b = called_anywhere Z E each y cv
        by (Some p) i None j b = called_anywhere Z E each y cv
        by (Some p) i (Some q) j b =
            let same : x ≡ p = literals env t p x tr i gt in
            let too : name ≡ q = literals env u q name tr' j gu in
            at_names p q (subst (λ w. Called Z.program Z.from E x w vs o more) too y) same e b
          where
            at_names : (p q : Atom) → Called Z.program Z.from E x q vs o more → x ≡ p → n ≡ count vs → Are (call_rules Z.program home label (Some p) (Some q) n ps)
                → AllOk Z more × Came Z (call_place Z.program home label (Some p) (Some q) n) o
            at_names p q w same e b =
                subst (λ k. AllOk Z more × Came Z (call_place Z.program home label (Some p) (Some q) k) o) (sym e)
                (called_by_name Z E each home label ps (subst (λ k. Called Z.program Z.from E k q vs o more) same w) cv h (subst (λ k. Are (call_rules Z.program home label (Some p) (Some q) k ps)) e b))
