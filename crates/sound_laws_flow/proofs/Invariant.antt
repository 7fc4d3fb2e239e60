-- The invariant holds with any fuel, and so of every run of every stage.
use Rattle.std.proofs.Common.{◌≡◌, ℕ, zero, suc, [], ◌∷◌, length, replicate, Some, None, refl, sym, ap, subst, arith}
use Rattle.type_kinds.specs.declared.atom.Atom.{Atom}
use Rattle.type_lattice.specs.Types.{any}
use Rattle.type_lattice_model.specs.Values.{Value, atom, Values, no_value, and_value, Env, count}
use Rattle.core_ast.specs.Model as m
use Rattle.core_ast.specs.Named.{literal_atom}
use Rattle.core_ast.specs.declared.syntax.Mark.{Mark}
use Rattle.core_ast.specs.declared.syntax.Literal.TheVariants as l
use Rattle.core_scope.specs.declared.ask.Ask.{Ask}
use Rattle.core_scope.specs.declared.ask.Ask.TheVariants.{Exactly}
use Rattle.core_meaning.specs.Environments.{value_of}
use Rattle.core_meaning.specs.Meaning.{Outcome, gives, Trace, AllGive, give_none, give_next}
use Rattle.core_meaning.specs.Meaning.{Step, step_variable, step_literal, step_function, step_name, step_external, step_part_fails, step_list, step_tuple, step_values}
use Rattle.core_meaning.specs.Meaning.{step_new_map, step_new_map_raises, step_map, step_map_raises, step_binary, step_binary_raises, step_chain, step_case, step_case_fails}
use Rattle.core_meaning.specs.Meaning.{step_letrec, step_apply_name, step_apply_name_raises, step_apply, step_call, step_call_raises, step_primop, step_primop_raises, step_try}
use Rattle.core_meaning.specs.Meaning.{step_handle, step_try_stops, step_catch, step_caught, step_catch_stops, step_receive, step_timeout, step_waits, step_receive_fails}
use Rattle.core_meaning.specs.Runs.{EvalWith}
use Rattle.core_scope.specs.Asks.{width}
use Rattle.cons_gen_rows.specs.Words.{function_type}
use Rattle.module_flow_state.specs.Scopes.{WalkScope, variable_name, variable_names}
use Rattle.module_flow_walk.specs.Walk.{walk}
use Rattle.module_flow_calls.specs.TypeLists.{value}
use Rattle.module_flow_state.specs.World.{strict}
use Rattle.sound_laws.proofs.Applications.{literal_is}
use Rattle.sound_laws.proofs.Calls.{function_arity}
use Rattle.sound_laws.proofs.Expressions.{every_extends, no_values}
use Rattle.sound_laws.proofs.Parts.{Extends}
use Rattle.sound_laws.proofs.Types.{function_in}
use Rattle.sound_laws_flow.specs.steps.Seen.{IsSeen}
use Rattle.sound_laws_flow.proofs.Forms as f
use Rattle.sound_laws_flow.proofs.Names.{apply_name_inv}
use Rattle.sound_laws_flow.proofs.Parts.{all_given, one_failed, fine_operands}
use Rattle.sound_laws_flow.proofs.Results.{res_one, res_any}
use Rattle.sound_laws_flow.proofs.Setting.{Setting, V, IsCovEnv, AllOk, IsKnown, Result, FineAt, Invariant}
use Rattle.sound_laws_flow.proofs.WalkScopes.{NameIs, NamesAre}

module _ (Z : Setting) where
  module _ (E : Atom → Env → m.Tree → Outcome → Trace → Type 0) (each : Invariant Z E) (extends : Extends (strict (V Z [])) Z.program E) (names : f.Names Z E)
      (literals : (home : Atom) (env : Env) (t : m.Tree) (x y : Atom) (tr : Trace) → literal_atom t ≡ Some x → E home env t (gives (and_value (atom y) no_value)) tr → y ≡ x) where
    pub step_inv : (home : Atom) (env : Env) (sc : WalkScope) (t : m.Tree) (o : Outcome) (tr : Trace) (k : Ask) → Step Z.program Z.from E home env t o tr → IsKnown Z tr → IsCovEnv Z home env → IsSeen home sc env
        → FineAt Z home sc k t → AllOk Z tr × Result Z k (walk (V Z home) sc k t) o
    step_inv home env sc _ _ _ k (step_variable {k = i} {x = x} {v = v} e) kn c s fine = (tt, f.variable_inv Z E each home i x v sc k e c s)
    step_inv home env sc _ _ _ k (step_literal {k = i} {c = d} {v = v} is) kn c s fine = (tt, f.literal_inv Z E each home i d v sc k is)
    step_inv home env sc _ _ _ k (step_function {k = i} {xs = xs} {t = t} at) kn c s fine =
        let covered = f.function_inv Z E each home i xs t sc k at c s fine in
        ((covered, tt), res_one Z.types Z.program Z.callee Z.states Z.dead_clause Z.dead_call k (function_type (length xs)) (value (function_type (length xs))) _ covered (function_in Z.facts (length xs) _ refl) refl)
    step_inv home env sc _ _ _ k (step_name {k = i} {f = g} {c = w} e) kn c s fine =
        let covered = f.name_inv Z E each home g w sc e c s fine in (
          (covered, tt),
          res_one Z.types Z.program Z.callee Z.states Z.dead_clause Z.dead_call k (function_type g.arity) (value (function_type g.arity)) w covered
              (function_in Z.facts g.arity w (function_arity Z.program home env g w e)) refl,
        )
    step_inv home env sc _ _ _ k (step_external {f = g}) kn c s fine =
        (tt, res_one Z.types Z.program Z.callee Z.states Z.dead_clause Z.dead_call k (function_type g.arity) (value (function_type g.arity)) _ tt (function_in Z.facts g.arity _ refl) refl)
    step_inv home env sc t _ _ k (step_part_fails x) kn c s fine = (one_failed Z E each home sc x kn c s (fine_operands (V Z home) (Z.dead_clause home) (Z.dead_call home) sc k t fine), tt)
    step_inv home env sc _ _ _ k (step_list {k = i} {ts = ts} {t = t} xs) kn c s fine = f.list_inv Z E each home i ts t sc k xs kn c s fine
    step_inv home env sc _ _ _ k (step_tuple {k = i} {ts = ts} xs) kn c s fine = f.tuple_inv Z E each home i ts sc k xs kn c s fine
    step_inv home env sc _ _ _ k (step_values {k = i} {ts = ts} xs) kn c s fine = f.values_inv Z E each home i ts sc k xs kn c s fine
    step_inv home env sc _ _ _ k (step_new_map {k = i} {ps = ps} {qs = qs} xs of up) kn c s fine = f.new_map_inv Z E each home i ps qs sc k xs of kn c s fine
    step_inv home env sc _ _ _ k (step_new_map_raises {k = i} {ps = ps} xs) kn c s fine = ((all_given Z E each home sc xs kn c s (fine_operands (V Z home) (Z.dead_clause home) (Z.dead_call home) sc k (m.new_map i ps) fine)).0, tt)
    step_inv home env sc _ _ _ k (step_map {k = i} {ps = ps} {t = t} {old = old} {qs = qs} xs x of up) kn c s fine = f.updated_map_inv Z E each home i ps t old qs sc k xs x of kn c s fine
    step_inv home env sc _ _ _ k (step_map_raises {k = i} {ps = ps} {t = t} xs) kn c s fine = ((all_given Z E each home sc xs kn c s (fine_operands (V Z home) (Z.dead_clause home) (Z.dead_call home) sc k (m.updated_map i ps t) fine)).0, tt)
    step_inv home env sc _ _ _ k (step_binary {k = i} {ss = ss} {bs = bs} xs) kn c s fine = f.binary_inv Z E each home i ss bs sc k xs kn c s fine
    step_inv home env sc _ _ _ k (step_binary_raises {k = i} {ss = ss} xs) kn c s fine = ((all_given Z E each home sc xs kn c s (fine_operands (V Z home) (Z.dead_clause home) (Z.dead_call home) sc k (m.binary i ss) fine)).0, tt)
    step_inv home env sc _ _ _ k (step_chain x) kn c s fine = f.steps_inv Z E each home sc k x kn c s fine.0 fine.1
    step_inv home env sc _ _ _ k (step_case {k = i} {t = t} {cs = cs} x n ch) kn c s fine = f.case_inv Z E each home extends names i t cs sc k x n ch kn c s fine
    step_inv home env sc _ _ _ k (step_case_fails {cs = cs} x) kn c s fine = ((each home env sc _ _ _ (Exactly (width cs)) x kn c s fine.0).0, tt)
    step_inv home env sc _ _ _ k (step_letrec {k = i} {ds = ds} {t = t} at x) kn c s fine = f.letrec_inv Z E each home i ds t sc k at x kn c s fine
    step_inv home env sc _ _ _ k (step_apply_name {k = i} {i = j} {f = g} {ts = ts} n is xs x) kn c s fine = apply_name_inv Z E each home i j g ts sc k n is xs x kn c s fine
    step_inv home env sc _ _ _ k (step_apply_name_raises xs) kn c s fine = ((all_given Z E each home sc xs kn c s fine.0).0, tt)
    step_inv home env sc _ _ _ k (step_apply {k = i} {t = t} {ts = ts} n xs x) kn c s fine = f.apply_inv Z E each home i t ts sc k n xs x kn c s fine
    step_inv home env sc _ _ _ k (step_call {k = i} {t = t} {u = u} {ts = ts} xs x) kn c s fine = f.call_inv Z E each home literals i t u ts sc k xs x kn c s fine
    step_inv home env sc _ _ _ k (step_call_raises {k = i} {t = t} {u = u} {ts = ts} xs) kn c s fine =
        ((all_given Z E each home sc xs kn c s (fine_operands (V Z home) (Z.dead_clause home) (Z.dead_call home) sc k (m.call i t u ts) fine)).0, tt)
    step_inv home env sc _ _ _ k (step_primop {k = i} {x = x} {ts = ts} {ws = ws} calm xs from) kn c s fine = f.primop_inv Z E each home ws i x ts sc k calm xs from kn c s fine
    step_inv home env sc _ _ _ k (step_primop_raises xs) kn c s fine = ((all_given Z E each home sc xs kn c s fine).0, tt)
    step_inv home env sc _ _ _ k (step_try {k = i} {t = t} {u = u} {w = w} {xs = xs} {ys = ys} x n y) kn c s fine = f.try_inv Z E each home i t xs u ys w sc k x n y kn c s fine
    step_inv home env sc _ _ _ k (step_handle {k = i} {t = t} {u = u} {w = w} {xs = xs} {ys = ys} vs x n from y) kn c s fine = f.handler_inv Z E each home vs i t xs u ys w sc k x n from y kn c s fine
    step_inv home env sc _ _ _ k (step_try_stops {xs = xs} x) kn c s fine = ((each home env sc _ _ _ (Exactly (length xs)) x kn c s fine.0).0, tt)
    step_inv home env sc _ _ _ k (step_catch {v = v} x) kn c s fine = let h = each home env sc _ _ _ (Exactly 1) x kn c s fine in (h.0, res_any Z.types Z.program Z.callee Z.states Z.dead_clause Z.dead_call k (value any) v h.1.0.0 refl)
    step_inv home env sc _ _ _ k (step_caught {v = v} x from) kn c s fine = let h =
        each home env sc _ _ _ (Exactly 1) x kn c s fine in (h.0, res_any Z.types Z.program Z.callee Z.states Z.dead_clause Z.dead_call k (value any) v (Z.world v from) refl)
    step_inv home env sc _ _ _ k (step_catch_stops x) kn c s fine = ((each home env sc _ _ _ (Exactly 1) x kn c s fine).0, tt)
    step_inv home env sc _ _ _ k (step_receive {k = i} {cs = cs} {t = t} {u = u} x from ch) kn c s fine = f.receive_inv Z E each home extends names i cs t u sc k x from ch kn c s fine
    step_inv home env sc _ _ _ k (step_timeout {k = i} {cs = cs} {t = t} {u = u} x y) kn c s fine = f.timeout_inv Z E each home extends names i cs t u sc k x y kn c s fine
    step_inv home env sc _ _ _ k (step_waits x) kn c s fine = ((each home env sc _ _ _ (Exactly 1) x kn c s fine.0).0, tt)
    step_inv home env sc _ _ _ k (step_receive_fails x) kn c s fine = ((each home env sc _ _ _ (Exactly 1) x kn c s fine.0).0, tt)

  -- ---- what evaluations with fuel say of variables and literals

  named_one : (fuel : ℕ) (home : Atom) (env : Env) (t : m.Tree) (v : Value) (tr : Trace) → EvalWith Z.program Z.from fuel home env t (gives (and_value v no_value)) tr → NameIs Z.types env (variable_name t) v
  named_one zero home env t v tr h = absurd (no_values h.0)
  named_one (suc fuel) home env (m.variable i x) v tr h = of_step h
    where
      of_step : {tr : Trace} → Step Z.program Z.from (EvalWith Z.program Z.from fuel) home env (m.variable i x) (gives (and_value v no_value)) tr → value_of env x ≡ Some v
      of_step (step_variable e) = e
  named_one (suc fuel) home env _ v tr h = tt

  named_all : (fuel : ℕ) (home : Atom) {env : Env} {ts : m.Trees} {vs : Values} {tr : Trace} → AllGive (EvalWith Z.program Z.from fuel home) env ts vs tr → NamesAre Z.types env (variable_names ts) vs
  named_all fuel home give_none = tt
  named_all fuel home (give_next {t = t} {v = v} x xs) = (named_one fuel home _ t v _ x, named_all fuel home xs)

  unnamed : (env : Env) (n : ℕ) (vs : Values) → count vs ≡ n → NamesAre Z.types env (replicate n None) vs
  unnamed env zero no_value e = tt
  unnamed env zero (and_value v vs) e = absurd (omega (arith, e))
  unnamed env (suc n) no_value e = absurd (omega (arith, e))
  unnamed env (suc n) (and_value v vs) e = (tt, unnamed env n vs (omega (arith, e)))

  arguments_named : (fuel : ℕ) → f.Names Z (EvalWith Z.program Z.from fuel)
  arguments_named zero home env t vs tr n h e = absurd (no_values h.0)
  arguments_named (suc fuel) home env (m.variable i x) vs tr n h e = of_step h
    where
      of_step : {vs : Values} {tr : Trace} → Step Z.program Z.from (EvalWith Z.program Z.from fuel) home env (m.variable i x) (gives vs) tr → NamesAre Z.types env (Some x ∷ []) vs
      of_step (step_variable q) = (q, tt)
  arguments_named (suc fuel) home env (m.values i ts) vs tr n h e = of_step h
    where
      of_step : {vs : Values} {tr : Trace} → Step Z.program Z.from (EvalWith Z.program Z.from fuel) home env (m.values i ts) (gives vs) tr → NamesAre Z.types env (variable_names ts) vs
      of_step (step_values xs) = named_all fuel home xs
  arguments_named (suc fuel) home env _ vs tr n h e = unnamed env n vs e

  abbrev the_atom : Value → Atom
  the_atom (atom a) = a
  the_atom v = []

  literals_give : (fuel : ℕ) (home : Atom) (env : Env) (t : m.Tree) (x y : Atom) (tr : Trace) → literal_atom t ≡ Some x → EvalWith Z.program Z.from fuel home env t (gives (and_value (atom y) no_value)) tr → y ≡ x
  literals_give zero home env t x y tr e h = absurd (no_values h.0)
  literals_give (suc fuel) home env t x y tr e h =
      let lit = literal_is t x e in
      of_step lit.0 (subst (λ z. Step Z.program Z.from (EvalWith Z.program Z.from fuel) home env z (gives (and_value (atom y) no_value)) tr) lit.1 h)
    where
      of_step : {tr : Trace} (i : Mark) → Step Z.program Z.from (EvalWith Z.program Z.from fuel) home env (m.literal i (l.Atom x)) (gives (and_value (atom y) no_value)) tr → y ≡ x
      of_step i (step_literal is) = ap the_atom is

  pub every_inv : (fuel : ℕ) → Invariant Z (EvalWith Z.program Z.from fuel)
  every_inv zero home env sc t o tr k h kn c s fine = subst (λ z. AllOk Z z × Result Z k (walk (V Z home) sc k t) o) (sym h.1) (tt, subst (λ z. Result Z k (walk (V Z home) sc k t) z) (sym h.0) tt)
  every_inv (suc fuel) home env sc t o tr k h kn c s fine =
      step_inv (EvalWith Z.program Z.from fuel) (every_inv fuel) (every_extends Z.facts (strict (V Z [])) Z.program Z.from Z.honest_strict fuel) (arguments_named fuel) (literals_give fuel) home env sc t o tr k h kn c s fine
