-- Every expression that gives values meets its rows, with any fuel.
use Rattle.std.proofs.Common.{◌≡◌, ℕ, zero, suc, ◌∷◌, ◌++◌}
use Rattle.type_kinds.specs.declared.atom.Atom.{Atom}
use Rattle.type_lattice_model.specs.Values.{Value, Values, Env}
use Rattle.core_ast.specs.Model as m
use Rattle.core_scope.specs.declared.ask.Ask.{Ask}
use Rattle.cons_tree.specs.Environments.{Assignment}
use Rattle.core_meaning.specs.Programs.{Program}
use Rattle.core_meaning.specs.Meaning.{Failure, Outcome, gives, fails, Trace, applied, back_by}
use Rattle.core_meaning.specs.Meaning.{Step, step_variable, step_literal, step_function, step_name, step_external, step_list, step_tuple, step_values, step_new_map, step_map, step_binary, step_chain, step_case, step_letrec}
use Rattle.core_meaning.specs.Meaning.{step_apply_name, step_apply, step_call, step_primop, step_try, step_handle, step_catch, step_caught, step_receive, step_timeout}
use Rattle.core_meaning.specs.Runs.{EvalWith}
use Rattle.cons_gen_rows.specs.Scopes.{Scope}
use Rattle.cons_gen_rows.specs.Passes.{Knowledge}
use Rattle.sound_laws.specs.Facts.{Facts}
use Rattle.sound_laws.specs.Knowledge.{IsHonest, AllBearOut}
use Rattle.sound_laws.specs.Satisfied.{AreAsked, Meets}
use Rattle.sound_laws.specs.Scopes.{StandsFor}
use Rattle.sound_laws.proofs.Applications.{apply_name_extends, apply_extends, call_extends, primop_extends}
use Rattle.sound_laws.proofs.Bindings.{chain_extends, letrec_extends, try_extends, handler_extends, catch_extends}
use Rattle.sound_laws.proofs.Choices.{case_extends, receive_extends, timeout_extends}
use Rattle.sound_laws.proofs.Parts.{Extends, back_bears}
use Rattle.sound_laws.proofs.Plain.{variable_extends, literal_extends, function_extends, name_extends, external_extends, list_extends, tuple_extends, new_map_extends, updated_map_extends, binary_extends, values_extend}

pub no_values : {vs : Values} {f : Failure} → gives vs ≡ fails f → ⊥
no_values e = cc

module _ (F : Facts) (P : Knowledge) (U : Program) (W : Value → Type 0) (honest : IsHonest P U) where
  module _ (E : Atom → Env → m.Tree → Outcome → Trace → Type 0) (each : Extends P U E) (home : Atom) where
    step_extends : (env : Env) (t : m.Tree) (vs : Values) (tr : Trace) (sc : Scope) (s : ℕ) (a : Assignment) (k : Ask) → Step U W E home env t (gives vs) tr → AllBearOut P U tr → StandsFor home s a sc env → AreAsked k vs
        → Meets P home sc s a k t vs
    step_extends env _ _ _ sc s a k (step_variable {k = i} {x = x} {v = v} e) g st n = variable_extends F P U E each home i x v sc s a k e st
    step_extends env _ _ _ sc s a k (step_literal {k = i} {c = c} {v = v} is) g st n = literal_extends F P U E each home i c v sc s a k is
    step_extends env _ _ _ sc s a k (step_function {k = i} {xs = xs} {t = t} is) g st n = function_extends F P U E each home i xs t env sc s a k
    step_extends env _ _ _ sc s a k (step_name {k = i} {f = f} {c = c} e) g st n = name_extends F P U E each home i f c env sc s a k e
    step_extends env _ _ _ sc s a k (step_external {k = i} {x = x} {f = f}) g st n = external_extends F P U E each home i x f sc s a k
    step_extends env _ _ _ sc s a k (step_list {k = i} {ts = ts} {t = t} xs) g st n = list_extends F P U E each home i ts t sc s a k xs g st
    step_extends env _ _ _ sc s a k (step_tuple {k = i} {ts = ts} xs) g st n = tuple_extends F P U E each home i ts sc s a k xs g st
    step_extends env _ _ _ sc s a k (step_values {k = i} {ts = ts} xs) g st n = values_extend F P U E each home i ts sc s a k xs g st n
    step_extends env _ _ _ sc s a k (step_new_map {k = i} {ps = ps} {qs = qs} xs made up) g st n = new_map_extends F P U E each home i ps qs sc s a k xs g st
    step_extends env _ _ _ sc s a k (step_map {k = i} {ps = ps} {t = t} {old = old} {qs = qs} xs x made up) g st n = updated_map_extends F P U E each home i ps t old qs sc s a k xs x g st
    step_extends env _ _ _ sc s a k (step_binary {k = i} {ss = ss} {bs = bs} xs) g st n = binary_extends F P U E each home i ss bs sc s a k xs g st
    step_extends env _ _ _ sc s a k (step_chain {k = i} {ss = ss} {t = t} x) g st n = chain_extends P U E each home i ss t sc s a k x g st n
    step_extends env _ _ _ sc s a k (step_case {k = i} {t = t} {cs = cs} x many c) g st n = case_extends F P U W E each home i t cs sc s a k x many c g st n
    step_extends env _ _ _ sc s a k (step_letrec {k = i} {ds = ds} {t = t} at x) g st n = letrec_extends P U E each home i ds t sc s a k x g st n
    step_extends env _ ws _ sc s a k (step_apply_name {k = i} {i = j} {f = f} {ts = ts} arity is xs x) g st n = apply_name_extends F P U W honest E each home i j f ts (back_by home i.label (gives ws)) sc s a k arity is xs x g st
    step_extends env _ ws _ sc s a k (step_apply {k = i} {t = t} {ts = ts} {c = c} {more = more} unnamed xs x) g st n =
        apply_extends F P U W honest E each home i t ts (applied home i.label c ∷ (more ++ back_by home i.label (gives ws))) sc s a k unnamed xs x g st
    step_extends env _ ws _ sc s a k (step_call {k = i} {t = t} {u = u} {ts = ts} xs x) g st n = call_extends F P U W honest E each home i t u ts (back_by home i.label (gives ws)) sc s a k xs x g st n
    step_extends env _ ws _ sc s a k (step_primop {k = i} {x = x} {ts = ts} calm xs from) g st n = primop_extends F P U W honest E each home ws i x ts sc s a k calm xs g st n
    step_extends env _ _ _ sc s a k (step_try {k = i} {t = t} {u = u} {w = w} {xs = xs} {ys = ys} x many y) g st n = try_extends P U E each home i t xs u ys w sc s a k x many y g st n
    step_extends env _ _ _ sc s a k (step_handle {k = i} {t = t} {u = u} {w = w} {xs = xs} {ys = ys} us {tr = tr} {more = more} x many from y) g st n =
        handler_extends P U E each home us i t xs u ys w sc s a k many y (back_bears P U tr more g) st n
    step_extends env _ _ _ sc s a k (step_catch {k = i} {t = t} {v = v} x) g st n = catch_extends P U E each home i t v sc s a k
    step_extends env _ _ _ sc s a k (step_caught {k = i} {t = t} {v = v} x from) g st n = catch_extends P U E each home i t v sc s a k
    step_extends env _ _ _ sc s a k (step_receive {k = i} {cs = cs} {t = t} {u = u} x from c) g st n = receive_extends F P U W E each home i cs t u sc s a k x c g st n
    step_extends env _ _ _ sc s a k (step_timeout {k = i} {cs = cs} {t = t} {u = u} x y) g st n = timeout_extends F P U W E each home i cs t u sc s a k x y g st n

  pub every_extends : (fuel : ℕ) → Extends P U (EvalWith U W fuel)
  every_extends zero home env t vs tr sc s a k h g st n = absurd (no_values h.0)
  every_extends (suc fuel) home env t vs tr sc s a k h g st n = step_extends (EvalWith U W fuel) (every_extends fuel) home env t vs tr sc s a k h g st n
