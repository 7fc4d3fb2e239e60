-- What is true of each event but perhaps of what functions give, and is kept there, is true of each event of a run.
use Rattle.std.proofs.Common.{◌≡◌, ℕ, zero, suc, [], ◌∷◌, ◌++◌, length, Some, subst, sym}
use Rattle.type_kinds.specs.declared.atom.Atom.{Atom}
use Rattle.core_ast.specs.Model as m
use Rattle.core_scope.specs.Functions.{LabelledFunction}
use Rattle.type_lattice_model.specs.Values.{Value, closure, Values, no_value, and_value, Env, count}
use Rattle.core_meaning.specs.Programs.{Program, function_at}
use Rattle.core_meaning.specs.Environments.{with_variables}
use Rattle.core_meaning.specs.Meaning.{Failure, Outcome, gives, fails, Event, made, chosen, applied, entered, gave, back, Trace, back_by, AllGive}
use Rattle.core_meaning.specs.Meaning.{give_none, give_next, OneFails, fail_here, fail_later, Chained, chain_ends, let_gives, let_fails, do_gives, do_fails}
use Rattle.core_meaning.specs.Meaning.{Choose, choose_none, choose_missed, choose_refused, choose_raised, choose_failed, choose_this, Enter, enter_gives, enter_fails}
use Rattle.core_meaning.specs.Meaning.{Called, call_built_in, call_enters, call_outside, call_raises, Apply, apply_closure, apply_external, apply_foreign, apply_raises}
use Rattle.core_meaning.specs.Meaning.{Step, step_variable, step_literal, step_function, step_name, step_external, step_part_fails, step_list, step_tuple, step_values}
use Rattle.core_meaning.specs.Meaning.{step_new_map, step_new_map_raises, step_map, step_map_raises, step_binary, step_binary_raises, step_chain, step_case, step_case_fails}
use Rattle.core_meaning.specs.Meaning.{step_letrec, step_apply_name, step_apply_name_raises, step_apply, step_call, step_call_raises, step_primop, step_primop_raises, step_try}
use Rattle.core_meaning.specs.Meaning.{step_handle, step_try_stops, step_catch, step_caught, step_catch_stops, step_receive, step_timeout, step_waits, step_receive_fails}
use Rattle.core_meaning.specs.Runs.{EvalWith}
use Rattle.sound_laws.specs.Knowledge.{EachEvent}

pub both_traces : (Q : Event → Type 0) (tr more : Trace) → EachEvent Q tr → EachEvent Q more → EachEvent Q (tr ++ more)
both_traces Q [] more h g = g
both_traces Q (x ∷ tr) more h g = (h.0, both_traces Q tr more h.1 g)

-- what is true of each event that isn't what a function gave
pub record IsOfOthers (Q : Event → Type 0) : Type 0 where
  pub of_made : (c : Value) → Q (made c)
  pub of_chosen : (home : Atom) (label : ℕ) → Q (chosen home label)
  pub of_applied : (home : Atom) (label : ℕ) (c : Value) → Q (applied home label c)
  pub of_entered : (c : Value) (vs : Values) → Q (entered c vs)
  pub of_back : (home : Atom) (label : ℕ) (v : Value) → Q (back home label v)

module _ (U : Program) (W : Value → Type 0) (Q : Event → Type 0) (others : IsOfOthers Q) where
  -- it is true of each event of an evaluation, and of what a function gives where it is true of all before
  abbrev pub Everywhere : (Atom → Env → m.Tree → Outcome → Trace → Type 0) → Type 0
  Everywhere E = (home : Atom) (env : Env) (t : m.Tree) (o : Outcome) (tr : Trace) → E home env t o tr → EachEvent Q tr

  abbrev pub IsKept : (Atom → Env → m.Tree → Outcome → Trace → Type 0) → Type 0
  IsKept E = (home : Atom) (label : ℕ) (arity : ℕ) (c : LabelledFunction) (env : Env) (vs : Values) (v : Value) (tr : Trace) → function_at U home label ≡ Some c → length c.parameters ≡ count vs
      → E home (with_variables c.parameters vs env) c.body (gives (and_value v no_value)) tr → EachEvent Q tr → Q (gave (closure home label arity env) vs v)

  module _ (E : Atom → Env → m.Tree → Outcome → Trace → Type 0) (all : Everywhere E) (is_kept : IsKept E) where
    all_given : {home : Atom} {env : Env} {ts : m.Trees} {vs : Values} {tr : Trace} → AllGive (E home) env ts vs tr → EachEvent Q tr
    all_given give_none = tt
    all_given (give_next {tr = tr} {more = more} x xs) = both_traces Q tr more (all _ _ _ _ _ x) (all_given xs)

    one_failing : {home : Atom} {env : Env} {ts : m.Trees} {f : Failure} {tr : Trace} → OneFails (E home) env ts f tr → EachEvent Q tr
    one_failing (fail_here x) = all _ _ _ _ _ x
    one_failing (fail_later {tr = tr} {more = more} x xs) = both_traces Q tr more (all _ _ _ _ _ x) (one_failing xs)

    chained : {home : Atom} {env : Env} {ss : m.Steps} {t : m.Tree} {o : Outcome} {tr : Trace} → Chained (E home) env ss t o tr → EachEvent Q tr
    chained (chain_ends x) = all _ _ _ _ _ x
    chained (let_gives {tr = tr} {more = more} x n xs) = both_traces Q tr more (all _ _ _ _ _ x) (chained xs)
    chained (let_fails x) = all _ _ _ _ _ x
    chained (do_gives {tr = tr} {more = more} x xs) = both_traces Q tr more (all _ _ _ _ _ x) (chained xs)
    chained (do_fails x) = all _ _ _ _ _ x

    choosing : {none : Failure} {home : Atom} {env : Env} {vs : Values} {cs : m.Clauses} {o : Outcome} {tr : Trace} → Choose (E home) W none home env vs cs o tr → EachEvent Q tr
    choosing choose_none = tt
    choosing (choose_missed h xs) = choosing xs
    choosing (choose_refused {tr = tr} {more = more} h x n xs) = both_traces Q tr more (all _ _ _ _ _ x) (choosing xs)
    choosing (choose_raised {tr = tr} {more = more} h x xs) = both_traces Q tr more (all _ _ _ _ _ x) (choosing xs)
    choosing (choose_failed h x) = all _ _ _ _ _ x
    choosing {home = home} (choose_this {k = k} {tr = tr} {more = more} h x y) = both_traces Q tr (chosen home k.label ∷ more) (all _ _ _ _ _ x) (others.of_chosen home k.label, all _ _ _ _ _ y)

    pub entering : {c : Value} {vs : Values} {o : Outcome} {tr : Trace} → Enter U W E c vs o tr → EachEvent Q tr
    entering (enter_gives {home = home} {label = label} {arity = arity} {env = env} {c = c} {vs = vs} {v = v} {tr = tr} a at n x) =
        let inside = all _ _ _ _ _ x in
        (others.of_entered (closure home label arity env) vs, both_traces Q tr (gave (closure home label arity env) vs v ∷ []) inside (is_kept home label arity c env vs v tr at n x inside, tt))
    entering (enter_fails {home = home} {label = label} {arity = arity} {env = env} {vs = vs} a at n x) = (others.of_entered (closure home label arity env) vs, all _ _ _ _ _ x)

    calling : {x name : Atom} {vs : Values} {o : Outcome} {tr : Trace} → Called U W E x name vs o tr → EachEvent Q tr
    calling (call_built_in e may w) = tt
    calling (call_enters e top x) = entering x
    calling (call_outside e w) = tt
    calling call_raises = tt

    applying : {c : Value} {vs : Values} {o : Outcome} {tr : Trace} → Apply U W E c vs o tr → EachEvent Q tr
    applying (apply_closure x) = entering x
    applying (apply_external a x) = calling x
    applying (apply_foreign a w) = tt
    applying apply_raises = tt

    coming_back : (home : Atom) (label : ℕ) (o : Outcome) → EachEvent Q (back_by home label o)
    coming_back home label (gives no_value) = tt
    coming_back home label (gives (and_value v no_value)) = (others.of_back home label v, tt)
    coming_back home label (gives (and_value v (and_value w vs))) = tt
    coming_back home label (fails f) = tt

    stepping : (home : Atom) (env : Env) (t : m.Tree) (o : Outcome) (tr : Trace) → Step U W E home env t o tr → EachEvent Q tr
    stepping home env _ _ _ (step_variable h) = tt
    stepping home env _ _ _ (step_literal h) = tt
    stepping home env _ _ _ (step_function {k = k} {xs = xs} h) = (others.of_made (closure home k.label (length xs) env), tt)
    stepping home env _ _ _ (step_name {c = c} h) = (others.of_made c, tt)
    stepping home env _ _ _ step_external = tt
    stepping home env _ _ _ (step_part_fails x) = one_failing x
    stepping home env _ _ _ (step_list xs) = all_given xs
    stepping home env _ _ _ (step_tuple xs) = all_given xs
    stepping home env _ _ _ (step_values xs) = all_given xs
    stepping home env _ _ _ (step_new_map xs made_of up) = all_given xs
    stepping home env _ _ _ (step_new_map_raises xs) = all_given xs
    stepping home env _ _ _ (step_map {tr = tr} {more = more} xs x made_of up) = both_traces Q tr more (all_given xs) (all _ _ _ _ _ x)
    stepping home env _ _ _ (step_map_raises xs) = all_given xs
    stepping home env _ _ _ (step_binary xs) = all_given xs
    stepping home env _ _ _ (step_binary_raises xs) = all_given xs
    stepping home env _ _ _ (step_chain xs) = chained xs
    stepping home env _ _ _ (step_case {tr = tr} {more = more} x n c) = both_traces Q tr more (all _ _ _ _ _ x) (choosing c)
    stepping home env _ _ _ (step_case_fails x) = all _ _ _ _ _ x
    stepping home env _ _ _ (step_letrec h x) = all _ _ _ _ _ x
    stepping home env _ _ _ (step_apply_name {k = k} {o = o} {tr = tr} {more = more} n h xs x) =
        both_traces Q tr (more ++ back_by home k.label o) (all_given xs) (both_traces Q more (back_by home k.label o) (entering x) (coming_back home k.label o))
    stepping home env _ _ _ (step_apply_name_raises xs) = all_given xs
    stepping home env _ _ _ (step_apply {k = k} {c = c} {o = o} {tr = tr} {more = more} n xs x) =
        both_traces Q tr (applied home k.label c ∷ (more ++ back_by home k.label o)) (all_given xs) (others.of_applied home k.label c, both_traces Q more (back_by home k.label o) (applying x) (coming_back home k.label o))
    stepping home env _ _ _ (step_call {k = k} {o = o} {tr = tr} {more = more} xs x) = both_traces Q tr (more ++ back_by home k.label o) (all_given xs) (both_traces Q more (back_by home k.label o) (calling x) (coming_back home k.label o))
    stepping home env _ _ _ (step_call_raises xs) = all_given xs
    stepping home env _ _ _ (step_primop n xs w) = all_given xs
    stepping home env _ _ _ (step_primop_raises xs) = all_given xs
    stepping home env _ _ _ (step_try {tr = tr} {more = more} x n y) = both_traces Q tr more (all _ _ _ _ _ x) (all _ _ _ _ _ y)
    stepping home env _ _ _ (step_handle vs {tr = tr} {more = more} x n w y) = both_traces Q tr more (all _ _ _ _ _ x) (all _ _ _ _ _ y)
    stepping home env _ _ _ (step_try_stops x) = all _ _ _ _ _ x
    stepping home env _ _ _ (step_catch x) = all _ _ _ _ _ x
    stepping home env _ _ _ (step_caught x w) = all _ _ _ _ _ x
    stepping home env _ _ _ (step_catch_stops x) = all _ _ _ _ _ x
    stepping home env _ _ _ (step_receive {tr = tr} {more = more} x w c) = both_traces Q tr more (all _ _ _ _ _ x) (choosing c)
    stepping home env _ _ _ (step_timeout {tr = tr} {more = more} x y) = both_traces Q tr more (all _ _ _ _ _ x) (all _ _ _ _ _ y)
    stepping home env _ _ _ (step_waits x) = all _ _ _ _ _ x
    stepping home env _ _ _ (step_receive_fails x) = all _ _ _ _ _ x

  -- with any fuel
  pub everywhere : ((fuel : ℕ) → IsKept (EvalWith U W fuel)) → (fuel : ℕ) → Everywhere (EvalWith U W fuel)
  everywhere is_kept zero home env t o tr h = subst (EachEvent Q) (sym h.1) tt
  everywhere is_kept (suc fuel) home env t o tr h = stepping (EvalWith U W fuel) (everywhere is_kept fuel) (is_kept fuel) home env t o tr h
