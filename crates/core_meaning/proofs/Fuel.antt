-- More fuel keeps values and raises: where each part that ends so goes on to end so, the whole does.
use Rattle.std.proofs.Common.{◌≡◌, ℕ, zero, suc, ◌+◌, ◌≤◌, ◌-◌, refl, subst, arith}
use Rattle.type_kinds.specs.declared.atom.Atom.{Atom}
use Rattle.core_ast.specs.Model as m
use Rattle.type_lattice_model.specs.Values.{Value, Values, Env}
use Rattle.core_meaning.specs.Programs.{Program}
use Rattle.core_meaning.specs.Meaning.{Failure, Outcome, fails, Trace, Meanings, AllGive, give_none, give_next, OneFails, fail_here, fail_later, Chained, chain_ends, let_gives, let_fails, do_gives, do_fails, Choose, choose_none}
use Rattle.core_meaning.specs.Meaning.{choose_missed, choose_refused, choose_raised, choose_failed, choose_this, Enter, enter_gives, enter_fails, Called, call_built_in, call_enters, call_outside, call_raises, Apply, apply_closure}
use Rattle.core_meaning.specs.Meaning.{apply_external, apply_foreign, apply_raises, Step, step_variable, step_literal, step_function, step_name, step_external, step_part_fails, step_list, step_tuple, step_values, step_new_map}
use Rattle.core_meaning.specs.Meaning.{step_new_map_raises, step_map, step_map_raises, step_binary, step_binary_raises, step_chain, step_case, step_case_fails, step_letrec, step_apply_name, step_apply_name_raises, step_apply, step_call}
use Rattle.core_meaning.specs.Meaning.{step_call_raises, step_primop, step_primop_raises, step_try, step_handle, step_try_stops, step_catch, step_caught, step_catch_stops, step_receive, step_timeout, step_waits, step_receive_fails}
use Rattle.core_meaning.specs.Runs.{HasEnded, EvalWith}

-- what one meaning says of an expression that ends, the other says too
abbrev pub Keeps : Meanings → Meanings → Type 0
Keeps E F = (home : Atom) (env : Env) (t : m.Tree) (o : Outcome) (tr : Trace) → HasEnded o → E home env t o tr → F home env t o tr

module _ (U : Program) (W : Value → Type 0) (E F : Atom → Env → m.Tree → Outcome → Trace → Type 0) (keeps : Keeps E F) where
  gives_kept : {home : Atom} {env : Env} {ts : m.Trees} {vs : Values} {tr : Trace} → AllGive (E home) env ts vs tr → AllGive (F home) env ts vs tr
  gives_kept give_none = give_none
  gives_kept (give_next x xs) = give_next (keeps _ _ _ _ _ tt x) (gives_kept xs)

  fails_kept : {home : Atom} {env : Env} {ts : m.Trees} {f : Failure} {tr : Trace} → HasEnded (fails f) → OneFails (E home) env ts f tr → OneFails (F home) env ts f tr
  fails_kept d (fail_here x) = fail_here (keeps _ _ _ _ _ d x)
  fails_kept d (fail_later x xs) = fail_later (keeps _ _ _ _ _ tt x) (fails_kept d xs)

  chain_kept : {home : Atom} {env : Env} {ss : m.Steps} {t : m.Tree} {o : Outcome} {tr : Trace} → HasEnded o → Chained (E home) env ss t o tr → Chained (F home) env ss t o tr
  chain_kept d (chain_ends x) = chain_ends (keeps _ _ _ _ _ d x)
  chain_kept d (let_gives x n xs) = let_gives (keeps _ _ _ _ _ tt x) n (chain_kept d xs)
  chain_kept d (let_fails x) = let_fails (keeps _ _ _ _ _ d x)
  chain_kept d (do_gives x xs) = do_gives (keeps _ _ _ _ _ tt x) (chain_kept d xs)
  chain_kept d (do_fails x) = do_fails (keeps _ _ _ _ _ d x)

  choice_kept : {none : Failure} {home : Atom} {env : Env} {vs : Values} {cs : m.Clauses} {o : Outcome} {tr : Trace} → HasEnded o → Choose (E home) W none home env vs cs o tr → Choose (F home) W none home env vs cs o tr
  choice_kept d choose_none = choose_none
  choice_kept d (choose_missed h xs) = choose_missed h (choice_kept d xs)
  choice_kept d (choose_refused h x n xs) = choose_refused h (keeps _ _ _ _ _ tt x) n (choice_kept d xs)
  choice_kept d (choose_raised h x xs) = choose_raised h (keeps _ _ _ _ _ tt x) (choice_kept d xs)
  choice_kept d (choose_failed h x) = choose_failed h (keeps _ _ _ _ _ d x)
  choice_kept d (choose_this h x y) = choose_this h (keeps _ _ _ _ _ tt x) (keeps _ _ _ _ _ d y)

  pub enter_kept : {c : Value} {vs : Values} {o : Outcome} {tr : Trace} → HasEnded o → Enter U W E c vs o tr → Enter U W F c vs o tr
  enter_kept d (enter_gives a k n x) = enter_gives a k n (keeps _ _ _ _ _ tt x)
  enter_kept d (enter_fails a k n x) = enter_fails a k n (keeps _ _ _ _ _ d x)

  call_kept : {x name : Atom} {vs : Values} {o : Outcome} {tr : Trace} → HasEnded o → Called U W E x name vs o tr → Called U W F x name vs o tr
  call_kept d (call_built_in s may w) = call_built_in s may w
  call_kept d (call_enters s k x) = call_enters s k (enter_kept d x)
  call_kept d (call_outside s w) = call_outside s w
  call_kept d call_raises = call_raises

  apply_kept : {c : Value} {vs : Values} {o : Outcome} {tr : Trace} → HasEnded o → Apply U W E c vs o tr → Apply U W F c vs o tr
  apply_kept d (apply_closure x) = apply_closure (enter_kept d x)
  apply_kept d (apply_external a x) = apply_external a (call_kept d x)
  apply_kept d (apply_foreign a w) = apply_foreign a w
  apply_kept d apply_raises = apply_raises

  step_kept : (home : Atom) (env : Env) (t : m.Tree) (o : Outcome) (tr : Trace) → HasEnded o → Step U W E home env t o tr → Step U W F home env t o tr
  step_kept home env _ _ _ d (step_variable h) = step_variable h
  step_kept home env _ _ _ d (step_literal h) = step_literal h
  step_kept home env _ _ _ d (step_function h) = step_function h
  step_kept home env _ _ _ d (step_name h) = step_name h
  step_kept home env _ _ _ d step_external = step_external
  step_kept home env _ _ _ d (step_part_fails x) = step_part_fails (fails_kept d x)
  step_kept home env _ _ _ d (step_list xs) = step_list (gives_kept xs)
  step_kept home env _ _ _ d (step_tuple xs) = step_tuple (gives_kept xs)
  step_kept home env _ _ _ d (step_values xs) = step_values (gives_kept xs)
  step_kept home env _ _ _ d (step_new_map xs made_of up) = step_new_map (gives_kept xs) made_of up
  step_kept home env _ _ _ d (step_new_map_raises xs) = step_new_map_raises (gives_kept xs)
  step_kept home env _ _ _ d (step_map xs x made_of up) = step_map (gives_kept xs) (keeps _ _ _ _ _ tt x) made_of up
  step_kept home env _ _ _ d (step_map_raises xs) = step_map_raises (gives_kept xs)
  step_kept home env _ _ _ d (step_binary xs) = step_binary (gives_kept xs)
  step_kept home env _ _ _ d (step_binary_raises xs) = step_binary_raises (gives_kept xs)
  step_kept home env _ _ _ d (step_chain xs) = step_chain (chain_kept d xs)
  step_kept home env _ _ _ d (step_case x n c) = step_case (keeps _ _ _ _ _ tt x) n (choice_kept d c)
  step_kept home env _ _ _ d (step_case_fails x) = step_case_fails (keeps _ _ _ _ _ d x)
  step_kept home env _ _ _ d (step_letrec h x) = step_letrec h (keeps _ _ _ _ _ d x)
  step_kept home env _ _ _ d (step_apply_name n k xs x) = step_apply_name n k (gives_kept xs) (enter_kept d x)
  step_kept home env _ _ _ d (step_apply_name_raises xs) = step_apply_name_raises (gives_kept xs)
  step_kept home env _ _ _ d (step_apply n xs x) = step_apply n (gives_kept xs) (apply_kept d x)
  step_kept home env _ _ _ d (step_call xs x) = step_call (gives_kept xs) (call_kept d x)
  step_kept home env _ _ _ d (step_call_raises xs) = step_call_raises (gives_kept xs)
  step_kept home env _ _ _ d (step_primop n xs w) = step_primop n (gives_kept xs) w
  step_kept home env _ _ _ d (step_primop_raises xs) = step_primop_raises (gives_kept xs)
  step_kept home env _ _ _ d (step_try x n y) = step_try (keeps _ _ _ _ _ tt x) n (keeps _ _ _ _ _ d y)
  step_kept home env _ _ _ d (step_handle vs x n w y) = step_handle vs (keeps _ _ _ _ _ tt x) n w (keeps _ _ _ _ _ d y)
  step_kept home env _ _ _ d (step_try_stops x) = step_try_stops (keeps _ _ _ _ _ d x)
  step_kept home env _ _ _ d (step_catch x) = step_catch (keeps _ _ _ _ _ tt x)
  step_kept home env _ _ _ d (step_caught x w) = step_caught (keeps _ _ _ _ _ tt x) w
  step_kept home env _ _ _ d (step_catch_stops x) = step_catch_stops (keeps _ _ _ _ _ d x)
  step_kept home env _ _ _ d (step_receive x w c) = step_receive (keeps _ _ _ _ _ tt x) w (choice_kept d c)
  step_kept home env _ _ _ d (step_timeout x y) = step_timeout (keeps _ _ _ _ _ tt x) (keeps _ _ _ _ _ d y)
  step_kept home env _ _ _ d (step_waits x) = step_waits (keeps _ _ _ _ _ tt x)
  step_kept home env _ _ _ d (step_receive_fails x) = step_receive_fails (keeps _ _ _ _ _ d x)

module _ (U : Program) (W : Value → Type 0) where
  one_more : (n : ℕ) → Keeps (EvalWith U W n) (EvalWith U W (suc n))
  one_more zero home env t o tr d h = absurd (subst HasEnded h.0 d)
  one_more (suc n) home env t o tr d h = step_kept U W (EvalWith U W n) (EvalWith U W (suc n)) (one_more n) home env t o tr d h

  -- k units of fuel more
  some_more : (n k j : ℕ) → j ≡ n + k → Keeps (EvalWith U W n) (EvalWith U W j)
  some_more n zero j e home env t o tr d h = subst (λ i. EvalWith U W i home env t o tr) {x = n} {y = j} (omega (arith, e)) h
  some_more n (suc k) j e home env t o tr d h = subst (λ i. EvalWith U W i home env t o tr) {x = suc (n + k)} {y = j} (omega (arith, e)) (one_more (n + k) home env t o tr d (some_more n k (n + k) refl home env t o tr d h))

  pub more_kept : (n j : ℕ) → n ≤ j → Keeps (EvalWith U W n) (EvalWith U W j)
  more_kept n j e = some_more n (j - n) j (omega (arith, e))
