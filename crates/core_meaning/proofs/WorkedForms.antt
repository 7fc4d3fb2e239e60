-- The forms worked by hand, step by step.
use Rattle.std.proofs.Common.{◌≡◌, ℕ, suc, pos, true, false, [], inl, refl}
use Rattle.std.specs.Prelude.{codes}
use Rattle.type_kinds.specs.declared.atom.Atom.{Atom}
use Rattle.core_ast.specs.declared.syntax.Mark.{Mark}
use Rattle.core_scope.specs.Asks.{is_raising}
use Rattle.type_lattice_model.specs.Values.{Value, int, atom, no_pair, and_pair, Env}
use Rattle.bif_types.specs.Results.{two_values, BifMay}
use Rattle.core_meaning.specs.Programs.{Program}
use Rattle.core_meaning.specs.Matching.{match_variable, match_none, match_next, miss_here, miss_literal}
use Rattle.core_meaning.specs.Meaning.{fails, raised, give_none, give_next, fail_here, fail_later, chain_ends, let_gives, let_fails, do_gives, do_fails, choose_none, choose_missed, choose_refused, choose_raised, choose_failed, choose_this}
use Rattle.core_meaning.specs.Meaning.{call_built_in, call_outside, call_raises, apply_external, apply_foreign, apply_raises, step_variable, step_literal}
use Rattle.core_meaning.specs.Meaning.{step_external, step_part_fails, step_list, step_tuple, step_values, step_new_map, step_new_map_raises}
use Rattle.core_meaning.specs.Meaning.{step_map, step_map_raises, step_binary, step_binary_raises, step_chain, step_case, step_case_fails}
use Rattle.core_meaning.specs.Meaning.{step_apply_name_raises, step_apply, step_call, step_call_raises, step_primop, step_primop_raises, step_try, step_handle}
use Rattle.core_meaning.specs.Meaning.{step_try_stops, step_catch, step_caught, step_catch_stops, step_receive, step_timeout, step_waits, step_receive_fails}
use Rattle.core_meaning.specs.Runs.{EvalWith}
use Rattle.core_meaning.specs.Forms.{number, raising, WorkedParts, WorkedChoices, WorkedCalls}

one_no_two : number 1 ≡ number 2 → ⊥
one_no_two e = cc

false_no_true : atom (codes "false") ≡ atom (codes "true") → ⊥
false_no_true e = cc

no_flag : false ≡ true → ⊥
no_flag e = cc

x_gives : is_raising (codes "x") ≡ true → ⊥
x_gives e = no_flag e

module _ (U : Program) (W : Value → Type 0) (home : Atom) (env : Env) (k : Mark) where
  raises : (n : ℕ) (inner : Env) → EvalWith U W (suc n) home inner (raising k) (fails raised) []
  raises n inner = step_primop_raises give_none

  pub parts : WorkedParts U W home env k
  parts = record {
    a_let = λ n. step_chain (let_gives (step_literal refl) refl (chain_ends (step_variable refl)));
    two_variables = λ n. step_chain (let_gives (step_values (give_next (step_literal refl) (give_next (step_literal refl) give_none))) refl (chain_ends (step_variable refl)));
    a_do = λ n. step_chain (do_gives (step_literal refl) (chain_ends (step_literal refl)));
    let_raises = λ n. step_chain (let_fails (raises (suc n) env));
    do_raises = λ n. step_chain (do_fails (raises (suc n) env));
    an_external = λ n. step_external;
    a_tuple = λ n. step_tuple (give_next (step_literal refl) (give_next (step_literal refl) give_none));
    improper_list = λ n. step_list (give_next (step_literal refl) (give_next (step_literal refl) give_none));
    proper_list = λ n. step_list (give_next (step_literal refl) (give_next (step_literal refl) (give_next (step_literal refl) give_none)));
    tuple_raises = λ n. step_part_fails (fail_later (step_literal refl) (fail_here (raises (suc n) env)));
    a_map = λ n. step_new_map (give_next (step_literal refl) (give_next (step_literal refl) give_none)) ((inl (inl refl), inl (inl refl)), tt) refl;
    map_raises = λ n. step_new_map_raises (give_next (step_literal refl) (give_next (step_literal refl) give_none));
    new_value = λ n. step_map {old = and_pair (number 1) (number 2) no_pair} (give_next (step_literal refl) (give_next (step_literal refl) give_none))
        (step_new_map (give_next (step_literal refl) (give_next (step_literal refl) give_none)) ((inl (inl refl), inl (inl refl)), tt) refl) ((inl (inl refl), inl (inl refl)), tt) refl;
    no_map = λ n. step_map_raises (give_next (step_literal refl) (give_next (step_literal refl) (give_next (step_literal refl) give_none)));
    a_binary = λ bs n. step_binary give_none;
    binary_raises = λ n. step_binary_raises give_none;
  }

  pub choices : WorkedChoices U W home env k
  choices = record {
    a_case = λ n. step_case (step_literal refl) refl (choose_missed (miss_here (miss_literal one_no_two)) (choose_this (match_next match_variable match_none) (step_literal refl) (step_variable refl)));
    no_clause_fits = λ n. step_case (step_literal refl) refl (choose_missed (miss_here (miss_literal one_no_two)) choose_none);
    case_raises = λ n. step_case_fails (raises (suc n) env);
    guard_refuses = λ n. step_case (step_literal refl) refl (choose_refused (match_next match_variable match_none) (step_literal refl) false_no_true
        (choose_this (match_next match_variable match_none) (step_literal refl) (step_variable refl)));
    guard_passes = λ n. step_case (step_literal refl) refl (choose_raised (match_next match_variable match_none) (step_primop_raises give_none) (choose_this (match_next match_variable match_none) (step_literal refl) (step_variable refl)));
    guard_raises = λ n. step_case (step_literal refl) refl (choose_failed (match_next match_variable match_none) (step_primop_raises give_none));
    a_try = λ n. step_try (step_literal refl) refl (step_variable refl);
    a_handler = λ v w n. step_handle (two_values v v) (raises (suc n) env) refl (w, (w, tt)) (step_variable refl);
    try_waits = λ n. step_try_stops (step_waits (step_literal refl));
    a_catch = λ n. step_catch (step_literal refl);
    caught = λ v w n. step_caught (raises (suc n) env) w;
    catch_waits = λ n. step_catch_stops (step_waits (step_literal refl));
    a_message = λ v w n. step_receive (step_literal refl) w (choose_this (match_next match_variable match_none) (step_literal refl) (step_variable refl));
    timeout = λ n. step_timeout (step_literal refl) (step_literal refl);
    waits = λ n. step_waits (step_literal refl);
    timeout_raises = λ n. step_receive_fails (raises (suc n) env);
  }

  module _ (sum : BifMay (codes "+") (two_values (int (pos 1)) (int (pos 2))) (int (pos 3))) where
    pub calls : WorkedCalls U W home env k
    calls = record {
      built_in_gives = λ n. step_call (give_next (step_literal refl) (give_next (step_literal refl) (give_next (step_literal refl) (give_next (step_literal refl) give_none)))) (call_built_in refl sum (inl refl));
      outside_gives = λ v w none n. step_call (give_next (step_literal refl) (give_next (step_literal refl) give_none)) (call_outside none w);
      no_name = λ n. step_call_raises (give_next (step_literal refl) (give_next (step_literal refl) give_none));
      call_may_raise = λ n x name vs. call_raises;
      external_gives = λ n. step_chain (let_gives step_external refl (chain_ends
          (step_apply refl (give_next (step_variable refl) (give_next (step_literal refl) (give_next (step_literal refl) give_none))) (apply_external refl (call_built_in refl sum (inl refl))))));
      foreign_gives = λ x v w n. step_apply refl (give_next (step_variable refl) give_none) (apply_foreign refl w);
      no_function = λ n. step_chain (let_gives (step_literal refl) refl (chain_ends (step_apply refl (give_next (step_variable refl) give_none) apply_raises)));
      wrong_arity = λ n. step_apply_name_raises (give_next (step_literal refl) give_none);
      a_primop = λ v w n. step_primop x_gives give_none (w, tt);
      primop_raises = λ n. step_primop_raises give_none;
    }
