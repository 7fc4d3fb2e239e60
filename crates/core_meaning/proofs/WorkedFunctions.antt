-- The functions worked by hand, step by step.
use Rattle.std.proofs.Common.{◌≡◌, inl, inr, refl}
use Rattle.std.specs.Prelude.{codes}
use Rattle.type_lattice_model.specs.Values.{no_value}
use Rattle.bif_types.specs.Results.{one_value}
use Rattle.core_parse_grammar.specs.Labels.{numbered}
use Rattle.core_meaning.specs.Meaning.{gives, made, Among, give_none, give_next, chain_ends, let_gives, enter_gives, enter_fails, call_enters, apply_closure, step_variable}
use Rattle.core_meaning.specs.Meaning.{step_literal, step_function, step_name, step_chain, step_letrec, step_apply_name, step_apply, step_call, step_primop_raises}
use Rattle.core_meaning.specs.Runs.{EnterAt, WasMade, Run}
use Rattle.core_meaning.specs.Worked.{name_of}
use Rattle.core_meaning.specs.Forms.{number}
use Rattle.core_meaning.specs.Entered.{w, w_alone, top, same, g_trace, same_trace, WorkedFunctions, WorkedStages}

-- the labels of the tree are those that reading its text gives
labels_are_in_order : numbered w ≡ w
labels_are_in_order = refl

pub functions : WorkedFunctions
functions = record {
  f_is_first = (refl, refl);
  g_is_second = (refl, refl);
  f_gives = λ stage n. enter_gives refl refl refl (step_letrec (refl, tt) (step_apply_name refl refl give_none (enter_gives refl refl refl (step_literal refl))));
  h_gives = λ stage n. enter_gives refl refl refl (step_call (give_next (step_literal refl) (give_next (step_literal refl) give_none)) (
      call_enters refl refl (enter_gives refl refl refl (step_letrec (refl, tt) (step_apply_name refl refl give_none (enter_gives refl refl refl (step_literal refl)))))));
  g_gives = λ stage n. enter_gives refl refl refl (step_chain (let_gives (step_name refl) refl (chain_ends (
      step_apply refl (give_next (step_variable refl) give_none) (apply_closure (enter_gives refl refl refl (step_function refl)))))));
  r_raises = λ stage n. enter_fails refl refl refl (step_primop_raises give_none);
}

g_run : Run w_alone 0 g_trace
g_run = record {
  start = top 6;
  args = no_value;
  fuel = 5;
  outcome = gives (one_value same);
  begins = inl (codes "w", (name_of (codes "g") 0, (refl, refl)));
  worldly = tt;
  enters = functions.g_gives 0 0;
}

made_there : Among (made same) g_trace
made_there = inr (inr (inr (inr (inl refl))))

made_before : WasMade w_alone 1 same
made_before = inr (g_trace, (g_run, made_there))

same_gives : EnterAt w_alone 1 20 same (one_value (number 5)) (gives (one_value (number 5))) same_trace
same_gives = enter_gives refl refl refl (step_variable refl)

same_runs : Run w_alone 1 same_trace
same_runs = record {
  start = same;
  args = one_value (number 5);
  fuel = 20;
  outcome = gives (one_value (number 5));
  begins = inr made_before;
  worldly = ((tt, λ c h. absurd h), tt);
  enters = same_gives;
}

pub stages : WorkedStages
stages = record {
  g_runs = g_run;
  not_yet = λ h. h;
  was_made = made_before;
  enters = same_gives;
  runs = same_runs;
}
