-- The run worked by hand, step by step.
use Rattle.std.proofs.Common.{◌≡◌, ℕ, suc, pos, refl, inl, inr}
use Rattle.std.specs.Prelude.{codes}
use Rattle.type_lattice_model.specs.Values.{Value, int, atom, no_value}
use Rattle.bif_types.specs.Results.{one_value}
use Rattle.core_meaning.specs.Matching.{match_literal, match_none, match_next, miss_here, miss_literal}
use Rattle.core_meaning.specs.Meaning.{gives, give_none, give_next, choose_missed, choose_this, Enter, enter_gives, step_variable, step_literal, step_case, step_apply_name, Among}
use Rattle.core_meaning.specs.Runs.{EvalWith, IsOutside, EnterAt, Run}
use Rattle.core_parse_grammar.specs.Labels.{numbered}
use Rattle.core_meaning.specs.Worked.{r8, f_name, r8_name, r8_alone, f_closure, h_closure, q_value, h_trace, apply_gave, f_trace}

-- the labels of the tree are those that reading its text gives
labels_are_in_order : numbered r8 ≡ r8
labels_are_in_order = refl

number_no_atom : int (pos 1) ≡ atom (codes "a") → ⊥
number_no_atom e = cc

module _ (W : Value → Type 0) (n : ℕ) where
  h_entered : Enter r8_alone W (EvalWith r8_alone W (suc (suc n))) h_closure (one_value (int (pos 1))) (gives (one_value q_value)) h_trace
  h_entered =
      enter_gives refl refl refl (step_case (step_variable refl) refl (
      choose_missed (miss_here (miss_literal number_no_atom)) (
      choose_this (match_next (match_literal refl) match_none) (step_literal refl) (step_literal refl))))

  f_entered : Enter r8_alone W (EvalWith r8_alone W (suc (suc (suc n)))) f_closure no_value (gives (one_value q_value)) f_trace
  f_entered = enter_gives refl refl refl (step_apply_name refl refl (give_next (step_literal refl) give_none) h_entered)

-- `'f'/0` gives `'q'` with fuel 20, and its application comes back
pub f_gives : EnterAt r8_alone 0 20 f_closure no_value (gives (one_value q_value)) f_trace
f_gives = f_entered (IsOutside r8_alone 0) 17

pub application_is_back : Among apply_gave f_trace
application_is_back = inr (inr (inr (inr (inl refl))))

pub f_runs : Run r8_alone 0 f_trace
f_runs = record {
  start = f_closure;
  args = no_value;
  fuel = 20;
  outcome = gives (one_value q_value);
  begins = inl (r8_name, (f_name, (refl, refl)));
  worldly = tt;
  enters = f_gives;
}
