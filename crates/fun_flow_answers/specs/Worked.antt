-- What is listed of the first module that is worked by hand in `fun_flow_sets`.
use Rattle.std.specs.Prelude.{List, [], ◌∷◌}
use Rattle.fun_flow_answers.specs.declared.target.AppliedCall.{AppliedCall}
use Rattle.fun_flow_answers.specs.declared.target.Target.TheVariants.{Fun}
use Rattle.fun_flow_answers.specs.declared.target.ListedTargets.TheVariants.{Anything, Only}

abbrev pub first_call : AppliedCall
first_call = record { «module» = 0; label = 6; line = 3; arity = 1; targets = Only (Fun 0 3 2 ∷ []) }

abbrev pub second_call : AppliedCall
second_call = record { «module» = 0; label = 9; line = 3; arity = 1; targets = Anything }

abbrev pub identity_calls : List AppliedCall
identity_calls = first_call ∷ second_call ∷ []
