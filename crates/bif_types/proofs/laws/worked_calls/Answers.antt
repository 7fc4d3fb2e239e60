use Rattle.bif_types.proofs.WorkedCalls.{sum_is_given, sum_alone, no_quotient, never_given, any_given}
use Rattle.bif_types.proofs.laws.worked_calls.Goals as goal

pub returns : goal.returns
returns c = record { sum = sum_is_given c.type_facts.ensures; no_other_sum = sum_alone; no_quotient = no_quotient; no_exit = never_given; unknown = any_given }
