use Rattle.std.proofs.Common.{refl}
use Rattle.core_meaning.proofs.Worked.{f_gives, application_is_back, f_runs}
use Rattle.core_meaning.proofs.laws.worked_run.Goals as goal

pub returns-clause-begins : goal.returns-clause-begins
returns-clause-begins c = (refl, refl)

pub returns-clause-gives : goal.returns-clause-gives
returns-clause-gives c = f_gives

pub returns-clause-back : goal.returns-clause-back
returns-clause-back c = application_is_back

pub returns-clause-run : goal.returns-clause-run
returns-clause-run c = f_runs
