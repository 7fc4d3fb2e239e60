use Rattle.core_make_laws.proofs.Generated.{generated_is_accepted}
use Rattle.core_make_laws.proofs.Texts.{is_short}
use Rattle.core_make_laws.proofs.laws.generated_is_accepted.Goals as goal

pub returns-clause-accepted : goal.returns-clause-accepted
returns-clause-accepted c = generated_is_accepted

pub returns-clause-short : goal.returns-clause-short
returns-clause-short c = is_short
