use Rattle.core_scope.proofs.FirstBreaks.{first_break_is_one}
use Rattle.core_scope.proofs.laws.first_break_once.Goals as goal

pub returns : goal.returns
returns c = first_break_is_one
