use Rattle.core_meaning.specs.Runs.{IsOutside, EvalWith}
use Rattle.core_meaning.proofs.Fuel.{more_kept, enter_kept}
use Rattle.core_meaning.proofs.laws.fuel_laws.Goals as goal

pub returns-clause-expression : goal.returns-clause-expression
returns-clause-expression c U stage n j e = more_kept U (IsOutside U stage) n j e

pub returns-clause-function : goal.returns-clause-function
returns-clause-function c U stage n j e w vs o tr d h = enter_kept U (IsOutside U stage) (EvalWith U (IsOutside U stage) n) (EvalWith U (IsOutside U stage) j) (more_kept U (IsOutside U stage) n j e) d h
