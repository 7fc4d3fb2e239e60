use Rattle.fun_flow_sets.proofs.Examples.{the_fun, no_other, of_parameter, of_atom}
use Rattle.fun_flow_sets.proofs.worked.worked_modules.Goals as goal

pub returns-clause-the_fun : goal.returns-clause-the_fun
returns-clause-the_fun c = the_fun

pub returns-clause-no_other : goal.returns-clause-no_other
returns-clause-no_other c = no_other

pub returns-clause-parameter : goal.returns-clause-parameter
returns-clause-parameter c = of_parameter

pub returns-clause-atom : goal.returns-clause-atom
returns-clause-atom c = of_atom
