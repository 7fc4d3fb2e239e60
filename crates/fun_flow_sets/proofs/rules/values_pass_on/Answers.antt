use Rattle.std.proofs.Common.{refl}
use Rattle.fun_flow_sets.proofs.rules.values_pass_on.Goals as goal

pub returns-clause-variables : goal.returns-clause-variables
returns-clause-variables c U home sc k i x = refl

pub returns-clause-value_lists : goal.returns-clause-value_lists
returns-clause-value_lists c U home sc k i ts = refl

pub returns-clause-chains : goal.returns-clause-chains
returns-clause-chains c U home sc k i ss t = refl

pub returns-clause-lets : goal.returns-clause-lets
returns-clause-lets c U home sc i xs t ss = refl

pub returns-clause-dos : goal.returns-clause-dos
returns-clause-dos c U home sc i t ss = refl

pub returns-clause-letrecs : goal.returns-clause-letrecs
returns-clause-letrecs c U home sc k i ds t = refl
