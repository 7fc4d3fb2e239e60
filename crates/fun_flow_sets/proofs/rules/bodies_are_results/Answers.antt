use Rattle.fun_flow_sets.proofs.RuleLaws.{fun_gives, letrec_gives, module_gives}
use Rattle.fun_flow_sets.proofs.rules.bodies_are_results.Goals as goal

pub returns-clause-of_funs : goal.returns-clause-of_funs
returns-clause-of_funs c U home sc k i xs t x h y = fun_gives U home sc k i xs t x h y

pub returns-clause-of_letrecs : goal.returns-clause-of_letrecs
returns-clause-of_letrecs c U home sc k i j ds t u xs x h d y = letrec_gives U home sc k i j ds t u xs x h d y

pub returns-clause-of_modules : goal.returns-clause-of_modules
returns-clause-of_modules c U home p j u xs x e d y = module_gives U home p j u xs x e d y
