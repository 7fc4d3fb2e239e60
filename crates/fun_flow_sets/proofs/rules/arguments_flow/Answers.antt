use Rattle.core_ast.specs.Lengths.{how_many}
use Rattle.fun_flow_sets.proofs.RuleLaws.{argument_flows, name_gives, name_gives_nothing}
use Rattle.fun_flow_sets.proofs.rules.arguments_flow.Goals as goal

pub returns-clause-gives : goal.returns-clause-gives
returns-clause-gives c U home sc k i j f ts e = name_gives U home sc f (how_many ts) i.label e

pub returns-clause-flow : goal.returns-clause-flow
returns-clause-flow c U home sc k i j f ts d n x h e is b y = argument_flows U home sc k i j f ts d n x h e is b y

pub returns-clause-wrong_number : goal.returns-clause-wrong_number
returns-clause-wrong_number c U home sc k i j f ts e = name_gives_nothing U home sc f (how_many ts) i.label e
