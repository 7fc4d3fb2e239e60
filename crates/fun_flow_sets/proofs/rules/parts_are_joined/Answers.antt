use Rattle.std.proofs.Common.{refl}
use Rattle.fun_flow_sets.proofs.RuleLaws.{element_joins, rest_joins, tuple_joins, map_joins, update_joins, bar_joins}
use Rattle.fun_flow_sets.proofs.rules.parts_are_joined.Goals as goal

pub returns-clause-literals : goal.returns-clause-literals
returns-clause-literals c U home sc k i l = refl

pub returns-clause-binaries : goal.returns-clause-binaries
returns-clause-binaries c U home sc k i ss = refl

pub returns-clause-elements : goal.returns-clause-elements
returns-clause-elements c U home sc k i ts t n x h b y = element_joins U home sc k i ts t n x h b y

pub returns-clause-rests : goal.returns-clause-rests
returns-clause-rests c U home sc k i ts t x h y = rest_joins U home sc k i ts t x h y

pub returns-clause-tuples : goal.returns-clause-tuples
returns-clause-tuples c U home sc k i ts n x h b y = tuple_joins U home sc k i ts n x h b y

pub returns-clause-maps : goal.returns-clause-maps
returns-clause-maps c U home sc k i ps n x h b y = map_joins U home sc k i ps n x h b y

pub returns-clause-updates : goal.returns-clause-updates
returns-clause-updates c U home sc k i ps t n x h b y = update_joins U home sc k i ps t n x h b y

pub returns-clause-bars : goal.returns-clause-bars
returns-clause-bars c U home sc k i ps t x h y = bar_joins U home sc k i ps t x h y
