use Rattle.std.proofs.Common.{sym, subst}
use Rattle.core_ast.specs.Lengths.{how_many}
use Rattle.core_scope.specs.Asks.{one_value}
use Rattle.fun_flow_sets.specs.Items.{anything}
use Rattle.fun_flow_sets.specs.Rules.{places}
use Rattle.fun_flow_sets.specs.Scopes.{first}
use Rattle.fun_flow_sets.specs.Sets.{Holds, may_enter, may_give}
use Rattle.fun_flow_sets.proofs.RuleLaws.{operator_stands, operator_place}
use Rattle.fun_flow_sets.proofs.rules.operators_enter.Goals as goal

pub returns-clause-listed : goal.returns-clause-listed
returns-clause-listed c U home sc k i t ts x h e y = (first (places U home sc one_value t), (how_many ts, (operator_stands U home sc k i t ts h e, y)))

pub returns-clause-enters : goal.returns-clause-enters
returns-clause-enters c U home sc k i t ts q x y h e held is given = subst (λ z. Holds U z y) (sym (operator_place U home sc k i t ts e)) (may_enter (operator_stands U home sc k i t ts h e) held is given)

pub returns-clause-unknown : goal.returns-clause-unknown
returns-clause-unknown c U home sc k i t ts x h e held is = subst (λ z. Holds U z anything) (sym (operator_place U home sc k i t ts e)) (may_give (operator_stands U home sc k i t ts h e) held is)
