use Rattle.fun_flow_sets.proofs.RuleLaws.{case_joins, receive_joins, action_joins, body_joins, handler_joins}
use Rattle.fun_flow_sets.proofs.rules.clauses_are_joined.Goals as goal

pub returns-clause-cases : goal.returns-clause-cases
returns-clause-cases c U home sc inner k i t u cs n x h d b y = case_joins U home sc inner k i t u cs n x h d b y

pub returns-clause-receives : goal.returns-clause-receives
returns-clause-receives c U home sc inner k i t u w cs n x h d b y = receive_joins U home sc inner k i t u w cs n x h d b y

pub returns-clause-actions : goal.returns-clause-actions
returns-clause-actions c U home sc k i t u cs n x h b y = action_joins U home sc k i t u cs n x h b y

pub returns-clause-bodies : goal.returns-clause-bodies
returns-clause-bodies c U home sc k i t xs u ys w n x h b y = body_joins U home sc k i t xs u ys w n x h b y

pub returns-clause-handlers : goal.returns-clause-handlers
returns-clause-handlers c U home sc k i t xs u ys w n x h b y = handler_joins U home sc k i t xs u ys w n x h b y
