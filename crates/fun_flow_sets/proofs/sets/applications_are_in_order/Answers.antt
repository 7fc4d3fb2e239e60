use Rattle.core_scope.specs.Checked.{tree_of}
use Rattle.fun_flow_sets.proofs.Order.{left_distinct, module_in_order}
use Rattle.fun_flow_sets.proofs.sets.applications_are_in_order.Goals as goal

pub returns-clause-in_order : goal.returns-clause-in_order
returns-clause-in_order c = module_in_order

pub returns-clause-once : goal.returns-clause-once
returns-clause-once c U x = left_distinct (module_in_order U (tree_of x)) (c.labels_are_distinct.ensures.once x)
