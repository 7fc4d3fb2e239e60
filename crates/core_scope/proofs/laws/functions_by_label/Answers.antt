use Rattle.core_scope.proofs.FunctionLaws.{function_by_label, function_label, function_labels_distinct}
use Rattle.core_scope.proofs.laws.functions_by_label.Goals as goal

pub returns : goal.returns
returns c = record { once = function_by_label; distinct = function_labels_distinct; among = function_label }
