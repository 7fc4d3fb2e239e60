use Rattle.std.proofs.Common.{arith}
use Rattle.fun_flow_numbers.proofs.Looking.{nothing_past}
use Rattle.fun_flow_numbers.proofs.sets.targets_of.Goals as goal

pub returns-else-number-count : goal.returns-else-number-count
returns-else-number-count c = nothing_past c.args.sets.now c.args.number (let n = c.count-count.ensures.count in let t = c.if-number-count.false in omega arith)
