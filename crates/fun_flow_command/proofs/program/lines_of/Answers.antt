use Rattle.fun_flow_command.proofs.Outputs.{lists_ok}
use Rattle.fun_flow_command.proofs.program.lines_of.Goals as goal

pub returns : goal.returns
returns c = lists_ok c.args.sources.now c.in_ok-calls.calls c.as_slice.result.now c.call_lines.result c.in_ok-calls.ensures c.as_slice.ensures c.call_lines.ensures
