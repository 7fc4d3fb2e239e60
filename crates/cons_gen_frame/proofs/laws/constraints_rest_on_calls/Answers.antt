use Rattle.cons_gen_frame.proofs.Frames.{rows_frame, head_frame}
use Rattle.cons_gen_frame.proofs.laws.constraints_rest_on_calls.Goals as goal

pub returns-clause-rows : goal.returns-clause-rows
returns-clause-rows c = rows_frame

pub returns-clause-head : goal.returns-clause-head
returns-clause-head c = head_frame
