use denote.Param.Send.{param_send, param_sync, arg_send, arg_sync}
use Rattle.analysis_crew.proofs.Crossing.{part_send, part_sync, out_send, out_sync}
use Rattle.analysis_crew.proofs.memo.empty_memo.Goals as goal

pub new-requires-send-W-Part : goal.new-requires-send-W-Part
new-requires-send-W-Part c κs = search (param_send, arg_send, part_send)

pub new-requires-send-W-Out : goal.new-requires-send-W-Out
new-requires-send-W-Out c κs = search (param_send, arg_send, out_send)

pub new-requires-sync-W-Part : goal.new-requires-sync-W-Part
new-requires-sync-W-Part c κs = search (param_sync, arg_sync, part_sync)

pub new-requires-sync-W-Out : goal.new-requires-sync-W-Out
new-requires-sync-W-Out c κs = search (param_sync, arg_sync, out_sync)
