use denote.Param.Send.{param_send, param_sync, arg_send, arg_sync}
use Rattle.comp_rounds.specs.Works.{parts_of, callees_of}
use Rattle.analysis_crew.proofs.Crossing.{part_send, part_sync, out_send, out_sync, work_sync}
use Rattle.analysis_crew.proofs.Works.{of_both}
use Rattle.analysis_crew.proofs.solving.outputs_of.Goals as goal

pub outputs_by-requires-send-W-Part : goal.outputs_by-requires-send-W-Part
outputs_by-requires-send-W-Part g c κs within = search (param_send, arg_send, part_send)

pub outputs_by-requires-send-W-Out : goal.outputs_by-requires-send-W-Out
outputs_by-requires-send-W-Out g c κs within = search (param_send, arg_send, out_send)

pub outputs_by-requires-sync-W : goal.outputs_by-requires-sync-W
outputs_by-requires-sync-W g c κs within = search (param_sync, arg_sync, work_sync)

pub outputs_by-requires-sync-W-Part : goal.outputs_by-requires-sync-W-Part
outputs_by-requires-sync-W-Part g c κs within = search (param_sync, arg_sync, part_sync)

pub outputs_by-requires-sync-W-Out : goal.outputs_by-requires-sync-W-Out
outputs_by-requires-sync-W-Out g c κs within = search (param_sync, arg_sync, out_sync)

pub returns : goal.returns
returns g c =
    of_both c.outputs_by.result _ _ _ c.outputs_by.ensures.outputs c.outputs_by.ensures.count
    (λ outs are long.
    record { parts = parts_of c.in_ok-work.work; callees = callees_of c.in_ok-work.work; work = c.in_ok-work.ensures; solved_so = are; counted = long })
