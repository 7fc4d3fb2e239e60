use Rattle.std.proofs.Crossing.{crosses}
use Rattle.std.proofs.alloc.Global.TheSendSync as Global
use denote.Param.Send.{param_sync, arg_sync, sendable}
use Rattle.analysis_crew.proofs.Crossing.{summaries_sync}
use Rattle.analysis.proofs.SharedSources.{source_sync}
use Rattle.analysis.proofs.reporting.made_by_workers.Goals as goal

pub map_indices-requires-sync-F : goal.map_indices-requires-sync-F
map_indices-requires-sync-F g c κs within = search (param_sync, arg_sync, source_sync, summaries_sync, Global.the_sync, crosses, sendable) depth 60 fits 20000
