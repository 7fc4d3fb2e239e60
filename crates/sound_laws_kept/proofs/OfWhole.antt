-- What an analysis from the empty table gives is what is known where all modules are analysed together.
use Rattle.std.proofs.Common.{[]}
use Rattle.module_flow_frame.specs.Frame.{FindingsFrame}
use Rattle.sound_laws_outside.specs.Laws.{CarriedLaw, OneLaw, PartsLaw, RestsLaw, SolvedLaw}
use Rattle.analysis_summaries.specs.Known.{all_unknown}
use Rattle.table_keep.specs.Model.{trees}
use Rattle.table_keep.specs.Kept.{finally}
use Rattle.sound_laws_kept.specs.Solving.{IsSolved}
use Rattle.sound_laws_kept.specs.Laws.{WholeLaw}
use Rattle.sound_laws_kept.proofs.Scratch.{scratch_solution}
use Rattle.sound_laws_kept.proofs.Linking.{TextLaw, carries, gives_one}
use Rattle.sound_laws_kept.proofs.Groupwise.{results_of_all}

module _ (carried : CarriedLaw) (of_parts : PartsLaw) (rests : RestsLaw) (one_known : OneLaw) (solved : SolvedLaw) (frame : FindingsFrame) (one_text : TextLaw) where
  pub whole_law : WholeLaw
  whole_law M reports new known are w whole =
      results_of_all carried one_known frame M are w.groups w.analysis.candidates (finally w.known [] M w.groups) w.known
      (scratch_solution IsSolved (carries carried frame) (gives_one one_known one_text) M are w.groups w.known w.analysis.candidates w.analysis.results)
      of_parts rests known (solved (trees M) all_unknown known are.accepted are.distinct whole)
