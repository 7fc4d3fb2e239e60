-- What is reported with the table of some sources is found by what is known of the functions of what is passed and of the kept
-- sources.
use Rattle.std.proofs.Common.{ℕ, not, ◌&&◌, List, []}
use Rattle.std.proofs.lemmas.List.Elements.{Contains-append_left}
use Rattle.module_flow_frame.specs.Frame.{FindingsFrame}
use Rattle.sound_laws_outside.specs.Laws.{CarriedLaw, PartsLaw, OneLaw}
use Rattle.table_keep.specs.Model.{Source, Entry, is_in, picked}
use Rattle.table_keep.specs.Kept.{kept, finally, is_candidate, calls_of}
use Rattle.table_keep.specs.Groups.{IsGroups}
use Rattle.sound_laws_kept.specs.Written.{with_kept}
use Rattle.sound_laws_kept.specs.Solving.{IsSolved, IsWritten, AreSources}
use Rattle.sound_laws_kept.specs.Laws.{DigestsTell, AreFound, FoundLaw}
use Rattle.sound_laws_kept.proofs.Scratch.{IsSolution}
use Rattle.sound_laws_kept.proofs.Mixed as mixed
use Rattle.sound_laws_kept.proofs.Linking.{TextLaw, carries, gives_one, gives_parts}
use Rattle.sound_laws_kept.proofs.Groupwise as groupwise

module _ (carried : CarriedLaw) (of_parts : PartsLaw) (one_known : OneLaw) (frame : FindingsFrame) (one_text : TextLaw) where
  module _ (Src M : List Source) (T new : List Entry) (before reports : List (List ℕ)) (are_src : AreSources Src) (are_m : AreSources M) (tell : DigestsTell Src M)
      (source : IsWritten [] Src before T) (w : IsWritten T M reports new) where
    abbrev U : List Source
    U = with_kept (kept w.known T M w.groups) M Src

    are_u : AreSources U
    are_u =
        mixed.are_u IsSolved (carries carried frame) (gives_one one_known one_text) (gives_parts carried of_parts frame) Src M T are_src are_m tell
        source.groups source.new_groups source.known source.analysis source.entries w.groups w.known w.analysis.candidates w.analysis.results

    -- the groups of the new table's modules are those of what is there
    of_new : IsGroups (is_candidate [] U) (calls_of [] U) w.new_groups
    of_new =
        mixed.there_groups IsSolved (carries carried frame) (gives_one one_known one_text) (gives_parts carried of_parts frame) Src M T are_src are_m tell
        source.groups source.new_groups source.known source.analysis source.entries w.groups w.known w.analysis.candidates w.analysis.results w.new_groups w.analysis.new

    solution : IsSolution IsSolved U w.new_groups (finally w.known T M w.groups) w.known
    solution =
        mixed.mixed_solution IsSolved (carries carried frame) (gives_one one_known one_text) (gives_parts carried of_parts frame) Src M T are_src are_m tell
        source.groups source.new_groups source.known source.analysis source.entries w.groups w.known w.analysis.candidates w.analysis.results w.new_groups of_new

    are_found : AreFound U M (λ h. (w.known h).lines)
    are_found = record {
      known = groupwise.all_known carried one_known frame U are_u w.new_groups of_new (finally w.known T M w.groups) w.known solution;
      whole = groupwise.all_whole carried one_known frame U are_u w.new_groups of_new (finally w.known T M w.groups) w.known solution;
      found = λ s has. (groupwise.all_results carried one_known frame U are_u w.new_groups of_new (finally w.known T M w.groups) w.known solution s
          (Contains-append_left M (picked (λ h. not (is_in M h) && kept w.known T M w.groups h) Src) s has)).lines;
    }

  pub found_law : FoundLaw
  found_law Src M T new before reports are_src are_m tell source w = are_found Src M T new before reports are_src are_m tell source w
