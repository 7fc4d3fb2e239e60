-- The new table of an analysis with the table of some sources is again the table of sources: from the empty table it is written of what is
-- passed and of the kept sources.
use Rattle.std.proofs.Common.{ℕ, List, [], map, true, refl, sym, ◌∙◌}
use Rattle.type_kinds.proofs.Lists.{contains_none}
use Rattle.table_keep.specs.Groups.{IsGroups}
use Rattle.table_keep.specs.Kept.{Standing, Results, AreResults, is_candidate, calls_of, finally, is_new, kept}
use Rattle.table_keep.specs.Model.{Source, Entry}
use Rattle.sound_laws_kept.specs.Laws.{AgainLaw, DigestsTell}
use Rattle.sound_laws_kept.specs.Solving.{AreSources, IsSolved, IsWritten}
use Rattle.sound_laws_kept.specs.Written.{with_kept}
use Rattle.sound_laws_kept.proofs.Graphs as graphs
use Rattle.sound_laws_kept.proofs.Mixed as mixed
use Rattle.sound_laws_kept.proofs.Mixed.{AreSame}
use Rattle.sound_laws_kept.proofs.Names.{clash}
use Rattle.sound_laws_kept.proofs.Scratch as scratch
use Rattle.sound_laws_kept.proofs.Solving.{Carries, GivesOne, GivesParts}

-- of no sources anything is known
nothing_solved : (R : Results) (K : Standing) → IsSolved [] K R
nothing_solved R K = record {
  known = K;
  known_so = record {
    number = λ h f. 0;
    component = λ n. [];
    out = λ h f e. refl;
    none = λ h f e. clash true refl (sym e);
    within = λ n g e. absurd (contains_none g e);
    numbered = λ n g e. absurd (contains_none g e);
    all = λ g e. absurd (contains_none g e);
    once = λ n. tt;
    down = λ f g t e. absurd (contains_none f e);
    together = λ f g e. absurd (contains_none f e);
    known_so = λ n. tt;
  };
  results = λ s e. absurd (contains_none s e);
}

module _ (carries : Carries IsSolved) (gives_one : GivesOne IsSolved) (gives_parts : GivesParts IsSolved) (Src M : List Source) (T new : List Entry) (before reports : List (List ℕ))
    (are_src : AreSources Src) (are_m : AreSources M) (tell : DigestsTell Src M) (source : IsWritten [] Src before T) (w : IsWritten T M reports new) where
  abbrev U : List Source
  U = with_kept (kept w.known T M w.groups) M Src

  are_u : AreSources U
  are_u =
      mixed.are_u IsSolved carries gives_one gives_parts Src M T are_src are_m tell source.groups source.new_groups source.known source.analysis source.entries
      w.groups w.known w.analysis.candidates w.analysis.results

  -- the groups of the new table's modules are those of all that is there
  candidates : IsGroups (is_candidate [] U) (calls_of [] U) w.new_groups
  candidates =
      mixed.there_groups IsSolved carries gives_one gives_parts Src M T are_src are_m tell source.groups source.new_groups source.known source.analysis source.entries
      w.groups w.known w.analysis.candidates w.analysis.results w.new_groups w.analysis.new

  new_modules : IsGroups (is_new w.known [] U w.new_groups) (calls_of [] U) w.new_groups
  new_modules =
      graphs.groups_over (is_candidate [] U) (calls_of [] U) (is_new w.known [] U w.new_groups) (calls_of [] U)
      (scratch.to_new U w.new_groups w.known candidates) (scratch.from_new U w.new_groups w.known candidates) (λ a e. refl) w.new_groups candidates

  results : AreResults IsSolved [] U w.new_groups w.known
  results =
      scratch.solution_results IsSolved carries gives_one U are_u w.new_groups w.known candidates (nothing_solved w.known) (finally w.known T M w.groups)
      (mixed.mixed_solution IsSolved carries gives_one gives_parts Src M T are_src are_m tell source.groups source.new_groups source.known source.analysis source.entries
      w.groups w.known w.analysis.candidates w.analysis.results w.new_groups candidates)

  same : AreSame T M U w.groups w.new_groups w.new_groups w.new_groups w.known w.known
  same =
      mixed.are_same IsSolved carries gives_one gives_parts Src M T are_src are_m tell source.groups source.new_groups source.known source.analysis source.entries
      w.groups w.known w.analysis.candidates w.analysis.results w.new_groups candidates w.new_groups w.new_groups w.known w.analysis.new new_modules results

  written_again : (all : List (List ℕ)) × IsWritten [] U all new
  written_again = (
    map (λ s. (w.known s.tree.name).lines) U,
    record {
      groups = w.new_groups;
      new_groups = w.new_groups;
      known = w.known;
      analysis = record { candidates = candidates; new = new_modules; results = results };
      reports_so = refl;
      entries = λ h. w.entries h ∙ same.entries h;
      rising = w.rising;
    },
  )

pub again : Carries IsSolved → GivesOne IsSolved → GivesParts IsSolved → AgainLaw
again carries gives_one gives_parts Src M T new before reports are_src are_m tell source w =
    written_again carries gives_one gives_parts Src M T new before reports are_src are_m tell source w
