-- There is a written analysis.
use Rattle.std.proofs.Common.{◌≡◌, ℕ, Bool, List, Contains, Some, map, refl, sym, subst, true}
use Rattle.std.specs.Prelude.{◌↔◌}
use Rattle.type_kinds.specs.declared.atom.Atom.{Atom}
use Rattle.comp_rounds.specs.Rounds.{Callees, Function, summaries}
use Rattle.comp_rounds.specs.Takes.{AllTake}
use Rattle.table_keep.specs.Model.{Source, Entry, entries_so}
use Rattle.table_keep.specs.Groups.{Groups, IsGroups}
use Rattle.table_keep.specs.Kept.{Standing, Results, is_candidate, calls_of, is_new}
use Rattle.sound_laws_kept.specs.Laws.{RestsLaw}
use Rattle.sound_laws_kept.specs.Solving.{AreSources, IsSolved, IsWritten}
use Rattle.sound_laws_kept.specs.Written.{new_entry}
use Rattle.sound_laws_written.specs.Laws.{SomeAnalysisLaw, SomeTableLaw}
use Rattle.sound_laws_written.proofs.GroupByGroup.{results}
use Rattle.sound_laws_written.proofs.Held.{IsHeld, entry_held, new_held, table_held}
use Rattle.sound_laws_written.proofs.NewTable.{candidates, candidate_there, there_candidate, new_names, new_there, there_new, entries, entries_are, entries_from, entries_rise}

-- names have groups, whatever each of them calls
abbrev pub SomeGroupsLaw : Type 0
SomeGroupsLaw = (nodes : Atom → Bool) (out : Atom → List Atom) (names : List Atom) → ((a : Atom) → (nodes a ≡ true) ↔ Contains names a) → (g : Groups) × IsGroups nodes out g

-- a written analysis, and each of its new entries is the one of a name
record Analysed (T : List Entry) (M : List Source) : Type 0 where
  pub reports : List (List ℕ)
  pub new : List Entry
  pub written : IsWritten T M reports new
  pub from : (e : Entry) → Contains new e → (h : Atom) × (new_entry written.known T M written.groups written.new_groups h ≡ Some e)

module _ (groups : SomeGroupsLaw) (rests : RestsLaw) (solve : (xs : List Source) (K : Standing) → AreSources xs → (R : Results) × IsSolved xs K R) where
  analysed : (T : List Entry) (M : List Source) → AreSources M → Analysed T M
  analysed T M are =
      let g = groups (is_candidate T M) (calls_of T M) (candidates T M) (λ a. (candidate_there T M a, there_candidate T M a)) in
      let r = results solve rests T M are g.0 g.1 in
      let n = groups (is_new r.0 T M g.0) (calls_of T M) (new_names r.0 T M g.0 g.1) (λ a. (new_there r.0 T M g.0 g.1 a, there_new r.0 T M g.0 g.1 a)) in
      record {
        reports = map (λ s. (r.0 s.tree.name).lines) M;
        new = entries r.0 T M g.0 g.1 n.0;
        written = record {
          groups = g.0;
          new_groups = n.0;
          known = r.0;
          analysis = record { candidates = g.1; new = n.1; results = r.1 };
          reports_so = refl;
          entries = entries_are r.0 T M g.0 g.1 n.0;
          rising = entries_rise r.0 T M g.0 g.1 n.0;
        };
        from = entries_from r.0 T M g.0 g.1 n.0;
      }

  pub an_analysis : SomeAnalysisLaw
  an_analysis T M are = let a = analysed T M are in (a.reports, (a.new, a.written))

  pub a_written_table : ((outside : Callees) (gs : List Function) → AllTake gs (summaries outside gs)) → SomeTableLaw
  a_written_table take table M are whole =
      let T = entries_so table in
      let a = analysed T M are in
      let w = a.written in
      let held : (e : Entry) → Contains a.new e → IsHeld e =
      λ e there. let h = a.from e there in new_held take T M are whole (entry_held table.entries) w.groups w.new_groups w.known w.analysis h.0 e h.1 in
      let t = table_held a.new held w.rising in
      (a.reports, (t.0, subst (IsWritten T M a.reports) (sym t.1) w))
