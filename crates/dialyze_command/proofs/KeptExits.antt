-- What a check that passed wrote is what an analysis from scratch gives, and nothing of it is false.
use Rattle.std.proofs.Common.{◌≡◌, ℕ, zero, suc, ◌<◌, List, [], ◌∷◌, ◌++◌, Contains, length, map, sym, ◌∙◌, ap, subst, Option, Some, None, append-nil, arith}
use Rattle.std.specs.Prelude.{IfSome, slice_index_or, Bool, not, ◌&&◌, if◌then◌else◌}
use Rattle.std.specs.Cmp.Lexicographic.{bytes_decides}
use Rattle.std.proofs.lemmas.Bool.{false_from_ne_true}
use Rattle.std.proofs.lemmas.List.{length-map}
use Rattle.type_kinds.specs.declared.atom.Atom.{Atom}
use Rattle.core_ast.specs.Model as m
use Rattle.core_scope.proofs.NameLaws.{none_earlier}
use Rattle.core_scope.specs.Names.{Distinct, same_atom}
use Rattle.comp_rounds.specs.Rounds.{Callees}
use Rattle.core_meaning.specs.Programs.{Program, HasModule, module_named}
use Rattle.da_shelf.specs.Told.{Files, appended}
use Rattle.table_keep.specs.Model.{Source, Entry, trees, picked, is_in, entry_so, entries_so}
use Rattle.table_keep.specs.Kept.{Results, kept}
use Rattle.sound_laws.specs.Accepted.{AreAccepted}
use Rattle.sound_laws_rounds.specs.Whole.{IsWhole}
use Rattle.sound_laws_flow.specs.Claims.{NothingFalse}
use Rattle.module_flow_frame.specs.Sites.{TiedLines}
use Rattle.sound_laws_kept.specs.Laws.{AgainLaw, KeptLaw, FoundLaw, DigestsTell}
use Rattle.sound_laws_kept.specs.Solving.{AreSources, IsWritten}
use Rattle.sound_laws_kept.proofs.Names.{accepted_append, accepted_picked}
use Rattle.sound_laws_kept.proofs.NothingWritten.{nothing_written}
use Rattle.analysis_summaries.specs.Known.{module_names}
use Rattle.analysis_answers.specs.ReadFiles.{HaveOwnNames}
use Rattle.dialyze_command.specs.declared.status.Status.{Status}
use Rattle.dialyze_command.specs.Outcome.{IsBegun, empty, named, Intended, IsPassed}
use Rattle.dialyze_command.specs.Words.{AsksForCheck}
use Rattle.dialyze_command.proofs.CheckExits.{passed_it}
use Rattle.dialyze_command.specs.Laws.{BeganWith, IsFromScratch, Passed, NothingReportedFalse, WritesFromScratch, WritesNothingFalse, whole_of}

-- the law of findings, as its crate states it
abbrev pub WholeLaw : Type 0
WholeLaw = (U : Program) (K : Callees) (x : m.Module) → AreAccepted U → IsWhole U K → HasModule U x → NothingFalse U K x

pub are_sources : (M : List Source) → AreAccepted (trees M) → HaveOwnNames (trees M) → AreSources M
are_sources M accepted own = record {
  accepted = accepted;
  distinct = none_earlier (module_names (trees M)) (λ j h e. own j (subst (λ n. j < n) (length-map (trees M) (λ (y : m.Module). y.name)) h) e);
}

-- ---- the program of what is passed and of kept sources

name_among : (M : List Source) (s : Source) (k : ℕ) → k < length M → slice_index_or M k s ≡ s → Contains (module_names (trees M)) s.tree.name
name_among [] s k h e = absurd (omega (arith, h))
name_among (x ∷ M) s zero h e = (0, omega arith, ap (λ y. y.tree.name) e)
name_among (x ∷ M) s (suc k) h e = let r = name_among M s k (omega (arith, h)) e in (suc r.0, omega (arith, r.1), r.2)

-- a module that is passed has its name in the program
has_module : (M xs : List Source) (s : Source) → Distinct (module_names (trees M)) → (k : ℕ) → k < length M → slice_index_or M k s ≡ s → HasModule (trees (M ++ xs)) s.tree
has_module [] xs s d k h e = absurd (omega (arith, h))
has_module (x ∷ M) xs s d zero h e =
    ap (λ b. if b then Some x.tree else module_named (trees (M ++ xs)) s.tree.name) ((bytes_decides x.tree.name s.tree.name).1 (ap (λ y. y.tree.name) e)) ∙ ap (λ y. Some y.tree) e
has_module (x ∷ M) xs s d (suc k) h e =
    ap (λ b. if b then Some x.tree else module_named (trees (M ++ xs)) s.tree.name)
    (false_from_ne_true (same_atom x.tree.name s.tree.name)
    (λ f. d.0 (subst (Contains (module_names (trees M))) (sym ((bytes_decides x.tree.name s.tree.name).0 f)) (name_among M s k (omega (arith, h)) e))))
    ∙ has_module M xs s d.1 k (omega (arith, h)) e

-- ---- the empty table is that of no sources

nothing_known : Results
nothing_known h = record { exports = []; lines = [] }

empty_written : IsWritten [] [] [] []
empty_written = nothing_written nothing_known

-- ---- the laws of a check that passed

module _ (kept_law : KeptLaw) (again_law : AgainLaw) (found_law : FoundLaw) (whole_law : WholeLaw) (tied_law : TiedLines) where
  found_so : (Src M : List Source) (T new : List Entry) (before reports : List (List ℕ)) → AreSources Src → AreSources M → DigestsTell Src M → IsWritten [] Src before T → (w : IsWritten T M reports new)
      → NothingReportedFalse (whole_of w Src) M reports
  found_so Src M T new before reports of_src of_m tell table w =
      let is = found_law Src M T new before reports of_src of_m tell table w in
      let p : Atom → Bool = λ h. not (is_in M h) && kept w.known T M w.groups h in
      record {
        lines = λ h. (w.known h).lines;
        reports_so = w.reports_so;
        found = is;
        sound = λ s there.
            whole_law (trees (M ++ picked p Src)) is.known s.tree (accepted_append M (picked p Src) of_m.accepted (accepted_picked p Src of_src.accepted)) is.whole
            (has_module M (picked p Src) s of_m.distinct there.0 there.1 there.2);
        tied = λ s there. tied_law is.known s.tree (w.known s.tree.name).lines (is.found s there);
      }

  module _ (words : List (List ℕ)) (held : Files) (after : Option Files) (before now : Option (List ℕ)) (passed : Passed words held after before now) where
    of_m : AreSources passed.analyses.sources
    of_m = are_sources passed.analyses.sources passed.analyses.accepted passed.analyses.names

    pub from_scratch : WritesFromScratch words held after before now
    from_scratch = record {
      passed = passed;
      kept_so = scratch_so;
    }
      where
        scratch_so : (Src : List Source) → BeganWith Src passed.analyses.sources (entries_so passed.analyses.begins.table)
            → IsFromScratch (whole_of passed.analyses.written Src) passed.analyses.sources passed.reports (entries_so passed.new)
        scratch_so Src began =
            let M = passed.analyses.sources in
            let T = entries_so passed.analyses.begins.table in
            let new = entries_so passed.new in
            let again = again_law Src M T new began.reports passed.reports began.sources of_m began.digests began.table passed.analyses.written in
            record {
              all = again.0;
              scratch = again.1;
              reports_so = (kept_law Src M T new new began.reports passed.reports again.0 began.sources of_m began.digests began.table passed.analyses.written again.1).1;
              only = λ others other w. kept_law Src M T new other began.reports passed.reports others began.sources of_m began.digests began.table passed.analyses.written w;
            }

    alone_so : passed.command.plt ≡ None → NothingReportedFalse passed.analyses.sources passed.analyses.sources passed.reports
    alone_so none =
        let M = passed.analyses.sources in
        let T = entries_so passed.analyses.begins.table in
        let is = found_so [] M T (entries_so passed.new) [] passed.reports (record { accepted = tt; distinct = tt }) of_m (λ h s t e f g. no_source e)
        (subst (IsWritten [] [] []) (sym (no_entries passed.analyses.begins.begun)) empty_written) passed.analyses.written in
        subst (λ U. NothingReportedFalse U M passed.reports) (append-nil M) is
      where
        no_source : {s : Source} {X : Type 0} → None ≡ Some s → X
        no_source e = absurd cc

        no_entries : IsBegun words (Some held) passed.command.plt passed.analyses.begins.table → entries_so passed.analyses.begins.table ≡ []
        no_entries (empty e f) = ap (map entry_so) f
        no_entries (named word name names read) = let k = sym none ∙ names.given in absurd cc

    pub nothing_false : WritesNothingFalse words held after before now
    nothing_false = record {
      passed = passed;
      alone = alone_so;
      together = λ Src began.
          found_so Src passed.analyses.sources (entries_so passed.analyses.begins.table) (entries_so passed.new) began.reports passed.reports began.sources of_m began.digests began.table passed.analyses.written;
    }

  -- ---- as the clauses say it

  pub kept_it : (words : List (List ℕ)) (told after : Option Files) (rb rn n k : ℕ) (status : Status) (output : List ℕ) (before now : Option (List ℕ))
      → Intended words told rb rn n k status output after → now ≡ appended before output → AsksForCheck words → IsPassed status
      → IfSome told (λ held. WritesFromScratch words held after before now)
  kept_it words None after rb rn n k status output before now h w asks is = tt
  kept_it words (Some held) after rb rn n k status output before now h w asks is =
      from_scratch words held after before now (passed_it words held after rb rn n k status output before now h w asks is)

  pub sound_it : (words : List (List ℕ)) (told after : Option Files) (rb rn n k : ℕ) (status : Status) (output : List ℕ) (before now : Option (List ℕ))
      → Intended words told rb rn n k status output after → now ≡ appended before output → AsksForCheck words → IsPassed status
      → IfSome told (λ held. WritesNothingFalse words held after before now)
  sound_it words None after rb rn n k status output before now h w asks is = tt
  sound_it words (Some held) after rb rn n k status output before now h w asks is =
      nothing_false words held after before now (passed_it words held after rb rn n k status output before now h w asks is)
