-- The laws of the kept table.
use Rattle.std.specs.Prelude.{◌≡◌, ℕ, ◌<◌, true, Some, List, [], Contains, take, length, map, IsTrue}
use Rattle.type_kinds.specs.declared.atom.Atom.{Atom}
use Rattle.core_ast.specs.declared.syntax.FunName.{FunName}
use Rattle.table_file.specs.Order.{rises, is_name_before}
use Rattle.call_graph.specs.Outside.{Called}
use Rattle.cons_tree.specs.declared.parts.Callee.{Callee}
use Rattle.comp_rounds.specs.Rounds.{Callees}
use Rattle.module_flow.specs.Flow.{findings}
use Rattle.sound_laws_rounds.specs.Whole.{IsWhole}
use Rattle.analysis_summaries.specs.Whole.{IsWholeOf}
use Rattle.warn_list.specs.Lines.{AreLines}
use Rattle.table_keep.specs.Model.{Source, Entry, trees, source_of, is_in, entry_of}
use Rattle.table_keep.specs.Groups.{Groups, IsGroups, has}
use Rattle.table_keep.specs.Kept.{Standing, Results, is_candidate, calls_of, is_old, stands, kept}
use Rattle.sound_laws_kept.specs.Written.{with_kept}
use Rattle.sound_laws_kept.specs.Solving.{IsResult, IsSolved, IsWritten, AreSources}
use Rattle.sound_laws_kept.specs.Waves.{wave_from, to_solve, IsWave}

-- Two texts of one module have different digests: that SHA-256 tells apart the texts that are passed and those of the table.
abbrev pub DigestsTell : (Src M : List Source) → Type 0
DigestsTell Src M = (h : Atom) (s t : Source) → source_of Src h ≡ Some s → source_of M h ≡ Some t → s.digest ≡ t.digest → s ≡ t

-- The law of the kept table: where a table is that of some sources, the reports and the new table are those that an analysis from
-- the empty table gives of what is passed and of the kept sources.
abbrev pub KeptLaw : Type 0
KeptLaw = (Src M : List Source) (T new scratch : List Entry) (before reports all : List (List ℕ)) → AreSources Src → AreSources M → DigestsTell Src M → IsWritten [] Src before T
    → (w : IsWritten T M reports new) → IsWritten [] (with_kept (kept w.known T M w.groups) M Src) all scratch
    → (new ≡ scratch) × (reports ≡ take (length M) all)

-- There is such an analysis from the empty table, and the new table is its table: so that is again the table of sources, of what is handed
-- in and of the kept sources.
abbrev pub AgainLaw : Type 0
AgainLaw = (Src M : List Source) (T new : List Entry) (before reports : List (List ℕ)) → AreSources Src → AreSources M → DigestsTell Src M → IsWritten [] Src before T
    → (w : IsWritten T M reports new) → (all : List (List ℕ)) × IsWritten [] (with_kept (kept w.known T M w.groups) M Src) all new

-- What an entry uses is of modules that its text calls: where that text is passed, by its digest, or no text of its name is.
abbrev pub UseCalled : (T : List Entry) (M : List Source) → Type 0
UseCalled T M = (h : Atom) (e : Entry) (u : Called × Callee) → entry_of T h ≡ Some e → is_old (source_of M h) e ≡ true → Contains e.used u → has (calls_of T M h) u.0.0 ≡ true

-- There is one analysis of sources with such a table: whatever the numbers of workers, in two runs the reports and the new table are the
-- same.
abbrev pub OneAnalysisLaw : Type 0
OneAnalysisLaw = (T : List Entry) (M : List Source) (reports others : List (List ℕ)) (new other : List Entry) → AreSources M → UseCalled T M → IsWritten T M reports new → IsWritten T M others other
    → (reports ≡ others) × (new ≡ other)

-- The table of some sources is such a table.
abbrev pub EntriesUseCalledLaw : Type 0
EntriesUseCalledLaw = (Src M : List Source) (T : List Entry) (before : List (List ℕ)) → DigestsTell Src M → IsWritten [] Src before T → UseCalled T M

-- Entries that rise by name are given by the entry of each name.
abbrev pub OneTableLaw : Type 0
OneTableLaw = (A B : List Entry) → IsTrue (rises is_name_before (map (λ e. e.name) A)) → IsTrue (rises is_name_before (map (λ e. e.name) B)) → ((h : Atom) → entry_of A h ≡ entry_of B h) → A ≡ B

-- A wave that begins with what stands when n groups are decided, and whose modules are solved at once over what stands then, decides
-- groups as they are decided one after another.
abbrev pub WaveLaw : Type 0
WaveLaw = (R : Results) (T : List Entry) (M : List Source) (g : Groups) → AreSources M → IsGroups (is_candidate T M) (calls_of T M) g
    → (n : ℕ) (K : Standing) → n < g.count → ((h : Atom) (f : FunName) → K h f ≡ stands R T M g n h f)
    → IsSolved (to_solve T M g (wave_from T M g n K)) (wave_from T M g n K).known R
    → IsWave R T M g IsSolved n (wave_from T M g n K)

-- What stands when so many groups are decided rests on what is known of the modules of these groups alone: so one may go on to know more,
-- and what stood stands.
abbrev pub RestsLaw : Type 0
RestsLaw = (R Q : Results) (T : List Entry) (M : List Source) (g : Groups) → IsGroups (is_candidate T M) (calls_of T M) g
    → (n : ℕ) → ((h : Atom) → is_in M h ≡ true → g.number h < n → R h ≡ Q h)
    → (h : Atom) (f : FunName) → stands R T M g n h f ≡ stands Q T M g n h f

-- What the analysis from the empty table gives of each module is given by what is known of all functions, where the modules are analysed
-- together.
abbrev pub WholeLaw : Type 0
WholeLaw = (M : List Source) (reports : List (List ℕ)) (new : List Entry) (known : Callees) → AreSources M → (w : IsWritten [] M reports new) → IsWholeOf (trees M) known
    → (s : Source) → Contains M s → IsResult known s.tree (w.known s.tree.name)

-- What is reported is found by what is known of the functions of a whole program: of what is passed and of the kept sources, where the
-- table is that of some sources. So nothing that is reported is false of a run of that program.
pub record AreFound (U M : List Source) (lines : Atom → List ℕ) : Type 0 where
  pub known : Callees
  pub whole : IsWhole (trees U) known
  pub found : (s : Source) → Contains M s → AreLines s.tree.name (findings known s.tree) (lines s.tree.name)

abbrev pub FoundLaw : Type 0
FoundLaw = (Src M : List Source) (T new : List Entry) (before reports : List (List ℕ)) → AreSources Src → AreSources M → DigestsTell Src M → IsWritten [] Src before T
    → (w : IsWritten T M reports new) → AreFound (with_kept (kept w.known T M w.groups) M Src) M (λ h. (w.known h).lines)
