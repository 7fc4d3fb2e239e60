-- What is known and written when so many groups are decided.
use Rattle.std.specs.Prelude.{◌≡◌, ◌↔◌, ℕ, ◌<◌, ◌≤◌, true, false, Option, Some, List, ◌++◌, length, slice_get, Contains}
use Rattle.type_kinds.specs.declared.atom.Atom.{Atom}
use Rattle.core_ast.specs.declared.syntax.FunName.{FunName}
use Rattle.core_ast.specs.Model as m
use Rattle.cons_tree.specs.Callees.{as_called}
use Rattle.comp_rounds.specs.Rounds.{Callees}
use Rattle.module_flow.specs.Flow.{findings}
use Rattle.warn_list.specs.Lines.{AreLines}
use Rattle.table_keep.specs.Model.{Source, Entry, entry_of}
use Rattle.table_keep.specs.Groups.{Groups, IsGroups, has}
use Rattle.table_keep.specs.Kept.{Standing, Results, is_candidate, calls_of, stands, is_kept, kept}
use Rattle.table_keep.specs.Made.{exported, AreSummarized, IsKnown}
use Rattle.sound_laws_kept.specs.Solving.{IsSolved}
use Rattle.sound_laws_kept.specs.Waves.{Wave, SolvedBetween}

-- what stands of functions where this is known
abbrev pub seen : Callees → Standing
seen known h f = as_called (known h f)

-- a wave by what the code has of it
abbrev pub wave_so : (next : ℕ) → Callees → (todo : List Atom) → Wave
wave_so next known todo = record { next = next; known = seen known; todo = todo }

-- the name is in no group from this one on
abbrev pub IsBefore : Groups → ℕ → Atom → Type 0
IsBefore g first h = (n : ℕ) → first ≤ n → has (g.members n) h ≡ false

-- the same names are added last to both lists
pub record AddsBoth (one one_new other other_new : List Atom) : Type 0 where
  pub names : List Atom
  pub one_so : one_new ≡ one ++ names
  pub other_so : other_new ≡ other ++ names

-- these are the lines of the report on a module
abbrev pub IsReported : Callees → m.Module → Option (List ℕ) → Type 0
IsReported known x lines = (text : List ℕ) × (lines ≡ Some text) × AreLines x.name (findings known x) text

-- Each module of these names has the lines of its report, and every other has those that it had.
pub record AreReported (todo : List Atom) (M : List Source) (known : Callees) (before after : List (List ℕ)) : Type 0 where
  pub counted : length after ≡ length before
  pub reported : (i : ℕ) (s : Source) → slice_get M i ≡ Some s → has todo s.tree.name ≡ true → IsReported known s.tree (slice_get after i)
  pub others : (i : ℕ) (s : Source) → slice_get M i ≡ Some s → has todo s.tree.name ≡ false → slice_get after i ≡ slice_get before i

-- So many groups are decided as they are one after another: this is known of functions, these names are in groups that aren't kept,
-- and each module of these that is passed has the lines of its report.
pub record IsDecided (T : List Entry) (M : List Source) (g : Groups) (n : ℕ) (known : Callees) (changed : List Atom) (lines : List (List ℕ)) : Type 0 where
  pub results : Results
  pub low : n ≤ g.count
  pub known_so : (h : Atom) (f : FunName) → seen known h f ≡ stands results T M g n h f
  pub of_entry : (h : Atom) (e : Entry) → kept results T M g h ≡ true → g.number h < n → entry_of T h ≡ Some e → results h ≡ e.result
  pub solved : SolvedBetween results T M g IsSolved 0 n
  pub changed_so : (h : Atom) → (has changed h ≡ true) ↔ ((is_candidate T M h ≡ true) × (g.number h < n) × (is_kept results T M g (g.number h) ≡ false))
  pub counted : length lines ≡ length M
  pub summarized : (s : Source) → Contains M s → has changed s.tree.name ≡ true → AreSummarized known s.tree.name (exported s.tree) (results s.tree.name).exports
  pub revealed : (s : Source) → Contains M s → has changed s.tree.name ≡ true → (f : FunName) → Contains s.tree.exports f → IsKnown (known s.tree.name f)
  pub lines_so : (i : ℕ) (s : Source) → slice_get M i ≡ Some s → has changed s.tree.name ≡ true → slice_get lines i ≡ Some (results s.tree.name).lines

-- All groups of candidates are decided.
pub record AreDecided (T : List Entry) (M : List Source) (known : Callees) (changed : List Atom) (lines : List (List ℕ)) : Type 0 where
  pub groups : Groups
  pub candidates : IsGroups (is_candidate T M) (calls_of T M) groups
  pub decided : IsDecided T M groups groups.count known changed lines
