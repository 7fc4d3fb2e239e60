-- The entries of the new table, and the reports, by what was decided.
use Rattle.std.specs.Prelude.{◌≡◌, ℕ, false, not, Option, Some, None, List, [], slice_get, filter, Contains}
use Rattle.type_kinds.specs.declared.atom.Atom.{Atom}
use Rattle.core_ast.specs.declared.syntax.FunName.{FunName}
use Rattle.comp_rounds.specs.Rounds.{Callees}
use Rattle.table_keep.specs.Model.{Source, Entry, Result, entry_of, is_in}
use Rattle.table_keep.specs.Groups.{Groups, IsGroups, has, group_of}
use Rattle.table_keep.specs.Kept.{is_candidate, calls_of}
use Rattle.table_keep.specs.Made.{made, exported, AreSummarized, IsKnown}
use Rattle.analysis.specs.steps.Deciding.{seen}

-- the entries that are kept, where these names are in groups that aren't
abbrev pub kept_of : (changed : List Atom) → List Entry → List Entry
kept_of changed T = filter (λ e. not (has changed e.name)) T

abbrev pub lines_in : Option Entry → List ℕ
lines_in None = []
lines_in (Some e) = e.result.lines

-- the entry of a module that was solved, by what is known of functions and the lines of its report
abbrev pub IsMade : Source → (group : List Atom) → Callees → (lines : Option (List ℕ)) → Option Entry → Type 0
IsMade s group known lines entry =
    (r : Result) × (entry ≡ Some (made s group (seen known) r)) × AreSummarized known s.tree.name (exported s.tree) r.exports × (lines ≡ Some r.lines)

-- The entries of the new table: those that are kept, and one for each other module that is passed.
pub record AreNew (K : List Entry) (M : List Source) (known : Callees) (lines : List (List ℕ)) (entry : Atom → Option Entry) : Type 0 where
  pub groups : Groups
  pub grouped : IsGroups (is_candidate K M) (calls_of K M) groups
  pub kept : (h : Atom) (e : Entry) → entry_of K h ≡ Some e → entry h ≡ Some e
  pub made : (i : ℕ) (s : Source) → slice_get M i ≡ Some s → entry_of K s.tree.name ≡ None → IsMade s (group_of groups s.tree.name) known (slice_get lines i) (entry s.tree.name)
  pub others : (h : Atom) → is_in M h ≡ false → entry_of K h ≡ None → entry h ≡ None

-- of what a module exports that has no kept entry a summary is known
abbrev pub AreOpen : (K : List Entry) → List Source → Callees → Type 0
AreOpen K M known = (s : Source) → Contains M s → entry_of K s.tree.name ≡ None → (f : FunName) → Contains s.tree.exports f → IsKnown (known s.tree.name f)
