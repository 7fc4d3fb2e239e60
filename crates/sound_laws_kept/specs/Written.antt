-- The written analysis of sources with a table: what is known of each module, and the new table.
use Rattle.std.specs.Prelude.{◌≡◌, ◌&&◌, Bool, not, cond, Option, Some, None, List, [], ◌++◌}
use Rattle.type_kinds.specs.declared.atom.Atom.{Atom}
use Rattle.table_keep.specs.Model.{Source, Entry, Result, source_of, is_in, picked, entry_of}
use Rattle.table_keep.specs.Made.{made}
use Rattle.table_keep.specs.Groups.{Groups, IsGroups, group_of}
use Rattle.table_keep.specs.Kept.{Solves, Standing, Results, AreResults, is_candidate, calls_of, kept, is_new, finally}

-- the entry of a module that was solved, if it is passed
abbrev pub made_of : Option Source → (group : List Atom) → Standing → Result → Option Entry
made_of None group K r = None
made_of (Some s) group K r = Some (made s group K r)

-- R: what is known of each module; g: the groups of the candidates; n: the groups of the new table's modules
module _ (R : Results) (T : List Entry) (M : List Source) (g n : Groups) where
  -- the new table's entry of a name
  unfoldable pub new_entry : Atom → Option Entry
  new_entry h = cond (kept R T M g h) (entry_of T h) (made_of (source_of M h) (group_of n h) (finally R T M g) (R h))

-- The written analysis of sources with a table: the groups of the candidates, those of the new table's modules, and what is known of
-- each module.
pub record IsAnalysisBy (solves : Solves) (T : List Entry) (M : List Source) (g n : Groups) (R : Results) : Type 0 where
  pub candidates : IsGroups (is_candidate T M) (calls_of T M) g
  pub new : IsGroups (is_new R T M g) (calls_of T M) n
  pub results : AreResults solves T M g R

-- The table is what an analysis of these sources from the empty table writes.
pub record IsTableBy (solves : Solves) (Src : List Source) (T : List Entry) : Type 0 where
  pub groups : Groups
  pub new_groups : Groups
  pub results : Results
  pub analysis : IsAnalysisBy solves [] Src groups new_groups results
  pub entries : (h : Atom) → entry_of T h ≡ new_entry results [] Src groups new_groups h

-- what is passed, and the sources of kept entries that aren't passed
abbrev pub with_kept : (kept : Atom → Bool) → (M Src : List Source) → List Source
with_kept kept M Src = M ++ picked (λ h. not (is_in M h) && kept h) Src
