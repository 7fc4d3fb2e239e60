-- How the entries of the new table are added, group by group and member by member.
use Rattle.std.specs.Prelude.{◌≡◌, ℕ, ◌<◌, true, false, Option, Some, None, List, slice_get}
use Rattle.type_kinds.specs.declared.atom.Atom.{Atom}
use Rattle.comp_rounds.specs.Rounds.{Callees}
use Rattle.table_keep.specs.Model.{Source, Entry, entry_of, is_in}
use Rattle.table_keep.specs.Groups.{Groups, has, group_of}
use Rattle.analysis.specs.steps.Making.{IsMade}

-- The members of these names in this group get an entry: the one that is kept, or the one that is made. No other name does.
pub record Adds (K : List Entry) (M : List Source) (known : Callees) (lines : List (List ℕ)) (group names : List Atom) (before after : Atom → Option Entry) : Type 0 where
  pub kept : (h : Atom) (e : Entry) → has names h ≡ true → entry_of K h ≡ Some e → after h ≡ Some e
  pub made : (i : ℕ) (s : Source) → slice_get M i ≡ Some s → has names s.tree.name ≡ true → entry_of K s.tree.name ≡ None → IsMade s group known (slice_get lines i) (after s.tree.name)
  pub others : (h : Atom) → (has names h ≡ true → (is_in M h ≡ false) × (entry_of K h ≡ None)) → after h ≡ before h

-- the members of so many groups have their entries
pub record AreAdded (K : List Entry) (M : List Source) (known : Callees) (lines : List (List ℕ)) (g : Groups) (n : ℕ) (entry : Atom → Option Entry) : Type 0 where
  pub kept : (h : Atom) (e : Entry) → g.number h < n → entry_of K h ≡ Some e → entry h ≡ Some e
  pub made : (i : ℕ) (s : Source) → slice_get M i ≡ Some s → g.number s.tree.name < n → entry_of K s.tree.name ≡ None → IsMade s (group_of g s.tree.name) known (slice_get lines i) (entry s.tree.name)
  pub others : (h : Atom) → is_in M h ≡ false → entry_of K h ≡ None → entry h ≡ None
