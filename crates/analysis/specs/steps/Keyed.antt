-- Entries by name.
use Rattle.std.specs.Prelude.{Bool, true, not, ◌&&◌, List, [], ◌∷◌, filter, Option, option_map}
use Rattle.std.specs.BTreeMap as tree
use Rattle.type_kinds.specs.declared.atom.Atom.{Atom}
use Rattle.type_kinds_sets.specs.Names.{name_cmp}
use Rattle.table_file.specs.declared.entries.Entry.{Entry as StoredEntry}
use Rattle.core_scope.specs.Names.{same_atom}
use Rattle.table_keep.specs.Groups.{has}
use Rattle.table_keep.specs.Model.{Entry, entry_so}

-- the entry under a name
abbrev pub entry_at : tree.BTreeMap Atom StoredEntry → Atom → Option Entry
entry_at by_name h = option_map entry_so (tree.get name_cmp by_name h)

-- whether each entry stands under its own name
abbrev pub are_keyed : List (Atom × StoredEntry) → Bool
are_keyed [] = true
are_keyed (p ∷ ps) = same_atom p.1.name p.0 && are_keyed ps

-- those that are kept
abbrev pub kept_among : (changed : List Atom) → List StoredEntry → List StoredEntry
kept_among changed es = filter (λ e. not (has changed e.name)) es
