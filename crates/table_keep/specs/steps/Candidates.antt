-- Where modules stand among those that are passed and among those that have an entry, by name.
use Rattle.std.specs.Prelude.{ℕ, suc, cond, Option, Some, None, List, [], ◌∷◌, map}
use Rattle.std.specs.Option.{option_map}
use Rattle.type_kinds.specs.declared.atom.Atom.{Atom}
use Rattle.core_scope.specs.Names.{same_atom}
use Rattle.core_scope.specs.Checked.{module_of}
use Rattle.table_file.specs.declared.entries.Entry.{Entry}
use Rattle.table_keep.specs.declared.source.Source.{Source}
use Rattle.table_keep.specs.declared.candidates.Positions.{Positions}

-- where a name first stands among names, if it does
abbrev pub place_of : List Atom → Atom → Option ℕ
place_of [] h = None
place_of (x ∷ xs) h = cond (same_atom h x) (Some 0) (option_map suc (place_of xs h))

-- the two positions of a name that has one
abbrev pub both : Option ℕ → Option ℕ → Option Positions
both None None = None
both (Some i) e = Some (record { source = Some i; entry = e })
both None (Some j) = Some (record { source = None; entry = Some j })

-- where a name stands, if it does
abbrev pub standing : (sources entries : List Atom) → Atom → Option Positions
standing sources entries h = both (place_of sources h) (place_of entries h)

-- the source that positions tell of, if there are any
abbrev pub source_in : Option Positions → Option ℕ
source_in None = None
source_in (Some p) = p.source

-- the names of the modules that are passed, and of those that have an entry
abbrev pub source_names : List Source → List Atom
source_names sources = map (λ s. (module_of s.checked).name) sources

abbrev pub entry_names : List Entry → List Atom
entry_names entries = map (λ e. e.name) entries
