-- What is said of a table and of sources, by names: sources and entries as plain records, and look-ups in lists of them.
use Rattle.std.specs.Prelude.{ℕ, Bool, true, false, cond, Option, Some, None, List, [], ◌∷◌, map}
use Rattle.type_kinds.specs.declared.atom.Atom.{Atom}
use Rattle.core_ast.specs.declared.syntax.FunName.{FunName}
use Rattle.core_ast.specs.Model as m
use Rattle.core_scope.specs.Names.{same_atom}
use Rattle.call_graph.specs.Outside.{Called}
use Rattle.cons_tree.specs.declared.parts.Summary.{Summary}
use Rattle.cons_tree.specs.declared.parts.Callee.{Callee}
use Rattle.core_scope.specs.Checked.{tree_of}
use Rattle.table_keep.specs.declared.source.Source.{Source as HandedIn}
use Rattle.table_file.specs.declared.used.Used.{Used}
use Rattle.table_file.specs.declared.entries.Entry.{Entry as StoredEntry}
use Rattle.table_file.specs.declared.tables.Table.{Table}

-- ---- sources

-- A module that is passed: its tree, and the digest of its text.
pub record Source : Type 0 where
  pub tree : m.Module
  pub digest : List ℕ

abbrev pub source_so : HandedIn → Source
source_so s = record { tree = tree_of s.checked; digest = s.digest.0 }

abbrev pub sources_so : List HandedIn → List Source
sources_so ss = map source_so ss

-- the modules of sources
abbrev pub trees : List Source → List m.Module
trees sources = map (λ s. s.tree) sources

-- the source of a name: the first whose module has it
abbrev pub source_of : List Source → Atom → Option Source
source_of [] h = None
source_of (s ∷ ss) h = cond (same_atom h s.tree.name) (Some s) (source_of ss h)

abbrev pub is_there : {A : Type 0} → Option A → Bool
is_there None = false
is_there (Some x) = true

-- whether a module of this name is passed
abbrev pub is_in : List Source → Atom → Bool
is_in sources h = is_there (source_of sources h)

-- those of some names
abbrev pub picked : (Atom → Bool) → List Source → List Source
picked p [] = []
picked p (s ∷ ss) = cond (p s.tree.name) (s ∷ picked p ss) (picked p ss)

-- ---- entries

-- What the analysis gives for a module: its exported functions with their summaries, and the lines of its report.
pub record Result : Type 0 where
  pub exports : List (FunName × Summary)
  pub lines : List ℕ

-- What a table knows of a module.
pub record Entry : Type 0 where
  pub name : Atom
  pub digest : List ℕ
  pub group : List Atom
  pub calls : List Atom
  pub used : List (Called × Callee)
  pub result : Result

abbrev pub used_so : Used → Called × Callee
used_so u = ((u.home, u.name), u.callee)

abbrev pub entry_so : StoredEntry → Entry
entry_so e = record {
  name = e.name;
  digest = e.digest.0;
  group = e.group;
  calls = e.calls;
  used = map used_so e.used;
  result = record { exports = e.exports; lines = e.lines };
}

-- the entries of a table
abbrev pub entries_so : Table → List Entry
entries_so t = map entry_so t.entries

-- the entry of a name: the first that has it
abbrev pub entry_of : List Entry → Atom → Option Entry
entry_of [] h = None
entry_of (e ∷ es) h = cond (same_atom h e.name) (Some e) (entry_of es h)
