-- What is known of functions where the entries of a group are entered, one after another.
use Rattle.std.specs.Prelude.{cond, Option, Some, None, List, [], ◌∷◌}
use Rattle.type_kinds.specs.declared.atom.Atom.{Atom}
use Rattle.core_ast.specs.declared.syntax.FunName.{FunName}
use Rattle.core_scope.specs.Names.{same_atom}
use Rattle.cons_tree.specs.Callees.{same_name}
use Rattle.cons_tree.specs.declared.parts.Summary.{Summary}
use Rattle.cons_tree.specs.declared.parts.Callee.{Callee}
use Rattle.cons_tree.specs.declared.parts.Callee.TheVariants.{Known}
use Rattle.comp_rounds.specs.Rounds.{Callees}
use Rattle.table_keep.specs.Model.{Entry, entry_of}
use Rattle.table_keep.specs.Kept.{callee_among}

-- what is known of a function, where these are known and of every other stands this
abbrev pub among_or : List (FunName × Summary) → Callee → FunName → Callee
among_or [] rest f = rest
among_or (x ∷ xs) rest f = cond (same_name f x.0) (Known x.1) (among_or xs rest f)

abbrev pub with_exports : Callees → Atom → List (FunName × Summary) → Callees
with_exports known home exports h f = cond (same_atom h home) (among_or exports (known h f) f) (known h f)

-- where a module's entry is entered
abbrev pub with_entry : Callees → Entry → Callees
with_entry known e h f = cond (same_atom h e.name) (callee_among e.result.exports f) (known h f)

abbrev pub with_entry_of : Callees → Option Entry → Callees
with_entry_of known None = known
with_entry_of known (Some e) = with_entry known e

-- where those of names are, if they have some
abbrev pub with_entries_of : List Entry → List Atom → Callees → Callees
with_entries_of T [] known = known
with_entries_of T (h ∷ hs) known = with_entries_of T hs (with_entry_of known (entry_of T h))
