-- What can be written: counts and lengths are written in four bytes, so they are below 2 ^ 32.
use Rattle.std.specs.Prelude.{◌^◌, Bool, true, ◌&&◌, nat_lt, List, length}
use Rattle.std.specs.List.{list_all}
use Rattle.type_bytes.specs.ShortNames.{has_short_names}
use Rattle.core_ast.specs.declared.syntax.FunName.{FunName}
use Rattle.cons_tree.specs.declared.parts.Sig.{Sig}
use Rattle.cons_tree.specs.declared.parts.Summary.{Summary}
use Rattle.cons_tree.specs.declared.parts.Callee.{Callee}
use Rattle.cons_tree.specs.declared.parts.Callee.TheVariants.{Known, Local, Undefined, Unknown}
use Rattle.table_file.specs.declared.used.Used.{Used}
use Rattle.table_file.specs.declared.entries.Entry.{Entry}
use Rattle.table_file.specs.declared.tables.Table.{Table}

-- whether the list has fewer than 2 ^ 32 items
abbrev pub is_short : {X : Type 0} → List X → Bool
is_short xs = nat_lt (length xs) (2 ^ 32)

-- whether the list is short, and each item as the test says
abbrev pub are_short : {X : Type 0} → (X → Bool) → List X → Bool
are_short test xs = is_short xs && list_all test xs

-- whether the atoms in all types of a signature are short
unfoldable pub is_short_sig : Sig → Bool
is_short_sig s = has_short_names s.result && list_all has_short_names s.args

unfoldable pub is_short_summary : Summary → Bool
is_short_summary s = is_short_sig s.strict && is_short_sig s.lenient

unfoldable pub is_short_callee : Callee → Bool
is_short_callee (Known s) = is_short_summary s
is_short_callee (Local s) = true
is_short_callee Undefined = true
is_short_callee Unknown = true

unfoldable pub is_short_used : Used → Bool
is_short_used u = is_short u.home && is_short u.name.name && is_short_callee u.callee

unfoldable pub is_short_export : FunName × Summary → Bool
is_short_export x = is_short x.0.name && is_short_summary x.1

-- whether the atoms in all types of the entry are short
unfoldable pub has_short_types : Entry → Bool
has_short_types e = list_all (λ u. is_short_callee u.callee) e.used && list_all (λ x. is_short_summary x.1) e.exports

-- whether each count and each length of the entry fits into four bytes
unfoldable pub is_short_entry : Entry → Bool
is_short_entry e =
    is_short e.name && are_short is_short e.group && are_short is_short e.calls && are_short is_short_used e.used
    && are_short is_short_export e.exports && is_short e.lines

-- the same of the table
unfoldable pub is_short_table : Table → Bool
is_short_table t = are_short is_short_entry t.entries
