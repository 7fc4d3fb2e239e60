-- What readers test: the number of arguments, and that the atoms in types are short.
use Rattle.std.specs.Prelude.{ℕ, Bool, ◌&&◌, nat_eq, List, length}
use Rattle.std.specs.List.{list_all}
use Rattle.type_bytes.specs.ShortNames.{has_short_names}
use Rattle.type_lattice.specs.Types.{Type4}
use Rattle.core_ast.specs.declared.syntax.FunName.{FunName}
use Rattle.cons_tree.specs.declared.parts.Sig.{Sig}
use Rattle.cons_tree.specs.declared.parts.Summary.{Summary}
use Rattle.cons_tree.specs.declared.parts.Callee.{Callee}
use Rattle.table_file.specs.Lengths.{is_short_sig, is_short_summary, is_short_callee}
use Rattle.table_file.specs.Rules.{is_export}
use Rattle.table_file.specs.Stored.{takes, is_stored}
use Rattle.table_file.specs.declared.used.Used.{Used}

abbrev pub are_types : ℕ → List Type4 → Bool
are_types n ts = list_all has_short_names ts && nat_eq (length ts) n

abbrev pub is_sig : ℕ → Sig → Bool
is_sig n s = is_short_sig s && nat_eq (length s.args) n

abbrev pub is_summary : ℕ → Summary → Bool
is_summary n s = is_short_summary s && takes s n

abbrev pub is_callee : ℕ → Callee → Bool
is_callee n c = is_short_callee c && is_stored c n

abbrev pub has_short_callee : Used → Bool
has_short_callee u = is_short_callee u.callee

abbrev pub is_short_export : FunName × Summary → Bool
is_short_export x = is_export x && is_short_summary x.1
