-- The rules of an entry's used functions and exports.
use Rattle.std.specs.Prelude.{Bool, not, ◌&&◌, nat_lt, List}
use Rattle.type_kinds_sets.specs.Names.{Name, name_cmp}
use Rattle.core_ast.specs.declared.syntax.FunName.{FunName}
use Rattle.cons_tree.specs.declared.parts.Summary.{Summary}
use Rattle.table_file.specs.Order.{by_first, is_function_before, has_name}
use Rattle.table_file.specs.Stored.{takes}
use Rattle.table_file.specs.declared.used.Used.{Used}

-- used functions go by the module, and then as functions do
abbrev pub is_used_before : Used → Used → Bool
is_used_before u v = by_first (name_cmp u.home v.home) (is_function_before u.name v.name)

-- whether the module of a used function is among the called ones, and outside the group
abbrev pub is_outside : List Name → List Name → Used → Bool
is_outside group calls u = has_name calls u.home && not (has_name group u.home)

abbrev pub is_export_before : FunName × Summary → FunName × Summary → Bool
is_export_before x y = is_function_before x.0 y.0

-- whether it may be exported: it has at most 255 arguments, and its summary as many as its name
abbrev pub is_export : FunName × Summary → Bool
is_export x = nat_lt x.0.arity 256 && takes x.1 x.0.arity
