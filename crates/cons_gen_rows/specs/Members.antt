-- The functions of a component, by module and name.
use Rattle.std.specs.Prelude.{Bool, List, [], unwrap_or}
use Rattle.std.specs.List.{list_any}
use Rattle.std.specs.Map.{lookup}
use Rattle.type_kinds.specs.declared.atom.Atom.{Atom}
use Rattle.core_ast.specs.declared.syntax.FunName.{FunName}
use Rattle.cons_tree.specs.Callees.{same_home, same_name}

-- whether a name is among these
abbrev pub has_name : List FunName → FunName → Bool
has_name names f = list_any (same_name f) names

-- the names of a module
abbrev pub names_of : List (Atom × List FunName) → Atom → List FunName
names_of members h = unwrap_or (lookup (same_home h) members) []

-- whether the function of this module and name is one of the component
unfoldable pub is_member : List (Atom × List FunName) → Atom → FunName → Bool
is_member members h f = has_name (names_of members h) f
