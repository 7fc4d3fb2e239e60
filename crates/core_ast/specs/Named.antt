-- The names that an expression may be.
use Rattle.std.specs.Prelude.{Option, Some, None}
use Rattle.type_kinds.specs.declared.atom.Atom.{Atom}
use Rattle.core_ast.specs.declared.syntax.FunName.{FunName}
use Rattle.core_ast.specs.declared.syntax.Literal.TheVariants as l
use Rattle.core_ast.specs.Model as m

-- The atom, where the expression is the literal of one.
abbrev pub literal_atom : m.Tree → Option Atom
literal_atom (m.literal k (l.Atom x)) = Some x
literal_atom _ = None

-- The function's name, where the expression is one.
abbrev pub local_name : m.Tree → Option FunName
local_name (m.local k f) = Some f
local_name _ = None
