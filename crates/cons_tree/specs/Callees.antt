-- What is known of the functions of several modules, by module and name.
use Rattle.std.specs.Prelude.{◌≡◌, ℕ, Bool, ◌&&◌, List, [], nat_eq, length, unwrap_or}
use Rattle.std.specs.Cmp.Lexicographic.{pointwise}
use Rattle.std.specs.Map.{lookup}
use Rattle.type_kinds.specs.declared.atom.Atom.{Atom}
use Rattle.core_ast.specs.declared.syntax.FunName.{FunName}
use Rattle.cons_tree.specs.declared.parts.Summary.{Summary}
use Rattle.cons_tree.specs.declared.parts.Callee.{Callee}
use Rattle.cons_tree.specs.declared.parts.Callee.TheVariants.{Known, Local, Undefined, Unknown}

-- whether two modules' names are one, and whether two functions' names are
abbrev pub same_home : Atom → Atom → Bool
same_home h k = pointwise nat_eq h k

abbrev pub same_name : FunName → FunName → Bool
same_name f g = pointwise nat_eq f.name g.name && nat_eq f.arity g.arity

-- what is known of the names of one module: what was set for some, and what stands under every other
abbrev pub HomeCallees : Type 0
HomeCallees = List (FunName × Callee) × Callee

-- what is known of the names of several modules
abbrev pub Tables : Type 0
Tables = List (Atom × HomeCallees)

-- what was set for a name of one module, and where nothing was what stands under every other name
abbrev pub callee_in : HomeCallees → FunName → Callee
callee_in callees f = unwrap_or (lookup (same_name f) callees.0) callees.1

-- what is known of the names of a module: nothing of any, where no more was said
abbrev pub callees_of : Tables → Atom → HomeCallees
callees_of tables h = unwrap_or (lookup (same_home h) tables) ([], Unknown)

-- What is known under a module and a name. Where nothing was set it is Undefined in a module that was closed, and else Unknown.
unfoldable pub found : Tables → Atom → FunName → Callee
found tables h f = callee_in (callees_of tables h) f

-- the signatures of a summary have n arguments
abbrev pub Takes : Summary → ℕ → Type 0
Takes s n = (length s.strict.args ≡ n) × (length s.lenient.args ≡ n)

-- a callee under a name of n arguments: its signatures have as many
abbrev pub Fits : Callee → ℕ → Type 0
Fits (Known s) n = Takes s n
Fits (Local s) n = Takes s n
Fits Undefined n = Unit {0}
Fits Unknown n = Unit {0}

-- What a call from another module can tell of a function: one that its module doesn't export is to it as one that isn't there.
abbrev pub as_called : Callee → Callee
as_called (Known s) = Known s
as_called (Local s) = Undefined
as_called Undefined = Undefined
as_called Unknown = Unknown
