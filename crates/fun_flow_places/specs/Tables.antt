-- What modules export, by their positions: a table of it, and what a look-up finds.
use Rattle.std.specs.Prelude.{◌≡◌, ℕ, List, [], ◌∷◌, ◌++◌, map, Option, Some, None}
use Rattle.type_kinds.specs.declared.atom.Atom.{Atom}
use Rattle.core_ast.specs.declared.syntax.FunName.{FunName}
use Rattle.core_ast.specs.Model as m
use Rattle.type_lattice_model.specs.Values.{Local}
use Rattle.core_meaning.specs.Programs.{Program, locals_of, function_named, built_in, exported, hidden, outside, found}
use Rattle.fun_flow_sets.specs.Items.{defined_at}
use Rattle.fun_flow_places.specs.declared.table.ModuleTable.{ModuleTable}
use Rattle.fun_flow_places.specs.declared.table.FoundFunction.{FoundFunction}
use Rattle.fun_flow_places.specs.declared.table.FoundFunction.TheVariants.{BuiltIn, Outside, Hidden, Exported}
use Rattle.fun_flow_places.specs.Naming.{module_names, name_of}

-- ---- functions by their names

abbrev pub label_of : Option Local → Option ℕ
label_of None = None
label_of (Some d) = Some d.label

-- the definitions of a `letrec` or of a module, the first of them innermost
abbrev pub frame : List Local → List (FunName × ℕ)
frame [] = []
frame (d ∷ ds) = frame ds ++ (record { name = d.name; arity = d.arity }, d.label) ∷ []

-- ---- the table

-- what a module exports, each function with its label
abbrev pub exports_of : m.Module → List (FunName × Option ℕ)
exports_of p = map (λ f. (f, label_of (function_named (locals_of p.defs) f))) p.exports

-- A table has the names of these modules and what they export.
pub record IsTableOf (U : Program) (table : ModuleTable) : Type 0 where
  pub names : table.names ≡ module_names U
  pub exports : table.exports ≡ map exports_of U

-- What a call by a module and a name finds is this, with the position of the module and the label of the function.
abbrev pub Finds : Program → Atom → FunName → FoundFunction → Type 0
Finds U x f BuiltIn = found U x f ≡ built_in
Finds U x f Outside = found U x f ≡ outside
Finds U x f Hidden = found U x f ≡ hidden
Finds U x f (Exported h o) = (found U x f ≡ exported) × ((name_of U h ≡ x) × (label_of (defined_at U x f) ≡ o))
