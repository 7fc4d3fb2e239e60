-- The functions that stand in a module under names, each as the flow's beginning takes it.
use Rattle.std.specs.Prelude.{ℕ, List, [], ◌∷◌, ◌++◌, length, Option, Some, None}
use Rattle.core_ast.specs.declared.syntax.FunName.{FunName}
use Rattle.core_scope.specs.Functions.{LabelledFunction}
use Rattle.module_flow_calls.specs.declared.names.DefinedFunction.{DefinedFunction}

-- a function of this label and name with n parameters
abbrev pub named_function : ℕ → FunName → ℕ → DefinedFunction
named_function l f n = record { label = l; name = f; count = n }

abbrev pub named_as : LabelledFunction → Option FunName → List DefinedFunction
named_as f None = []
named_as f (Some name) = named_function f.label name (length f.parameters) ∷ []

-- those that have a name, in their order
abbrev pub named_functions : List LabelledFunction → List DefinedFunction
named_functions [] = []
named_functions (f ∷ fs) = named_as f f.name ++ named_functions fs
