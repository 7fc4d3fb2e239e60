-- Functions by their names, each with the label of its definition: those of a module, and those of the `letrec`s in it.
use Rattle.std.specs.Prelude.{ℕ, List, [], ◌∷◌, Option, Some, None, if◌then◌else◌}
use Rattle.core_ast.specs.declared.syntax.FunName.{FunName}
use Rattle.core_ast.specs.Model as m
use Rattle.core_scope.specs.Names.{same_function}
use Rattle.cons_gen_rows.specs.Scopes.{or_outer}

-- the labels of definitions, in the order of the text
abbrev pub defined_labels : m.Defs → List ℕ
defined_labels m.no_def = []
defined_labels (m.and_def f i xs t ds) = i.label ∷ defined_labels ds

-- The label of the innermost function that has the name, where the outer come before the inner, each with its label beside.
abbrev pub label_named : List FunName → List ℕ → FunName → Option ℕ
label_named [] ls f = None
label_named (g ∷ gs) [] f = or_outer (label_named gs [] f) (if same_function g f then Some 0 else None)
label_named (g ∷ gs) (l ∷ ls) f = or_outer (label_named gs ls f) (if same_function g f then Some l else None)
