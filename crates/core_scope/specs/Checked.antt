-- What contracts see of an accepted module.
use Rattle.core_ast.specs.declared.syntax.Module.{Module}
use Rattle.core_ast.specs.Model as m
use Rattle.core_ast.specs.Tree.{module_tree}
use Rattle.core_scope.specs.declared.checked.Checked.{Checked}
use Rattle.core_scope.specs.Accepted.{IsAccepted}

-- the module
abbrev pub module_of : Checked → Module
module_of c = c.source

-- its tree
abbrev pub tree_of : Checked → m.Module
tree_of c = module_tree c.source

-- It is accepted, by its type.
pub is_accepted : (c : Checked) → IsAccepted (tree_of c)
is_accepted c = record { spelled = c.spelled; sound = c.sound }
