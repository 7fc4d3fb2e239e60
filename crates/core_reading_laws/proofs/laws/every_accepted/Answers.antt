use Rattle.std.proofs.Common.{◌≡◌, [], sym, subst}
use Rattle.core_ast.specs.Model as m
use Rattle.core_ast.specs.Tree.{module_tree}
use Rattle.core_ast.specs.declared.syntax.Module.{Module}
use Rattle.core_scope.specs.declared.checked.Checked.{Checked}
use Rattle.core_scope.specs.Accepted.{IsSpelled, IsAccepted}
use Rattle.core_scope.specs.Breaks.{module_breaks}
use Rattle.core_scope.specs.Checked.{tree_of}
use Rattle.core_reading_laws.proofs.CodeTrees.{some_module}
use Rattle.core_reading_laws.proofs.laws.every_accepted.Goals as goal

checked_of : (source : Module) (x : m.Module) → module_tree source ≡ x → IsAccepted x → (c : Checked) × (tree_of c ≡ x)
checked_of source x e h = (record { source = source; spelled = subst IsSpelled (sym e) h.spelled; sound = subst (λ y. module_breaks y ≡ []) (sym e) h.sound }, e)

pub returns : goal.returns
returns c = λ x h. let made = some_module x in checked_of made.0 x made.1 h
