use Rattle.std.proofs.Common.{sym, ◌∙◌}
use Rattle.core_ast.specs.Tree.{module_tree}
use Rattle.core_scope.specs.Breaks.{module_breaks}
use Rattle.core_scope.proofs.FirstBreaks.{first_is, none_broken}
use Rattle.core_scope.proofs.checking.check.Goals as goal

pub accept-requires-clause-sound : goal.accept-requires-clause-sound
accept-requires-clause-sound c = none_broken (module_breaks (module_tree c.args.source)) (sym c.in-Ok-None.field-0-is ∙ c.in-Ok-None.ensures)

pub returns-in-Ok-Some-clause-refused : goal.returns-in-Ok-Some-clause-refused
returns-in-Ok-Some-clause-refused c = λ other. (c.in-Ok-Some.first, c.fault.ensures, first_is (module_tree c.args.source) c.in-Ok-Some.first (sym c.in-Ok-Some.field-0-is ∙ c.in-Ok-Some.ensures))
