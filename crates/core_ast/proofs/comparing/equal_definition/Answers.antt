use Rattle.std.proofs.Common.{sym, ◌∙◌, ap, true}
use Rattle.core_ast.specs.Tree.{def_tree}
use Rattle.core_ast.specs.steps.Comparing.{compared_def}
use Rattle.core_ast.proofs.WithPlaces.{all_definition}
use Rattle.core_ast.proofs.OneTree.{one_definition}
use Rattle.core_ast.proofs.comparing.equal_definition.Goals as goal

pub returns : goal.returns
returns c =
    let a = all_definition (def_tree c.args.a.now) in
    let b = all_definition (def_tree c.args.b.now) in
    (λ h. one_definition c.args.a.now c.args.b.now (sym a ∙ c.same_definition.ensures.0 h ∙ b), λ h. c.same_definition.ensures.1 (ap (λ d. compared_def true (def_tree d)) h))
