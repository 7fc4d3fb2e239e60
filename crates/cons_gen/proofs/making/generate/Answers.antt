use Rattle.std.proofs.Common.{ap, ◌∙◌}
use Rattle.core_ast.specs.Tree.{tree}
use Rattle.cons_gen_rows.specs.Knowing.{knowledge}
use Rattle.cons_gen.specs.Made.{definition_constraint}
use Rattle.cons_gen.proofs.MadeExits.{definition_rows}
use Rattle.cons_gen.proofs.making.generate.Goals as goal

pub returns-clause-constraint : goal.returns-clause-constraint
returns-clause-constraint c =
    let P = knowledge c.args.pass.now c.args.known.now in
    c.finished.ensures.constraint
    ∙ definition_rows (record { home = c.args.home; known = c.args.known; pass = c.args.pass }) c.new-made.result c.take_run.new.self c.bind_all.new.self c.walk_expression.new.made c.as_slice-vars.result.now c.as_slice.result.now
    (tree c.get.result.now)
    c.new-made.ensures.members c.new-made.ensures.variables c.new-made.ensures.functions c.new-made.ensures.next c.in_ok-params.ensures.taken
    (c.as_slice.ensures ∙ c.in_ok-params.ensures.slots) c.in_ok-bind_all.ensures c.in_ok-walk_expression.ensures
    ∙ ap (λ xs. definition_constraint P c.args.home.now xs (tree c.get.result.now)) c.as_slice-vars.ensures ∙ ap (λ x. definition_constraint P c.args.home.now c.args.def.now.fun.params (tree x)) c.get.ensures
