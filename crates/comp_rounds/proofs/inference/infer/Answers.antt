use Rattle.std.proofs.Common.{◌≡◌, length, ap, replicate, ◌∙◌}
use Rattle.std.proofs.lemmas.Result.{IfOk-weaker}
use Rattle.type_lattice.specs.Types.{any}
use Rattle.core_ast.specs.Tree.{tree}
use Rattle.cons_tree.specs.Constraints.{constraint}
use Rattle.cons_solve.specs.Environments.{solution}
use Rattle.cons_gen_rows.specs.Knowing.{knowledge}
use Rattle.cons_gen.specs.Made.{definition_constraint, definition_slots}
use Rattle.comp_rounds.specs.Members.{function_of}
use Rattle.comp_rounds.specs.Rounds.{inferred, signature_in}
use Rattle.comp_rounds.proofs.Inferred.{found_is, inferred_is}
use Rattle.comp_rounds.proofs.inference.infer.Goals as goal

pub returns-in-Ok-Some : goal.returns-in-Ok-Some
returns-in-Ok-Some c =
    let P = knowledge c.args.pass.now c.args.known.now in
    let g = function_of c.args.member.now in
    let made = c.in_ok-made.made in
    inferred_is P g (constraint made.constraint) made.slots c.len-count.result c.in-Ok-Some.sig
    (c.in_ok-made.ensures.constraint ∙ ap (λ d. definition_constraint P g.home d.fun.params (tree d.fun.body)) c.get-def.ensures)
    (c.in_ok-made.ensures.slots ∙ ap (λ d. definition_slots d.fun.params (tree d.fun.body)) c.get-def.ensures)
    (c.len-count.ensures ∙ ap (λ d. length d.fun.params) c.get-def.ensures)
    (found_is c.in-Ok-Some.field-0 c.in-Ok-Some.sig (signature_in c.len-count.result (solution (constraint made.constraint) (replicate made.slots any)))
    c.in-Ok-Some.field-0-is c.in-Ok-Some.ensures)

pub returns-in-Ok-None : goal.returns-in-Ok-None
returns-in-Ok-None c =
    let P = knowledge c.args.pass.now c.args.known.now in
    let g = function_of c.args.member.now in
    let made = c.in_ok-made.made in
    IfOk-weaker c.keep_signature.result (λ sig. sig ≡ signature_in c.len-count.result (solution (constraint made.constraint) (replicate made.slots any)))
    (λ sig. sig ≡ inferred P g)
    (λ sig is.
    inferred_is P g (constraint made.constraint) made.slots c.len-count.result sig
    (c.in_ok-made.ensures.constraint ∙ ap (λ d. definition_constraint P g.home d.fun.params (tree d.fun.body)) c.get-def.ensures)
    (c.in_ok-made.ensures.slots ∙ ap (λ d. definition_slots d.fun.params (tree d.fun.body)) c.get-def.ensures)
    (c.len-count.ensures ∙ ap (λ d. length d.fun.params) c.get-def.ensures) is)
    c.keep_signature.ensures
