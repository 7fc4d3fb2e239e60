use Rattle.std.proofs.Common.{ap, ◌∙◌}
use Rattle.std.proofs.lemmas.List.{nil_from_length}
use Rattle.core_ast.specs.Tree.{all_steps, step_tree}
use Rattle.core_print.specs.steps.Parts.{ends, step_end}
use Rattle.core_print.proofs.Adding.{begins, goes_on, done}
use Rattle.core_print.proofs.PartLemmas.{last_step}
use Rattle.core_print.proofs.lists.append_steps_closed.Goals as goal

pub loop-last-init : goal.loop-last-init
loop-last-init c = begins (ends (all_steps c.args.steps.now)) c.args.out.now

pub loop-last-preserved : goal.loop-last-preserved
loop-last-preserved c =
    goes_on (ends (all_steps c.loop-last.left.now)) (ends (all_steps c.in-Some.before.now)) (ends (all_steps c.args.steps.now)) (step_end (step_tree c.in-Some.last.now)) c.args.out.now c.loop-last.out c.append_step_closed.new.out
    (λ rest. ap (λ xs. ends (all_steps xs) rest) c.in-Some.ensures.cases.0 ∙ last_step c.in-Some.before.now c.in-Some.last.now rest)
    c.loop-last.invariant c.in_ok-append_step_closed.ensures

pub returns : goal.returns
returns c =
    done (ends (all_steps c.loop-last.left.now)) (ends (all_steps c.args.steps.now)) c.args.out.now c.loop-last.out
    (λ rest. ap (λ xs. ends (all_steps xs) rest) (nil_from_length c.loop-last.left.now c.in_default.ensures.cases))
    c.loop-last.invariant
