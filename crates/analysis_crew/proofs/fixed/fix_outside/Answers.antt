use Rattle.std.proofs.Common.{ap, ◌∙◌}
use Rattle.std.proofs.lemmas.Result.{on_ok_weaker}
use Rattle.cons_tree.specs.Callees.{found}
use Rattle.analysis_crew.specs.steps.Fixing.{fixing_all, with_called}
use Rattle.analysis_crew.proofs.fixed.fix_outside.Goals as goal

pub returns-in-Some : goal.returns-in-Some
returns-in-Some c =
    on_ok_weaker c.fix_calls.result
    (λ is. is ∙ ap (fixing_all (found c.args.first.now) (found c.args.fixed.now)) c.as_slice.ensures ∙ ap (with_called (found c.args.first.now) (found c.args.fixed.now)) c.in-Some.ensures.value)
    c.fix_calls.ensures

pub returns-in-None : goal.returns-in-None
returns-in-None c = ap (with_called (found c.args.first.now) (found c.args.fixed.now)) c.in-None.ensures.value
