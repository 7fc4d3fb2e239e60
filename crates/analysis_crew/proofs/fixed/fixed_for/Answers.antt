use Rattle.std.proofs.Common.{ap, map, ◌∙◌}
use Rattle.cons_tree.specs.Callees.{found}
use Rattle.comp_rounds.specs.Members.{function_of}
use Rattle.analysis_summaries.specs.Known.{all_unknown}
use Rattle.analysis_crew.specs.steps.Fixing.{fixed_by}
use Rattle.comp_rounds.proofs.SameCallees.{pointwise}
use Rattle.analysis_crew.proofs.fixed.fixed_for.Goals as goal

pub returns-in-Ok : goal.returns-in-Ok
returns-in-Ok c =
    c.in-Ok.ensures
    ∙ ap (λ k. fixed_by (found c.args.first.now) (map function_of c.args.members.now) c.args.outside.now k c.args.numbers.now)
    (pointwise (found c.new-fixed.result) all_unknown c.new-fixed.ensures)
