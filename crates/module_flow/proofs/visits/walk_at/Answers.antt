use Rattle.std.proofs.Common.{ap, ◌∙◌, set}
use Rattle.std.proofs.lemmas.Result.{on_ok_weaker}
use Rattle.module_flow_state.specs.steps.Reading.{labels_given}
use Rattle.module_flow.proofs.visits.walk_at.Goals as goal

pub returns-clause-visits : goal.returns-clause-visits
returns-clause-visits c =
    on_ok_weaker c.add_contributions.result
    (λ added v at.
    c.in_ok-walked.ensures v at
    ∙ ap (λ gs. set c.args.visits.now c.args.position (record { own = v.own; given = labels_given gs })) (c.as_slice.ensures ∙ c.in_ok-given.ensures))
    c.add_contributions.ensures
