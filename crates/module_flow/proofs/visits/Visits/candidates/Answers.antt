use Rattle.std.proofs.Common.{◌≡◌, ◌++◌, ℕ, ap, ap₂, ◌∙◌, subst, sym}
use Rattle.module_flow_state.specs.steps.Changes.{AllListed, rounds_of}
use Rattle.std.specs.List.{Contains}
use Rattle.module_flow.specs.steps.Readers.{readers}
use Rattle.module_flow.specs.steps.Visits.{AreCandidates}
use Rattle.module_flow.proofs.Candidates.{candidates_of}
use Rattle.module_flow.proofs.visits.Visits.candidates.Goals as goal

pub returns : goal.returns
returns c = λ k entered given.
    let rounds = rounds_of c.args.changes.now in
    let labels : c.as_slice-2.result.now ≡ c.args.changes.now.entered.latest ++ c.args.changes.now.given.latest =
    c.as_slice-2.ensures ∙ c.in_ok-add_labels.ensures ∙ ap₂ (λ xs ys. xs ++ ys) c.in_ok-labels.ensures c.as_slice.ensures in
    subst (λ vs. AreCandidates rounds k vs c.in_ok-positions.positions) c.self.view_is
    (candidates_of c.self.inside.readers.table c.self.inside.all rounds c.args.changes.now.entered.latest c.args.changes.now.given.latest c.in_ok-positions.positions k c.self.invariant
    (subst (λ ls. (l q : ℕ) → Contains ls l → Contains (readers c.self.inside.readers.table l) q → Contains c.in_ok-positions.positions q) labels c.in_ok-positions.ensures.all)
    c.in_ok-positions.ensures.ascending entered given)
