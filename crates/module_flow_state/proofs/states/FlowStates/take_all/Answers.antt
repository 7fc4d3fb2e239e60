use Rattle.std.proofs.Common.{◌≡◌, false, refl, sym, ◌∙◌, true≢false}
use Rattle.module_flow_state.specs.States.{takes}
use Rattle.module_flow_state.specs.steps.Changes.{rounds_of}
use Rattle.module_flow_state.proofs.LastRounds.{noted_more, noted_none, taken_round}
use Rattle.module_flow_state.proofs.Latest.{changes_none, changes_through}
use Rattle.module_flow_state.proofs.states.FlowStates.take_all.Goals as goal
use Rattle.module_flow_state.proofs.states.FlowStates.take_all.Goals.{then-branch, else-branch}

pub loop-contribution-init : goal.loop-contribution-init
loop-contribution-init c = record {
  after = refl;
  noted = noted_none c.args.self.now c.args.self.now (rounds_of c.args.changes.now) c.args.next refl;
  more = changes_none c.args.changes.now c.args.next;
}

pub loop-contribution-preserved : goal.loop-contribution-preserved
loop-contribution-preserved c =
    let both : c.if-branch.changed ≡ false → (c.loop-contribution.changed ≡ false) × (c.in_ok-take_noting.field-0 ≡ false) =
    elim c.if-branch.branch [ then-branch w ↦ λ h. absurd (true≢false (sym w.changed-is ∙ h)) | else-branch w ↦ λ h. (sym w.changed-is ∙ h, w.if-branch.false) ]
    in
    record {
      after = taken_round c.loop-contribution.self c.take_noting.new.self (takes c.args.self.now c.args.contributions.now) c.args.contributions.now c.loop-contribution.contribution-index c.contribution-item.result
          c.loop-contribution-test.true c.contribution-item.is c.in_ok-take_noting.ensures.after c.loop-contribution.invariant.after;
      noted = noted_more c.args.self.now c.loop-contribution.self c.take_noting.new.self (rounds_of c.args.changes.now) (rounds_of c.loop-contribution.changes)
          (rounds_of c.take_noting.new.changes) c.args.next c.loop-contribution.changed c.in_ok-take_noting.field-0 c.if-branch.changed c.loop-contribution.invariant.noted c.in_ok-take_noting.ensures.noted both;
      more = changes_through c.args.changes.now c.loop-contribution.changes c.take_noting.new.changes c.args.next c.loop-contribution.invariant.more c.in_ok-take_noting.ensures.more;
    }
