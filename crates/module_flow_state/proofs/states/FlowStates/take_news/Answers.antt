use Rattle.std.proofs.Common.{◌≡◌, ◌∙◌, subst}
use Rattle.std.proofs.lemmas.Result.{on_ok_weaker}
use Rattle.module_flow_state.proofs.LastRounds.{early_after, late_after, noted_wide, widens_late}
use Rattle.module_flow_state.proofs.Latest.{changes_anew}
use Rattle.module_flow_state.specs.States.{takes, widened}
use Rattle.module_flow_state.specs.steps.Changes.{Noted, rounds_of}
use Rattle.module_flow_state.proofs.states.FlowStates.take_news.Goals as goal

pub returns-then-round-lt-JOINED_ROUNDS-clause-after : goal.returns-then-round-lt-JOINED_ROUNDS-clause-after
returns-then-round-lt-JOINED_ROUNDS-clause-after c =
    on_ok_weaker c.take_all.result (early_after c.args.round c.args.self.now c.take_all.new.self c.args.contributions.now c.if-round-lt-JOINED_ROUNDS.true) c.take_all.ensures.after

pub returns-then-round-lt-JOINED_ROUNDS-clause-anew : goal.returns-then-round-lt-JOINED_ROUNDS-clause-anew
returns-then-round-lt-JOINED_ROUNDS-clause-anew c =
    on_ok_weaker c.take_all.result (changes_anew c.args.changes.now c.begin.new.self c.take_all.new.changes c.args.next c.begin.ensures.rounds) c.take_all.ensures.more

pub returns : goal.returns
returns c =
    let same = c.decision_laws.ensures.same in
    let wide : c.widen_all.new.self ≡ widened c.args.self.now (takes c.args.self.now c.args.contributions.now) =
    widens_late same c.args.self.now c.take_all-2.new.self c.widen_all.new.self c.as_slice.result.now c.args.contributions.now c.in_ok-changed.ensures.after (c.as_slice.ensures ∙ c.in_ok-before.ensures) c.in_ok-widen_all.ensures
    in
    record {
      after = late_after c.args.round c.args.self.now c.widen_all.new.self c.args.contributions.now c.if-round-lt-JOINED_ROUNDS.false wide;
      noted = subst (λ rounds. Noted c.args.self.now c.widen_all.new.self rounds (rounds_of c.take_all-2.new.changes) c.args.next c.in_ok-changed.changed) c.begin.ensures.rounds
          (noted_wide same c.args.self.now c.take_all-2.new.self c.widen_all.new.self c.args.contributions.now (rounds_of c.begin.new.self)
          (rounds_of c.take_all-2.new.changes) c.args.next c.in_ok-changed.changed c.in_ok-changed.ensures.after wide c.in_ok-changed.ensures.noted);
      anew = changes_anew c.args.changes.now c.begin.new.self c.take_all-2.new.changes c.args.next c.begin.ensures.rounds c.in_ok-changed.ensures.more;
    }
