use Rattle.std.proofs.Common.{[], ◌∷◌, ◌++◌, ◌+◌, drop, sym, ap, ◌∙◌, subst}
use Rattle.std.proofs.lemmas.List.{drop_all}
use Rattle.module_flow_state.proofs.Absorbing.{JoinFacts, join_facts}
use Rattle.module_flow_state.proofs.Skipping.{after}
use Rattle.module_flow_state.proofs.TakenBefore.{TakenSoFar, next_left, taken_at_end, taken_more, taken_without}
use Rattle.module_flow_state.proofs.states.FlowStates.news.Goals as goal
use Rattle.module_flow_state.proofs.states.FlowStates.news.Goals.{then-not-has_taken+in_ok-copy+in_ok-add, else-not-has_taken}

pub loop-contribution-init : goal.loop-contribution-init
loop-contribution-init c = λ k. ap (λ gs. after k c.args.self.now (gs ++ c.args.contributions.now)) c.new-news.ensures

pub returns : goal.returns
returns c =
    taken_at_end c.args.self.now c.loop-contribution.news (drop c.loop-contribution.contribution-index c.args.contributions.now) c.args.contributions.now
    (drop_all c.loop-contribution.contribution-index c.args.contributions.now c.loop-contribution-test.false) c.loop-contribution.invariant

pub loop-contribution-preserved : goal.loop-contribution-preserved
loop-contribution-preserved c =
    let F : JoinFacts = join_facts c.decision_laws.ensures.same c.type_facts.ensures in
    let st = c.args.self.now in
    let gs = c.args.contributions.now in
    let news = c.loop-contribution.news in
    let i = c.loop-contribution.contribution-index in
    let g = c.contribution-item.result in
    let next = next_left gs i g c.loop-contribution-test.true c.contribution-item.is in
    elim c.if-not-has_taken.branch [
      | then-not-has_taken+in_ok-copy+in_ok-add w ↦
          subst (λ ns. TakenSoFar st ns (drop (i + 1) gs) gs) (sym (w.news-is ∙ w.in_ok-add.ensures.ok ∙ ap (λ x. news ++ x ∷ []) w.in_ok-copy.ensures))
          (taken_more st news gs gs i g next c.loop-contribution.invariant)
      | else-not-has_taken w ↦
          subst (λ ns. TakenSoFar st ns (drop (i + 1) gs) gs) (sym w.news-is)
          (taken_without F st news gs gs i g next (c.has_taken.ensures w.if-not-has_taken.false) c.loop-contribution.invariant)
    ]
