use Rattle.std.proofs.lemmas.Result.{on_ok_weaker}
use Rattle.module_flow_state.proofs.TakenBefore.{news_taken}
use Rattle.module_flow_state.proofs.states.FlowStates.take_round.Goals as goal

pub returns-clause-after : goal.returns-clause-after
returns-clause-after c =
    on_ok_weaker c.take_news.result
    (news_taken c.args.self.now c.take_news.new.self c.as_slice.result.now c.in_ok-news.news c.args.contributions.now c.args.round c.as_slice.ensures (c.in_ok-news.ensures c.args.round))
    c.take_news.ensures.after
