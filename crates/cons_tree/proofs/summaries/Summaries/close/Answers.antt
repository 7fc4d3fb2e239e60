use Rattle.std.proofs.lemmas.Result.{on_ok_weaker}
use Rattle.cons_tree.proofs.CalleeLaws.{is_closed, closed_alone}
use Rattle.cons_tree.proofs.summaries.Summaries.close.Goals as goal

pub returns-clause-closed : goal.returns-clause-closed
returns-clause-closed c =
    on_ok_weaker c.add-2.result
    (λ put. is_closed c.args.self.now c.add-2.new.self c.args.home.now c.closed.result put c.closed.ensures) c.add-2.ensures.ok

pub returns-clause-others : goal.returns-clause-others
returns-clause-others c =
    on_ok_weaker c.add-2.result
    (λ put. closed_alone c.args.self.now c.add-2.new.self c.args.home.now c.closed.result put c.closed.ensures) c.add-2.ensures.ok
