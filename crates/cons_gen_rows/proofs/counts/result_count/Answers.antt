use Rattle.cons_gen_rows.proofs.ResultCounts.{call_count}
use Rattle.cons_gen_rows.proofs.counts.result_count.Goals as goal

pub returns-in-Call : goal.returns-in-Call
returns-in-Call c =
    call_count c.args.ask c.args.expr.now c.in-Call.home c.in-Call.name c.get.result.now c.get-in-Call.result.now c.in-Call.args c.len.result c.call_gives.result c.call_results.result c.in-Call.is c.get.ensures c.get-in-Call.ensures
    c.len.ensures c.call_gives.ensures c.call_results.ensures
