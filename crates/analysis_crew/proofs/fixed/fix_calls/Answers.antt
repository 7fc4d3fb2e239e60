use Rattle.cons_tree.specs.Callees.{found}
use Rattle.analysis_crew.proofs.Loops.{call_done}
use Rattle.analysis_crew.proofs.fixed.fix_calls.Goals as goal

pub loop-call-preserved : goal.loop-call-preserved
loop-call-preserved c =
    call_done (found c.args.first.now) (found c.loop-call.fixed) (found c.fix_name.new.fixed) _ c.args.calls.now c.loop-call.call-index c.call-item.result
    c.loop-call-test.true c.call-item.is c.in_ok-fix_name.ensures c.loop-call.invariant
