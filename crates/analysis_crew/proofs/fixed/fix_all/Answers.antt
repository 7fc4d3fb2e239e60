use Rattle.std.proofs.Common.{map}
use Rattle.cons_tree.specs.Callees.{found}
use Rattle.comp_rounds.specs.Members.{function_of}
use Rattle.analysis_crew.proofs.Loops.{number_done}
use Rattle.analysis_crew.proofs.fixed.fix_all.Goals as goal

pub loop-number-preserved : goal.loop-number-preserved
loop-number-preserved c =
    number_done (found c.args.first.now) (map function_of c.args.members.now) c.args.outside.now (found c.loop-number.fixed) (found c.close_own.new.fixed) (found c.fix_outside.new.fixed) _
    c.args.numbers.now c.loop-number.number-index c.loop-number-test.true c.in_ok-close_own.ensures c.in_ok-fix_outside.ensures c.loop-number.invariant
