use Rattle.warn_list.proofs.LineTexts.{line_more}
use Rattle.warn_list.proofs.printing.lines.Goals as goal

pub loop-finding-preserved : goal.loop-finding-preserved
loop-finding-preserved c = line_more c.args.home.now c.deref-finding-items.result.now c.finding-item.result c.loop-finding.finding-index c.loop-finding.out c.append_line.new.out c.loop-finding.invariant c.finding-item.is
    c.loop-finding-test.true c.in_ok-append_line.ensures
