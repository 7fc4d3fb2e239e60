use Rattle.cons_tree.specs.Callees.{found}
use Rattle.analysis.proofs.KeptReports.{rests_noted}
use Rattle.analysis.proofs.kept.rests_now.Goals as goal

pub returns : goal.returns
returns c =
    rests_noted (found c.args.known.now) c.args.source.now c.module-module.result.now c.module-module.ensures c.in_ok-called.called c.in_ok-called.ensures
    c.as_slice.result.now c.as_slice.ensures c.as_slice-2.result.now c.as_slice-2.ensures c.new-rests.result c.new-rests.ensures c.note_own.new.rests c.in_ok-note_own.ensures c.note_called.new.rests c.in_ok-note_called.ensures
