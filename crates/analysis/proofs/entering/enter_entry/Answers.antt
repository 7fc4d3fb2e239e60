use Rattle.std.proofs.Common.{◌∙◌, ap}
use Rattle.std.proofs.lemmas.Result.{on_ok_weaker}
use Rattle.cons_tree.specs.Callees.{found}
use Rattle.table_keep.specs.Model.{entry_so}
use Rattle.analysis.specs.steps.Entering.{with_exports}
use Rattle.analysis.proofs.Entered.{entry_entered}
use Rattle.analysis.proofs.entering.enter_entry.Goals as goal

pub returns : goal.returns
returns c =
    on_ok_weaker c.enter_exports.result
    (λ e.
    entry_entered (found c.args.known.now) (found c.close.new.self) (found c.enter_exports.new.known) (entry_so c.args.entry.now) c.in_ok-close.ensures.closed c.in_ok-close.ensures.others
    (e ∙ ap (with_exports (found c.close.new.self) c.args.entry.now.name) c.as_slice.ensures))
    c.enter_exports.ensures
