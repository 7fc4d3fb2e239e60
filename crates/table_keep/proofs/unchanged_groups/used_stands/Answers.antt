use Rattle.std.proofs.Common.{sym, ap, ◌∙◌}
use Rattle.cons_tree.specs.Callees.{as_called}
use Rattle.cons_tree.specs.Codes.{callee_code}
use Rattle.cons_tree.specs.SameBy.{same_by}
use Rattle.table_keep.proofs.StandingEntries.{as_other}
use Rattle.table_keep.proofs.unchanged_groups.used_stands.Goals as goal

pub returns-in-Local : goal.returns-in-Local
returns-in-Local c = c.is_undefined.ensures ∙ ap (same_by callee_code c.args.used.now.callee) (sym (ap as_called (sym c.find-now.ensures.value ∙ c.in-Local.is)))

pub returns-in_default : goal.returns-in_default
returns-in_default c =
    c.eq.ensures ∙ ap (same_by callee_code c.args.used.now.callee) (sym (as_other c.find-now.result.now c.in_default.not-Local) ∙ ap as_called c.find-now.ensures.value)
