use Rattle.std.proofs.Common.{map, ap, ◌∙◌, sym, subst, IsTrue, arith}
use Rattle.table_file.specs.Order.{rises, is_name_before}
use Rattle.table_keep.specs.Model.{entry_so}
use Rattle.analysis.proofs.Storing.{kept_all, kept_rises, kept_so}
use Rattle.analysis.proofs.new_table.kept_table.Goals as goal

pub invariant_of-result : goal.invariant_of-result
invariant_of-result c =
    let t = c.loop-entry-test.false in
    let is = kept_all c.args.changed.now c.loop-entry.entries c.as_slice-entry-items.result.now c.args.table.now.entries c.loop-entry.entry-index (omega arith) c.loop-entry.invariant c.as_slice-entry-items.ensures in
    record { entries_rise = subst (λ es. IsTrue (rises is_name_before (map (λ e. e.name) es))) (sym is) (kept_rises c.args.changed.now c.args.table.now.entries c.args.table.now.entries_rise) }

pub returns : goal.returns
returns c =
    let t = c.loop-entry-test.false in
    let is = kept_all c.args.changed.now c.loop-entry.entries c.as_slice-entry-items.result.now c.args.table.now.entries c.loop-entry.entry-index (omega arith) c.loop-entry.invariant c.as_slice-entry-items.ensures in
    ap (map entry_so) is ∙ kept_so c.args.changed.now c.args.table.now.entries
