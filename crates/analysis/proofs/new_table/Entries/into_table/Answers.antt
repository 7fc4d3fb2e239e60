use Rattle.std.proofs.Common.{map, sym, ap, ◌∙◌, subst, IsTrue}
use Rattle.std.specs.Map.{values_of}
use Rattle.table_file.specs.Order.{rises, is_name_before}
use Rattle.table_keep.specs.Model.{entry_so, entry_of}
use Rattle.analysis.proofs.Storing.{emptied, found_in_list, list_rises}
use Rattle.analysis.proofs.new_table.Entries.into_table.Goals as goal

pub invariant_of-result : goal.invariant_of-result
invariant_of-result c =
    let all = emptied c.pop_first.result c.loop-entry.entries c.loop-entry.by_name.entries (values_of c.args.self.by_name.entries) c.in_default.is c.pop_first.ensures.variant c.loop-entry.invariant in
    record { entries_rise = subst (λ es. IsTrue (rises is_name_before (map (λ e. e.name) es))) (sym all) (list_rises c.args.self.by_name.entries c.args.self.keyed c.args.self.ordered) }

pub returns : goal.returns
returns c = λ h.
    let all = emptied c.pop_first.result c.loop-entry.entries c.loop-entry.by_name.entries (values_of c.args.self.by_name.entries) c.in_default.is c.pop_first.ensures.variant c.loop-entry.invariant in
    ap (λ es. entry_of (map entry_so es) h) all ∙ found_in_list c.args.self.by_name.entries h c.args.self.keyed
