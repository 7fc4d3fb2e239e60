use Rattle.std.proofs.Common.{sym}
use Rattle.std.specs.BTreeMap as tree
use Rattle.type_kinds_sets.specs.Names.{name_cmp}
use Rattle.analysis.proofs.Storing.{keyed_put, stored_more}
use Rattle.analysis.proofs.new_table.Entries.add.Goals as goal

pub invariant_of-self : goal.invariant_of-self
invariant_of-self c = record {
  keyed =
      keyed_put c.insert.result c.args.self.now.by_name.entries c.insert.new.self.entries c.in_ok-name.name c.args.entry c.insert.ensures.entries c.insert.ensures.err c.args.self.now.keyed (sym c.in_ok-name.ensures);
  ordered = c.insert.ensures.ordered;
}

pub returns-in-Ok : goal.returns-in-Ok
returns-in-Ok c = λ h.
    stored_more (tree.get name_cmp c.args.self.now.by_name h) (tree.get name_cmp c.insert.new.self h) c.in_ok-name.name h c.args.entry c.in_ok-name.ensures (c.in-Ok.ensures.updates.0 h)
