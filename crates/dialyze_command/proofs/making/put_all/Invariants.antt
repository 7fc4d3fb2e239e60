use Rattle.std.proofs.Common.{◌≡◌, ◌≤◌}
use Rattle.dialyze_command.specs.Making.{with_first}
use Rattle.dialyze_command.proofs.making.put_all.Given as goal

abbrev pub invariant-loop-number : goal.invariant-loop-number
invariant-loop-number g l = record {
  put : g.F.Shelf.held l.shelf ≡ with_first l.count l.number (g.F.Shelf.held l.fn.shelf);
  reads : g.F.Shelf.read_faults l.shelf ≡ g.F.Shelf.read_faults l.fn.shelf;
  no_read : g.F.Shelf.reads l.shelf ≡ g.F.Shelf.reads l.fn.shelf;
  counted : g.F.Shelf.replace_faults l.fn.shelf ≤ g.F.Shelf.replace_faults l.shelf;
}
