use Rattle.std.proofs.Common.{◌≡◌, ◌≤◌, take}
use Rattle.dia_session_engine.specs.Held.{held_by}
use Rattle.dia_session_command.proofs.Carried.{AreCarried, requests}
use Rattle.dia_session_command.proofs.carrying.carry_all.Given as goal

abbrev pub invariant-loop-at : goal.invariant-loop-at
invariant-loop-at g l = record {
  carried : AreCarried (g.F.Shelf.held l.fn.shelf) (requests (take l.at l.lines)) (held_by l.engine) (g.K.Sink.written l.fn.out) (g.K.Sink.written l.out);
  held : g.F.Shelf.held l.shelf ≡ g.F.Shelf.held l.fn.shelf;
  reads : g.F.Shelf.read_faults l.fn.shelf ≤ g.F.Shelf.read_faults l.shelf;
  writes : g.K.Sink.faults l.fn.out ≤ g.K.Sink.faults l.out;
}
