use Rattle.std.proofs.Common.{[], refl, sym, ◌∙◌, subst, arith}
use Rattle.dia_session_engine.specs.Held.{held_by}
use Rattle.dia_session_command.proofs.Carried.{AreCarried, all_carried, ends_at, line_carried, none_carried}
use Rattle.dia_session_command.proofs.carrying.carry_all.Goals as goal

pub loop-at-init : goal.loop-at-init
loop-at-init g c = record {
  carried = subst (λ v. AreCarried (g.F.Shelf.held c.args.shelf.now) [] (held_by v) (g.K.Sink.written c.args.out.now) (g.K.Sink.written c.args.out.now)) (sym c.requires.empty)
      (none_carried (g.F.Shelf.held c.args.shelf.now) (g.K.Sink.written c.args.out.now));
  held = refl;
  reads = omega arith;
  writes = omega arith;
}

pub loop-at-preserved : goal.loop-at-preserved
loop-at-preserved g c =
    let it = c.loop-at.invariant in
    record {
      carried = line_carried (g.F.Shelf.held c.args.shelf.now) (g.F.Shelf.held c.loop-at.shelf) c.args.lines.now c.loop-at.at _ (held_by c.loop-at.engine)
          (held_by c.carry_line.new.engine) (g.K.Sink.written c.args.out.now) (g.K.Sink.written c.loop-at.out) (g.K.Sink.written c.carry_line.new.out) c.loop-at-test.true it.held it.carried
          c.in-Ok.ensures.ok;
      held = c.in-Ok.ensures.held ∙ it.held;
      reads = omega (arith, it.reads, c.in-Ok.ensures.reads);
      writes = omega (arith, it.writes, c.in-Ok.ensures.writes);
    }

pub returns-in-Err-clause-carried : goal.returns-in-Err-clause-carried
returns-in-Err-clause-carried g c =
    let it = c.loop-at.invariant in
    ends_at (g.F.Shelf.held c.args.shelf.now) (g.F.Shelf.held c.loop-at.shelf) c.args.lines.now c.loop-at.at _ (held_by c.loop-at.engine) (g.F.Shelf.read_faults c.args.shelf.now)
    (g.F.Shelf.read_faults c.loop-at.shelf) (g.F.Shelf.read_faults c.carry_line.new.shelf) (g.K.Sink.faults c.args.out.now) (g.K.Sink.faults c.loop-at.out) (g.K.Sink.faults c.carry_line.new.out)
    (g.K.Sink.written c.args.out.now) (g.K.Sink.written c.loop-at.out) (g.K.Sink.written c.carry_line.new.out) c.in-Err.fault c.status_at.result c.loop-at-test.true it.held it.carried it.reads
    it.writes c.in-Err.ensures.fault c.status_at.ensures

pub returns-clause-carried : goal.returns-clause-carried
returns-clause-carried g c =
    let it = c.loop-at.invariant in
    all_carried (g.F.Shelf.held c.args.shelf.now) c.args.lines.now c.loop-at.at (held_by c.loop-at.engine) (g.F.Shelf.read_faults c.args.shelf.now) (g.F.Shelf.read_faults c.loop-at.shelf)
    (g.K.Sink.faults c.args.out.now) (g.K.Sink.faults c.loop-at.out) (g.K.Sink.written c.args.out.now) (g.K.Sink.written c.loop-at.out) _ c.loop-at-test.false it.carried refl
