use Rattle.std.proofs.Common.{get_or, refl}
use Rattle.module_flow.proofs.NotedReaders.{noted_more}
use Rattle.module_flow.proofs.readers.Readers.note_all.Goals as goal

pub loop-label-preserved : goal.loop-label-preserved
loop-label-preserved c = record {
  kept = λ l q among. c.note.ensures.kept l q (c.loop-label.invariant.kept l q among);
  noted = noted_more c.loop-label.self.table c.note.new.self.table c.args.labels.now c.loop-label.label-index
      (get_or c.args.labels.now c.loop-label.label-index 0) c.args.position c.loop-label-test.true refl c.note.ensures.kept c.in_ok-note.ensures.noted c.loop-label.invariant.noted;
}
