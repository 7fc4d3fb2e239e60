use Rattle.std.proofs.Common.{arith}
use Rattle.da_shelf.proofs.Written.{written_further}
use Rattle.da_shelf.proofs.sink.give.Goals as goal

pub loop-done-preserved : goal.loop-done-preserved
loop-done-preserved g c = record {
  within = omega (arith, c.in_ok-done.ensures.most);
  written = written_further _ _ _ c.args.bytes.now c.loop-done.done c.in_ok-done.field-0 c.loop-done.invariant.written c.in_ok-done.ensures.front;
  counted = omega (arith, c.loop-done.invariant.counted, c.write.ensures.counted);
}
