use Rattle.std.proofs.Common.{◌∙◌, subst, arith}
use Rattle.dialyze_command.specs.steps.Puts.{IsPutOne}
use Rattle.dialyze_command.proofs.MakeExits.{put_fails}
use Rattle.dialyze_command.proofs.MakeFiles.{put_more, text_at, texts_many}
use Rattle.dialyze_command.proofs.making.put_all.Goals as goal

pub bounds-texts-number : goal.bounds-texts-number
bounds-texts-number g c = omega (arith, c.loop-number-test.true, texts_many c.args.count c.args.texts.now c.requires)

pub returns-in-Ok-Some-clause-put : goal.returns-in-Ok-Some-clause-put
returns-in-Ok-Some-clause-put g c =
    put_fails c.args.count c.loop-number.number (g.F.Shelf.replace_faults c.args.shelf.now) (g.F.Shelf.replace_faults c.loop-number.shelf) (g.F.Shelf.replace_faults c.put_one.new.shelf)
    (g.F.Shelf.held c.args.shelf.now) (g.F.Shelf.held c.loop-number.shelf) (g.F.Shelf.held c.put_one.new.shelf) c.as_slice-text.result.now c.in-Ok-Some.answer c.loop-number-test.true c.loop-number.invariant.put
    (c.as_slice-text.ensures ∙ c.index-texts-number.is ∙ text_at c.args.count c.loop-number.number c.args.texts.now _ c.requires c.loop-number-test.true) c.loop-number.invariant.counted
    (subst (IsPutOne c.loop-number.number c.as_slice-text.result.now (g.F.Shelf.held c.loop-number.shelf) (g.F.Shelf.held c.put_one.new.shelf) (g.F.Shelf.replace_faults c.loop-number.shelf) (g.F.Shelf.replace_faults c.put_one.new.shelf))
    c.in-Ok-Some.field-0-is c.in-Ok-Some.ensures.put)

pub loop-number-preserved : goal.loop-number-preserved
loop-number-preserved g c = record {
  put =
      put_more c.args.count c.loop-number.number (g.F.Shelf.held c.args.shelf.now) (g.F.Shelf.held c.loop-number.shelf) (g.F.Shelf.held c.put_one.new.shelf) c.as_slice-text.result.now c.loop-number.invariant.put
      (c.as_slice-text.ensures ∙ c.index-texts-number.is ∙ text_at c.args.count c.loop-number.number c.args.texts.now _ c.requires c.loop-number-test.true)
      (subst (IsPutOne c.loop-number.number c.as_slice-text.result.now (g.F.Shelf.held c.loop-number.shelf) (g.F.Shelf.held c.put_one.new.shelf) (g.F.Shelf.replace_faults c.loop-number.shelf) (g.F.Shelf.replace_faults c.put_one.new.shelf))
      c.in-Ok-None.field-0-is c.in-Ok-None.ensures.put);
  reads = c.in-Ok-None.ensures.reads ∙ c.loop-number.invariant.reads;
  no_read = c.in-Ok-None.ensures.no_read ∙ c.loop-number.invariant.no_read;
  counted = omega (arith, c.loop-number.invariant.counted, c.in-Ok-None.ensures.counted);
}
