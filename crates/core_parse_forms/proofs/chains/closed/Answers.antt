use Rattle.std.proofs.Common.{arith}
use Rattle.std.proofs.lemmas.Result.{IfOk-at_ok}
use Rattle.core_parse_forms.proofs.ChainExits.{chain_over, frames_fewer, chain_note_bad, chain_noted, chain_bare, chain_done}
use Rattle.core_parse_forms.proofs.chains.closed.Goals as goal

pub loop-frame-init : goal.loop-frame-init
loop-frame-init c = record {
  so_far = let r = IfOk-at_ok _ c.in-Ok.is c.requires.reads in chain_over _ _ _ _ _ _ _ _ _ _ r.steps_are r.no_step r.last_is _ c.new-done.ensures;
  labels = IfOk-at_ok _ c.in-Ok.is c.requires.labels;
  shorter = IfOk-at_ok _ c.in-Ok.is c.requires.shorter;
}

pub loop-frame-smaller-in-Ok-annotation : goal.loop-frame-smaller-in-Ok-annotation
loop-frame-smaller-in-Ok-annotation c = frames_fewer _ _ _ c.in-Some.ensures

pub loop-frame-preserved-in-Ok-annotation : goal.loop-frame-preserved-in-Ok-annotation
loop-frame-preserved-in-Ok-annotation c = record {
  so_far = chain_noted _ _ _ _ _ _ _ _ _ _ _ c.loop-frame.invariant.so_far c.in-Some.ensures c.if-noted.true _ _ _ _ c.in-Ok-annotation.ensures.ok c.noted_step.ensures c.if-not-added.ensures.added;
  labels = omega (arith, c.loop-frame.invariant.labels, c.in-Ok-annotation.ensures.lighter);
  shorter = omega (arith, c.loop-frame.invariant.shorter, c.in-Ok-annotation.ensures.shorter);
}

pub returns-in-Err-annotation-clause-err : goal.returns-in-Err-annotation-clause-err
returns-in-Err-annotation-clause-err c = chain_note_bad _ _ _ _ _ _ _ _ _ _ _ c.loop-frame.invariant.so_far c.in-Some.ensures c.if-noted.true _ c.in-Err-annotation.ensures.err

pub loop-frame-smaller : goal.loop-frame-smaller
loop-frame-smaller c = frames_fewer _ _ _ c.in-Some.ensures

pub loop-frame-preserved : goal.loop-frame-preserved
loop-frame-preserved c = record {
  so_far = chain_bare _ _ _ _ _ _ _ _ _ _ _ c.loop-frame.invariant.so_far c.in-Some.ensures c.if-noted.false _ c.if-not-pushed.ensures.added;
  labels = c.loop-frame.invariant.labels;
  shorter = c.loop-frame.invariant.shorter;
}

pub returns-in-Ok-chain-clause-ok : goal.returns-in-Ok-chain-clause-ok
returns-in-Ok-chain-clause-ok c = chain_done _ _ _ _ _ _ _ _ _ c.loop-frame.invariant.so_far c.in_default.ensures.0 _ _ _ c.requires.starts c.requires.sort _ _ c.reversed-steps.ensures _ c.mark.ensures c.in-Ok-chain.ensures
