use Rattle.std.proofs.Common.{arith}
use Rattle.core_parse_grammar.proofs.VariableExits.{to_end, to_none, to_some, to_bad, to_ended, to_close, to_other, to_comma}
use Rattle.core_parse_grammar.proofs.variables.variables_to.Goals as goal

pub returns-in-Err-clause-err : goal.returns-in-Err-clause-err
returns-in-Err-clause-err c = to_end _ c.requires _ _ c.in-Err.ensures.err

pub returns-then-fits-clause-ok : goal.returns-then-fits-clause-ok
returns-then-fits-clause-ok c = to_none _ c.requires _ _ _ _ _ c.in-Ok.ensures.ok _ c.fits.ensures c.if-fits.true _ c.new-variables.ensures

pub loop-read-init : goal.loop-read-init
loop-read-init c = record { so_far = to_some _ c.requires _ _ _ _ _ c.in-Ok.ensures.ok _ c.fits.ensures c.if-fits.false _ c.new-variables.ensures; shorter = omega arith; lighter = omega arith }

pub returns-in-Err-variable-clause-err : goal.returns-in-Err-variable-clause-err
returns-in-Err-variable-clause-err c = to_bad _ c.requires _ _ _ c.loop-read.invariant.so_far _ c.in-Err-variable.ensures.err

pub returns-in-Err-next-clause-err : goal.returns-in-Err-next-clause-err
returns-in-Err-next-clause-err c = to_ended _ c.requires _ _ _ c.loop-read.invariant.so_far _ _ c.in-Ok-variable.ensures.ok _ c.in-Err-next.ensures.err

pub returns-then-fits-2-clause-ok : goal.returns-then-fits-2-clause-ok
returns-then-fits-2-clause-ok c = to_close _ c.requires _ _ _ c.loop-read.invariant.so_far _ _ c.in-Ok-variable.ensures.ok _ c.in-Ok-add.ensures.ok _ _ _ _ c.in-Ok-next.ensures.ok _ c.fits-in-loop-read.ensures c.if-fits-2.true

pub returns-then-not-fits-clause-err : goal.returns-then-not-fits-clause-err
returns-then-not-fits-clause-err c = to_other _ c.requires _ _ _ c.loop-read.invariant.so_far _ _ c.in-Ok-variable.ensures.ok _ c.in-Ok-add.ensures.ok _ _ _ _ c.in-Ok-next.ensures.ok _ c.fits-in-loop-read.ensures c.if-fits-2.false _
    c.fits-in-loop-read-2.ensures c.if-not-fits.true

pub loop-read-preserved : goal.loop-read-preserved
loop-read-preserved c = record {
  so_far = to_comma _ c.requires _ _ _ c.loop-read.invariant.so_far _ _ c.in-Ok-variable.ensures.ok _ c.in-Ok-add.ensures.ok _ _ _ _ c.in-Ok-next.ensures.ok _ c.fits-in-loop-read.ensures c.if-fits-2.false _ c.fits-in-loop-read-2.ensures
      c.if-not-fits.false;
  shorter = omega (arith, c.loop-read.invariant.shorter, c.in-Ok-variable.ensures.shorter, c.in-Ok-next.ensures.shorter);
  lighter = omega (arith, c.loop-read.invariant.lighter, c.in-Ok-variable.ensures.lighter, c.in-Ok-next.ensures.lighter);
}
