use Rattle.std.proofs.Common.{arith}
use Rattle.core_parse.proofs.ModuleExits.{attributes_end, attributes_none, attributes_some, attributes_bad, attributes_ended, attributes_close, attributes_other, attributes_comma}
use Rattle.core_parse.proofs.modules.attributes.Goals as goal

pub returns-in-Err-clause-err : goal.returns-in-Err-clause-err
returns-in-Err-clause-err c = attributes_end _ _ c.in-Err.ensures.err

pub returns-then-fits-clause-ok : goal.returns-then-fits-clause-ok
returns-then-fits-clause-ok c = attributes_none _ _ _ _ _ c.in-Ok.ensures.ok _ c.fits.ensures c.if-fits.true

pub loop-rest-init : goal.loop-rest-init
loop-rest-init c = record { so_far = attributes_some _ _ _ _ _ c.in-Ok.ensures.ok _ c.fits.ensures c.if-fits.false; lighter = omega arith }

pub returns-in-Err-attribute-clause-err : goal.returns-in-Err-attribute-clause-err
returns-in-Err-attribute-clause-err c = attributes_bad _ _ c.loop-rest.invariant.so_far _ c.in-Err-attribute.ensures.err

pub returns-in-Err-next-clause-err : goal.returns-in-Err-next-clause-err
returns-in-Err-next-clause-err c = attributes_ended _ _ c.loop-rest.invariant.so_far _ c.in-Ok-attribute.ensures.ok _ c.in-Err-next.ensures.err

pub returns-then-fits-2-clause-ok : goal.returns-then-fits-2-clause-ok
returns-then-fits-2-clause-ok c = attributes_close _ _ c.loop-rest.invariant.so_far _ c.in-Ok-attribute.ensures.ok _ _ _ _ c.in-Ok-next.ensures.ok _ c.fits-in-loop-rest.ensures c.if-fits-2.true

pub returns-then-not-fits-clause-err : goal.returns-then-not-fits-clause-err
returns-then-not-fits-clause-err c = attributes_other _ _ c.loop-rest.invariant.so_far _ c.in-Ok-attribute.ensures.ok _ _ _ _ c.in-Ok-next.ensures.ok _ c.fits-in-loop-rest.ensures c.if-fits-2.false _ c.fits-in-loop-rest-2.ensures
    c.if-not-fits.true

pub loop-rest-preserved : goal.loop-rest-preserved
loop-rest-preserved c = record {
  so_far = attributes_comma _ _ c.loop-rest.invariant.so_far _ c.in-Ok-attribute.ensures.ok _ _ _ _ c.in-Ok-next.ensures.ok _ c.fits-in-loop-rest.ensures c.if-fits-2.false _ c.fits-in-loop-rest-2.ensures c.if-not-fits.false;
  lighter = omega (arith, c.loop-rest.invariant.lighter, c.in-Ok-attribute.ensures.lighter, c.in-Ok-next.ensures.lighter);
}
