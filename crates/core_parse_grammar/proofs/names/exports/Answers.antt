use Rattle.std.proofs.Common.{arith}
use Rattle.core_parse_grammar.proofs.NameExits.{exports_end, exports_none, exports_some, export_bad, export_end, export_close, export_other, export_comma}
use Rattle.core_parse_grammar.proofs.names.exports.Goals as goal

pub returns-in-Err-clause-err : goal.returns-in-Err-clause-err
returns-in-Err-clause-err c = exports_end _ _ c.in-Err.ensures.err

pub returns-then-fits-clause-ok : goal.returns-then-fits-clause-ok
returns-then-fits-clause-ok c = exports_none _ _ _ _ _ c.in-Ok.ensures.ok _ c.fits.ensures c.if-fits.true _ _ c.new-names.ensures c.new-places.ensures

pub loop-read-init : goal.loop-read-init
loop-read-init c = record { so_far = exports_some _ _ _ _ _ c.in-Ok.ensures.ok _ c.fits.ensures c.if-fits.false _ _ c.new-names.ensures c.new-places.ensures; shorter = omega arith; lighter = omega arith }

pub returns-in-Err-annotated_function_name-clause-err : goal.returns-in-Err-annotated_function_name-clause-err
returns-in-Err-annotated_function_name-clause-err c = export_bad _ _ _ _ c.loop-read.invariant.so_far _ c.in-Err-annotated_function_name.ensures.err

pub returns-in-Err-next-clause-err : goal.returns-in-Err-next-clause-err
returns-in-Err-next-clause-err c = export_end _ _ _ _ c.loop-read.invariant.so_far _ _ _ c.in-Ok-annotated_function_name.ensures.ok _ c.in-Err-next.ensures.err

pub returns-then-fits-2-clause-ok : goal.returns-then-fits-2-clause-ok
returns-then-fits-2-clause-ok c = export_close _ _ _ _ c.loop-read.invariant.so_far _ _ _ c.in-Ok-annotated_function_name.ensures.ok _ _ c.in-Ok-add.ensures.ok c.in-Ok-add-2.ensures.ok _ _ _ _ c.in-Ok-next.ensures.ok _
    c.fits-in-loop-read.ensures c.if-fits-2.true

pub returns-then-not-fits-clause-err : goal.returns-then-not-fits-clause-err
returns-then-not-fits-clause-err c = export_other _ _ _ _ c.loop-read.invariant.so_far _ _ _ c.in-Ok-annotated_function_name.ensures.ok _ _ c.in-Ok-add.ensures.ok c.in-Ok-add-2.ensures.ok _ _ _ _ c.in-Ok-next.ensures.ok _
    c.fits-in-loop-read.ensures c.if-fits-2.false _ c.fits-in-loop-read-2.ensures c.if-not-fits.true

pub loop-read-preserved : goal.loop-read-preserved
loop-read-preserved c = record {
  so_far = export_comma _ _ _ _ c.loop-read.invariant.so_far _ _ _ c.in-Ok-annotated_function_name.ensures.ok _ _ c.in-Ok-add.ensures.ok c.in-Ok-add-2.ensures.ok _ _ _ _ c.in-Ok-next.ensures.ok _ c.fits-in-loop-read.ensures
      c.if-fits-2.false _ c.fits-in-loop-read-2.ensures c.if-not-fits.false;
  shorter = omega (arith, c.loop-read.invariant.shorter, c.in-Ok-annotated_function_name.ensures.shorter, c.in-Ok-next.ensures.shorter);
  lighter = omega (arith, c.loop-read.invariant.lighter, c.in-Ok-annotated_function_name.ensures.lighter, c.in-Ok-next.ensures.lighter);
}
