use Rattle.std.proofs.Common.{arith}
use Rattle.core_parse_grammar.specs.Grammar.{constant}
use Rattle.core_parse_grammar.proofs.AnnotationExits.{goes_lighter}
use Rattle.core_parse_grammar.proofs.NotedExits.{noted_end, bare_bad, noted_bad, note_bad}
use Rattle.core_parse.proofs.ModuleExits.{constant_encloses, bare_constant, noted_constant}
use Rattle.core_parse.proofs.modules.annotated_constant.Goals as goal

pub returns-in-Err-clause-err : goal.returns-in-Err-clause-err
returns-in-Err-clause-err c = noted_end (constant 1) constant_encloses _ _ c.in-Err.ensures.err

pub returns-in-Ok-constant-clause-ok : goal.returns-in-Ok-constant-clause-ok
returns-in-Ok-constant-clause-ok c = bare_constant _ _ _ _ _ c.in-Ok.ensures.ok _ c.fits.ensures c.if-not-fits.true _ _ c.in-Ok-constant.ensures.ok

pub returns-in-Ok-constant-clause-lighter : goal.returns-in-Ok-constant-clause-lighter
returns-in-Ok-constant-clause-lighter c = goes_lighter c.in-Ok-constant.ensures.ok.passes

pub returns-in-Err-constant-clause-err : goal.returns-in-Err-constant-clause-err
returns-in-Err-constant-clause-err c = bare_bad (constant 1) constant_encloses _ _ _ _ _ c.in-Ok.ensures.ok _ c.fits.ensures c.if-not-fits.true _ c.in-Err-constant.ensures.err

pub returns-in-Err-constant-2-clause-err : goal.returns-in-Err-constant-2-clause-err
returns-in-Err-constant-2-clause-err c = noted_bad (constant 1) constant_encloses _ _ _ _ _ c.in-Ok.ensures.ok _ c.fits.ensures c.if-not-fits.false _ c.in-Err-constant-2.ensures.err

pub returns-in-Ok-annotation-clause-ok : goal.returns-in-Ok-annotation-clause-ok
returns-in-Ok-annotation-clause-ok c = noted_constant _ _ _ _ _ c.in-Ok.ensures.ok _ c.fits.ensures c.if-not-fits.false _ _ c.in-Ok-constant-2.ensures.ok _ _ c.in-Ok-annotation.ensures.ok

pub returns-in-Ok-annotation-clause-lighter : goal.returns-in-Ok-annotation-clause-lighter
returns-in-Ok-annotation-clause-lighter c = omega (arith, c.in-Ok.ensures.lighter, goes_lighter c.in-Ok-constant-2.ensures.ok.passes, c.in-Ok-annotation.ensures.lighter)

pub returns-in-Err-annotation-clause-err : goal.returns-in-Err-annotation-clause-err
returns-in-Err-annotation-clause-err c = note_bad (constant 1) constant_encloses _ _ _ _ _ c.in-Ok.ensures.ok _ c.fits.ensures c.if-not-fits.false _ _ c.in-Ok-constant-2.ensures.ok.passes _ c.in-Err-annotation.ensures.err
