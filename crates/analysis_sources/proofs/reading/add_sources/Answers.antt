use Rattle.std.proofs.lemmas.Result.{err_from_is_err_and}
use Rattle.table_keep.specs.Model.{sources_so}
use Rattle.analysis_sources.proofs.TextsRead.{all_texts_read, text_fails}
use Rattle.analysis_sources.proofs.reading.add_sources.Goals as goal

pub returns-in_err-source-clause-fault : goal.returns-in_err-source-clause-fault
returns-in_err-source-clause-fault c =
    let p = err_from_is_err_and c.from_residual.result c.from_residual.ensures.1 in
    rw (p.1, p.2)
    (text_fails c.args.texts.now c.loop-at.at c.index-texts-at.result _ c.as_slice.result.now (sources_so c.loop-at.sources) c.loop-at.before c.in_err-source.field-0.0 c.loop-at-test.true c.index-texts-at.is
    c.as_slice.ensures c.loop-at.invariant.read c.in_err-source.ensures.fault)

pub returns-clause-sources : goal.returns-clause-sources
returns-clause-sources c = all_texts_read c.args.texts.now c.loop-at.at (sources_so c.loop-at.sources) c.loop-at.before c.loop-at-test.false c.loop-at.invariant.read
