use Rattle.std.proofs.Common.{◌+◌, take, refl, sym, ap, ◌∙◌, subst, arith}
use Rattle.std.proofs.lemmas.Result.{err_from_is_err_and}
use Rattle.da_shelf.specs.Reads.{IsTold}
use Rattle.table_keep.specs.Model.{sources_so}
use Rattle.analysis_sources.specs.Reading.{AreRead, bytes_of}
use Rattle.analysis_sources.specs.Words.{texts}
use Rattle.analysis_sources.proofs.Readings.{bytes_more, source_read}
use Rattle.analysis_sources.proofs.ToldReadings.{source_read_told, fails_at_told, memory_behind}
use Rattle.analysis_sources.proofs.reading.read_all.Goals as goal

pub returns-in_err-source-clause-told_fault : goal.returns-in_err-source-clause-told_fault
returns-in_err-source-clause-told_fault g c =
    let p = err_from_is_err_and c.from_residual.result c.from_residual.ensures.1 in
    rw (p.1, p.2)
    (fails_at_told g.F.Shelf.told c.args.shelf.now c.loop-at.shelf c.read_source.new.shelf c.args.files.now c.args.first c.loop-at.at _ _ (sources_so c.loop-at.sources) c.loop-at.before
    (g.F.Shelf.read_faults c.args.shelf.now) (g.F.Shelf.read_faults c.loop-at.shelf) (g.F.Shelf.read_faults c.read_source.new.shelf) c.in_err-source.field-0.0 c.loop-at.invariant.counted c.loop-at-test.true refl
    c.loop-at.invariant.told c.in_err-source.ensures.told_fault)

pub returns-in_err-add_source-clause-told_fault : goal.returns-in_err-add_source-clause-told_fault
returns-in_err-add_source-clause-told_fault g c =
    let p = err_from_is_err_and c.from_residual-in_err-add_source.result c.from_residual-in_err-add_source.ensures.1 in
    rw (p.1, p.2)
    (memory_behind g.F.Shelf.told c.args.shelf.now c.loop-at.shelf c.read_source.new.shelf c.args.files.now c.args.first c.loop-at.at _ _ _ _
    (g.F.Shelf.read_faults c.args.shelf.now) (g.F.Shelf.read_faults c.read_source.new.shelf) c.in_err-add_source.field-0.0 c.in_err-add_source.ensures.err c.loop-at-test.true refl
    c.loop-at.invariant.told c.in_ok-source.ensures.told)

pub loop-at-preserved : goal.loop-at-preserved
loop-at-preserved g c =
    let files = take (c.loop-at.at + 1) (texts c.args.files.now) in
    let after = c.loop-at.before + c.in_ok-source.source.length in
    record {
      read =
          subst (λ ss. AreRead (g.F.Shelf.held c.args.shelf.now) 0 files (sources_so ss) after) (sym c.in_ok-add_source.ensures.ok)
          (source_read (g.F.Shelf.held c.args.shelf.now) (g.F.Shelf.held c.loop-at.shelf) c.args.files.now c.loop-at.at _ _ c.loop-at.sources c.in_ok-source.source c.loop-at.before after c.loop-at-test.true refl
          c.loop-at.invariant.held c.loop-at.invariant.read c.in_ok-source.ensures.source refl);
      told =
          subst (λ ss. IsTold g.F.Shelf.told c.args.shelf.now c.read_source.new.shelf files (λ held. AreRead held 0 files (sources_so ss) after)) (sym c.in_ok-add_source.ensures.ok)
          (source_read_told g.F.Shelf.told c.args.shelf.now c.loop-at.shelf c.read_source.new.shelf c.args.files.now c.loop-at.at _ _ c.loop-at.sources c.in_ok-source.source c.loop-at.before after c.loop-at-test.true refl
          c.loop-at.invariant.told c.in_ok-source.ensures.told refl);
      lengths = ap bytes_of c.in_ok-add_source.ensures.ok ∙ bytes_more c.loop-at.sources c.in_ok-source.source ∙ ap (λ n. n + c.in_ok-source.source.length) c.loop-at.invariant.lengths;
      small = c.in_ok-source.ensures.bounded;
      held = c.in_ok-source.ensures.held ∙ c.loop-at.invariant.held;
      replaces = c.in_ok-source.ensures.replaces ∙ c.loop-at.invariant.replaces;
      counted = omega (arith, c.loop-at.invariant.counted, c.in_ok-source.ensures.counted);
    }
