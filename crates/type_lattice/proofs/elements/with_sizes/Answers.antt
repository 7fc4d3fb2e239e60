use Rattle.std.proofs.Common.{refl}
use Rattle.std.proofs.lemmas.List.{drop_more, drop_all}
use Rattle.type_lattice_model.specs.Operations.{ops}
use Rattle.type_lattice_trees.proofs.Inclusions.{size_fits}
use Rattle.type_lattice.proofs.TypeModels.{with-append}
use Rattle.type_lattice.proofs.elements.with_sizes.Goals as goal

pub loop-size-init : goal.loop-size-init
unfolding ops
loop-size-init c = record { fits = c.plain_alone-t.ensures.fits 3; value = rw (c.plain_alone-t.ensures.value 3, c.none.ensures) refl }

pub with_body-requires-clause-body : goal.with_body-requires-clause-body
with_body-requires-clause-body c = (c.size-item.result.size, size_fits 3 c.args.sizes.now c.requires c.loop-size.size-index c.size-item.result c.loop-size-test.true c.size-item.is)

pub loop-size-preserved : goal.loop-size-preserved
loop-size-preserved c =
    let more = drop_more c.args.sizes.now c.loop-size.size-index c.size-item.result c.loop-size-test.true in
    record {
      fits = c.in_ok-t.ensures.fits;
      value = rw (c.in_ok-t.ensures.value, ← with-append) (rw (more, ← c.size-item.is) at c.loop-size.invariant.value);
    }

pub returns-clause-value : goal.returns-clause-value
returns-clause-value c = rw (drop_all c.loop-size.size-index c.args.sizes.now c.loop-size-test.false) at c.loop-size.invariant.value
