use Rattle.std.proofs.Common.{◌+◌, ◌<◌, length, sym, ◌∙◌, ap, arith}
use Rattle.std.proofs.lemmas.List.{length_push}
use Rattle.std.specs.Prelude.{slice_index}
use Rattle.components.proofs.Labelled.{ordinal_more, ordinal_length, labelled}
use Rattle.components.proofs.ordinals.first_ordinals.Goals as goal

pub loop-component-preserved : goal.loop-component-preserved
loop-component-preserved c =
    let low : slice_index c.args.component_of.now c.loop-component.component-index < length c.loop-component.table.items =
    omega (arith, c.requires.below c.loop-component.component-index c.loop-component-test.true, c.loop-component.invariant.2) in (
      ordinal_more c.args.component_of.now _ _ c.loop-component.ordinals _ _ _ c.loop-component.component-index _ c.loop-component.invariant.0 (sym c.loop-component.invariant.1) low c.ordinal_for-ordinal.ensures c.in_ok-add.ensures.ok,
      ap length c.in_ok-add.ensures.ok ∙ length_push c.loop-component.ordinals c.ordinal_for-ordinal.result ∙ ap (λ n. n + 1) c.loop-component.invariant.1,
      ordinal_length _ _ _ _ _ _ c.ordinal_for-ordinal.ensures ∙ c.loop-component.invariant.2,
    )

pub returns : goal.returns
returns c = labelled _ _ _ _ c.loop-component.invariant.0 (omega arith)
