use Rattle.std.proofs.Common.{[]}
use Rattle.std.specs.Prelude.{slice_index, slice_index_or}
use Rattle.analysis_crew.proofs.Loops.{numbers_more, item_there}
use Rattle.analysis_crew.proofs.lists.lists_at.Goals as goal

pub at-requires : goal.at-requires
at-requires c = c.requires c.loop-component.component-index 0 c.loop-component-test.true

pub loop-component-preserved : goal.loop-component-preserved
loop-component-preserved c =
    numbers_more (λ n. slice_index_or c.args.lists.now n []) c.args.components.now c.loop-component.component-index c.loop-component.found c.add.new.self c.in_ok-share.field-0
    c.loop-component-test.true (item_there c.args.lists.now [] c.at.result.now c.in_ok-share.field-0 (slice_index c.args.components.now c.loop-component.component-index) c.at.ensures c.in_ok-share.ensures)
    c.in_ok-add.ensures.ok _ c.loop-component.invariant
