use Rattle.std.proofs.Common.{◌∙◌}
use Rattle.module_flow_calls.proofs.TypeLists.{list_round}
use Rattle.module_flow_calls.proofs.types.list_type.Goals as goal

pub loop-last-preserved : goal.loop-last-preserved
loop-last-preserved c =
    list_round c.args.elements.now c.loop-last.rest.now c.in-Some.front.now c.in-Some.last.now c.args.tail c.loop-last.list c.replace.new.dest c.in-Some.ensures.cases.0
    (c.replace.ensures.after ∙ c.in_ok-longer.ensures.value) c.loop-last.invariant
