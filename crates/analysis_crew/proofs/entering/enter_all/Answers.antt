use Rattle.std.proofs.Common.{◌<◌, ◌∙◌, map, ap, arith}
use Rattle.cons_tree.specs.Callees.{found}
use Rattle.comp_rounds.specs.Members.{function_of}
use Rattle.analysis_crew.proofs.Works.{output_takes, output_entered}
use Rattle.analysis_crew.proofs.entering.enter_all.Goals as goal

pub enter_component-requires : goal.enter_component-requires
enter_component-requires c =
    let low : c.loop-component.component < c.args.comps.now.count = omega (arith, c.loop-component-test.true, c.count-component-end.ensures) in
    output_takes (found c.args.known.now) (map function_of c.args.members.now) c.args.comps.now c.args.outputs.now c.requires c.loop-component.component low c.at.result.now c.at.ensures
    c.rounds_laws.ensures.take c.as_slice-numbers.result.now (c.as_slice-numbers.ensures ∙ c.members.ensures.members) c.as_slice.result.now
    (c.as_slice.ensures ∙ ap (λ o. o.summaries) c.get-output.ensures)

pub loop-component-preserved : goal.loop-component-preserved
loop-component-preserved c =
    let low : c.loop-component.component < c.args.comps.now.count = omega (arith, c.loop-component-test.true, c.count-component-end.ensures) in
    output_entered (found c.args.known.now) (map function_of c.args.members.now) c.args.comps.now c.args.outputs.now c.requires c.loop-component.component low c.at.result.now c.at.ensures
    (found c.loop-component.known) (found c.enter_component.new.known) c.as_slice-numbers.result.now (c.as_slice-numbers.ensures ∙ c.members.ensures.members) c.as_slice.result.now
    (c.as_slice.ensures ∙ ap (λ o. o.summaries) c.get-output.ensures) c.loop-component.invariant c.in_ok-enter_component.ensures
