use Rattle.std.proofs.Common.{map}
use Rattle.cons_tree.specs.Callees.{found}
use Rattle.comp_rounds.specs.Members.{function_of}
use Rattle.analysis_crew.proofs.Works.{part_added}
use Rattle.analysis_crew.proofs.parts.add_parts.Goals as goal

pub loop-component-preserved : goal.loop-component-preserved
loop-component-preserved c =
    part_added (map function_of c.args.members.now) (found c.args.first.now) c.args.outside.now c.args.lists.now c.args.comps.now c.loop-component.parts c.add.new.self c.in_ok-part.part
    c.loop-component.component c.in_ok-add.ensures.ok c.loop-component.invariant c.in_ok-part.ensures
