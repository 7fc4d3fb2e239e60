use Rattle.std.proofs.Common.{map, ◌∙◌}
use Rattle.cons_tree.specs.Callees.{found}
use Rattle.comp_rounds.specs.Members.{function_of}
use Rattle.analysis_crew.proofs.Works.{all_within, part_made}
use Rattle.analysis_crew.proofs.parts.part_at.Goals as goal

pub lists_at-requires : goal.lists_at-requires
lists_at-requires c =
    all_within c.callees.result.now c.as_slice.result.now c.args.component c.args.comps.now.count _ c.callees.ensures.below c.requires.component c.requires.lists c.as_slice.ensures

pub returns : goal.returns
returns c =
    part_made (map function_of c.args.members.now) (found c.args.first.now) c.args.outside.now c.args.lists.now c.args.comps.now c.args.component _ c.as_slice-numbers.result.now c.as_slice.result.now
    (c.as_slice-numbers.ensures ∙ c.members.ensures.members) (c.as_slice.ensures ∙ c.callees.ensures.callees) c.in_ok-own.ensures c.in_ok-fixed.ensures c.in_ok-callees.ensures
