use Rattle.std.proofs.Common.{◌≡◌, ◌∙◌, length, map, sym, arith}
use Rattle.cons_tree.specs.Callees.{found}
use Rattle.comp_rounds.specs.Members.{function_of}
use Rattle.analysis_crew.proofs.Works.{lists_long, callees_ascend, callees_long, work_made}
use Rattle.analysis_crew.proofs.parts.work_of.Goals as goal

pub all_parts-requires : goal.all_parts-requires
all_parts-requires c = record { lists = lists_long (map function_of c.args.members.now) c.args.comps.now c.in_ok-lists.lists c.in_ok-lists.ensures }

pub new-requires-clause-as_many : goal.new-requires-clause-as_many
new-requires-clause-as_many c = callees_long c.args.comps.now c.in_ok-callees.callees c.in_ok-callees.ensures.callees ∙ sym c.in_ok-parts.ensures.counted

pub new-requires-clause-few : goal.new-requires-clause-few
new-requires-clause-few c =
    let same : length c.in_ok-parts.parts ≡ c.args.comps.now.count = c.in_ok-parts.ensures.counted in
    let few = c.in_ok-callees.ensures.few in
    omega (arith, same, few)

pub new-requires-clause-ascends : goal.new-requires-clause-ascends
new-requires-clause-ascends c =
    callees_ascend c.args.comps.now c.requires c.in_ok-callees.callees c.in_ok-callees.ensures.callees (length c.in_ok-parts.parts) c.in_ok-parts.ensures.counted

pub returns : goal.returns
returns c =
    work_made (map function_of c.args.members.now) (found c.args.first.now) c.args.outside.now c.args.comps.now c.in_ok-lists.lists c.in_ok-lists.ensures c.in_ok-parts.parts c.in_ok-callees.callees
    c.in_ok-parts.ensures.counted c.in_ok-parts.ensures.made c.in_ok-callees.ensures.callees c.new.result c.new.ensures.parts c.new.ensures.callees
