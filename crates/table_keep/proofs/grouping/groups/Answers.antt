use Rattle.std.proofs.Common.{◌<◌, subst}
use Rattle.std.proofs.lemmas.Result.{IfOk-weaker}
use Rattle.table_keep.specs.Groups.{IsGroups, groups_in}
use Rattle.table_keep.specs.Kept.{calls_of, is_candidate}
use Rattle.table_keep.specs.Lists.{IsListOf, lists_of}
use Rattle.table_keep.specs.Model.{entries_so, sources_so}
use Rattle.table_keep.specs.steps.Members.{AreGroupsOf}
use Rattle.table_keep.proofs.GroupLaws.{groups_law, list_law}
use Rattle.table_keep.proofs.grouping.groups.Goals as goal

pub group_list-requires : goal.group_list-requires
group_list-requires c = λ n place has. subst (λ k. place < k) c.in_ok-graph.ensures.counted ((c.in_ok-comps.ensures.members n place).0 has).0

pub returns-clause-groups : goal.returns-clause-groups
returns-clause-groups c =
    let T = entries_so c.args.table.now in
    let M = sources_so c.args.sources.now in
    IfOk-weaker c.group_list.result (λ list. AreGroupsOf c.in_ok-found.found.entries c.in_ok-comps.comps list.groups c.in_ok-comps.comps.count) (λ list. IsGroups (is_candidate T M) (calls_of T M) (groups_in (lists_of list))) (λ list so.
    groups_law c.args.table.now c.args.sources.now c.in_ok-found.found.entries c.in_ok-found.ensures.rises c.in_ok-found.ensures.standing c.in_ok-comps.comps list so c.in_ok-graph.graph c.in_ok-graph.ensures c.in_ok-comps.ensures.nodes
    c.in_ok-comps.ensures.together
    c.in_ok-comps.ensures.downward c.in_ok-comps.ensures.members c.in_ok-comps.ensures.kept) c.group_list.ensures

pub returns-clause-made_for : goal.returns-clause-made_for
returns-clause-made_for c =
    IfOk-weaker c.group_list.result (λ list. AreGroupsOf c.in_ok-found.found.entries c.in_ok-comps.comps list.groups c.in_ok-comps.comps.count) (IsListOf c.args.table.now c.args.sources.now) (λ list so.
    list_law c.args.table.now c.args.sources.now c.in_ok-found.found.entries c.in_ok-found.ensures.rises c.in_ok-found.ensures.standing c.in_ok-comps.comps list so) c.group_list.ensures
