use Rattle.std.proofs.Common.{◌≡◌, ◌≤◌, length, subst, ap, ◌∙◌, Contains, arith}
use Rattle.cons_tree.specs.Callees.{found}
use Rattle.table_keep.specs.Groups.{groups_in, group_at}
use Rattle.table_keep.specs.Lists.{lists_of, member_names}
use Rattle.table_keep.specs.Model.{entries_so, sources_so}
use Rattle.analysis.specs.steps.Adding.{Adds}
use Rattle.analysis.specs.steps.Keyed.{entry_at}
use Rattle.analysis.specs.steps.Making.{AreNew}
use Rattle.analysis.proofs.Added.{added_more, all_added}
use Rattle.analysis.proofs.new_table.new_entries.Goals as goal

pub add_group-requires-clause-members : goal.add_group-requires-clause-members
add_group-requires-clause-members c = λ m has_m. c.in_ok-list.ensures.made_for c.members.result.now m c.members.ensures.among (subst (λ xs. Contains xs m) c.as_slice-members.ensures has_m)

pub loop-group-preserved : goal.loop-group-preserved
loop-group-preserved c =
    let K = entries_so c.in_ok-kept.kept in
    let M = sources_so c.args.sources.now in
    let known = found c.args.decided.now.known in
    let lines = c.args.decided.now.lines in
    let names : member_names c.as_slice-members.result.now ≡ group_at (lists_of c.in_ok-list.list) c.loop-group.group = ap member_names c.as_slice-members.ensures ∙ c.members.ensures.names in
    added_more K M known lines (groups_in (lists_of c.in_ok-list.list)) c.in_ok-list.ensures.groups c.loop-group.group (entry_at c.loop-group.entries.by_name) (entry_at c.add_group.new.entries.by_name) c.loop-group.invariant
    (subst (λ ns. Adds K M known lines ns ns (entry_at c.loop-group.entries.by_name) (entry_at c.add_group.new.entries.by_name)) names c.in_ok-add_group.ensures)

pub returns : goal.returns
returns c =
    let M = sources_so c.args.sources.now in
    let known = found c.args.decided.now.known in
    let lines = c.args.decided.now.lines in
    let t = c.loop-group-test.false in
    let high : length (lists_of c.in_ok-list.list) ≤ c.loop-group.group = omega arith in
    subst (λ K. AreNew K M known lines (entry_at c.loop-group.entries.by_name)) c.in_ok-kept.ensures
    (all_added (entries_so c.in_ok-kept.kept) M known lines (groups_in (lists_of c.in_ok-list.list)) c.in_ok-list.ensures.groups c.loop-group.group (entry_at c.loop-group.entries.by_name) high c.loop-group.invariant)
